-- What events cost, each counted once by its kind: this repository's own.
use Rattle.std.specs.Prelude.{ℕ, ◌+◌, Option, Some, None}
use Rattle.shm_model.specs.declared.event.Event.{Event}
use Rattle.shm_model.specs.declared.event.Event.TheVariants as event
use Rattle.shm_model.specs.Entry as note
use Rattle.shm_model.specs.Message.{Envelope, Message, Of}
use Rattle.shm_model.specs.World.{World, live}
use Rattle.shm_stepped.specs.declared.access_cost.Cost.{Cost}
use Rattle.shm_stepped.specs.declared.event_kind.EventKind.{EventKind}
use Rattle.shm_stepped.specs.declared.event_kind.EventKind.TheVariants as kind

abbrev pub kind_of_note : note.Note → EventKind
kind_of_note (note.Ask _ _) = kind.Ask
kind_of_note (note.Clear _) = kind.Clear
kind_of_note (note.Cleared _) = kind.Cleared
kind_of_note (note.Hand _ _ _) = kind.Hand
kind_of_note (note.Page _ _ _) = kind.Page
kind_of_note (note.Confirm _) = kind.Confirm

abbrev pub kind_of_message : Message → EventKind
kind_of_message (Of _ note) = kind_of_note note
kind_of_message _ = kind.Other

abbrev pub kind_of_delivery : Option Envelope → EventKind
kind_of_delivery None = kind.Other
kind_of_delivery (Some e) = kind_of_message e.message

-- a delivery by the message of its envelope, a tick, or the access
abbrev pub kind_of : World → Event → EventKind
kind_of w (event.Deliver k) = kind_of_delivery (live w k)
kind_of w (event.Tick _) = kind.Tick
kind_of w _ = kind.Access

abbrev pub nothing : Cost
nothing = record { accesses = 0; ticks = 0; asks = 0; clears = 0; cleareds = 0; hands = 0; pages = 0; confirms = 0; others = 0; events = 0 }

-- one more of this kind
abbrev pub counted : EventKind → Cost → Cost
counted kind.Access c = record c { accesses = c.accesses + 1; events = c.events + 1 }
counted kind.Tick c = record c { ticks = c.ticks + 1; events = c.events + 1 }
counted kind.Ask c = record c { asks = c.asks + 1; events = c.events + 1 }
counted kind.Clear c = record c { clears = c.clears + 1; events = c.events + 1 }
counted kind.Cleared c = record c { cleareds = c.cleareds + 1; events = c.events + 1 }
counted kind.Hand c = record c { hands = c.hands + 1; events = c.events + 1 }
counted kind.Page c = record c { pages = c.pages + 1; events = c.events + 1 }
counted kind.Confirm c = record c { confirms = c.confirms + 1; events = c.events + 1 }
counted kind.Other c = record c { others = c.others + 1; events = c.events + 1 }

-- those of all kinds
abbrev pub sum_of : Cost → ℕ
sum_of c = c.accesses + c.ticks + c.asks + c.clears + c.cleareds + c.hands + c.pages + c.confirms + c.others
