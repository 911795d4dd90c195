-- What each step of an entry of a journal hands to its site's box, and the box after all of them.
use Rattle.std.specs.Prelude.{◌≡◌, ℕ, Bool, true, false, List, [], ◌∷◌, Option, Some, None, ◌==◌, if◌then◌else◌, option_and_then, option_map}
use Rattle.shm_model.specs.Log.{Stamp}
use Rattle.shm_model.specs.Message.{Input, Deliver, Restart}
use Rattle.shm_process.specs.Cause.{Cause, OfLine, OfRestart}
use Rattle.shm_process.specs.Node.{input_asked, unmap_input}
use Rattle.shm_process.specs.Recorded.{Entry, steps_of}
use Rattle.shm_logs.specs.Boxes.Box.{Box, after, refusal}
use Rattle.shm_logs.specs.declared.site_boxes.box_error.BoxFault.{BoxFault}
use Rattle.shm_wire.specs.Asks.{Ask}
use Rattle.shm_wire.specs.Line as stream
use Rattle.shm_wire.specs.Sent.{Sent}
use Rattle.shm_wire.specs.Unmaps.{UnmapAsk}

-- ---- what is handed over

-- an input, and where it was sent, if it is an envelope
pub record Handed : Type 0 where
  pub input : Input
  pub source : Stamp

-- what is no envelope was sent nowhere
abbrev pub unsent : Input → Handed
unsent input = record { input = input; source = record { at = 0; index = 0; place = 0 } }

abbrev pub delivered : Sent → Handed
delivered sent = record { input = Deliver sent.envelope; source = sent.source }

-- what a caller asks of this site, unless it is no step
abbrev pub asked_here : ℕ → Ask → Option Handed
asked_here me ask = if (ask.site == me) then option_map unsent (input_asked ask.asked) else None

-- a page that is given up
abbrev pub unmapped_here : ℕ → UnmapAsk → Option Handed
unmapped_here me ask = if (ask.site == me) then option_map unsent (unmap_input ask) else None

-- what made a step hands to this site; a block makes none itself
abbrev pub handed : ℕ → Cause → Option Handed
handed me (OfLine (stream.Envelope sent)) = Some (delivered sent)
handed me (OfLine (stream.Ask ask)) = asked_here me ask
handed me (OfLine (stream.Write write)) = None
handed me (OfLine (stream.Unmap unmap)) = unmapped_here me unmap
handed me OfRestart = Some (unsent Restart)

-- ---- the box

abbrev pub at_clock : ℕ → Box → Option Box
at_clock clock box = if (box.clock == clock) then Some box else None

abbrev pub unless_refused : Option BoxFault → Box → Option Box
unless_refused (Some fault) box = None
unless_refused None box = Some box

-- the box after the step that this made under this clock, if it can be its next
abbrev pub box_handed : ℕ → Box → Option Handed → Option Box
box_handed clock box None = None
box_handed clock box (Some h) = option_and_then (at_clock clock) (unless_refused (refusal box h.input h.source) (after box h.input h.source))

-- the box after this step, if it can be its next
abbrev pub box_after : Box → Entry → Option Box
box_after box step = box_handed step.clock box (handed box.me step.cause)

-- the box after these steps, one after another
abbrev pub box_after_all : Box → List Entry → Option Box
box_after_all box [] = Some box
box_after_all box (step ∷ steps) = option_and_then (λ next. box_after_all next steps) (box_after box step)

-- the box after the steps that an entry records
abbrev pub box_after_entry : Box → Entry → Option Box
box_after_entry box entry = box_after_all box (steps_of entry)

-- the box after the steps that these entries record, one entry after another
abbrev pub box_after_entries : Box → List Entry → Option Box
box_after_entries box [] = Some box
box_after_entries box (entry ∷ entries) = option_and_then (λ next. box_after_entries next entries) (box_after_entry box entry)

-- they were taken, and led to this box; or they can't be
abbrev pub IsEntered : Bool → Option Box → Box → Type 0
IsEntered true after now = after ≡ Some now
IsEntered false after now = after ≡ None
