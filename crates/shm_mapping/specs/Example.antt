-- Worked examples of two hosts and one page, computed by the definitions: what is asked, what is answered, and the events that it is in the
-- world without mappings and for the sites alone.
use Rattle.std.specs.Prelude.{◌≡◌, List, [], ◌∷◌, Some, None, map, reverse}
use Rattle.shm_place.specs.declared.page_id.PageId.{PageId}
use Rattle.shm_model.specs.declared.answer.Answer.{Answer}
use Rattle.shm_model.specs.declared.answer.Answer.TheVariants.{Byte, Fault, Stored, Took}
use Rattle.shm_model.specs.declared.event.Event.{Event}
use Rattle.shm_model.specs.declared.event.Event.TheVariants.{Deliver, Load, Store}
use Rattle.shm_model.specs.declared.request_kind.Kind.TheVariants.{Read, Write}
use Rattle.shm_model.specs.World.{Done, Preset}
use Rattle.shm_mapping.specs.Hosts.{GiveUp, Happens, HostEvent, ProcessorLoad, Map, ProcessorStore}
use Rattle.shm_mapping.specs.Programs.{hosts, own, plain}

abbrev pub first_page : PageId
first_page = record { seg = 0; index = 0 }

-- A processor stores, another host asks for the page, the Hand is held until the mapping is turned into one to read, and the other host's
-- processor loads what was stored last. The numbers are site, attachment, offset and byte.
abbrev pub held_hand : List HostEvent
held_hand =
    ProcessorStore 0 0 0 5
    ∷ Map 0 0 first_page Write
    ∷ ProcessorStore 0 0 0 7
    ∷ ProcessorLoad 0 0 0
    ∷ Happens (Load 1 0 0)
    ∷ Happens (Deliver 0)
    ∷ Happens (Deliver 1)
    ∷ ProcessorStore 0 0 0 9
    ∷ GiveUp 0 0 first_page (Some Read)
    ∷ Happens (Deliver 1)
    ∷ ProcessorStore 0 0 0 11
    ∷ ProcessorLoad 0 0 0
    ∷ Happens (Deliver 2)
    ∷ Map 1 0 first_page Read
    ∷ ProcessorLoad 1 0 0
    ∷ []

-- the answers in their order: the first store and the last find nothing mapped to write, and the first Deliver 1 makes no step
abbrev pub held_hand_answers : List Answer
held_hand_answers = Stored ∷ Byte 7 ∷ Fault ∷ Took ∷ Stored ∷ Took ∷ Byte 9 ∷ Took ∷ Byte 9 ∷ []

abbrev pub held_hand_plain : List Event
held_hand_plain =
    Store 0 0 0 7
    ∷ Load 0 0 0
    ∷ Load 1 0 0
    ∷ Deliver 0
    ∷ Store 0 0 0 9
    ∷ Deliver 1
    ∷ Load 0 0 0
    ∷ Deliver 2
    ∷ Load 1 0 0
    ∷ []

-- for the sites alone there is one store, where the mapping is turned
abbrev pub held_hand_own : List Event
held_hand_own = Load 1 0 0 ∷ Deliver 0 ∷ Store 0 0 0 9 ∷ Deliver 1 ∷ Deliver 2 ∷ []

-- A Clear is held while the page is mapped to read; and the site's own store and load are held where the page is mapped to write.
abbrev pub held_clear : List HostEvent
held_clear =
    Happens (Load 1 0 0)
    ∷ Happens (Deliver 0)
    ∷ Happens (Deliver 1)
    ∷ Happens (Deliver 2)
    ∷ Map 1 0 first_page Read
    ∷ Happens (Deliver 3)
    ∷ Happens (Store 0 0 0 7)
    ∷ Happens (Deliver 4)
    ∷ Happens (Deliver 5)
    ∷ ProcessorLoad 1 0 0
    ∷ GiveUp 1 0 first_page None
    ∷ ProcessorLoad 1 0 0
    ∷ Happens (Deliver 5)
    ∷ Happens (Deliver 6)
    ∷ Happens (Deliver 7)
    ∷ Map 0 0 first_page Write
    ∷ Happens (Store 0 0 0 8)
    ∷ ProcessorStore 0 0 0 7
    ∷ Happens (Load 0 0 0)
    ∷ ProcessorLoad 0 0 0
    ∷ []

abbrev pub held_clear_answers : List Answer
held_clear_answers = Fault ∷ Took ∷ Took ∷ Took ∷ Took ∷ Fault ∷ Took ∷ Byte 0 ∷ Took ∷ Took ∷ Took ∷ Stored ∷ Byte 7 ∷ []

abbrev pub held_clear_plain : List Event
held_clear_plain =
    Load 1 0 0
    ∷ Deliver 0
    ∷ Deliver 1
    ∷ Deliver 2
    ∷ Deliver 3
    ∷ Store 0 0 0 7
    ∷ Deliver 4
    ∷ Load 1 0 0
    ∷ Deliver 5
    ∷ Deliver 6
    ∷ Deliver 7
    ∷ Store 0 0 0 7
    ∷ Load 0 0 0
    ∷ []

abbrev pub held_clear_own : List Event
held_clear_own =
    Load 1 0 0
    ∷ Deliver 0
    ∷ Deliver 1
    ∷ Deliver 2
    ∷ Deliver 3
    ∷ Store 0 0 0 7
    ∷ Deliver 4
    ∷ Deliver 5
    ∷ Deliver 6
    ∷ Deliver 7
    ∷ []

-- the answers in their order
abbrev pub answers_of : List Done → List Answer
answers_of account = reverse (map (λ d. d.answer) account)

abbrev pub PlaysSo : List HostEvent → List Answer → List Event → List Event → Type 0
PlaysSo events answers as_plain alone =
    (answers_of (hosts (Preset 2 1) events).account ≡ answers) × (plain (Preset 2 1) events ≡ as_plain) × (own (Preset 2 1) events ≡ alone)
