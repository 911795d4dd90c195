-- What is recorded of a node's steps, each as its clock and what made it; and the node that they lead to again. An entry may record many
-- steps, one after another.
use Rattle.std.specs.Prelude.{ℕ, ◌+◌, List, [], ◌∷◌, ◌++◌, codes, Option, Some, None, if◌then◌else◌, option_and_then}
use Rattle.std.specs.Fmt.{decimal}
use Rattle.std.specs.List.{flat_map}
use Rattle.shm_lines.specs.Words.{IsWide}
use Rattle.shm_wire.specs.Line.{read_line}
use Rattle.shm_process.specs.Cause.{Cause, IsCause, cause_text}
use Rattle.shm_process.specs.Causes.{causes_of}
use Rattle.shm_process.specs.Node.{Node, Said, is_late}
use Rattle.shm_process.specs.Waiting.{after_again, after_read, after_restart, passed_over, replayed, said_again, said_read, said_restart}

-- a line that is taken, one that is too long to be, an ask that waits and is made again, and a restart, as long as there is a clock for it
pub data Event : Type 0 where
  Line : List ℕ → Event
  TooLong : Event
  Again : Event
  Restarted : Event

abbrev pub after_event : Node → Event → Node
after_event node (Line bytes) = after_read node (read_line bytes)
after_event node TooLong = passed_over node
after_event node Again = after_again node
after_event node Restarted = if is_late node 0 then node else after_restart node

abbrev pub said_at : Node → Event → Option Said
said_at node (Line bytes) = said_read node (read_line bytes)
said_at node TooLong = None
said_at node Again = said_again node
said_at node Restarted = if is_late node 0 then None else Some (said_restart node)

pub record Entry : Type 0 where
  pub clock : ℕ
  pub cause : Cause

-- those that have a line
abbrev pub IsEntry : Entry → Type 0
IsEntry entry = IsWide entry.clock × IsCause entry.cause

-- the line that records it
abbrev pub entry_line : Entry → List ℕ
entry_line entry = codes "step " ++ (decimal entry.clock ++ 32 ∷ cause_text entry.cause)

abbrev pub entry_of : Said → Entry
entry_of said = record { clock = said.clock; cause = said.cause }

-- these steps, each under the clock after the one before
unfoldable pub entries_from : ℕ → List Cause → List Entry
entries_from clock [] = []
entries_from clock (cause ∷ causes) = record { clock = clock; cause = cause } ∷ entries_from (clock + 1) causes

-- the steps that an entry records, one after another, each as an entry of its own
abbrev pub steps_of : Entry → List Entry
steps_of entry = entries_from entry.clock (causes_of entry.cause)

abbrev pub all_steps : List Entry → List Entry
all_steps entries = flat_map steps_of entries

-- each step is recorded
abbrev pub recorded : Option Said → List Entry → List Entry
recorded None entries = entries
recorded (Some said) entries = entry_of said ∷ entries

-- the text of these entries, each on a line of its own
abbrev pub entries_text : List Entry → List ℕ
entries_text [] = []
entries_text (entry ∷ entries) = entry_line entry ++ 10 ∷ entries_text entries

abbrev pub entries_of : Node → List Event → List Entry
entries_of node [] = []
entries_of node (event ∷ events) = recorded (said_at node event) (entries_of (after_event node event) events)

abbrev pub after_events : Node → List Event → Node
after_events node [] = node
after_events node (event ∷ events) = after_events (after_event node event) events

-- the steps that were recorded so, one after another
abbrev pub replayed_all : Node → List Entry → Option Node
replayed_all node [] = Some node
replayed_all node (entry ∷ entries) = option_and_then (λ next. replayed_all next entries) (replayed node entry.clock entry.cause)

-- the steps that an entry records, made again
abbrev pub replayed_entry : Node → Entry → Option Node
replayed_entry node entry = replayed_all node (steps_of entry)

-- the node less the asks that wait, and less its counts of lines
abbrev pub kept : Node → Node
kept node = record node { waiting = []; taken = 0; passed = 0 }
