-- The asks of a node that wait for their right, and the steps that it makes: of a line, of an ask that waits, at a restart, and again from
-- the lines that were recorded. What such an ask is, and becomes, stands in WaitingAsks.antt.
use Rattle.std.specs.Prelude.{ℕ, ◌+◌, ◌*◌, Bool, false, ◌&&◌, ◌||◌, not, List, [], ◌∷◌, ◌++◌, Option, Some, None, ◌==◌, if◌then◌else◌, is_some, length, nat_lt, option_map, option_and_then}
use Rattle.std.specs.Option.{option_map_or}
use Rattle.std.specs.List.{position_from}
use Rattle.shm_place.specs.Limits.{page_bytes}
use Rattle.shm_model.specs.Basics.{greatest}
use Rattle.shm_model.specs.declared.asked_access.Asked.{Asked}
use Rattle.shm_model.specs.Message.{Restart}
use Rattle.shm_model.specs.Receipt.{access_of}
use Rattle.shm_wire.specs.Asks.{Ask}
use Rattle.shm_wire.specs.Line as stream
use Rattle.shm_wire.specs.declared.caller_ask.Question.{Question}
use Rattle.shm_wire.specs.declared.caller_ask.Question.TheVariants as question
use Rattle.shm_wire.specs.Writes.{WriteAsk}
use Rattle.shm_process.specs.Access.{access_ask, is_open, is_waiting}
use Rattle.shm_process.specs.Cause.{Cause, OfLine, OfRestart}
use Rattle.shm_process.specs.Mapped.{passing}
use Rattle.shm_process.specs.WaitingAsks.{Access, Reads, Writes, WaitingAsk, all_bytes, ask_in, goes_on, next_access, tag_of, waiting_after}
use Rattle.shm_process.specs.Node.{Node, Heard, Said, answer_to, heard, is_late, next_clock, says, stepped, under_tag}

-- so many asks wait at most; a further access is answered at once, as one that is only tried, and a further block isn't tried
abbrev pub most_waiting : ℕ
most_waiting = 64

abbrev pub has_room : Node → Bool
has_room node = nat_lt (length node.waiting) most_waiting

-- lines are counted up to the greatest number
abbrev pub counted : ℕ → ℕ
counted lines = if lines == greatest then lines else lines + 1

-- ---- a line

abbrev pub joins : Node → Heard → Bool
joins node heard = (is_some heard.waits && has_room node) && is_open (answer_to node heard)

-- those that wait, and this ask behind them, if it joins them
abbrev pub with_ask : List WaitingAsk → Option WaitingAsk → Bool → List WaitingAsk
with_ask waiting None joins = waiting
with_ask waiting (Some ask) joins = if joins then waiting ++ ask ∷ [] else waiting

abbrev pub taken : Node → Heard → Node
taken node heard = record (stepped node heard) {
  taken = counted node.taken;
  waiting = with_ask node.waiting heard.waits (joins node heard);
}

-- a block of which nothing is loaded yet
abbrev pub block_in : List ℕ → Question → Option WaitingAsk
block_in tag (question.Read at offset count) = Some (Reads (record { tag = tag; at = at; offset = offset; count = count; bytes = [] }))
block_in tag _ = None

-- the block that a caller asks of this site, while there is a clock for a step
abbrev pub block_here : Node → Ask → Option WaitingAsk
block_here node ask = if (ask.site == node.me) then (if is_late node 0 then None else block_in ask.tag ask.asked) else None

-- a block of which nothing is stored yet
abbrev pub unstored : WriteAsk → WaitingAsk
unstored write = Writes (record { tag = write.tag; at = write.at; offset = write.offset; bytes = write.bytes; stored = 0 })

abbrev pub write_here : Node → WriteAsk → Option WaitingAsk
write_here node write = if (write.site == node.me) then (if is_late node 0 then None else Some (unstored write)) else None

-- the block that a line brings, if it finds room to wait
abbrev pub joining : Node → stream.Line → Option WaitingAsk
joining node (stream.Envelope sent) = None
joining node (stream.Ask ask) = if has_room node then block_here node ask else None
joining node (stream.Write write) = if has_room node then write_here node write else None
joining node (stream.Unmap unmap) = None

abbrev pub joined : Node → WaitingAsk → Node
joined node block = record node { taken = counted node.taken; waiting = node.waiting ++ block ∷ [] }

-- a line that is passed over
abbrev pub passed_over : Node → Node
passed_over node = record node { passed = counted node.passed }

-- a line that makes no step
abbrev pub after_unheard : Node → Option WaitingAsk → Node
after_unheard node None = passed_over node
after_unheard node (Some block) = joined node block

abbrev pub after_heard : Node → Option WaitingAsk → Option Heard → Node
after_heard node block None = after_unheard node block
after_heard node block (Some heard) = taken node heard

-- the node after a line, and what it says for it
abbrev pub after : Node → stream.Line → Node
after node line = after_heard node (joining node line) (heard node line)

abbrev pub said : Node → stream.Line → Option Said
said node line = option_map (λ h. says node (OfLine line) h (joins node h)) (heard node line)

-- what was read may be no line of the stream: it is passed over
abbrev pub after_read : Node → Option stream.Line → Node
after_read node read = option_map_or (after node) read (passed_over node)

abbrev pub said_read : Node → Option stream.Line → Option Said
said_read node read = option_and_then (said node) read

-- ---- an ask that waits

-- so many steps are made at most of the asks that wait, after one line: for each ask a page's bytes, and one step more that asks for a
-- right. They are always enough (`laws::no_ask_is_left_that_can_be_made`)
abbrev pub most_steps : ℕ
most_steps = most_waiting * (page_bytes + 1)

-- what it hands to the site next: the access, as a line of its own would
abbrev pub access_heard : List ℕ → Asked → Heard
access_heard tag asked = under_tag tag (Some (Access tag asked)) (access_of asked)

abbrev pub next_heard : WaitingAsk → Heard
next_heard ask = access_heard (tag_of ask) (next_access ask)

-- that line
abbrev pub next_line : ℕ → WaitingAsk → stream.Line
next_line me ask = stream.Ask (access_ask me (tag_of ask) (next_access ask))

-- its next access would pass by what is mapped
abbrev pub is_held : Node → WaitingAsk → Bool
is_held node ask = is_some (passing node.mapped node.site (next_access ask))

-- it doesn't only wait for what was asked already, nor for what is mapped to be given up
abbrev pub can_be_made : Node → WaitingAsk → Bool
can_be_made node ask = not (is_held node ask || is_waiting (answer_to node (next_heard ask)))

-- the oldest ask that can be made, while there is a clock for a step
abbrev pub ready : Node → Option ℕ
ready node = if is_late node 0 then None else position_from (can_be_made node) 0 node.waiting

-- it waits on where its right has to be asked for anew, and where it is a block of which more is to be loaded or stored
abbrev pub again_at : Node → ℕ → Node
again_at node at =
    let heard = next_heard (ask_in node.waiting at) in
    record (stepped node heard) { waiting = waiting_after node.waiting at (answer_to node heard) }

abbrev pub after_again : Node → Node
after_again node = option_map_or (again_at node) (ready node) node

abbrev pub says_at : Node → ℕ → Said
says_at node at =
    let ask = ask_in node.waiting at in
    let answer = answer_to node (next_heard ask) in
    record (says node (OfLine (next_line node.me ask)) (next_heard ask) (goes_on ask answer)) { block = all_bytes ask answer }

abbrev pub said_again : Node → Option Said
said_again node = option_map (says_at node) (ready node)

-- ---- a restart

abbrev pub restarting : Heard
restarting = record { input = Restart; source = 0; tag = None; waits = None; mapped = None }

-- callers whose asks waited ask again
abbrev pub after_restart : Node → Node
after_restart node = record (stepped node restarting) { waiting = [] }

abbrev pub said_restart : Node → Said
said_restart node = says node OfRestart restarting false

-- ---- recorded steps

abbrev pub heard_again : Node → Cause → Option Heard
heard_again node (OfLine line) = heard node line
heard_again node OfRestart = if is_late node 0 then None else Some restarting

-- the node after the step that was recorded so, if it can be its next
abbrev pub replayed_heard : Node → ℕ → Option Heard → Option Node
replayed_heard node clock None = None
replayed_heard node clock (Some heard) = if next_clock node heard.source == clock then Some (stepped node heard) else None

abbrev pub replayed : Node → ℕ → Cause → Option Node
replayed node clock cause = replayed_heard node clock (heard_again node cause)
