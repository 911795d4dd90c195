-- At most so many asks wait at a node.
use Rattle.std.proofs.Common.{◌≡◌, ℕ, zero, suc, ◌+◌, ◌≤◌, ◌==◌, ◌&&◌, Bool, true, false, List, [], ◌∷◌, ◌++◌, Option, Some, None, length, set, cond, refl, sym, subst, arith}
use Rattle.std.specs.List.{remove}
use Rattle.std.specs.Prelude.{is_some, nat_lt}
use Rattle.std.specs.Option.{option_map_or}
use Rattle.std.proofs.lemmas.Bool.Decides.{nat_tests}
use Rattle.std.proofs.lemmas.List.{length-append, length-set}
use Rattle.shm_model.specs.declared.answer.Answer.{Answer}
use Rattle.shm_wire.specs.Line as stream
use Rattle.shm_wire.specs.Line.{read_line}
use Rattle.shm_wire.specs.declared.caller_ask.Question.{Question}
use Rattle.shm_wire.specs.declared.caller_ask.Question.TheVariants as question
use Rattle.shm_wire.specs.Writes.{WriteAsk}
use Rattle.shm_process.specs.WaitingAsks.{Reads, WaitingAsk, after_answer, ask_in, goes_on, waiting_after}
use Rattle.shm_process.specs.Node.{Node, Heard, answer_to, heard, is_late, new_node}
use Rattle.shm_process.specs.Recorded.{Event, Line, TooLong, Again, Restarted, after_event, after_events}
use Rattle.shm_process.specs.Waiting.{after_heard, after_read, after_restart, after_unheard, again_at, block_in, has_room, joining, joins, most_waiting, next_heard, ready, unstored, with_ask}

abbrev Few : Node → Type 0
Few node = length node.waiting ≤ most_waiting

room-for-one : (waiting : List WaitingAsk) (ask : WaitingAsk) → nat_lt (length waiting) most_waiting ≡ true → length (waiting ++ ask ∷ []) ≤ most_waiting
room-for-one waiting ask room = subst (λ n. n ≤ most_waiting) (sym (length-append waiting (ask ∷ []))) (one-more (length waiting) room)
  where
    one-more : (n : ℕ) → nat_lt n most_waiting ≡ true → n + 1 ≤ most_waiting
    one-more n h = grind (arith, nat_tests)

remove-shorter : (xs : List WaitingAsk) (i : ℕ) → length (remove xs i) ≤ length xs
remove-shorter [] zero = omega arith
remove-shorter [] (suc i) = omega arith
remove-shorter (x ∷ xs) zero = omega arith
remove-shorter (x ∷ xs) (suc i) = let less : length (remove xs i) ≤ length xs = remove-shorter xs i in omega (arith, less)

cond-few : (b : Bool) (xs ys : List WaitingAsk) → length xs ≤ most_waiting → length ys ≤ most_waiting → length (cond b xs ys) ≤ most_waiting
cond-few true xs ys p q = p
cond-few false xs ys p q = q

after-few : (waiting : List WaitingAsk) (at : ℕ) (answer : Answer) → length waiting ≤ most_waiting → length (waiting_after waiting at answer) ≤ most_waiting
after-few waiting at answer few =
    let ask = ask_in waiting at in
    let same : length (set waiting at (after_answer ask answer)) ≡ length waiting = length-set waiting at (after_answer ask answer) in
    let less : length (remove waiting at) ≤ length waiting = remove-shorter waiting at in
    cond-few (goes_on ask answer) (set waiting at (after_answer ask answer)) (remove waiting at) (omega (arith, few, same)) (omega (arith, few, less))

-- ---- a line

block-few : (node : Node) (here late : Bool) (tag : List ℕ) (q : Question) → has_room node ≡ true → Few node
    → Few (after_unheard node (cond here (cond late None (block_in tag q)) None))
block-few node false late tag q room few = few
block-few node true true tag q room few = few
block-few node true false tag (question.Read at offset count) room few =
    room-for-one node.waiting (Reads (record { tag = tag; at = at; offset = offset; count = count; bytes = [] })) room
block-few node true false tag (question.Access asked) room few = few
block-few node true false tag (question.Try asked) room few = few
block-few node true false tag (question.Begin request) room few = few
block-few node true false tag question.Tick room few = few
block-few node true false tag (question.Show page) room few = few
block-few node true false tag question.Health room few = few
block-few node true false tag (question.Map at index kind) room few = few
block-few node true false tag question.Mappings room few = few

ask-few : (node : Node) (room here late : Bool) (tag : List ℕ) (q : Question) → has_room node ≡ room → Few node
    → Few (after_unheard node (cond room (cond here (cond late None (block_in tag q)) None) None))
ask-few node false here late tag q room few = few
ask-few node true here late tag q room few = block-few node here late tag q room few

write-few : (node : Node) (write : WriteAsk) (room here late : Bool) → has_room node ≡ room → Few node
    → Few (after_unheard node (cond room (cond here (cond late None (Some (unstored write))) None) None))
write-few node write false here late room few = few
write-few node write true false late room few = few
write-few node write true true true room few = few
write-few node write true true false room few = room-for-one node.waiting (unstored write) room

unheard-few : (node : Node) (line : stream.Line) → Few node → Few (after_unheard node (joining node line))
unheard-few node (stream.Envelope sent) few = few
unheard-few node (stream.Unmap unmap) few = few
unheard-few node (stream.Write write) few = write-few node write (has_room node) (write.site == node.me) (is_late node 0) refl few
unheard-few node (stream.Ask ask) few = ask-few node (has_room node) (ask.site == node.me) (is_late node 0) ask.tag ask.asked refl few

joins-room : (a b c : Bool) → ((a && b) && c) ≡ true → b ≡ true
joins-room true true c h = refl
joins-room true false c h = absurd (cc)
joins-room false b c h = absurd (cc)

with-few : (node : Node) (ask : Option WaitingAsk) (joins : Bool) → (joins ≡ true → has_room node ≡ true) → Few node
    → length (with_ask node.waiting ask joins) ≤ most_waiting
with-few node None joins room few = few
with-few node (Some ask) true room few = room-for-one node.waiting ask (room refl)
with-few node (Some ask) false room few = few

line-few : (node : Node) (line : stream.Line) (o : Option Heard) → Few node → Few (after_heard node (joining node line) o)
line-few node line None few = unheard-few node line few
line-few node line (Some x) few = with-few node x.waits (joins node x) (joins-room (is_some x.waits) (has_room node) _) few

read-few : (node : Node) (read : Option stream.Line) → Few node → Few (after_read node read)
read-few node None few = few
read-few node (Some line) few = line-few node line (heard node line) few

-- ---- any event

again-few : (node : Node) (p : Option ℕ) → Few node → Few (option_map_or (again_at node) p node)
again-few node None few = few
again-few node (Some at) few = after-few node.waiting at (answer_to node (next_heard (ask_in node.waiting at))) few

restart-few : (node : Node) (late : Bool) → Few node → Few (cond late node (after_restart node))
restart-few node true few = few
restart-few node false few = omega arith

event-few : (node : Node) (event : Event) → Few node → Few (after_event node event)
event-few node (Line bytes) few = read-few node (read_line bytes) few
event-few node TooLong few = few
event-few node Again few = again-few node (ready node) few
event-few node Restarted few = restart-few node (is_late node 0) few

events-few : (events : List Event) (node : Node) → Few node → Few (after_events node events)
events-few [] node few = few
events-few (event ∷ events) node few = events-few events (after_event node event) (event-few node event few)

pub few_wait : (sites me pages : ℕ) (events : List Event) → length (after_events (new_node sites me pages) events).waiting ≤ most_waiting
few_wait sites me pages events = events-few events (new_node sites me pages) (omega arith)
