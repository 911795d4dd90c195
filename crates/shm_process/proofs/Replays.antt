-- The recorded steps of a node lead to it again.
use Rattle.std.proofs.Common.{◌≡◌, ℕ, ◌==◌, Bool, true, false, List, [], ◌∷◌, Option, Some, None, cond, refl, ap, sym, ◌∙◌, arith}
use Rattle.std.specs.Prelude.{option_and_then, option_map}
use Rattle.std.specs.Option.{option_map_or}
use Rattle.std.specs.List.{position_from}
use Rattle.std.proofs.lemmas.Bool.Decides.{nat_tests}
use Rattle.shm_wire.specs.Line as stream
use Rattle.shm_wire.specs.Line.{read_line}
use Rattle.shm_wire.specs.declared.caller_ask.Question.{Question}
use Rattle.shm_wire.specs.declared.caller_ask.Question.TheVariants as question
use Rattle.shm_process.specs.Cause.{Cause, OfLine, OfRestart}
use Rattle.shm_process.specs.Node.{Node, Heard, asked_under, heard, input_asked, is_late, next_clock, remapped_by, says, stepped, waits_for}
use Rattle.shm_process.specs.Waiting.{after_heard, after_read, after_unheard, again_at, can_be_made, heard_again, joining, joins, next_heard, next_line, ready, replayed, replayed_heard, restarting, said_read, said_restart, after_restart, says_at}
use Rattle.shm_process.specs.WaitingAsks.{WaitingAsk, ask_in}
use Rattle.shm_process.specs.Recorded.{Event, Line, TooLong, Again, Restarted, Entry, after_event, after_events, entries_of, kept, recorded, replayed_all}
use Rattle.shm_process.proofs.Tests.{unless-some}

-- what a line is doesn't hang on the asks that wait, nor on what was counted
kept-mapped : (node : Node) (q : Question) → remapped_by (kept node) q ≡ remapped_by node q
kept-mapped node (question.Access asked) = refl
kept-mapped node (question.Try asked) = refl
kept-mapped node (question.Read at offset count) = refl
kept-mapped node (question.Begin request) = refl
kept-mapped node question.Tick = refl
kept-mapped node (question.Show page) = refl
kept-mapped node question.Health = refl
kept-mapped node (question.Map at index kind) = refl
kept-mapped node question.Mappings = refl

kept-heard : (node : Node) (line : stream.Line) → heard (kept node) line ≡ heard node line
kept-heard node (stream.Envelope sent) = refl
kept-heard node (stream.Ask ask) =
    ap (λ m. cond (ask.site == node.me) (cond (is_late node 0) None (option_map (asked_under ask.tag (waits_for ask.tag ask.asked) m) (input_asked ask.asked))) None)
    (kept-mapped node ask.asked)
kept-heard node (stream.Write write) = refl
kept-heard node (stream.Unmap unmap) = refl

same-is : (n : ℕ) → (n == n) ≡ true
same-is n = grind (arith, nat_tests)

-- one step, made again at its own clock
step-replayed : (node : Node) (cause : Cause) (h : Heard) → heard_again (kept node) cause ≡ Some h
    → replayed (kept node) (next_clock node h.source) cause ≡ Some (kept (stepped node h))
step-replayed node cause h e =
    ap (replayed_heard (kept node) (next_clock node h.source)) e
    ∙ ap (λ b. cond b (Some (stepped (kept node) h)) None) (same-is (next_clock node h.source))

-- an entry, and what follows it
one-more : (node : Node) (next : Option Node) (made : Node) (entries : List Entry) (final : Node)
    → next ≡ Some made → replayed_all made entries ≡ Some final → option_and_then (λ n. replayed_all n entries) next ≡ Some final
one-more node next made entries final e h = ap (option_and_then (λ n. replayed_all n entries)) e ∙ h

-- a block that joins those that wait, and a line that is passed over, are no step
kept-unheard : (node : Node) (block : Option WaitingAsk) → kept (after_unheard node block) ≡ kept node
kept-unheard node None = refl
kept-unheard node (Some block) = refl

line-law : (node : Node) (line : stream.Line) (entries : List Entry) (final : Node) (o : Option Heard) → heard node line ≡ o
    → replayed_all (kept (after_heard node (joining node line) o)) entries ≡ Some final
    → replayed_all (kept node) (recorded (option_map (λ h. says node (OfLine line) h (joins node h)) o) entries) ≡ Some final
line-law node line entries final None e r = sym (ap (λ n. replayed_all n entries) (kept-unheard node (joining node line))) ∙ r
line-law node line entries final (Some h) e r =
    one-more node (replayed (kept node) (next_clock node h.source) (OfLine line)) (kept (stepped node h)) entries final
    (step-replayed node (OfLine line) h (kept-heard node line ∙ e)) r

read-law : (node : Node) (read : Option stream.Line) (entries : List Entry) (final : Node)
    → replayed_all (kept (after_read node read)) entries ≡ Some final → replayed_all (kept node) (recorded (said_read node read) entries) ≡ Some final
read-law node None entries final r = r
read-law node (Some line) entries final r = line-law node line entries final (heard node line) refl r

-- the line that asks for an access alone hands it over
pub hear-next : (node : Node) (ask : WaitingAsk) → is_late node 0 ≡ false → heard node (next_line node.me ask) ≡ Some (next_heard ask)
hear-next node ask early =
    ap (λ b. cond b (cond (is_late node 0) None (Some (next_heard ask))) None) (same-is node.me) ∙ ap (λ b. cond b None (Some (next_heard ask))) early

again-law : (node : Node) (entries : List Entry) (final : Node) (p : Option ℕ) → ready node ≡ p
    → replayed_all (kept (option_map_or (again_at node) p node)) entries ≡ Some final
    → replayed_all (kept node) (recorded (option_map (says_at node) p) entries) ≡ Some final
again-law node entries final None is r = r
again-law node entries final (Some at) is r =
    let ask = ask_in node.waiting at in
    let early = (unless-some (is_late node 0) (position_from (can_be_made node) 0 node.waiting) at is).0 in
    one-more node (replayed (kept node) (next_clock node 0) (OfLine (next_line node.me ask))) (kept (stepped node (next_heard ask))) entries final
    (step-replayed node (OfLine (next_line node.me ask)) (next_heard ask) (kept-heard node (next_line node.me ask) ∙ hear-next node ask early)) r

restart-law : (node : Node) (entries : List Entry) (final : Node) (late : Bool) → is_late node 0 ≡ late
    → replayed_all (kept (cond late node (after_restart node))) entries ≡ Some final
    → replayed_all (kept node) (recorded (cond late None (Some (said_restart node))) entries) ≡ Some final
restart-law node entries final true e r = r
restart-law node entries final false e r =
    one-more node (replayed (kept node) (next_clock node 0) OfRestart) (kept (stepped node restarting)) entries final
    (step-replayed node OfRestart restarting (ap (λ b. cond b None (Some restarting)) e)) r

pub replays : (node : Node) (events : List Event) → replayed_all (kept node) (entries_of node events) ≡ Some (kept (after_events node events))
replays node [] = refl
replays node (Line bytes ∷ events) =
    read-law node (read_line bytes) (entries_of (after_event node (Line bytes)) events) (kept (after_events (after_event node (Line bytes)) events))
    (replays (after_event node (Line bytes)) events)
replays node (TooLong ∷ events) = replays (after_event node TooLong) events
replays node (Again ∷ events) =
    again-law node (entries_of (after_event node Again) events) (kept (after_events (after_event node Again) events))
    (ready node) refl (replays (after_event node Again) events)
replays node (Restarted ∷ events) =
    restart-law node (entries_of (after_event node Restarted) events) (kept (after_events (after_event node Restarted) events))
    (is_late node 0) refl (replays (after_event node Restarted) events)
