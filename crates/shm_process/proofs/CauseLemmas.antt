-- What makes one step stands for that step alone.
use Rattle.std.proofs.Common.{◌≡◌, ℕ, ◌==◌, Bool, true, false, List, [], ◌∷◌, ◌++◌, cond, refl, ap, sym, ◌∙◌}
use Rattle.std.specs.Prelude.{Option, Some, None, option_map}
use Rattle.shm_model.specs.Message.{Input}
use Rattle.shm_wire.specs.Asks.{Ask}
use Rattle.shm_wire.specs.Line as stream
use Rattle.shm_wire.specs.Line.{read_line}
use Rattle.shm_wire.specs.Unmaps.{Run, UnmapAsk}
use Rattle.shm_wire.specs.declared.caller_ask.Question.{Question}
use Rattle.shm_wire.specs.declared.caller_ask.Question.TheVariants as question
use Rattle.shm_process.specs.Cause.{OfLine}
use Rattle.shm_process.specs.Causes.{asked_causes, bare, brought_runs, causes_of, unmap_causes}
use Rattle.shm_process.specs.Node.{Node, Heard, asked_under, heard, input_asked, is_late, remapped_by, says, unmapped_here, waits_for}
use Rattle.shm_process.specs.Recorded.{Again, Event, Line, Restarted, TooLong, all_steps, entries_from, recorded, said_at}
use Rattle.shm_process.specs.Mapped.{byte_place, page_at}
use Rattle.shm_process.specs.Remaps.{first_load, is_empty, unmapped_to}
use Rattle.shm_process.specs.Waiting.{joins, ready, said_read, said_restart, says_at}

no-step : (b late : Bool) (h : Heard) → cond b (cond late None None) None ≡ Some h → ⊥
no-step true true h e = absurd (cc)
no-step true false h e = absurd (cc)
no-step false late h e = absurd (cc)

-- a block that is read makes none by itself
asked-one : (node : Node) (ask : Ask) (q : Question) (h : Heard)
    → cond (ask.site == node.me) (cond (is_late node 0) None (option_map (asked_under ask.tag (waits_for ask.tag q) (remapped_by node q)) (input_asked q))) None ≡ Some h
    → asked_causes ask q ≡ OfLine (stream.Ask ask) ∷ []
asked-one node ask (question.Read at offset count) h e = absurd (no-step (ask.site == node.me) (is_late node 0) h e)
asked-one node ask (question.Access asked) h e = refl
asked-one node ask (question.Try asked) h e = refl
asked-one node ask (question.Begin request) h e = refl
asked-one node ask question.Tick h e = refl
asked-one node ask (question.Show page) h e = refl
asked-one node ask question.Health h e = refl
asked-one node ask (question.Map at index kind) h e = refl
asked-one node ask question.Mappings h e = refl

-- nor does an unmap that brings bytes
no-unmap : (b late : Bool) (hears : Input → Heard) (input : Input) (runs : List Run) (r : Run) (rs : List Run) (h : Heard) → runs ≡ r ∷ rs
    → cond b (cond late None (option_map hears (cond (is_empty runs) (Some input) None))) None ≡ Some h → ⊥
no-unmap b late hears input runs r rs h is e =
    no-step b late h (sym (ap (λ xs. cond b (cond late None (option_map hears (cond (is_empty xs) (Some input) None))) None) is) ∙ e)

unmap-one : (node : Node) (ask : UnmapAsk) (runs : List Run) (h : Heard) → ask.runs ≡ runs → unmapped_here node ask ≡ Some h
    → unmap_causes ask ≡ OfLine (stream.Unmap ask) ∷ []
unfolding brought_runs
unmap-one node ask [] h is e =
    ap (λ rs. brought_runs ask rs ++ OfLine (stream.Unmap (bare ask)) ∷ []) is
    ∙ ap (λ rs. OfLine (stream.Unmap (record ask { runs = rs })) ∷ []) (sym is)
unmap-one node ask (run ∷ runs) h is e =
    absurd (no-unmap (ask.site == node.me) (is_late node 0)
    (asked_under ask.tag None (unmapped_to node.mapped ask.keeps (page_at node.site ask.at (byte_place ask.index 0)))) (first_load ask.at ask.index)
    ask.runs run runs h is e)

line-one : (node : Node) (line : stream.Line) (h : Heard) → heard node line ≡ Some h → causes_of (OfLine line) ≡ OfLine line ∷ []
line-one node (stream.Envelope sent) h e = refl
line-one node (stream.Ask ask) h e = asked-one node ask ask.asked h e
line-one node (stream.Write write) h e = absurd (cc)
line-one node (stream.Unmap ask) h e = unmap-one node ask ask.runs h refl e

line-step : (node : Node) (line : stream.Line) (o : Option Heard) → heard node line ≡ o
    → let said = option_map (λ h. says node (OfLine line) h (joins node h)) o in all_steps (recorded said []) ≡ recorded said []
unfolding entries_from
line-step node line None e = refl
line-step node line (Some h) e =
    let said = says node (OfLine line) h (joins node h) in
    ap (λ causes. entries_from said.clock causes ++ []) (line-one node line h e)

read-step : (node : Node) (read : Option stream.Line) → let said = said_read node read in all_steps (recorded said []) ≡ recorded said []
read-step node None = refl
read-step node (Some line) = line-step node line (heard node line) refl

again-step : (node : Node) (p : Option ℕ) → let said = option_map (says_at node) p in all_steps (recorded said []) ≡ recorded said []
unfolding entries_from
again-step node None = refl
again-step node (Some at) = refl

restart-step : (node : Node) (late : Bool) → let said = cond late None (Some (said_restart node)) in all_steps (recorded said []) ≡ recorded said []
unfolding entries_from
restart-step node true = refl
restart-step node false = refl

pub single_step : (node : Node) (event : Event) → all_steps (recorded (said_at node event) []) ≡ recorded (said_at node event) []
single_step node (Line bytes) = read-step node (read_line bytes)
single_step node TooLong = refl
single_step node Again = again-step node (ready node)
single_step node Restarted = restart-step node (is_late node 0)
