-- How many steps the lines of a journal record, and how many were made where they lead.
use Rattle.std.proofs.Common.{◌≡◌, ℕ, ◌+◌, ◌==◌, Bool, true, false, List, [], ◌∷◌, Option, None, Some, cond, length, refl, sym, ap, subst, ◌∙◌, arith}
use Rattle.std.specs.Prelude.{⊤, fold, option_map}
use Rattle.std.specs.Option.{option_map_or}
use Rattle.shm_lines.proofs.StepLemmas.{some-is, step}
use Rattle.shm_process.specs.Node.{Heard, Node, next_clock, stepped}
use Rattle.shm_process.specs.Recorded as process
use Rattle.shm_process.specs.Recorded.{Entry, replayed_all, steps_of}
use Rattle.shm_process.specs.Waiting.{heard_again, replayed, replayed_heard}
use Rattle.shm_state.specs.Told.{Told}
use Rattle.shm_journal.proofs.StateLeads.{made_is}
use Rattle.shm_journal.proofs.StateWords.{state-no_entry}
use Rattle.shm_journal.specs.Found.{Found, Sound, Bad, found_from, is_long, next_found, replayed_line}
use Rattle.shm_journal.specs.Lines.{read_entry}
use Rattle.shm_journal.specs.Stages.{Stage, Opened, InState, Open, Telling, first_taken, next_stage, replayed_entry, resumed_if, tells, tells_if, told_by, with_mapping, with_told}
use Rattle.shm_journal.specs.StateLines.{StateLine, OfPart, OfMapping, OfEnding, read_state}
use Rattle.shm_journal.specs.Summed.{steps_before, steps_in}

-- ---- each step is counted

test-steps : (node after : Node) (heard : Heard) (b : Bool) → cond b (Some (stepped node heard)) None ≡ Some after → after.steps ≡ node.steps + 1
test-steps node after heard true h = let e : stepped node heard ≡ after = cc in sym (ap (λ (n : Node). n.steps) e)
test-steps node after heard false h = absurd (cc)

heard-steps : (node after : Node) (clock : ℕ) (heard : Option Heard) → replayed_heard node clock heard ≡ Some after → after.steps ≡ node.steps + 1
heard-steps node after clock None h = absurd (cc)
heard-steps node after clock (Some heard) h = test-steps node after heard (next_clock node heard.source == clock) h

all-steps : (entries : List Entry) (node after : Node) → replayed_all node entries ≡ Some after → after.steps ≡ node.steps + length entries
all-steps [] node after h =
    let s : after.steps ≡ node.steps = sym (ap (λ (n : Node). n.steps) (some-is node after h)) in omega (arith, s)
all-steps (entry ∷ entries) node after h =
    let s = step (replayed node entry.clock entry.cause) (λ next. replayed_all next entries) after h in
    let one = heard-steps node s.value entry.clock (heard_again node entry.cause) s.gave in
    let more = all-steps entries s.value after s.gives in
    omega (arith, one, more)

-- how many steps were made where the lines stand
abbrev pub steps_at : Stage → ℕ
steps_at (Opened node telling) = node.steps
steps_at (InState telling) = 0
steps_at (Open node) = node.steps

opened-steps : (after : Option Node) (stage : Stage) (n : ℕ) → ((x : Node) → after ≡ Some x → x.steps ≡ n) → option_map Open after ≡ Some stage → steps_at stage ≡ n
opened-steps None stage n one h = absurd (cc)
opened-steps (Some x) stage n one h = sym (ap steps_at (some-is (Open x) stage h)) ∙ one x refl

tells-steps : (telling : Telling) (after : Stage) (line : StateLine) → tells telling line ≡ Some after → steps_at after ≡ steps_before (Some line)
tells-steps telling after (OfPart part) h = told-steps (told_by telling part) h
  where
    told-steps : (o : Option Told) → option_map (λ told. InState (with_told telling told)) o ≡ Some after → steps_at after ≡ 0
    told-steps None e = absurd (cc)
    told-steps (Some told) e = sym (ap steps_at (some-is (InState (with_told telling told)) after e))
tells-steps telling after (OfMapping m) h = sym (ap steps_at (some-is (InState (with_mapping telling m)) after h))
tells-steps telling after (OfEnding ending) h =
    opened-steps (resumed_if telling ending) after ending.steps (λ x made. sym (ap (λ (n : Node). n.steps) (made_is telling ending x made))) h

state-steps : (telling : Telling) (after : Stage) (line : Option StateLine) → tells_if telling line ≡ Some after → steps_at after ≡ steps_before line
state-steps telling after None h = absurd (cc)
state-steps telling after (Some line) h = tells-steps telling after line h

-- a line of a state is no entry
no-entry-steps : (line : List ℕ) (telling : Telling) (after : Stage) (read : Option StateLine) → read_state line ≡ read → tells_if telling read ≡ Some after → steps_in line ≡ steps_before read
no-entry-steps line telling after None e h = absurd (cc)
no-entry-steps line telling after (Some s) e h =
    ap (λ o. option_map_or (λ entry. length (steps_of entry)) o (steps_before (read_state line))) (state-no_entry line s e) ∙ ap steps_before e

none-before : (n : ℕ) → n ≡ 0 + n
none-before n = omega arith

first-steps : (node : Node) (telling : Telling) (line : List ℕ) (after : Stage) (read : Option Entry) → node.steps ≡ 0 → read_entry line ≡ read
    → first_taken node telling line read ≡ Some after → steps_at after ≡ node.steps + steps_in line
first-steps node telling line after None none e h =
    state-steps telling after (read_state line) h ∙ sym (no-entry-steps line telling after (read_state line) refl h)
    ∙ none-before (steps_in line) ∙ ap (λ k. k + steps_in line) (sym none)
first-steps node telling line after (Some entry) none e h =
    let counted : steps_in line ≡ length (steps_of entry) = ap (λ o. option_map_or (λ entry. length (steps_of entry)) o (steps_before (read_state line))) e in
    opened-steps (process.replayed_entry node entry) after (node.steps + steps_in line)
    (λ x made. all-steps (steps_of entry) node x made ∙ ap (λ k. node.steps + k) (sym counted)) h

open-steps : (node : Node) (line : List ℕ) (after : Stage) (read : Option Entry) → read_entry line ≡ read → option_map Open (replayed_entry node read) ≡ Some after
    → steps_at after ≡ node.steps + steps_in line
unfolding replayed_entry
open-steps node line after None e h = absurd (cc)
open-steps node line after (Some entry) e h =
    let counted : steps_in line ≡ length (steps_of entry) = ap (λ o. option_map_or (λ entry. length (steps_of entry)) o (steps_before (read_state line))) e in
    opened-steps (process.replayed_entry node entry) after (node.steps + steps_in line)
    (λ x made. all-steps (steps_of entry) node x made ∙ ap (λ k. node.steps + k) (sym counted)) h

-- behind the header alone no step was made
abbrev IsUnbegun : Stage → Type 0
IsUnbegun (Opened node telling) = node.steps ≡ 0
IsUnbegun (InState telling) = ⊤
IsUnbegun (Open node) = ⊤

unbegun-open : (after : Option Node) (stage : Stage) → option_map Open after ≡ Some stage → IsUnbegun stage
unbegun-open None stage h = absurd (cc)
unbegun-open (Some x) stage h = subst IsUnbegun (some-is (Open x) stage h) tt

unbegun-tells : (telling : Telling) (after : Stage) (line : StateLine) → tells telling line ≡ Some after → IsUnbegun after
unbegun-tells telling after (OfPart part) h = told-so (told_by telling part) h
  where
    told-so : (o : Option Told) → option_map (λ told. InState (with_told telling told)) o ≡ Some after → IsUnbegun after
    told-so None e = absurd (cc)
    told-so (Some told) e = subst IsUnbegun (some-is (InState (with_told telling told)) after e) tt
unbegun-tells telling after (OfMapping m) h = subst IsUnbegun (some-is (InState (with_mapping telling m)) after h) tt
unbegun-tells telling after (OfEnding ending) h = unbegun-open (resumed_if telling ending) after h

unbegun-if : (telling : Telling) (after : Stage) (line : Option StateLine) → tells_if telling line ≡ Some after → IsUnbegun after
unbegun-if telling after None h = absurd (cc)
unbegun-if telling after (Some line) h = unbegun-tells telling after line h

unbegun-first : (node : Node) (telling : Telling) (line : List ℕ) (after : Stage) (read : Option Entry) → first_taken node telling line read ≡ Some after → IsUnbegun after
unbegun-first node telling line after None h = unbegun-if telling after (read_state line) h
unbegun-first node telling line after (Some entry) h = unbegun-open (process.replayed_entry node entry) after h

unbegun-next : (stage after : Stage) (line : List ℕ) → next_stage stage line ≡ Some after → IsUnbegun after
unbegun-next (Opened node telling) after line h = unbegun-first node telling line after (read_entry line) h
unbegun-next (InState telling) after line h = unbegun-if telling after (read_state line) h
unbegun-next (Open node) after line h = unbegun-open (replayed_line node line) after h

next-steps : (stage after : Stage) (line : List ℕ) → IsUnbegun stage → next_stage stage line ≡ Some after → steps_at after ≡ steps_at stage + steps_in line
next-steps (Opened node telling) after line none h = first-steps node telling line after (read_entry line) none refl h
next-steps (InState telling) after line none h =
    state-steps telling after (read_state line) h ∙ sym (no-entry-steps line telling after (read_state line) refl h) ∙ none-before (steps_in line)
next-steps (Open node) after line none h = open-steps node line after (read_entry line) refl h

pub torn-leads : (number : ℕ) (state final : Stage) (b : Bool) → cond b (Bad number) (Sound state) ≡ Sound final → state ≡ final
torn-leads number state final true h = absurd (cc)
torn-leads number state final false h = cc

-- a line leads on, or the journal leads nowhere
pub line-leads : (P : Type 0) (number : ℕ) (final : Stage) (onward : Stage → Found Stage) (b : Bool) (next : Option Stage)
    → cond b (Bad number) (next_found number next onward) ≡ Sound final → ((after : Stage) → next ≡ Some after → onward after ≡ Sound final → P) → P
line-leads P number final onward true next h more = absurd (cc)
line-leads P number final onward false None h more = absurd (cc)
line-leads P number final onward false (Some after) h more = more after refl h

-- so many steps, and those of these lines
abbrev steps_on : ℕ → List (List ℕ) → ℕ
steps_on steps lines = fold (λ n line. n + steps_in line) steps lines

pub from-steps : (number : ℕ) (state final : Stage) (lines : List (List ℕ)) (torn : List ℕ) → IsUnbegun state → found_from next_stage number state lines torn ≡ Sound final
    → steps_at final ≡ steps_on (steps_at state) lines
unfolding found_from
from-steps number state final [] torn none h = sym (ap steps_at (torn-leads number state final (is_long torn) h))
from-steps number state final (line ∷ lines) torn none h =
    line-leads (steps_at final ≡ steps_on (steps_at state + steps_in line) lines) number final (λ after. found_from next_stage (number + 1) after lines torn) (is_long line)
    (next_stage state line) h
    (λ after one more.
    from-steps (number + 1) after final lines torn (unbegun-next state after line one) more ∙ ap (λ n. steps_on n lines) (next-steps state after line none one))
