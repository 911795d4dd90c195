-- Whose site the lines of a journal lead to: that of its header.
use Rattle.std.proofs.Common.{◌≡◌, ℕ, ◌+◌, ◌==◌, Bool, true, false, List, [], ◌∷◌, Option, None, Some, cond, refl, subst}
use Rattle.std.specs.Prelude.{length, option_map, take}
use Rattle.std.specs.Str.{bytes_eq}
use Rattle.shm_lines.proofs.StepLemmas.{some-is, step}
use Rattle.shm_process.specs.Node.{Heard, Node, next_clock, stepped}
use Rattle.shm_process.specs.Recorded as process
use Rattle.shm_process.specs.Recorded.{Entry, replayed_all, steps_of}
use Rattle.shm_process.specs.Waiting.{heard_again, replayed, replayed_heard}
use Rattle.shm_state.specs.Told.{Told}
use Rattle.shm_journal.proofs.StateLeads.{made_is}
use Rattle.shm_journal.proofs.StepCounts.{line-leads, torn-leads}
use Rattle.shm_journal.proofs.SummaryLemmas.{own-leads}
use Rattle.shm_journal.specs.Found.{Found, Sound, Foreign, Bad, Partial, found, found_from, found_in, is_long, lines_of, own, reached, site_in}
use Rattle.shm_journal.specs.Lines.{Header, header_line, read_entry, read_header}
use Rattle.shm_journal.specs.Stages.{Stage, Opened, InState, Open, Telling, begun, first_taken, next_stage, replayed_entry, resumed_if, tells, tells_if, told_by, with_mapping, with_told}
use Rattle.shm_journal.specs.StateLines.{StateLine, OfPart, OfMapping, OfEnding, read_state}

-- it is this site of so many
abbrev pub IsOf : ℕ → ℕ → Node → Type 0
IsOf sites me node = (node.sites ≡ sites) × (node.me ≡ me)

abbrev IsToldOf : ℕ → ℕ → Telling → Type 0
IsToldOf sites me telling = (telling.sites ≡ sites) × (telling.me ≡ me)

abbrev StandsOf : ℕ → ℕ → Stage → Type 0
StandsOf sites me (Opened node telling) = IsOf sites me node × IsToldOf sites me telling
StandsOf sites me (InState telling) = IsToldOf sites me telling
StandsOf sites me (Open node) = IsOf sites me node

-- ---- steps

test-of : (sites me : ℕ) (node after : Node) (heard : Heard) (b : Bool) → cond b (Some (stepped node heard)) None ≡ Some after → IsOf sites me node → IsOf sites me after
test-of sites me node after heard true h is = subst (IsOf sites me) (some-is (stepped node heard) after h) is
test-of sites me node after heard false h is = absurd (cc)

heard-of : (sites me : ℕ) (node after : Node) (clock : ℕ) (heard : Option Heard) → replayed_heard node clock heard ≡ Some after → IsOf sites me node → IsOf sites me after
heard-of sites me node after clock None h is = absurd (cc)
heard-of sites me node after clock (Some heard) h is = test-of sites me node after heard (next_clock node heard.source == clock) h is

all-of : (sites me : ℕ) (entries : List Entry) (node after : Node) → replayed_all node entries ≡ Some after → IsOf sites me node → IsOf sites me after
all-of sites me [] node after h is = subst (IsOf sites me) (some-is node after h) is
all-of sites me (entry ∷ entries) node after h is =
    let s = step (replayed node entry.clock entry.cause) (λ next. replayed_all next entries) after h in
    all-of sites me entries s.value after s.gives (heard-of sites me node s.value entry.clock (heard_again node entry.cause) s.gave is)

-- ---- one line

opened-of : (sites me : ℕ) (after : Option Node) (stage : Stage) → ((x : Node) → after ≡ Some x → IsOf sites me x) → option_map Open after ≡ Some stage → StandsOf sites me stage
opened-of sites me None stage one h = absurd (cc)
opened-of sites me (Some x) stage one h = subst (StandsOf sites me) (some-is (Open x) stage h) (one x refl)

tells-of : (sites me : ℕ) (telling : Telling) (after : Stage) (line : StateLine) → tells telling line ≡ Some after → IsToldOf sites me telling → StandsOf sites me after
tells-of sites me telling after (OfPart part) h is = told-of (told_by telling part) h
  where
    told-of : (o : Option Told) → option_map (λ told. InState (with_told telling told)) o ≡ Some after → StandsOf sites me after
    told-of None e = absurd (cc)
    told-of (Some told) e = subst (StandsOf sites me) (some-is (InState (with_told telling told)) after e) is
tells-of sites me telling after (OfMapping m) h is = subst (StandsOf sites me) (some-is (InState (with_mapping telling m)) after h) is
tells-of sites me telling after (OfEnding ending) h is =
    opened-of sites me (resumed_if telling ending) after (λ x made. subst (IsOf sites me) (made_is telling ending x made) is) h

if-of : (sites me : ℕ) (telling : Telling) (after : Stage) (line : Option StateLine) → tells_if telling line ≡ Some after → IsToldOf sites me telling → StandsOf sites me after
if-of sites me telling after None h is = absurd (cc)
if-of sites me telling after (Some line) h is = tells-of sites me telling after line h is

first-of : (sites me : ℕ) (node : Node) (telling : Telling) (line : List ℕ) (after : Stage) (read : Option Entry) → first_taken node telling line read ≡ Some after
    → IsOf sites me node → IsToldOf sites me telling → StandsOf sites me after
first-of sites me node telling line after None h is told = if-of sites me telling after (read_state line) h told
first-of sites me node telling line after (Some entry) h is told =
    opened-of sites me (process.replayed_entry node entry) after (λ x made. all-of sites me (steps_of entry) node x made is) h

open-of : (sites me : ℕ) (node : Node) (after : Stage) (read : Option Entry) → option_map Open (replayed_entry node read) ≡ Some after → IsOf sites me node → StandsOf sites me after
unfolding replayed_entry
open-of sites me node after None h is = absurd (cc)
open-of sites me node after (Some entry) h is =
    opened-of sites me (process.replayed_entry node entry) after (λ x made. all-of sites me (steps_of entry) node x made is) h

next-of : (sites me : ℕ) (stage after : Stage) (line : List ℕ) → next_stage stage line ≡ Some after → StandsOf sites me stage → StandsOf sites me after
next-of sites me (Opened node telling) after line h is = first-of sites me node telling line after (read_entry line) h is.0 is.1
next-of sites me (InState telling) after line h is = if-of sites me telling after (read_state line) h is
next-of sites me (Open node) after line h is = open-of sites me node after (read_entry line) h is

-- ---- all lines

from-of : (sites me number : ℕ) (state final : Stage) (lines : List (List ℕ)) (torn : List ℕ) → found_from next_stage number state lines torn ≡ Sound final → StandsOf sites me state
    → StandsOf sites me final
unfolding found_from
from-of sites me number state final [] torn h is = subst (StandsOf sites me) (torn-leads number state final (is_long torn) h) is
from-of sites me number state final (line ∷ lines) torn h is =
    line-leads (StandsOf sites me final) number final (λ after. found_from next_stage (number + 1) after lines torn) (is_long line) (next_stage state line) h
    (λ after one more. from-of sites me (number + 1) after final lines torn more (next-of sites me state after line one is))

begun-of : (header : Header) → StandsOf header.sites header.me (begun header)
begun-of header = ((refl, refl), (refl, refl))

alone-of : (header : Header) (final : Stage) (long same : Bool) → cond long (Bad 1) (cond same (Sound (begun header)) (Bad 1)) ≡ Sound final → begun header ≡ final
alone-of header final true same h = absurd (cc)
alone-of header final false true h = sound-is (begun header) final h
  where
    sound-is : (x y : Stage) → Sound x ≡ Sound y → x ≡ y
    sound-is x y e = cc
alone-of header final false false h = absurd (cc)

own-of : (header : Header) (final : Stage) (lines : List (List ℕ)) (torn : List ℕ) → found_in (own header) lines torn ≡ Sound final → StandsOf header.sites header.me final
own-of header final [] torn h =
    subst (StandsOf header.sites header.me) (alone-of header final (is_long torn) (bytes_eq torn (take (length torn) (header_line header))) h) (begun-of header)
own-of header final (line ∷ lines) torn h =
    from-of header.sites header.me 2 (begun header) final lines torn
    (own-leads header final (λ state. found_from next_stage 2 state lines torn) (is_long line) (bytes_eq line (header_line header)) (read_header line) h) (begun-of header)

site-of : (sites me : ℕ) (r : Found Stage) (node : Node) → site_in r ≡ Sound node → ((final : Stage) → r ≡ Sound final → StandsOf sites me final) → IsOf sites me node
site-of sites me (Sound (Opened x telling)) node h all = subst (IsOf sites me) (node-is x node h) (all (Opened x telling) refl).0
  where
    node-is : (x y : Node) → Sound x ≡ Sound y → x ≡ y
    node-is x y e = cc
site-of sites me (Sound (InState telling)) node h all = absurd (cc)
site-of sites me (Sound (Open x)) node h all = subst (IsOf sites me) (node-is x node h) (all (Open x) refl)
  where
    node-is : (x y : Node) → Sound x ≡ Sound y → x ≡ y
    node-is x y e = cc
site-of sites me Foreign node h all = absurd (cc)
site-of sites me (Bad number) node h all = absurd (cc)
site-of sites me Partial node h all = absurd (cc)

pub found_of_header : (header : Header) (file : List ℕ) (node : Node) → found header file ≡ Sound node → IsOf header.sites header.me node
found_of_header header file node h =
    let lines = lines_of file in site-of header.sites header.me (reached header file) node h (λ final e. own-of header final lines.whole lines.torn e)
