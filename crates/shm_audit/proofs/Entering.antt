-- The steps that an entry records are taken by a box one after another, each under the clock after the one before.
use Rattle.std.proofs.Common.{◌≡◌, ℕ, ◌+◌, ◌==◌, ◌<◌, Bool, true, false, List, [], ◌∷◌, Option, Some, None, cond, refl, ap, sym, ◌∙◌, max, arith}
use Rattle.std.specs.Prelude.{SomeIff, option_and_then, ◌^◌}
use Rattle.std.proofs.lemmas.Bool.Decides.{nat_tests}
use Rattle.shm_logs.specs.Boxes.Box.{Box, after, greatest_stamp}
use Rattle.shm_logs.specs.declared.site_boxes.box_error.BoxFault.TheVariants as fault
use Rattle.shm_process.specs.Cause.{Cause}
use Rattle.shm_process.specs.Recorded.{Entry, entries_from}
use Rattle.shm_process.proofs.ManySteps.{IsClock, clock_of, is_clock, later_clock}
use Rattle.shm_audit.specs.Entered.{Handed, IsEntered, at_clock, box_after, box_after_all, box_handed, handed, unless_refused}
use Rattle.shm_site.specs.Step.{is_foreign}

-- ---- no step has a clock above the greatest

not-next : (clock source : ℕ) → (max clock source == greatest_stamp) ≡ false → (max clock source + 1 == greatest_stamp + 1) ≡ false
not-next clock source h = grind (arith, nat_tests)

none-taken : (box : Box) (h : Handed) (foreign late : Bool) → (max box.clock h.source.at == greatest_stamp) ≡ late
    → option_and_then (at_clock (greatest_stamp + 1))
    (unless_refused (cond foreign (Some fault.Foreign) (cond late (Some fault.ClockEnd) None)) (after box h.input h.source)) ≡ None
none-taken box h true late is = refl
none-taken box h false true is = refl
none-taken box h false false is = ap (λ b. cond b (Some (after box h.input h.source)) None) (not-next box.clock h.source.at is)

none-handed : (box : Box) (o : Option Handed) → box_handed (greatest_stamp + 1) box o ≡ None
none-handed box None = refl
none-handed box (Some h) = none-taken box h (is_foreign box.sites box.me h.input) (max box.clock h.source.at == greatest_stamp) refl

abbrev step_at : ℕ → Cause → Entry
step_at clock cause = record { clock = clock; cause = cause }

too-late : (box : Box) (cause : Cause) → box_after box (step_at (greatest_stamp + 1) cause) ≡ None
too-late box cause = none-handed box (handed box.me cause)

-- ---- one step after another

abbrev pub leads : Box → ℕ → List Cause → Option Box
leads box clock causes = box_after_all box (entries_from clock causes)

-- the first of these steps, and those behind it
step-first : (box : Box) (clock : ℕ) (left rest : List Cause) (cause : Cause) → left ≡ cause ∷ rest
    → leads box clock left ≡ option_and_then (λ next. leads next (clock + 1) rest) (box_after box (step_at clock cause))
unfolding entries_from
step-first box clock left rest cause e = ap (leads box clock) e

made-is : (o : Option Box) (next : Box) (made : Bool) → IsEntered made o next → made ≡ true → o ≡ Some next
made-is o next true is did = is
made-is o next false is did = absurd (cc)

not-made : (o : Option Box) (next : Box) (made : Bool) → IsEntered made o next → made ≡ false → o ≡ None
not-made o next true is failed = absurd (cc)
not-made o next false is failed = is

later-is : (clock : ℕ) (next : Option ℕ) → SomeIff next (clock + 1 < 2 ^ 64) (clock + 1) → IsClock next
later-is clock None last = tt
later-is clock (Some later) more = omega (arith, more.0, more.1)

-- a step is taken
pub one_entered : (box next : Box) (now later : Option ℕ) (clock : ℕ) (left rest : List Cause) (cause : Cause) (made : Bool) (all : Option Box)
    → left ≡ cause ∷ rest → now ≡ Some clock → IsClock now → SomeIff later (clock + 1 < 2 ^ 64) (clock + 1)
    → IsEntered made (box_after box (step_at clock cause)) next → made ≡ true
    → leads box (clock_of now) left ≡ all → IsClock later × (leads next (clock_of later) rest ≡ all)
one_entered box next now later clock left rest cause made all e is within more tells did h = (
  later-is clock later more,
  ap (λ c. leads next c rest) (later_clock clock later (is_clock now clock is within) more)
      ∙ sym (ap (option_and_then (λ b. leads b (clock + 1) rest)) (made-is (box_after box (step_at clock cause)) next made tells did))
      ∙ sym (step-first box clock left rest cause e)
      ∙ sym (ap (λ c. leads box (clock_of c) left) is)
      ∙ h,
)

-- none is
no-more : (box : Box) (clock : ℕ) (left rest : List Cause) (cause : Cause) (all : Option Box) → left ≡ cause ∷ rest
    → box_after box (step_at clock cause) ≡ None → leads box clock left ≡ all → all ≡ None
no-more box clock left rest cause all e none h =
    sym h ∙ step-first box clock left rest cause e ∙ ap (option_and_then (λ b. leads b (clock + 1) rest)) none

pub none_entered : (box next : Box) (now : Option ℕ) (clock : ℕ) (left rest : List Cause) (cause : Cause) (made : Bool) (all : Option Box) → left ≡ cause ∷ rest
    → now ≡ Some clock → IsEntered made (box_after box (step_at clock cause)) next → made ≡ false → leads box (clock_of now) left ≡ all → all ≡ None
none_entered box next now clock left rest cause made all e is tells failed h =
    no-more box clock left rest cause all e (not-made (box_after box (step_at clock cause)) next made tells failed)
    (sym (ap (λ c. leads box (clock_of c) left) is) ∙ h)

pub none_later : (box : Box) (next : Option ℕ) (left rest : List Cause) (cause : Cause) (all : Option Box) → left ≡ cause ∷ rest → next ≡ None
    → leads box (clock_of next) left ≡ all → all ≡ None
none_later box next left rest cause all e none h =
    no-more box (greatest_stamp + 1) left rest cause all e (too-late box cause) (sym (ap (λ c. leads box (clock_of c) left) none) ∙ h)

-- all are
pub all_entered : (box : Box) (clock : ℕ) (left : List Cause) (all : Option Box) → left ≡ [] → leads box clock left ≡ all → all ≡ Some box
unfolding entries_from
all_entered box clock left all e h = sym h ∙ ap (leads box clock) e
