-- A process warns once.
use Rattle.std.proofs.Common.{◌≡◌, ℕ, ◌||◌, Bool, List, [], Option, None, Some, length, take, refl, ap, sym, subst, ◌∙◌, append-nil}
use Rattle.std.proofs.Math.Seq.{take-length, take-nil}
use Rattle.std.proofs.KnownBytes.{Appends-nil, Appends-trans}
use Rattle.std.specs.Io.KnownBytes.{Appends}
use Rattle.std.specs.Prelude.{Err, Ok, OnErr, OnOk, Result, is_some}
use Rattle.shm_process.proofs.Noting.{stays_noted}
use Rattle.shm_process.specs.Desk.{Desk, cleared, disagreement_in, on_bytes}
use Rattle.shm_process.specs.declared.site_opening.Disagreement.{Disagreement}
use Rattle.shm_journal.specs.Warning.{Warns, warned_if, warning}

pub warns_nothing : (e : Option (List ℕ)) (d : Option Disagreement) → Warns e e d
warns_nothing e d = (0, Appends-nil e)

pub warns_whole : (a b : Option (List ℕ)) (d : Option Disagreement) → Appends a b (warning d) → Warns a b d
warns_whole a b d h = (length (warning d), subst (Appends a b) (sym (take-length (warning d))) h)

-- it was tried to write this text
pub warns_tried : {A B : Type 0} (r : Result A B) (a b : Option (List ℕ)) (d : Option Disagreement) (text : List ℕ) → text ≡ warning d
    → OnOk r (Appends a b text) → OnErr r ((n : ℕ) × Appends a b (take n text)) → Warns a b d
warns_tried (Ok x) a b d text e ok err = warns_whole a b d (subst (Appends a b) e ok)
warns_tried (Err x) a b d text e ok err = (err.0, subst (λ t. Appends a b (take err.0 t)) e err.1)

-- where nothing is there to warn of, nothing was written
none-written : (a b : Option (List ℕ)) → Warns a b None → Appends a b []
none-written a b w = subst (Appends a b) (take-nil w.0) w.1

-- what was warned of before, or now
warns-on : (a b c : Option (List ℕ)) (before after : Option Disagreement) → ((x : Disagreement) → before ≡ Some x → after ≡ Some x)
    → Warns a b before → Warns b c (warned_if (is_some before) after) → Warns a c after
warns-on a b c None after same p q = (q.0, Appends-trans a b c [] (take q.0 (warning after)) (none-written a b p) q.1)
warns-on a b c (Some x) after same p q =
    subst (Warns a c) (sym (same x refl))
    (p.0, subst (Appends a c) (append-nil (take p.0 (warning (Some x)))) (Appends-trans a b c (take p.0 (warning (Some x))) [] p.1 (none-written b c q)))

pub warned_on : (a b c : Option (List ℕ)) (desk next : Desk) (bytes : List ℕ) (warned : Bool) → next ≡ on_bytes desk bytes
    → warned ≡ is_some (disagreement_in desk) → Warns a b (disagreement_in desk) → Warns b c (warned_if warned (disagreement_in next))
    → Warns a c (disagreement_in next)
warned_on a b c desk next bytes warned e is p q =
    warns-on a b c (disagreement_in desk) (disagreement_in next)
    (λ x h. ap disagreement_in e ∙ stays_noted desk bytes x h) p
    (subst (λ w. Warns b c (warned_if w (disagreement_in next))) is q)

-- whether it was done
done-on : (before after : Option Disagreement) → ((x : Disagreement) → before ≡ Some x → after ≡ Some x) → (is_some before || is_some after) ≡ is_some after
done-on None after same = refl
done-on (Some x) after same = sym (ap is_some (same x refl))

pub warned_done : (desk next : Desk) (bytes : List ℕ) (warned now : Bool) → next ≡ on_bytes desk bytes → warned ≡ is_some (disagreement_in desk)
    → now ≡ (warned || is_some (disagreement_in next)) → now ≡ is_some (disagreement_in next)
warned_done desk next bytes warned now e is made =
    made ∙ ap (λ w. w || is_some (disagreement_in next)) is
    ∙ done-on (disagreement_in desk) (disagreement_in next) (λ x h. ap disagreement_in e ∙ stays_noted desk bytes x h)

-- what was published is still noted
pub still_noted : (desk next : Desk) → next ≡ cleared desk → disagreement_in desk ≡ disagreement_in next
still_noted desk next e = sym (ap disagreement_in e)
