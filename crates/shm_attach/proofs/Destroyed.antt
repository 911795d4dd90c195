-- Which calls on a table destroy the segment that they name.
use Rattle.std.proofs.Common.{◌≡◌, ◌∙◌, sym, ℕ, ◌+◌, Bool, true, false, not, ◌&&◌, ◌==◌, if◌then◌else◌, List, [], ◌∷◌, Option, Some, None, ap, refl, arith, ⊎_elim}
use Rattle.std.proofs.lemmas.Bool.{cases_Bool, cases_eq, eq-eqb, ne_eqb}
use Rattle.std.proofs.lemmas.Option.{same_Some, none-some}
use Rattle.shm_model.specs.Basics.{greatest}
use Rattle.shm_model.specs.Permission.{Segment, destroyed, may_attach, is_owner}
use Rattle.shm_model.specs.Kernel.{Called, with_id, replaced, is_destroyed, destroyed_in, on_live, attach, set}
use Rattle.shm_model.specs.declared.call.Cred.{Cred}
use Rattle.shm_keys.proofs.Segments.{with_id_replaced}

both_no : (id : ℕ) (b : Bool) → ◌≡◌ {A = Option ℕ} (if b && not b then Some id else None) None
both_no id true = refl
both_no id false = refl

pub unchanged : (id : ℕ) (s : List Segment) → destroyed_in (Some id) s s ≡ None
unchanged id s = both_no id (is_destroyed (with_id id s))

pub found_id : (id : ℕ) (s : List Segment) (g : Segment) → with_id id s ≡ Some g → g.id ≡ id
found_id id [] g found = absurd (none-some g found)
found_id id (h ∷ s) g found =
    ⊎_elim (λ (here : id ≡ h.id).
    let first : with_id id (h ∷ s) ≡ Some h = rw (eq-eqb id h.id here) refl in
    ap (λ (k : Segment). k.id) (same_Some g h (sym found ∙ first)) ∙ sym here)
    (λ (there : id ≡ h.id → ⊥).
    let rest : with_id id (h ∷ s) ≡ with_id id s = rw (ne_eqb id h.id there) refl in
    found_id id s g (sym rest ∙ found))
    (cases_eq id h.id)

pub replaced_alive : (id : ℕ) (s : List Segment) (g new : Segment) → with_id id s ≡ Some g → new.id ≡ id → destroyed new ≡ false → destroyed_in (Some id) s (replaced id new s) ≡ None
replaced_alive id s g new found own alive =
    let later : is_destroyed (with_id id (replaced id new s)) ≡ false = ap is_destroyed (with_id_replaced s id g new found own) ∙ alive in
    ap (λ (b : Bool). if b && not (is_destroyed (with_id id s)) then Some id else None) later

pub on_live_keeps : (id : ℕ) (s : List Segment) (f : Segment → Called) (o : Option Segment) → with_id id s ≡ o → ((g : Segment) → with_id id s ≡ Some g → destroyed g ≡ false → destroyed_in (Some id) s (f g).segments ≡ None) → destroyed_in (Some id) s (on_live o f s).segments ≡ None
on_live_keeps id s f None found keeps = unchanged id s
on_live_keeps id s f (Some g) found keeps =
    ⊎_elim (λ (gone : destroyed g ≡ true). rw gone (unchanged id s))
    (λ (alive : destroyed g ≡ false). rw alive (keeps g found alive))
    (cases_Bool (destroyed g))

one_more : (m : Bool) (n : ℕ) → (m && (n + 1 == 0)) ≡ false
one_more m n =
    let some : (n + 1 == 0) ≡ false = ne_eqb (n + 1) 0 (λ e. absurd (omega (arith, e))) in
    rw some (no_and m)
  where
    no_and : (b : Bool) → (b && false) ≡ false
    no_and true = refl
    no_and false = refl

pub attach_keeps : (cred : Cred) (id : ℕ) (ro : Bool) (s : List Segment) (g : Segment) → with_id id s ≡ Some g → destroyed_in (Some id) s (attach cred id ro g s).segments ≡ None
attach_keeps cred id ro s g found =
    ⊎_elim (λ (may : not (may_attach cred ro g) ≡ true). rw may (unchanged id s))
    (λ (may : not (may_attach cred ro g) ≡ false).
    ⊎_elim (λ (full : (g.nattch == greatest) ≡ true). rw (may, full) (unchanged id s))
    (λ (room : (g.nattch == greatest) ≡ false).
    rw (may, room) (replaced_alive id s g (record g { nattch = g.nattch + 1 }) found (found_id id s g found) (one_more g.marked g.nattch)))
    (cases_Bool (g.nattch == greatest)))
    (cases_Bool (not (may_attach cred ro g)))

pub set_keeps : (cred : Cred) (id uid gid mode : ℕ) (s : List Segment) (g : Segment) → with_id id s ≡ Some g → destroyed g ≡ false → destroyed_in (Some id) s (set cred id uid gid mode g s).segments ≡ None
set_keeps cred id uid gid mode s g found alive =
    ⊎_elim (λ (other : not (is_owner cred g) ≡ true). rw other (unchanged id s))
    (λ (owner : not (is_owner cred g) ≡ false).
    rw owner (replaced_alive id s g (record g { uid = uid; gid = gid; mode = mode }) found (found_id id s g found) alive))
    (cases_Bool (not (is_owner cred g)))
