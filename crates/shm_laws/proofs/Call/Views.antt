-- How the sites' views change with one desk, and what a call's number says against the one that is kept.
use Rattle.std.proofs.Common.{◌≡◌, ℕ, ◌<◌, ◌≤◌, Bool, true, false, Option, Some, None, if◌then◌else◌, refl, ap, ◌∙◌, arith, ◌==◌, nat_lt}
use Rattle.std.proofs.Math.Path.{fun_ext}
use Rattle.std.proofs.lemmas.Bool.Decides.{nat_tests}
use Rattle.shm_model.specs.declared.call.Reply.{Reply}
use Rattle.shm_model.specs.Basics.{at}
use Rattle.shm_model.specs.Calls.{Fresh, Again, Old, Kept, freshness}
use Rattle.shm_laws.proofs.Call.Turn.{Desk}
use Rattle.shm_laws.proofs.Call.Invariant.{View, kept_number, view_of}

-- a changed desk is a changed view
at-field-if : {X : Type 0} (g : Desk → X) (b : Bool) (x y : Desk) → g (if b then x else y) ≡ (if b then g x else g y)
at-field-if g true x y = refl
at-field-if g false x y = refl

pub at-field : {X : Type 0} (g : Desk → X) (d : ℕ → Desk) (s : ℕ) (x : Desk) → (λ t. g (at d s x t)) ≡ at (λ t. g (d t)) s (g x)
at-field g d s x = fun_ext (λ t. at-field-if g (s == t) x (d t))

at-same-if : {X : Type 0} (f : ℕ → X) (s t : ℕ) (b : Bool) → (s == t) ≡ b → (if b then f s else f t) ≡ f t
at-same-if f s t true is = let same : s ≡ t = grind (arith, nat_tests) in ap f same
at-same-if f s t false is = refl

pub at-same : {X : Type 0} (f : ℕ → X) (s : ℕ) → at f s (f s) ≡ f
at-same f s = fun_ext (λ t. at-same-if f s t (s == t) refl)

-- a field that doesn't change
pub field-same : {X : Type 0} (g : Desk → X) (d : ℕ → Desk) (s : ℕ) (x : Desk) → g x ≡ g (d s) → ◌≡◌ {A = ℕ → X} (λ t. g (at d s x t)) (λ t. g (d t))
field-same g d s x same = at-field g d s x ∙ (ap (λ y. at (λ t. g (d t)) s y) same ∙ at-same (λ t. g (d t)) s)

view-equal : (v w : View) → v.calls ≡ w.calls → v.outstanding ≡ w.outstanding → v.kept ≡ w.kept → v.table ≡ w.table → v ≡ w
view-equal v w calls outstanding kept table =
    ap (λ x. record v { calls = x }) calls ∙ (ap (λ x. record v { calls = w.calls; outstanding = x }) outstanding
    ∙ (ap (λ x. record w { kept = x; table = v.table }) kept ∙ ap (λ x. record w { table = x }) table))

pub view-same : (d : ℕ → Desk) (s : ℕ) (x : Desk) → x.calls ≡ (d s).calls → x.outstanding ≡ (d s).outstanding → x.kept ≡ (d s).kept → x.table ≡ (d s).table
    → view_of (at d s x) ≡ view_of d
view-same d s x calls outstanding kept table =
    view-equal _ _ (field-same (λ y. y.calls) d s x calls) (field-same (λ y. y.outstanding) d s x outstanding)
    (field-same (λ y. y.kept) d s x kept) (field-same (λ y. y.table) d s x table)

pub view-begun : (d : ℕ → Desk) (s : ℕ) (x : Desk) → x.kept ≡ (d s).kept → x.table ≡ (d s).table
    → view_of (at d s x) ≡ record (view_of d) { calls = at (view_of d).calls s x.calls; outstanding = at (view_of d).outstanding s x.outstanding }
view-begun d s x kept table =
    view-equal _ _ (at-field (λ y. y.calls) d s x) (at-field (λ y. y.outstanding) d s x)
    (field-same (λ y. y.kept) d s x kept) (field-same (λ y. y.table) d s x table)

pub view-ended : (d : ℕ → Desk) (s : ℕ) (x : Desk) → x.calls ≡ (d s).calls → x.kept ≡ (d s).kept → x.table ≡ (d s).table
    → view_of (at d s x) ≡ record (view_of d) { outstanding = at (view_of d).outstanding s x.outstanding }
view-ended d s x calls kept table =
    view-equal _ _ (field-same (λ y. y.calls) d s x calls) (at-field (λ y. y.outstanding) d s x)
    (field-same (λ y. y.kept) d s x kept) (field-same (λ y. y.table) d s x table)

pub view-executed : (d : ℕ → Desk) (s : ℕ) (x : Desk) → x.calls ≡ (d s).calls → x.outstanding ≡ (d s).outstanding
    → view_of (at d s x) ≡ record (view_of d) { kept = at (view_of d).kept s x.kept; table = at (view_of d).table s x.table }
view-executed d s x calls outstanding =
    view-equal _ _ (field-same (λ y. y.calls) d s x calls) (field-same (λ y. y.outstanding) d s x outstanding)
    (at-field (λ y. y.kept) d s x) (at-field (λ y. y.table) d s x)

-- a number against the one that is kept
fresh-tests : (a b : Bool) (reply : Reply) → (if a then Old else if b then Again reply else Fresh) ≡ Fresh → (a ≡ false) × (b ≡ false)
fresh-tests true b reply is = cc
fresh-tests false true reply is = cc
fresh-tests false false reply is = (refl, refl)

pub fresh-above : (k : Option Kept) (n : ℕ) → 0 < n → freshness k n ≡ Fresh → kept_number k < n
fresh-above None n least is = least
fresh-above (Some k) n least is = let h = fresh-tests (nat_lt n k.number) (n == k.number) k.reply is in grind (arith, nat_tests)

again-tests : (a b : Bool) (kept reply : Reply) → (if a then Old else if b then Again kept else Fresh) ≡ Again reply → (b ≡ true) × (kept ≡ reply)
again-tests true b kept reply is = cc
again-tests false true kept reply is = (refl, cc)
again-tests false false kept reply is = cc

none-tests : (b : Bool) (reply : Reply) → (if b then Old else Fresh) ≡ Again reply → ⊥
none-tests true reply is = cc
none-tests false reply is = cc

pub again-kept : (k : Option Kept) (n : ℕ) (reply : Reply) → freshness k n ≡ Again reply → (x : Kept) × (k ≡ Some x) × (x.number ≡ n) × (x.reply ≡ reply)
again-kept None n reply is = absurd (none-tests (n == 0) reply is)
again-kept (Some k) n reply is = let h = again-tests (nat_lt n k.number) (n == k.number) k.reply reply is in (k, refl, (let e = h.0 in grind (arith, nat_tests)), h.1)

old-tests : (a b : Bool) (reply : Reply) → (if a then Old else if b then Again reply else Fresh) ≡ Old → a ≡ true
old-tests true b reply is = refl
old-tests false true reply is = cc
old-tests false false reply is = cc

old-none : (b : Bool) → (if b then Old else Fresh) ≡ Old → b ≡ true
old-none true is = refl
old-none false is = cc

pub old-below : (k : Option Kept) (n : ℕ) → 0 < n → freshness k n ≡ Old → n ≤ kept_number k
old-below None n least is = let h = old-none (n == 0) is in grind (arith, nat_tests)
old-below (Some k) n least is = let h = old-tests (nat_lt n k.number) (n == k.number) k.reply is in grind (arith, nat_tests)
