-- Receipts for lines, one after another.
use Rattle.std.proofs.Common.{◌≡◌, ◌∙◌, ℕ, ◌+◌, ◌<◌, ◌==◌, Bool, true, false, cond, List, [], ◌∷◌, ◌++◌, length, take, get_or, ap, refl, sym, subst}
use Rattle.std.specs.Prelude.{MatchBool}
use Rattle.std.specs.List.{AllZip, filter}
use Rattle.std.proofs.lemmas.List.{append-nil, take_more}
use Rattle.std.proofs.lemmas.List.Elements.{filter-append}
use Rattle.shm_logs.specs.declared.site_boxes.receipt.Receipt.{Receipt}
use Rattle.shm_lines.specs.declared.workload_access.WorkloadAccess.{WorkloadAccess}
use Rattle.shm_report.specs.Callers.{Adds, Serves, ServesAll}

zip-push : (xs : List WorkloadAccess) (ys : List Receipt) (x : WorkloadAccess) (y : Receipt) → AllZip Serves xs ys → Serves x y → AllZip Serves (xs ++ x ∷ []) (ys ++ y ∷ [])
zip-push [] [] x y h r = (r, tt)
zip-push [] (q ∷ qs) x y h r = absurd h
zip-push (p ∷ ps) [] x y h r = absurd h
zip-push (p ∷ ps) (q ∷ qs) x y (h, hs) r = (h, zip-push ps qs x y hs r)

onto : (xs ls : List WorkloadAccess) (old new : List Receipt) → ls ≡ xs → new ≡ old → AllZip Serves xs old → AllZip Serves ls new
onto xs ls old new lines receipts h =
    let P : List WorkloadAccess → Type 0 = λ zs. AllZip Serves zs new in
    let Q : List Receipt → Type 0 = λ rs. AllZip Serves xs rs in
    subst P (sym lines) (subst Q (sym receipts) h)

with_one : (test : WorkloadAccess → Bool) (xs : List WorkloadAccess) (access : WorkloadAccess) (old new : List Receipt) (b : Bool) → test access ≡ b → AllZip Serves (filter test xs) old
    → MatchBool b ((receipt : Receipt) × (new ≡ old ++ receipt ∷ []) × Serves access receipt) (new ≡ old) → AllZip Serves (filter test (xs ++ access ∷ [])) new
with_one test xs access old new true is before (receipt, pushed, serves) =
    onto
    (filter test xs ++ access ∷ []) (filter test (xs ++ access ∷ [])) (old ++ receipt ∷ []) new
    (filter-append test xs (access ∷ []) ∙ ap (λ b. filter test xs ++ cond b (access ∷ []) []) is) pushed
    (zip-push (filter test xs) old access receipt before serves)
with_one test xs access old new false is before same =
    onto
    (filter test xs) (filter test (xs ++ access ∷ [])) old new
    (filter-append test xs (access ∷ []) ∙ ap (λ b. filter test xs ++ cond b (access ∷ []) []) is ∙ append-nil (filter test xs)) same before

pub one_call : (site : ℕ) (accesses : List WorkloadAccess) (place : ℕ) (access : WorkloadAccess) (old new : List Receipt) → place < length accesses → access ≡ get_or accesses place access
    → ServesAll site (take place accesses) old → Adds site access old new → ServesAll site (take (place + 1) accesses) new
one_call site accesses place access old new in' read before adds =
    let more : take (place + 1) accesses ≡ take place accesses ++ access ∷ [] =
    take_more accesses place access in' ∙ ap (λ a. take place accesses ++ a ∷ []) (sym read) in
    let P : List WorkloadAccess → Type 0 = λ xs. ServesAll site xs new in
    subst P (sym more) (with_one (λ (a : WorkloadAccess). a.site == site) (take place accesses) access old new (access.site == site) refl before adds)
