-- The next receipt of a caller, with the marks and the last steps of those before it.
use Rattle.std.proofs.Common.{◌≡◌, ◌≢◌, ℕ, zero, suc, ◌+◌, ◌<◌, ◌≤◌, Bool, true, false, ◌&&◌, ◌||◌, List, [], ◌∷◌, ◌++◌, ◌==◌, if◌then◌else◌, Option, Some, None, length, map, max, refl, sym, ap, ◌∙◌, subst, arith, option_map, replicate, slice_get, slice_index_or, slice_set, take}
use Rattle.std.proofs.lemmas.Bool.Decides.{nat_tests}
use Rattle.std.proofs.lemmas.List.{get_or-set_other, get_or-set_same, length-set, take_more}
use Rattle.std.proofs.lemmas.Option.{get_or_from_slice_get, slice_get-map, slice_get_read, slice_get_within}
use Rattle.shm_model.specs.Log.{Logged, log_of}
use Rattle.shm_model.specs.Receipt.{Receipt, IsTrueOf, ReceiptsHold, of_all}
use Rattle.shm_logs.specs.Auditing.Cause.{receipts_to, IsFirstReceipt}
use Rattle.shm_logs.specs.Auditing.Marks.{mark_at, marked, next_index, next_of, AreLast, IsNext, MarksName}
use Rattle.shm_logs.proofs.Audits.Lookups.{site-below}
use Rattle.shm_logs.proofs.Audits.ReceiptLemmas.{holds-less, holds-more, named-push, next-push, of-all-more, Next}

pub map-read : {X Y : Type 0} (f : X → Y) (xs : List X) (i : ℕ) (x : X) → i < length xs → x ≡ slice_index_or xs i x → slice_get (map f xs) i ≡ Some (f x)
map-read f xs i x below read = slice_get-map f xs i ∙ ap (option_map f) (slice_get_read xs (length xs) i x refl below read)

pub take-next : {X : Type 0} (xs : List X) (i : ℕ) (x : X) → slice_get xs i ≡ Some x → take (i + 1) xs ≡ take i xs ++ x ∷ []
take-next xs i x h = take_more xs i x (slice_get_within xs i x h) ∙ ap (λ y. take i xs ++ y ∷ []) (get_or_from_slice_get xs i x x h)

pub same-at : (n s : ℕ) (o : Option ℕ) → slice_index_or (replicate n o) s o ≡ o
same-at zero s o = refl
same-at (suc n) zero o = refl
same-at (suc n) (suc s) o = same-at n s o

-- a receipt that is true tells of one of 16 sites
below-16 : (logs : List (List Logged)) (r : Receipt) → length logs ≤ 16 → IsTrueOf logs r → r.site < 16
below-16 logs r few h = let b = site-below logs r.site r.index h.step h.named in omega arith

module _ (logs : List (List Logged)) (marks : List (List Bool)) (last : List (Option ℕ)) (front : List (List Receipt)) (own : List Receipt) (r : Receipt)
    (few : length logs ≤ 16) (names : MarksName logs marks (of_all (front ++ own ∷ []))) (lasts : AreLast last own) where
  pub is-next : Next logs front own r → IsNext logs marks last r
  is-next n =
      let same : next_of (slice_index_or last r.site None) ≡ next_index r.site own = lasts r.site (below-16 logs r few n.tells) in
      record { true_of = n.tells; new = names.named r.site r.index ∙ n.new; rises = subst (λ k. k ≤ r.index) (sym same) n.above }

  pub next-is : IsNext logs marks last r → Next logs front own r
  next-is n =
      let same : next_of (slice_index_or last r.site None) ≡ next_index r.site own = lasts r.site (below-16 logs r few n.true_of) in
      record { tells = n.true_of; new = sym (names.named r.site r.index) ∙ n.new; above = subst (λ k. k ≤ r.index) same n.rises }

has-row : (marks : List (List Bool)) (s i : ℕ) → i < length (slice_index_or marks s []) → s < length marks
has-row [] s i h = absurd (omega arith)
has-row (row ∷ marks) zero i h = omega arith
has-row (row ∷ marks) (suc s) i h = let b = has-row marks s i h in omega arith

differs : (m n : ℕ) → (m == n) ≡ false → n ≢ m
differs m n h e = grind (arith, nat_tests)

row-marked : (marks : List (List Bool)) (s i t : ℕ) (same : Bool) → (s == t) ≡ same → s < length marks
    → length (slice_index_or (marked marks s i) t []) ≡ length (slice_index_or marks t [])
row-marked marks s i t true e below =
    let st : s ≡ t = grind (arith, nat_tests) in
    subst (λ u. length (slice_index_or (marked marks s i) u []) ≡ length (slice_index_or marks u [])) st
    (ap length (get_or-set_same marks s (slice_set (slice_index_or marks s []) i true) [] below) ∙ length-set (slice_index_or marks s []) i true)
row-marked marks s i t false e below = ap length (get_or-set_other marks s t (slice_set (slice_index_or marks s []) i true) [] (differs s t e))

bit-set : (row : List Bool) (i j : ℕ) (same : Bool) → (i == j) ≡ same → i < length row → slice_index_or (slice_set row i true) j false ≡ ((i == j) || slice_index_or row j false)
bit-set row i j true e below =
    let ij : i ≡ j = grind (arith, nat_tests) in
    subst (λ k. slice_index_or (slice_set row i true) k false ≡ true) ij (get_or-set_same row i true false below) ∙ ap (λ b. b || slice_index_or row j false) (sym e)
bit-set row i j false e below = get_or-set_other row i j true false (differs i j e) ∙ ap (λ b. b || slice_index_or row j false) (sym e)

mark-marked : (marks : List (List Bool)) (s i t j : ℕ) (same : Bool) → (s == t) ≡ same → s < length marks → i < length (slice_index_or marks s [])
    → mark_at (marked marks s i) t j ≡ (((s == t) && (i == j)) || mark_at marks t j)
mark-marked marks s i t j true e below inside =
    let st : s ≡ t = grind (arith, nat_tests) in
    subst (λ u. mark_at (marked marks s i) u j ≡ ((i == j) || mark_at marks u j)) st
    (ap (λ row. slice_index_or row j false) (get_or-set_same marks s (slice_set (slice_index_or marks s []) i true) [] below) ∙ bit-set (slice_index_or marks s []) i j (i == j) refl inside)
    ∙ ap (λ b. (b && (i == j)) || mark_at marks t j) (sym e)
mark-marked marks s i t j false e below inside =
    ap (λ row. slice_index_or row j false) (get_or-set_other marks s t (slice_set (slice_index_or marks s []) i true) [] (differs s t e))
    ∙ ap (λ b. (b && (i == j)) || mark_at marks t j) (sym e)

pub marks-next : (logs : List (List Logged)) (marks : List (List Bool)) (rs : List Receipt) (r : Receipt) → MarksName logs marks rs → IsTrueOf logs r
    → MarksName logs (marked marks r.site r.index) (rs ++ r ∷ [])
marks-next logs marks rs r names h =
    let inside : r.index < length (slice_index_or marks r.site []) = omega (arith, names.rows r.site, slice_get_within (log_of logs r.site) r.index h.step h.named) in
    let below = has-row marks r.site r.index inside in
    record {
      rows = λ t. row-marked marks r.site r.index t (r.site == t) refl below ∙ names.rows t;
      named = λ t j. mark-marked marks r.site r.index t j (r.site == t) refl below inside
          ∙ ap (λ b. ((r.site == t) && (r.index == j)) || b) (names.named t j) ∙ sym (named-push rs r t j);
    }

last-here : (last : List (Option ℕ)) (own : List Receipt) (r : Receipt) (s : ℕ) (same : Bool) → (r.site == s) ≡ same → r.site < length last
    → next_of (slice_index_or last s None) ≡ next_index s own → next_of (slice_index_or last r.site None) ≤ r.index
    → next_of (slice_index_or (slice_set last r.site (Some r.index)) s None) ≡ (if r.site == s then max (r.index + 1) (next_index s own) else next_index s own)
last-here last own r s true e below so above =
    let rs : r.site ≡ s = grind (arith, nat_tests) in
    let small : next_of (slice_index_or last s None) ≤ r.index = subst (λ u. next_of (slice_index_or last u None) ≤ r.index) rs above in
    let top : r.index + 1 ≡ max (r.index + 1) (next_index s own) = omega arith in
    subst (λ u. next_of (slice_index_or (slice_set last r.site (Some r.index)) u None) ≡ r.index + 1) rs (ap next_of (get_or-set_same last r.site (Some r.index) None below))
    ∙ top ∙ ap (λ b. if b then max (r.index + 1) (next_index s own) else next_index s own) (sym e)
last-here last own r s false e below so above =
    ap next_of (get_or-set_other last r.site s (Some r.index) None (differs r.site s e)) ∙ so
    ∙ ap (λ b. if b then max (r.index + 1) (next_index s own) else next_index s own) (sym e)

pub last-next : (last : List (Option ℕ)) (own : List Receipt) (r : Receipt) → length last ≡ 16 → AreLast last own → r.site < 16
    → next_of (slice_index_or last r.site None) ≤ r.index → AreLast (slice_set last r.site (Some r.index)) (own ++ r ∷ [])
last-next last own r len lasts below above s b =
    last-here last own r s (r.site == s) refl (omega arith) (lasts s b) above ∙ sym (next-push own r s)

module _ (logs : List (List Logged)) (callers : List (List Receipt)) (caller i : ℕ) (marks : List (List Bool)) (last : List (Option ℕ)) (r : Receipt)
    (few : length logs ≤ 16) (found : slice_get (slice_index_or callers caller []) i ≡ Some r) (held : ReceiptsHold logs (receipts_to callers caller i))
    (names : MarksName logs marks (of_all (receipts_to callers caller i))) (lasts : AreLast last (take i (slice_index_or callers caller []))) where
  abbrev front : List (List Receipt)
  front = take caller callers

  abbrev own : List Receipt
  own = take i (slice_index_or callers caller [])

  taken : take (i + 1) (slice_index_or callers caller []) ≡ own ++ r ∷ []
  taken = take-next (slice_index_or callers caller []) i r found

  pub forged-so : (s j : ℕ) → r.site ≡ s → r.index ≡ j → (IsNext logs marks last r → ⊥) → IsFirstReceipt logs callers s j
  forged-so s j at index never = record {
    caller = caller;
    place = i;
    receipt = r;
    found = found;
    site = at;
    index = index;
    before = held;
    not_with = λ h. never (is-next logs marks last front own r few names lasts
        (holds-less logs front own r (subst (λ rs. ReceiptsHold logs (front ++ rs ∷ [])) taken h)));
  }

  pub held-so : IsNext logs marks last r → ReceiptsHold logs (receipts_to callers caller (i + 1))
  held-so n =
      let next = next-is logs marks last front own r few names lasts n in
      subst (λ rs. ReceiptsHold logs (front ++ rs ∷ [])) (sym taken) (holds-more logs front own r held next.tells next.new next.above)

  pub named-so : IsNext logs marks last r → MarksName logs (marked marks r.site r.index) (of_all (receipts_to callers caller (i + 1)))
  named-so n =
      subst (λ rs. MarksName logs (marked marks r.site r.index) (of_all (front ++ rs ∷ []))) (sym taken)
      (subst (MarksName logs (marked marks r.site r.index)) (sym (of-all-more front own r)) (marks-next logs marks (of_all (front ++ own ∷ [])) r names n.true_of))

  pub last-so : IsNext logs marks last r → length last ≡ 16 → AreLast (slice_set last r.site (Some r.index)) (take (i + 1) (slice_index_or callers caller []))
  last-so n len =
      subst (AreLast (slice_set last r.site (Some r.index))) (sym taken) (last-next last own r len lasts (below-16 logs r few n.true_of) n.rises)
