-- One more receipt of a caller: when the receipts still hold.
use Rattle.std.proofs.Common.{◌≡◌, ℕ, ◌+◌, ◌<◌, ◌≤◌, Bool, true, false, ◌&&◌, ◌||◌, List, [], ◌∷◌, ◌++◌, ◌==◌, if◌then◌else◌, Some, max, refl, sym, ap, ◌∙◌, subst, arith, slice_get}
use Rattle.std.specs.List.{All, AllPairs}
use Rattle.std.proofs.lemmas.Bool.Decides.{nat_tests}
use Rattle.std.proofs.lemmas.Grind.{flat_map-append}
use Rattle.std.proofs.lemmas.List.{append_assoc, append-nil}
use Rattle.std.proofs.lemmas.List.Elements.{All-push}
use Rattle.std.proofs.lemmas.List.Quantifiers.{all_pairs_push}
use Rattle.std.proofs.lemmas.Option.{same_Some}
use Rattle.shm_model.specs.Log.{Logged, log_of}
use Rattle.shm_model.specs.Receipt.{Receipt, IsTrueOf, ReceiptsHold, access, of_all, same_step}
use Rattle.shm_logs.specs.Auditing.Marks.{has_receipt, next_index}
use Rattle.shm_logs.proofs.Audits.AllLemmas.{all-cons, all-first, all-front, all-last, all-none, all-rest, pairs-last}

pub answered-so : (logs : List (List Logged)) (r : Receipt) (l : Logged) → slice_get (log_of logs r.site) r.index ≡ Some l → IsTrueOf logs r → l.answer ≡ r.answer
answered-so logs r l found h = ap (λ k. k.answer) (same_Some l h.step (sym found ∙ h.named)) ∙ h.answered

pub asked-so : (logs : List (List Logged)) (r : Receipt) (l : Logged) → slice_get (log_of logs r.site) r.index ≡ Some l → IsTrueOf logs r → access l.input ≡ r.asked
asked-so logs r l found h = ap (λ k. access k.input) (same_Some l h.step (sym found ∙ h.named)) ∙ h.asked

abbrev Apart : Receipt → Receipt → Type 0
Apart r q = same_step q r ≡ false

abbrev Rises : Receipt → Receipt → Type 0
Rises q r = q.site ≡ r.site → q.index < r.index

or-false : (a b : Bool) → (a || b) ≡ false → (a ≡ false) × (b ≡ false)
or-false true b h = cc
or-false false b h = (refl, h)

pub named-none : (rs : List Receipt) (r : Receipt) → has_receipt rs r.site r.index ≡ false → All (Apart r) rs
named-none [] r h = all-none (Apart r)
named-none (q ∷ qs) r h =
    let both = or-false (same_step q r) (has_receipt qs r.site r.index) h in
    all-cons (Apart r) q qs both.0 (named-none qs r both.1)

pub none-named : (rs : List Receipt) (r : Receipt) → All (Apart r) rs → has_receipt rs r.site r.index ≡ false
none-named [] r h = refl
none-named (q ∷ qs) r h =
    ap (λ b. b || has_receipt qs r.site r.index) (all-first (Apart r) q qs h) ∙ none-named qs r (all-rest (Apart r) q qs h)

or-swap : (a b c : Bool) → (a || (b || c)) ≡ (b || (a || c))
or-swap true true c = refl
or-swap true false c = refl
or-swap false true c = refl
or-swap false false c = refl

pub named-push : (qs : List Receipt) (r : Receipt) (s i : ℕ) → has_receipt (qs ++ r ∷ []) s i ≡ (((r.site == s) && (r.index == i)) || has_receipt qs s i)
named-push [] r s i = refl
named-push (q ∷ qs) r s i =
    ap (λ b. ((q.site == s) && (q.index == i)) || b) (named-push qs r s i)
    ∙ or-swap ((q.site == s) && (q.index == i)) ((r.site == s) && (r.index == i)) (has_receipt qs s i)

abbrev next : Bool → ℕ → ℕ → ℕ
next same i n = if same then max (i + 1) n else n

above-both : (same : Bool) (q s j i n : ℕ) → (q == s) ≡ same → next same j n ≤ i → (q ≡ s → j < i) × (n ≤ i)
above-both true q s j i n e h = (λ _. omega arith, omega arith)
above-both false q s j i n e h = (λ w. grind (arith, nat_tests), h)

both-above : (same : Bool) (q s j i n : ℕ) → (q == s) ≡ same → (q ≡ s → j < i) → n ≤ i → next same j n ≤ i
both-above true q s j i n e h k = let w : q ≡ s = grind (arith, nat_tests) in let b : j < i = h w in omega arith
both-above false q s j i n e h k = k

pub next-above : (qs : List Receipt) (r : Receipt) → next_index r.site qs ≤ r.index → All (λ q. Rises q r) qs
next-above [] r h = all-none (λ q. Rises q r)
next-above (q ∷ qs) r h =
    let both = above-both (q.site == r.site) q.site r.site q.index r.index (next_index r.site qs) refl h in
    all-cons (λ p. Rises p r) q qs both.0 (next-above qs r both.1)

pub above-next : (qs : List Receipt) (r : Receipt) → All (λ q. Rises q r) qs → next_index r.site qs ≤ r.index
above-next [] r h = omega arith
above-next (q ∷ qs) r h =
    both-above (q.site == r.site) q.site r.site q.index r.index (next_index r.site qs) refl (all-first (λ p. Rises p r) q qs h) (above-next qs r (all-rest (λ p. Rises p r) q qs h))

next-swap : (a b : Bool) (i j n : ℕ) → next a i (next b j n) ≡ next b j (next a i n)
next-swap true true i j n = omega arith
next-swap true false i j n = refl
next-swap false true i j n = refl
next-swap false false i j n = refl

pub next-push : (qs : List Receipt) (r : Receipt) (s : ℕ) → next_index s (qs ++ r ∷ []) ≡ (if r.site == s then max (r.index + 1) (next_index s qs) else next_index s qs)
next-push [] r s = refl
next-push (q ∷ qs) r s = ap (next (q.site == s) q.index) (next-push qs r s) ∙ next-swap (q.site == s) (r.site == s) q.index r.index (next_index s qs)

pub of-all-own : (front : List (List Receipt)) (own : List Receipt) → of_all (front ++ own ∷ []) ≡ of_all front ++ own
of-all-own front own = flat_map-append (λ rs. rs) front (own ∷ []) ∙ ap (λ rs. of_all front ++ rs) (append-nil own)

pub of-all-more : (front : List (List Receipt)) (own : List Receipt) (r : Receipt) → of_all (front ++ (own ++ r ∷ []) ∷ []) ≡ of_all (front ++ own ∷ []) ++ r ∷ []
of-all-more front own r =
    of-all-own front (own ++ r ∷ []) ∙ sym (append_assoc (of_all front) own (r ∷ [])) ∙ ap (λ rs. rs ++ r ∷ []) (sym (of-all-own front own))

pub holds-more : (logs : List (List Logged)) (front : List (List Receipt)) (own : List Receipt) (r : Receipt) → ReceiptsHold logs (front ++ own ∷ [])
    → IsTrueOf logs r → has_receipt (of_all (front ++ own ∷ [])) r.site r.index ≡ false → next_index r.site own ≤ r.index → ReceiptsHold logs (front ++ (own ++ r ∷ []) ∷ [])
holds-more logs front own r h tells new above =
    let all = of_all (front ++ own ∷ []) in
    let more = sym (of-all-more front own r) in
    record {
      tell = subst (All (IsTrueOf logs)) more (All-push (IsTrueOf logs) all r h.tell tells);
      once = subst (AllPairs (λ q p. same_step q p ≡ false)) more (all_pairs_push (λ q p. same_step q p ≡ false) all r h.once (λ k d b. named-none all r new k d b));
      rise = All-push (AllPairs Rises) front (own ++ r ∷ []) (all-front (AllPairs Rises) front (own ∷ []) h.rise)
          (all_pairs_push Rises own r (all-last (AllPairs Rises) front own h.rise) (λ k d b. next-above own r above k d b));
    }

pub record Next (logs : List (List Logged)) (front : List (List Receipt)) (own : List Receipt) (r : Receipt) : Type 0 where
  pub tells : IsTrueOf logs r
  pub new : has_receipt (of_all (front ++ own ∷ [])) r.site r.index ≡ false
  pub above : next_index r.site own ≤ r.index

pub holds-less : (logs : List (List Logged)) (front : List (List Receipt)) (own : List Receipt) (r : Receipt) → ReceiptsHold logs (front ++ (own ++ r ∷ []) ∷ []) → Next logs front own r
holds-less logs front own r h =
    let all = of_all (front ++ own ∷ []) in
    let more = of-all-more front own r in
    record {
      tells = all-last (IsTrueOf logs) all r (subst (All (IsTrueOf logs)) more h.tell);
      new = none-named all r (pairs-last (λ q p. same_step q p ≡ false) all r (subst (AllPairs (λ q p. same_step q p ≡ false)) more h.once));
      above = above-next own r (pairs-last Rises own r (all-last (AllPairs Rises) front (own ++ r ∷ []) h.rise));
    }

pub holds-begun : (logs : List (List Logged)) (front : List (List Receipt)) → ReceiptsHold logs front → ReceiptsHold logs (front ++ [] ∷ [])
holds-begun logs front h =
    let same : of_all front ≡ of_all (front ++ [] ∷ []) = sym (of-all-own front [] ∙ append-nil (of_all front)) in
    record {
      tell = subst (All (IsTrueOf logs)) same h.tell;
      once = subst (AllPairs (λ q p. same_step q p ≡ false)) same h.once;
      rise = All-push (AllPairs Rises) front [] h.rise (λ i j d a b. absurd (omega arith));
    }

pub holds-none : (logs : List (List Logged)) → ReceiptsHold logs []
holds-none logs = record {
  tell = all-none (IsTrueOf logs);
  once = λ i j d a b. absurd (omega arith);
  rise = all-none (AllPairs Rises);
}
