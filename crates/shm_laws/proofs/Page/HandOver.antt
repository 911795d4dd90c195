-- The owner hands the page over to write: it keeps the bytes, and lets go of the page.
use Rattle.std.proofs.Common.{◌≡◌, ◌≢◌, ℕ, ◌<◌, ◌≤◌, ◌⊎◌, inl, inr, true, false, List, arith, refl, sym, ◌∙◌, ap, subst}
use Rattle.std.proofs.lemmas.Bool.{cases_eq, false_from_ne_true}
use Rattle.std.proofs.lemmas.Bool.Decides.{nat_tests}
use Rattle.shm_model.specs.declared.request_kind.Kind.TheVariants.{Write}
use Rattle.shm_model.specs.Entry.{Entry, Nil, Copy, OwnRead, OwnWrite, Handed, Note, bytes, is_copy, owned, readable, seen, writable}
use Rattle.shm_model.specs.Basics.{at}
use Rattle.shm_laws.proofs.Page.View.{View, InFlight, Holds, Fits, with_entry_at}
use Rattle.shm_laws.proofs.Page.Entry.{all_met-after, at-here, false-true}
use Rattle.shm_laws.proofs.Page.Hand.{HandNow, now-here, met-here, met-after, in-limit, not-handed, keeps}
use Rattle.shm_laws.proofs.Page.Keep.{readable-is}

-- a writer owns the page
pub writable-owned : (e : Entry) → writable e ≡ true → owned e ≡ true
writable-owned (Nil m) w = absurd (false-true w)
writable-owned (Copy m x) w = absurd (false-true w)
writable-owned (OwnRead m x) w = absurd (false-true w)
writable-owned (OwnWrite m x) w = refl
writable-owned (Handed m to x) w = absurd (false-true w)

module _ (Now : List ℕ → Type 0) (v : View) (h : Holds Now v) (n q d : ℕ) (above : seen (v.entries d) < n) (own : owned (v.entries d) ≡ true)
    (c : HandNow v n Write q d) (other : q ≢ d) (b : List ℕ) (same : b ≡ bytes (v.entries d)) where
  -- the requester hasn't met the number yet
  requester-behind : v.book.number ≤ seen (v.entries q) → ⊥
  requester-behind m = grind (arith, h.owner_first Write q c.runs m, c.owner, c.number)

  owned-is-here : (s : ℕ) → owned (v.entries s) ≡ true → s ≡ d
  owned-is-here s w = grind (arith, h.owner s w, c.owner, c.runs.is, requester-behind)

  unowned : (s : ℕ) → owned (at v.entries d (Handed n q b) s) ≡ true → ⊥
  unowned s w = grind (arith, nat_tests, owned-is-here s)

  unwritable : (s : ℕ) → writable (at v.entries d (Handed n q b) s) ≡ false
  unwritable s = false_from_ne_true _ (λ w. unowned s (writable-owned _ w))

  copy-cleared : (s : ℕ) → s ≢ d → s ≢ q → is_copy (v.entries s) ≡ true → readable (v.entries s) ≡ true → ⊥
  copy-cleared s o p w r = grind (arith, h.copy s w, h.copy_other s w, h.bounded s r, (c.all_met refl).met s, h.nobody_else q s c.runs, c.owner, c.runs.is)

  readable-gone : (s : ℕ) → s ≢ d → s ≢ q → readable (v.entries s) ≡ true → ⊥
  readable-gone s o p r = grind (arith, readable-is (v.entries s) r, owned-is-here s, copy-cleared s o p)

  unreadable : (s : ℕ) → s ≢ q → readable (at v.entries d (Handed n q b) s) ≡ false
  unreadable s o = false_from_ne_true _ (λ w. grind (arith, nat_tests, readable-gone s))

  grown : seen (v.entries d) ≤ seen (Handed n q b)
  grown = omega arith

  pub hand_over-page : InFlight Now (with_entry_at v d (Handed n q b)) n Write q b
  hand_over-page = record {
    runs = c.runs;
    number = c.number;
    other = λ e. other (e ∙ sym c.owner);
    met = met-here Now v h n q d above own (Handed n q b) refl Write c;
    now = subst Now (sym same) (now-here Now v h n q d above own);
    unwritable = unwritable;
    unreadable = λ w. unreadable;
    all_met = λ w. all_met-after v d (Handed n q b) grown q (c.all_met refl);
  }

  handed-is : (s m to : ℕ) (x : List ℕ) → (d ≡ s) ⊎ (d ≢ s) → at v.entries d (Handed n q b) s ≡ Handed m to x → seen (at v.entries d (Handed n q b) to) < m
      → InFlight Now (with_entry_at v d (Handed n q b)) m Write to x
  handed-is s m to x (inl here) w l = handed-here m to x (sym (at-here v.entries d (Handed n q b)) ∙ (ap (λ k. at v.entries d (Handed n q b) k) here ∙ w))
    where
      handed-here : (m to : ℕ) (x : List ℕ) → Handed n q b ≡ Handed m to x → InFlight Now (with_entry_at v d (Handed n q b)) m Write to x
      handed-here m to x e =
          let same_number : n ≡ m = cc in
          let same_to : q ≡ to = cc in
          let same_bytes : b ≡ x = cc in
          subst (λ k. InFlight Now (with_entry_at v d (Handed n q b)) k Write to x) same_number
          (subst (λ k. InFlight Now (with_entry_at v d (Handed n q b)) n Write k x) same_to
          (subst (λ k. InFlight Now (with_entry_at v d (Handed n q b)) n Write q k) same_bytes hand_over-page))
  handed-is s m to x (inr there) w l =
      absurd (not-handed Now v h n q d above own (Handed n q b) refl Write c s m to x (grind (arith, nat_tests)) l)

  pub hand_over-holds : Holds Now (with_entry_at v d (Handed n q b))
  hand_over-holds = record {
    met = in-limit Now v h n q d above own (Handed n q b) refl Write c;
    owner = λ s w. absurd (unowned s w);
    copy_other = λ s w. grind (arith, nat_tests, h.copy_other s);
    copy = λ s w. grind (arith, nat_tests, h.copy s);
    alone = λ s x w o. absurd (false-true (sym (unwritable s) ∙ w));
    now = λ s w. grind (arith, nat_tests, h.now s);
    handed = λ s m to x w l. handed-is s m to x (cases_eq d s) w l;
    writer = λ p r m. absurd (requester-behind (grind (arith, nat_tests, c.runs.is, r.is, other)));
    owner_first = λ kind p r m. met-here Now v h n q d above own (Handed n q b) refl Write c;
    copies_first = λ p r m. all_met-after v d (Handed n q b) grown p (grind (arith, c.all_met refl, c.runs.is, r.is));
    nobody_else = λ p x r o m. grind (arith, nat_tests, h.nobody_else p x r o);
    owner_lent = λ p r o m. unwritable v.book.owner;
    cleared = λ kind p s r k. met-after Now v h n q d above own (Handed n q b) refl s (h.cleared kind p s r k);
    bounded = λ s w. grind (arith, nat_tests, h.bounded s);
    owner_no_copy = h.owner_no_copy;
    kept = inr (record {
      to = q;
      given = b;
      is = ap (at v.entries d (Handed n q b)) (sym c.owner) ∙ (at-here v.entries d (Handed n q b) ∙ ap (λ k. Handed k q b) c.number);
      runs = c.runs;
    });
  }

  pub hand_over-fits : (from to : ℕ) (note : Note) → Fits Now v from to note → Fits Now (with_entry_at v d (Handed n q b)) from to note
  hand_over-fits = keeps Now v h n q d above own (Handed n q b) refl Write c (λ m k p f e w. absurd (false-true w))
