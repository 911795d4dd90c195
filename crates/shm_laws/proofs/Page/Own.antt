-- Stores, and copies given up for want of frames.
use Rattle.std.proofs.Common.{◌≡◌, ◌≢◌, ℕ, ◌≤◌, ◌⊎◌, inl, inr, true, false, List, arith, refl, sym, ◌∙◌, ap}
use Rattle.std.proofs.lemmas.Bool.{cases_eq}
use Rattle.std.proofs.lemmas.Bool.Decides.{nat_tests}
use Rattle.shm_model.specs.declared.request_kind.Kind.{Kind}
use Rattle.shm_model.specs.declared.request_kind.Kind.TheVariants.{Write}
use Rattle.shm_model.specs.Entry.{Entry, Nil, Copy, OwnRead, OwnWrite, Handed, Note, is_copy, owned, readable, seen, writable}
use Rattle.shm_model.specs.Basics.{at}
use Rattle.shm_laws.proofs.Page.View.{View, InFlight, IsKept, Holds, HandFits, Fits, with_entry_at}
use Rattle.shm_laws.proofs.Page.Entry.{IsAgain, all_met-after, fits-after, false-true, kept-here, kept-there}

-- the writer stores: what is stored last changes with its bytes, and nobody else can read them
module _ (Now Next : List ℕ → Type 0) (v : View) (h : Holds Now v) (n d : ℕ) (b x : List ℕ) (here : v.entries d ≡ OwnWrite n b) (stored : Next x) where
  writes : writable (v.entries d) ≡ true
  writes = ap writable here

  number-here : seen (v.entries d) ≡ n
  number-here = ap seen here

  no-flight : (m : ℕ) (kind : Kind) (to : ℕ) (y : List ℕ) → InFlight Now v m kind to y → ⊥
  no-flight m kind to y f = false-true (sym (f.unwritable d) ∙ writes)

  grown : seen (v.entries d) ≤ seen (OwnWrite n x)
  grown = omega (arith, number-here)

  same-seen : (s : ℕ) → seen (at v.entries d (OwnWrite n x) s) ≡ seen (v.entries s)
  same-seen s = grind (arith, nat_tests, number-here)

  same-owned : (s : ℕ) → owned (at v.entries d (OwnWrite n x) s) ≡ owned (v.entries s)
  same-owned s = grind (arith, nat_tests, ap owned here)

  same-copy : (s : ℕ) → is_copy (at v.entries d (OwnWrite n x) s) ≡ is_copy (v.entries s)
  same-copy s = grind (arith, nat_tests, ap is_copy here)

  same-readable : (s : ℕ) → readable (at v.entries d (OwnWrite n x) s) ≡ readable (v.entries s)
  same-readable s = grind (arith, nat_tests, ap readable here)

  same-writable : (s : ℕ) → writable (at v.entries d (OwnWrite n x) s) ≡ writable (v.entries s)
  same-writable s = grind (arith, nat_tests, ap writable here)

  pub store-holds : Holds Next (with_entry_at v d (OwnWrite n x))
  store-holds = record {
    met = λ s. rw (same-seen s) (h.met s);
    owner = λ s w. rw (same-seen s) (h.owner s (sym (same-owned s) ∙ w));
    copy_other = λ s w. h.copy_other s (sym (same-copy s) ∙ w);
    copy = λ s w. rw (same-seen s) (h.copy s (sym (same-copy s) ∙ w));
    alone = λ s y w o. same-readable y ∙ h.alone s y (sym (same-writable s) ∙ w) o;
    now = λ s w. grind (arith, nat_tests, stored, h.alone d s writes, same-readable s);
    handed = λ s m to y e l. absurd (no-flight m Write to y (h.handed s m to y (grind (arith, nat_tests)) (grind (arith, same-seen to))));
    writer = λ q r m. same-writable q ∙ h.writer q r (grind (arith, same-seen q));
    owner_first = λ kind q r m. rw (same-seen v.book.owner) (h.owner_first kind q r (grind (arith, same-seen q)));
    copies_first = λ q r m. all_met-after v d (OwnWrite n x) grown q (h.copies_first q r (grind (arith, same-seen q)));
    nobody_else = λ q y r o m. same-readable y ∙ h.nobody_else q y r o (grind (arith, same-seen y));
    owner_lent = λ q r o m. same-writable v.book.owner ∙ h.owner_lent q r o (grind (arith, same-seen v.book.owner));
    cleared = λ kind q s r k. rw (same-seen s) (h.cleared kind q s r k);
    bounded = λ s w. h.bounded s (sym (same-readable s) ∙ w);
    owner_no_copy = h.owner_no_copy;
    kept = kept-on (cases_eq d v.book.owner);
  }
    where
      kept-on : (d ≡ v.book.owner) ⊎ (d ≢ v.book.owner) → IsKept (with_entry_at v d (OwnWrite n x))
      kept-on (inl e) = kept-here v d (OwnWrite n x) e refl
      kept-on (inr e) = kept-there v d (OwnWrite n x) e h.kept

  store-again : (m : ℕ) (kind : Kind) (q : ℕ) → HandFits v m kind q d → m ≡ n → IsAgain kind q d (OwnWrite n x)
  store-again m kind q f e = record {
    read = λ r o. absurd (grind (arith, f.again_read r, number-here, ap owned here, writes));
    to = λ w. f.again_to w (e ∙ sym number-here) (ap owned here);
    write = λ w. refl;
  }

  pub store-fits : (from to : ℕ) (note : Note) → Fits Now v from to note → Fits Next (with_entry_at v d (OwnWrite n x)) from to note
  store-fits = fits-after v d (OwnWrite n x) grown Now Next (λ m kind to y f. absurd (no-flight m kind to y f)) (λ m kind q f e w. store-again m kind q f e)

-- a copy is given up, and what it met stays met
module _ (Now : List ℕ → Type 0) (v : View) (h : Holds Now v) (d : ℕ) (copy : is_copy (v.entries d) ≡ true) (free : owned (v.entries d) ≡ false) where
  gone : Entry
  gone = Nil (seen (v.entries d))

  forget-seen : (s : ℕ) → seen (at v.entries d (Nil (seen (v.entries d))) s) ≡ seen (v.entries s)
  forget-seen s = grind (arith, nat_tests)

  forget-grown : seen (v.entries d) ≤ seen (Nil (seen (v.entries d)))
  forget-grown = omega arith

  not-writer : writable (v.entries d) ≡ true → ⊥
  not-writer w = copy-unwritable (v.entries d) copy w
    where
      copy-unwritable : (e : Entry) → is_copy e ≡ true → writable e ≡ true → ⊥
      copy-unwritable (Nil m) c w = false-true c
      copy-unwritable (Copy m b) c w = false-true w
      copy-unwritable (OwnRead m b) c w = false-true c
      copy-unwritable (OwnWrite m b) c w = false-true c
      copy-unwritable (Handed m to b) c w = false-true c

  forget-flight : (m : ℕ) (kind : Kind) (to : ℕ) (x : List ℕ) → InFlight Now v m kind to x → InFlight Now (with_entry_at v d (Nil (seen (v.entries d)))) m kind to x
  forget-flight m kind to x f = record {
    runs = f.runs;
    number = f.number;
    other = f.other;
    met = rw (forget-seen v.book.owner) f.met;
    now = f.now;
    unwritable = λ s. grind (arith, nat_tests, f.unwritable s);
    unreadable = λ w s o. grind (arith, nat_tests, f.unreadable w s o);
    all_met = λ w. all_met-after v d (Nil (seen (v.entries d))) forget-grown to (f.all_met w);
  }

  pub forget-holds : Holds Now (with_entry_at v d (Nil (seen (v.entries d))))
  forget-holds = record {
    met = λ s. rw (forget-seen s) (h.met s);
    owner = λ s w. rw (forget-seen s) (h.owner s (grind (arith, nat_tests)));
    copy_other = λ s w. grind (arith, nat_tests, h.copy_other s);
    copy = λ s w. rw (forget-seen s) (h.copy s (grind (arith, nat_tests)));
    alone = λ s x w o. grind (arith, nat_tests, h.alone s x);
    now = λ s w. grind (arith, nat_tests, h.now s);
    handed = λ s m to x e l. forget-flight m Write to x (h.handed s m to x (grind (arith, nat_tests)) (grind (arith, forget-seen to)));
    writer = λ q r m. grind (arith, nat_tests, h.writer q r, forget-seen q, not-writer);
    owner_first = λ kind q r m. rw (forget-seen v.book.owner) (h.owner_first kind q r (grind (arith, forget-seen q)));
    copies_first = λ q r m. all_met-after v d (Nil (seen (v.entries d))) forget-grown q (h.copies_first q r (grind (arith, forget-seen q)));
    nobody_else = λ q x r o m. grind (arith, nat_tests, h.nobody_else q x r o, forget-seen x);
    owner_lent = λ q r o m. grind (arith, nat_tests, h.owner_lent q r o, forget-seen v.book.owner);
    cleared = λ kind q s r k. rw (forget-seen s) (h.cleared kind q s r k);
    bounded = λ s w. grind (arith, nat_tests, h.bounded s);
    owner_no_copy = h.owner_no_copy;
    kept = kept-there v d (Nil (seen (v.entries d))) (h.copy_other d copy) h.kept;
  }

  pub forget-fits : (from to : ℕ) (note : Note) → Fits Now v from to note → Fits Now (with_entry_at v d (Nil (seen (v.entries d)))) from to note
  forget-fits = fits-after v d (Nil (seen (v.entries d))) forget-grown Now Now (λ m kind to x f. inr (forget-flight m kind to x f)) (λ m kind q f e w. absurd (false-true w))
