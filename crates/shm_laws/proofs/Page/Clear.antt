-- A Clear that its site hasn't met takes the site's copy away, and keeps the invariant.
use Rattle.std.proofs.Common.{◌≡◌, ℕ, ◌<◌, ◌≤◌, inr, true, false, List, arith, sym, ◌∙◌, subst}
use Rattle.std.proofs.lemmas.Bool.Decides.{nat_tests}
use Rattle.shm_model.specs.declared.request_kind.Kind.{Kind}
use Rattle.shm_model.specs.declared.request_kind.Kind.TheVariants.{Write}
use Rattle.shm_model.specs.Entry.{Nil, Handed, Note, owned, seen}
use Rattle.shm_model.specs.Basics.{at}
use Rattle.shm_laws.proofs.Page.View.{View, InFlight, Holds, ClearRuns, Fits, with_entry_at}
use Rattle.shm_laws.proofs.Page.Entry.{all_met-after, fits-after, kept-there, seen-after, seen-before, false-true}

module _ (Now : List ℕ → Type 0) (v : View) (h : Holds Now v) (n d : ℕ) (above : seen (v.entries d) < n) (free : owned (v.entries d) ≡ false) (c : ClearRuns v n d) where
  grows : seen (v.entries d) ≤ seen (Nil n)
  grows = omega arith

  met-after : (s : ℕ) → v.book.number ≤ seen (v.entries s) → v.book.number ≤ seen (at v.entries d (Nil n) s)
  met-after s m = seen-after v d (Nil n) grows s v.book.number m

  in_flight-after : (m : ℕ) (kind : Kind) (to : ℕ) (b : List ℕ) → InFlight Now v m kind to b → InFlight Now (with_entry_at v d (Nil n)) m kind to b
  in_flight-after m kind to b f = record {
    runs = f.runs;
    number = f.number;
    other = f.other;
    met = met-after v.book.owner f.met;
    now = f.now;
    unwritable = λ s. grind (arith, nat_tests, f.unwritable s);
    unreadable = λ w s o. grind (arith, nat_tests, f.unreadable w s o);
    all_met = λ w. all_met-after v d (Nil n) grows to (f.all_met w);
  }

  handed-before : (s m to : ℕ) (b : List ℕ) → at v.entries d (Nil n) s ≡ Handed m to b → v.entries s ≡ Handed m to b
  handed-before s m to b e = grind (arith, nat_tests)

  pub clear-holds : Holds Now (with_entry_at v d (Nil n))
  clear-holds = record {
    met = λ s. grind (arith, nat_tests, h.met s, c.number);
    owner = λ s w. grind (arith, nat_tests, h.owner s);
    copy_other = λ s w. grind (arith, nat_tests, h.copy_other s);
    copy = λ s w. grind (arith, nat_tests, h.copy s);
    alone = λ s x w o. grind (arith, nat_tests, h.alone s x);
    now = λ s w. grind (arith, nat_tests, h.now s);
    handed = λ s m to b e l. in_flight-after m Write to b (h.handed s m to b (handed-before s m to b e) (seen-before v d (Nil n) grows to m l));
    writer = λ q r m. grind (arith, nat_tests, h.writer q, c.runs.is, c.other, r.is);
    owner_first = λ kind q r m. met-after v.book.owner (grind (arith, nat_tests, h.owner_first kind q r, c.runs.is, c.other, r.is));
    copies_first = λ q r m. all_met-after v d (Nil n) grows q (grind (arith, nat_tests, h.copies_first q r, c.runs.is, c.other, r.is));
    nobody_else = λ q x r o m. grind (arith, nat_tests, h.nobody_else q x r o);
    owner_lent = λ q r o m. grind (arith, nat_tests, c.runs.is, r.is);
    cleared = λ kind q s r k. met-after s (h.cleared kind q s r k);
    bounded = λ s w. grind (arith, nat_tests, h.bounded s);
    owner_no_copy = h.owner_no_copy;
    kept = kept-there v d (Nil n) (λ e. false-true (sym h.owner_no_copy ∙ subst (λ s. v.book.copies s ≡ true) e c.copy)) h.kept;
  }

  pub clear-fits : (from to : ℕ) (note : Note) → Fits Now v from to note → Fits Now (with_entry_at v d (Nil n)) from to note
  clear-fits = fits-after v d (Nil n) grows Now Now (λ m kind to b f. inr (in_flight-after m kind to b f)) (λ m kind q f s w. absurd (false-true w))
