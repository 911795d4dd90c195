-- A Page that its site hasn't met is the running transaction's: it installs a copy, or makes the site the writer.
use Rattle.std.proofs.Common.{◌≡◌, ℕ, ◌<◌, ◌≤◌, inl, inr, List, arith, refl, ◌∙◌}
use Rattle.std.proofs.lemmas.Bool.Decides.{nat_tests}
use Rattle.shm_model.specs.declared.request_kind.Kind.{Kind}
use Rattle.shm_model.specs.declared.request_kind.Kind.TheVariants.{Read, Write}
use Rattle.shm_model.specs.Entry.{Entry, Copy, OwnWrite, Handed, Note, seen}
use Rattle.shm_model.specs.Book.{max_sites}
use Rattle.shm_model.specs.Basics.{at}
use Rattle.shm_laws.proofs.Page.View.{View, InFlight, Holds, Fits, with_entry_at}
use Rattle.shm_laws.proofs.Page.Entry.{all_met-after, fits-after, kept-there, seen-after, seen-before, false-true}

module _ (Now : List ℕ → Type 0) (v : View) (h : Holds Now v) (n d : ℕ) (b : List ℕ) (above : seen (v.entries d) < n) (small : d < max_sites) where
  in-limit : (kind : Kind) → InFlight Now v n kind d b → (e : Entry) → seen e ≡ n → (s : ℕ) → seen (at v.entries d e s) ≤ v.book.number
  in-limit kind f e is s = grind (arith, nat_tests, h.met s, f.number)

  grown : (e : Entry) → seen e ≡ n → seen (v.entries d) ≤ seen e
  grown e is = omega arith

  met-after : (e : Entry) → seen e ≡ n → (s : ℕ) → v.book.number ≤ seen (v.entries s) → v.book.number ≤ seen (at v.entries d e s)
  met-after e is s m = seen-after v d e (grown e is) s v.book.number m

  module _ (f : InFlight Now v n Read d b) where
    flight-after : (m : ℕ) (kind : Kind) (to : ℕ) (x : List ℕ) → InFlight Now v m kind to x → InFlight Now (with_entry_at v d (Copy n b)) m kind to x
    flight-after m kind to x g = record {
      runs = g.runs;
      number = g.number;
      other = g.other;
      met = met-after (Copy n b) refl v.book.owner g.met;
      now = g.now;
      unwritable = λ s. grind (arith, nat_tests, g.unwritable s);
      unreadable = λ w s o. absurd (grind (arith, f.runs.is, g.runs.is));
      all_met = λ w. absurd (grind (arith, f.runs.is, g.runs.is));
    }

    handed-write : (s m to : ℕ) (x : List ℕ) → v.entries s ≡ Handed m to x → seen (at v.entries d (Copy n b) to) < m → ⊥
    handed-write s m to x e l = let g : InFlight Now v m Write to x = h.handed s m to x e (seen-before v d (Copy n b) (grown (Copy n b) refl) to m l) in grind (arith, f.runs.is, g.runs.is)

    pub read-holds : Holds Now (with_entry_at v d (Copy n b))
    read-holds = record {
      met = in-limit Read f (Copy n b) refl;
      owner = λ s w. grind (arith, nat_tests, h.owner s);
      copy_other = λ s w. grind (arith, nat_tests, h.copy_other s, f.other);
      copy = λ s w. grind (arith, nat_tests, h.copy s, f.runs, f.number);
      alone = λ s x w o. absurd (grind (arith, nat_tests, f.unwritable s));
      now = λ s w. grind (arith, nat_tests, h.now s, f.now);
      handed = λ s m to x e l. absurd (handed-write s m to x (grind (arith, nat_tests)) l);
      writer = λ q r m. absurd (grind (arith, f.runs.is, r.is));
      owner_first = λ kind q r m. met-after (Copy n b) refl v.book.owner f.met;
      copies_first = λ q r m. absurd (grind (arith, f.runs.is, r.is));
      nobody_else = λ q x r o m. absurd (grind (arith, f.runs.is, r.is));
      owner_lent = λ q r o m. grind (arith, nat_tests, f.unwritable v.book.owner);
      cleared = λ kind q s r k. met-after (Copy n b) refl s (h.cleared kind q s r k);
      bounded = λ s w. grind (arith, nat_tests, h.bounded s);
      owner_no_copy = h.owner_no_copy;
      kept = kept-there v d (Copy n b) f.other h.kept;
    }

    pub read-fits : (from to : ℕ) (note : Note) → Fits Now v from to note → Fits Now (with_entry_at v d (Copy n b)) from to note
    read-fits = fits-after v d (Copy n b) (grown (Copy n b) refl) Now Now (λ m kind to x g. inr (flight-after m kind to x g)) (λ m kind q g s w. absurd (false-true w))

  module _ (f : InFlight Now v n Write d b) where
    -- whatever is in flight has arrived
    arrived : (m : ℕ) (kind : Kind) (to : ℕ) (x : List ℕ) → InFlight Now v m kind to x → m ≤ seen (at v.entries d (OwnWrite n b) to)
    arrived m kind to x g = grind (arith, nat_tests, f.runs.is, g.runs.is, f.number, g.number)

    handed-arrived : (s m to : ℕ) (x : List ℕ) → v.entries s ≡ Handed m to x → seen (at v.entries d (OwnWrite n b) to) < m → ⊥
    handed-arrived s m to x e l =
        let g : InFlight Now v m Write to x = h.handed s m to x e (seen-before v d (OwnWrite n b) (grown (OwnWrite n b) refl) to m l) in
        omega (arith, arrived m Write to x g)

    pub write-holds : Holds Now (with_entry_at v d (OwnWrite n b))
    write-holds = record {
      met = in-limit Write f (OwnWrite n b) refl;
      owner = λ s w. grind (arith, nat_tests, h.owner s, f.runs, f.number);
      copy_other = λ s w. grind (arith, nat_tests, h.copy_other s);
      copy = λ s w. grind (arith, nat_tests, h.copy s);
      alone = λ s x w o. grind (arith, nat_tests, f.unwritable s, f.unreadable refl x);
      now = λ s w. grind (arith, nat_tests, h.now s, f.now);
      handed = λ s m to x e l. absurd (handed-arrived s m to x (grind (arith, nat_tests)) l);
      writer = λ q r m. grind (arith, nat_tests, f.runs.is, r.is);
      owner_first = λ kind q r m. met-after (OwnWrite n b) refl v.book.owner f.met;
      copies_first = λ q r m. all_met-after v d (OwnWrite n b) (grown (OwnWrite n b) refl) q (grind (arith, f.all_met refl, f.runs.is, r.is));
      nobody_else = λ q x r o m. grind (arith, nat_tests, f.unreadable refl x, f.runs.is, r.is);
      owner_lent = λ q r o m. absurd (grind (arith, f.runs.is, r.is));
      cleared = λ kind q s r k. met-after (OwnWrite n b) refl s (h.cleared kind q s r k);
      bounded = λ s w. grind (arith, nat_tests, h.bounded s);
      owner_no_copy = h.owner_no_copy;
      kept = kept-there v d (OwnWrite n b) f.other h.kept;
    }

    pub write-fits : (from to : ℕ) (note : Note) → Fits Now v from to note → Fits Now (with_entry_at v d (OwnWrite n b)) from to note
    write-fits = fits-after v d (OwnWrite n b) (grown (OwnWrite n b) refl) Now Now (λ m kind to x g. inl (arrived m kind to x g))
        (λ m kind q g s w. absurd (f.other (g.owner Write d (s ∙ f.number) f.runs)))
