-- A transaction starts, and a transaction ends.
use Rattle.std.proofs.Common.{◌≡◌, ◌≢◌, ℕ, ◌+◌, ◌<◌, ◌≤◌, ◌⊎◌, inl, inr, true, false, Some, None, List, arith, sym, ◌∙◌, subst}
use Rattle.shm_model.specs.declared.request_kind.Kind.{Kind}
use Rattle.shm_model.specs.declared.request_kind.Kind.TheVariants.{Read, Write}
use Rattle.shm_model.specs.Entry.{Note, Ask, Clear, Cleared, Hand, Page, Confirm, is_copy, owned, seen}
use Rattle.shm_model.specs.Book.{Book, Running, started}
use Rattle.shm_laws.proofs.Page.View.{View, IsKept, Runs, InFlight, Holds, ClearRuns, HandFits, Fits}
use Rattle.shm_laws.proofs.Page.Entry.{false-true}
use Rattle.shm_laws.proofs.Page.Book.{Goes, with_book}

some-none : (run : Running) → Some run ≡ None → ⊥
some-none run e = cc

-- at an idle book nothing runs
idle-runs : (b : Book) → b.running ≡ None → (kind : Kind) (q : ℕ) → Runs b kind q → ⊥
idle-runs b idle kind q r = some-none (record { kind = kind; requester = q }) (sym r.is ∙ idle)

module _ (Now : List ℕ → Type 0) (v : View) (h : Holds Now v) (idle : v.book.running ≡ None) (s r : ℕ) (kind : Kind) where
  quiet : (k : Kind) (q : ℕ) → Runs v.book k q → ⊥
  quiet = idle-runs v.book idle

  fresh : (x : ℕ) → v.book.number + 1 ≤ seen (v.entries x) → ⊥
  fresh x l = omega (arith, h.met x)

  pub start-holds : Holds Now (with_book v (started s r kind v.book))
  start-holds = record {
    met = λ x. omega (arith, h.met x);
    owner = λ x w. inl (only-left (h.owner x w));
    copy_other = h.copy_other;
    copy = λ x w. inl (only-copy (h.copy x w));
    alone = h.alone;
    now = h.now;
    handed = λ x m to y e l. absurd (quiet Write to (h.handed x m to y e l).runs);
    writer = λ q w m. absurd (fresh q m);
    owner_first = λ k q w m. absurd (fresh q m);
    copies_first = λ q w m. absurd (fresh q m);
    nobody_else = λ q x w o m. absurd (fresh x m);
    owner_lent = λ q w o m. absurd (fresh v.book.owner m);
    cleared = λ k q x w c. absurd (false-true c);
    bounded = h.bounded;
    owner_no_copy = h.owner_no_copy;
    kept = inl (only-kept h.kept);
  }
    where
      only-kept : IsKept v → owned (v.entries v.book.owner) ≡ true
      only-kept (inl w) = w
      only-kept (inr g) = absurd (quiet Write g.to g.runs)

      only-left : {x : ℕ} → (x ≡ v.book.owner) ⊎ (Runs v.book Write x × (v.book.number ≤ seen (v.entries x))) → x ≡ v.book.owner
      only-left (inl e) = e
      only-left {x} (inr p) = absurd (quiet Write x p.0)

      only-copy : {x : ℕ} → (v.book.copies x ≡ true) ⊎ (Runs v.book Read x × (v.book.number ≤ seen (v.entries x))) → v.book.copies x ≡ true
      only-copy (inl e) = e
      only-copy {x} (inr p) = absurd (quiet Read x p.0)

  start-hand : (m : ℕ) (k : Kind) (q d : ℕ) → HandFits v m k q d → HandFits (with_book v (started s r kind v.book)) m k q d
  start-hand m k q d f = record {
    le = omega (arith, f.le);
    old_owner = λ old. f.old_owner (inr idle);
    old_requester = λ old. f.old_requester (inr idle);
    runs = λ j p e w. absurd (omega (arith, f.le));
    owner = λ j p e w. absurd (omega (arith, f.le));
    all_met = λ j p e w x. absurd (omega (arith, f.le));
    again_read = f.again_read;
    again_to = f.again_to;
    again_write = f.again_write;
  }

  start-fits : (from to : ℕ) (note : Note) → Fits Now v from to note → Fits Now (with_book v (started s r kind v.book)) from to note
  start-fits from to (Ask n k) f = tt
  start-fits from to (Clear m) (inl l) = inl l
  start-fits from to (Clear m) (inr w) = absurd (quiet Write w.q w.runs)
  start-fits from to (Cleared m) f = f
  start-fits from to (Hand m k q) f = start-hand m k q to f
  start-fits from to (Page m k x) (inl l) = inl l
  start-fits from to (Page m k x) (inr w) = absurd (quiet k to w.runs)
  start-fits from to (Confirm m) f = f

  pub start-goes : Goes Now v (started s r kind v.book)
  start-goes = record { holds = start-holds; fits = start-fits }

-- the requester has met the running transaction
module _ (Now : List ℕ → Type 0) (v : View) (h : Holds Now v) (kind : Kind) (q : ℕ) (runs : Runs v.book kind q) (met : v.book.number ≤ seen (v.entries q)) where
  the-one : (k : Kind) (p : ℕ) → Runs v.book k p → (k ≡ kind) × (p ≡ q)
  the-one k p r = (grind (arith, r.is, runs.is), grind (arith, r.is, runs.is))

  owner-met : v.book.number ≤ seen (v.entries v.book.owner)
  owner-met = h.owner_first kind q runs met

  -- what is in flight has arrived
  arrived : (m : ℕ) (k : Kind) (to : ℕ) (x : List ℕ) → InFlight Now v m k to x → m ≤ seen (v.entries to)
  arrived m k to x f = grind (arith, f.number, the-one k to f.runs, met)

  -- and what was cleared, too
  clear-met : (m d : ℕ) → ClearRuns v m d → m ≤ seen (v.entries d)
  clear-met m d c = grind (arith, c.number, (h.copies_first c.q c.runs (subst (λ s. v.book.number ≤ seen (v.entries s)) (sym (the-one Write c.q c.runs).1) met)).met d c.bounded c.copy, c.other)

  hand-owner : (m : ℕ) (k : Kind) (p d : ℕ) → HandFits v m k p d → m ≤ seen (v.entries d)
  hand-owner m k p d f = grind (arith, f.le, f.old_owner, f.owner kind q, runs, owner-met)

  hand-requester : (m : ℕ) (k : Kind) (p d : ℕ) → HandFits v m k p d → m ≤ seen (v.entries p)
  hand-requester m k p d f = grind (arith, f.le, f.old_requester, f.runs kind q, runs, the-one k p, met)

  module _ (b : Book) (number : b.number ≡ v.book.number) (idle : b.running ≡ None) where
    end-hand : (m : ℕ) (k : Kind) (p d : ℕ) → HandFits v m k p d → HandFits (with_book v b) m k p d
    end-hand m k p d f = record {
      le = rw number f.le;
      old_owner = λ old. hand-owner m k p d f;
      old_requester = λ old. hand-requester m k p d f;
      runs = λ j i e w. absurd (idle-runs b idle j i w);
      owner = λ j i e w. absurd (idle-runs b idle j i w);
      all_met = λ j i e w x. absurd (idle-runs b idle j i w);
      again_read = f.again_read;
      again_to = f.again_to;
      again_write = f.again_write;
    }

    end-fits : (from to : ℕ) (note : Note) → Fits Now v from to note → Fits Now (with_book v b) from to note
    end-fits from to (Ask n k) f = tt
    end-fits from to (Clear m) (inl l) = inl l
    end-fits from to (Clear m) (inr w) = inl (clear-met m to w)
    end-fits from to (Cleared m) f = f
    end-fits from to (Hand m k p) f = end-hand m k p to f
    end-fits from to (Page m k x) (inl l) = inl l
    end-fits from to (Page m k x) (inr w) = inl (arrived m k to x w)
    end-fits from to (Confirm m) f = f

    end-holds : ((s : ℕ) → owned (v.entries s) ≡ true → s ≡ b.owner) → ((s : ℕ) → is_copy (v.entries s) ≡ true → (s ≢ b.owner) × (b.copies s ≡ true)) → b.copies b.owner ≡ false → owned (v.entries b.owner) ≡ true → Holds Now (with_book v b)
    end-holds owner copies free own = record {
      met = λ s. rw number (h.met s);
      owner = λ s w. inl (owner s w);
      copy_other = λ s w. (copies s w).0;
      copy = λ s w. inl (copies s w).1;
      alone = h.alone;
      now = h.now;
      handed = λ s m to x e l. absurd (behind m to x l (h.handed s m to x e l));
      writer = λ p r m. absurd (idle-runs b idle Write p r);
      owner_first = λ k p r m. absurd (idle-runs b idle k p r);
      copies_first = λ p r m. absurd (idle-runs b idle Write p r);
      nobody_else = λ p x r o m. absurd (idle-runs b idle Write p r);
      owner_lent = λ p r o m. absurd (idle-runs b idle Read p r);
      cleared = λ k p s r c. absurd (idle-runs b idle k p r);
      bounded = h.bounded;
      owner_no_copy = free;
      kept = inl own;
    }
      where
        behind : (m to : ℕ) (x : List ℕ) → seen (v.entries to) < m → InFlight Now v m Write to x → ⊥
        behind m to x l f = omega (arith, arrived m Write to x f)

    pub end-goes : ((s : ℕ) → owned (v.entries s) ≡ true → s ≡ b.owner) → ((s : ℕ) → is_copy (v.entries s) ≡ true → (s ≢ b.owner) × (b.copies s ≡ true)) → b.copies b.owner ≡ false → owned (v.entries b.owner) ≡ true → Goes Now v b
    end-goes owner copies free own = record { holds = end-holds owner copies free own; fits = end-fits }
