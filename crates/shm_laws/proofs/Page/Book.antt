-- The rows of the manager's book keep the invariant, and what they ask for fits.
use Rattle.std.proofs.Common.{◌≡◌, ℕ, ◌<◌, ◌≤◌, true, None, List, arith, sym, ◌∙◌, ap}
use Rattle.shm_model.specs.declared.request_kind.Kind.{Kind}
use Rattle.shm_model.specs.declared.request_kind.Kind.TheVariants.{Read, Write}
use Rattle.shm_model.specs.Entry.{Handed, Note, Ask, Clear, Cleared, Hand, Page, Confirm, owned, seen}
use Rattle.shm_model.specs.Book.{Book, Order, Outcome, Ignored, UsedUp, Taken}
use Rattle.shm_laws.proofs.Page.View.{View, GaveAway, either, Runs, AllMet, InFlight, Holds, ClearRuns, HandFits, Fits}
use Rattle.shm_laws.proofs.Page.Orders.{Each, OrderFits}

abbrev pub with_book : View → Book → View
with_book v b = record v { book = b }

-- the page goes on with this book: the invariant holds, what was sent still fits
pub record Goes (Now : List ℕ → Type 0) (v : View) (b : Book) : Type 0 where
  pub holds : Holds Now (with_book v b)
  pub fits : (from to : ℕ) (note : Note) → Fits Now v from to note → Fits Now (with_book v b) from to note

pub goes-on : (Now : List ℕ → Type 0) (v : View) (b c : Book) → Goes Now v b → Goes Now (with_book v b) c → Goes Now v c
goes-on Now v b c g k = record { holds = k.holds; fits = λ from to note f. k.fits from to note (g.fits from to note f) }

-- what a row of the book leaves
pub data OutcomeFits (Now : List ℕ → Type 0) (v : View) : Outcome → Type 0 where
  ignored : OutcomeFits Now v Ignored
  used_up : OutcomeFits Now v UsedUp
  taken : (b : Book) (os : List Order) → Goes Now v b → Each (OrderFits Now (with_book v b)) os → OutcomeFits Now v (Taken b os)

-- the owner, copies, number and running transaction stay: the rest of the book counts for nothing but that the cleared have met it
module _ (Now : List ℕ → Type 0) (v : View) (h : Holds Now v) (b : Book)
    (owner : b.owner ≡ v.book.owner) (copies : (s : ℕ) → b.copies s ≡ v.book.copies s) (number : b.number ≡ v.book.number) (running : b.running ≡ v.book.running)
    (met : (kind : Kind) (q s : ℕ) → Runs v.book kind q → b.cleared s ≡ true → v.book.number ≤ seen (v.entries s)) where
  runs-to : (kind : Kind) (q : ℕ) → Runs v.book kind q → Runs b kind q
  runs-to kind q r = record { is = running ∙ r.is }

  runs-from : (kind : Kind) (q : ℕ) → Runs b kind q → Runs v.book kind q
  runs-from kind q r = record { is = sym running ∙ r.is }

  all-to : (q : ℕ) → AllMet v q → AllMet (with_book v b) q
  all-to q a = record { met = λ s l c o. rw number (a.met s l (sym (copies s) ∙ c) o) }

  le-from : (m : ℕ) → b.number ≤ m → v.book.number ≤ m
  le-from m l = rw (← number) l

  le-to : (m : ℕ) → v.book.number ≤ m → b.number ≤ m
  le-to m l = rw number l

  flight-to : (m : ℕ) (kind : Kind) (to : ℕ) (x : List ℕ) → InFlight Now v m kind to x → InFlight Now (with_book v b) m kind to x
  flight-to m kind to x f = record {
    runs = runs-to kind to f.runs;
    number = f.number ∙ sym number;
    other = λ e. f.other (e ∙ owner);
    met = rw owner (le-to _ f.met);
    now = f.now;
    unwritable = f.unwritable;
    unreadable = f.unreadable;
    all_met = λ w. all-to to (f.all_met w);
  }

  hand-to : (m : ℕ) (kind : Kind) (q d : ℕ) → HandFits v m kind q d → HandFits (with_book v b) m kind q d
  hand-to m kind q d f = record {
    le = rw number f.le;
    old_owner = λ old. f.old_owner (either (λ (l : m < b.number). rw (← number) l) (λ (e : b.running ≡ None). sym running ∙ e) old);
    old_requester = λ old. f.old_requester (either (λ (l : m < b.number). rw (← number) l) (λ (e : b.running ≡ None). sym running ∙ e) old);
    runs = λ k p e r. runs-to kind q (f.runs k p (e ∙ number) (runs-from k p r));
    owner = λ k p e r. f.owner k p (e ∙ number) (runs-from k p r) ∙ sym owner;
    all_met = λ k p e r w. all-to q (f.all_met k p (e ∙ number) (runs-from k p r) w);
    again_read = f.again_read;
    again_to = f.again_to;
    again_write = f.again_write;
  }

  side-fits : (from to : ℕ) (note : Note) → Fits Now v from to note → Fits Now (with_book v b) from to note
  side-fits from to (Ask r kind) f = tt
  side-fits from to (Clear m) f = either (λ (l : m ≤ seen (v.entries to)). l)
      (λ (w : ClearRuns v m to). record { number = w.number ∙ sym number; q = w.q; runs = runs-to Write w.q w.runs; other = w.other; copy = copies to ∙ w.copy; bounded = w.bounded }) f
  side-fits from to (Cleared m) f = f
  side-fits from to (Hand m kind q) f = hand-to m kind q to f
  side-fits from to (Page m kind x) f = either (λ (l : m ≤ seen (v.entries to)). l) (flight-to m kind to x) f
  side-fits from to (Confirm m) f = f

  pub side-goes : Goes Now v b
  side-goes = record {
    fits = side-fits;
    holds = record {
      met = λ s. le-of s;
      owner = λ s w. either (λ (e : s ≡ v.book.owner). e ∙ sym owner) (λ (p : Runs v.book Write s × (v.book.number ≤ seen (v.entries s))). (runs-to Write s p.0, le-to _ p.1)) (h.owner s w);
      copy_other = λ s w e. h.copy_other s w (e ∙ owner);
      copy = λ s w. either (λ (c : v.book.copies s ≡ true). copies s ∙ c) (λ (p : Runs v.book Read s × (v.book.number ≤ seen (v.entries s))). (runs-to Read s p.0, le-to _ p.1)) (h.copy s w);
      alone = h.alone;
      now = h.now;
      handed = λ s m to x e l. flight-to m Write to x (h.handed s m to x e l);
      writer = λ q r m. h.writer q (runs-from Write q r) (le-from _ m);
      owner_first = λ kind q r m. rw owner (le-to _ (h.owner_first kind q (runs-from kind q r) (le-from _ m)));
      copies_first = λ q r m. all-to q (h.copies_first q (runs-from Write q r) (le-from _ m));
      nobody_else = λ q x r o m. h.nobody_else q x (runs-from Write q r) o (le-from _ m);
      owner_lent = λ q r o m. rw owner (h.owner_lent q (runs-from Read q r) (λ e. o (e ∙ sym owner)) (le-from _ (rw (← owner) m)));
      cleared = λ kind q s r c. le-to _ (met kind q s (runs-from kind q r) c);
      bounded = h.bounded;
      owner_no_copy = copies b.owner ∙ (ap v.book.copies owner ∙ h.owner_no_copy);
      kept = either (λ (w : owned (v.entries v.book.owner) ≡ true). ap (λ s. owned (v.entries s)) owner ∙ w) (λ (g : GaveAway v). gave g) h.kept;
    };
  }
    where
      le-of : (s : ℕ) → seen (v.entries s) ≤ b.number
      le-of s = omega (arith, h.met s, number)

      gave : GaveAway v → GaveAway (with_book v b)
      gave g = record { to = g.to; given = g.given; is = ap v.entries owner ∙ (g.is ∙ ap (λ n. Handed n g.to g.given) (sym number)); runs = runs-to Write g.to g.runs }
