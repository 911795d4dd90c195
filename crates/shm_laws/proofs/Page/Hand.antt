-- A Hand that the owner hasn't met is the running transaction's: the owner lends a copy, hands the page over, or keeps it for itself.
use Rattle.std.proofs.Common.{◌≡◌, ◌≢◌, ℕ, ◌<◌, ◌≤◌, inr, true, false, Option, Some, None, List, arith, refl, sym, ◌∙◌}
use Rattle.std.proofs.lemmas.Bool.{false_from_ne_true}
use Rattle.std.proofs.lemmas.Bool.Decides.{nat_tests}
use Rattle.shm_model.specs.declared.request_kind.Kind.{Kind}
use Rattle.shm_model.specs.declared.request_kind.Kind.TheVariants.{Read, Write}
use Rattle.shm_model.specs.Entry.{Entry, Nil, Copy, OwnRead, OwnWrite, Handed, Note, bytes, owned, readable, seen, writable}
use Rattle.shm_model.specs.Book.{Running}
use Rattle.shm_model.specs.Basics.{at}
use Rattle.shm_laws.proofs.Page.View.{View, Runs, AllMet, InFlight, Holds, HandFits, Fits, with_entry_at}
use Rattle.shm_laws.proofs.Page.Entry.{IsAgain, fits-after, kept-here, seen-after, seen-before, false-true}

pub read-is-not-write : Read ≡ Write → ⊥
read-is-not-write h = cc

-- the running transaction is ready to be served by d
pub record HandNow (v : View) (n : ℕ) (kind : Kind) (q d : ℕ) : Type 0 where
  pub number : n ≡ v.book.number
  pub runs : Runs v.book kind q
  pub owner : d ≡ v.book.owner
  pub all_met : kind ≡ Write → AllMet v q

-- an owner may read
pub own-readable-of : (e : Entry) → owned e ≡ true → readable e ≡ true
own-readable-of (Nil m) w = absurd (false-true w)
own-readable-of (Copy m b) w = absurd (false-true w)
own-readable-of (OwnRead m b) w = refl
own-readable-of (OwnWrite m b) w = refl
own-readable-of (Handed m to b) w = absurd (false-true w)

pub hand-running : (v : View) (n : ℕ) (kind : Kind) (q d : ℕ) → HandFits v n kind q d → n ≡ v.book.number → (running : Option Running) → v.book.running ≡ running
    → (v.book.running ≡ None → ⊥) → HandNow v n kind q d
hand-running v n kind q d f e None r idle = absurd (idle r)
hand-running v n kind q d f e (Some run) r idle =
    let runs : Runs v.book run.kind run.requester = record { is = r } in
    record { number = e; runs = f.runs run.kind run.requester e runs; owner = f.owner run.kind run.requester e runs; all_met = f.all_met run.kind run.requester e runs }

pub hand-now : (v : View) (n : ℕ) (kind : Kind) (q d : ℕ) → HandFits v n kind q d → seen (v.entries d) < n → HandNow v n kind q d
hand-now v n kind q d f above =
    let number : n ≡ v.book.number = grind (arith, nat_tests, f.le, f.old_owner) in
    let idle : (v.book.running ≡ None → ⊥) = λ i. omega (arith, f.old_owner (inr i)) in
    hand-running v n kind q d f number v.book.running refl idle

module _ (Now : List ℕ → Type 0) (v : View) (h : Holds Now v) (n q d : ℕ) (above : seen (v.entries d) < n) (own : owned (v.entries d) ≡ true) where
  -- before the owner has met it, no page is in flight
  pub no-flight : (kind : Kind) → HandNow v n kind q d → (m : ℕ) (k : Kind) (to : ℕ) (b : List ℕ) → InFlight Now v m k to b → ⊥
  no-flight kind c m k to b f = grind (arith, c.number, c.owner, f.met)

  pub own-readable : (e : Entry) → owned e ≡ true → readable e ≡ true
  own-readable = own-readable-of

  pub now-here : Now (bytes (v.entries d))
  now-here = h.now d (own-readable (v.entries d) own)

  pub grows : (e : Entry) → seen e ≡ n → seen (v.entries d) ≤ seen e
  grows e is = omega arith

  pub met-here : (e : Entry) → seen e ≡ n → (kind : Kind) → HandNow v n kind q d → v.book.number ≤ seen (at v.entries d e v.book.owner)
  met-here e is kind c = grind (arith, nat_tests, c.number, c.owner)

  pub met-after : (e : Entry) → seen e ≡ n → (s : ℕ) → v.book.number ≤ seen (v.entries s) → v.book.number ≤ seen (at v.entries d e s)
  met-after e is s m = seen-after v d e (grows e is) s v.book.number m

  pub in-limit : (e : Entry) → seen e ≡ n → (kind : Kind) → HandNow v n kind q d → (s : ℕ) → seen (at v.entries d e s) ≤ v.book.number
  in-limit e is kind c s = grind (arith, nat_tests, h.met s, c.number)

  -- what another site handed over has been received, or its receiver is d
  pub not-handed : (e : Entry) → seen e ≡ n → (kind : Kind) → HandNow v n kind q d → (s m to : ℕ) (b : List ℕ)
      → v.entries s ≡ Handed m to b → seen (at v.entries d e to) < m → ⊥
  not-handed e is kind c s m to b w l = no-flight kind c m Write to b (h.handed s m to b w (seen-before v d e (grows e is) to m l))

  pub keeps : (e : Entry) → seen e ≡ n → (kind : Kind) → HandNow v n kind q d
      → ((m : ℕ) (k : Kind) (p : ℕ) → HandFits v m k p d → m ≡ seen e → owned e ≡ true → IsAgain k p d e)
      → (from to : ℕ) (note : Note) → Fits Now v from to note → Fits Now (with_entry_at v d e) from to note
  keeps e is kind c again = fits-after v d e (grows e is) Now Now (λ m k to b f. absurd (no-flight kind c m k to b f)) again

  -- the owner lends a copy
  module _ (c : HandNow v n Read q d) (other : q ≢ d) where
    lent-unwritable : (s : ℕ) → writable (v.entries s) ≡ true → s ≢ d → ⊥
    lent-unwritable s w o = grind (arith, h.alone s d w o, own-readable (v.entries d) own)

    unwritable : (s : ℕ) → writable (at v.entries d (OwnRead n (bytes (v.entries d))) s) ≡ false
    unwritable s = false_from_ne_true _ (λ w. grind (arith, nat_tests, lent-unwritable s))

    pub lend-holds : Holds Now (with_entry_at v d (OwnRead n (bytes (v.entries d))))
    lend-holds = record {
      met = in-limit (OwnRead n (bytes (v.entries d))) refl Read c;
      owner = λ s w. grind (arith, nat_tests, h.owner s, c.owner);
      copy_other = λ s w. grind (arith, nat_tests, h.copy_other s);
      copy = λ s w. grind (arith, nat_tests, h.copy s);
      alone = λ s x w o. absurd (grind (arith, unwritable s));
      now = λ s w. grind (arith, nat_tests, h.now s, now-here);
      handed = λ s m to b w l. absurd (not-handed (OwnRead n (bytes (v.entries d))) refl Read c s m to b (grind (arith, nat_tests)) l);
      writer = λ p r m. grind (arith, c.runs.is, r.is);
      owner_first = λ kind p r m. met-here (OwnRead n (bytes (v.entries d))) refl Read c;
      copies_first = λ p r m. absurd (grind (arith, c.runs.is, r.is));
      nobody_else = λ p x r o m. grind (arith, c.runs.is, r.is);
      owner_lent = λ p r o m. unwritable v.book.owner;
      cleared = λ kind p s r k. met-after (OwnRead n (bytes (v.entries d))) refl s (h.cleared kind p s r k);
      bounded = λ s w. grind (arith, nat_tests, h.bounded s, h.bounded d (own-readable (v.entries d) own));
      owner_no_copy = h.owner_no_copy;
      kept = kept-here v d (OwnRead n (bytes (v.entries d))) c.owner refl;
    }

    lend-again : (m : ℕ) (k : Kind) (p : ℕ) → HandFits v m k p d → m ≡ n → IsAgain k p d (OwnRead n (bytes (v.entries d)))
    lend-again m k p f e =
        let runs : Runs v.book k p = f.runs Read q (e ∙ c.number) c.runs in
        record { read = λ w o. refl; to = λ w. grind (arith, runs.is, c.runs.is); write = λ w. grind (arith, runs.is, c.runs.is) }

    pub lend-fits : (from to : ℕ) (note : Note) → Fits Now v from to note → Fits Now (with_entry_at v d (OwnRead n (bytes (v.entries d)))) from to note
    lend-fits = keeps (OwnRead n (bytes (v.entries d))) refl Read c (λ m k p f e w. lend-again m k p f e)

    -- the copy is on its way
    pub lend-page : InFlight Now (with_entry_at v d (OwnRead n (bytes (v.entries d)))) n Read q (bytes (v.entries d))
    lend-page = record {
      runs = c.runs;
      number = c.number;
      other = λ e. other (e ∙ sym c.owner);
      met = met-here (OwnRead n (bytes (v.entries d))) refl Read c;
      now = now-here;
      unwritable = unwritable;
      unreadable = λ w. absurd (read-is-not-write w);
      all_met = λ w. absurd (read-is-not-write w);
    }
