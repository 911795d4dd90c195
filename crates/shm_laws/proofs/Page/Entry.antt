-- What every change of one entry shares: a site's number grows, the book stays.
use Rattle.std.proofs.Common.{◌≡◌, ◌≢◌, ℕ, ◌<◌, ◌≤◌, ◌⊎◌, inl, inr, true, false, List, arith, sym, ◌∙◌, ap, subst}
use Rattle.std.proofs.lemmas.Bool.{cases_eq}
use Rattle.std.proofs.lemmas.Bool.Decides.{nat_tests}
use Rattle.shm_model.specs.declared.request_kind.Kind.{Kind}
use Rattle.shm_model.specs.declared.request_kind.Kind.TheVariants.{Read, Write}
use Rattle.shm_model.specs.Entry.{Entry, Note, Ask, Clear, Cleared, Hand, Page, Confirm, owned, seen, writable}
use Rattle.shm_model.specs.Basics.{at}
use Rattle.shm_laws.proofs.Page.View.{View, GaveAway, IsKept, either, AllMet, InFlight, ClearRuns, HandFits, Fits, with_entry_at}

-- a Hand that is handed over again at d, whose entry is owned and has met it, changes nothing there
pub record IsAgain (kind : Kind) (q d : ℕ) (e : Entry) : Type 0 where
  pub read : kind ≡ Read → q ≢ d → writable e ≡ false
  pub to : kind ≡ Write → q ≡ d
  pub write : kind ≡ Write → writable e ≡ true

pub false-true : false ≡ true → ⊥
false-true h = cc

pub at-here : {X : Type 0} (f : ℕ → X) (k : ℕ) (x : X) → at f k x k ≡ x
at-here f k x = grind (arith, nat_tests)

-- the page is kept where another entry than the owner's changes, or where the owner has it afterwards
pub kept-there : (v : View) (d : ℕ) (e : Entry) → d ≢ v.book.owner → IsKept v → IsKept (with_entry_at v d e)
kept-there v d e other k =
    let same : at v.entries d e v.book.owner ≡ v.entries v.book.owner = grind (arith, nat_tests) in
    either (λ (w : owned (v.entries v.book.owner) ≡ true). ap owned same ∙ w) (λ (g : GaveAway v). record { to = g.to; given = g.given; is = same ∙ g.is; runs = g.runs }) k

pub kept-here : (v : View) (d : ℕ) (e : Entry) → d ≡ v.book.owner → owned e ≡ true → IsKept (with_entry_at v d e)
kept-here v d e here own = inl (ap owned (ap (at v.entries d e) (sym here) ∙ at-here v.entries d e) ∙ own)

module _ (v : View) (d : ℕ) (e : Entry) (grows : seen (v.entries d) ≤ seen e) where
  pub seen-after : (s m : ℕ) → m ≤ seen (v.entries s) → m ≤ seen (at v.entries d e s)
  seen-after s m l = grind (arith, nat_tests)

  pub seen-before : (s m : ℕ) → seen (at v.entries d e s) < m → seen (v.entries s) < m
  seen-before s m l = grind (arith, nat_tests)

  clear-after : (m to : ℕ) → ClearRuns v m to → ClearRuns (with_entry_at v d e) m to
  clear-after m to w = record { number = w.number; q = w.q; runs = w.runs; other = w.other; copy = w.copy; bounded = w.bounded }

  page-after : (Now Next : List ℕ → Type 0) (m : ℕ) (kind : Kind) (to : ℕ) (b : List ℕ)
      → ((m : ℕ) (kind : Kind) (to : ℕ) (b : List ℕ) → InFlight Now v m kind to b → (m ≤ seen (at v.entries d e to)) ⊎ InFlight Next (with_entry_at v d e) m kind to b)
      → (m ≤ seen (v.entries to)) ⊎ InFlight Now v m kind to b → (m ≤ seen (at v.entries d e to)) ⊎ InFlight Next (with_entry_at v d e) m kind to b
  page-after Now Next m kind to b flight (inl met) = inl (seen-after to m met)
  page-after Now Next m kind to b flight (inr f) = flight m kind to b f

  pub all_met-after : (q : ℕ) → AllMet v q → AllMet (with_entry_at v d e) q
  all_met-after q m = record { met = λ s b k o. seen-after s v.book.number (m.met s b k o) }

  hand-here : (m : ℕ) (kind : Kind) (q : ℕ) → (HandFits v m kind q d → m ≡ seen e → owned e ≡ true → IsAgain kind q d e)
      → HandFits v m kind q d → HandFits (with_entry_at v d e) m kind q d
  hand-here m kind q again f = record {
    le = f.le;
    old_owner = λ old. seen-after d m (f.old_owner old);
    old_requester = λ old. seen-after q m (f.old_requester old);
    runs = f.runs;
    owner = f.owner;
    all_met = λ k p r w x. all_met-after q (f.all_met k p r w x);
    again_read = λ k s w o. let same = at-here v.entries d e in rw same ((again f (s ∙ ap seen same) (ap owned (sym same) ∙ w)).read k o);
    again_to = λ k s w. let same = at-here v.entries d e in (again f (s ∙ ap seen same) (ap owned (sym same) ∙ w)).to k;
    again_write = λ k s w. let same = at-here v.entries d e in rw same ((again f (s ∙ ap seen same) (ap owned (sym same) ∙ w)).write k);
  }

  hand-there : (m : ℕ) (kind : Kind) (q to : ℕ) → d ≢ to → HandFits v m kind q to → HandFits (with_entry_at v d e) m kind q to
  hand-there m kind q to other f = record {
    le = f.le;
    old_owner = λ old. seen-after to m (f.old_owner old);
    old_requester = λ old. seen-after q m (f.old_requester old);
    runs = f.runs;
    owner = f.owner;
    all_met = λ k p r w x. all_met-after q (f.all_met k p r w x);
    again_read = λ k s w o. grind (arith, nat_tests, f.again_read k);
    again_to = λ k s w. grind (arith, nat_tests, f.again_to k);
    again_write = λ k s w. grind (arith, nat_tests, f.again_write k);
  }

  hand-after : (m : ℕ) (kind : Kind) (q to : ℕ) → (d ≡ to) ⊎ (d ≢ to) → (HandFits v m kind q d → m ≡ seen e → owned e ≡ true → IsAgain kind q d e)
      → HandFits v m kind q to → HandFits (with_entry_at v d e) m kind q to
  hand-after m kind q to (inl same) again f = subst (λ t. HandFits v m kind q t → HandFits (with_entry_at v d e) m kind q t) same (hand-here m kind q again) f
  hand-after m kind q to (inr other) again f = hand-there m kind q to other f

  -- every note still fits, where a Page in flight does, and a Hand that is handed over again
  pub fits-after : (Now Next : List ℕ → Type 0)
      → ((m : ℕ) (kind : Kind) (to : ℕ) (b : List ℕ) → InFlight Now v m kind to b → (m ≤ seen (at v.entries d e to)) ⊎ InFlight Next (with_entry_at v d e) m kind to b)
      → ((m : ℕ) (kind : Kind) (q : ℕ) → HandFits v m kind q d → m ≡ seen e → owned e ≡ true → IsAgain kind q d e)
      → (from to : ℕ) (note : Note) → Fits Now v from to note → Fits Next (with_entry_at v d e) from to note
  fits-after Now Next flight again from to (Ask r kind) f = tt
  fits-after Now Next flight again from to (Clear m) f = either (seen-after to m) (clear-after m to) f
  fits-after Now Next flight again from to (Cleared m) f = seen-after from m f
  fits-after Now Next flight again from to (Hand m kind q) f = hand-after m kind q to (cases_eq d to) (again m kind q) f
  fits-after Now Next flight again from to (Page m kind b) f = page-after Now Next m kind to b flight f
  fits-after Now Next flight again from to (Confirm m) f = seen-after from m f
