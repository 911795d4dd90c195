-- A row of an entry by which the site meets the running transaction, where that is its own, settles the request.
use Rattle.std.proofs.Common.{◌≡◌, ℕ, ◌<◌, ◌≤◌, ◌⊎◌, inl, inr, Bool, true, false, ◌==◌, ◌&&◌, ◌||◌, not, Option, Some, List, nat_le, nat_lt, arith, refl, ap}
use Rattle.std.proofs.lemmas.Bool.{and_parts, cases_lt, cond_both, eq-eqb}
use Rattle.shm_model.specs.declared.request_kind.Kind.{Kind}
use Rattle.shm_model.specs.declared.request_kind.Kind.TheVariants.{Read, Write}
use Rattle.shm_model.specs.Entry.{Entry, Nil, Copy, OwnRead, OwnWrite, Handed, Clear, Page, Out, bytes, handed_to, installed, meet, on_clear, on_hand, on_page, owned, readable, seen, writable}
use Rattle.shm_model.specs.Book.{Running, is_write}
use Rattle.shm_model.specs.Site.{Pending}
use Rattle.shm_model.specs.Transfer.{is_settled}
use Rattle.shm_laws.proofs.Page.View.{View, ClearRuns, Fits, HandFits, InFlight, Runs}
use Rattle.shm_laws.proofs.Page.Keep.{seen-meet}

same-run : (found : Option Running) (x y : Running) → found ≡ Some x → found ≡ Some y → x ≡ y
same-run found x y e f = cc

module _ (Now : List ℕ → Type 0) (v : View) (s : ℕ) (p : Pending) (runs : v.book.running ≡ Some (record { kind = p.kind; requester = s })) (unmet : seen (v.entries s) < v.book.number) where
  -- the site still hasn't met it, or the request is settled
  abbrev pub SettlesBy : Entry → Type 0
  SettlesBy e = (seen e < v.book.number) ⊎ (is_settled (readable e) (writable e) p ≡ true)

  abbrev pub Settles : Entry × Out → Type 0
  Settles row = SettlesBy row.0

  mine : (kind : Kind) (q : ℕ) → Runs v.book kind q → (kind ≡ p.kind) × (q ≡ s)
  mine kind q r = let one = same-run v.book.running (record { kind = kind; requester = q }) (record { kind = p.kind; requester = s }) r.is runs in (ap (λ (k : Running). k.kind) one, ap (λ (k : Running). k.requester) one)

  asked_runs : Runs v.book p.kind s
  asked_runs = record { is = runs }

  by-read : (e : Entry) → readable e ≡ true → Read ≡ p.kind → is_settled (readable e) (writable e) p ≡ true
  by-read e r k = known (readable e) (writable e) p.kind r k
    where
      known : (a b : Bool) (kind : Kind) → a ≡ true → Read ≡ kind → (b || (a && not (is_write kind))) ≡ true
      known true true Read x k = refl
      known true false Read x k = refl
      known true b Write x k = cc
      known false b kind x k = cc

  by-write : (e : Entry) → writable e ≡ true → is_settled (readable e) (writable e) p ≡ true
  by-write e r = known (writable e) _ r
    where
      known : (a b : Bool) → a ≡ true → (a || b) ≡ true
      known true b x = refl
      known false b x = cc

  -- a number of at most the running one's
  by-number : (e : Entry) (n : ℕ) → seen e ≡ n → n ≤ v.book.number → (n ≡ v.book.number → is_settled (readable e) (writable e) p ≡ true) → SettlesBy e
  by-number e n is le at_once = by-less (cases_lt n v.book.number)
    where
      by-less : (n < v.book.number) ⊎ (v.book.number ≤ n) → SettlesBy e
      by-less (inl less) = inl (omega (arith, is, less))
      by-less (inr more) = inr (at_once (omega (arith, le, more)))

  pub clear-settles : (n : ℕ) → Fits Now v 0 s (Clear n) → Settles (on_clear n (v.entries s))
  clear-settles n f =
      cond_both (nat_le n (seen (v.entries s))) _ _ Settles (λ e. inl unmet) (λ e. cond_both (owned (v.entries s)) _ _ Settles (λ o. inl unmet) (λ o. by-fit f))
    where
      by-fit : (n ≤ seen (v.entries s)) ⊎ ClearRuns v n s → SettlesBy (Nil n)
      by-fit (inl old) = inl (omega (arith, old, unmet))
      by-fit (inr c) = absurd (c.other (mine Write c.q c.runs).1)

  module _ (n q : ℕ) where
    read-settles : HandFits v n Read q s → Settles (on_hand s n Read q (v.entries s))
    read-settles f =
        cond_both (nat_lt n (seen (v.entries s))) _ _ Settles (λ e. inl unmet)
        (λ e. cond_both (not (owned (v.entries s))) _ _ Settles (λ o. inl unmet)
        (λ o. cond_both (q == s) _ _ Settles
        (λ k. by-number (meet n (v.entries s)) n (seen-meet n (v.entries s) (owned-of (owned (v.entries s)) o)) f.le (λ same. by-read (meet n (v.entries s)) (meet-readable n (v.entries s) (owned-of (owned (v.entries s)) o)) (now same)))
        (λ k. by-number (OwnRead n (bytes (v.entries s))) n refl f.le (λ same. by-read (OwnRead n (bytes (v.entries s))) refl (now same)))))
      where
        owned-of : (b : Bool) → not b ≡ false → b ≡ true
        owned-of true h = refl
        owned-of false h = cc

        meet-readable : (n : ℕ) (e : Entry) → owned e ≡ true → readable (meet n e) ≡ true
        meet-readable n (Nil m) w = cc
        meet-readable n (Copy m b) w = cc
        meet-readable n (OwnRead m b) w = refl
        meet-readable n (OwnWrite m b) w = refl
        meet-readable n (Handed m to b) w = cc

        now : n ≡ v.book.number → Read ≡ p.kind
        now same = (mine Read q (f.runs p.kind s same asked_runs)).0

    write-settles : HandFits v n Write q s → Settles (on_hand s n Write q (v.entries s))
    write-settles f =
        cond_both (nat_lt n (seen (v.entries s))) _ _ Settles (λ e. inl unmet)
        (λ e. cond_both (owned (v.entries s) && (q == s)) _ _ Settles (λ o. inr (by-write (OwnWrite n (bytes (v.entries s))) refl))
        (λ o. cond_both (owned (v.entries s) && nat_lt (seen (v.entries s)) n) _ _ Settles
        (λ k. by-number (Handed n q (bytes (v.entries s))) n refl f.le (λ same. absurd (apart (owned (v.entries s)) (q == s) o (and_parts (owned (v.entries s)) (nat_lt (seen (v.entries s)) n) k).0 (eq-eqb q s (now same)))))
        (λ k. cond_both (handed_to q (v.entries s) && (n == seen (v.entries s))) _ _ Settles (λ g. inl unmet) (λ g. inl unmet))))
      where
        apart : (a b : Bool) → a && b ≡ false → a ≡ true → b ≡ true → ⊥
        apart true true h x y = cc
        apart true false h x y = cc
        apart false b h x y = cc

        now : n ≡ v.book.number → q ≡ s
        now same = (mine Write q (f.runs p.kind s same asked_runs)).1

  pub hand-settles : (n : ℕ) (kind : Kind) (q : ℕ) → HandFits v n kind q s → Settles (on_hand s n kind q (v.entries s))
  hand-settles n Read q f = read-settles n q f
  hand-settles n Write q f = write-settles n q f

  pub page-settles : (n : ℕ) (kind : Kind) (b : List ℕ) → Fits Now v 0 s (Page n kind b) → Settles (on_page n kind b (v.entries s))
  page-settles n kind b f =
      cond_both (nat_lt n (seen (v.entries s))) _ _ Settles (λ e. inl unmet)
      (λ e. cond_both (n == seen (v.entries s)) _ _ Settles (λ o. inl unmet)
      (λ o. cond_both (owned (v.entries s)) _ _ Settles (λ k. inl unmet) (λ k. by-fit f)))
    where
      seen-installed : (kind : Kind) → seen (installed kind n b) ≡ n
      seen-installed Read = refl
      seen-installed Write = refl

      by-kind : (kind : Kind) → kind ≡ p.kind → is_settled (readable (installed kind n b)) (writable (installed kind n b)) p ≡ true
      by-kind Read k = by-read (installed Read n b) refl k
      by-kind Write k = by-write (installed Write n b) refl

      by-fit : (n ≤ seen (v.entries s)) ⊎ InFlight Now v n kind s b → SettlesBy (installed kind n b)
      by-fit (inl old) = let is = seen-installed kind in inl (omega (arith, old, unmet, is))
      by-fit (inr g) = inr (by-kind kind (mine kind s g.runs).0)
