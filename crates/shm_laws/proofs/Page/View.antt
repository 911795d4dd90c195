-- What is true of one page in every run, and of each note of it that was ever sent: the invariant on which the headline stands.
-- `Now` says of bytes that they are what was stored last.
use Rattle.std.proofs.Common.{◌≡◌, ◌≢◌, ℕ, ◌<◌, ◌≤◌, ◌⊎◌, inl, inr, true, false, Some, None, List}
use Rattle.shm_model.specs.declared.request_kind.Kind.{Kind}
use Rattle.shm_model.specs.declared.request_kind.Kind.TheVariants.{Read, Write}
use Rattle.shm_model.specs.Entry.{Entry, Handed, Note, Ask, Clear, Cleared, Hand, Page, Confirm, bytes, is_copy, owned, readable, seen, writable}
use Rattle.shm_model.specs.Book.{Book, max_sites}
use Rattle.shm_model.specs.Basics.{at}

pub either : {A B C D : Type 0} → (A → C) → (B → D) → A ⊎ B → C ⊎ D
either f g (inl a) = inl (f a)
either f g (inr b) = inr (g b)

-- one page: its entry at each site, and its manager's book
pub record View : Type 0 where
  pub entries : ℕ → Entry
  pub book : Book

abbrev pub with_entry_at : View → ℕ → Entry → View
with_entry_at v d e = record v { entries = at v.entries d e }

pub record Runs (b : Book) (kind : Kind) (q : ℕ) : Type 0 where
  pub is : b.running ≡ Some (record { kind = kind; requester = q })

-- every site with a copy, but q, has met the running transaction
pub record AllMet (v : View) (q : ℕ) : Type 0 where
  pub met : (s : ℕ) → s < max_sites → v.book.copies s ≡ true → s ≢ q → v.book.number ≤ seen (v.entries s)

-- the transaction that runs gives `to` these bytes: the owner has let go, and nobody may write
pub record InFlight (Now : List ℕ → Type 0) (v : View) (n : ℕ) (kind : Kind) (to : ℕ) (b : List ℕ) : Type 0 where
  pub runs : Runs v.book kind to
  pub number : n ≡ v.book.number
  pub other : to ≢ v.book.owner
  pub met : v.book.number ≤ seen (v.entries v.book.owner)
  pub now : Now b
  pub unwritable : (s : ℕ) → writable (v.entries s) ≡ false
  pub unreadable : kind ≡ Write → (s : ℕ) → s ≢ to → readable (v.entries s) ≡ false
  pub all_met : kind ≡ Write → AllMet v to

-- the owner gave the page away, in the write that runs
pub record GaveAway (v : View) : Type 0 where
  pub to : ℕ
  pub given : List ℕ
  pub is : v.entries v.book.owner ≡ Handed v.book.number to given
  pub runs : Runs v.book Write to

-- the page isn't lost: its owner has it, or gave it away and keeps its bytes
abbrev pub IsKept : View → Type 0
IsKept v = (owned (v.entries v.book.owner) ≡ true) ⊎ GaveAway v

pub record Holds (Now : List ℕ → Type 0) (v : View) : Type 0 where
  pub met : (s : ℕ) → seen (v.entries s) ≤ v.book.number
  pub owner : (s : ℕ) → owned (v.entries s) ≡ true → (s ≡ v.book.owner) ⊎ (Runs v.book Write s × (v.book.number ≤ seen (v.entries s)))
  pub copy_other : (s : ℕ) → is_copy (v.entries s) ≡ true → s ≢ v.book.owner
  pub copy : (s : ℕ) → is_copy (v.entries s) ≡ true → (v.book.copies s ≡ true) ⊎ (Runs v.book Read s × (v.book.number ≤ seen (v.entries s)))
  pub alone : (s x : ℕ) → writable (v.entries s) ≡ true → s ≢ x → readable (v.entries x) ≡ false
  pub now : (s : ℕ) → readable (v.entries s) ≡ true → Now (bytes (v.entries s))
  pub handed : (s n to : ℕ) (b : List ℕ) → v.entries s ≡ Handed n to b → seen (v.entries to) < n → InFlight Now v n Write to b
  pub writer : (q : ℕ) → Runs v.book Write q → v.book.number ≤ seen (v.entries q) → writable (v.entries q) ≡ true
  pub owner_first : (kind : Kind) (q : ℕ) → Runs v.book kind q → v.book.number ≤ seen (v.entries q) → v.book.number ≤ seen (v.entries v.book.owner)
  pub copies_first : (q : ℕ) → Runs v.book Write q → v.book.number ≤ seen (v.entries q) → AllMet v q
  pub nobody_else : (q x : ℕ) → Runs v.book Write q → q ≢ x → v.book.number ≤ seen (v.entries x) → readable (v.entries x) ≡ false
  pub owner_lent : (q : ℕ) → Runs v.book Read q → q ≢ v.book.owner → v.book.number ≤ seen (v.entries v.book.owner) → writable (v.entries v.book.owner) ≡ false
  pub cleared : (kind : Kind) (q s : ℕ) → Runs v.book kind q → v.book.cleared s ≡ true → v.book.number ≤ seen (v.entries s)
  pub bounded : (s : ℕ) → readable (v.entries s) ≡ true → s < max_sites
  pub owner_no_copy : v.book.copies v.book.owner ≡ false
  pub kept : IsKept v

-- a Clear that d hasn't met is the running Write's
pub record ClearRuns (v : View) (n d : ℕ) : Type 0 where
  pub number : n ≡ v.book.number
  pub q : ℕ
  pub runs : Runs v.book Write q
  pub other : q ≢ d
  pub copy : v.book.copies d ≡ true
  pub bounded : d < max_sites

-- a Hand is old, and then d and q have met it; or the running transaction's, and then all is ready for it
pub record HandFits (v : View) (n : ℕ) (kind : Kind) (q d : ℕ) : Type 0 where
  pub le : n ≤ v.book.number
  pub old_owner : n < v.book.number ⊎ (v.book.running ≡ None) → n ≤ seen (v.entries d)
  pub old_requester : n < v.book.number ⊎ (v.book.running ≡ None) → n ≤ seen (v.entries q)
  pub runs : (k : Kind) (p : ℕ) → n ≡ v.book.number → Runs v.book k p → Runs v.book kind q
  pub owner : (k : Kind) (p : ℕ) → n ≡ v.book.number → Runs v.book k p → d ≡ v.book.owner
  pub all_met : (k : Kind) (p : ℕ) → n ≡ v.book.number → Runs v.book k p → kind ≡ Write → AllMet v q
  pub again_read : kind ≡ Read → n ≡ seen (v.entries d) → owned (v.entries d) ≡ true → q ≢ d → writable (v.entries d) ≡ false
  pub again_to : kind ≡ Write → n ≡ seen (v.entries d) → owned (v.entries d) ≡ true → q ≡ d
  pub again_write : kind ≡ Write → n ≡ seen (v.entries d) → owned (v.entries d) ≡ true → writable (v.entries d) ≡ true

-- what is true of a note that was sent
abbrev pub Fits : (List ℕ → Type 0) → View → ℕ → ℕ → Note → Type 0
Fits Now v from to (Ask r kind) = Unit {0}
Fits Now v from to (Clear n) = (n ≤ seen (v.entries to)) ⊎ ClearRuns v n to
Fits Now v from to (Cleared n) = n ≤ seen (v.entries from)
Fits Now v from to (Hand n kind q) = HandFits v n kind q to
Fits Now v from to (Page n kind b) = (n ≤ seen (v.entries to)) ⊎ InFlight Now v n kind to b
Fits Now v from to (Confirm n) = n ≤ seen (v.entries from)
