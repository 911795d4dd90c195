-- A row of the entry's table gives the same with the machine's bytes, while the right that is mapped stays.
use Rattle.std.proofs.Common.{◌≡◌, ℕ, Bool, true, false, ◌==◌, List, Option, Some, None, refl, nat_lt, nat_le, if◌then◌else◌}
use Rattle.shm_model.specs.declared.request_kind.Kind.{Kind}
use Rattle.shm_model.specs.declared.request_kind.Kind.TheVariants.{Read, Write}
use Rattle.shm_model.specs.Entry.{Entry, Nil, Copy, OwnRead, OwnWrite, Handed, Out, Nothing, ToManager, ToSite, Cleared, Page, Confirm, on_clear, on_hand, on_page, writable}
use Rattle.shm_model.specs.Transfer.{is_nothing}
use Rattle.shm_laws.proofs.Page.Entry.{false-true}
use Rattle.shm_mapping.specs.Mapped.{Mapped, allows, with_bytes, with_memory}
use Rattle.shm_mapping.proofs.Joined.{allowed, by_kind}

-- what a row gives, with the machine's bytes
abbrev pub kept_row : Kind → List ℕ → Entry × Out → Entry × Out
kept_row kind memory row = (by_kind kind memory row.0, row.1)

-- something was sent, so the entry became this one
abbrev pub StillAllowed : Kind → Entry × Out → Type 0
StillAllowed kind row = is_nothing row.1 ≡ false → allows kind row.0 ≡ true

module _ (n k : ℕ) (memory b : List ℕ) where
  clear-if : (old : Bool) → (if old then (OwnWrite k memory, ToManager (Cleared n)) else (OwnWrite k memory, Nothing))
      ≡ kept_row Write memory (if old then (OwnWrite k b, ToManager (Cleared n)) else (OwnWrite k b, Nothing))
  clear-if true = refl
  clear-if false = refl

  page-if : (old same : Bool) → (if old then (OwnWrite k memory, Nothing) else if same then (OwnWrite k memory, ToManager (Confirm n)) else (OwnWrite k memory, Nothing))
      ≡ kept_row Write memory (if old then (OwnWrite k b, Nothing) else if same then (OwnWrite k b, ToManager (Confirm n)) else (OwnWrite k b, Nothing))
  page-if true same = refl
  page-if false true = refl
  page-if false false = refl

  read-if : (to : ℕ) (old self : Bool)
      → StillAllowed Write (if old then (OwnWrite k b, Nothing) else if self then (OwnWrite n b, ToManager (Confirm n)) else (OwnRead n b, ToSite to (Page n Read b)))
      → (if old then (OwnWrite k memory, Nothing) else if self then (OwnWrite n memory, ToManager (Confirm n)) else (OwnRead n memory, ToSite to (Page n Read memory)))
      ≡ kept_row Write memory (if old then (OwnWrite k b, Nothing) else if self then (OwnWrite n b, ToManager (Confirm n)) else (OwnRead n b, ToSite to (Page n Read b)))
  read-if to true self still = refl
  read-if to false true still = refl
  read-if to false false still = absurd (false-true (still refl))

  write-if : (to : ℕ) (old self above : Bool)
      → StillAllowed Write (if old then (OwnWrite k b, Nothing) else if self then (OwnWrite n b, ToManager (Confirm n)) else if above then (Handed n to b, ToSite to (Page n Write b)) else (OwnWrite k b, Nothing))
      → (if old then (OwnWrite k memory, Nothing) else if self then (OwnWrite n memory, ToManager (Confirm n)) else if above then (Handed n to memory, ToSite to (Page n Write memory)) else (OwnWrite k memory, Nothing))
      ≡ kept_row Write memory (if old then (OwnWrite k b, Nothing) else if self then (OwnWrite n b, ToManager (Confirm n)) else if above then (Handed n to b, ToSite to (Page n Write b)) else (OwnWrite k b, Nothing))
  write-if to true self above still = refl
  write-if to false true above still = refl
  write-if to false false true still = absurd (false-true (still refl))
  write-if to false false false still = refl

clear-write : (memory : List ℕ) (n : ℕ) (e : Entry) → writable e ≡ true → on_clear n (with_bytes memory e) ≡ kept_row Write memory (on_clear n e)
clear-write memory n (Nil k) w = absurd (false-true w)
clear-write memory n (Copy k b) w = absurd (false-true w)
clear-write memory n (OwnRead k b) w = absurd (false-true w)
clear-write memory n (OwnWrite k b) w = clear-if n k memory b (nat_le n k)
clear-write memory n (Handed k to b) w = absurd (false-true w)

page-write : (memory : List ℕ) (n : ℕ) (kind : Kind) (new : List ℕ) (e : Entry) → writable e ≡ true → on_page n kind new (with_bytes memory e) ≡ kept_row Write memory (on_page n kind new e)
page-write memory n kind new (Nil k) w = absurd (false-true w)
page-write memory n kind new (Copy k b) w = absurd (false-true w)
page-write memory n kind new (OwnRead k b) w = absurd (false-true w)
page-write memory n kind new (OwnWrite k b) w = page-if n k memory b (nat_lt n k) (n == k)
page-write memory n kind new (Handed k to b) w = absurd (false-true w)

hand-write : (memory : List ℕ) (me n : ℕ) (kind : Kind) (to : ℕ) (e : Entry) → writable e ≡ true → StillAllowed Write (on_hand me n kind to e)
    → on_hand me n kind to (with_bytes memory e) ≡ kept_row Write memory (on_hand me n kind to e)
hand-write memory me n kind to (Nil k) w still = absurd (false-true w)
hand-write memory me n kind to (Copy k b) w still = absurd (false-true w)
hand-write memory me n kind to (OwnRead k b) w still = absurd (false-true w)
hand-write memory me n Read to (OwnWrite k b) w still = read-if n k memory b to (nat_lt n k) (to == me) still
hand-write memory me n Write to (OwnWrite k b) w still = write-if n k memory b to (nat_lt n k) (to == me) (nat_lt k n) still
hand-write memory me n kind to (Handed k t b) w still = absurd (false-true w)

-- of each page, however it is mapped
abbrev pub with_row : Option Mapped → Entry × Out → Entry × Out
with_row m row = (with_memory m row.0, row.1)

clear-kind : (kind : Kind) (memory : List ℕ) (n : ℕ) (e : Entry) → allows kind e ≡ true → on_clear n (by_kind kind memory e) ≡ kept_row kind memory (on_clear n e)
clear-kind Read memory n e a = refl
clear-kind Write memory n e a = clear-write memory n e a

pub clear-row : (m : Option Mapped) (n : ℕ) (e : Entry) → allowed m e ≡ true → on_clear n (with_memory m e) ≡ with_row m (on_clear n e)
clear-row None n e a = refl
clear-row (Some m) n e a = clear-kind m.kind m.memory n e a

page-kind : (kind : Kind) (memory : List ℕ) (n : ℕ) (k : Kind) (new : List ℕ) (e : Entry) → allows kind e ≡ true → on_page n k new (by_kind kind memory e) ≡ kept_row kind memory (on_page n k new e)
page-kind Read memory n k new e a = refl
page-kind Write memory n k new e a = page-write memory n k new e a

pub page-row : (m : Option Mapped) (n : ℕ) (k : Kind) (new : List ℕ) (e : Entry) → allowed m e ≡ true → on_page n k new (with_memory m e) ≡ with_row m (on_page n k new e)
page-row None n k new e a = refl
page-row (Some m) n k new e a = page-kind m.kind m.memory n k new e a

hand-kind : (kind : Kind) (memory : List ℕ) (me n : ℕ) (k : Kind) (to : ℕ) (e : Entry) → allows kind e ≡ true → StillAllowed kind (on_hand me n k to e)
    → on_hand me n k to (by_kind kind memory e) ≡ kept_row kind memory (on_hand me n k to e)
hand-kind Read memory me n k to e a still = refl
hand-kind Write memory me n k to e a still = hand-write memory me n k to e a still

pub hand-row : (m : Option Mapped) (me n : ℕ) (k : Kind) (to : ℕ) (e : Entry) → allowed m e ≡ true → (is_nothing (on_hand me n k to e).1 ≡ false → allowed m (on_hand me n k to e).0 ≡ true)
    → on_hand me n k to (with_memory m e) ≡ with_row m (on_hand me n k to e)
hand-row None me n k to e a still = refl
hand-row (Some m) me n k to e a still = hand-kind m.kind m.memory me n k to e a still
