-- A page as one site holds it, and what the three messages to it do.
-- Li and Hudak 1989, §3: a site has nil, read or write access to a page; one site owns it; whoever is to write has all
-- copies invalidated first. Numbers tell late and repeated messages apart: an entry has met the transactions up to `seen`.
use Rattle.std.specs.Prelude.{ℕ, Bool, true, false, List, [], ◌&&◌, not, nat_lt, nat_le, ◌==◌, if◌then◌else◌}
use Rattle.shm_model.specs.declared.request_kind.Kind.{Kind}
use Rattle.shm_model.specs.declared.request_kind.Kind.TheVariants.{Read, Write}

-- the number met last, and the bytes where there are any; a page that was handed over keeps them for its receiver
pub data Entry : Type 0 where
  Nil : ℕ → Entry
  Copy : ℕ → List ℕ → Entry
  OwnRead : ℕ → List ℕ → Entry
  OwnWrite : ℕ → List ℕ → Entry
  Handed : ℕ → ℕ → List ℕ → Entry

abbrev pub seen : Entry → ℕ
seen (Nil n) = n
seen (Copy n _) = n
seen (OwnRead n _) = n
seen (OwnWrite n _) = n
seen (Handed n _ _) = n

abbrev pub bytes : Entry → List ℕ
bytes (Nil _) = []
bytes (Copy _ b) = b
bytes (OwnRead _ b) = b
bytes (OwnWrite _ b) = b
bytes (Handed _ _ b) = b

abbrev pub is_copy : Entry → Bool
is_copy (Copy _ _) = true
is_copy _ = false

abbrev pub owned : Entry → Bool
owned (OwnRead _ _) = true
owned (OwnWrite _ _) = true
owned _ = false

abbrev pub readable : Entry → Bool
readable (Copy _ _) = true
readable (OwnRead _ _) = true
readable (OwnWrite _ _) = true
readable _ = false

abbrev pub writable : Entry → Bool
writable (OwnWrite _ _) = true
writable _ = false

abbrev pub handed_to : ℕ → Entry → Bool
handed_to site (Handed _ to _) = to == site
handed_to _ _ = false

-- what sites tell one another of one page; the number is a transaction's, for an Ask the request's
pub data Note : Type 0 where
  Ask : ℕ → Kind → Note
  Clear : ℕ → Note
  Cleared : ℕ → Note
  Hand : ℕ → Kind → ℕ → Note
  Page : ℕ → Kind → List ℕ → Note
  Confirm : ℕ → Note

-- what a row sends. Where nothing is sent the message was ignored, and the entry is as it was.
pub data Out : Type 0 where
  Nothing : Out
  ToManager : Note → Out
  ToSite : ℕ → Note → Out

-- A Clear: whoever met it answers again; an owner knows better.
abbrev pub on_clear : ℕ → Entry → Entry × Out
on_clear n e =
    if nat_le n (seen e) then (e, ToManager (Cleared n))
    else if owned e then (e, Nothing)
    else (Nil n, ToManager (Cleared n))

-- the owner meets a number, and stays what it is
abbrev pub meet : ℕ → Entry → Entry
meet n (OwnRead _ b) = OwnRead n b
meet n (OwnWrite _ b) = OwnWrite n b
meet _ e = e

-- A Hand to read: an owner stops writing and lends a copy; to lend to itself changes no right.
abbrev pub hand_read : ℕ → ℕ → ℕ → Entry → Entry × Out
hand_read me n to e =
    if nat_lt n (seen e) then (e, Nothing)
    else if not (owned e) then (e, Nothing)
    else if to == me then (meet n e, ToManager (Confirm n))
    else (OwnRead n (bytes e), ToSite to (Page n Read (bytes e)))

-- A Hand to write: an owner keeps the page for itself to write, or hands it over; whoever handed it over does so again.
abbrev pub hand_write : ℕ → ℕ → ℕ → Entry → Entry × Out
hand_write me n to e =
    if nat_lt n (seen e) then (e, Nothing)
    else if owned e && (to == me) then (OwnWrite n (bytes e), ToManager (Confirm n))
    else if owned e && nat_lt (seen e) n then (Handed n to (bytes e), ToSite to (Page n Write (bytes e)))
    else if handed_to to e && (n == seen e) then (e, ToSite to (Page n Write (bytes e)))
    else (e, Nothing)

abbrev pub on_hand : ℕ → ℕ → Kind → ℕ → Entry → Entry × Out
on_hand me n Read to e = hand_read me n to e
on_hand me n Write to e = hand_write me n to e

abbrev pub installed : Kind → ℕ → List ℕ → Entry
installed Read n b = Copy n b
installed Write n b = OwnWrite n b

-- A Page: a number that was met is confirmed and never installed again; a newer one is installed, except over an owner.
abbrev pub on_page : ℕ → Kind → List ℕ → Entry → Entry × Out
on_page n kind b e =
    if nat_lt n (seen e) then (e, Nothing)
    else if n == seen e then (e, ToManager (Confirm n))
    else if owned e then (e, Nothing)
    else (installed kind n b, ToManager (Confirm n))

-- A copy that is given up for want of frames: what it met stays met.
abbrev pub forget : Entry → Entry
forget e = Nil (seen e)
