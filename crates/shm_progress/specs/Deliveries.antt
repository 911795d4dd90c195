-- Deliveries end, in whatever order. An envelope that is handed over causes few others, and so do those; only a transaction that starts
-- causes more, and it serves a request that was not served before. So a number falls with each delivery, and it bounds how many there can
-- be: that a loop ends where a number falls is from Floyd 1967, "Assigning meanings to programs". The numbers are this repository's own.
use Rattle.std.specs.Prelude.{◌≡◌, ℕ, ◌+◌, ◌*◌, Bool, false, List, [], ◌∷◌, ◌++◌, map, Option, Some, None, ◌&&◌, not, nat_lt, if◌then◌else◌, is_some, IsTrue, slice_get, sum_by, count_by}
use Rattle.shm_place.specs.declared.page_id.PageId.{PageId}
use Rattle.shm_model.specs.declared.event.Event.{Event}
use Rattle.shm_model.specs.declared.event.Event.TheVariants.{Deliver}
use Rattle.shm_model.specs.Entry.{Note, Ask, Clear, Cleared, Hand, Page, Confirm}
use Rattle.shm_model.specs.Book.{max_sites}
use Rattle.shm_model.specs.Message.{Envelope, Message, Of, Call, Replies, Purge, Purged}
use Rattle.shm_model.specs.Site.{Site}
use Rattle.shm_model.specs.World.{Opening, World, live, next, run}

-- these envelopes are on their way, each when its turn comes
abbrev pub AreOnTheirWay : World → List ℕ → Type 0
AreOnTheirWay w [] = Unit {0}
AreOnTheirWay w (k ∷ ks) = IsTrue (is_some (live w k)) × AreOnTheirWay (next w (Deliver k)).world ks

-- nothing is on its way
abbrev pub IsAtRest : World → Type 0
IsAtRest w = (k : ℕ) → live w k ≡ None

-- deliveries, each of an envelope that is on its way, after which nothing is
pub record ComesToRest (o : Opening) (events : List Event) : Type 0 where
  pub envelopes : List ℕ
  pub on_their_way : AreOnTheirWay (run o events).world envelopes
  pub at_rest : IsAtRest (run o (events ++ map Deliver envelopes)).world

-- The most deliveries that a note comes to, its own and those that it causes; a transaction that starts is counted apart.
abbrev pub note_deliveries : Note → ℕ
note_deliveries (Ask _ _) = 1
note_deliveries (Confirm _) = 1
note_deliveries (Page _ _ _) = 2
note_deliveries (Hand _ _ _) = 3
note_deliveries (Cleared _) = 4
note_deliveries (Clear _) = 5

-- a call has its reply, and a Purge with its Purged for each site
abbrev pub message_deliveries : ℕ → Message → ℕ
message_deliveries sites (Of _ note) = note_deliveries note
message_deliveries sites (Call _ _) = 2 + 2 * sites
message_deliveries sites (Replies _ _) = 1
message_deliveries sites (Purge _) = 2
message_deliveries sites (Purged _) = 1

-- a transaction that starts clears at most every site, or has the page handed at once
abbrev pub transaction_deliveries : ℕ
transaction_deliveries = 5 * max_sites

-- those of these envelopes that aren't gone, the first of them being number k
abbrev pub not_gone : (ℕ → Bool) → ℕ → List Envelope → List Envelope
not_gone gone k [] = []
not_gone gone k (e ∷ es) = if gone k then not_gone gone (k + 1) es else e ∷ not_gone gone (k + 1) es

abbrev pub on_their_way : World → List Envelope
on_their_way w = not_gone w.gone 0 w.sent

-- the manager may still serve this request: it has served none of that site that is as new, and hasn't purged the page
abbrev pub may_serve : Site → ℕ → PageId → Note → Bool
may_serve manager from page (Ask request _) = not (manager.purged page.seg) && nat_lt ((manager.books page).served from) request
may_serve manager from page _ = false

abbrev pub may_serve_message : Site → ℕ → Message → Bool
may_serve_message manager from (Of page note) = may_serve manager from page note
may_serve_message manager from _ = false

abbrev pub may_serve_at : Option Site → Envelope → Bool
may_serve_at None e = false
may_serve_at (Some manager) e = may_serve_message manager e.from e.message

-- an Ask whose request may still start a transaction where it was sent to
abbrev pub is_unserved : List Site → Envelope → Bool
is_unserved sites e = may_serve_at (slice_get sites e.to) e

abbrev pub unserved_asks : World → ℕ
unserved_asks w = count_by (is_unserved w.sites) w.sent

-- how many deliveries there can be, if nothing else happens
abbrev pub deliveries_left : World → ℕ
deliveries_left w = sum_by (λ e. message_deliveries w.count e.message) (on_their_way w) + transaction_deliveries * unserved_asks w
