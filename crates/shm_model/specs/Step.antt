-- One step of a site: one case for each input.
use Rattle.std.specs.Prelude.{ℕ, Bool, true, false, List, [], ◌∷◌, ◌++◌, Option, Some, None, ◌*◌, ◌&&◌, ◌||◌, not, ◌==◌, nat_lt, if◌then◌else◌, map, filter}
use Rattle.std.specs.List.{flat_map, range_with_len}
use Rattle.shm_place.specs.declared.page_id.PageId.{PageId}
use Rattle.shm_place.specs.Home.{home_of_id}
use Rattle.shm_place.specs.Limits.{segments_of_a_home}
use Rattle.shm_place.specs.Page.{in_limits, manager_of}
use Rattle.shm_model.specs.declared.answer.Answer.TheVariants.{Took, Refused}
use Rattle.shm_model.specs.Entry.{Note, Ask, Cleared, Confirm}
use Rattle.shm_model.specs.Book.{orders, without_volatile}
use Rattle.shm_model.specs.Permission.{Segment}
use Rattle.shm_model.specs.Refusal.{foreign_message}
use Rattle.shm_model.specs.Message.{Message, Of, Call, Replies, Purge, Purged, Envelope, Input, Load, Store, Begin, Deliver, Tick, Restart}
use Rattle.shm_model.specs.Calls.{Outstanding, op_home}
use Rattle.shm_model.specs.Site.{Site, Pending, Step, still}
use Rattle.shm_model.specs.Access.{load, store}
use Rattle.shm_model.specs.Transfer.{on_note_of, order_envelopes}
use Rattle.shm_model.specs.SegmentCalls.{begin, call_envelope, on_call, on_purge, on_purged, on_reply, purge_envelope}

-- a note that only the page's manager is sent
abbrev pub is_to_manager : Note → Bool
is_to_manager (Ask _ _) = true
is_to_manager (Cleared _) = true
is_to_manager (Confirm _) = true
is_to_manager _ = false

abbrev pub id_in_limits : ℕ → ℕ → Bool
id_in_limits sites id = nat_lt id (segments_of_a_home * sites)

-- a message that this sender can have sent to this site
abbrev pub is_proper : ℕ → ℕ → ℕ → Message → Bool
is_proper sites me from (Of page note) = in_limits sites page && (not (is_to_manager note) || (manager_of sites page == me))
is_proper sites me from (Call _ op) = op_home sites from op == me
is_proper sites me from (Replies _ _) = true
is_proper sites me from (Purge id) = id_in_limits sites id && (from == home_of_id sites id)
is_proper sites me from (Purged id) = id_in_limits sites id && (me == home_of_id sites id)

-- an envelope for another site, from no site, or with a message that can't be for this one
abbrev pub foreign : ℕ → ℕ → Envelope → Bool
foreign sites me e = not ((e.to == me) && nat_lt e.from sites && is_proper sites me e.from e.message)

abbrev pub on_message : ℕ → ℕ → ℕ → Message → Site → Step
on_message sites me from (Of page note) site = on_note_of sites me from page note site
on_message sites me from (Call number op) site = on_call sites me from number op site
on_message sites me from (Replies number reply) site = on_reply number reply site
on_message sites me from (Purge id) site = on_purge sites me id site
on_message sites me from (Purged id) site = on_purged from id site

abbrev pub deliver : ℕ → ℕ → Envelope → Site → Step
deliver sites me e site =
    if foreign sites me e then still (Refused foreign_message) site
    else on_message sites me e.from e.message site

-- What a tick sends again, in this order: the pending Asks, what the running transactions ask for, the outstanding call, the purges.
abbrev pub ask_again : ℕ → ℕ → Pending → Envelope
ask_again sites me p = record { from = me; to = manager_of sites p.page; message = Of p.page (Ask p.request p.kind) }

abbrev pub orders_again : ℕ → Site → PageId → List Envelope
orders_again me site page = order_envelopes me page (site.books page) (orders (site.books page))

abbrev pub call_again : ℕ → ℕ → Option Outstanding → List Envelope
call_again sites me None = []
call_again sites me (Some o) = call_envelope sites me o.number o.op ∷ []

abbrev pub purges_again : ℕ → ℕ → Site → Segment → List Envelope
purges_again sites me site g = map (purge_envelope me g.id) (filter (site.missing g.id) (range_with_len 0 sites))

abbrev pub tick_envelopes : ℕ → ℕ → Site → List Envelope
tick_envelopes sites me site =
    map (ask_again sites me) site.pending
    ++ (flat_map (orders_again me site) site.booked
    ++ (call_again sites me site.outstanding
    ++ flat_map (purges_again sites me site) site.table))

abbrev pub tick : ℕ → ℕ → Site → Step
tick sites me site = record { site = site; answer = Took; sent = tick_envelopes sites me site }

-- a restart keeps what is stable
abbrev pub restart : Site → Step
restart site = still Took (record site { pending = []; books = λ p. without_volatile (site.books p) })

abbrev pub step : ℕ → ℕ → Site → Input → Step
step sites me site (Load at offset) = load sites me at offset site
step sites me site (Store at offset byte) = store sites me at offset byte site
step sites me site (Begin request) = begin sites me request site
step sites me site (Deliver e) = deliver sites me e site
step sites me site Tick = tick sites me site
step sites me site Restart = restart site
