-- All envelopes that a step of a site sends are from that site.
use Rattle.std.proofs.Common.{◌≡◌, ◌∙◌, ℕ, zero, suc, Bool, true, false, List, [], ◌∷◌, ◌++◌, ◌&&◌, ◌==◌, Option, Some, None, Result, Ok, Err, refl, sym, ap, append-nil, if◌then◌else◌, is_none, is_some, slice_get}
use Rattle.std.specs.Prelude.{map}
use Rattle.std.specs.List.{flat_map, range_with_len}
use Rattle.shm_place.specs.declared.page_id.PageId.{PageId}
use Rattle.shm_model.specs.declared.answer.Answer.{Answer}
use Rattle.shm_model.specs.declared.answer.Answer.TheVariants.{Took, Refused}
use Rattle.shm_model.specs.declared.call.Op.{Op}
use Rattle.shm_model.specs.declared.call.Op.TheVariants.{Attach, Detach}
use Rattle.shm_model.specs.declared.call.Reply.{Reply}
use Rattle.shm_model.specs.declared.call.Reply.TheVariants.{Attached as AttachedReply}
use Rattle.shm_model.specs.declared.call.Request.TheVariants.{Op as OpRequest, DetachAt}
use Rattle.shm_model.specs.declared.event.Event.{Event}
use Rattle.shm_model.specs.declared.event.Event.TheVariants.{Load as LoadEvent, Store as StoreEvent, Begin as BeginEvent, Tick as TickEvent, Restart as RestartEvent, Deliver as DeliverEvent, Repeat, Lose}
use Rattle.shm_model.specs.declared.request_kind.Kind.{Kind}
use Rattle.shm_model.specs.declared.request_kind.Kind.TheVariants.{Read, Write}
use Rattle.shm_model.specs.Basics.{greatest}
use Rattle.shm_model.specs.Book.{Order, ClearTo, HandTo, Outcome, Ignored, UsedUp, Taken, on_ask, on_cleared, on_confirm, orders}
use Rattle.shm_model.specs.Calls.{Attachment, Freshness, Fresh, Again, Old, Outstanding, fits, freshness}
use Rattle.shm_model.specs.Entry.{Entry, Note, Ask, Clear, Cleared, Hand, Page, Confirm, Out, Nothing, ToManager, ToSite, on_clear, on_hand, on_page, readable, writable}
use Rattle.shm_model.specs.Kernel.{Called, call, destroyed_by}
use Rattle.shm_model.specs.Message.{Envelope, Message, Of, Call, Replies, Purge, Purged, Input, Load, Store, Begin, Deliver, Tick, Restart}
use Rattle.shm_model.specs.Refusal.{no_such_message, no_such_site, numbers_used_up}
use Rattle.shm_model.specs.Site.{Site, Step, is_attached, least_free}
use Rattle.shm_model.specs.Access.{Place, ask_for, is_pending, load_if, right, store_if}
use Rattle.shm_model.specs.Transfer.{on_note, order_envelope, to_book, to_entry}
use Rattle.shm_model.specs.SegmentCalls.{attached_at, begin_detach, begin_op, executed, numbered, on_call_as, on_reply_to, purge_envelope, reply_counts}
use Rattle.shm_model.specs.Step.{ask_again, call_again, foreign, on_message, orders_again, purges_again, step}
use Rattle.shm_model.specs.World.{Next, World, deliver, hand_over, is_full, live, lose, next, step_site, stepped, unstepped, without}

abbrev pub AreFrom : ℕ → List Envelope → Type 0
AreFrom me [] = Unit {0}
AreFrom me (e ∷ es) = (e.from ≡ me) × AreFrom me es

abbrev Own : ℕ → Step → Type 0
Own me done = AreFrom me done.sent

-- what holds on both branches
either : {X : Type 0} (P : X → Type 0) (b : Bool) (x y : X) → P x → P y → P (if b then x else y)
either P true x y p q = p
either P false x y p q = q

from-append : (me : ℕ) (xs ys : List Envelope) → AreFrom me xs → AreFrom me ys → AreFrom me (xs ++ ys)
from-append me [] ys p q = q
from-append me (x ∷ xs) ys p q = (p.0, from-append me xs ys p.1 q)

from-map : {X : Type 0} (me : ℕ) (f : X → Envelope) → ((x : X) → (f x).from ≡ me) → (xs : List X) → AreFrom me (map f xs)
from-map me f h [] = tt
from-map me f h (x ∷ xs) = (h x, from-map me f h xs)

from-flat_map : {X : Type 0} (me : ℕ) (f : X → List Envelope) → ((x : X) → AreFrom me (f x)) → (xs : List X) → AreFrom me (flat_map f xs)
from-flat_map me f h [] = tt
from-flat_map me f h (x ∷ xs) = from-append me (f x) (flat_map f xs) (h x) (from-flat_map me f h xs)

pub from-at : (me : ℕ) (xs : List Envelope) (k : ℕ) (e : Envelope) → AreFrom me xs → slice_get xs k ≡ Some e → e.from ≡ me
from-at me [] k e p h = absurd (cc)
from-at me (x ∷ xs) zero e p h =
    let same : x ≡ e = cc in
    ap (λ (y : Envelope). y.from) (sym same) ∙ p.0
from-at me (x ∷ xs) (suc k) e p h = from-at me xs k e p.1 h

-- loads and stores
own-ask_for : (sites me : ℕ) (kind : Kind) (page : PageId) (site : Site) → Own me (ask_for sites me kind page site)
own-ask_for sites me kind page site =
    either (Own me) (is_pending kind page site.pending) _ _ tt
    (either (Own me) (site.requests == greatest) _ _ tt (refl, tt))

own-load_if : (sites me : ℕ) (place : Result Place ℕ) (site : Site) → Own me (load_if sites me place site)
own-load_if sites me (Err refusal) site = tt
own-load_if sites me (Ok place) site =
    either (Own me) (readable (site.entries place.page)) _ _ tt (own-ask_for sites me Read place.page site)

own-store_if : (sites me : ℕ) (place : Result Place ℕ) (byte : ℕ) (site : Site) → Own me (store_if sites me place byte site)
own-store_if sites me (Err refusal) byte site = tt
own-store_if sites me (Ok place) byte site =
    either (Own me) (writable (site.entries place.page)) _ _ tt (own-ask_for sites me Write place.page site)

-- segment calls
own-numbered : (me : ℕ) (site : Site) (done : Step) → Own me done → Own me (numbered site done)
own-numbered me site done own = either (Own me) (site.calls == greatest) _ _ tt own

own-begin_op : (sites me : ℕ) (op : Op) (site : Site) → Own me (begin_op sites me op site)
own-begin_op sites me (Detach id) site = tt
own-begin_op sites me (Attach cred id ro) site = either (Own me) (is_none (least_free site.attachments)) _ _ tt (own-numbered me site _ (refl, tt))
own-begin_op sites me op site = own-numbered me site _ (refl, tt)

own-begin_detach : (sites me a : ℕ) (found : Option Attachment) (site : Site) → Own me (begin_detach sites me a found site)
own-begin_detach sites me a None site = tt
own-begin_detach sites me a (Some attachment) site = own-numbered me site _ (refl, tt)

own-executed : (sites me from number : ℕ) (done : Called) (gone : Option ℕ) (site : Site) → Own me (executed sites me from number done gone site)
own-executed sites me from number done None site = (refl, tt)
own-executed sites me from number done (Some id) site = (refl, from-map me (purge_envelope me id) (λ to. refl) (range_with_len 0 sites))

own-on_call_as : (fresh : Freshness) (sites me from number : ℕ) (op : Op) (site : Site) → Own me (on_call_as fresh sites me from number op site)
own-on_call_as Fresh sites me from number op site =
    own-executed sites me from number (call sites me op site.table) (destroyed_by op site.table (call sites me op site.table).segments) site
own-on_call_as (Again reply) sites me from number op site = (refl, tt)
own-on_call_as Old sites me from number op site = tt

own-attached_at : (me : ℕ) (found : Option ℕ) (number : ℕ) (reply : Reply) (attachment : Attachment) (site : Site) → Own me (attached_at found number reply attachment site)
own-attached_at me None number reply attachment site = tt
own-attached_at me (Some a) number reply attachment site = tt

own-reply_counts : (me number : ℕ) (op : Op) (reply : Reply) (site : Site) → Own me (reply_counts number op reply site)
own-reply_counts me number (Attach cred id ro) (AttachedReply a) site =
    either (Own me) (site.purged id) _ _ tt (own-attached_at me (least_free site.attachments) number (AttachedReply a) _ site)
own-reply_counts me number (Attach cred id ro) reply site = tt
own-reply_counts me number op reply site = tt

own-on_reply_to : (me : ℕ) (found : Option Outstanding) (number : ℕ) (reply : Reply) (site : Site) → Own me (on_reply_to found number reply site)
own-on_reply_to me None number reply site = tt
own-on_reply_to me (Some o) number reply site =
    either (Own me) ((number == o.number) && fits o.op reply) _ _ (own-reply_counts me number o.op reply site) tt

-- notes
order-from : (me : ℕ) (page : PageId) (n : ℕ) (order : Order) → (order_envelope me page n order).from ≡ me
order-from me page n (ClearTo site) = refl
order-from me page n (HandTo owner requester kind) = refl

own-to_book : (me : ℕ) (page : PageId) (outcome : Outcome) (site : Site) → Own me (to_book me page outcome site)
own-to_book me page Ignored site = tt
own-to_book me page UsedUp site = tt
own-to_book me page (Taken b asked) site = from-map me (order_envelope me page b.number) (order-from me page b.number) asked

own-to_entry : (sites me : ℕ) (page : PageId) (row : Entry × Out) (site : Site) → Own me (to_entry sites me page row site)
own-to_entry sites me page (new, Nothing) site = tt
own-to_entry sites me page (new, ToManager note) site = (refl, tt)
own-to_entry sites me page (new, ToSite to note) site = (refl, tt)

own-on_note : (sites me from : ℕ) (page : PageId) (note : Note) (site : Site) → Own me (on_note sites me from page note site)
own-on_note sites me from page (Ask request kind) site = own-to_book me page (on_ask from request kind (site.books page)) site
own-on_note sites me from page (Clear n) site = own-to_entry sites me page (on_clear n (site.entries page)) site
own-on_note sites me from page (Cleared n) site = own-to_book me page (on_cleared from n (site.books page)) site
own-on_note sites me from page (Hand n kind to) site = own-to_entry sites me page (on_hand me n kind to (site.entries page)) site
own-on_note sites me from page (Page n kind b) site = own-to_entry sites me page (on_page n kind b (site.entries page)) site
own-on_note sites me from page (Confirm n) site = own-to_book me page (on_confirm from n (site.books page)) site

-- any envelope, any input
own-on_message : (sites me from : ℕ) (message : Message) (site : Site) → Own me (on_message sites me from message site)
own-on_message sites me from (Of page note) site = either (Own me) (site.purged page.seg) _ _ tt (own-on_note sites me from page note site)
own-on_message sites me from (Call number op) site = own-on_call_as (freshness (site.kept from) number) sites me from number op site
own-on_message sites me from (Replies number reply) site = own-on_reply_to me site.outstanding number reply site
own-on_message sites me from (Purge id) site = either (Own me) (is_attached site id) _ _ tt (refl, tt)
own-on_message sites me from (Purged id) site = either (Own me) (site.missing id from) _ _ tt tt

call_again-from : (sites me : ℕ) (outstanding : Option Outstanding) → AreFrom me (call_again sites me outstanding)
call_again-from sites me None = tt
call_again-from sites me (Some o) = (refl, tt)

own-tick : (sites me : ℕ) (site : Site) → Own me (step sites me site Tick)
own-tick sites me site =
    let orders_from = from-flat_map me (orders_again me site)
    (λ page. from-map me (order_envelope me page (site.books page).number) (order-from me page (site.books page).number) (orders (site.books page))) site.booked in
    let purges_from = from-flat_map me (purges_again sites me site) (λ g. from-map me (purge_envelope me g.id) (λ to. refl) _) site.table in
    from-append me _ _ (from-map me (ask_again sites me) (λ p. refl) site.pending)
    (from-append me _ _ orders_from (from-append me _ _ (call_again-from sites me site.outstanding) purges_from))

own-step : (sites me : ℕ) (site : Site) (input : Input) → Own me (step sites me site input)
own-step sites me site (Load a offset) = own-load_if sites me (right site.attachments a offset false) site
own-step sites me site (Store a offset byte) = own-store_if sites me (right site.attachments a offset true) byte site
own-step sites me site (Begin (OpRequest op)) = either (Own me) (is_some site.outstanding) _ _ tt (own-begin_op sites me op site)
own-step sites me site (Begin (DetachAt a)) = either (Own me) (is_some site.outstanding) _ _ tt (own-begin_detach sites me a (site.attachments a) site)
own-step sites me site (Deliver e) = either (Own me) (foreign sites me e) _ _ tt (own-on_message sites me e.from e.message site)
own-step sites me site Tick = own-tick sites me site
own-step sites me site Restart = tt

-- ---- what an event sends

-- what is sent joins the others, and is from the site of the step
pub record Sends (w : World) (n : Next) : Type 0 where
  pub more : List Envelope
  pub sent : n.world.sent ≡ w.sent ++ more
  pub own : AreFrom n.done.site more

sends-none : (w v : World) (s : ℕ) (answer : Answer) → v.sent ≡ w.sent → Sends w (unstepped v s answer)
sends-none w v s answer same = record { more = []; sent = same ∙ sym (append-nil w.sent); own = tt }

sends-step : (w v : World) (s : ℕ) (site : Site) (input : Input) → v.sent ≡ w.sent → Sends w (stepped v s input (step v.count s site input))
sends-step w v s site input same = record {
  more = (step v.count s site input).sent;
  sent = ap (λ sent. sent ++ (step v.count s site input).sent) same;
  own = own-step v.count s site input;
}

sends-at : (w v : World) (found : Option Site) (s : ℕ) (input : Input) → v.sent ≡ w.sent → Sends w (step_site found v s input)
sends-at w v None s input same = sends-none w v s (Refused no_such_site) same
sends-at w v (Some site) s input same =
    either (Sends w) (is_full v) _ _ (sends-none w v s (Refused numbers_used_up) same) (sends-step w v s site input same)

sends-deliver : (w : World) (k : ℕ) (found : Option Envelope) → Sends w (deliver found w k)
sends-deliver w k None = sends-none w w 0 (Refused no_such_message) refl
sends-deliver w k (Some e) = sends-at w (without w k) (slice_get w.sites e.to) e.to (Deliver e) refl

sends-repeat : (w : World) (found : Option Envelope) → Sends w (hand_over found w)
sends-repeat w None = sends-none w w 0 (Refused no_such_message) refl
sends-repeat w (Some e) = sends-at w w (slice_get w.sites e.to) e.to (Deliver e) refl

sends-lose : (w : World) (k : ℕ) (found : Option Envelope) → Sends w (lose found w k)
sends-lose w k None = sends-none w w 0 (Refused no_such_message) refl
sends-lose w k (Some e) = sends-none w (without w k) 0 Took refl

pub next-sends : (w : World) (event : Event) → Sends w (next w event)
next-sends w (LoadEvent s a offset) = sends-at w w (slice_get w.sites s) s (Load a offset) refl
next-sends w (StoreEvent s a offset byte) = sends-at w w (slice_get w.sites s) s (Store a offset byte) refl
next-sends w (BeginEvent s request) = sends-at w w (slice_get w.sites s) s (Begin request) refl
next-sends w (TickEvent s) = sends-at w w (slice_get w.sites s) s Tick refl
next-sends w (RestartEvent s) = sends-at w w (slice_get w.sites s) s Restart refl
next-sends w (DeliverEvent k) = sends-deliver w k (live w k)
next-sends w (Repeat k) = sends-repeat w (live w k)
next-sends w (Lose k) = sends-lose w k (live w k)
