-- Each step of a site is the same with its machine's memory, unless it is held: it leaves less access to a page than what is mapped, or
-- passes by the machine's memory.
use Rattle.std.proofs.Common.{◌≡◌, ℕ, Bool, true, false, ◌&&◌, ◌==◌, List, [], ◌∷◌, Option, Some, None, Result, Ok, Err, is_none, is_some, refl, sym, ap, ◌∙◌, if◌then◌else◌, slice_index}
use Rattle.std.proofs.Math.Path.{fun_ext}
use Rattle.shm_place.specs.declared.page_id.PageId.{PageId}
use Rattle.shm_place.specs.Home.{home_of_id}
use Rattle.shm_model.specs.declared.answer.Answer.{Answer}
use Rattle.shm_model.specs.declared.answer.Answer.TheVariants.{Byte, Stored, Took, Refused}
use Rattle.shm_model.specs.declared.call.Op.{Op}
use Rattle.shm_model.specs.declared.call.Op.TheVariants.{Get, Attach, Detach, Remove, Set, Stat}
use Rattle.shm_model.specs.declared.call.Reply.{Reply}
use Rattle.shm_model.specs.declared.call.Reply.TheVariants.{Id, Attached as AttachedReply, Ok as OkReply, Stat as StatReply, Refused as RefusedReply}
use Rattle.shm_model.specs.declared.call.Request.{Request}
use Rattle.shm_model.specs.declared.call.Request.TheVariants.{Op as OpRequest, DetachAt}
use Rattle.shm_model.specs.declared.request_kind.Kind.{Kind}
use Rattle.shm_model.specs.declared.request_kind.Kind.TheVariants.{Read, Write}
use Rattle.shm_model.specs.Access.{Place, ask_for, is_pending, load_at, load_if, right, store_at, store_if, stored_entry}
use Rattle.shm_model.specs.Basics.{at_page, greatest}
use Rattle.shm_model.specs.Book.{is_write}
use Rattle.shm_model.specs.Calls.{Again, Attachment, Fresh, Freshness, Old, Outstanding, fits, freshness}
use Rattle.shm_model.specs.Entry.{Entry, Nil, bytes, readable, writable}
use Rattle.shm_model.specs.Kernel.{Called, call, destroyed_by}
use Rattle.shm_model.specs.Message.{Envelope, Message, Of, Call, Replies, Purge, Purged, Input, Load, Store, Begin, Deliver, Tick, Restart}
use Rattle.shm_model.specs.Refusal.{foreign_message}
use Rattle.shm_model.specs.SegmentCalls.{attached_at, begin, begin_detach, begin_op, begin_request, executed, numbered, on_call_as, on_purge, on_purged, on_reply_to, purged_site, reply_counts}
use Rattle.shm_model.specs.Site.{Site, Step, dropped, is_attached, least_free, still}
use Rattle.shm_model.specs.Step.{foreign, on_message, step}
use Rattle.shm_laws.proofs.Page.Entry.{false-true}
use Rattle.shm_mapping.specs.Mapped.{Mapped, with_memory}
use Rattle.shm_mapping.specs.Hosts.{is_written}
use Rattle.shm_mapping.proofs.Joined.{allowed, by_kind, joined-at, joined_by, joined_step, nil-memory, readable-memory, writable-memory}
use Rattle.shm_mapping.proofs.Notes.{note_of-same}

module _ (memory : PageId → Option Mapped) where
  abbrev mine : Site → Site
  mine site = joined_by memory site

  abbrev my : Step → Step
  my done = joined_step memory done

  -- one choice made on both sides
  if-same : (b : Bool) (x y u v : Step) → x ≡ my u → y ≡ my v → (if b then x else y) ≡ my (if b then u else v)
  if-same true x y u v e f = e
  if-same false x y u v e f = f

  abbrev pub found : Result Place ℕ → Option Mapped
  found (Err _) = None
  found (Ok place) = memory place.page

  -- what is read and written where nothing is mapped to write, or nothing at all
  unwritten-kind : (kind : Kind) (bs : List ℕ) (e : Entry) → is_write kind ≡ false → by_kind kind bs e ≡ e
  unwritten-kind Read bs e h = refl
  unwritten-kind Write bs e h = absurd (false-true (sym h))

  unwritten : (m : Option Mapped) (e : Entry) → is_written m ≡ false → with_memory m e ≡ e
  unwritten None e h = refl
  unwritten (Some m) e h = unwritten-kind m.kind m.memory e h

  unmapped-is : (m : Option Mapped) (e : Entry) → is_some m ≡ false → with_memory m e ≡ e
  unmapped-is None e h = refl
  unmapped-is (Some m) e h = absurd (false-true (sym h))

  ask-same : (sites me : ℕ) (kind : Kind) (page : PageId) (site : Site) → ask_for sites me kind page (mine site) ≡ my (ask_for sites me kind page site)
  ask-same sites me kind page site =
      if-same (is_pending kind page site.pending) _ _ _ _ refl (if-same (site.requests == greatest) _ _ _ _ refl refl)

  abbrev LoadHeld : Step → Option Mapped → Type 0
  LoadHeld done m = (b : ℕ) → done.answer ≡ Byte b → is_written m ≡ false

  load-if : (sites me : ℕ) (place : Place) (site : Site) (r : Bool) → readable (site.entries place.page) ≡ r
      → LoadHeld (if r then still (Byte (slice_index (bytes (site.entries place.page)) place.within)) site else ask_for sites me Read place.page site) (memory place.page)
      → (if r then still (Byte (slice_index (bytes (with_memory (memory place.page) (site.entries place.page))) place.within)) (mine site) else ask_for sites me Read place.page (mine site))
      ≡ my (if r then still (Byte (slice_index (bytes (site.entries place.page)) place.within)) site else ask_for sites me Read place.page site)
  load-if sites me place site true e held =
      ap (λ x. still (Byte (slice_index (bytes x) place.within)) (mine site)) (unwritten (memory place.page) (site.entries place.page) (held _ refl))
  load-if sites me place site false e held = ask-same sites me Read place.page site

  load-at-same : (sites me : ℕ) (place : Place) (site : Site) → LoadHeld (load_at sites me place site) (memory place.page) → load_at sites me place (mine site) ≡ my (load_at sites me place site)
  load-at-same sites me place site held =
      ap (λ r. if r then still (Byte (slice_index (bytes (with_memory (memory place.page) (site.entries place.page))) place.within)) (mine site) else ask_for sites me Read place.page (mine site))
      (readable-memory (memory place.page) (site.entries place.page))
      ∙ load-if sites me place site (readable (site.entries place.page)) refl held

  load-right : (sites me : ℕ) (r : Result Place ℕ) (site : Site) → LoadHeld (load_if sites me r site) (found r) → load_if sites me r (mine site) ≡ my (load_if sites me r site)
  load-right sites me (Err refusal) site held = refl
  load-right sites me (Ok place) site held = load-at-same sites me place site held

  abbrev StoreHeld : Step → Option Mapped → Type 0
  StoreHeld done m = done.answer ≡ Stored → is_some m ≡ false

  abbrev put_byte : Place → ℕ → Site → Entry → Step
  put_byte place byte site e = still Stored (record site { entries = at_page site.entries place.page (stored_entry place.within byte e) })

  store-if : (sites me : ℕ) (place : Place) (byte : ℕ) (site : Site) (w : Bool)
      → StoreHeld (if w then put_byte place byte site (site.entries place.page) else ask_for sites me Write place.page site) (memory place.page)
      → (if w then put_byte place byte (mine site) (with_memory (memory place.page) (site.entries place.page)) else ask_for sites me Write place.page (mine site))
      ≡ my (if w then put_byte place byte site (site.entries place.page) else ask_for sites me Write place.page site)
  store-if sites me place byte site true held =
      let free : is_some (memory place.page) ≡ false = held refl in
      let new : Entry = stored_entry place.within byte (site.entries place.page) in
      ap (λ x. put_byte place byte (mine site) x) (unmapped-is (memory place.page) (site.entries place.page) free)
      ∙ (ap (λ x. still Stored (record site { entries = at_page (λ q. with_memory (memory q) (site.entries q)) place.page x })) (sym (unmapped-is (memory place.page) new free))
      ∙ ap (λ (f : PageId → Entry). still Stored (record site { entries = f })) (joined-at memory site.entries place.page new))
  store-if sites me place byte site false held = ask-same sites me Write place.page site

  store-at-same : (sites me : ℕ) (place : Place) (byte : ℕ) (site : Site) → StoreHeld (store_at sites me place byte site) (memory place.page)
      → store_at sites me place byte (mine site) ≡ my (store_at sites me place byte site)
  store-at-same sites me place byte site held =
      ap (λ w. if w then put_byte place byte (mine site) (with_memory (memory place.page) (site.entries place.page)) else ask_for sites me Write place.page (mine site))
      (writable-memory (memory place.page) (site.entries place.page))
      ∙ store-if sites me place byte site (writable (site.entries place.page)) held

  store-right : (sites me : ℕ) (r : Result Place ℕ) (byte : ℕ) (site : Site) → StoreHeld (store_if sites me r byte site) (found r) → store_if sites me r byte (mine site) ≡ my (store_if sites me r byte site)
  store-right sites me (Err refusal) byte site held = refl
  store-right sites me (Ok place) byte site held = store-at-same sites me place byte site held

  -- segment calls
  numbered-same : (site : Site) (x u : Step) → x ≡ my u → numbered (mine site) x ≡ my (numbered site u)
  numbered-same site x u e = if-same (site.calls == greatest) _ _ _ _ refl e

  detach-same : (sites me a : ℕ) (attachment : Option Attachment) (site : Site) → begin_detach sites me a attachment (mine site) ≡ my (begin_detach sites me a attachment site)
  detach-same sites me a None site = refl
  detach-same sites me a (Some t) site = numbered-same site _ _ refl

  op-same : (sites me : ℕ) (op : Op) (site : Site) → begin_op sites me op (mine site) ≡ my (begin_op sites me op site)
  op-same sites me (Get cred key size mode flags) site = numbered-same site _ _ refl
  op-same sites me (Attach cred id ro) site = if-same (is_none (least_free site.attachments)) _ _ _ _ refl (numbered-same site _ _ refl)
  op-same sites me (Detach id) site = refl
  op-same sites me (Remove cred id) site = numbered-same site _ _ refl
  op-same sites me (Set cred id uid gid mode) site = numbered-same site _ _ refl
  op-same sites me (Stat cred id) site = numbered-same site _ _ refl

  request-same : (sites me : ℕ) (request : Request) (site : Site) → begin_request sites me request (mine site) ≡ my (begin_request sites me request site)
  request-same sites me (OpRequest op) site = op-same sites me op site
  request-same sites me (DetachAt a) site = detach-same sites me a (site.attachments a) site

  begin-same : (sites me : ℕ) (request : Request) (site : Site) → begin sites me request (mine site) ≡ my (begin sites me request site)
  begin-same sites me request site = if-same (is_some site.outstanding) _ _ _ _ refl (request-same sites me request site)

  executed-same : (sites me from number : ℕ) (done : Called) (gone : Option ℕ) (site : Site) → executed sites me from number done gone (mine site) ≡ my (executed sites me from number done gone site)
  executed-same sites me from number done None site = refl
  executed-same sites me from number done (Some id) site = refl

  call-as-same : (fresh : Freshness) (sites me from number : ℕ) (op : Op) (site : Site) → on_call_as fresh sites me from number op (mine site) ≡ my (on_call_as fresh sites me from number op site)
  call-as-same Fresh sites me from number op site = executed-same sites me from number (call sites me op site.table) (destroyed_by op site.table (call sites me op site.table).segments) site
  call-as-same (Again reply) sites me from number op site = refl
  call-as-same Old sites me from number op site = refl

  attached-at-same : (free : Option ℕ) (number : ℕ) (reply : Reply) (t : Attachment) (site : Site) → attached_at free number reply t (mine site) ≡ my (attached_at free number reply t site)
  attached-at-same None number reply t site = refl
  attached-at-same (Some a) number reply t site = refl

  attach-counts : (number : ℕ) (cred : _) (id : ℕ) (ro : Bool) (reply : Reply) (site : Site) → reply_counts number (Attach cred id ro) reply (mine site) ≡ my (reply_counts number (Attach cred id ro) reply site)
  attach-counts number cred id ro (AttachedReply a) site =
      if-same (site.purged id) _ _ _ _ refl (attached-at-same (least_free site.attachments) number (AttachedReply a) (record { id = id; size = a.size; ro = a.ro }) site)
  attach-counts number cred id ro (Id k) site = refl
  attach-counts number cred id ro OkReply site = refl
  attach-counts number cred id ro (StatReply s) site = refl
  attach-counts number cred id ro (RefusedReply e) site = refl

  counts-same : (number : ℕ) (op : Op) (reply : Reply) (site : Site) → reply_counts number op reply (mine site) ≡ my (reply_counts number op reply site)
  counts-same number (Get cred key size mode flags) reply site = refl
  counts-same number (Attach cred id ro) reply site = attach-counts number cred id ro reply site
  counts-same number (Detach id) reply site = refl
  counts-same number (Remove cred id) reply site = refl
  counts-same number (Set cred id uid gid mode) reply site = refl
  counts-same number (Stat cred id) reply site = refl

  reply-same : (out : Option Outstanding) (number : ℕ) (reply : Reply) (site : Site) → on_reply_to out number reply (mine site) ≡ my (on_reply_to out number reply site)
  reply-same None number reply site = refl
  reply-same (Some o) number reply site = if-same ((number == o.number) && fits o.op reply) _ _ _ _ (counts-same number o.op reply site) refl

  segment-if : (f : PageId → Entry) (q : PageId) (gone : Bool)
      → (if gone then Nil 0 else with_memory (memory q) (f q)) ≡ with_memory (memory q) (if gone then Nil 0 else f q)
  segment-if f q true = sym (nil-memory (memory q) 0)
  segment-if f q false = refl

  purged-same : (me id : ℕ) (site : Site) → purged_site me id (mine site) ≡ mine (purged_site me id site)
  purged-same me id site = ap (λ (f : PageId → Entry). record (purged_site me id site) { entries = f }) (fun_ext (λ q. segment-if site.entries q (id == q.seg)))

  is-attached-same : (id : ℕ) (site : Site) → is_attached (mine site) id ≡ is_attached site id
  unfolding is_attached
  is-attached-same id site = refl

  abbrev purge_taken : ℕ → ℕ → ℕ → Site → Step
  purge_taken sites me id site = record { site = site; answer = Took; sent = record { from = me; to = home_of_id sites id; message = Purged id } ∷ [] }

  purge-same : (sites me id : ℕ) (site : Site) → on_purge sites me id (mine site) ≡ my (on_purge sites me id site)
  purge-same sites me id site =
      ap (λ b. if b then dropped (mine site) else purge_taken sites me id (purged_site me id (mine site))) (is-attached-same id site)
      ∙ if-same (is_attached site id) (dropped (mine site)) (purge_taken sites me id (purged_site me id (mine site))) (dropped site) (purge_taken sites me id (purged_site me id site))
      refl (ap (purge_taken sites me id) (purged-same me id site))

  purged-at-same : (from id : ℕ) (site : Site) → on_purged from id (mine site) ≡ my (on_purged from id site)
  purged-at-same from id site = if-same (site.missing id from) _ _ _ _ refl refl

  abbrev AllAllowed : Site → Type 0
  AllAllowed site = (page : PageId) → allowed (memory page) (site.entries page) ≡ true

  message-same : (sites me from : ℕ) (m : Message) (site : Site) → AllAllowed site → AllAllowed (on_message sites me from m site).site → on_message sites me from m (mine site) ≡ my (on_message sites me from m site)
  message-same sites me from (Of page note) site a after = note_of-same memory sites me from page note site (a page) (after page)
  message-same sites me from (Call number op) site a after = call-as-same (freshness (site.kept from) number) sites me from number op site
  message-same sites me from (Replies number reply) site a after = reply-same site.outstanding number reply site
  message-same sites me from (Purge id) site a after = purge-same sites me id site
  message-same sites me from (Purged id) site a after = purged-at-same from id site

  deliver-if : (sites me : ℕ) (e : Envelope) (site : Site) (is_foreign : Bool) → AllAllowed site
      → AllAllowed (if is_foreign then still (Refused foreign_message) site else on_message sites me e.from e.message site).site
      → (if is_foreign then still (Refused foreign_message) (mine site) else on_message sites me e.from e.message (mine site)) ≡ my (if is_foreign then still (Refused foreign_message) site else on_message sites me e.from e.message site)
  deliver-if sites me e site true a after = refl
  deliver-if sites me e site false a after = message-same sites me e.from e.message site a after

  -- the access that passes by the machine's memory
  abbrev pub PassesBy : Input → Site → Answer → Type 0
  PassesBy (Load a offset) site answer = (b : ℕ) → answer ≡ Byte b → is_written (found (right site.attachments a offset false)) ≡ false
  PassesBy (Store a offset byte) site answer = answer ≡ Stored → is_some (found (right site.attachments a offset true)) ≡ false
  PassesBy _ site answer = Unit {0}

  pub step-same : (sites me : ℕ) (site : Site) (input : Input) → AllAllowed site → AllAllowed (step sites me site input).site → PassesBy input site (step sites me site input).answer
      → step sites me (mine site) input ≡ my (step sites me site input)
  step-same sites me site (Load a offset) ok after by = load-right sites me (right site.attachments a offset false) site by
  step-same sites me site (Store a offset byte) ok after by = store-right sites me (right site.attachments a offset true) byte site by
  step-same sites me site (Begin request) ok after by = begin-same sites me request site
  step-same sites me site (Deliver e) ok after by = deliver-if sites me e site (foreign sites me e) ok after
  step-same sites me site Tick ok after by = refl
  step-same sites me site Restart ok after by = refl
