-- An attachment is of a segment in the limits, and no larger than a segment may be.
use Rattle.std.proofs.Common.{◌≡◌, ℕ, ◌*◌, ◌<◌, ◌≤◌, true, false, ◌==◌, ◌&&◌, Option, Some, None, Result, Ok, Err, List, [], ◌∷◌, is_none, is_some, length, nat_lt, nat_le, slice_get, arith, refl, sym, ◌∙◌, ap, subst}
use Rattle.std.proofs.lemmas.Bool.{and_parts, cond_both, leb-true}
use Rattle.std.proofs.lemmas.Option.{get_or_from_slice_get, slice_get-get_or, slice_get_within}
use Rattle.shm_place.specs.declared.page_id.PageId.{PageId}
use Rattle.shm_place.specs.Home.{home_of_id}
use Rattle.shm_place.specs.Limits.{max_segment_bytes, segments_of_a_home}
use Rattle.shm_model.specs.declared.event.Event.{Event}
use Rattle.shm_model.specs.declared.request_kind.Kind.{Kind}
use Rattle.shm_model.specs.declared.request_kind.Kind.TheVariants.{Read, Write}
use Rattle.shm_model.specs.declared.call.Op.{Op}
use Rattle.shm_model.specs.declared.call.Op.TheVariants.{Get, Attach, Detach, Remove, Set, Stat}
use Rattle.shm_model.specs.declared.call.Reply.{Reply}
use Rattle.shm_model.specs.declared.call.Reply.TheVariants.{Id, Attached as AttachedReply, Ok as OkReply, Stat as StatReply, Refused as RefusedReply}
use Rattle.shm_model.specs.declared.call.Request.{Request}
use Rattle.shm_model.specs.declared.call.Request.TheVariants.{Op as OpRequest, DetachAt}
use Rattle.shm_model.specs.Entry.{Entry, Note, Ask, Clear, Cleared, Hand, Page, Confirm, Out, on_clear, on_hand, on_page, readable, writable}
use Rattle.shm_model.specs.Book.{Outcome, Ignored, UsedUp, Taken, on_ask, on_cleared, on_confirm}
use Rattle.shm_model.specs.Basics.{at, at_page, greatest}
use Rattle.shm_model.specs.Kernel.{call, destroyed_by, with_id}
use Rattle.shm_model.specs.Calls.{Again, Attachment, Fresh, Freshness, Old, Outstanding, fits, freshness}
use Rattle.shm_model.specs.Memory.{segment_of}
use Rattle.shm_model.specs.Message.{Input, Load, Store, Begin, Deliver, Tick, Restart, Message, Of, Call, Replies, Purge, Purged}
use Rattle.shm_model.specs.History.{segments_after}
use Rattle.shm_model.specs.Site.{Frames, Site, is_attached, least_free, Step}
use Rattle.shm_model.specs.Access.{Place, ask_for, is_pending, load_if, right, store_if}
use Rattle.shm_model.specs.Transfer.{arranged, drop_first, is_nothing, limited, on_note, settle, to_book, to_entry}
use Rattle.shm_model.specs.SegmentCalls.{attached_at, begin_detach, begin_op, begin_request, call_begun, executed, numbered, on_call_as, on_reply_to, reply_counts}
use Rattle.shm_model.specs.Step.{foreign, on_message, step}
use Rattle.shm_model.specs.World.{Framed, IsOpening, New, Opening, Preset, opened_site, run, sites_of}
use Rattle.shm_laws.proofs.Run.Induction.{run-shape}
use Rattle.shm_laws.proofs.Kernel.Lists.{found-holds}
use Rattle.shm_laws.proofs.Kernel.Parts.{finds-id, found-id}
use Rattle.shm_laws.proofs.Call.Invariant.{at-cases}
use Rattle.shm_laws.proofs.Call.Names.{id_of}
use Rattle.shm_laws.proofs.Call.Once.{homes-keep}
use Rattle.shm_laws.proofs.Call.Counted.{attachments-counted, run-counted}
use Rattle.shm_laws.proofs.Headline.{size-of}
use Rattle.shm_progress.proofs.SitesKept.{run-sites}
use Rattle.shm_progress.proofs.Purge.Tables.{InLimits}
use Rattle.shm_progress.proofs.Purge.Homes.{run-keeps}

pub record Sizes (x : Site) : Type 0 where
  pub sized : (a : ℕ) (t : Attachment) → x.attachments a ≡ Some t → t.size ≤ max_segment_bytes

none-some : (t : Attachment) → None ≡ Some t → ⊥
none-some t e = cc

some-same : (t u : Attachment) → Some t ≡ Some u → t ≡ u
some-same t u e = cc

limited-attachments : (frames : Option Frames) (x : Site) → (limited frames x).attachments ≡ x.attachments
limited-attachments None x = refl
limited-attachments (Some f) x = cond_both (nat_lt f.limit (length f.copies)) (drop_first f.copies f x) x (λ y. y.attachments ≡ x.attachments) (λ e. dropped f.copies) (λ e. refl)
  where
    dropped : (copies : List PageId) → (drop_first copies f x).attachments ≡ x.attachments
    dropped [] = refl
    dropped (p ∷ ps) = refl

module _ (sites s : ℕ) (x : Site) (holds : Sizes x) where
  abbrev Keeps : Step → Type 0
  Keeps st = Sizes st.site

  same : (y : Site) → y.attachments ≡ x.attachments → Sizes y
  same y is = record { sized = λ a t at. holds.sized a t (ap (λ (f : ℕ → Option Attachment). f a) (sym is) ∙ at) }

  with-one : (y : Site) (k : ℕ) (new : Option Attachment) → y.attachments ≡ at x.attachments k new → ((t : Attachment) → new ≡ Some t → t.size ≤ max_segment_bytes) → Sizes y
  with-one y k new is low = record {
    sized = λ a t found. at-cases (λ (o : Option Attachment). o ≡ Some t → t.size ≤ max_segment_bytes) x.attachments k new a (λ here h. low t h) (λ there h. holds.sized a t h)
        (ap (λ (f : ℕ → Option Attachment). f a) (sym is) ∙ found);
  }

  ask_for-sizes : (kind : Kind) (page : PageId) → Keeps (ask_for sites s kind page x)
  ask_for-sizes kind page = cond_both (is_pending kind page x.pending) _ _ Keeps (λ e. holds) (λ e. cond_both (x.requests == greatest) _ _ Keeps (λ f. holds) (λ f. record { sized = holds.sized }))

  load-sizes : (place : Result Place ℕ) → Keeps (load_if sites s place x)
  load-sizes (Err refusal) = holds
  load-sizes (Ok place) = cond_both (readable (x.entries place.page)) _ _ Keeps (λ e. holds) (λ e. ask_for-sizes Read place.page)

  store-sizes : (place : Result Place ℕ) (byte : ℕ) → Keeps (store_if sites s place byte x)
  store-sizes (Err refusal) byte = holds
  store-sizes (Ok place) byte = cond_both (writable (x.entries place.page)) _ _ Keeps (λ e. record { sized = holds.sized }) (λ e. ask_for-sizes Write place.page)

  numbered-sizes : (st : Step) → Keeps st → Keeps (numbered x st)
  numbered-sizes st h = cond_both (x.calls == greatest) _ _ Keeps (λ e. holds) (λ e. h)

  op-sizes : (op : Op) → Keeps (begin_op sites s op x)
  op-sizes (Detach id) = holds
  op-sizes (Attach cred id ro) = cond_both (is_none (least_free x.attachments)) _ _ Keeps (λ e. holds) (λ e. numbered-sizes (call_begun sites s (Attach cred id ro) x) (record { sized = holds.sized }))
  op-sizes (Get cred key size mode flags) = numbered-sizes (call_begun sites s (Get cred key size mode flags) x) (record { sized = holds.sized })
  op-sizes (Remove cred id) = numbered-sizes (call_begun sites s (Remove cred id) x) (record { sized = holds.sized })
  op-sizes (Set cred id uid gid mode) = numbered-sizes (call_begun sites s (Set cred id uid gid mode) x) (record { sized = holds.sized })
  op-sizes (Stat cred id) = numbered-sizes (call_begun sites s (Stat cred id) x) (record { sized = holds.sized })

  request-sizes : (request : Request) → Keeps (begin_request sites s request x)
  request-sizes (OpRequest op) = op-sizes op
  request-sizes (DetachAt a) = by-found (x.attachments a)
    where
      by-found : (found : Option Attachment) → Keeps (begin_detach sites s a found x)
      by-found None = holds
      by-found (Some t) =
          numbered-sizes (call_begun sites s (Detach t.id) (record x { attachments = at x.attachments a None }))
          (with-one (call_begun sites s (Detach t.id) (record x { attachments = at x.attachments a None })).site a None refl (λ t h. absurd (none-some t h)))

  entry-sizes : (page : PageId) (row : Entry × Out) → Keeps (to_entry sites s page row x)
  entry-sizes page (e, out) =
      cond_both (is_nothing out) _ _ Keeps (λ h. holds)
      (λ h. same _ (limited-attachments (arranged page (x.entries page) e x.frames)
      (record x { entries = at_page x.entries page e; frames = arranged page (x.entries page) e x.frames; pending = settle (readable e) (writable e) page x.pending })))

  book-sizes : (page : PageId) (outcome : Outcome) → Keeps (to_book s page outcome x)
  book-sizes page Ignored = holds
  book-sizes page UsedUp = holds
  book-sizes page (Taken b os) = record { sized = holds.sized }

  note-sizes : (from : ℕ) (page : PageId) (note : Note) → Keeps (on_note sites s from page note x)
  note-sizes from page (Ask r kind) = book-sizes page (on_ask from r kind (x.books page))
  note-sizes from page (Clear n) = entry-sizes page (on_clear n (x.entries page))
  note-sizes from page (Cleared n) = book-sizes page (on_cleared from n (x.books page))
  note-sizes from page (Hand n kind to) = entry-sizes page (on_hand s n kind to (x.entries page))
  note-sizes from page (Page n kind b) = entry-sizes page (on_page n kind b (x.entries page))
  note-sizes from page (Confirm n) = book-sizes page (on_confirm from n (x.books page))

  call-sizes : (f : Freshness) (from n : ℕ) (op : Op) → Keeps (on_call_as f sites s from n op x)
  call-sizes Fresh from n op = by-gone (destroyed_by op x.table (call sites s op x.table).segments)
    where
      by-gone : (gone : Option ℕ) → Keeps (executed sites s from n (call sites s op x.table) gone x)
      by-gone None = record { sized = holds.sized }
      by-gone (Some id) = record { sized = holds.sized }
  call-sizes (Again reply) from n op = holds
  call-sizes Old from n op = holds

  reply-sizes : (found : Option Outstanding) (n : ℕ) (reply : Reply) → Keeps (on_reply_to found n reply x)
  reply-sizes None n reply = holds
  reply-sizes (Some c) n reply = cond_both ((n == c.number) && fits c.op reply) _ _ Keeps (λ e. counts c.op reply (and_parts (n == c.number) (fits c.op reply) e).1) (λ e. holds)
    where
      found-sizes : (free : Option ℕ) (r : Reply) (t : Attachment) → t.size ≤ max_segment_bytes → Keeps (attached_at free n r t x)
      found-sizes None r t low = holds
      found-sizes (Some a) r t low = with-one (attached_at (Some a) n r t x).site a (Some t) refl (λ u h. subst (λ (v : Attachment). v.size ≤ max_segment_bytes) (some-same t u h) low)

      counts : (op : Op) (r : Reply) → fits op r ≡ true → Keeps (reply_counts n op r x)
      counts (Attach cred id ro) (AttachedReply y) fit =
          cond_both (x.purged id) _ _ Keeps (λ e. holds) (λ e. found-sizes (least_free x.attachments) (AttachedReply y) _ (leb-true y.size max_segment_bytes (and_parts (nat_le 1 y.size) (nat_le y.size max_segment_bytes) fit).1))
      counts (Attach cred id ro) (Id i) fit = record { sized = holds.sized }
      counts (Attach cred id ro) OkReply fit = record { sized = holds.sized }
      counts (Attach cred id ro) (StatReply t) fit = record { sized = holds.sized }
      counts (Attach cred id ro) (RefusedReply e) fit = record { sized = holds.sized }
      counts (Get cred key size mode flags) r fit = record { sized = holds.sized }
      counts (Detach id) r fit = record { sized = holds.sized }
      counts (Remove cred id) r fit = record { sized = holds.sized }
      counts (Set cred id uid gid mode) r fit = record { sized = holds.sized }
      counts (Stat cred id) r fit = record { sized = holds.sized }

  message-sizes : (from : ℕ) (m : Message) → Keeps (on_message sites s from m x)
  message-sizes from (Of page note) = cond_both (x.purged page.seg) _ _ Keeps (λ e. holds) (λ e. note-sizes from page note)
  message-sizes from (Call n op) = call-sizes (freshness (x.kept from) n) from n op
  message-sizes from (Replies n reply) = reply-sizes x.outstanding n reply
  message-sizes from (Purge id) = cond_both (is_attached x id) _ _ Keeps (λ e. holds) (λ e. record { sized = holds.sized })
  message-sizes from (Purged id) = cond_both (x.missing id from) _ _ Keeps (λ e. record { sized = holds.sized }) (λ e. holds)

  step-sizes : (input : Input) → Keeps (step sites s x input)
  step-sizes (Load a offset) = load-sizes (right x.attachments a offset false)
  step-sizes (Store a offset byte) = store-sizes (right x.attachments a offset true) byte
  step-sizes (Begin request) = cond_both (is_some x.outstanding) _ _ Keeps (λ e. holds) (λ e. request-sizes request)
  step-sizes (Deliver e) = cond_both (foreign sites s e) _ _ Keeps (λ h. holds) (λ h. message-sizes e.from e.message)
  step-sizes Tick = holds
  step-sizes Restart = record { sized = holds.sized }

opened-sizes : (o : Opening) → IsOpening o → (s : ℕ) → Sizes (opened_site o s)
opened-sizes (New n) is s = record { sized = λ a t h. absurd (none-some t h) }
opened-sizes (Preset n pages) is s = record {
  sized = λ a t h. at-cases (λ (o : Option Attachment). o ≡ Some t → t.size ≤ max_segment_bytes) (λ k. None) 0 (Some (record { id = 0; size = 4096 * pages; ro = false })) a
      (λ here k. let one : record { id = 0; size = 4096 * pages; ro = false } ≡ t = some-same (record { id = 0; size = 4096 * pages; ro = false }) t k in subst (λ (v : Attachment). v.size ≤ max_segment_bytes) one (omega (arith, is.3)))
      (λ there k. absurd (none-some t k)) h;
}
opened-sizes (Framed n pages frames) is s = record {
  sized = λ a t h. at-cases (λ (o : Option Attachment). o ≡ Some t → t.size ≤ max_segment_bytes) (λ k. None) 0 (Some (record { id = 0; size = 4096 * pages; ro = false })) a
      (λ here k. let one : record { id = 0; size = 4096 * pages; ro = false } ≡ t = some-same (record { id = 0; size = 4096 * pages; ro = false }) t k in subst (λ (v : Attachment). v.size ≤ max_segment_bytes) one (omega (arith, is.3)))
      (λ there k. absurd (none-some t k)) h;
}

module _ (o : Opening) (opening : IsOpening o) (events : List Event) (s : ℕ) (x : Site) (found : slice_get (run o events).world.sites s ≡ Some x) (a : ℕ) (t : Attachment) (is : x.attachments a ≡ Some t) where
  pub size-small : t.size ≤ max_segment_bytes
  size-small = (run-sites o (λ s x. Sizes x) (λ k small. opened-sizes o opening k) (λ k y input small holds. step-sizes (sites_of o) k y holds input) events s x found).sized a t is

  pub id-small : t.id < segments_of_a_home * sites_of o
  id-small =
      let all = (run-shape o events).sites in
      let within = slice_get_within (run o events).world.sites s x found in
      let small : s < sites_of o = omega (arith, within, all) in
      let name : segment_of o (run o events).account s a ≡ id_of (x.attachments a) =
      (run-counted o opening events).named.names s a ∙ ap (λ (z : Site). id_of (z.attachments a)) (get_or_from_slice_get (run o events).world.sites s x (opened_site o s) found) in
      let alive = (attachments-counted o opening events).named s a t.id small (name ∙ ap id_of is) in
      let some = (size-of o opening).some_site in
      let home_is : home_of_id (sites_of o) t.id < sites_of o = home-small (sites_of o) t.id some in
      let at_home = slice_get-get_or (run o events).world.sites (home_of_id (sites_of o) t.id) (opened_site o (home_of_id (sites_of o) t.id)) (omega (arith, home_is, all)) in
      let listed = ap (with_id t.id) (homes-keep o events (home_of_id (sites_of o) t.id) _ at_home) ∙ (finds-id (sites_of o) (home_of_id (sites_of o) t.id) home_is (segments_after o (run o events)) t.id refl ∙ alive.1) in
      subst (λ i. i < segments_of_a_home * sites_of o) (found-id t.id _ alive.0 listed)
      (found-holds (InLimits (sites_of o)) (λ g. t.id == g.id) _ alive.0 (run-keeps o opening events (home_of_id (sites_of o) t.id) _ home_is at_home).limited listed)
    where
      home-small : (n id : ℕ) → 1 ≤ n → home_of_id n id < n
      home-small n id some = omega arith
