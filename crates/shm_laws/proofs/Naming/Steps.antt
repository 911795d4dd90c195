-- Every step of a site keeps its attachments what the account names: a reply lets one name what its attach named, a detach ends that.
use Rattle.std.proofs.Common.{◌≡◌, ◌≢◌, ℕ, ◌+◌, ◌⊎◌, inl, inr, Bool, true, false, ◌==◌, ◌&&◌, Option, Some, None, Result, Ok, Err, List, [], ◌∷◌, is_none, is_some, length, nat_lt, arith, refl, sym, ◌∙◌, ap}
use Rattle.std.proofs.lemmas.Bool.{eq-eqb, and_parts, cases_eq, cond_both, cond-true, cond-false}
use Rattle.std.proofs.lemmas.Bool.Decides.{nat_tests}
use Rattle.shm_place.specs.declared.page_id.PageId.{PageId}
use Rattle.shm_model.specs.declared.answer.Answer.TheVariants.{Began, Replied, Took, Refused}
use Rattle.shm_model.specs.declared.call.Cred.{Cred}
use Rattle.shm_model.specs.declared.call.Op.{Op}
use Rattle.shm_model.specs.declared.call.Op.TheVariants.{Get, Attach, Detach, Remove, Set, Stat}
use Rattle.shm_model.specs.declared.call.Reply.{Reply}
use Rattle.shm_model.specs.declared.call.Reply.TheVariants.{Id, Attached as AttachedReply, Ok as OkReply, Stat as StatReply, Refused as RefusedReply}
use Rattle.shm_model.specs.declared.call.Request.{Request}
use Rattle.shm_model.specs.declared.call.Request.TheVariants.{Op as OpRequest, DetachAt}
use Rattle.shm_model.specs.declared.request_kind.Kind.{Kind}
use Rattle.shm_model.specs.declared.request_kind.Kind.TheVariants.{Read, Write}
use Rattle.shm_model.specs.Entry.{Entry, Note, Ask, Clear, Cleared, Hand, Page, Confirm, Out, on_clear, on_hand, on_page, readable, writable}
use Rattle.shm_model.specs.Book.{Outcome, Ignored, UsedUp, Taken, on_ask, on_cleared, on_confirm}
use Rattle.shm_model.specs.Basics.{at, at_page, greatest}
use Rattle.shm_model.specs.Refusal.{busy, foreign_message, no_attachment, numbers_used_up, too_many_attachments}
use Rattle.shm_model.specs.Message.{Envelope, Input, Load, Store, Begin, Deliver, Tick, Restart, Message, Of, Call, Replies, Purge, Purged}
use Rattle.shm_model.specs.Calls.{Attachment, Again, Fresh, Freshness, Old, Outstanding, fits, freshness}
use Rattle.shm_model.specs.Site.{Frames, Site, is_attached, least_free, Step, dropped, still}
use Rattle.shm_model.specs.Access.{Place, ask_for, is_pending, load_if, right, store_if}
use Rattle.shm_model.specs.Kernel.{Called, call, destroyed_by}
use Rattle.shm_model.specs.Transfer.{arranged, drop_first, settle, is_nothing, limited, on_note, to_book, to_entry}
use Rattle.shm_model.specs.SegmentCalls.{on_purge, on_purged, attached_at, begin_detach, begin_op, begin_request, call_begun, executed, numbered, on_call_as, on_reply_to, replied, reply_counts}
use Rattle.shm_model.specs.Step.{foreign, on_message, restart, step}
use Rattle.shm_model.specs.Memory.{attach_id, op_after, op_of, segment_after, segment_of}
use Rattle.shm_model.specs.World.{Done, Opening}
use Rattle.shm_laws.proofs.Naming.Kept.{IsPlain, Naming, here-called, here-names, none-some, by_dropped, by_refused, by_reply, by_took, deliver-renames, done_at, kept-naming}

abbrev the-out : ℕ → Op → Outstanding
the-out number op = record { number = number; op = op }

some-same : {X : Type 0} (x y : X) → Some x ≡ Some y → x ≡ y
some-same x y e = cc

detach-attach : (i : ℕ) (cred : Cred) (id : ℕ) (ro : Bool) → Detach i ≡ Attach cred id ro → ⊥
detach-attach i cred id ro e = cc

-- messages that name nothing
limited-attachments : (frames : Option Frames) (x : Site) → ((limited frames x).attachments ≡ x.attachments) × ((limited frames x).outstanding ≡ x.outstanding)
limited-attachments None x = (refl, refl)
limited-attachments (Some f) x =
    cond_both (nat_lt f.limit (length f.copies)) (drop_first f.copies f x) x (λ y. (y.attachments ≡ x.attachments) × (y.outstanding ≡ x.outstanding)) (λ e. dropped-attachments f.copies f x) (λ e. (refl, refl))
  where
    dropped-attachments : (copies : List PageId) (f : Frames) (x : Site) → ((drop_first copies f x).attachments ≡ x.attachments) × ((drop_first copies f x).outstanding ≡ x.outstanding)
    dropped-attachments [] f x = (refl, refl)
    dropped-attachments (p ∷ ps) f x = (refl, refl)

module _ (sites s : ℕ) (site : Site) where
  dropped-plain : IsPlain site (dropped site)
  dropped-plain = record { attachments = refl; outstanding = inr refl; answer = by_dropped }

  entry-plain : (page : PageId) (row : Entry × Out) → IsPlain site (to_entry sites s page row site)
  entry-plain page (e, out) =
      cond_both (is_nothing out) _ _ (IsPlain site) (λ x. dropped-plain)
      (λ x. let parts = limited-attachments (arranged page (site.entries page) e site.frames)
      (record site { entries = at_page site.entries page e; frames = arranged page (site.entries page) e site.frames; pending = settle (readable e) (writable e) page site.pending }) in
      record { attachments = parts.0; outstanding = inr parts.1; answer = by_took })

  book-plain : (page : PageId) (outcome : Outcome) → IsPlain site (to_book s page outcome site)
  book-plain page Ignored = dropped-plain
  book-plain page UsedUp = record { attachments = refl; outstanding = inr refl; answer = by_refused numbers_used_up }
  book-plain page (Taken b os) = record { attachments = refl; outstanding = inr refl; answer = by_took }

  note-plain : (from : ℕ) (page : PageId) (note : Note) → IsPlain site (on_note sites s from page note site)
  note-plain from page (Ask r kind) = book-plain page (on_ask from r kind (site.books page))
  note-plain from page (Clear n) = entry-plain page (on_clear n (site.entries page))
  note-plain from page (Cleared n) = book-plain page (on_cleared from n (site.books page))
  note-plain from page (Hand n kind to) = entry-plain page (on_hand s n kind to (site.entries page))
  note-plain from page (Page n kind b) = entry-plain page (on_page n kind b (site.entries page))
  note-plain from page (Confirm n) = book-plain page (on_confirm from n (site.books page))

  executed-plain : (from number : ℕ) (done : Called) (gone : Option ℕ) → IsPlain site (executed sites s from number done gone site)
  executed-plain from number done None = record { attachments = refl; outstanding = inr refl; answer = by_took }
  executed-plain from number done (Some id) = record { attachments = refl; outstanding = inr refl; answer = by_took }

  call-plain : (f : Freshness) (from number : ℕ) (op : Op) → IsPlain site (on_call_as f sites s from number op site)
  call-plain Fresh from number op = executed-plain from number (call sites s op site.table) (destroyed_by op site.table (call sites s op site.table).segments)
  call-plain (Again reply) from number op = record { attachments = refl; outstanding = inr refl; answer = by_took }
  call-plain Old from number op = dropped-plain

  purge-plain : (id : ℕ) → IsPlain site (on_purge sites s id site)
  purge-plain id = cond_both (is_attached site id) _ _ (IsPlain site) (λ e. dropped-plain) (λ e. record { attachments = refl; outstanding = inr refl; answer = by_took })

  purged-plain : (from id : ℕ) → IsPlain site (on_purged from id site)
  purged-plain from id = cond_both (site.missing id from) _ _ (IsPlain site) (λ e. record { attachments = refl; outstanding = inr refl; answer = by_took }) (λ e. dropped-plain)

module _ (o : Opening) (account : List Done) (sites s : ℕ) (site : Site) (n : Naming o account s site) where
  abbrev Goal : Input → Step → Type 0
  Goal input st = Naming o (done_at s input st.answer ∷ account) s st.site

  plain-goal : (e : Envelope) (st : Step) → IsPlain site st → Goal (Deliver e) st
  plain-goal e st p = kept-naming o account s site n (Deliver e) st.answer st.site (deliver-renames e st.answer p.answer) (λ m earlier. refl) p.attachments p.outstanding

  replied-goal : (e : Envelope) (number : ℕ) (reply : Reply) → Goal (Deliver e) (replied number reply None site)
  replied-goal e number reply = plain-goal e (replied number reply None site) (record { attachments = refl; outstanding = inl refl; answer = by_reply number reply })

  attached-goal : (e : Envelope) (out : Outstanding) (cred : Cred) (id : ℕ) (ro : Bool) (number a : ℕ) (reply : Reply) (t : Attachment)
      → site.outstanding ≡ Some out → out.op ≡ Attach cred id ro → number ≡ out.number → t.id ≡ id → Goal (Deliver e) (attached_at (Some a) number reply t site)
  attached-goal e out cred id ro number a reply t is op same tid = record {
    named = λ b x h. here-names o account s site n (Deliver e) (Replied number reply (Some a)) b ∙ named-after b x (cases_eq a b) h;
    called_as = λ x c i r h f. absurd (none-some x h);
  }
    where
      was : op_of account s number ≡ Some (Attach cred id ro)
      was = ap (op_of account s) same ∙ n.called_as out cred id ro is op

      named-after : (b : ℕ) (x : Attachment) → (a ≡ b) ⊎ (a ≢ b) → at site.attachments a (Some t) b ≡ Some x → segment_after (Some (Deliver e)) (Replied number reply (Some a)) (op_of account s) b (segment_of o account s b) ≡ Some x.id
      named-after b x (inl here) h =
          let is_t : Some t ≡ Some x = sym (cond-true (a == b) (Some t) (site.attachments b) (grind (arith, nat_tests))) ∙ h in
          cond-true (a == b) _ _ (grind (arith, nat_tests)) ∙ (ap attach_id was ∙ ap Some (sym tid ∙ ap (λ (y : Attachment). y.id) (some-same t x is_t)))
      named-after b x (inr there) h =
          cond-false (a == b) _ _ (grind (arith, nat_tests)) ∙ n.named b x (sym (cond-false (a == b) (Some t) (site.attachments b) (grind (arith, nat_tests))) ∙ h)

  attached-goal-at : (e : Envelope) (out : Outstanding) (cred : Cred) (id : ℕ) (ro : Bool) (number : ℕ) (found : Option ℕ) (reply : Reply) (t : Attachment)
      → site.outstanding ≡ Some out → out.op ≡ Attach cred id ro → number ≡ out.number → t.id ≡ id → Goal (Deliver e) (attached_at found number reply t site)
  attached-goal-at e out cred id ro number None reply t is op same tid = plain-goal e _ (dropped-plain sites s site)
  attached-goal-at e out cred id ro number (Some a) reply t is op same tid = attached-goal e out cred id ro number a reply t is op same tid

  counts-goal : (e : Envelope) (out : Outstanding) (number : ℕ) (op : Op) (reply : Reply) → site.outstanding ≡ Some out → out.op ≡ op → number ≡ out.number → Goal (Deliver e) (reply_counts number op reply site)
  counts-goal e out number (Attach cred id ro) (AttachedReply r) is op same =
      cond_both (site.purged id) _ _ (Goal (Deliver e)) (λ x. plain-goal e _ (dropped-plain sites s site))
      (λ x. attached-goal-at e out cred id ro number (least_free site.attachments) (AttachedReply r) (record { id = id; size = r.size; ro = r.ro }) is op same refl)
  counts-goal e out number (Attach cred id ro) (Id i) is op same = replied-goal e number (Id i)
  counts-goal e out number (Attach cred id ro) OkReply is op same = replied-goal e number OkReply
  counts-goal e out number (Attach cred id ro) (StatReply t) is op same = replied-goal e number (StatReply t)
  counts-goal e out number (Attach cred id ro) (RefusedReply r) is op same = replied-goal e number (RefusedReply r)
  counts-goal e out number (Get cred key size mode flags) reply is op same = replied-goal e number reply
  counts-goal e out number (Detach id) reply is op same = replied-goal e number reply
  counts-goal e out number (Remove cred id) reply is op same = replied-goal e number reply
  counts-goal e out number (Set cred id uid gid mode) reply is op same = replied-goal e number reply
  counts-goal e out number (Stat cred id) reply is op same = replied-goal e number reply

  reply-goal : (e : Envelope) (found : Option Outstanding) (number : ℕ) (reply : Reply) → site.outstanding ≡ found → Goal (Deliver e) (on_reply_to found number reply site)
  reply-goal e None number reply is = plain-goal e _ (dropped-plain sites s site)
  reply-goal e (Some out) number reply is =
      cond_both ((number == out.number) && fits out.op reply) _ _ (Goal (Deliver e))
      (λ x. counts-goal e out number out.op reply is refl (same-number number out.number (and_parts (number == out.number) (fits out.op reply) x).0)) (λ x. plain-goal e _ (dropped-plain sites s site))
    where
      same-number : (a b : ℕ) → (a == b) ≡ true → a ≡ b
      same-number a b e = grind (arith, nat_tests)

  message-goal : (e : Envelope) (from : ℕ) (m : Message) → Goal (Deliver e) (on_message sites s from m site)
  message-goal e from (Of page note) =
      cond_both (site.purged page.seg) _ _ (Goal (Deliver e)) (λ x. plain-goal e _ (dropped-plain sites s site)) (λ x. plain-goal e _ (note-plain sites s site from page note))
  message-goal e from (Call number op) = plain-goal e _ (call-plain sites s site (freshness (site.kept from) number) from number op)
  message-goal e from (Replies number reply) = reply-goal e site.outstanding number reply refl
  message-goal e from (Purge id) = plain-goal e _ (purge-plain sites s site id)
  message-goal e from (Purged id) = plain-goal e _ (purged-plain sites s site from id)

  -- beginning a call
  refused-goal : (request : Request) (k : ℕ) → Goal (Begin request) (still (Refused k) site)
  refused-goal (OpRequest op) k = kept-naming o account s site n (Begin (OpRequest op)) (Refused k) site (λ ops a earlier. refl) (λ m earlier. refl) refl (inr refl)
  refused-goal (DetachAt a) k = kept-naming o account s site n (Begin (DetachAt a)) (Refused k) site (λ ops b earlier. refl) (λ m earlier. refl) refl (inr refl)

  begun-goal : (op : Op) → Goal (Begin (OpRequest op)) (call_begun sites s op site)
  begun-goal op = record {
    named = λ a t h. here-names o account s site n (Begin (OpRequest op)) (Began (site.calls + 1)) a ∙ n.named a t h;
    called_as = λ x cred id ro h f. here-called o account s site n (Begin (OpRequest op)) (Began (site.calls + 1)) x.number ∙ called-now x cred id ro h f;
  }
    where
      called-now : (x : Outstanding) (cred : Cred) (id : ℕ) (ro : Bool) → Some (the-out (site.calls + 1) op) ≡ Some x → x.op ≡ Attach cred id ro
          → op_after (Some (Begin (OpRequest op))) (Began (site.calls + 1)) x.number (op_of account s x.number) ≡ Some (Attach cred id ro)
      called-now x cred id ro h f =
          let same : the-out (site.calls + 1) op ≡ x = some-same (the-out (site.calls + 1) op) x h in
          cond-true ((site.calls + 1) == x.number) _ _ (eq-eqb (site.calls + 1) x.number (ap (λ (y : Outstanding). y.number) same))
          ∙ ap Some (ap (λ (y : Outstanding). y.op) same ∙ f)

  numbered-goal : (request : Request) (st : Step) → Goal (Begin request) st → Goal (Begin request) (numbered site st)
  numbered-goal request st g = cond_both (site.calls == greatest) _ _ (Goal (Begin request)) (λ e. refused-goal request numbers_used_up) (λ e. g)

  op-goal : (op : Op) → Goal (Begin (OpRequest op)) (begin_op sites s op site)
  op-goal (Detach id) = refused-goal (OpRequest (Detach id)) no_attachment
  op-goal (Attach cred id ro) =
      cond_both (is_none (least_free site.attachments)) _ _ (Goal (Begin (OpRequest (Attach cred id ro)))) (λ e. refused-goal (OpRequest (Attach cred id ro)) too_many_attachments)
      (λ e. numbered-goal (OpRequest (Attach cred id ro)) _ (begun-goal (Attach cred id ro)))
  op-goal (Get cred key size mode flags) = numbered-goal (OpRequest (Get cred key size mode flags)) _ (begun-goal (Get cred key size mode flags))
  op-goal (Remove cred id) = numbered-goal (OpRequest (Remove cred id)) _ (begun-goal (Remove cred id))
  op-goal (Set cred id uid gid mode) = numbered-goal (OpRequest (Set cred id uid gid mode)) _ (begun-goal (Set cred id uid gid mode))
  op-goal (Stat cred id) = numbered-goal (OpRequest (Stat cred id)) _ (begun-goal (Stat cred id))

  detached-goal : (a : ℕ) (t : Attachment) → Goal (Begin (DetachAt a)) (call_begun sites s (Detach t.id) (record site { attachments = at site.attachments a None }))
  detached-goal a t = record {
    named = λ b x h. here-names o account s site n (Begin (DetachAt a)) (Began (site.calls + 1)) b ∙ named-after b x (cases_eq a b) h;
    called_as = λ x cred id ro h f. absurd (detach-attach t.id cred id ro (ap (λ (y : Outstanding). y.op) (some-same (the-out (site.calls + 1) (Detach t.id)) x h) ∙ f));
  }
    where
      named-after : (b : ℕ) (x : Attachment) → (a ≡ b) ⊎ (a ≢ b) → at site.attachments a None b ≡ Some x → segment_after (Some (Begin (DetachAt a))) (Began (site.calls + 1)) (op_of account s) b (segment_of o account s b) ≡ Some x.id
      named-after b x (inl here) h = absurd (none-some x (sym (cond-true (a == b) None (site.attachments b) (grind (arith, nat_tests))) ∙ h))
      named-after b x (inr there) h =
          cond-false (a == b) _ _ (grind (arith, nat_tests)) ∙ n.named b x (sym (cond-false (a == b) None (site.attachments b) (grind (arith, nat_tests))) ∙ h)

  detach-goal : (a : ℕ) (found : Option Attachment) → Goal (Begin (DetachAt a)) (begin_detach sites s a found site)
  detach-goal a None = refused-goal (DetachAt a) no_attachment
  detach-goal a (Some t) = numbered-goal (DetachAt a) _ (detached-goal a t)

  request-goal : (request : Request) → Goal (Begin request) (begin_request sites s request site)
  request-goal (OpRequest op) = op-goal op
  request-goal (DetachAt a) = detach-goal a (site.attachments a)

  -- accesses
  same-goal : (input : Input) (st : Step) → ((ops : ℕ → Option Op) (a : ℕ) (earlier : Option ℕ) → segment_after (Some input) st.answer ops a earlier ≡ earlier)
      → ((m : ℕ) (earlier : Option Op) → op_after (Some input) st.answer m earlier ≡ earlier) → (st.site.attachments ≡ site.attachments) × (st.site.outstanding ≡ site.outstanding) → Goal input st
  same-goal input st r b same = kept-naming o account s site n input st.answer st.site r b same.0 (inr same.1)

  abbrev Same : Step → Type 0
  Same st = (st.site.attachments ≡ site.attachments) × (st.site.outstanding ≡ site.outstanding)

  ask-same : (kind : Kind) (page : PageId) → Same (ask_for sites s kind page site)
  ask-same kind page = cond_both (is_pending kind page site.pending) _ _ Same (λ e. (refl, refl)) (λ e. cond_both (site.requests == greatest) _ _ Same (λ f. (refl, refl)) (λ f. (refl, refl)))

  load-same : (r : Result Place ℕ) → Same (load_if sites s r site)
  load-same (Err refusal) = (refl, refl)
  load-same (Ok place) = cond_both (readable (site.entries place.page)) _ _ Same (λ e. (refl, refl)) (λ e. ask-same Read place.page)

  store-same : (r : Result Place ℕ) (byte : ℕ) → Same (store_if sites s r byte site)
  store-same (Err refusal) byte = (refl, refl)
  store-same (Ok place) byte = cond_both (writable (site.entries place.page)) _ _ Same (λ e. (refl, refl)) (λ e. ask-same Write place.page)

  pub step-naming : (input : Input) → Goal input (step sites s site input)
  step-naming (Load a offset) = same-goal (Load a offset) (load_if sites s (right site.attachments a offset false) site) (λ ops b earlier. refl) (λ m earlier. refl) (load-same (right site.attachments a offset false))
  step-naming (Store a offset byte) = same-goal (Store a offset byte) (store_if sites s (right site.attachments a offset true) byte site) (λ ops b earlier. refl) (λ m earlier. refl) (store-same (right site.attachments a offset true) byte)
  step-naming (Begin request) = cond_both (is_some site.outstanding) _ _ (Goal (Begin request)) (λ e. refused-goal request busy) (λ e. request-goal request)
  step-naming (Deliver e) =
      cond_both (foreign sites s e) _ _ (Goal (Deliver e)) (λ x. plain-goal e (still (Refused foreign_message) site) (record { attachments = refl; outstanding = inr refl; answer = by_refused foreign_message })) (λ x. message-goal e e.from e.message)
  step-naming Tick = kept-naming o account s site n Tick Took site (λ ops a earlier. refl) (λ m earlier. refl) refl (inr refl)
  step-naming Restart = kept-naming o account s site n Restart Took (restart site).site (λ ops a earlier. refl) (λ m earlier. refl) refl (inr refl)
