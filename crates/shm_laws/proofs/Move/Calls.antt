-- Segment calls leave every page as it is.
use Rattle.std.proofs.Common.{◌≡◌, ℕ, ◌==◌, ◌&&◌, Option, Some, None, List, [], ◌∷◌, map, is_none, is_some, refl}
use Rattle.std.proofs.lemmas.Bool.{cond_both}
use Rattle.std.specs.List.{range_with_len}
use Rattle.shm_model.specs.declared.answer.Answer.{Answer}
use Rattle.shm_model.specs.declared.answer.Answer.TheVariants.{Dropped, Refused}
use Rattle.shm_model.specs.declared.call.Op.{Op}
use Rattle.shm_model.specs.declared.call.Op.TheVariants.{Get, Attach, Detach, Remove, Set, Stat}
use Rattle.shm_model.specs.declared.call.Reply.{Reply}
use Rattle.shm_model.specs.declared.call.Reply.TheVariants.{Id, Attached as AttachedReply, Ok as OkReply, Stat as StatReply, Refused as RefusedReply}
use Rattle.shm_model.specs.declared.call.Request.{Request}
use Rattle.shm_model.specs.declared.call.Request.TheVariants.{Op as OpRequest, DetachAt}
use Rattle.shm_model.specs.Basics.{at, greatest}
use Rattle.shm_model.specs.Kernel.{Called, call, destroyed_by}
use Rattle.shm_model.specs.Refusal.{busy, no_attachment, numbers_used_up, too_many_attachments}
use Rattle.shm_model.specs.Message.{Envelope}
use Rattle.shm_model.specs.Calls.{Attachment, Again, Fresh, Freshness, Old, Outstanding, fits, freshness}
use Rattle.shm_model.specs.Site.{Site, least_free, Step, still}
use Rattle.shm_model.specs.SegmentCalls.{attached_at, begin, begin_detach, begin_op, begin_request, call_begun, executed, numbered, on_call, on_call_as, on_purged, on_reply, on_reply_to, purge_envelope, replied, reply_counts}
use Rattle.shm_laws.proofs.Page.Orders.{Each}
use Rattle.shm_laws.proofs.Page.Moves.{IsOffPage, off_call, off_purge, off_reply}

-- a step that leaves all pages as they are, and sends nothing about any
pub record IsQuiet (site : Site) (st : Step) : Type 0 where
  pub entries : st.site.entries ≡ site.entries
  pub books : st.site.books ≡ site.books
  pub booked : st.site.booked ≡ site.booked
  pub pending : st.site.pending ≡ site.pending
  pub purged : st.site.purged ≡ site.purged
  pub frames : st.site.frames ≡ site.frames
  pub requests : st.site.requests ≡ site.requests
  pub sent : Each (λ (e : Envelope). IsOffPage e.message) st.sent

still-quiet : (site : Site) (answer : Answer) → IsQuiet site (still answer site)
still-quiet site answer = record { entries = refl; books = refl; booked = refl; pending = refl; purged = refl; frames = refl; requests = refl; sent = tt }

begun-quiet : (sites s : ℕ) (op : Op) (site : Site) → IsQuiet site (call_begun sites s op site)
begun-quiet sites s op site = record { entries = refl; books = refl; booked = refl; pending = refl; purged = refl; frames = refl; requests = refl; sent = (off_call _ op, tt) }

numbered-quiet : (site : Site) (st : Step) → IsQuiet site st → IsQuiet site (numbered site st)
numbered-quiet site st q = cond_both (site.calls == greatest) _ _ (IsQuiet site) (λ e. still-quiet site (Refused numbers_used_up)) (λ e. q)

detach-quiet : (sites s a : ℕ) (found : Option Attachment) (site : Site) → IsQuiet site (begin_detach sites s a found site)
detach-quiet sites s a None site = still-quiet site (Refused no_attachment)
detach-quiet sites s a (Some t) site =
    numbered-quiet site (call_begun sites s (Detach t.id) (record site { attachments = at site.attachments a None }))
    (record { entries = refl; books = refl; booked = refl; pending = refl; purged = refl; frames = refl; requests = refl; sent = (off_call _ (Detach t.id), tt) })

op-quiet : (sites s : ℕ) (op : Op) (site : Site) → IsQuiet site (begin_op sites s op site)
op-quiet sites s (Detach id) site = still-quiet site (Refused no_attachment)
op-quiet sites s (Attach cred id ro) site =
    cond_both (is_none (least_free site.attachments)) _ _ (IsQuiet site) (λ e. still-quiet site (Refused too_many_attachments))
    (λ e. numbered-quiet site _ (begun-quiet sites s (Attach cred id ro) site))
op-quiet sites s (Get cred key size mode flags) site = numbered-quiet site _ (begun-quiet sites s (Get cred key size mode flags) site)
op-quiet sites s (Remove cred id) site = numbered-quiet site _ (begun-quiet sites s (Remove cred id) site)
op-quiet sites s (Set cred id uid gid mode) site = numbered-quiet site _ (begun-quiet sites s (Set cred id uid gid mode) site)
op-quiet sites s (Stat cred id) site = numbered-quiet site _ (begun-quiet sites s (Stat cred id) site)

request-quiet : (sites s : ℕ) (request : Request) (site : Site) → IsQuiet site (begin_request sites s request site)
request-quiet sites s (OpRequest op) site = op-quiet sites s op site
request-quiet sites s (DetachAt a) site = detach-quiet sites s a (site.attachments a) site

pub begin-quiet : (sites s : ℕ) (request : Request) (site : Site) → IsQuiet site (begin sites s request site)
begin-quiet sites s request site = cond_both (is_some site.outstanding) _ _ (IsQuiet site) (λ e. still-quiet site (Refused busy)) (λ e. request-quiet sites s request site)

all-purges : (s id : ℕ) (to : List ℕ) → Each (λ (e : Envelope). IsOffPage e.message) (map (purge_envelope s id) to)
all-purges s id [] = tt
all-purges s id (x ∷ xs) = (off_purge id, all-purges s id xs)

executed-quiet : (sites s from number : ℕ) (done : Called) (gone : Option ℕ) (site : Site) → IsQuiet site (executed sites s from number done gone site)
executed-quiet sites s from number done None site = record { entries = refl; books = refl; booked = refl; pending = refl; purged = refl; frames = refl; requests = refl; sent = (off_reply number done.reply, tt) }
executed-quiet sites s from number done (Some id) site =
    record { entries = refl; books = refl; booked = refl; pending = refl; purged = refl; frames = refl; requests = refl; sent = (off_reply number done.reply, all-purges s id (range_with_len 0 sites)) }

call-quiet-as : (f : Freshness) (sites s from number : ℕ) (op : Op) (site : Site) → IsQuiet site (on_call_as f sites s from number op site)
call-quiet-as Fresh sites s from number op site =
    executed-quiet sites s from number (call sites s op site.table) (destroyed_by op site.table (call sites s op site.table).segments) site
call-quiet-as (Again reply) sites s from number op site = record { entries = refl; books = refl; booked = refl; pending = refl; purged = refl; frames = refl; requests = refl; sent = (off_reply number reply, tt) }
call-quiet-as Old sites s from number op site = still-quiet site Dropped

pub call-quiet : (sites s from number : ℕ) (op : Op) (site : Site) → IsQuiet site (on_call sites s from number op site)
call-quiet sites s from number op site = call-quiet-as (freshness (site.kept from) number) sites s from number op site

replied-quiet : (number : ℕ) (reply : Reply) (a : Option ℕ) (site : Site) → IsQuiet site (replied number reply a site)
replied-quiet number reply a site = record { entries = refl; books = refl; booked = refl; pending = refl; purged = refl; frames = refl; requests = refl; sent = tt }

attached-quiet-at : (found : Option ℕ) (number : ℕ) (reply : Reply) (t : Attachment) (site : Site) → IsQuiet site (attached_at found number reply t site)
attached-quiet-at None number reply t site = still-quiet site Dropped
attached-quiet-at (Some a) number reply t site = record { entries = refl; books = refl; booked = refl; pending = refl; purged = refl; frames = refl; requests = refl; sent = tt }

counts-quiet : (number : ℕ) (op : Op) (reply : Reply) (site : Site) → IsQuiet site (reply_counts number op reply site)
counts-quiet number (Attach cred id ro) (AttachedReply a) site =
    cond_both (site.purged id) _ _ (IsQuiet site) (λ e. still-quiet site Dropped)
    (λ e. attached-quiet-at (least_free site.attachments) number (AttachedReply a) (record { id = id; size = a.size; ro = a.ro }) site)
counts-quiet number (Attach cred id ro) (Id i) site = replied-quiet number (Id i) None site
counts-quiet number (Attach cred id ro) OkReply site = replied-quiet number OkReply None site
counts-quiet number (Attach cred id ro) (StatReply t) site = replied-quiet number (StatReply t) None site
counts-quiet number (Attach cred id ro) (RefusedReply e) site = replied-quiet number (RefusedReply e) None site
counts-quiet number (Get cred key size mode flags) reply site = replied-quiet number reply None site
counts-quiet number (Detach id) reply site = replied-quiet number reply None site
counts-quiet number (Remove cred id) reply site = replied-quiet number reply None site
counts-quiet number (Set cred id uid gid mode) reply site = replied-quiet number reply None site
counts-quiet number (Stat cred id) reply site = replied-quiet number reply None site

reply-quiet-to : (found : Option Outstanding) (number : ℕ) (reply : Reply) (site : Site) → IsQuiet site (on_reply_to found number reply site)
reply-quiet-to None number reply site = still-quiet site Dropped
reply-quiet-to (Some o) number reply site =
    cond_both ((number == o.number) && fits o.op reply) _ _ (IsQuiet site) (λ e. counts-quiet number o.op reply site) (λ e. still-quiet site Dropped)

pub reply-quiet : (number : ℕ) (reply : Reply) (site : Site) → IsQuiet site (on_reply number reply site)
reply-quiet number reply site = reply-quiet-to site.outstanding number reply site

pub purged-quiet : (from id : ℕ) (site : Site) → IsQuiet site (on_purged from id site)
purged-quiet from id site =
    cond_both (site.missing id from) _ _ (IsQuiet site) (λ e. record { entries = refl; books = refl; booked = refl; pending = refl; purged = refl; frames = refl; requests = refl; sent = tt }) (λ e. still-quiet site Dropped)
