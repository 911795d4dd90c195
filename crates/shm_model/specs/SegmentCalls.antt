-- Segment calls at the site that begins them and at their home, and the purge of what is destroyed.
use Rattle.std.specs.Prelude.{ℕ, true, false, List, [], ◌∷◌, Option, Some, None, ◌+◌, ◌&&◌, not, ◌==◌, nat_lt, if◌then◌else◌, is_none, is_some, map, filter}
use Rattle.std.specs.List.{range_with_len}
use Rattle.shm_place.specs.declared.page_id.PageId.{PageId}
use Rattle.shm_place.specs.Home.{home_of_id}
use Rattle.shm_model.specs.declared.answer.Answer.TheVariants.{Began, Replied, Took, Refused}
use Rattle.shm_model.specs.declared.call.Op.{Op}
use Rattle.shm_model.specs.declared.call.Op.TheVariants.{Attach, Detach}
use Rattle.shm_model.specs.declared.call.Reply.{Reply}
use Rattle.shm_model.specs.declared.call.Reply.TheVariants.{Attached as AttachedReply}
use Rattle.shm_model.specs.declared.call.Request.{Request}
use Rattle.shm_model.specs.declared.call.Request.TheVariants.{Op as OpRequest, DetachAt}
use Rattle.shm_model.specs.Entry.{Nil}
use Rattle.shm_model.specs.Book.{untouched_book}
use Rattle.shm_model.specs.Basics.{at, greatest}
use Rattle.shm_model.specs.Kernel.{Called, call, destroyed_by}
use Rattle.shm_model.specs.Refusal.{busy, no_attachment, too_many_attachments, numbers_used_up}
use Rattle.shm_model.specs.Message.{Envelope, Call, Replies, Purge, Purged}
use Rattle.shm_model.specs.Calls.{Attachment, Freshness, Fresh, Again, Old, Outstanding, fits, freshness, op_home}
use Rattle.shm_model.specs.Site.{Site, Frames, is_attached, least_free, Step, dropped, still}

abbrev pub call_envelope : ℕ → ℕ → ℕ → Op → Envelope
call_envelope sites me number op = record { from = me; to = op_home sites me op; message = Call number op }

-- the call is noted as outstanding and goes to its home
abbrev pub call_begun : ℕ → ℕ → Op → Site → Step
call_begun sites me op site =
    let number = site.calls + 1 in
    record {
      site = record site { calls = number; outstanding = Some (record { number = number; op = op }) };
      answer = Began number;
      sent = call_envelope sites me number op ∷ [];
    }

abbrev pub numbered : Site → Step → Step
numbered site step = if site.calls == greatest then still (Refused numbers_used_up) site else step

-- a detach takes the attachment away now, and its call names the segment
abbrev pub begin_detach : ℕ → ℕ → ℕ → Option Attachment → Site → Step
begin_detach sites me a None site = still (Refused no_attachment) site
begin_detach sites me a (Some attachment) site =
    numbered site (call_begun sites me (Detach attachment.id) (record site { attachments = at site.attachments a None }))

abbrev pub begin_op : ℕ → ℕ → Op → Site → Step
begin_op sites me (Detach _) site = still (Refused no_attachment) site
begin_op sites me (Attach cred id ro) site =
    if is_none (least_free site.attachments) then still (Refused too_many_attachments) site
    else numbered site (call_begun sites me (Attach cred id ro) site)
begin_op sites me op site = numbered site (call_begun sites me op site)

abbrev pub begin_request : ℕ → ℕ → Request → Site → Step
begin_request sites me (OpRequest op) site = begin_op sites me op site
begin_request sites me (DetachAt a) site = begin_detach sites me a (site.attachments a) site

abbrev pub begin : ℕ → ℕ → Request → Site → Step
begin sites me request site =
    if is_some site.outstanding then still (Refused busy) site
    else begin_request sites me request site

abbrev pub reply_envelope : ℕ → ℕ → ℕ → Reply → Envelope
reply_envelope me to number reply = record { from = me; to = to; message = Replies number reply }

abbrev pub purge_envelope : ℕ → ℕ → ℕ → Envelope
purge_envelope me id to = record { from = me; to = to; message = Purge id }

-- a destroyed segment is purged at every site
abbrev pub with_missing : ℕ → Option ℕ → Site → Site
with_missing sites None site = site
with_missing sites (Some id) site = record site { missing = at site.missing id (λ s. nat_lt s sites) }

abbrev pub purges : ℕ → ℕ → Option ℕ → List Envelope
purges sites me None = []
purges sites me (Some id) = map (purge_envelope me id) (range_with_len 0 sites)

abbrev pub executed : ℕ → ℕ → ℕ → ℕ → Called → Option ℕ → Site → Step
executed sites me from number done gone site = record {
  site = with_missing sites gone (record site { table = done.segments; kept = at site.kept from (Some (record { number = number; reply = done.reply })) });
  answer = Took;
  sent = reply_envelope me from number done.reply ∷ purges sites me gone;
}

abbrev pub execute : ℕ → ℕ → ℕ → ℕ → Op → Site → Step
execute sites me from number op site =
    let done = call sites me op site.table in
    executed sites me from number done (destroyed_by op site.table done.segments) site

-- A Call at its home: a fresh number is executed and its reply kept, an equal one is answered again, an old one is dropped.
abbrev pub on_call_as : Freshness → ℕ → ℕ → ℕ → ℕ → Op → Site → Step
on_call_as Fresh sites me from number op site = execute sites me from number op site
on_call_as (Again reply) sites me from number op site = record { site = site; answer = Took; sent = reply_envelope me from number reply ∷ [] }
on_call_as Old sites me from number op site = dropped site

abbrev pub on_call : ℕ → ℕ → ℕ → ℕ → Op → Site → Step
on_call sites me from number op site = on_call_as (freshness (site.kept from) number) sites me from number op site

abbrev pub replied : ℕ → Reply → Option ℕ → Site → Step
replied number reply attachment site =
    still (Replied number reply attachment) (record site { outstanding = None })

abbrev pub attached_at : Option ℕ → ℕ → Reply → Attachment → Site → Step
attached_at None number reply attachment site = dropped site
attached_at (Some a) number reply attachment site =
    replied number reply (Some a) (record site { attachments = at site.attachments a (Some attachment) })

-- an attachment comes to stand at the least free number, unless its segment was purged here
abbrev pub attached : ℕ → ℕ → Reply → Attachment → Site → Step
attached number id reply attachment site =
    if site.purged id then dropped site
    else attached_at (least_free site.attachments) number reply attachment site

abbrev pub reply_counts : ℕ → Op → Reply → Site → Step
reply_counts number (Attach cred id ro) (AttachedReply a) site =
    attached number id (AttachedReply a) (record { id = id; size = a.size; ro = a.ro }) site
reply_counts number op reply site = replied number reply None site

abbrev pub on_reply_to : Option Outstanding → ℕ → Reply → Site → Step
on_reply_to None number reply site = dropped site
on_reply_to (Some o) number reply site =
    if (number == o.number) && fits o.op reply then reply_counts number o.op reply site else dropped site

-- A Reply counts where it has the outstanding call's number and form; it ends the call.
abbrev pub on_reply : ℕ → Reply → Site → Step
on_reply number reply site = on_reply_to site.outstanding number reply site

abbrev pub without_segment : ℕ → List PageId → List PageId
without_segment id pages = filter (λ p. not (id == p.seg)) pages

abbrev pub frames_without : ℕ → Option Frames → Option Frames
frames_without id None = None
frames_without id (Some f) = Some (record f { copies = without_segment id f.copies })

abbrev pub of_segment : {X : Type 0} → ℕ → X → (PageId → X) → PageId → X
of_segment id x f p = if id == p.seg then x else f p

-- the site gives up what it holds of the segment, and notes its identifier for good
abbrev pub purged_site : ℕ → ℕ → Site → Site
purged_site me id site = record site {
  entries = of_segment id (Nil 0) site.entries;
  books = of_segment id (untouched_book me) site.books;
  booked = without_segment id site.booked;
  frames = frames_without id site.frames;
  pending = filter (λ p. not (id == p.page.seg)) site.pending;
  purged = at site.purged id true;
}

-- A Purge: where an attachment still names the segment it is dropped.
abbrev pub on_purge : ℕ → ℕ → ℕ → Site → Step
on_purge sites me id site =
    if is_attached site id then dropped site
    else record {
      site = purged_site me id site;
      answer = Took;
      sent = record { from = me; to = home_of_id sites id; message = Purged id } ∷ [];
    }

-- A Purged at the home: the site is missing no longer.
abbrev pub on_purged : ℕ → ℕ → Site → Step
on_purged from id site =
    if site.missing id from then still Took (record site { missing = at site.missing id (at (site.missing id) from false) })
    else dropped site
