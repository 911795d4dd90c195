-- The steps of segment calls and purges, out of what the parts of the site say.
use Rattle.std.proofs.Common.{◌≡◌, ℕ, ◌+◌, ◌≤◌, sym, Bool, true, false, not, List, [], ◌∷◌, Option, Some, None, Result, Ok, Err, IfOk, IfSome, filter, length, map, ◌==◌, if◌then◌else◌, refl, ap, arith, ◌∙◌}
use Rattle.std.proofs.lemmas.List.FromFn.{length-map-range_with_len}
use Rattle.shm_place.specs.Home.{home_of_id}
use Rattle.shm_place.specs.declared.page_id.PageId.{PageId}
use Rattle.shm_model.specs.declared.answer.Answer.{Answer}
use Rattle.shm_model.specs.declared.answer.Answer.TheVariants.{Began, Took, Refused}
use Rattle.shm_model.specs.declared.call.Op.{Op}
use Rattle.shm_model.specs.declared.call.Op.TheVariants.{Detach}
use Rattle.shm_model.specs.declared.call.Reply.{Reply}
use Rattle.shm_model.specs.Site.{Step, dropped, still, Site, Pending, is_attached, least_free}
use Rattle.shm_model.specs.Book.{Book, untouched_book}
use Rattle.shm_model.specs.Basics.{at, greatest}
use Rattle.shm_model.specs.Entry.{Nil}
use Rattle.shm_model.specs.Calls.{Attachment, Outstanding, op_home}
use Rattle.shm_model.specs.Message.{Call, Purged}
use Rattle.shm_model.specs.Message as message
use Rattle.shm_model.specs.Refusal.{numbers_used_up}
use Rattle.shm_model.specs.SegmentCalls.{attached, begin_detach, call_begun, frames_without, numbered, of_segment, on_purge, purge_envelope, purged_site, purges, replied, without_segment}
use Rattle.shm_attach.specs.Attachments.{segment_of}
use Rattle.shm_attach.specs.declared.call_outcome.Done.{Done}
use Rattle.shm_attach.specs.CallBook.{Calls, begun_as, begun_number, number_after, with_calls}
use Rattle.shm_attach.specs.declared.begin_call_error.BeginFault.{BeginFault}
use Rattle.shm_attach.specs.declared.begin_call_error.BeginFault.TheVariants.{UsedUp}
use Rattle.shm_attach.specs.Home.{sent_for}
use Rattle.shm_parts.specs.Message.{envelope_of}
use Rattle.shm_parts.specs.declared.message.Envelope.{Envelope}
use Rattle.shm_site.specs.Site.{Makes, Told}

-- ---- serving

abbrev step_of : Site → Answer → List message.Envelope → Step
step_of site answer sent = record { site = site; answer = answer; sent = sent }

-- a step whose envelopes were told
pub served : {A O : Type 0} {posted : O → O → List (Envelope A) → Type 0} {before after : O} {out : List message.Envelope} {answer told : Answer} (site : Site)
    → answer ≡ told → Told posted before after out → Makes posted before after site answer (record { site = site; answer = told; sent = out })
served {told = told} site is sends = record {
  sent = sends.sent;
  behind = sends.behind;
  made = ap (step_of site told) (sym sends.meant) ∙ ap (λ (a : Answer). step_of site a (map envelope_of sends.sent)) (sym is);
}

most_purges : (sites me : ℕ) (gone : Option ℕ) → sites ≤ 16 → length (purges sites me gone) ≤ 16
most_purges sites me None few = omega arith
most_purges sites me (Some id) few = omega (arith, few, length-map-range_with_len (purge_envelope me id) 0 sites)

-- what goes out for a call, where `may` says whether the call can destroy a segment
pub most_told : (may : Bool) (sites me from number : ℕ) (served : Option Done) → sites ≤ 16 → (may ≡ false → IfSome served (λ done. done.destroyed ≡ None)) → length (sent_for sites me from number served) ≤ (if may then 17 else 1)
most_told true sites me from number None few spared = omega arith
most_told false sites me from number None few spared = omega arith
most_told true sites me from number (Some done) few spared = omega (arith, most_purges sites me done.destroyed few)
most_told false sites me from number (Some done) few spared =
    let none : length (purges sites me done.destroyed) ≡ 0 = ap (λ (gone : Option ℕ). length (purges sites me gone)) (spared refl) in
    omega (arith, none)

-- ---- calling

-- a call began, under this number and to this home
abbrev called_step : (me number to : ℕ) (op : Op) (calls : Calls) (site : Site) → Step
called_step me number to op calls site = record { site = with_calls calls site; answer = Began number; sent = record { from = me; to = to; message = Call number op } ∷ [] }

call_begins : (b : Bool) (sites me number to : ℕ) (op : Op) (old calls : Calls) (site : Site)
    → ◌≡◌ {A = Result ℕ BeginFault} (Ok number) (if b then Err UsedUp else Ok (old.begun + 1)) → calls ≡ begun_as number op → to ≡ op_home sites me op
    → (if b then still (Refused numbers_used_up) (with_calls old site) else call_begun sites me op (with_calls old site)) ≡ called_step me number to op calls site
call_begins true sites me number to op old calls site n made home = cc
call_begins false sites me number to op old calls site n made home =
    let is : number ≡ old.begun + 1 = cc in
    rw made (rw home (rw is refl))

-- where none is outstanding, what `begin` gives is what comes after the last number
next_number_is : (calls : Calls) (r : Result ℕ BeginFault) → calls.outstanding ≡ None → r ≡ begun_number calls → r ≡ number_after calls.begun
next_number_is calls r idle is = is ∙ ap (λ (o : Option Outstanding). begun_number (record calls { outstanding = o })) idle

pub call_made : (sites me number to : ℕ) (op : Op) (old calls : Calls) (site : Site)
    → old.outstanding ≡ None → Ok number ≡ begun_number old → calls ≡ begun_as number op → to ≡ op_home sites me op
    → numbered (with_calls old site) (call_begun sites me op (with_calls old site)) ≡ record { site = with_calls calls site; answer = Began number; sent = record { from = me; to = to; message = Call number op } ∷ [] }
call_made sites me number to op old calls site idle n made home =
    call_begins (old.begun == greatest) sites me number to op old calls site (next_number_is old (Ok number) idle n) made home

-- ---- detaching

began : (used : Bool) (sites me number id n : ℕ) (old called new : Site) (sent : List message.Envelope)
    → (if used then still (Refused numbers_used_up) old else call_begun sites me (Detach id) old) ≡ record { site = called; answer = Began n; sent = sent }
    → new ≡ record called { attachments = at old.attachments number None }
    → (if used then still (Refused numbers_used_up) old else call_begun sites me (Detach id) (record old { attachments = at old.attachments number None })) ≡ record { site = new; answer = Began n; sent = sent }
began true sites me number id n old called new sent e h = let a = ap (λ (s : Step). s.answer) e in cc
began false sites me number id n old called new sent e h =
    let s = ap (λ (s : Step). s.site) e in
    let a = ap (λ (s : Step). s.answer) e in
    let t = ap (λ (s : Step). s.sent) e in
    rw h (rw (← s) (rw (← a) (rw (← t) refl)))

-- the call of a detach began, and its attachment was taken away
pub detach_began : (sites me number id n : ℕ) (attachment : Option Attachment) (old called new : Site) (sent : List message.Envelope)
    → Some id ≡ segment_of attachment
    → numbered old (call_begun sites me (Detach id) old) ≡ record { site = called; answer = Began n; sent = sent }
    → new ≡ record called { attachments = at old.attachments number None }
    → begin_detach sites me number attachment old ≡ record { site = new; answer = Began n; sent = sent }
detach_began sites me number id n None old called new sent f e h = cc
detach_began sites me number id n (Some a) old called new sent f e h =
    let i : id ≡ a.id = cc in
    rw (← i) (began (old.calls == greatest) sites me number id n old called new sent e h)

-- ---- attaching

-- the same step by another name
pub if_made : {X : Type 0} (first second : Step) (made : Answer → Step) (r : Result Answer X) → first ≡ second → IfOk r (λ answer. second ≡ made answer) → IfOk r (λ answer. first ≡ made answer)
if_made first second made (Ok answer) same is = same ∙ is
if_made first second made (Err e) same is = tt

-- no number is free
pub attached_none : (number id : ℕ) (reply : Reply) (a : Attachment) (old held : Site) → old.purged id ≡ false → None ≡ least_free old.attachments → held ≡ old → attached number id reply a old ≡ dropped held
attached_none number id reply a old held p f h = rw p (rw (← f) (rw h refl))

pub attached_some : (number id place : ℕ) (reply : Reply) (a : Attachment) (old held : Site) → old.purged id ≡ false → Some place ≡ least_free old.attachments → held ≡ record old { attachments = at old.attachments place (Some a) } → attached number id reply a old ≡ replied number reply (Some place) held
attached_some number id place reply a old held p f h = rw p (rw (← f) (rw h refl))

-- ---- purging

pub not_purged : (sites me id : ℕ) (old held : Site) → false ≡ not (is_attached old id) → held ≡ old → on_purge sites me id old ≡ dropped held
not_purged sites me id old held named h = by (is_attached old id) named
  where
    by : (b : Bool) → false ≡ not b → (if b then dropped old else record { site = purged_site me id old; answer = Took; sent = record { from = me; to = home_of_id sites id; message = Purged id } ∷ [] }) ≡ dropped held
    by true e = rw h refl
    by false e = cc

purged_whole : (sites me id : ℕ) (old : Site) → true ≡ not (is_attached old id) → on_purge sites me id old ≡ record { site = purged_site me id old; answer = Took; sent = record { from = me; to = home_of_id sites id; message = Purged id } ∷ [] }
purged_whole sites me id old named = by (is_attached old id) named
  where
    by : (b : Bool) → true ≡ not b → (if b then dropped old else record { site = purged_site me id old; answer = Took; sent = record { from = me; to = home_of_id sites id; message = Purged id } ∷ [] }) ≡ record { site = purged_site me id old; answer = Took; sent = record { from = me; to = home_of_id sites id; message = Purged id } ∷ [] }
    by true e = cc
    by false e = refl

pub purged_done : (sites me id to : ℕ) (old held : Site) (books : PageId → Book) (booked : List PageId) (pending : List Pending)
    → true ≡ not (is_attached old id)
    → held ≡ record old { entries = of_segment id (Nil 0) old.entries; frames = frames_without id old.frames; purged = at old.purged id true }
    → books ≡ of_segment id (untouched_book me) old.books
    → booked ≡ without_segment id old.booked
    → pending ≡ filter (λ p. not (id == p.page.seg)) old.pending
    → to ≡ home_of_id sites id
    → on_purge sites me id old ≡ record { site = record held { books = books; booked = booked; pending = pending }; answer = Took; sent = record { from = me; to = to; message = Purged id } ∷ [] }
purged_done sites me id to old held books booked pending named h b k p t =
    purged_whole sites me id old named ∙ rw h (rw b (rw k (rw p (rw t refl))))
