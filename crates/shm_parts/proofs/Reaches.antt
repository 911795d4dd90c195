-- What a site's holdings keep true, after each change of them.
use Rattle.std.proofs.Common.{◌≡◌, ◌∙◌, ℕ, ◌*◌, ◌/◌, ◌<◌, Bool, true, false, not, ◌||◌, ◌==◌, cond, List, [], ◌∷◌, filter, Option, Some, None, is_some, refl, ap, sym, subst, ◌⊎◌, ⊎_elim, inr, arith}
use Rattle.std.proofs.lemmas.Bool.{true≢false, false≢true, not-true}
use Rattle.std.proofs.lemmas.Option.{same_Some, none-some}
use Rattle.std.specs.Option.{option_map}
use Rattle.shm_place.specs.declared.page_id.PageId.{PageId}
use Rattle.shm_place.specs.Limits.{page_bytes}
use Rattle.shm_place.specs.Offset.{rounded}
use Rattle.shm_place.specs.Page.{same_page}
use Rattle.shm_model.specs.Basics.{at}
use Rattle.shm_model.specs.Calls.{Attachment}
use Rattle.shm_model.specs.SegmentCalls.{frames_without}
use Rattle.shm_model.specs.Site.{Frames as ModelFrames, is_attachment_of, least_free}
use Rattle.shm_attach.specs.Attachments.{attachments_of, put_at}
use Rattle.shm_parts.specs.Entries.{is_stored, stored_at}
use Rattle.shm_parts.specs.Frames.{arranged_by}
use Rattle.shm_parts.specs.Holdings.{arranged_frames, framed, held_frames}
use Rattle.shm_parts.specs.Purged.{purged_of}
use Rattle.shm_parts.specs.Reach.{IsReached, copies_of, manages}
use Rattle.shm_parts.specs.declared.entry_change.Change.{Change}
use Rattle.shm_parts.specs.declared.page_entries.Entries.{Entries}
use Rattle.shm_parts.specs.declared.frame_order.Frames.{Frames}
use Rattle.shm_parts.specs.declared.purged_segments.Purged.{Purged}
use Rattle.shm_parts.proofs.FrameLemmas.{among, among-arranged_by, among-overflowed, among-without_segment, overflowed-among}
use Rattle.shm_parts.proofs.EntryLemmas.{page-same}

abbrev pub listed : Option ModelFrames → List PageId
listed None = []
listed (Some f) = f.copies

pub copies_listed : {A : Type 0} (frames : Option (Frames A)) → copies_of frames ≡ listed (held_frames frames)
copies_listed None = refl
copies_listed (Some f) = refl

-- what the definitions say of the frames, said of the copies
pub among_held : {A : Type 0} (frames : Option (Frames A)) (f : Option ModelFrames) (page : PageId) → held_frames frames ≡ f → among page (copies_of frames) ≡ true → among page (listed f) ≡ true
among_held frames f page is h =
    ap (among page) (sym (copies_listed frames ∙ ap listed is)) ∙ h

pub among_back : {A : Type 0} (frames : Option (Frames A)) (page : PageId) → among page (listed (held_frames frames)) ≡ true → among page (copies_of frames) ≡ true
among_back frames page h = ap (among page) (copies_listed frames) ∙ h

-- more is stored, no attachment is new, and each copy is stored
pub reach_more : {A : Type 0} {sites me : ℕ} (e e2 : Entries A) (s s2 : List (Option Attachment)) (p p2 : Purged A) (f f2 : Option (Frames A))
    → ((page : PageId) → is_stored e page ≡ true → is_stored e2 page ≡ true)
    → ((number : ℕ) (a : Attachment) → attachments_of s2 number ≡ Some a → attachments_of s number ≡ Some a)
    → purged_of p2 ≡ purged_of p
    → ((page : PageId) → among page (copies_of f2) ≡ true → is_stored e2 page ≡ true)
    → IsReached sites me e s p f → IsReached sites me e2 s2 p2 f2
reach_more e e2 s s2 p p2 f f2 stores fewer same copies is = record {
  stored = λ number a index stands below mine. stores (record { seg = a.id; index = index }) (is.stored number a index (fewer number a stands) below mine);
  alive = λ number a stands. ap (λ (t : ℕ → Bool). t a.id) same ∙ is.alive number a (fewer number a stands);
  copies = copies;
}

pub reach_stored : {A : Type 0} {sites me : ℕ} (e e2 : Entries A) (s : List (Option Attachment)) (p : Purged A) (f : Option (Frames A)) → is_stored e2 ≡ is_stored e → IsReached sites me e s p f → IsReached sites me e2 s p f
reach_stored e e2 s p f same is =
    let stores : (page : PageId) → is_stored e page ≡ true → is_stored e2 page ≡ true = (λ page h. ap (λ (t : PageId → Bool). t page) same ∙ h) in
    reach_more e e2 s s p p f f stores (λ number a h. h) refl (λ page h. stores page (is.copies page h)) is

-- more is stored, and the copies are the same
pub reach_room : {A : Type 0} {sites me : ℕ} (e e2 : Entries A) (s : List (Option Attachment)) (p : Purged A) (f f2 : Option (Frames A)) → ((page : PageId) → is_stored e page ≡ true → is_stored e2 page ≡ true)
    → held_frames f2 ≡ held_frames f → IsReached sites me e s p f → IsReached sites me e2 s p f2
reach_room e e2 s p f f2 stores same is =
    reach_more e e2 s s p p f f2 stores (λ number a h. h) refl (λ page h. stores page (is.copies page (among_back f page (among_held f2 (held_frames f) page same h)))) is

taken_step : (b : Bool) (o : Option Attachment) (a : Attachment) → cond b None o ≡ Some a → o ≡ Some a
taken_step true o a h = absurd (none-some a h)
taken_step false o a h = h

pub reach_detached : {A : Type 0} {sites me : ℕ} (e : Entries A) (s s2 : List (Option Attachment)) (p : Purged A) (f : Option (Frames A)) (number : ℕ) → attachments_of s2 ≡ at (attachments_of s) number None
    → IsReached sites me e s p f → IsReached sites me e s2 p f
reach_detached e s s2 p f number after is =
    reach_more e e s s2 p p f f (λ page h. h)
    (λ n a h. taken_step (number == n) (attachments_of s n) a (sym (ap (λ (t : ℕ → Option Attachment). t n) after) ∙ h))
    refl (λ page h. is.copies page h) is

put_step : (b : Bool) (new : Attachment) (o : Option Attachment) (a : Attachment) (P : Attachment → Type 0) → P new → (o ≡ Some a → P a) → cond b (Some new) o ≡ Some a → P a
put_step true new o a P here there h = subst P (same_Some new a h) here
put_step false new o a P here there h = there h

put_either : (number : Option ℕ) (new : Attachment) (f : ℕ → Option Attachment) (n : ℕ) (a : Attachment) (P : Attachment → Type 0) → P new → (f n ≡ Some a → P a) → put_at number new f n ≡ Some a → P a
put_either None new f n a P here there h = there h
put_either (Some k) new f n a P here there h = put_step (k == n) new (f n) a P here there h

-- an attachment whose pages are stored, those that the site manages
pub reach_attached : {A : Type 0} {sites me : ℕ} (e e2 : Entries A) (s s2 : List (Option Attachment)) (p : Purged A) (f : Option (Frames A)) (number : Option ℕ) (new : Attachment)
    → attachments_of s2 ≡ put_at number new (attachments_of s)
    → ((page : PageId) → is_stored e page ≡ true → is_stored e2 page ≡ true)
    → ((index : ℕ) → index * page_bytes < rounded new.size → manages sites me (record { seg = new.id; index = index }) ≡ true → is_stored e2 (record { seg = new.id; index = index }) ≡ true)
    → purged_of p new.id ≡ false
    → IsReached sites me e s p f → IsReached sites me e2 s2 p f
reach_attached {sites = sites} {me = me} e e2 s s2 p f number new after stores here alive is = record {
  stored = λ n a index stands.
      put_either number new (attachments_of s) n a (λ a. index * page_bytes < rounded a.size → manages sites me (record { seg = a.id; index = index }) ≡ true → is_stored e2 (record { seg = a.id; index = index }) ≡ true)
      (here index)
      (λ old below mine. stores (record { seg = a.id; index = index }) (is.stored n a index old below mine))
      (sym (ap (λ (t : ℕ → Option Attachment). t n) after) ∙ stands);
  alive = λ n a stands.
      put_either number new (attachments_of s) n a (λ a. purged_of p a.id ≡ false) alive (is.alive n a)
      (sym (ap (λ (t : ℕ → Option Attachment). t n) after) ∙ stands);
  copies = λ page h. stores page (is.copies page h);
}

kept_step : (page : PageId) (keep : PageId → Bool) (b : Bool) (q : PageId) (rest : List PageId) → (same_page page q ≡ true → b ≡ true → keep page ≡ true) → (among page rest ≡ true → keep page ≡ true)
    → among page (cond b (q ∷ rest) rest) ≡ true → keep page ≡ true
kept_step page keep true q rest here there h = head_step (same_page page q) (λ s. here s refl) h
  where
    head_step : (s : Bool) → (s ≡ true → keep page ≡ true) → (s || among page rest) ≡ true → keep page ≡ true
    head_step true f h = f refl
    head_step false f h = there h
kept_step page keep false q rest here there h = there h

pub among_kept : (page : PageId) (keep : PageId → Bool) (qs : List PageId) → among page (filter keep qs) ≡ true → keep page ≡ true
among_kept page keep [] h = absurd (false≢true h)
among_kept page keep (q ∷ qs) h =
    kept_step page keep (keep q) q (filter keep qs) (λ s k. ap keep (page-same page q s) ∙ k) (among_kept page keep qs) h

apart : (id : ℕ) (page : PageId) (f : Option ModelFrames) → among page (listed (frames_without id f)) ≡ true → (id == page.seg) ≡ false
apart id page None h = absurd (false≢true h)
apart id page (Some f) h = not-true (id == page.seg) (among_kept page (λ q. not (id == q.seg)) f.copies h)

was_among : (id : ℕ) (page : PageId) (f : Option ModelFrames) → among page (listed (frames_without id f)) ≡ true → among page (listed f) ≡ true
was_among id page None h = h
was_among id page (Some f) h = among-without_segment page id f.copies h

purged_step : (b : Bool) (x : Bool) → b ≡ false → x ≡ false → cond b true x ≡ false
purged_step true x apart alive = absurd (true≢false apart)
purged_step false x apart alive = alive

-- a segment that is purged, and that no attachment names
pub reach_purged : {A : Type 0} {sites me : ℕ} (e e2 : Entries A) (s : List (Option Attachment)) (p p2 : Purged A) (f f2 : Option (Frames A)) (id : ℕ)
    → ((number : ℕ) → is_attachment_of id (attachments_of s number) ≡ false)
    → purged_of p2 ≡ at (purged_of p) id true
    → ((page : PageId) → (id == page.seg) ≡ false → stored_at e2 page ≡ stored_at e page)
    → held_frames f2 ≡ frames_without id (held_frames f)
    → IsReached sites me e s p f → IsReached sites me e2 s p2 f2
reach_purged e e2 s p p2 f f2 id unnamed added others fewer is = record {
  stored = λ number a index stands below mine.
      ap is_some (others (record { seg = a.id; index = index }) (other number a stands)) ∙ is.stored number a index stands below mine;
  alive = λ number a stands.
      ap (λ (t : ℕ → Bool). t a.id) added ∙ purged_step (id == a.id) (purged_of p a.id) (other number a stands) (is.alive number a stands);
  copies = λ page h.
      let left : among page (listed (frames_without id (held_frames f))) ≡ true = among_held f2 (frames_without id (held_frames f)) page fewer h in
      ap is_some (others page (apart id page (held_frames f) left)) ∙ is.copies page (among_back f page (was_among id page (held_frames f) left));
}
  where
    other : (number : ℕ) (a : Attachment) → attachments_of s number ≡ Some a → (id == a.id) ≡ false
    other number a stands = ap (is_attachment_of id) (sym stands) ∙ unnamed number

-- the copies after a change at a page that is stored
arranged_copies : (change : Change) (at page : PageId) (f : Option ModelFrames) → among page (listed (arranged_frames change at f).1) ≡ true → (same_page page at ≡ true) ⊎ (among page (listed f) ≡ true)
arranged_copies change at page None h = inr h
arranged_copies change at page (Some f) h =
    among-arranged_by page at change f.copies (among-overflowed page (record f { copies = arranged_by change at f.copies }) h)

stored_copy : {A : Type 0} (e : Entries A) (f : Option (Frames A)) (page at : PageId) → ((page : PageId) → among page (copies_of f) ≡ true → is_stored e page ≡ true) → is_stored e at ≡ true
    → (same_page page at ≡ true) ⊎ (among page (listed (held_frames f)) ≡ true) → is_stored e page ≡ true
stored_copy e f page at copies stored either =
    ⊎_elim (λ same. ap (is_stored e) (page-same page at same) ∙ stored) (λ old. copies page (among_back f page old)) either

pub reach_arranged : {A : Type 0} {sites me : ℕ} (e : Entries A) (s : List (Option Attachment)) (p : Purged A) (f f2 : Option (Frames A)) (change : Change) (at : PageId) → is_stored e at ≡ true
    → held_frames f2 ≡ (arranged_frames change at (held_frames f)).1 → IsReached sites me e s p f → IsReached sites me e s p f2
reach_arranged e s p f f2 change at stored after is =
    reach_more e e s s p p f f2 (λ page h. h) (λ number a h. h) refl
    (λ page h. stored_copy e f page at is.copies stored (arranged_copies change at page (held_frames f) (among_held f2 (arranged_frames change at (held_frames f)).1 page after h)))
    is

first_listed : (change : Change) (at first : PageId) (f : Option ModelFrames) → (arranged_frames change at f).0 ≡ Some first → (same_page first at ≡ true) ⊎ (among first (listed f) ≡ true)
first_listed change at first None h = absurd (none-some first h)
first_listed change at first (Some f) h =
    among-arranged_by first at change f.copies (overflowed-among first (record f { copies = arranged_by change at f.copies }) h)

pub first_stored : {A : Type 0} {sites me : ℕ} (e : Entries A) (s : List (Option Attachment)) (p : Purged A) (f : Option (Frames A)) (change : Change) (at first : PageId) → is_stored e at ≡ true
    → (arranged_frames change at (held_frames f)).0 ≡ Some first → IsReached sites me e s p f → is_stored e first ≡ true
first_stored e s p f change at first stored h is =
    stored_copy e f first at is.copies stored (first_listed change at first (held_frames f) h)

framed_none : (limit : Option ℕ) (page : PageId) → among page (listed (option_map framed limit)) ≡ true → ⊥
framed_none None page h = false≢true h
framed_none (Some n) page h = false≢true h

pub reach_opened : {A : Type 0} {sites me : ℕ} (e : Entries A) (s : List (Option Attachment)) (p : Purged A) (f : Option (Frames A)) (limit : Option ℕ) → attachments_of s ≡ (λ _. None) → held_frames f ≡ option_map framed limit → IsReached sites me e s p f
reach_opened e s p f limit none frames = record {
  stored = λ number a index stands below mine. absurd (none-some a (sym (ap (λ (t : ℕ → Option Attachment). t number) none) ∙ stands));
  alive = λ number a stands. absurd (none-some a (sym (ap (λ (t : ℕ → Option Attachment). t number) none) ∙ stands));
  copies = λ page h. absurd (framed_none limit page (among_held f (option_map framed limit) page frames h));
}

pub reach_copied : {A : Type 0} {sites me : ℕ} (e e2 : Entries A) (s s2 : List (Option Attachment)) (p p2 : Purged A) (f f2 : Option (Frames A)) → is_stored e2 ≡ is_stored e → s2 ≡ s → purged_of p2 ≡ purged_of p
    → held_frames f2 ≡ held_frames f → IsReached sites me e s p f → IsReached sites me e2 s2 p2 f2
reach_copied e e2 s s2 p p2 f f2 entries slots purged frames is =
    let stores : (page : PageId) → is_stored e page ≡ true → is_stored e2 page ≡ true = (λ page h. ap (λ (t : PageId → Bool). t page) entries ∙ h) in
    reach_more e e2 s s2 p p2 f f2 stores
    (λ number a h. ap (λ (t : List (Option Attachment)). attachments_of t number) (sym slots) ∙ h)
    purged
    (λ page h. stores page (is.copies page (among_back f page (among_held f2 (held_frames f) page frames h)))) is

-- a page of an attachment is one of so many
pub page_below : (size bytes index : ℕ) → bytes ≡ rounded size → index * page_bytes < rounded size → index < bytes / page_bytes
page_below size bytes index whole below = omega arith

-- where nothing is attached, 0 is free
first_free : least_free (λ _. None) ≡ Some 0
unfolding least_free
first_free = refl

pub opened_number : (number : Option ℕ) (attachments : ℕ → Option Attachment) → attachments ≡ (λ _. None) → number ≡ least_free attachments → number ≡ Some 0
opened_number number attachments none least = least ∙ ap least_free none ∙ first_free
