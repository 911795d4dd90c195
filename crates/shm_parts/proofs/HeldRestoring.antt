-- What a site's holdings keep true as they are made from what was read.
use Rattle.std.proofs.Common.{◌≡◌, ◌∙◌, ℕ, Bool, true, false, cond, ◌||◌, ◌==◌, not, List, [], ◌∷◌, ◌++◌, Option, Some, None, Result, Ok, Err, IfOk, OnErr, OnOk, if◌then◌else◌, refl, ap, sym}
use Rattle.std.proofs.lemmas.Bool.{true≢false, false≢true}
use Rattle.std.proofs.lemmas.List.Folds.{list_any-append}
use Rattle.std.specs.List.{list_any}
use Rattle.shm_place.specs.declared.page_id.PageId.{PageId}
use Rattle.shm_place.specs.Page.{same_page}
use Rattle.shm_model.specs.Basics.{at, at_page}
use Rattle.shm_model.specs.Calls.{Attachment}
use Rattle.shm_model.specs.Site.{Frames as ModelFrames, is_attachment_of}
use Rattle.shm_attach.specs.Attachments.{attachments_of}
use Rattle.shm_parts.specs.Entries.{is_stored}
use Rattle.shm_parts.specs.Frames.{frames_of}
use Rattle.shm_parts.specs.Holdings.{held_frames}
use Rattle.shm_parts.specs.Listed.{copies_held}
use Rattle.shm_parts.specs.Purged.{purged_of}
use Rattle.shm_parts.specs.Reach.{IsReached, copies_of}
use Rattle.shm_parts.specs.Restored.{is_new_copy, with_copy}
use Rattle.shm_parts.specs.declared.page_entries.Entries.{Entries}
use Rattle.shm_parts.specs.declared.frame_order.Frames.{Frames}
use Rattle.shm_parts.specs.declared.purged_segments.Purged.{Purged}
use Rattle.shm_parts.proofs.EntryLemmas.{if_ok, on_err, page-same, same-page}
use Rattle.shm_parts.proofs.FrameLemmas.{among}
use Rattle.shm_parts.proofs.Reaches.{among_back, among_held, listed, reach_more, reach_room, reach_stored}

-- the copies, said in two ways
pub copies_same : {A : Type 0} (frames : Option (Frames A)) → copies_of frames ≡ copies_held (held_frames frames)
copies_same None = refl
copies_same (Some f) = refl

-- ---- an entry more

joined_there : (stored new : PageId → Bool) (page : PageId) → new ≡ at_page stored page true → new page ≡ true
joined_there stored new page is = ap (λ (t : PageId → Bool). t page) is ∙ ap (λ b. cond b true (stored page)) (same-page page)

pub stored_there : {A : Type 0} (old new : Entries A) (page : PageId) → is_stored new ≡ at_page (is_stored old) page true → is_stored new page ≡ true
stored_there old new page is = joined_there (is_stored old) (is_stored new) page is

pub stored_still : {A : Type 0} (old new : Entries A) (page q : PageId) → is_stored new ≡ at_page (is_stored old) page true → is_stored old q ≡ true → is_stored new q ≡ true
stored_still old new page q is there = ap (λ (t : PageId → Bool). t q) is ∙ by (same_page page q) (is_stored old q) there
  where
    by : (b s : Bool) → s ≡ true → cond b true s ≡ true
    by true s h = refl
    by false s h = h

pub reach_entry : {A T E : Type 0} {sites me : ℕ} (r : Result T E) (e e2 : Entries A) (s : List (Option Attachment)) (p : Purged A) (f : Option (Frames A)) (page : PageId)
    → OnOk r (is_stored e2 ≡ at_page (is_stored e) page true) → OnErr r (is_stored e2 ≡ is_stored e)
    → IsReached sites me e s p f → IsReached sites me e2 s p f
reach_entry (Ok x) e e2 s p f page stored same is = reach_room e e2 s p f f (λ q there. stored_still e e2 page q stored there) refl is
reach_entry (Err x) e e2 s p f page stored same is = reach_stored e e2 s p f same is

-- ---- a segment that is noted as purged, and that no attachment names

noted_step : (b x : Bool) → b ≡ false → x ≡ false → cond b true x ≡ false
noted_step true x apart alive = absurd (true≢false apart)
noted_step false x apart alive = alive

pub reach_noted : {A : Type 0} {sites me : ℕ} (e : Entries A) (s : List (Option Attachment)) (p p2 : Purged A) (f : Option (Frames A)) (id : ℕ)
    → ((number : ℕ) → is_attachment_of id (attachments_of s number) ≡ false) → purged_of p2 ≡ at (purged_of p) id true
    → IsReached sites me e s p f → IsReached sites me e s p2 f
reach_noted e s p p2 f id unnamed added is = record {
  stored = is.stored;
  alive = λ number a stands.
      ap (λ (t : ℕ → Bool). t a.id) added ∙ noted_step (id == a.id) (purged_of p a.id) (ap (is_attachment_of id) (sym stands) ∙ unnamed number) (is.alive number a stands);
  copies = is.copies;
}

-- the same, where memory may be refused
pub reach_purging : {A T E : Type 0} {sites me : ℕ} (r : Result T E) (e : Entries A) (s : List (Option Attachment)) (p p2 : Purged A) (f : Option (Frames A)) (id : ℕ)
    → ((number : ℕ) → is_attachment_of id (attachments_of s number) ≡ false) → OnOk r (purged_of p2 ≡ at (purged_of p) id true) → OnErr r (purged_of p2 ≡ purged_of p)
    → IsReached sites me e s p f → IsReached sites me e s p2 f
reach_purging (Ok x) e s p p2 f id unnamed added refused is = reach_noted e s p p2 f id unnamed added is
reach_purging (Err x) e s p p2 f id unnamed added refused is =
    reach_more e e s s p p2 f f (λ page h. h) (λ number a h. h) refused is.copies is

-- ---- a copy more

-- what is made of a choice is the choice of what is made
pub chosen : {X Y : Type 0} (b : Bool) (make : X → Y) (new one other : X) → new ≡ (if b then one else other) → make new ≡ (if b then make one else make other)
chosen true make new one other is = ap make is
chosen false make new one other is = ap make is

-- what the frames say of a page that was put behind their copies, said of the frames where there are any
pub joined_new : {A E : Type 0} (r : Result Bool E) (page : PageId) (held : Option (Frames A)) (old : Frames A) → held ≡ Some old
    → IfOk r (λ joins. joins ≡ not (list_any (same_page page) (frames_of old).copies)) → IfOk r (λ joins. joins ≡ is_new_copy page (held_frames held))
joined_new r page held old is joins =
    if_ok r (λ b h. h ∙ ap (is_new_copy page) (sym (ap held_frames is))) joins

pub joined_held : {A E : Type 0} (r : Result Bool E) (page : PageId) (held : Option (Frames A)) (old new : Frames A) → held ≡ Some old
    → IfOk r (λ joins. frames_of new ≡ (if joins then record (frames_of old) { copies = (frames_of old).copies ++ page ∷ [] } else frames_of old))
    → IfOk r (λ joins. held_frames (Some new) ≡ (if joins then with_copy page (held_frames held) else held_frames held))
joined_held r page held old new is after =
    if_ok r
    (λ b h.
    chosen b (λ (f : ModelFrames). Some f) (frames_of new) (record (frames_of old) { copies = (frames_of old).copies ++ page ∷ [] }) (frames_of old) h
    ∙ ap (λ (f : Option ModelFrames). if b then with_copy page f else f) (sym (ap held_frames is)))
    after

pub refused_held : {A E : Type 0} (r : Result Bool E) (held : Option (Frames A)) (old new : Frames A) → held ≡ Some old
    → OnErr r (frames_of new ≡ frames_of old) → OnErr r (held_frames (Some new) ≡ held_frames held)
refused_held r held old new is refused =
    on_err r (λ same. ap (λ (f : ModelFrames). Some f) same ∙ sym (ap held_frames is)) refused

either_step : (b c : Bool) (P : Type 0) → (b ≡ true → P) → (c ≡ true → P) → (b || c) ≡ true → P
either_step true c P left right h = left refl
either_step false c P left right h = right h

among_more : (page q : PageId) (f : Option ModelFrames) (P : Type 0) → (q ≡ page → P) → (among q (listed f) ≡ true → P) → among q (listed (with_copy page f)) ≡ true → P
among_more page q None P here there h = there h
among_more page q (Some f) P here there h =
    either_step (list_any (same_page q) f.copies) (list_any (same_page q) (page ∷ [])) P there
    (λ last. either_step (same_page q page) false P (λ same. here (page-same q page same)) (λ no. absurd (false≢true no)) last)
    (sym (list_any-append (same_page q) f.copies (page ∷ [])) ∙ h)

pub reach_copy : {A E : Type 0} {sites me : ℕ} (e : Entries A) (s : List (Option Attachment)) (p : Purged A) (f f2 : Option (Frames A)) (page : PageId) (r : Result Bool E) → is_stored e page ≡ true
    → IfOk r (λ joins. held_frames f2 ≡ (if joins then with_copy page (held_frames f) else held_frames f)) → OnErr r (held_frames f2 ≡ held_frames f)
    → IsReached sites me e s p f → IsReached sites me e s p f2
reach_copy {E = E} e s p f f2 page r stored after refused is =
    reach_more e e s s p p f f2 (λ q h. h) (λ number a h. h) refl (λ q h. of r after refused q h) is
  where
    same : held_frames f2 ≡ held_frames f → (q : PageId) → among q (copies_of f2) ≡ true → is_stored e q ≡ true
    same kept q h = is.copies q (among_back f q (among_held f2 (held_frames f) q kept h))

    of : (r : Result Bool E) → IfOk r (λ joins. held_frames f2 ≡ (if joins then with_copy page (held_frames f) else held_frames f)) → OnErr r (held_frames f2 ≡ held_frames f)
        → (q : PageId) → among q (copies_of f2) ≡ true → is_stored e q ≡ true
    of (Ok true) after refused q h =
        among_more page q (held_frames f) (is_stored e q ≡ true) (λ here. ap (is_stored e) here ∙ stored) (λ there. is.copies q (among_back f q there))
        (among_held f2 (with_copy page (held_frames f)) q after h)
    of (Ok false) after refused q h = same after q h
    of (Err error) after refused q h = same refused q h
