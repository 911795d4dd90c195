-- An event about one page leaves what each site has of another page, unless a copy is given up for a frame.
use Rattle.std.proofs.Common.{◌≡◌, ◌∙◌, ℕ, zero, suc, Bool, true, false, List, [], ◌∷◌, Option, Some, None, Result, Ok, Err, refl, sym, ap, ap₂, subst, if◌then◌else◌, ◌==◌, ◌&&◌, nat_lt, slice_get, slice_set}
use Rattle.shm_place.specs.declared.page_id.PageId.{PageId}
use Rattle.shm_place.specs.Offset.{rounded}
use Rattle.shm_place.specs.Page.{in_limits, same_page}
use Rattle.shm_model.specs.declared.event.Event.{Event}
use Rattle.shm_model.specs.declared.event.Event.TheVariants.{Load as LoadEvent, Store as StoreEvent, Begin as BeginEvent, Tick as TickEvent, Restart as RestartEvent, Deliver as DeliverEvent, Repeat, Lose}
use Rattle.shm_model.specs.declared.request_kind.Kind.{Kind}
use Rattle.shm_model.specs.declared.request_kind.Kind.TheVariants.{Read, Write}
use Rattle.shm_model.specs.Access.{Place, ask_for, is_pending, load_if, place_in, right, right_through, store_if, stored_entry}
use Rattle.shm_model.specs.Basics.{at_page, greatest}
use Rattle.shm_model.specs.Book.{Outcome, Ignored, UsedUp, Taken, on_ask, on_cleared, on_confirm}
use Rattle.shm_model.specs.Calls.{Attachment}
use Rattle.shm_model.specs.Entry.{Entry, Note, Ask, Clear, Cleared, Hand, Page, Confirm, Out, on_clear, on_hand, on_page, readable, writable}
use Rattle.shm_model.specs.Message.{Envelope, Message, Of, Call, Replies, Purge, Purged, Input, Load, Store, Deliver}
use Rattle.shm_model.specs.Refusal.{out_of_segment, read_only}
use Rattle.shm_model.specs.Site.{Frames, Site, Step}
use Rattle.shm_model.specs.Step.{deliver, foreign, on_message, step}
use Rattle.shm_model.specs.Transfer.{arranged, is_nothing, limited, on_note, on_note_of, settle, to_book, to_entry, with_entry}
use Rattle.shm_model.specs.World as model
use Rattle.shm_model.specs.World.{World, is_full, live, next, step_site, without}
use Rattle.shm_parts.proofs.EntryLemmas.{same_page_equiv}
use Rattle.shm_parts.specs.Holdings.{shown_of}
use Rattle.shm_parts.specs.Reached.{page_reached}
use Rattle.shm_world.specs.Showing.{shown, shown_at}
use Rattle.shm_draw.specs.Arrows.{HaveNoFrames}
use Rattle.shm_draw.specs.Picture.{about, about_access, about_envelope, page_of}

-- the site has of the page what it had
abbrev Same : PageId → Site → Site → Type 0
Same page old new = (new.purged page.seg ≡ old.purged page.seg) × (new.entries page ≡ old.entries page)

either : {X : Type 0} (P : X → Type 0) (b : Bool) (x y : X) → P x → P y → P (if b then x else y)
either P true x y p q = p
either P false x y p q = q

other_there : {X : Type 0} (f : PageId → X) (other page : PageId) (x : X) → same_page other page ≡ false → at_page f other x page ≡ f page
other_there f other page x h = ap (λ b. if b then x else f page) h

-- accesses
asks : (page : PageId) (sites me : ℕ) (kind : Kind) (other : PageId) (site : Site) → Same page site (ask_for sites me kind other site).site
asks page sites me kind other site =
    either (λ (d : Step). Same page site d.site) (is_pending kind other site.pending) _ _ (refl, refl)
    (either (λ (d : Step). Same page site d.site) (site.requests == greatest) _ _ (refl, refl) (refl, refl))

loads : (page : PageId) (sites me : ℕ) (place : Result Place ℕ) (site : Site) → Same page site (load_if sites me place site).site
loads page sites me (Err refusal) site = (refl, refl)
loads page sites me (Ok place) site =
    either (λ (d : Step). Same page site d.site) (readable (site.entries place.page)) _ _ (refl, refl) (asks page sites me Read place.page site)

-- the place, if there is one, is on the page
abbrev IsOn : PageId → Result Place ℕ → Type 0
IsOn other (Ok place) = place.page ≡ other
IsOn other (Err refusal) = Unit {0}

stores : (page other : PageId) (sites me : ℕ) (place : Result Place ℕ) (byte : ℕ) (site : Site) → same_page other page ≡ false → IsOn other place
    → Same page site (store_if sites me place byte site).site
stores page other sites me (Err refusal) byte site h on = (refl, refl)
stores page other sites me (Ok place) byte site h on =
    let apart : same_page place.page page ≡ false = ap (λ p. same_page p page) on ∙ h in
    either (λ (d : Step). Same page site d.site) (writable (site.entries place.page)) _ _
    (refl, other_there site.entries place.page page (stored_entry place.within byte (site.entries place.page)) apart) (asks page sites me Write place.page site)

-- a store goes to the page that a load there goes to, or is refused
same_right : (found : Option Attachment) (offset : ℕ) (other : PageId) → page_reached (right_through found offset false) ≡ Some other → IsOn other (right_through found offset true)
same_right None offset other h = tt
same_right (Some a) offset other h = picked a.ro (nat_lt offset (rounded a.size)) h
  where
    picked : (ro within : Bool) → page_reached (if within then Ok (place_in a offset) else Err out_of_segment) ≡ Some other
        → IsOn other (if ro then Err read_only else if within then Ok (place_in a offset) else Err out_of_segment)
    picked true within is = tt
    picked false true is = cc
    picked false false is = tt

-- messages
in_books : (page : PageId) (me : ℕ) (other : PageId) (outcome : Outcome) (site : Site) → Same page site (to_book me other outcome site).site
in_books page me other Ignored site = (refl, refl)
in_books page me other UsedUp site = (refl, refl)
in_books page me other (Taken book asked) site = (refl, refl)

enters : (page other : PageId) (old new : Entry) (site : Site) (frames : Option Frames) → same_page other page ≡ false → frames ≡ None
    → Same page site (limited (arranged other old new frames) (record site {
      entries = at_page site.entries other new;
      frames = arranged other old new frames;
      pending = settle (readable new) (writable new) other site.pending;
    }))
enters page other old new site None h none = (refl, other_there site.entries other page new h)
enters page other old new site (Some f) h none = absurd (cc)

in_entries : (page other : PageId) (sites me : ℕ) (row : Entry × Out) (site : Site) → same_page other page ≡ false → site.frames ≡ None
    → Same page site (to_entry sites me other row site).site
in_entries page other sites me (new, out) site h none =
    either (λ (d : Step). Same page site d.site) (is_nothing out) _ _ (refl, refl) (enters page other (site.entries other) new site site.frames h none)

notes : (page other : PageId) (sites me from : ℕ) (note : Note) (site : Site) → same_page other page ≡ false → site.frames ≡ None
    → Same page site (on_note sites me from other note site).site
notes page other sites me from (Ask request kind) site h none = in_books page me other (on_ask from request kind (site.books other)) site
notes page other sites me from (Clear n) site h none = in_entries page other sites me (on_clear n (site.entries other)) site h none
notes page other sites me from (Cleared n) site h none = in_books page me other (on_cleared from n (site.books other)) site
notes page other sites me from (Hand n kind to) site h none = in_entries page other sites me (on_hand me n kind to (site.entries other)) site h none
notes page other sites me from (Page n kind b) site h none = in_entries page other sites me (on_page n kind b (site.entries other)) site h none
notes page other sites me from (Confirm n) site h none = in_books page me other (on_confirm from n (site.books other)) site

messages : (page other : PageId) (sites me from : ℕ) (message : Message) (site : Site) → page_of message ≡ Some other → same_page other page ≡ false → site.frames ≡ None
    → Same page site (on_message sites me from message site).site
messages page other sites me from (Of p note) site is h none =
    let there : p ≡ other = cc in
    let apart : same_page p page ≡ false = ap (λ q. same_page q page) there ∙ h in
    either (λ (d : Step). Same page site d.site) (site.purged p.seg) _ _ (refl, refl) (notes page p sites me from note site apart none)
messages page other sites me from (Call number op) site is h none = absurd (cc)
messages page other sites me from (Replies number reply) site is h none = absurd (cc)
messages page other sites me from (Purge id) site is h none = absurd (cc)
messages page other sites me from (Purged id) site is h none = absurd (cc)

delivers : (page other : PageId) (sites me : ℕ) (e : Envelope) (site : Site) → page_of e.message ≡ Some other → same_page other page ≡ false → site.frames ≡ None
    → Same page site (deliver sites me e site).site
delivers page other sites me e site is h none =
    either (λ (d : Step). Same page site d.site) (foreign sites me e) _ _ (refl, refl) (messages page other sites me e.from e.message site is h none)

-- ---- the world

shows : (page : PageId) (old new : Site) → Same page old new → shown_at (Some new) page ≡ shown_at (Some old) page
shows page old new same = ap₂ (λ p e. Some (shown_of p e)) same.0 same.1

set_there : (page : PageId) (xs : List Site) (s t : ℕ) (old new : Site) → slice_get xs s ≡ Some old → Same page old new
    → shown_at (slice_get (slice_set xs s new) t) page ≡ shown_at (slice_get xs t) page
set_there page [] s t old new h same = absurd (cc)
set_there page (x ∷ xs) zero zero old new h same = let is : x ≡ old = cc in shows page x new (subst (λ y. Same page y new) (sym is) same)
set_there page (x ∷ xs) zero (suc t) old new h same = refl
set_there page (x ∷ xs) (suc s) zero old new h same = refl
set_there page (x ∷ xs) (suc s) (suc t) old new h same = set_there page xs s t old new h same

-- a step that keeps what the site has of the page keeps what each site shows of it
steps : (page : PageId) (w : World) (found : Option Site) (s t : ℕ) (input : Input) → slice_get w.sites s ≡ found
    → ((site : Site) → slice_get w.sites s ≡ Some site → Same page site (step w.count s site input).site)
    → shown (step_site found w s input).world t page ≡ shown w t page
steps page w None s t input is all = refl
steps page w (Some site) s t input is all =
    either (λ (n : model.Next). shown n.world t page ≡ shown w t page) (is_full w) _ _ refl
    (ap (λ o. if in_limits w.count page then o else None) (set_there page w.sites s t site (step w.count s site input).site is (all site is)))

loaded : (page : PageId) (w : World) (s at offset t : ℕ) → shown (next w (LoadEvent s at offset)).world t page ≡ shown w t page
loaded page w s at offset t =
    steps page w (slice_get w.sites s) s t (Load at offset) refl (λ site is. loads page w.count s (right site.attachments at offset false) site)

stored : (page other : PageId) (w : World) (s at offset byte t : ℕ) → about_access (slice_get w.sites s) at offset ≡ Some other → same_page other page ≡ false
    → shown (next w (StoreEvent s at offset byte)).world t page ≡ shown w t page
stored page other w s at offset byte t of h =
    steps page w (slice_get w.sites s) s t (Store at offset byte) refl
    (λ site is. stores page other w.count s (right site.attachments at offset true) byte site h
    (same_right (site.attachments at) offset other (ap (λ f. about_access f at offset) (sym is) ∙ of)))

handed : (page other : PageId) (w : World) (e : Envelope) (t : ℕ) → HaveNoFrames w → page_of e.message ≡ Some other → same_page other page ≡ false
    → shown (model.step_at w e.to (Deliver e)).world t page ≡ shown w t page
handed page other w e t none is h =
    steps page w (slice_get w.sites e.to) e.to t (Deliver e) refl (λ site there. delivers page other w.count e.to e site is h (none e.to site there))

delivered : (page other : PageId) (w : World) (k t : ℕ) (found : Option Envelope) → HaveNoFrames w → about_envelope found ≡ Some other → same_page other page ≡ false
    → shown (model.deliver found w k).world t page ≡ shown w t page
delivered page other w k t None none is h = absurd (cc)
delivered page other w k t (Some e) none is h = handed page other (without w k) e t none is h

repeated : (page other : PageId) (w : World) (t : ℕ) (found : Option Envelope) → HaveNoFrames w → about_envelope found ≡ Some other → same_page other page ≡ false
    → shown (model.hand_over found w).world t page ≡ shown w t page
repeated page other w t None none is h = absurd (cc)
repeated page other w t (Some e) none is h = handed page other w e t none is h

lost : (page : PageId) (w : World) (k t : ℕ) (found : Option Envelope) → shown (model.lose found w k).world t page ≡ shown w t page
lost page w k t None = refl
lost page w k t (Some e) = refl

stays : (page other : PageId) (w : World) (event : Event) (t : ℕ) → HaveNoFrames w → about w event ≡ Some other → same_page other page ≡ false
    → shown (next w event).world t page ≡ shown w t page
stays page other w (LoadEvent s at offset) t none of h = loaded page w s at offset t
stays page other w (StoreEvent s at offset byte) t none of h = stored page other w s at offset byte t of h
stays page other w (BeginEvent s request) t none of h = absurd (cc)
stays page other w (TickEvent s) t none of h = absurd (cc)
stays page other w (RestartEvent s) t none of h = absurd (cc)
stays page other w (DeliverEvent k) t none of h = delivered page other w k t (live w k) none of h
stays page other w (Repeat k) t none of h = repeated page other w t (live w k) none of h
stays page other w (Lose k) t none of h = lost page w k t (live w k)

pub colours_stay : (page other : PageId) (w : World) (event : Event) (t : ℕ) → HaveNoFrames w → about w event ≡ Some other → same_page page other ≡ false
    → shown (next w event).world t page ≡ shown w t page
colours_stay page other w event t none of h = stays page other w event t none of (same_page_equiv.symm other page ∙ h)
