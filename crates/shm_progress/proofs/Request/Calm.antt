-- Events without accesses ask for nothing new, and hand over only what is on its way.
use Rattle.std.proofs.Common.{◌≡◌, ℕ, Bool, true, false, ◌==◌, Option, Some, None, slice_get, refl, ◌∙◌, ap, sym}
use Rattle.std.proofs.lemmas.Bool.{cond_both}
use Rattle.shm_place.specs.declared.page_id.PageId.{PageId}
use Rattle.shm_model.specs.declared.event.Event.{Event}
use Rattle.shm_model.specs.declared.event.Event.TheVariants.{Load as LoadEvent, Store as StoreEvent, Begin as BeginEvent, Tick as TickEvent, Restart as RestartEvent, Deliver as DeliverEvent, Repeat, Lose}
use Rattle.shm_model.specs.Entry.{Entry, Note, Ask, Clear, Cleared, Hand, Page, Confirm, Out, on_clear, on_hand, on_page, readable, writable}
use Rattle.shm_model.specs.Book.{Outcome, Ignored, UsedUp, Taken, on_ask, on_cleared, on_confirm}
use Rattle.shm_model.specs.Message.{Envelope, Input, Load, Store, Begin, Deliver, Tick, Restart, Message, Of, Call, Replies, Purge, Purged}
use Rattle.shm_model.specs.Basics.{at_page}
use Rattle.shm_model.specs.Site.{Site, is_attached, Step}
use Rattle.shm_model.specs.Transfer.{arranged, is_nothing, on_note, settle, to_book, to_entry}
use Rattle.shm_model.specs.Step.{foreign, on_message, step}
use Rattle.shm_model.specs.World.{Next, World, deliver, hand_over, is_full, live, lose, next, step_site, stepped, without}
use Rattle.shm_laws.proofs.Move.Calls.{begin-quiet, call-quiet, purged-quiet, reply-quiet}
use Rattle.shm_progress.specs.Rounds.{is_access}
use Rattle.shm_progress.proofs.Request.Asking.{limited-requests}

-- no access of the site
abbrev pub IsAside : Input → Type 0
IsAside (Load a offset) = ⊥
IsAside (Store a offset byte) = ⊥
IsAside _ = Unit {0}

module _ (sites s : ℕ) (x : Site) where
  abbrev Same : Step → Type 0
  Same st = st.site.requests ≡ x.requests

  entry-same : (page : PageId) (row : Entry × Out) → Same (to_entry sites s page row x)
  entry-same page (e, out) =
      cond_both (is_nothing out) _ _ Same (λ h. refl)
      (λ h. limited-requests (arranged page (x.entries page) e x.frames)
      (record x { entries = at_page x.entries page e; frames = arranged page (x.entries page) e x.frames; pending = settle (readable e) (writable e) page x.pending }))

  book-same : (page : PageId) (outcome : Outcome) → Same (to_book s page outcome x)
  book-same page Ignored = refl
  book-same page UsedUp = refl
  book-same page (Taken b os) = refl

  note-same : (from : ℕ) (page : PageId) (note : Note) → Same (on_note sites s from page note x)
  note-same from page (Ask r kind) = book-same page (on_ask from r kind (x.books page))
  note-same from page (Clear n) = entry-same page (on_clear n (x.entries page))
  note-same from page (Cleared n) = book-same page (on_cleared from n (x.books page))
  note-same from page (Hand n kind to) = entry-same page (on_hand s n kind to (x.entries page))
  note-same from page (Page n kind b) = entry-same page (on_page n kind b (x.entries page))
  note-same from page (Confirm n) = book-same page (on_confirm from n (x.books page))

  message-same : (from : ℕ) (m : Message) → Same (on_message sites s from m x)
  message-same from (Of page note) = cond_both (x.purged page.seg) _ _ Same (λ e. refl) (λ e. note-same from page note)
  message-same from (Call number op) = (call-quiet sites s from number op x).requests
  message-same from (Replies number reply) = (reply-quiet number reply x).requests
  message-same from (Purge id) = cond_both (is_attached x id) _ _ Same (λ e. refl) (λ e. refl)
  message-same from (Purged id) = (purged-quiet from id x).requests

  pub requests-same : (input : Input) → IsAside input → Same (step sites s x input)
  requests-same (Load a offset) aside = absurd aside
  requests-same (Store a offset byte) aside = absurd aside
  requests-same (Begin request) aside = (begin-quiet sites s request x).requests
  requests-same (Deliver e) aside = cond_both (foreign sites s e) _ _ Same (λ h. refl) (λ h. message-same e.from e.message)
  requests-same Tick aside = refl
  requests-same Restart aside = refl

-- an envelope that a site is handed was on its way
abbrev pub IsHanded : World → ℕ → Input → Type 0
IsHanded w s input = (e : Envelope) → input ≡ Deliver e → (e.to ≡ s) × ((j : ℕ) × (live w j ≡ Some e))

-- what is gone stays so
abbrev pub StaysGone : World → (ℕ → Bool) → Type 0
StaysGone w gone = (j : ℕ) → gone j ≡ false → w.gone j ≡ false

-- an event without an access leaves the sites and what was sent, or steps a site
pub data Calm (w : World) : World → Type 0 where
  rests : (gone : ℕ → Bool) → StaysGone w gone → Calm w (record w { gone = gone })
  goes : (gone : ℕ → Bool) (s : ℕ) (x : Site) (input : Input) → StaysGone w gone → slice_get w.sites s ≡ Some x → IsAside input → IsHanded w s input
      → Calm w (stepped (record w { gone = gone }) s input (step w.count s x input)).world

gone-still : (w : World) (k : ℕ) → StaysGone w (without w k).gone
gone-still w k j h = cond_both (k == j) true (w.gone j) (λ b. b ≡ false → w.gone j ≡ false) (λ e g. cc) (λ e g. g) h

module _ (w : World) where
  site-calm : (gone : ℕ → Bool) → StaysGone w gone → (found : Option Site) (s : ℕ) (input : Input) → slice_get w.sites s ≡ found → IsAside input → IsHanded w s input
      → Calm w (step_site found (record w { gone = gone }) s input).world
  site-calm gone stays None s input h aside handed = rests gone stays
  site-calm gone stays (Some x) s input h aside handed =
      cond_both (is_full (record w { gone = gone })) _ _ (λ (n : Next). Calm w n.world) (λ e. rests gone stays) (λ e. goes gone s x input stays h aside handed)

  handed-one : (k : ℕ) (e : Envelope) → live w k ≡ Some e → IsHanded w e.to (Deliver e)
  handed-one k e h f is = (ap (λ (g : Envelope). g.to) (sym (same-of e f is)), (k, h ∙ ap Some (same-of e f is)))
    where
      same-of : (e f : Envelope) → Deliver e ≡ Deliver f → e ≡ f
      same-of e f is = cc

  deliver-calm : (k : ℕ) (found : Option Envelope) → live w k ≡ found → Calm w (deliver found w k).world
  deliver-calm k None h = rests w.gone (λ j g. g)
  deliver-calm k (Some e) h = site-calm (without w k).gone (gone-still w k) (slice_get w.sites e.to) e.to (Deliver e) refl tt (handed-one k e h)

  repeat-calm : (k : ℕ) (found : Option Envelope) → live w k ≡ found → Calm w (hand_over found w).world
  repeat-calm k None h = rests w.gone (λ j g. g)
  repeat-calm k (Some e) h = site-calm w.gone (λ j g. g) (slice_get w.sites e.to) e.to (Deliver e) refl tt (handed-one k e h)

  lose-calm : (k : ℕ) (found : Option Envelope) → Calm w (lose found w k).world
  lose-calm k None = rests w.gone (λ j g. g)
  lose-calm k (Some e) = rests (without w k).gone (gone-still w k)

  pub calm : (v : Event) → is_access v ≡ false → Calm w (next w v).world
  calm (LoadEvent s a offset) none = cc
  calm (StoreEvent s a offset byte) none = cc
  calm (BeginEvent s request) none = site-calm w.gone (λ j g. g) (slice_get w.sites s) s (Begin request) refl tt (λ e is. cc)
  calm (TickEvent s) none = site-calm w.gone (λ j g. g) (slice_get w.sites s) s Tick refl tt (λ e is. cc)
  calm (RestartEvent s) none = site-calm w.gone (λ j g. g) (slice_get w.sites s) s Restart refl tt (λ e is. cc)
  calm (DeliverEvent k) none = deliver-calm k (live w k) refl
  calm (Repeat k) none = repeat-calm k (live w k) refl
  calm (Lose k) none = lose-calm k (live w k)
