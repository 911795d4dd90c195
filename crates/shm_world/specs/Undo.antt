-- What is kept of a world before an event, so that the event can be taken back.
use Rattle.std.specs.Prelude.{◌≡◌, ℕ, ◌<◌, ◌≤◌, ◌||◌, Bool, false, true, List, Option, Some, None, IfSome, is_some, length, slice_get, slice_set}
use Rattle.shm_model.specs.Basics.{at}
use Rattle.shm_model.specs.Entry as entry
use Rattle.shm_model.specs.declared.event.Event.{Event}
use Rattle.shm_model.specs.declared.event.Event.TheVariants as event
use Rattle.shm_model.specs.Message as message
use Rattle.shm_model.specs.Site as model
use Rattle.shm_model.specs.World.{World, live}
use Rattle.shm_parts.specs.Message.{envelope_of}
use Rattle.shm_parts.specs.declared.message.Envelope.{Envelope}
use Rattle.shm_site.specs.Site.{site_of}
use Rattle.shm_site.specs.declared.site.Site.{Site}
use Rattle.shm_world.specs.declared.undo_record.Undo.{Undo}
use Rattle.shm_world.specs.declared.world.World.{World as Running}

abbrev pub kept_site : {A : Type 0} → Option (ℕ × Site A) → Option model.Site
kept_site None = None
kept_site (Some kept) = Some (site_of kept.1)

-- the sites, with the one that was kept as it was
abbrev pub with_site : {A : Type 0} → Option (ℕ × Site A) → List model.Site → List model.Site
with_site None sites = sites
with_site (Some kept) sites = slice_set sites kept.0 (site_of kept.1)

-- what is on its way, with the envelope that was taken off it
abbrev pub with_envelope : {A : Type 0} → Option (ℕ × Envelope A) → (ℕ → Option message.Envelope) → ℕ → Option message.Envelope
with_envelope None on_way k = on_way k
with_envelope (Some taken) on_way k = at on_way taken.0 (Some (envelope_of taken.1)) k

-- the kept site is one of so many, and is kept beside its own number
abbrev pub Fits : {A : Type 0} → ℕ → Option (ℕ × Site A) → Type 0
Fits count site = IfSome site (λ kept. (kept.0 < count) × (kept.1.sites ≡ count) × (kept.1.me ≡ kept.0))

-- it leads from the one world, after an event, back to the other, before it
pub record LeadsBack {A : Type 0} (undo : Undo A) (after before : World) : Type 0 where
  pub count : before.count ≡ after.count
  pub sites : before.sites ≡ with_site undo.site after.sites
  pub fits : Fits before.count undo.site
  pub sent : undo.sent ≡ length before.sent
  pub live : (k : ℕ) → k < undo.sent → live before k ≡ with_envelope undo.taken (live after) k
  pub taken : IfSome undo.taken (λ taken. taken.0 < undo.sent)
  pub unsent : (k : ℕ) → length before.sent ≤ k → before.gone k ≡ false

-- how many more envelopes have room
abbrev pub room_in : {A : Type 0} → Running A → ℕ
room_in world = world.network.envelopes.spare

-- ---- what may need memory

abbrev pub has_site : World → ℕ → Bool
has_site w s = is_some (slice_get w.sites s)

-- there is an envelope, and a site that it goes to
abbrev pub has_receiver : World → Option message.Envelope → Bool
has_receiver w None = false
has_receiver w (Some e) = has_site w e.to

abbrev pub is_page : entry.Note → Bool
is_page (entry.Page _ _ _) = true
is_page _ = false

-- the message has a page's bytes
abbrev pub has_page : message.Message → Bool
has_page (message.Of _ note) = is_page note
has_page _ = false

-- there is an envelope, and it has a page's bytes
abbrev pub brings_page : Option message.Envelope → Bool
brings_page None = false
brings_page (Some e) = has_page e.message

-- Whether memory may be missing for what is kept of an event: for a copy of the site that it steps, if there is one, or of a page's bytes
-- that go off their way; never for a tick.
abbrev pub undo_may_grow : World → Event → Bool
undo_may_grow w (event.Load s _ _) = has_site w s
undo_may_grow w (event.Store s _ _ _) = has_site w s
undo_may_grow w (event.Begin s _) = has_site w s
undo_may_grow w (event.Tick _) = false
undo_may_grow w (event.Restart s) = has_site w s
undo_may_grow w (event.Deliver k) = has_receiver w (live w k) || brings_page (live w k)
undo_may_grow w (event.Repeat k) = has_receiver w (live w k)
undo_may_grow w (event.Lose k) = brings_page (live w k)
