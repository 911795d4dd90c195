-- What a machine does with an envelope for its site while a page is mapped, so that the site's step never leaves less access to the page
-- than what is mapped then. It goes by what the envelope says and how the page is mapped, and needn't know the site's entry.
use Rattle.std.specs.Prelude.{◌≡◌, ℕ, Bool, true, ◌&&◌, List, [], ◌∷◌, None, ◌==◌, if◌then◌else◌}
use Rattle.std.specs.List.{flat_map, list_all}
use Rattle.shm_place.specs.Page.{same_page}
use Rattle.shm_model.specs.declared.request_kind.Kind.{Kind}
use Rattle.shm_model.specs.declared.request_kind.Kind.TheVariants.{Read, Write}
use Rattle.shm_model.specs.Entry.{Note, Clear, Hand}
use Rattle.shm_model.specs.Message.{Deliver, Envelope, Message, Of}
use Rattle.shm_model.specs.Site.{Site, is_attached}
use Rattle.shm_model.specs.Step.{step}
use Rattle.shm_mapping.specs.Mapped.{Mapped, allows}
use Rattle.shm_mapping.specs.declared.envelope_verdict.Brought.{Brought}
use Rattle.shm_mapping.specs.declared.envelope_verdict.Brought.TheVariants as brings
use Rattle.shm_mapping.specs.declared.envelope_verdict.Verdict.{Verdict}
use Rattle.shm_mapping.specs.declared.envelope_verdict.Verdict.TheVariants.{Take, UnmapToRead, Unmap}

abbrev pub brought : ℕ → Note → Brought
brought me (Clear n) = brings.Clear
brought me (Hand n kind to) = if to == me then brings.Other else brings.Hand kind
brought me note = brings.Other

-- A copy may be cleared, and an owner ignores it; an owner lends and may read on; an owner hands the page over.
abbrev pub verdict : Brought → Kind → Verdict
verdict brings.Clear Read = Unmap
verdict (brings.Hand Read) Write = UnmapToRead
verdict (brings.Hand Write) kind = Unmap
verdict what kind = Take

-- a page that is mapped, as it is mapped after the verdict
abbrev pub left_by : Verdict → Mapped → List Mapped
left_by Take m = m ∷ []
left_by UnmapToRead m = record m { kind = Read } ∷ []
left_by Unmap m = []

-- only what an envelope says of a page itself can ask for its mapping
abbrev pub verdict_at : ℕ → Message → Mapped → Verdict
verdict_at me (Of page note) m = if same_page page m.page then verdict (brought me note) m.kind else Take
verdict_at me message m = Take

-- what is mapped once the envelope's verdict is carried out
abbrev pub obeyed : ℕ → Message → List Mapped → List Mapped
obeyed me message mapped = flat_map (λ m. left_by (verdict_at me message m) m) mapped

-- the site's access to a page is as great as what is mapped, and an attachment of it names the segment, so that no purge takes the page
abbrev pub may_map : Site → Mapped → Bool
may_map site m = is_attached site m.page.seg && allows m.kind (site.entries m.page)

-- A machine may map these pages. The site gives up no copies for want of frames.
pub record MayMap (site : Site) (mapped : List Mapped) : Type 0 where
  pub frames : site.frames ≡ None
  pub each : list_all (may_map site) mapped ≡ true

-- where the verdict on an envelope is carried out first, the machine may still map, after the site's step, what is mapped then
abbrev pub Keeps : ℕ → ℕ → Site → Envelope → List Mapped → Type 0
Keeps sites me site e mapped = MayMap site mapped → MayMap (step sites me site (Deliver e)).site (obeyed me e.message mapped)
