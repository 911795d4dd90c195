-- The sites of a world, as the definitions speak of them; and what a step of one of them makes of all.
use Rattle.std.specs.Prelude.{◌≡◌, ℕ, List, Option, Some, None, map, slice_set}
use Rattle.shm_model.specs.declared.answer.Answer.{Answer}
use Rattle.shm_model.specs.Site.{Step}
use Rattle.shm_model.specs.Site as model
use Rattle.shm_parts.specs.declared.message.Envelope.{Envelope}
use Rattle.shm_site.specs.Site.{Told, site_of}
use Rattle.shm_site.specs.declared.site.Site.{Site}
use Rattle.shm_world.specs.declared.members.Members.{Members}

abbrev pub members_of : {A : Type 0} → Members A → List model.Site
members_of members = map site_of members.sites.items

abbrev pub seen_by : {A : Type 0} → Option (Site A) → Option model.Site
seen_by None = None
seen_by (Some site) = Some (site_of site)

-- site s made this step: the others are as before, and what it sends was posted
pub record Made {A O : Type 0} (posted : O → O → List (Envelope A) → Type 0) (old new : Members A) (s : ℕ) (before after : O)
    (answer : Answer) (step : Step) : Type 0 where
  pub sites : members_of new ≡ slice_set (members_of old) s step.site
  pub sent : Told posted before after step.sent
  pub answered : answer ≡ step.answer
