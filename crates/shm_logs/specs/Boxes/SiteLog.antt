-- A site's log, as the definitions speak of it.
use Rattle.std.specs.Prelude.{◌≡◌, ◌<◌, ℕ, List, length, map, vec_capacity}
use Rattle.shm_model.specs.Log.{Logged, StepOutcome, inputs_of, moved_by}
use Rattle.shm_model.specs.Message.{Input}
use Rattle.shm_model.specs.Site.{Site}
use Rattle.shm_model.specs.Step.{step}
use Rattle.shm_model.specs.World.{Opening, Preset, opened_site}
use Rattle.shm_logs.specs.Boxes.Logged.{logged_of}
use Rattle.shm_logs.specs.declared.site_boxes.site_log.SiteLog.{SiteLog}

abbrev pub steps_of : {A : Type 0} → SiteLog A → List Logged
steps_of log = map logged_of log.steps.items

-- how the site began
abbrev pub opening_of : {A : Type 0} → SiteLog A → Opening
opening_of log = Preset log.sites log.pages

-- where these steps leave a site that began so
abbrev pub left_by : ℕ → ℕ → ℕ → List Logged → Site
left_by sites me pages steps = moved_by sites me (opened_site (Preset sites pages) me) (inputs_of steps)

-- where the log leaves its site
abbrev pub left_by_log : {A : Type 0} → SiteLog A → Site
left_by_log log = left_by log.sites log.me log.pages (steps_of log)

-- what its site tells of one more input
abbrev pub tells_next : {A : Type 0} → SiteLog A → Input → StepOutcome
tells_next log input =
    let done = step log.sites log.me (left_by_log log) input in
    record { answer = done.answer; sent = done.sent }

-- there is room for one more step
abbrev pub HasRoom : {A : Type 0} → SiteLog A → Type 0
HasRoom log = length log.steps.items < vec_capacity log.steps

abbrev pub SameOpening : {A : Type 0} → SiteLog A → SiteLog A → Type 0
SameOpening old new = (new.sites ≡ old.sites) × (new.me ≡ old.me) × (new.pages ≡ old.pages)
