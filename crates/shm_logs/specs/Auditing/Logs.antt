-- The logs of running sites, as the definitions speak of them, and when they are those of one set of sites.
use Rattle.std.specs.Prelude.{◌≡◌, ℕ, ◌<◌, ◌≤◌, List, length, map, slice_index_or}
use Rattle.std.specs.List.{AllPairs, sum_by}
use Rattle.shm_model.specs.Log.{Logged, log_of, sent_by}
use Rattle.shm_model.specs.Basics.{max_sent}
use Rattle.shm_logs.specs.Boxes.SiteLog.{steps_of}
use Rattle.shm_logs.specs.declared.site_boxes.site_log.SiteLog.{SiteLog}

abbrev pub logs_of : {A : Type 0} → List (SiteLog A) → List (List Logged)
logs_of logs = map steps_of logs

-- the log of this site, among so many sites, where segment 0 began with so many pages
pub record IsLogOf {A : Type 0} (sites pages site : ℕ) (log : SiteLog A) : Type 0 where
  pub among : log.sites ≡ sites
  pub opened : log.pages ≡ pages
  pub own : log.me ≡ site

-- one log for each site, in the order of the sites, and together no more envelopes than the network has numbers for
pub record AreLogsOf {A : Type 0} (sites pages : ℕ) (logs : List (SiteLog A)) : Type 0 where
  pub count : length logs ≡ sites
  pub places : (s : ℕ) (default : SiteLog A) → s < sites → IsLogOf sites pages s (slice_index_or logs s default)
  pub numbers : sum_by sent_by (logs_of logs) ≤ max_sent

-- each step has a stamp above those of its site's steps before it
abbrev pub StampsRise : List Logged → Type 0
StampsRise log = AllPairs (λ l m. l.stamp < m.stamp) log

abbrev pub LogsRise : List (List Logged) → Type 0
LogsRise logs = (s : ℕ) → StampsRise (log_of logs s)
