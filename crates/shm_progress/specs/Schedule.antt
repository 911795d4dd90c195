-- Schedules: events with what a network and restarts do to them, and then two rounds. This repository's own.
use Rattle.std.specs.Prelude.{◌≡◌, ℕ, Bool, true, false, ◌&&◌, ◌||◌, not, ◌==◌, List, ◌++◌, is_some, length, count_by, sum_by}
use Rattle.std.specs.List.{list_all, list_any, range_with_len}
use Rattle.shm_model.specs.declared.event.Event.{Event}
use Rattle.shm_model.specs.declared.event.Event.TheVariants.{Restart, Tick}
use Rattle.shm_model.specs.Site.{Site}
use Rattle.shm_model.specs.World.{Opening, World, run, sites_of}
use Rattle.shm_progress.specs.Deliveries.{on_their_way}
use Rattle.shm_progress.specs.OnTheWay.{is_loss}
use Rattle.shm_progress.specs.Rounds.{is_access}

pub record Schedule : Type 0 where
  pub opening : Opening
  pub faulty : List Event
  pub first : List Event
  pub second : List Event

-- What is unfinished in a world: envelopes on their way, requests that are pending, transactions that run, Asks that wait, calls that are
-- outstanding, and sites that haven't answered a purge.
pub record Unfinished : Type 0 where
  pub on_their_way : ℕ
  pub pending : ℕ
  pub running : ℕ
  pub waiting : ℕ
  pub calls : ℕ
  pub purges : ℕ

abbrev pub running_at : Site → ℕ
running_at x = count_by (λ page. is_some (x.books page).running) x.booked

abbrev pub waiting_at : Site → ℕ
waiting_at x = sum_by (λ page. length (x.books page).waiting) x.booked

abbrev pub purges_at : ℕ → Site → ℕ
purges_at sites x = sum_by (λ g. count_by (x.missing g.id) (range_with_len 0 sites)) x.table

abbrev pub unfinished : World → Unfinished
unfinished w = record {
  on_their_way = length (on_their_way w);
  pending = sum_by (λ x. length x.pending) w.sites;
  running = sum_by running_at w.sites;
  waiting = sum_by waiting_at w.sites;
  calls = count_by (λ x. is_some x.outstanding) w.sites;
  purges = sum_by (purges_at w.count) w.sites;
}

abbrev pub nothing : Unfinished
nothing = record { on_their_way = 0; pending = 0; running = 0; waiting = 0; calls = 0; purges = 0 }

abbrev pub is_restart : Event → Bool
is_restart (Restart _) = true
is_restart _ = false

abbrev pub is_tick_of : ℕ → Event → Bool
is_tick_of site (Tick s) = s == site
is_tick_of site _ = false

-- these events lose nothing and restart no site, and each site ticks among them
abbrev pub is_fair : ℕ → List Event → Bool
is_fair sites events = list_all (λ e. not (is_loss e || is_restart e)) events && list_all (λ site. list_any (is_tick_of site) events) (range_with_len 0 sites)

pub record Outcome : Type 0 where
  pub before : Unfinished
  pub between : Unfinished
  pub after : Unfinished
  pub is_fair_first : Bool
  pub is_fair_second : Bool
  pub is_calm : Bool

abbrev pub outcome : Schedule → Outcome
outcome s = record {
  before = unfinished (run s.opening s.faulty).world;
  between = unfinished (run s.opening (s.faulty ++ s.first)).world;
  after = unfinished (run s.opening ((s.faulty ++ s.first) ++ s.second)).world;
  is_fair_first = is_fair (sites_of s.opening) s.first;
  is_fair_second = is_fair (sites_of s.opening) s.second;
  is_calm = list_all (λ e. not (is_access e)) s.second;
}

-- So much is unfinished before the rounds and so much between them; both are fair, the second has no access, and it leaves nothing unfinished.
unfoldable pub Goes : Schedule → Unfinished → Unfinished → Type 0
Goes s before between = outcome s ≡ record { before = before; between = between; after = nothing; is_fair_first = true; is_fair_second = true; is_calm = true }
