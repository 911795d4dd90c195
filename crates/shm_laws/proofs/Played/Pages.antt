-- The definitions compute each line.
use Rattle.std.proofs.Common.{refl}
use Rattle.shm_model.specs.Book.{awaited}
use Rattle.shm_model.specs.Site.{blank, is_attached, least_free}
use Rattle.shm_model.specs.World.{Preset}
use Rattle.shm_laws.specs.Rows.Script.{Plays}
use Rattle.shm_laws.specs.Rows.Pages

pub smallest_world : Plays (Preset 1 1) Pages.smallest_world
unfolding Plays blank awaited least_free is_attached
smallest_world = refl

pub first_read_fault : Plays (Preset 2 1) Pages.first_read_fault
unfolding Plays blank awaited least_free is_attached
first_read_fault = refl

pub reader_becomes_writer : Plays (Preset 2 1) Pages.reader_becomes_writer
unfolding Plays blank awaited least_free is_attached
reader_becomes_writer = refl

pub queued_reads_then_two_clears : Plays (Preset 4 1) Pages.queued_reads_then_two_clears
unfolding Plays blank awaited least_free is_attached
queued_reads_then_two_clears = refl

pub owner_upgrades : Plays (Preset 3 1) Pages.owner_upgrades
unfolding Plays blank awaited least_free is_attached
owner_upgrades = refl

pub pages_at_managers : Plays (Preset 2 2) Pages.pages_at_managers
unfolding Plays blank awaited least_free is_attached
pages_at_managers = refl

pub page_boundaries : Plays (Preset 2 2) Pages.page_boundaries
unfolding Plays blank awaited least_free is_attached
page_boundaries = refl

pub order_of_refusals : Plays (Preset 2 1) Pages.order_of_refusals
unfolding Plays blank awaited least_free is_attached
order_of_refusals = refl

pub order_of_asks : Plays (Preset 3 4) Pages.order_of_asks
unfolding Plays blank awaited least_free is_attached
order_of_asks = refl

pub order_of_a_tick : Plays (Preset 2 5) Pages.order_of_a_tick
unfolding Plays blank awaited least_free is_attached
order_of_a_tick = refl
