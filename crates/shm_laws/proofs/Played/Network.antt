-- The definitions compute each line.
use Rattle.std.proofs.Common.{refl}
use Rattle.shm_model.specs.Book.{awaited}
use Rattle.shm_model.specs.Site.{blank, is_attached, least_free}
use Rattle.shm_model.specs.World.{Preset}
use Rattle.shm_laws.specs.Rows.Script.{Plays}
use Rattle.shm_laws.specs.Rows.Network

pub repeated_page : Plays (Preset 2 1) Network.repeated_page
unfolding Plays blank awaited least_free is_attached
repeated_page = refl

pub stale_page_after_clear : Plays (Preset 2 1) Network.stale_page_after_clear
unfolding Plays blank awaited least_free is_attached
stale_page_after_clear = refl

pub lost_page : Plays (Preset 2 1) Network.lost_page
unfolding Plays blank awaited least_free is_attached
lost_page = refl

pub repeated_ask : Plays (Preset 2 1) Network.repeated_ask
unfolding Plays blank awaited least_free is_attached
repeated_ask = refl

pub repeated_hand : Plays (Preset 2 1) Network.repeated_hand
unfolding Plays blank awaited least_free is_attached
repeated_hand = refl

pub requester_restarts : Plays (Preset 2 1) Network.requester_restarts
unfolding Plays blank awaited least_free is_attached
requester_restarts = refl

pub manager_restarts_while_clearing : Plays (Preset 3 1) Network.manager_restarts_while_clearing
unfolding Plays blank awaited least_free is_attached
manager_restarts_while_clearing = refl

pub readers_restart : Plays (Preset 2 1) Network.readers_restart
unfolding Plays blank awaited least_free is_attached
readers_restart = refl

pub owner_is_handed_to_read : Plays (Preset 2 1) Network.owner_is_handed_to_read
unfolding Plays blank awaited least_free is_attached
owner_is_handed_to_read = refl

pub sixteen_wait : Plays (Preset 3 1) Network.sixteen_wait
unfolding Plays blank awaited least_free is_attached
sixteen_wait = refl

pub late_ask : Plays (Preset 3 1) Network.late_ask
unfolding Plays blank awaited least_free is_attached
late_ask = refl
