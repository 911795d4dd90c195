-- The definitions compute each line.
use Rattle.std.proofs.Common.{refl}
use Rattle.shm_model.specs.Book.{awaited}
use Rattle.shm_model.specs.Site.{blank, is_attached, least_free}
use Rattle.shm_model.specs.World.{New, Preset}
use Rattle.shm_laws.specs.Rows.Script.{Plays}
use Rattle.shm_laws.specs.Rows.Removal

pub removal : Plays (New 2) Removal.removal
unfolding Plays blank awaited least_free is_attached
removal = refl

pub marked_segment : Plays (New 1) Removal.marked_segment
unfolding Plays blank awaited least_free is_attached
marked_segment = refl

pub purge_and_stale_page : Plays (Preset 2 1) Removal.purge_and_stale_page
unfolding Plays blank awaited least_free is_attached
purge_and_stale_page = refl

pub purge_resent : Plays (Preset 1 1) Removal.purge_resent
unfolding Plays blank awaited least_free is_attached
purge_resent = refl

pub purge_of_one_segment : Plays (New 2) Removal.purge_of_one_segment
unfolding Plays blank awaited least_free is_attached
purge_of_one_segment = refl

pub books_after_a_purge : Plays (New 2) Removal.books_after_a_purge
unfolding Plays blank awaited least_free is_attached
books_after_a_purge = refl
