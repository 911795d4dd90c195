-- The definitions compute each line.
use Rattle.std.proofs.Common.{refl}
use Rattle.shm_model.specs.Book.{awaited}
use Rattle.shm_model.specs.Site.{blank, is_attached, least_free}
use Rattle.shm_model.specs.World.{New, Preset}
use Rattle.shm_laws.specs.Rows.Script.{Plays}
use Rattle.shm_laws.specs.Rows.Segments

pub segment_calls : Plays (New 1) Segments.segment_calls
unfolding Plays blank awaited least_free is_attached
segment_calls = refl

pub get_by_key : Plays (New 1) Segments.get_by_key
unfolding Plays blank awaited least_free is_attached
get_by_key = refl

pub one_class_counts : Plays (New 1) Segments.one_class_counts
unfolding Plays blank awaited least_free is_attached
one_class_counts = refl

pub home_restarts : Plays (New 2) Segments.home_restarts
unfolding Plays blank awaited least_free is_attached
home_restarts = refl

pub unknown_identifiers : Plays (Preset 3 1) Segments.unknown_identifiers
unfolding Plays blank awaited least_free is_attached
unknown_identifiers = refl
