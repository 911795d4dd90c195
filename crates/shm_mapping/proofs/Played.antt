-- The definitions compute the worked examples.
use Rattle.std.proofs.Common.{refl}
use Rattle.shm_model.specs.Book.{awaited}
use Rattle.shm_model.specs.Site.{blank, is_attached, least_free}
use Rattle.shm_mapping.specs.Example.{PlaysSo, held_clear, held_clear_answers, held_clear_own, held_clear_plain, held_hand, held_hand_answers, held_hand_own, held_hand_plain}

pub hand-played : PlaysSo held_hand held_hand_answers held_hand_plain held_hand_own
unfolding blank awaited least_free is_attached
hand-played = (refl, refl, refl)

pub clear-played : PlaysSo held_clear held_clear_answers held_clear_plain held_clear_own
unfolding blank awaited least_free is_attached
clear-played = (refl, refl, refl)
