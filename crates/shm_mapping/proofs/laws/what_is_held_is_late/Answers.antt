use Rattle.shm_mapping.proofs.Played.{clear-played, hand-played}
use Rattle.shm_mapping.proofs.laws.what_is_held_is_late.Goals as goal

pub returns-clause-hand : goal.returns-clause-hand
returns-clause-hand c = hand-played

pub returns-clause-clear : goal.returns-clause-clear
returns-clause-clear c = clear-played
