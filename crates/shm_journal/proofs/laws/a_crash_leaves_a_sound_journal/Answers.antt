use Rattle.shm_journal.proofs.Leaving.{leaves_new_sound, leaves_sound, leaves_sound_from}
use Rattle.shm_journal.proofs.laws.a_crash_leaves_a_sound_journal.Goals as goal

pub returns : goal.returns
returns c = record { begun = leaves_new_sound; goes_on = leaves_sound; goes_on_from = leaves_sound_from }
