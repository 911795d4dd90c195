-- The plain words are taken, and ask for a replay.
use Rattle.std.proofs.Common.{[], ◌∷◌, codes, refl}
use Rattle.clap.specs.Words.{Text}
use Rattle.clap.proofs.OnLiterals.{clap_on_literals}
use Rattle.shm_command.specs.Status.{Asks}

pub plain_words : (name : Text) → Asks (codes "replay") (name ∷ codes "replay" ∷ [])
unfolding clap_on_literals
plain_words name = (refl, refl)
