-- The stores of a block among the steps of a site's process.
use Rattle.std.specs.Prelude.{◌≡◌, ℕ, ◌+◌, List, [], ◌∷◌, ◌++◌, Option, Some}
use Rattle.shm_model.specs.declared.answer.Answer.TheVariants.{Stored}
use Rattle.shm_model.specs.declared.asked_access.Asked.TheVariants.{Store}
use Rattle.shm_wire.specs.Line as stream
use Rattle.shm_wire.specs.Writes.{WriteAsk}
use Rattle.shm_process.specs.Access.{access_ask}
use Rattle.shm_process.specs.Cause.{OfLine}
use Rattle.shm_process.specs.Node.{Node}
use Rattle.shm_process.specs.Recorded.{Event}
use Rattle.shm_process.specs.Writes.{Write}
use Rattle.shm_audit.specs.Loads.{Made, MadeSince}

-- the stores of these bytes by a caller of this site: under one tag, through one attachment, one after another from an offset on
abbrev pub stores : ℕ → List ℕ → ℕ → ℕ → List ℕ → List Made
stores me tag at offset [] = []
stores me tag at offset (byte ∷ bytes) =
    record { cause = OfLine (stream.Ask (access_ask me tag (Store at offset byte))); answer = Stored } ∷ stores me tag at (offset + 1) bytes

-- what a caller of this site asked for
abbrev pub asked_write : ℕ → Write → WriteAsk
asked_write me write = record { site = me; tag = write.tag; at = write.at; offset = write.offset; bytes = write.bytes }

-- A block that is stored, told of this step after these events: a caller of this site asked, under the tag that is told, for these bytes to
-- be stored. Since then each was stored at its own place, one after another, the last by this step.
pub record IsStoredBlock (me : ℕ) (first : Node) (events : List Event) (told : Option (List ℕ)) (step : Made) (write : Write) : Type 0 where
  pub others : List Made
  pub is_told : told ≡ Some write.tag
  pub stored : stores me write.tag write.at write.offset write.bytes ≡ others ++ step ∷ []
  pub since : MadeSince first events (stream.Write (asked_write me write)) others
