-- What is kept of the last events, so that they can be taken back one by one.
use Rattle.std.specs.Prelude.{⊤, List, [], ◌∷◌, reverse}
use Rattle.shm_world.specs.Undo.{LeadsBack}
use Rattle.shm_world.specs.declared.undo_record.Undo.{Undo}
use Rattle.shm_debug.specs.Standing.{Standing, without_last, world_of}
use Rattle.shm_debug.specs.declared.undos.Undos.{Undos}

-- of the newest first: each leads back over one event more
abbrev pub LeadBack : {A : Type 0} → Standing → List (Undo A) → Type 0
LeadBack s [] = ⊤
LeadBack s (undo ∷ older) = LeadsBack undo (world_of s) (world_of (without_last s 1)) × LeadBack (without_last s 1) older

abbrev pub AllLeadBack : {A : Type 0} → Standing → Undos A → Type 0
AllLeadBack s undos = LeadBack s (reverse undos.ring.items)
