-- What a handle owns: nothing where it is empty, else a block with a value in it, and the right to free that block.
use Rattle.std.specs.Prelude.{Option, None, Some}
use base.Fml.{Fml, feq}
use denote.RattleType.{RattleType}
use denote.RawPtr.{Ptr, null_ptr}
use Rattle.std.specs.Box.Ownership.{box_owns}
use Rattle.std.specs.Coded.{Coded, coded_option}
use Rattle.std.specs.declared.alloc.Global.{Global}
use Rattle.std.specs.contracts.alloc.Global as heap
use Rattle.std.specs.contracts.impls.GlobalAllocator.TheImpl.{ghosts}
use Rattle.shm_model.specs.World as model
use Rattle.shm_world.specs.World.{StandsFor}
use Rattle.shm_world.specs.declared.world.World.{World}
use Rattle.shm_world.specs.contracts.world.World as world

-- the one value of its type
abbrev pub the_heap : Global
the_heap = record { memory = record { seal = tt } }

-- the pointer is null where there is no value
abbrev pub held : (R : RattleType) → Ptr → Option R.Denot → Fml
held R p None = feq Ptr p null_ptr
held R p (Some x) = box_owns (ghosts.dealloc_token the_heap) R p x

abbrev pub world_row : RattleType
world_row = world.the_row heap.the_row ghosts

abbrev pub world_code : Coded (Option (World Global))
world_code = coded_option world_row.coded

abbrev pub held_world : Ptr → Option (World Global) → Fml
held_world p world = held world_row p world

-- there is a world, and it stands for this one of the definitions
abbrev pub Holds : Option (World Global) → model.World → Type 0
Holds None w = ⊥
Holds (Some world) w = StandsFor world w
