-- A class of users, as the definitions speak of it: its three bits of a mode, in the last places.
use Rattle.std.specs.Prelude.{ℕ, ◌/◌}
use Rattle.shm_keys.specs.declared.permission.Class.{Class}
use Rattle.shm_keys.specs.declared.permission.Class.TheVariants.{Owner, Group, Others}

abbrev pub bits_of : Class → ℕ → ℕ
bits_of Owner mode = mode / 64
bits_of Group mode = mode / 8
bits_of Others mode = mode
