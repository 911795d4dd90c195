-- A key of the code, as the definitions speak of it: its block.
use Rattle.std.specs.Prelude.{ℕ, List}
use Rattle.shm_seal.specs.declared.key.Key.{Key}

abbrev pub key_of : Key → List ℕ
key_of key = key.block
