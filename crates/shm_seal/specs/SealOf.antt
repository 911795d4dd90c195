-- A seal of the code, as the definitions speak of it.
use Rattle.shm_seal.specs.KeyOf.{key_of}
use Rattle.shm_seal.specs.NameOf.{name_of}
use Rattle.shm_seal.specs.Seal as spec
use Rattle.shm_seal.specs.declared.seal.Seal.{Seal}
use Rattle.shm_seal.specs.declared.seal.Seal.TheVariants as code

abbrev pub seal_of : Seal → spec.Seal
seal_of code.Bare = spec.Bare
seal_of (code.Named name) = spec.Named (name_of name)
seal_of (code.Keyed name key) = spec.Keyed (name_of name) (key_of key)
