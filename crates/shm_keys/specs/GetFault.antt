-- The refusals of a `get`, by their numbers.
use Rattle.std.specs.Prelude.{ℕ}
use Rattle.shm_model.specs.Refusal.{errno_number, out_of_memory}
use Rattle.shm_keys.specs.declared.shmget.GetFault.{GetFault}
use Rattle.shm_keys.specs.declared.shmget.GetFault.TheVariants.{OutOfMemory, Refused}

abbrev pub get_fault_number : GetFault → ℕ
get_fault_number (Refused errno) = errno_number errno
get_fault_number OutOfMemory = out_of_memory
