-- The number of each reason why a site begins no call.
use Rattle.std.specs.Prelude.{ℕ}
use Rattle.shm_model.specs.Refusal.{busy, numbers_used_up}
use Rattle.shm_attach.specs.declared.begin_call_error.BeginFault.{BeginFault}
use Rattle.shm_attach.specs.declared.begin_call_error.BeginFault.TheVariants.{Busy, UsedUp}

abbrev pub begin_fault_number : BeginFault → ℕ
begin_fault_number Busy = busy
begin_fault_number UsedUp = numbers_used_up
