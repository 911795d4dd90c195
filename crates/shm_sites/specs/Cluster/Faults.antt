-- The refusals of a cluster and its clients, by their numbers.
use Rattle.std.specs.Prelude.{ℕ, ◌==◌, if◌then◌else◌}
use Rattle.shm_model.specs.Refusal.{clock_end, gave_up, no_thread, out_of_memory}
use Rattle.shm_logs.specs.Boxes.Box.{Box, greatest_stamp}
use Rattle.shm_sites.specs.declared.cluster.client_error.ClientFault.{ClientFault}
use Rattle.shm_sites.specs.declared.cluster.client_error.ClientFault.TheVariants as client
use Rattle.shm_sites.specs.declared.cluster.start_error.StartFault.{StartFault}
use Rattle.shm_sites.specs.declared.cluster.start_error.StartFault.TheVariants as start

abbrev pub client_fault_number : ClientFault → ℕ
client_fault_number client.OutOfMemory = out_of_memory
client_fault_number client.GaveUp = gave_up
client_fault_number client.ClockEnd = clock_end

abbrev pub start_fault_number : StartFault → ℕ
start_fault_number start.OutOfMemory = out_of_memory
start_fault_number start.NoThread = no_thread

-- why this box took no access of a client of the site: it is another's, its clock ends, or memory was refused
abbrev pub no_access : ℕ → Box → ClientFault
no_access site b =
    if b.me == site then (if b.clock == greatest_stamp then client.ClockEnd else client.OutOfMemory)
    else client.GaveUp
