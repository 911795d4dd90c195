-- A workload that was read up to the limit is the whole one.
use Rattle.std.proofs.Common.{◌≡◌, ◌∙◌, ◌⊎◌, Err, ap, subst, sym}
use Rattle.shm_lines.specs.Workload.{workload_of}
use Rattle.shm_lines.specs.declared.workload_error.WorkloadFault.TheVariants.{OutOfMemory}
use Rattle.shm_report.proofs.Causes.{input_told}
use Rattle.shm_report.proofs.InRange.{all_inside}
use Rattle.shm_report.proofs.WholeInput.{whole_input}
use Rattle.shm_report.proofs.report_workload.read_workload.Goals as goal

pub returns-in-Ok-parse_workload-clause-read : goal.returns-in-Ok-parse_workload-clause-read
returns-in-Ok-parse_workload-clause-read g c =
    whole_input c.args.sites (g.I.Read.remaining c.args.reader.now) c.in-Ok.bytes.items
    (record { size = c.in-Ok-parse_workload.workload.pages; accesses = c.in-Ok-parse_workload.workload.accesses.items })
    c.in-Ok.ensures.front (ap (workload_of c.args.sites) (sym c.as_slice.ensures.value) ∙ c.in-Ok-parse_workload.ensures.ok)

pub returns-clause-input : goal.returns-clause-input
returns-clause-input g c =
    let fault = c.in-Err-parse_workload.fault in
    input_told c.args.sites (g.I.Read.remaining c.args.reader.now) c.in-Ok.bytes.items fault c.of_workload.result c.in-Ok.ensures.front
    c.of_workload.ensures.memory c.of_workload.ensures.cause
    (subst (λ bytes. (fault ≡ OutOfMemory) ⊎ (workload_of c.args.sites bytes ≡ Err fault)) c.as_slice.ensures.value c.in-Err-parse_workload.ensures.err)

pub returns-in-Ok-parse_workload-clause-among : goal.returns-in-Ok-parse_workload-clause-among
returns-in-Ok-parse_workload-clause-among g c =
    all_inside c.args.sites c.as_slice.result.now
    (record { size = c.in-Ok-parse_workload.workload.pages; accesses = c.in-Ok-parse_workload.workload.accesses.items }) c.in-Ok-parse_workload.ensures.ok
