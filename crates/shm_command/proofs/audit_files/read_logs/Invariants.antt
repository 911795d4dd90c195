use Rattle.std.proofs.Common.{◌≡◌, length, take}
use Rattle.std.specs.List.{AllZip}
use Rattle.shm_command.proofs.audit_files.read_logs.Given as goal

-- there is a log for each journal so far, to which it leads
abbrev pub invariant-journals : goal.invariant-journals
invariant-journals g l = (length l.logs.items ≡ l.at) × AllZip (λ name log. g.S.LogSource.leads l.source name.now log) (take l.at l.journals) l.logs.items
