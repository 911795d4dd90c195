use Rattle.std.proofs.Common.{rules, ◌≡◌, ◌∷◌}
use Rattle.std.proofs.lemmas.Result.{IfOk-weaker}
use Rattle.std.specs.Prelude.{Ok}
use Rattle.shm_lines.specs.Workload.{parts_of, preset_of, read_line}
use Rattle.shm_lines.proofs.Lines.{first_passes}
use Rattle.shm_lines.proofs.workload.parse_workload.Goals as goal

pub returns-in-Ok-clause-ok : goal.returns-in-Ok-clause-ok
returns-in-Ok-clause-ok g c =
    let cut : parts_of c.args.bytes.now ≡ c.split_at.result.0.now ∷ parts_of c.in-Some.rest.now = search rules in
    let read : Ok c.in-Ok.size ≡ read_line preset_of 1 c.split_at.result.0.now = search rules in
    IfOk-weaker c.further_lines.result _ _ (λ workload h. first_passes c.args.sites c.in-Ok.size c.args.bytes.now c.split_at.result.0.now c.in-Some.rest.now _ cut read h) c.further_lines.ensures.ok
