use Rattle.std.proofs.Common.{rules, ◌≡◌, [], ◌∷◌, ◌+◌, ◌++◌, ◌∙◌, ap₂, inr, length}
use Rattle.std.specs.Prelude.{Ok, Err}
use Rattle.shm_lines.specs.Workload.{parts_of, prefixed, read_line, access_of, accesses_on}
use Rattle.shm_lines.proofs.Lines.{line_fails, line_passes}
use Rattle.shm_lines.proofs.workload.further_lines.Goals as goal

pub returns-in-Err-clause-err : goal.returns-in-Err-clause-err
returns-in-Err-clause-err g c =
    let n = length c.lines.accesses.items + 2 in
    let cut : parts_of c.lines.rest.now ≡ c.split_at.result.0.now ∷ parts_of c.in-Some.others.now = search rules in
    let read : Err c.in-Err.fault ≡ read_line (access_of c.args.sites c.args.size) n c.split_at.result.0.now = search rules in
    inr (c.lines.invariant ∙ line_fails c.args.sites c.args.size n c.lines.accesses.items c.lines.rest.now c.split_at.result.0.now c.in-Some.others.now c.in-Err.fault cut read)

pub lines-preserved : goal.lines-preserved
lines-preserved g c =
    let n = length c.lines.accesses.items + 2 in
    let cut : parts_of c.lines.rest.now ≡ c.split_at.result.0.now ∷ parts_of c.in-Some.others.now = search rules in
    let read : Ok c.in-Ok.access ≡ read_line (access_of c.args.sites c.args.size) n c.split_at.result.0.now = search rules in
    let pushed : c.lines.accesses.items ++ c.in-Ok.access ∷ [] ≡ c.push.new.self.items = search rules in
    let next : n + 1 ≡ length c.push.new.self.items + 2 = search rules in
    c.lines.invariant
    ∙ line_passes c.args.sites c.args.size n c.lines.accesses.items c.lines.rest.now c.split_at.result.0.now c.in-Some.others.now c.in-Ok.access cut read
    ∙ ap₂ (λ accesses m. prefixed accesses (accesses_on c.args.sites c.args.size m (parts_of c.in-Some.others.now))) pushed next
