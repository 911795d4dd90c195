use Rattle.std.proofs.Common.{rules, ◌≡◌, length, ◌+◌}
use Rattle.shm_command.proofs.Zipped.{zipped_more}
use Rattle.shm_command.proofs.audit_files.read_logs.Goals as goal

pub journals-preserved : goal.journals-preserved
journals-preserved g c =
    let more : length c.push.new.self.items ≡ c.journals.at + 1 = search rules in (
      more,
      zipped_more (λ name log. g.S.LogSource.leads c.args.source.now name.now log) c.args.journals.now c.journals.logs.items c.push.new.self.items c.journals.at _ c.in-Ok.log
          (search rules) (search rules) c.journals.invariant.1 c.in-Ok.ensures.log,
    )
