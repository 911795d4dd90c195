use Rattle.std.proofs.Common.{rules, ◌≡◌, Option, Some}
use Rattle.shm_process.specs.declared.site_opening.Disagreement.{Disagreement}
use Rattle.shm_journal.proofs.WarningLemmas.{warns_tried}
use Rattle.shm_journal.specs.Warning.{warning}
use Rattle.shm_journal.proofs.process_loop.write_warning.Goals as goal

pub returns : goal.returns
returns g c =
    let found : Option Disagreement = Some c.args.disagreement in
    let text : c.as_bytes.result.now ≡ warning found = search rules in
    warns_tried c.write_whole.result (g.E.Write.contents c.args.errors.now) (g.E.Write.contents c.write_whole.new.writer) found c.as_bytes.result.now text
    c.write_whole.ensures.ok c.write_whole.ensures.err
