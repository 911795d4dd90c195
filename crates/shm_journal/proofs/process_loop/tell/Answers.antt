use Rattle.std.proofs.Common.{sym, ◌∙◌}
use Rattle.shm_journal.proofs.ServingLemmas.{none_written, told_none}
use Rattle.shm_journal.proofs.process_loop.tell.Goals as goal

pub returns-then-is_empty-clause-done : goal.returns-then-is_empty-clause-done
returns-then-is_empty-clause-done g c = told_none (g.J.Journal.acts c.args.journal.now) c.args.text.now (sym c.is_empty.ensures ∙ c.if-is_empty.true)

pub returns-then-is_empty-clause-told : goal.returns-then-is_empty-clause-told
returns-then-is_empty-clause-told g c = none_written (g.W.Write.contents c.args.writer.now) c.args.text.now (sym c.is_empty.ensures ∙ c.if-is_empty.true)
