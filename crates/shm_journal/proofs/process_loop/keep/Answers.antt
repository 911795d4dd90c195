use Rattle.std.proofs.Common.{sym, ◌∙◌}
use Rattle.shm_journal.proofs.ServingLemmas.{kept_none, kept_some, not_synced}
use Rattle.shm_journal.proofs.process_loop.keep.Goals as goal

pub returns-then-is_empty-clause-done : goal.returns-then-is_empty-clause-done
returns-then-is_empty-clause-done g c =
    kept_none (g.J.Journal.acts c.args.journal.now) c.args.entries.now (sym c.is_empty.ensures ∙ c.if-is_empty.true)

pub returns-in-Ok-sync-clause-done : goal.returns-in-Ok-sync-clause-done
returns-in-Ok-sync-clause-done g c =
    let acts = g.J.Journal.acts in
    kept_some (acts c.args.journal.now) (acts c.append.new.self) (acts c.sync.new.self) c.args.entries.now (sym c.is_empty.ensures ∙ c.if-is_empty.false)
    c.in-Ok.ensures.all c.in-Ok-sync.ensures.all

pub returns-in-Err-sync-clause-front : goal.returns-in-Err-sync-clause-front
returns-in-Err-sync-clause-front g c =
    let acts = g.J.Journal.acts in
    not_synced (acts c.args.journal.now) (acts c.append.new.self) (acts c.sync.new.self) c.args.entries.now c.in-Ok.ensures.all c.in-Err-sync.ensures.none
