use Rattle.std.proofs.Common.{◌<◌, ◌≢◌, ℕ, subst, sym}
use Rattle.shm_command.proofs.Shorter.{done, fails, not_done}
use Rattle.shm_command.proofs.shorten_journal.shorten.Goals as goal

pub returns-in-Ok-clause-shortened : goal.returns-in-Ok-clause-shortened
returns-in-Ok-clause-shortened g c = done (g.O.Write.contents c.args.out.now) (g.O.Write.contents c.shorten_and_tell.new.out) c.in-Ok.ensures.told

pub returns-in-Err-clause-range : goal.returns-in-Err-clause-range
returns-in-Err-clause-range g c = subst (λ (n : ℕ). n < 4) (sym c.shortening_fault.ensures) (fails c.in-Err.fault).0

pub returns-in-Err-clause-taken : goal.returns-in-Err-clause-taken
returns-in-Err-clause-taken g c = subst (λ (n : ℕ). n ≢ 2) (sym c.shortening_fault.ensures) (fails c.in-Err.fault).1

pub returns-in-Err-clause-shortened : goal.returns-in-Err-clause-shortened
returns-in-Err-clause-shortened g c =
    not_done g.O.Write.contents c.args.out.now c.shorten_and_tell.new.out c.in-Err.fault c.shortening_fault.result c.shortening_fault.ensures c.in-Err.ensures.quiet
