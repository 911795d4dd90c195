use Rattle.std.proofs.Common.{◌≡◌, false, true, sym, ◌∙◌}
use Rattle.shm_debug.specs.Replay.{is_write_fault}
use Rattle.shm_debug.proofs.ReplayLemmas.{all_written, none_written, some_written}
use Rattle.shm_debug.proofs.replay_script.write_rest.Goals as goal

pub returns-then-is_write_fault-clause-ends : goal.returns-then-is_write_fault-clause-ends
returns-then-is_write_fault-clause-ends g c = λ first script p.
    let failed : is_write_fault c.args.played ≡ true = sym c.is_write_fault.ensures ∙ c.if-is_write_fault.true in
    none_written first (g.W.Write.contents c.args.writer.now) c.args.output.now script c.args.played p failed

pub returns-in-Ok-clause-ends : goal.returns-in-Ok-clause-ends
returns-in-Ok-clause-ends g c = λ first script p.
    let whole : is_write_fault c.args.played ≡ false = sym c.is_write_fault.ensures ∙ c.if-is_write_fault.false in
    all_written first (g.W.Write.contents c.args.writer.now) (g.W.Write.contents c.write_told.new.writer) c.args.output.now script c.args.played p whole c.in-Ok.ensures.ok

pub returns-in-Err-clause-ends : goal.returns-in-Err-clause-ends
returns-in-Err-clause-ends g c = λ first script p.
    let whole : is_write_fault c.args.played ≡ false = sym c.is_write_fault.ensures ∙ c.if-is_write_fault.false in
    some_written first (g.W.Write.contents c.args.writer.now) (g.W.Write.contents c.write_told.new.writer) c.args.output.now c.in-Err.ensures.err.0 script c.args.played p whole c.in-Err.ensures.err.1
