-- Each line has the next receipt of its site's caller.
use Rattle.std.proofs.Common.{◌+◌, arith, refl}
use Rattle.shm_report.proofs.Answered.{only_memory}
use Rattle.shm_report.proofs.Found.{all_told, none_told, one_told}
use Rattle.shm_report.proofs.report_text.answer_lines.Goals as goal

pub accesses-init : goal.accesses-init
accesses-init c served = none_told c.args.accesses.now c.args.callers.now c.in-Ok.text c.tell.new.self c.in-Ok.ensures c.in-Ok-tell.ensures.ok

pub accesses-preserved : goal.accesses-preserved
accesses-preserved c served =
    one_told
    c.args.accesses.now c.args.callers.now c.accesses.told_of c.tell-in-accesses.new.told_of c.accesses.text c.tell-in-accesses.new.text
    c.accesses.place (c.accesses.place + 2) c.index-accesses-place.result served c.accesses-test.true c.index-accesses-place.is (c.accesses.invariant served)
    refl c.in-Ok-tell-2.ensures.known c.in-Ok-tell-2.ensures.told c.in-Ok-tell-2.ensures.more

pub returns-clause-lines : goal.returns-clause-lines
returns-clause-lines c served =
    all_told c.args.accesses.now c.args.callers.now c.accesses.told_of c.accesses.text c.accesses.place (omega arith) (c.accesses.invariant served)

pub returns-in-Err-tell-clause-served : goal.returns-in-Err-tell-clause-served
returns-in-Err-tell-clause-served c served among few =
    only_memory
    c.args.accesses.now c.args.callers.now c.accesses.told_of c.accesses.text c.accesses.place c.index-accesses-place.result c.in-Err-tell.fault
    served among few c.accesses-test.true c.index-accesses-place.is (c.accesses.invariant served) c.in-Err-tell.ensures.why
