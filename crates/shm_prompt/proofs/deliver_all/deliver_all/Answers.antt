use Rattle.std.proofs.Common.{arith}
use Rattle.shm_debug.specs.Standing.{world_of}
use Rattle.shm_prompt.proofs.DialogLemmas.{at_bound, comes_to_rest, err_halted, going_halted, going_more, going_none}
use Rattle.shm_prompt.proofs.deliver_all.deliver_all.Goals as goal

pub deliveries-init : goal.deliveries-init
deliveries-init g c = going_none c.args.session.now c.args.out.now.items

pub deliveries-preserved : goal.deliveries-preserved
deliveries-preserved g c =
    going_more c.deliveries._made c.deliveries.from c.args.session.now c.deliveries.session c.happen.new.session
    c.args.out.now.items c.deliveries.out.items c.happen.new.out.items c.in-Some.number
    c.deliveries.invariant (c.in-Some.ensures.found (world_of c.deliveries.session) c.world.ensures) c.in_ok-happen.ensures.next c.in_ok-happen.ensures.told

pub returns-in_default-clause-delivers : goal.returns-in_default-clause-delivers
returns-in_default-clause-delivers g c =
    comes_to_rest c.deliveries._made c.args.most c.deliveries.from c.args.session.now c.deliveries.session c.args.out.now.items c.deliveries.out.items
    (omega (arith, c.deliveries-test.true)) c.deliveries.invariant (c.in_default.ensures.none (world_of c.deliveries.session) c.world.ensures)

pub returns-in_err-happen-clause-halted : goal.returns-in_err-happen-clause-halted
returns-in_err-happen-clause-halted g c =
    err_halted c.from_residual.result
    (going_halted c.deliveries._made c.args.most c.deliveries.from c.args.session.now c.deliveries.session c.happen.new.session
    c.args.out.now.items c.deliveries.out.items c.in-Some.number
    (omega (arith, c.deliveries-test.true)) c.deliveries.invariant (c.in-Some.ensures.found (world_of c.deliveries.session) c.world.ensures) c.in_err-happen.ensures.halted)

pub returns-clause-delivers : goal.returns-clause-delivers
returns-clause-delivers g c =
    at_bound c.deliveries._made c.args.most c.deliveries.from c.args.session.now c.deliveries.session c.args.out.now.items c.deliveries.out.items
    c.oldest_from-2.result c.is_none.result (omega (arith, c.deliveries-test.false, c.deliveries.auto._made-end)) c.deliveries.invariant c.is_none.ensures
    (c.oldest_from-2.ensures.found (world_of c.deliveries.session) c.world-2.ensures) (c.oldest_from-2.ensures.none (world_of c.deliveries.session) c.world-2.ensures)
