use Rattle.std.proofs.Common.{ap, refl, arith}
use Rattle.std.specs.Prelude.{is_some}
use Rattle.shm_process.specs.CauseOf.{cause_of}
use Rattle.shm_process.specs.NodeOf.{node_of}
use Rattle.shm_process.specs.StepsOf.{steps_left}
use Rattle.shm_process.proofs.ManySteps.{all_made, clock_of, leads, none_later, none_made, one_made}
use Rattle.shm_process.proofs.node.Node.replay_steps.Goals as goal

pub steps-init : goal.steps-init
steps-init g c = record { clock = omega arith; led = refl }

pub steps-preserved : goal.steps-preserved
steps-preserved g c =
    let made =
    one_made (node_of c.steps.self) (node_of c.replay.new.self) c.steps.next c.checked_add-next.result c.in-Some-next.clock (steps_left c.steps.steps)
    (steps_left c.next.new.self) (cause_of c.in-Some.cause) c.in_ok-replay.field-0 (leads (node_of c.args.self.now) c.args.first (steps_left c.args.steps.now))
    c.in-Some.ensures.some c.in-Some-next.is c.steps.invariant.clock c.checked_add-next.ensures c.in_ok-replay.ensures.made c.if-not-branch.false
    c.in_ok-replay.ensures.after c.steps.invariant.led in
    record { clock = made.0; led = made.1 }

pub returns-in_default-next-clause-made : goal.returns-in_default-next-clause-made
returns-in_default-next-clause-made g c =
    none_later (node_of c.steps.self) c.steps.next (steps_left c.steps.steps) (steps_left c.next.new.self) (cause_of c.in-Some.cause)
    (leads (node_of c.args.self.now) c.args.first (steps_left c.args.steps.now)) c.in-Some.ensures.some c.in_default-next.is c.steps.invariant.led

pub returns-then-not-branch-clause-made : goal.returns-then-not-branch-clause-made
returns-then-not-branch-clause-made g c =
    none_made (node_of c.steps.self) c.steps.next c.in-Some-next.clock (steps_left c.steps.steps) (steps_left c.next.new.self) (cause_of c.in-Some.cause)
    c.in_ok-replay.field-0 (leads (node_of c.args.self.now) c.args.first (steps_left c.args.steps.now)) c.in-Some.ensures.some c.in-Some-next.is
    c.in_ok-replay.ensures.made c.if-not-branch.true c.steps.invariant.led

pub returns-clause-made : goal.returns-clause-made
returns-clause-made g c =
    ap is_some (all_made (node_of c.steps.self) (clock_of c.steps.next) (steps_left c.steps.steps)
    (leads (node_of c.args.self.now) c.args.first (steps_left c.args.steps.now)) c.in_default.ensures.none c.steps.invariant.led)

pub returns-clause-after : goal.returns-clause-after
returns-clause-after g c = λ _.
    all_made (node_of c.steps.self) (clock_of c.steps.next) (steps_left c.steps.steps)
    (leads (node_of c.args.self.now) c.args.first (steps_left c.args.steps.now)) c.in_default.ensures.none c.steps.invariant.led
