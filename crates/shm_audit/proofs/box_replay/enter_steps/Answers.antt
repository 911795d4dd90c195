use Rattle.std.proofs.Common.{refl, arith}
use Rattle.shm_logs.specs.Boxes.SiteBox.{box_of}
use Rattle.shm_process.specs.CauseOf.{cause_of}
use Rattle.shm_process.specs.StepsOf.{steps_left}
use Rattle.shm_process.proofs.ManySteps.{clock_of}
use Rattle.shm_audit.proofs.Entering.{all_entered, leads, none_entered, none_later, one_entered}
use Rattle.shm_audit.proofs.box_replay.enter_steps.Goals as goal

pub steps-init : goal.steps-init
steps-init g c = record { clock = omega arith; led = refl }

pub steps-preserved : goal.steps-preserved
steps-preserved g c =
    let taken =
    one_entered (box_of c.steps.site_box) (box_of c.enter_step.new.site_box) c.steps.next c.checked_add-next.result c.in-Some-next.clock (steps_left c.steps.steps)
    (steps_left c.next.new.self) (cause_of c.in-Some.cause) c.in_ok-enter_step.field-0 (leads (box_of c.args.site_box.now) c.args.first (steps_left c.args.steps.now))
    c.in-Some.ensures.some c.in-Some-next.is c.steps.invariant.clock c.checked_add-next.ensures c.in_ok-enter_step.ensures c.if-not-branch.false c.steps.invariant.led in
    record { clock = taken.0; led = taken.1 }

pub returns-in_default-next : goal.returns-in_default-next
returns-in_default-next g c =
    none_later (box_of c.steps.site_box) c.steps.next (steps_left c.steps.steps) (steps_left c.next.new.self) (cause_of c.in-Some.cause)
    (leads (box_of c.args.site_box.now) c.args.first (steps_left c.args.steps.now)) c.in-Some.ensures.some c.in_default-next.is c.steps.invariant.led

pub returns-then-not-branch : goal.returns-then-not-branch
returns-then-not-branch g c =
    none_entered (box_of c.steps.site_box) (box_of c.enter_step.new.site_box) c.steps.next c.in-Some-next.clock (steps_left c.steps.steps)
    (steps_left c.next.new.self) (cause_of c.in-Some.cause) c.in_ok-enter_step.field-0 (leads (box_of c.args.site_box.now) c.args.first (steps_left c.args.steps.now))
    c.in-Some.ensures.some c.in-Some-next.is c.in_ok-enter_step.ensures c.if-not-branch.true c.steps.invariant.led

pub returns : goal.returns
returns g c =
    all_entered (box_of c.steps.site_box) (clock_of c.steps.next) (steps_left c.steps.steps)
    (leads (box_of c.args.site_box.now) c.args.first (steps_left c.args.steps.now)) c.in_default.ensures.none c.steps.invariant.led
