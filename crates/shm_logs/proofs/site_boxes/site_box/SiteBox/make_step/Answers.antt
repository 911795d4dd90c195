-- The site has made the step that the log was given.
use Rattle.std.proofs.Common.{ap, map, sym, ◌≡◌, ◌∙◌}
use Rattle.shm_model.specs.Site.{Step}
use Rattle.shm_model.specs.Log.{Logged}
use Rattle.shm_model.specs.Step.{step}
use Rattle.shm_parts.specs.Message.{envelope_of}
use Rattle.shm_site.specs.Site.{site_of}
use Rattle.shm_site.specs.Step.{input_of}
use Rattle.shm_logs.specs.Boxes.Box.{last_stamp_or}
use Rattle.shm_logs.specs.Boxes.Logged.{stamp_of}
use Rattle.shm_logs.specs.Boxes.SiteLog.{steps_of}
use Rattle.shm_logs.proofs.Pushes.{last-push, stands-push}
use Rattle.shm_logs.proofs.site_boxes.site_box.SiteBox.make_step.Goals as goal

pub invariant_of-self-2-clause-stands : goal.invariant_of-self-2-clause-stands
invariant_of-self-2-clause-stands g c =
    let old = c.args.self.now in
    let log = c.push.new.self in
    let l : Logged = record { input = input_of c.args.input; stamp = c.args.stamp; source = stamp_of c.args.source; answer = c.in_ok-answer.field-0.answer; sent = map envelope_of c.in_ok-answer.field-0.sent.items } in
    let made : (step old.site.sites old.site.me (site_of old.site) (input_of c.args.copy)).site ≡ site_of c.step_spending.new.self =
    ap (λ (done : Step). done.site) (c.in_ok-answer.ensures.step) in
    let same = c.push.ensures.opening in
    stands-push old.log.sites old.log.me old.log.pages old.site.sites old.site.me log.sites log.me log.pages
    (site_of old.site) (site_of c.step_spending.new.self) (input_of c.args.copy) (steps_of old.log) (steps_of log) l
    old.all_sites old.own_log old.stands c.requires.copy made same.0 same.1 same.2 c.push.ensures.steps

pub invariant_of-self-2-clause-stamped : goal.invariant_of-self-2-clause-stamped
invariant_of-self-2-clause-stamped g c =
    let l : Logged = record { input = input_of c.args.input; stamp = c.args.stamp; source = stamp_of c.args.source; answer = c.in_ok-answer.field-0.answer; sent = map envelope_of c.in_ok-answer.field-0.sent.items } in
    sym (ap (last_stamp_or 0) c.push.ensures.steps ∙ last-push 0 (steps_of c.args.self.now.log) l)
