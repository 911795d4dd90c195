-- The site stands at its opening, and the log is empty.
use Rattle.std.proofs.Common.{ap, sym, ◌∙◌, []}
use Rattle.shm_logs.specs.Boxes.SiteLog.{left_by}
use Rattle.shm_logs.proofs.site_boxes.site_box.SiteBox.new.Goals as goal

pub invariant_of-result-clause-stands : goal.invariant_of-result-clause-stands
invariant_of-result-clause-stands g c =
    let log = c.new.result in
    let o = c.new.ensures.opening in
    c.in_ok-site.ensures.site
    ∙ ap (λ s. left_by s c.args.me c.args.pages []) (sym o.0)
    ∙ ap (λ m. left_by log.sites m c.args.pages []) (sym o.1)
    ∙ ap (λ p. left_by log.sites log.me p []) (sym o.2)
    ∙ ap (left_by log.sites log.me log.pages) (sym c.new.ensures.steps)
