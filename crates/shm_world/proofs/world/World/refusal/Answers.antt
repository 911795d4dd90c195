use Rattle.std.proofs.Common.{◌∙◌, ap, slice_get, arith}
use Rattle.shm_world.proofs.Steps.{found, no_number, no_site, unfound}
use Rattle.shm_site.specs.Site.{site_of}
use Rattle.shm_world.proofs.world.World.refusal.Goals as goal

pub returns-then-site-count-clause-refused : goal.returns-then-site-count-clause-refused
returns-then-site-count-clause-refused g c = λ w i stands.
    let members = c.args.self.now.members in
    no_site w c.args.site i (ap (λ l. slice_get l c.args.site) stands.sites ∙ unfound site_of members.sites.items c.args.site (omega (arith, members.whole, c.count.ensures.value, c.if-site-count.true, c.site.view_is)))

pub returns-then-sent-gt-MAX_SENT-clause-refused : goal.returns-then-sent-gt-MAX_SENT-clause-refused
returns-then-sent-gt-MAX_SENT-clause-refused g c = λ w i stands.
    let members = c.args.self.now.members in
    let one = found site_of members.sites.items c.args.site (omega (arith, members.whole, c.count.ensures.value, c.if-site-count.false, c.site.view_is)) in
    no_number w c.args.site one.site i (ap (λ l. slice_get l c.args.site) stands.sites ∙ one.there) (omega (arith, c.if-sent-gt-MAX_SENT.true, c.sent.ensures.count w.sent w.gone stands.carries))

pub returns-clause-numbers : goal.returns-clause-numbers
returns-clause-numbers g c = omega (arith, c.if-sent-gt-MAX_SENT.false, c.sent.ensures.same)
