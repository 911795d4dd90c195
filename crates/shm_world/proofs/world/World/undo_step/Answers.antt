use Rattle.std.proofs.Common.{None, ap, refl, slice_get, subst, sym, ◌∙◌}
use Rattle.shm_world.specs.Undo.{Fits}
use Rattle.shm_world.proofs.Undoing.{back-step}
use Rattle.shm_world.proofs.world.World.undo_step.Goals as goal

pub returns-clause-step : goal.returns-clause-step
returns-clause-step g c = λ w gone i stands unsent.
    let s = c.args.site in
    let site = c.in_ok-site.site in
    back-step (record { site = site; taken = None; sent = c.sent.result }) (record w { gone = gone }) s i refl
    (c.sent.ensures.same ∙ stands.carries.count) unsent
    (c.in_ok-site.ensures.site ∙ ap (λ l. slice_get l s) (sym stands.sites))
    c.in_ok-site.ensures.number
    (subst (λ n. Fits n site) (sym stands.count) c.in_ok-site.ensures.fits)
