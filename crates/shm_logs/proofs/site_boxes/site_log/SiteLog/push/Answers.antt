-- The log with the step fits, since the step is the site's next.
use Rattle.std.proofs.Common.{◌∷◌, ◌++◌, [], map, subst, sym}
use Rattle.shm_model.specs.Log.{Fits}
use Rattle.shm_model.specs.World.{Preset, opened_site}
use Rattle.shm_logs.specs.Boxes.Logged.{logged_of}
use Rattle.shm_logs.proofs.Pushes.{fits-push, map-push}
use Rattle.shm_logs.proofs.site_boxes.site_log.SiteLog.push.Goals as goal

pub invariant_of-self-clause-fits : goal.invariant_of-self-clause-fits
invariant_of-self-clause-fits g c =
    let log = c.args.self.now in
    let site = opened_site (Preset log.sites log.pages) log.me in
    let pushed : Fits log.sites log.me site (map logged_of log.steps.items ++ logged_of c.args.step ∷ []) =
    fits-push log.sites log.me site (map logged_of log.steps.items) (logged_of c.args.step) log.fits c.requires.tells c.requires.logged in
    subst (Fits log.sites log.me site) (sym (map-push logged_of log.steps.items c.push_reserved.new.self.items c.args.step c.push_reserved.ensures.items)) pushed
