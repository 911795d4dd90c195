use Rattle.std.proofs.Common.{◌∙◌, sym}
use Rattle.shm_site.specs.Site.{site_of}
use Rattle.shm_site.proofs.AtOnce.{none_waits, store_waits}
use Rattle.shm_site.proofs.site.Site.store_waits.Goals as goal

pub returns-in-Some : goal.returns-in-Some
returns-in-Some g c =
    let old = c.args.self.now in
    λ byte. store_waits old.sites old.me byte (site_of old) c.args.at c.args.offset c.in-Some.page c.waits_to_store.result
    (sym c.reached_to_store.ensures ∙ c.in-Some.is) c.waits_to_store.ensures

pub returns-in-None : goal.returns-in-None
returns-in-None g c =
    let old = c.args.self.now in
    λ byte. none_waits old.sites old.me byte (site_of old) c.args.at c.args.offset (sym c.reached_to_store.ensures ∙ c.in-None.is)
