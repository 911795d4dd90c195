use Rattle.std.proofs.Common.{◌∙◌, sym}
use Rattle.shm_site.specs.Site.{site_of}
use Rattle.shm_site.proofs.AtOnce.{none_made, store_made}
use Rattle.shm_site.proofs.site.Site.takes_store.Goals as goal

pub returns-in-Some : goal.returns-in-Some
returns-in-Some g c =
    let old = c.args.self.now in
    λ byte. store_made old.sites old.me byte (site_of old) c.args.at c.args.offset c.in-Some.page c.may_store.result
    (sym c.reached_to_store.ensures ∙ c.in-Some.is) c.may_store.ensures

pub returns-in-None : goal.returns-in-None
returns-in-None g c =
    let old = c.args.self.now in
    λ byte. none_made old.sites old.me byte (site_of old) c.args.at c.args.offset (sym c.reached_to_store.ensures ∙ c.in-None.is)
