use Rattle.std.proofs.Common.{subst, map}
use Rattle.shm_keys.specs.Table.{IsNumbered}
use Rattle.shm_site.specs.Site.{site_of}
use Rattle.shm_parts.specs.Message.{envelope_of}
use Rattle.shm_site.proofs.Ticks.{purges_done, purges_fewer, purges_more}
use Rattle.shm_site.proofs.site.Site.purge_again.Goals as goal

pub segments-smaller : goal.segments-smaller
segments-smaller g c =
    let self = c.args.self.now in
    let numbered = subst (λ n. IsNumbered self.home.table.home n self.home.table.segments) self.all_sites c.in-Some.ensures.numbered in
    purges_fewer self.home.table.home self.sites self.me (site_of self) (map envelope_of c.args.list.now.items) (map envelope_of c.segments.list.items) c.segments.last _ numbered c.segments.invariant c.in-Some.ensures.above c.in-Some.ensures.destroyed

pub segments-preserved : goal.segments-preserved
segments-preserved g c =
    let self = c.args.self.now in
    let numbered = subst (λ n. IsNumbered self.home.table.home n self.home.table.segments) self.all_sites c.in-Some.ensures.numbered in
    purges_more self.home.table.home self.sites self.me (site_of self) (map envelope_of c.args.list.now.items) (map envelope_of c.segments.list.items) (map envelope_of c.list_purges.new.list.items) c.segments.last _ _
    numbered c.segments.invariant c.in-Some.ensures.above c.in-Some.ensures.least c.in-Some.ensures.sites c.in-Some.ensures.destroyed c.in_ok-list_purges.ensures

pub returns : goal.returns
returns g c =
    let self = c.args.self.now in
    let numbered = subst (λ n. IsNumbered self.home.table.home n self.home.table.segments) self.all_sites c.in_default.ensures.numbered in
    purges_done self.home.table.home self.sites self.me (site_of self) (map envelope_of c.args.list.now.items) (map envelope_of c.segments.list.items) c.segments.last numbered c.segments.invariant c.in_default.ensures.least
