use Rattle.std.proofs.Common.{◌≡◌, ◌++◌, ◌∷◌, [], ℕ, true, false, map, ap, ◌∙◌, arith}
use Rattle.std.proofs.lemmas.Grind.{common_steps}
use Rattle.std.proofs.lemmas.List.{map_push}
use Rattle.shm_model.specs.SegmentCalls.{purge_envelope}
use Rattle.shm_place.specs.SiteSet.{has}
use Rattle.shm_parts.specs.Message.{envelope_of}
use Rattle.shm_site.proofs.Ticks.{passing, passing_all, sent_here, sent_none, sent_not_here}
use Rattle.shm_site.proofs.site.Site.list_purges.Goals as goal

pub sites-init : goal.sites-init
sites-init g c = sent_none (purge_envelope c.args.self.now.me c.args.id) (has c.args.missing) (map envelope_of c.args.list.now.items)

pub sites-preserved-then-not-contains : goal.sites-preserved-then-not-contains
sites-preserved-then-not-contains g c =
    let not_here : has c.args.missing c.sites.site ≡ false = grind (arith, common_steps) in
    sent_not_here (purge_envelope c.args.self.now.me c.args.id) (has c.args.missing) (map envelope_of c.args.list.now.items) (map envelope_of c.sites.list.items) c.sites.site c.sites.invariant not_here

pub sites-preserved : goal.sites-preserved
sites-preserved g c =
    let here : has c.args.missing c.sites.site ≡ true = grind (arith, common_steps) in
    let pushed : map envelope_of c.push.new.self.items ≡ map envelope_of c.sites.list.items ++ purge_envelope c.args.self.now.me c.args.id c.sites.site ∷ [] =
    ap (map envelope_of) c.in_ok-push.ensures.items ∙ map_push envelope_of c.sites.list.items _ in
    pushed ∙ sent_here (purge_envelope c.args.self.now.me c.args.id) (has c.args.missing) (map envelope_of c.args.list.now.items) (map envelope_of c.sites.list.items) c.sites.site c.sites.invariant here

pub returns : goal.returns
returns g c =
    let f = purge_envelope c.args.self.now.me c.args.id in
    let p = has c.args.missing in
    let before = (map envelope_of c.args.list.now.items) in
    let whole : c.sites.site ≡ c.args.self.now.sites = omega arith in
    c.sites.invariant ∙ ap (λ (n : ℕ). before ++ map f (passing p n)) whole ∙ ap (λ ys. before ++ map f ys) (passing_all p c.args.self.now.sites)
