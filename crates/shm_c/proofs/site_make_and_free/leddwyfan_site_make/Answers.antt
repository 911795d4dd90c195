use Rattle.std.proofs.Common.{◌≡◌, ◌<◌, ◌&&◌, Bool, true, sym, ap, ◌∙◌, arith}
use Rattle.std.proofs.lemmas.Bool.{false≢true}
use Rattle.std.proofs.lemmas.Bool.Decides.{nat_tests}
use Rattle.std.specs.Prelude.{nat_lt}
use Rattle.shm_c.specs.Openings.{is_opening}
use Rattle.shm_c.proofs.SeatLemmas.{sites-numbered}
use Rattle.shm_c.proofs.site_make_and_free.leddwyfan_site_make.Goals as goal

both : (a b : Bool) → a ≡ true → b ≡ true → a && b ≡ true
both a b t u = ap (λ x. x && b) t ∙ u

pub returns-in_default-new-clause-wrong : goal.returns-in_default-new-clause-wrong
returns-in_default-new-clause-wrong c = λ _ wrong.
    let opening = c.in-Some-numbered_opening.opening in
    let told = c.in-Some-numbered_opening.ensures in
    let sites : opening.sites ≡ c.args.sites = sites-numbered opening c.args.sites c.args.pages c.args.frames told.2 in
    let below : c.args.me < c.args.sites = omega (arith, sites, c.count.ensures.value, c.if-count-me.false) in
    let tested : nat_lt c.args.me c.args.sites ≡ true = grind (arith, nat_tests, below) in
    absurd (false≢true (sym wrong ∙ both (is_opening c.args.sites c.args.pages c.args.frames) (nat_lt c.args.me c.args.sites) told.0 tested))
