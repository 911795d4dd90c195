use Rattle.std.proofs.Common.{◌≡◌, ◌∙◌, None, length, ap, rules}
use Rattle.shm_model.specs.Step.{restart}
use Rattle.shm_parts.specs.Holdings.{held_frames}
use Rattle.shm_parts.specs.Listed.{limit_held, purged_in, purged_list}
use Rattle.shm_parts.specs.Purged.{purged_of}
use Rattle.shm_site.specs.Site.{site_of}
use Rattle.shm_site.specs.State.{site_from, state_of}
use Rattle.shm_state.proofs.ToldSame.{told_same, unlimited}
use Rattle.shm_state.proofs.tell_state.tell_parts.Goals as goal

pub returns-in-Ok-clause-told : goal.returns-in-Ok-clause-told
returns-in-Ok-clause-told g c =
    let site = c.args.site.now in
    let none : limit_held (held_frames site.holdings.frames) ≡ None = search rules in
    let numbers : length site.holdings.attachments ≡ 64 = search rules in
    let sites : length site.home.kept ≡ 16 = search rules in
    let listed : purged_in (purged_list site.holdings.purged) ≡ purged_of site.holdings.purged = search rules in
    let law : site_from site.sites site.me (state_of site) ≡ (restart (site_of site)).site = search rules in
    ap (site_from site.sites site.me) c.in-Ok.ensures.said ∙ told_same site (unlimited (held_frames site.holdings.frames) none) numbers sites listed ∙ law
