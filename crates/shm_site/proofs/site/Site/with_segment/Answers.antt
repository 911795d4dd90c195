use Rattle.std.proofs.Common.{◌∙◌, ap, option_map, Some, None}
use Rattle.shm_keys.specs.Table.{Table, missing_of}
use Rattle.shm_model.specs.Basics.{at}
use Rattle.shm_model.specs.Site.{new_site}
use Rattle.shm_model.specs.World.{preset_attachment}
use Rattle.shm_parts.specs.Holdings.{framed}
use Rattle.shm_site.proofs.site.Site.with_segment.Goals as goal

pub returns-clause-site : goal.returns-clause-site
returns-clause-site g c =
    let sites = c.args.sites in
    let me = c.args.me in
    let table : Table = c.in_ok-table.table in
    c.of_parts.ensures.site ∙ c.in_ok-holdings.ensures.held (record (new_site sites me) { table = table.segments; missing = missing_of table })
    ∙ ap (λ (t : Table). record (new_site sites me) { attachments = at (λ _. None) 0 (Some (preset_attachment c.args.pages)); frames = option_map framed c.args.limit; table = t.segments; missing = missing_of t }) c.in_ok-table.ensures
