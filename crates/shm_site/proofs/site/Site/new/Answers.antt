use Rattle.std.proofs.Common.{◌∙◌, ap}
use Rattle.shm_keys.specs.Table.{Table, missing_of}
use Rattle.shm_model.specs.Site.{new_site}
use Rattle.shm_site.proofs.site.Site.new.Goals as goal

pub returns-clause-site : goal.returns-clause-site
returns-clause-site g c =
    let sites = c.args.sites in
    let me = c.args.me in
    let table : Table = c.new-table.result in
    c.of_parts.ensures.site ∙ c.new-holdings.ensures.held (record (new_site sites me) { table = table.segments; missing = missing_of table })
    ∙ ap (λ (t : Table). record (new_site sites me) { table = t.segments; missing = missing_of t }) c.new-table.ensures
