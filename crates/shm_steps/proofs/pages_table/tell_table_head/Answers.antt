use Rattle.std.proofs.Common.{codes, string_bytes}
use Rattle.shm_steps.specs.Section.{site_cells}
use Rattle.shm_steps.proofs.InARow.{pushed, three_told}
use Rattle.shm_steps.proofs.pages_table.tell_table_head.Goals as goal

pub returns : goal.returns
returns g c =
    three_told c.push_str-2.result (string_bytes c.args.out.now) (string_bytes c.push_str.new.self) (string_bytes c.tell_sites.new.out) (string_bytes c.push_str-2.new.self)
    (codes "<table>\n<tr><th>page</th>") (site_cells c.args.sites) (codes "<th>manager</th><th>cleared</th><th>waiting</th></tr>\n")
    c.in_ok-push_str.ensures.bytes c.in_ok-tell_sites.ensures
    (pushed c.push_str-2.result (string_bytes c.tell_sites.new.out) (string_bytes c.push_str-2.new.self) (codes "<th>manager</th><th>cleared</th><th>waiting</th></tr>\n") c.push_str-2.ensures.bytes)
