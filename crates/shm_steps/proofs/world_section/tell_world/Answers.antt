use Rattle.std.proofs.Common.{◌∙◌, ◌++◌, ap, codes, string_bytes}
use Rattle.std.specs.List.{flat_map}
use Rattle.shm_steps.specs.Section.{awaits_text, flights_text, row_text, table_head}
use Rattle.shm_steps.proofs.InARow.{pushed, seven_told}
use Rattle.shm_steps.proofs.world_section.tell_world.Goals as goal

pub returns : goal.returns
returns g c = λ w stands.
    seven_told c.push_str-3.result (string_bytes c.args.out.now) (string_bytes c.tell_table_head.new.out) (string_bytes c.tell_rows.new.out) (string_bytes c.push_str.new.self)
    (string_bytes c.tell_awaits.new.out) (string_bytes c.push_str-2.new.self) (string_bytes c.tell_flights.new.out) (string_bytes c.push_str-3.new.self)
    (table_head w.count) (flat_map (row_text w) c.args.pages.now) (codes "</table>\n<h3>waits</h3>\n<ul>\n") (awaits_text w) (codes "</ul>\n<h3>is on its way</h3>\n<ul>\n")
    (flights_text w) (codes "</ul>\n</section>\n")
    (c.in_ok-tell_table_head.ensures ∙ ap (λ n. string_bytes c.args.out.now ++ table_head n) (c.sites.ensures w stands))
    (c.in_ok-tell_rows.ensures w stands) c.in_ok-push_str.ensures.bytes (c.in_ok-tell_awaits.ensures w stands)
    c.in_ok-push_str-2.ensures.bytes (c.in_ok-tell_flights.ensures w stands)
    (pushed c.push_str-3.result (string_bytes c.tell_flights.new.out) (string_bytes c.push_str-3.new.self) (codes "</ul>\n</section>\n") c.push_str-3.ensures.bytes)
