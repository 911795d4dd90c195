use Rattle.std.proofs.Common.{codes, slice_get, string_bytes}
use Rattle.shm_place.specs.Page.{manager_of}
use Rattle.shm_steps.specs.Section.{keeper_text, page_cell, state_cells, volatile_cells}
use Rattle.shm_steps.proofs.InARow.{pushed, seven_told}
use Rattle.shm_steps.proofs.pages_table.tell_row.Goals as goal

pub returns : goal.returns
returns g c = λ w stands.
    seven_told c.push_str-3.result (string_bytes c.args.out.now) (string_bytes c.tell_page.new.out) (string_bytes c.tell_states.new.out) (string_bytes c.push_str.new.self)
    (string_bytes c.tell_keeper.new.out) (string_bytes c.push_str-2.new.self) (string_bytes c.tell_volatile.new.out) (string_bytes c.push_str-3.new.self)
    (page_cell c.args.page) (state_cells w c.args.page) (codes "<td>") (keeper_text w c.args.page) (codes "</td>")
    (volatile_cells (slice_get w.sites (manager_of w.count c.args.page)) c.args.page) (codes "</tr>\n")
    c.in_ok-tell_page.ensures (c.in_ok-tell_states.ensures w stands) c.in_ok-push_str.ensures.bytes (c.in_ok-tell_keeper.ensures w stands)
    c.in_ok-push_str-2.ensures.bytes (c.in_ok-tell_volatile.ensures w stands)
    (pushed c.push_str-3.result (string_bytes c.tell_volatile.new.out) (string_bytes c.push_str-3.new.self) (codes "</tr>\n") c.push_str-3.ensures.bytes)
