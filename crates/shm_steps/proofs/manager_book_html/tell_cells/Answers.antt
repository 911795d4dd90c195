use Rattle.std.proofs.Common.{codes, string_bytes}
use Rattle.shm_site.specs.Site.{site_of}
use Rattle.shm_steps.specs.Section.{cleared_while, queue_text}
use Rattle.shm_steps.proofs.InARow.{five_told, pushed}
use Rattle.shm_steps.proofs.manager_book_html.tell_cells.Goals as goal

pub returns : goal.returns
returns g c =
    let book = (site_of c.args.site.now).books c.args.page in
    five_told c.push_str-3.result (string_bytes c.args.out.now) (string_bytes c.push_str.new.self) (string_bytes c.tell_cleared.new.out) (string_bytes c.push_str-2.new.self)
    (string_bytes c.tell_queue.new.out) (string_bytes c.push_str-3.new.self)
    (codes "<td>") (cleared_while book.running book) (codes "</td><td><ol>") (queue_text book) (codes "</ol></td>")
    c.in_ok-push_str.ensures.bytes (c.in_ok-tell_cleared.ensures book c.cleared.ensures.running c.cleared.ensures.cleared)
    c.in_ok-push_str-2.ensures.bytes c.in_ok-tell_queue.ensures
    (pushed c.push_str-3.result (string_bytes c.tell_queue.new.out) (string_bytes c.push_str-3.new.self) (codes "</ol></td>") c.push_str-3.ensures.bytes)
