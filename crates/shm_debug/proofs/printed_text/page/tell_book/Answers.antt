use Rattle.std.proofs.Common.{◌∙◌, string_bytes}
use Rattle.shm_place.specs.SiteSet.{has}
use Rattle.shm_debug.proofs.Booked.{book_told, on_ok-then}
use Rattle.shm_debug.proofs.printed_text.page.tell_book.Goals as goal

pub returns : goal.returns
returns g c = λ b tells.
    on_ok-then c.tell_running.result
    (book_told b (string_bytes c.args.out.now) (string_bytes c.write.new.self) (string_bytes c.tell_copies.new.out) (string_bytes c.write-2.new.self) (string_bytes c.tell_running.new.out)
    c.number_of-owner.result c.args.book.now.number (has c.args.book.now.copies) (c.number_of-owner.ensures ∙ tells.owner) tells.copies tells.number
    c.in_ok-write.ensures.bytes c.in_ok-tell_copies.ensures c.in_ok-write-2.ensures.bytes)
    (c.tell_running.ensures b.running tells.running)
