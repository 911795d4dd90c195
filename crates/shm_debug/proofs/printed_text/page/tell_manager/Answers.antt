use Rattle.std.proofs.Common.{string_bytes}
use Rattle.shm_debug.proofs.Paged.{manager_told}
use Rattle.shm_debug.proofs.printed_text.page.tell_manager.Goals as goal

pub returns-in-Some : goal.returns-in-Some
returns-in-Some g c = λ o same found tells.
    manager_told c.tell_book.result o c.args.page c.args.shown c.args.book c.in-Some.book (string_bytes c.args.out.now) (string_bytes c.tell_book.new.out)
    c.if-is_none.ensures c.in-Some.is same found tells c.tell_book.ensures
