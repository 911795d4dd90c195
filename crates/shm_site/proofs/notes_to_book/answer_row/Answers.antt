use Rattle.std.proofs.Common.{refl}
use Rattle.shm_site.proofs.CallSteps.{served}
use Rattle.shm_site.proofs.notes_to_book.answer_row.Goals as goal

pub returns-in-Taken : goal.returns-in-Taken
returns-in-Taken g c = λ site. rw c.in-Taken.is (served site refl c.send_orders.ensures)
