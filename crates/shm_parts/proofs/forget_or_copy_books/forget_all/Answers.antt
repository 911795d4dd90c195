use Rattle.std.proofs.Common.{◌≤◌, length, refl, arith}
use Rattle.shm_parts.proofs.BookSteps.{forget_end, forget_more, length-forgetting}
use Rattle.shm_parts.specs.Books.{viewed}
use Rattle.shm_parts.proofs.forget_or_copy_books.forget_all.Goals as goal

pub index_mut-requires : goal.index_mut-requires
index_mut-requires g c =
    let same = length-forgetting c.books.place c.books.books.entries c.args.books.now.entries c.books.invariant in
    let end = c.len-place-end.ensures.len in
    omega (arith, same, end)

pub books-preserved : goal.books-preserved
books-preserved g c =
    forget_more c.books.place c.books.books.entries _ (viewed c.args.books.now.entries) c.index_mut.result.now c.forget_volatile_in.new.book c.books.invariant c.index_mut.ensures.value c.forget_volatile_in.ensures refl

pub returns : goal.returns
returns g c =
    let all = c.args.books.now.entries in
    let end = c.len-place-end.ensures.len in
    let whole : length all ≤ c.books.place = omega (arith, end) in
    forget_end c.books.place c.books.books.entries all c.books.invariant whole
