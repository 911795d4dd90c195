use Rattle.std.proofs.Common.{◌≡◌, ◌++◌, take}
use Rattle.std.specs.Prelude.{map}
use Rattle.shm_parts.specs.Listed.{kept_book}
use Rattle.shm_state.specs.Telling.{AreOrdered, said_by}
use Rattle.shm_state.specs.declared.told_stage.Stage.TheVariants as stage
use Rattle.shm_state.proofs.tell_pages.tell_books_of.Given as goal

abbrev pub invariant-pages : goal.invariant-pages
invariant-pages g l = record {
  said : said_by l.out.items ≡ record (said_by l.initial.out.items) { books = (said_by l.initial.out.items).books ++ map (kept_book l.me l.books) (take l.page-index l.pages) };
  order : AreOrdered stage.Books l.out.items;
}
