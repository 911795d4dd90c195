use Rattle.std.proofs.Common.{List, ap}
use Rattle.shm_model.specs.Site.{Pending, Site}
use Rattle.shm_parts.specs.Books.{booked_of, books_of}
use Rattle.shm_parts.specs.Holdings.{held_entries, held_frames}
use Rattle.shm_parts.specs.Purged.{purged_of}
use Rattle.shm_attach.specs.Attachments.{attachments_of}
use Rattle.shm_attach.specs.Home.{kept_of}
use Rattle.shm_keys.specs.Table.{missing_of}
use Rattle.shm_site.proofs.site.Site.restored.Goals as goal

pub returns-clause-site : goal.returns-clause-site
returns-clause-site g c =
    let a = c.args in
    let with_pending : List Pending → Site = λ pending. record {
      entries = held_entries a.sites a.me a.holdings;
      books = books_of a.me a.books;
      booked = booked_of a.books;
      requests = a.requests;
      calls = a.calls.begun;
      outstanding = a.calls.outstanding;
      attachments = attachments_of a.holdings.attachments;
      table = a.home.table.segments;
      kept = kept_of a.home.kept;
      missing = missing_of a.home.table;
      purged = purged_of a.holdings.purged;
      frames = held_frames a.holdings.frames;
      pending = pending;
    } in
    ap with_pending c.new.ensures
