use Rattle.std.proofs.Common.{◌∙◌, refl, ap}
use Rattle.shm_model.specs.Site.{new_site}
use Rattle.shm_attach.specs.Home.{kept_of, kept_reply}
use Rattle.shm_parts.specs.Books.{booked_of, books_of}
use Rattle.shm_keys.specs.Purge.{missing_in}
use Rattle.shm_keys.specs.Table.{Table, missing_of}
use Rattle.shm_state.proofs.told_state.Told.new.Goals as goal

pub returns-clause-told : goal.returns-clause-told
returns-clause-told g c =
    let sites = c.args.sites in
    let me = c.args.me in
    let books = c.new-5.ensures.books me in
    let booked = c.new-5.ensures.booked in
    record {
      last = refl;
      site = c.new-4.ensures.held (record (new_site sites me) {
        books = books_of me c.new-5.result;
        booked = booked_of c.new-5.result;
        table = c.new.result.segments;
        kept = kept_of c.new-2.result;
        missing = missing_of c.new.result;
      })
          ∙ (λ i. record (new_site sites me) {
            books = books i;
            booked = booked i;
            table = (c.new.ensures i).segments;
            kept = λ j. kept_reply (c.new-2.ensures i j);
            missing = missing_in (c.new.ensures i).missing;
          });
      kept = c.new-2.ensures;
      missing = ap (λ (t : Table). t.missing) c.new.ensures;
      pages = c.new-3.ensures.empty;
    }
