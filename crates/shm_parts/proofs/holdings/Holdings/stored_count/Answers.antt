use Rattle.std.proofs.Common.{◌∙◌, ℕ, Bool, ap, sym}
use Rattle.std.specs.List.{list_any}
use Rattle.shm_place.specs.declared.page_id.PageId.{PageId}
use Rattle.shm_place.specs.Page.{same_page}
use Rattle.shm_parts.proofs.HeldRestoring.{copies_same}
use Rattle.shm_parts.proofs.holdings.Holdings.stored_count.Goals as goal

pub returns-clause-entries : goal.returns-clause-entries
returns-clause-entries g c = λ rest. sym (c.count.ensures.listed rest)

pub returns-clause-purged : goal.returns-clause-purged
returns-clause-purged g c = sym c.count-purged.ensures.listed

pub returns-clause-held : goal.returns-clause-held
returns-clause-held g c =
    let held = c.args.self.now in
    record {
      alive = λ number a stands. sym (ap (λ (t : ℕ → Bool). t a.id) c.count-purged.ensures.listed) ∙ held.reached.alive number a stands;
      stored = λ page among.
          sym (ap (λ (t : PageId → Bool). t page) c.count.ensures.stored) ∙ held.reached.copies page (ap (list_any (same_page page)) (copies_same held.frames) ∙ among);
      apart = c.count_standing-copies.ensures;
    }
