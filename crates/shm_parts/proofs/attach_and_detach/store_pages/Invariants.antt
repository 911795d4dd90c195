use Rattle.std.proofs.Common.{◌≡◌, ℕ, ◌<◌, true}
use Rattle.shm_place.specs.declared.page_id.PageId.{PageId as Page}
use Rattle.shm_place.specs.Page.{manager_of}
use Rattle.shm_model.specs.Site.{untouched}
use Rattle.shm_parts.specs.Entries.{entries_of, is_stored}
use Rattle.shm_parts.specs.Reach.{manages}
use Rattle.shm_parts.proofs.attach_and_detach.store_pages.Given as goal

abbrev pub invariant-pages : goal.invariant-pages
invariant-pages g l = record {
  same : entries_of (untouched l.sites l.me) l.entries ≡ entries_of (untouched l.sites l.me) l.fn.entries;
  stored : (index : ℕ) → index < l.index → manages l.sites l.me (record { seg = l.id; index = index }) ≡ true → is_stored l.entries (record { seg = l.id; index = index }) ≡ true;
  manager : l.manager ≡ manager_of l.sites (record { seg = l.id; index = l.index });
  below : l.manager < l.sites;
  others : (other : Page) → is_stored l.fn.entries other ≡ true → is_stored l.entries other ≡ true;
}
