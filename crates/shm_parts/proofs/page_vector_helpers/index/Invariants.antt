use Rattle.std.proofs.Common.{◌≡◌, ◌+◌, ◌≤◌, length, take, vec_len}
use Rattle.indexmap.specs.IndexMap.{spare}
use Rattle.shm_parts.specs.OrderedPages.{is_found, standing}
use Rattle.shm_parts.proofs.page_vector_helpers.index.Given as goal

-- the pages before this place are found, and there is room for the others
abbrev pub invariant-rows : goal.invariant-rows
invariant-rows g l = record {
  found : is_found l.places.entries (take l.place l.rows.items);
  count : length l.places.entries ≡ length (standing (take l.place l.rows.items));
  room : vec_len l.rows ≤ l.place + spare l.places;
}
