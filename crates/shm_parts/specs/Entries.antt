-- The entries that a site has stored, as a function of the page; and what a message does to one of them.
use Rattle.std.specs.Prelude.{◌≡◌, ℕ, Bool, Option, Some, None, is_some, nat_lt, slice_get}
use Rattle.std.specs.Map.{keys_of, lookup}
use Rattle.shm_place.specs.declared.page_id.PageId.{PageId}
use Rattle.shm_place.specs.Page.{same_page}
use Rattle.shm_model.specs.Entry as model
use Rattle.shm_page.specs.Entry.{entry_of}
use Rattle.shm_page.specs.declared.entry.Entry.{Entry}
use Rattle.shm_parts.specs.declared.entry_change.Change.{Change}
use Rattle.shm_parts.specs.declared.page_entries.Entries.{Entries}

abbrev pub entry_or : {A : Type 0} → model.Entry → Option (Entry A) → model.Entry
entry_or rest None = rest
entry_or rest (Some entry) = entry_of entry

abbrev pub stored_at : {A : Type 0} → Entries A → PageId → Option (Entry A)
stored_at entries page = lookup (same_page page) entries.map.entries

abbrev pub is_stored : {A : Type 0} → Entries A → PageId → Bool
is_stored entries page = is_some (stored_at entries page)

-- the page's entry stands at this place among those that are stored
abbrev pub StandsAt : {A : Type 0} → PageId → ℕ → Entries A → Type 0
StandsAt page place entries = slice_get (keys_of entries.map.entries) place ≡ Some page

-- the entries as a function of the page, where `rest` says what a page is of which nothing is stored
abbrev pub entries_of : {A : Type 0} → (PageId → model.Entry) → Entries A → PageId → model.Entry
entries_of rest entries page = entry_or (rest page) (stored_at entries page)

-- the row of the entry's table
abbrev pub row : ℕ → model.Note → model.Entry → model.Entry × model.Out
row me (model.Clear n) e = model.on_clear n e
row me (model.Hand n kind to) e = model.on_hand me n kind to e
row me (model.Page n kind b) e = model.on_page n kind b e
row me _ e = (e, model.Nothing)

-- what a row changed: a newer number was met; and what the entry is now
abbrev pub change_of : model.Entry → model.Entry → Change
change_of old new = record {
  newer = nat_lt (model.seen old) (model.seen new);
  copy = model.is_copy new;
  readable = model.readable new;
  writable = model.writable new;
}
