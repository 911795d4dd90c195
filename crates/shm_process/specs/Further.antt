-- Further loads or stores of a block, made at once: which may be, and what they leave. They are so many steps, and leave what these leave one
-- by one.
use Rattle.std.specs.Prelude.{◌≡◌, ℕ, ◌+◌, ◌<◌, ◌≤◌, Bool, true, false, List, [], ◌∷◌, ◌++◌, Ok, drop, length, nat_lt, slice_set, take}
use Rattle.shm_place.specs.Limits.{page_bytes}
use Rattle.shm_model.specs.declared.asked_access.Asked.{Asked}
use Rattle.shm_model.specs.declared.asked_access.Asked.TheVariants.{Load, Store}
use Rattle.shm_model.specs.Access.{Place, right, store}
use Rattle.shm_model.specs.Basics.{greatest}
use Rattle.shm_model.specs.Entry.{bytes, readable, writable}
use Rattle.shm_model.specs.Site.{Site}
use Rattle.shm_process.specs.Blocks.{Block}
use Rattle.shm_process.specs.Counts.{counted_on}
use Rattle.shm_process.specs.Node.{Node}
use Rattle.shm_process.specs.Rows.{Loads, Row, Stores, size}
use Rattle.shm_process.specs.WaitingAsks.{Access, Reads, WaitingAsk, Writes, ask_in}
use Rattle.shm_process.specs.Writes.{Write}

-- ---- loads

-- loads of the block at this place give these bytes: they are of one page that the site may read, some of the block is left, and there is a
-- clock for each
pub record LoadsOf (node : Node) (at : ℕ) (more : List ℕ) (block : Block) (place : Place) : Type 0 where
  pub is : ask_in node.waiting at ≡ Reads block
  pub left : length block.bytes + length more < block.count
  pub clocks : node.clock + length more ≤ greatest
  pub leads : right node.site.attachments block.at (block.offset + length block.bytes) false ≡ Ok place
  pub reads : readable (node.site.entries place.page) ≡ true
  pub inside : place.within + length more ≤ page_bytes
  pub given : more ≡ take (length more) (drop place.within (bytes (node.site.entries place.page)))

abbrev pub MayLoad : Node → ℕ → List ℕ → Type 0
MayLoad node at more = (block : Block) × (place : Place) × LoadsOf node at more block place

-- so many bytes more aren't all of it
abbrev pub leaves_loads : WaitingAsk → ℕ → Bool
leaves_loads (Access tag asked) count = true
leaves_loads (Reads block) count = nat_lt (length block.bytes + count) block.count
leaves_loads (Writes write) count = true

abbrev pub with_loaded : WaitingAsk → List ℕ → WaitingAsk
with_loaded (Access tag asked) more = Access tag asked
with_loaded (Reads block) more = Reads (record block { bytes = block.bytes ++ more })
with_loaded (Writes write) more = Writes write

abbrev pub after_loads : Node → ℕ → List ℕ → Node
after_loads node at more = record node {
  clock = node.clock + length more;
  steps = node.steps + length more;
  waiting = slice_set node.waiting at (with_loaded (ask_in node.waiting at) more);
}

-- ---- stores

-- so many stores, the first at this offset, are of one page that the site may write
pub record StoresAt (site : Site) (at offset count : ℕ) (place : Place) : Type 0 where
  pub leads : right site.attachments at offset true ≡ Ok place
  pub writes : writable (site.entries place.page) ≡ true
  pub inside : place.within + count ≤ page_bytes

-- the site after them
unfoldable pub stored_from : ℕ → ℕ → ℕ → ℕ → List ℕ → Site → Site
stored_from sites me at offset [] site = site
stored_from sites me at offset (byte ∷ more) site = stored_from sites me at (offset + 1) more (store sites me at offset byte site).site

-- the block at this place has these bytes stored next, some of it is left, and there is a clock for each
pub record StoresOf (node : Node) (at : ℕ) (more : List ℕ) (write : Write) (place : Place) : Type 0 where
  pub is : ask_in node.waiting at ≡ Writes write
  pub left : write.stored + length more < length write.bytes
  pub clocks : node.clock + length more ≤ greatest
  pub stores : StoresAt node.site write.at (write.offset + write.stored) (length more) place
  pub given : more ≡ take (length more) (drop write.stored write.bytes)

abbrev pub MayStore : Node → ℕ → List ℕ → Type 0
MayStore node at more = (write : Write) × (place : Place) × StoresOf node at more write place

abbrev pub leaves_stores : WaitingAsk → ℕ → Bool
leaves_stores (Access tag asked) count = true
leaves_stores (Reads block) count = true
leaves_stores (Writes write) count = nat_lt (write.stored + count) (length write.bytes)

abbrev pub with_stored : WaitingAsk → ℕ → WaitingAsk
with_stored (Access tag asked) count = Access tag asked
with_stored (Reads block) count = Reads block
with_stored (Writes write) count = Writes (record write { stored = write.stored + count })

abbrev pub site_stored : Node → WaitingAsk → List ℕ → Site
site_stored node (Access tag asked) more = node.site
site_stored node (Reads block) more = node.site
site_stored node (Writes write) more = stored_from node.sites node.me write.at (write.offset + write.stored) more node.site

abbrev pub after_stores : Node → ℕ → List ℕ → Node
after_stores node at more = record node {
  site = site_stored node (ask_in node.waiting at) more;
  clock = node.clock + length more;
  steps = node.steps + length more;
  waiting = slice_set node.waiting at (with_stored (ask_in node.waiting at) (length more));
}

-- ---- bytes that an unmap brings

-- so many bytes that are brought can be stored here at once, and there is a clock for each
pub record Brings (node : Node) (site at offset count : ℕ) (place : Place) : Type 0 where
  pub here : site ≡ node.me
  pub clocks : node.clock + count ≤ greatest
  pub stores : StoresAt node.site at offset count place

abbrev pub MayBring : Node → ℕ → ℕ → ℕ → ℕ → Type 0
MayBring node site at offset count = (place : Place) × Brings node site at offset count place

abbrev pub after_brought : Node → ℕ → ℕ → List ℕ → Node
after_brought node at offset more = record node {
  site = stored_from node.sites node.me at offset more node.site;
  clock = node.clock + length more;
  steps = node.steps + length more;
  taken = counted_on node.taken (length more);
}

-- ---- the row that they join

-- so many more accesses, from this offset and clock on, go on with the row
pub record GoesOn (row : Row) (clock : ℕ) (tag : List ℕ) (at offset count : ℕ) : Type 0 where
  pub same_tag : row.tag ≡ tag
  pub same_at : row.at ≡ at
  pub offsets : row.offset + size row.accesses ≡ offset
  pub clocks : row.clock + size row.accesses ≡ clock
  pub few : size row.accesses + count ≤ page_bytes

-- it is a row of loads, and they are; and so of stores
abbrev pub LoadsGoOn : Row → ℕ → List ℕ → Asked → ℕ → Type 0
LoadsGoOn row clock tag (Load at offset) count = (loads : ℕ) × (row.accesses ≡ Loads loads) × GoesOn row clock tag at offset count
LoadsGoOn row clock tag (Store at offset byte) count = ⊥

abbrev pub StoresGoOn : Row → ℕ → List ℕ → Asked → ℕ → Type 0
StoresGoOn row clock tag (Load at offset) count = ⊥
StoresGoOn row clock tag (Store at offset byte) count = (stored : List ℕ) × (row.accesses ≡ Stores stored) × GoesOn row clock tag at offset count
