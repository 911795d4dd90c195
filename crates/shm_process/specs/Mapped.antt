-- The pages of a site that its machine maps: processors load and store there without a step of the site. So no envelope is taken that asks
-- for more than the machine has given up, and no access of the site passes the machine's memory by.
use Rattle.std.specs.Prelude.{ℕ, ◌+◌, ◌*◌, Bool, true, false, ◌||◌, not, List, [], ◌∷◌, ◌++◌, Option, None, Some, ◌==◌, if◌then◌else◌, min, option_and_then}
use Rattle.std.specs.List.{filter_map, find, list_any}
use Rattle.shm_place.specs.declared.page_id.PageId.{PageId}
use Rattle.shm_place.specs.Limits.{page_bytes}
use Rattle.shm_place.specs.Page.{same_page}
use Rattle.shm_model.specs.declared.asked_access.Asked.{Asked}
use Rattle.shm_model.specs.declared.asked_access.Asked.TheVariants as asked
use Rattle.shm_model.specs.declared.call.Request.{Request}
use Rattle.shm_model.specs.declared.call.Request.TheVariants as request
use Rattle.shm_model.specs.declared.request_kind.Kind.{Kind}
use Rattle.shm_model.specs.declared.request_kind.Kind.TheVariants.{Read, Write}
use Rattle.shm_model.specs.Access.{right}
use Rattle.shm_model.specs.Book.{is_write}
use Rattle.shm_model.specs.Message.{Message}
use Rattle.shm_model.specs.Site.{Site}
use Rattle.shm_parts.specs.Reached.{page_reached}
use Rattle.shm_mapping.specs.Mapped.{Mapped}
use Rattle.shm_mapping.specs.Verdicts.{verdict_at}
use Rattle.shm_mapping.specs.declared.envelope_verdict.Verdict.{Verdict}
use Rattle.shm_mapping.specs.declared.envelope_verdict.Verdict.TheVariants.{Take, UnmapToRead}
use Rattle.shm_wire.specs.declared.mapping_text.Mapping.{Mapping}

-- ---- what is mapped

abbrev pub mapped_at : PageId → List Mapping → Option Mapping
mapped_at page mapped = find (λ m. same_page page m.page) mapped

-- what stays of a page's mapping
abbrev pub kept_as : Option Kind → Mapping → Option Mapping
kept_as None m = None
kept_as (Some Read) m = Some (record m { kind = Read })
kept_as (Some Write) m = Some m

abbrev pub left_of : PageId → Option Kind → Mapping → Option Mapping
left_of page keeps m = if same_page page m.page then kept_as keeps m else Some m

-- what is mapped once the page is given up so far
abbrev pub lowered : PageId → Option Kind → List Mapping → List Mapping
lowered page keeps mapped = filter_map (left_of page keeps) mapped

-- what is mapped to write stays so, and its bytes are the machine's
abbrev pub mapped_for : Mapping → Option Mapping → Mapping
mapped_for new None = new
mapped_for new (Some old) = if is_write old.kind then old else new

-- a page is mapped once
abbrev pub remapped : Mapping → List Mapping → List Mapping
remapped new mapped = lowered new.page None mapped ++ mapped_for new (mapped_at new.page mapped) ∷ []

-- ---- where a page is

-- the greatest offset, which no segment has
abbrev pub last_offset : ℕ
last_offset = 4294967295

-- the offset of a byte of the page with this index
abbrev pub byte_place : ℕ → ℕ → ℕ
byte_place index place = min (index * page_bytes + place) last_offset

abbrev pub page_at : Site → ℕ → ℕ → Option PageId
page_at site at offset = page_reached (right site.attachments at offset false)

abbrev pub mapped_there : List Mapping → Site → ℕ → ℕ → Option Mapping
mapped_there mapped site at offset = option_and_then (λ page. mapped_at page mapped) (page_at site at offset)

-- ---- what isn't taken while a page is mapped

abbrev pub is_take : Verdict → Bool
is_take Take = true
is_take _ = false

abbrev pub as_mapped : Mapping → Mapped
as_mapped m = record { page = m.page; kind = m.kind; memory = [] }

abbrev pub verdict_for : ℕ → Message → Mapping → Verdict
verdict_for me message m = verdict_at me message (as_mapped m)

-- the mapping that an envelope asks for, if it asks for one
abbrev pub wanted : ℕ → Message → List Mapping → Option Mapping
wanted me message mapped = find (λ m. not (is_take (verdict_for me message m))) mapped

-- what may stay mapped
abbrev pub keeps_under : Verdict → Option Kind
keeps_under UnmapToRead = Some Read
keeps_under _ = None

-- a load would give a byte that the machine's memory has newer, and a store one that the machine's memory lacked
abbrev pub passed_by : Bool → Option Mapping → Option Mapping
passed_by stores None = None
passed_by stores (Some m) = if stores || is_write m.kind then Some m else None

-- the mapping that an access passes by, if it does
abbrev pub passing : List Mapping → Site → Asked → Option Mapping
passing mapped site (asked.Load at offset) = passed_by false (mapped_there mapped site at offset)
passing mapped site (asked.Store at offset byte) = passed_by true (mapped_there mapped site at offset)

abbrev pub keeps_beside : Asked → Option Kind
keeps_beside (asked.Load at offset) = Some Read
keeps_beside (asked.Store at offset byte) = None

-- a page is mapped through the attachment
abbrev pub is_mapped_through : ℕ → List Mapping → Bool
is_mapped_through at mapped = list_any (λ m. m.at == at) mapped

abbrev pub is_detained : List Mapping → Request → Bool
is_detained mapped (request.DetachAt at) = is_mapped_through at mapped
is_detained mapped (request.Op op) = false
