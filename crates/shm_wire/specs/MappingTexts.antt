-- The texts that tell a site's machine of mapped pages.
use Rattle.std.specs.Prelude.{ℕ, List, [], ◌∷◌, ◌++◌, codes, Option, None, Some}
use Rattle.std.specs.Fmt.{decimal}
use Rattle.std.specs.List.{flat_map, join_with_byte}
use Rattle.base64.specs.Engines.{standard}
use Rattle.base64.specs.GeneralPurpose.{encode_of}
use Rattle.shm_place.specs.declared.page_id.PageId.{PageId}
use Rattle.shm_model.specs.declared.request_kind.Kind.{Kind}
use Rattle.shm_wire.specs.Words.{kind_word}
use Rattle.shm_wire.specs.declared.mapping_text.Mapping.{Mapping}

-- the answer to a map: the page's bytes' base64
abbrev pub mapped_text : List ℕ → List ℕ
mapped_text bytes = codes "mapped " ++ encode_of standard bytes

-- the answer to a map of a page that was mapped to read: the bytes are those that were mapped
abbrev pub raised_text : List ℕ
raised_text = codes "mapped"

-- the answer to an unmap, and to a sync
abbrev pub unmapped_text : List ℕ
unmapped_text = codes "unmapped"

abbrev pub synced_text : List ℕ
synced_text = codes "synced"

-- ---- what is mapped

-- with a blank before each word
abbrev pub mapping_text : Mapping → List ℕ
mapping_text m = 32 ∷ (decimal m.at ++ 32 ∷ (decimal m.page.index ++ 32 ∷ kind_word m.kind))

abbrev pub mappings_text : List Mapping → List ℕ
mappings_text mappings = codes "mappings" ++ flat_map mapping_text mappings

-- ---- to be given up so far

abbrev pub keeps_word : Option Kind → List ℕ
keeps_word None = codes "none"
keeps_word (Some kind) = kind_word kind

abbrev pub revoke_text : PageId → Option Kind → List ℕ
revoke_text page keeps = join_with_byte 32 (codes "revoke" ∷ decimal page.seg ∷ decimal page.index ∷ keeps_word keeps ∷ [])
