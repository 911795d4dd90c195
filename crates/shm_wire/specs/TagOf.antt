-- A tag of the code, as the definitions speak of it.
use Rattle.std.specs.Prelude.{ℕ, List, take}
use Rattle.shm_wire.specs.declared.caller_tag.Tag.{Tag}

abbrev pub tag_text : Tag → List ℕ
tag_text tag = take tag.length tag.bytes
