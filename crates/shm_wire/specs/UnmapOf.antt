-- Mappings that are given up, or whose bytes are brought, of the code, as the definitions speak of them.
use Rattle.std.specs.Prelude.{map}
use Rattle.shm_wire.specs.TagOf.{tag_text}
use Rattle.shm_wire.specs.Unmaps as wire
use Rattle.shm_wire.specs.declared.unmap_ask.Run.{Run}
use Rattle.shm_wire.specs.declared.unmap_ask.UnmapAsk.{UnmapAsk}

abbrev pub run_in : {A : Type 0} → Run A → wire.Run
run_in run = record { offset = run.offset; bytes = run.bytes.items }

abbrev pub unmap_in : {A : Type 0} → UnmapAsk A → wire.UnmapAsk
unmap_in unmap =
    record { site = unmap.site; tag = tag_text unmap.tag; at = unmap.at; index = unmap.index; keeps = unmap.keeps; runs = map run_in unmap.runs.items }
