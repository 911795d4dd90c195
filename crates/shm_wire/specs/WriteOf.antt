-- Bytes that are to be stored, of the code, as the definitions speak of them.
use Rattle.shm_wire.specs.TagOf.{tag_text}
use Rattle.shm_wire.specs.Writes as wire
use Rattle.shm_wire.specs.declared.block_write.WriteAsk.{WriteAsk}

abbrev pub write_of : {A : Type 0} → WriteAsk A → wire.WriteAsk
write_of write = record { site = write.site; tag = tag_text write.tag; at = write.at; offset = write.offset; bytes = write.bytes.items }
