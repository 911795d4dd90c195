use Rattle.std.proofs.Common.{take}
use Rattle.std.specs.Fmt.{HasWritten, IsPlainFormatter}
use Rattle.std.specs.List.{flat_map}
use Rattle.shm_wire.specs.MappingTexts.{mapping_text}
use Rattle.shm_wire.proofs.mapping_text.MappingsTextDisplay.fmt.Given as goal

abbrev pub invariant-mappings : goal.invariant-mappings
invariant-mappings g l =
    IsPlainFormatter l.initial.f → HasWritten g.W.Write.write_str_gives l.initial.f (flat_map mapping_text (take l.mapping-index l.mapping-items)) l.f
