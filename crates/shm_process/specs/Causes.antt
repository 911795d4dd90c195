-- The steps that one recorded line stands for. A block that is loaded stands for so many loads, one that is stored for so many stores; an unmap
-- for a store of each byte that it brings, and then its own step. Any other line stands for one step.
use Rattle.std.specs.Prelude.{ℕ, zero, suc, ◌+◌, List, [], ◌∷◌, ◌++◌}
use Rattle.shm_model.specs.declared.asked_access.Asked.TheVariants.{Load, Store}
use Rattle.shm_wire.specs.Asks.{Ask}
use Rattle.shm_wire.specs.Line as stream
use Rattle.shm_wire.specs.Unmaps.{Run, UnmapAsk}
use Rattle.shm_wire.specs.declared.caller_ask.Question.{Question}
use Rattle.shm_wire.specs.declared.caller_ask.Question.TheVariants as question
use Rattle.shm_process.specs.Access.{access_ask}
use Rattle.shm_process.specs.Cause.{Cause, OfLine, OfRestart}

-- loads of so many bytes, one after another from an offset on
unfoldable pub loads : ℕ → List ℕ → ℕ → ℕ → ℕ → List Cause
loads site tag at offset zero = []
loads site tag at offset (suc n) = OfLine (stream.Ask (access_ask site tag (Load at offset))) ∷ loads site tag at (offset + 1) n

-- stores of these bytes
unfoldable pub stores : ℕ → List ℕ → ℕ → ℕ → List ℕ → List Cause
stores site tag at offset [] = []
stores site tag at offset (byte ∷ bytes) =
    OfLine (stream.Ask (access_ask site tag (Store at offset byte))) ∷ stores site tag at (offset + 1) bytes

-- a byte that an unmap brings
abbrev pub store_line : UnmapAsk → ℕ → ℕ → stream.Line
store_line ask offset byte = stream.Ask (record { site = ask.site; tag = ask.tag; asked = question.Try (Store ask.at offset byte) })

unfoldable pub brought_run : UnmapAsk → ℕ → List ℕ → List Cause
brought_run ask offset [] = []
brought_run ask offset (byte ∷ bytes) = OfLine (store_line ask offset byte) ∷ brought_run ask (offset + 1) bytes

unfoldable pub brought_runs : UnmapAsk → List Run → List Cause
brought_runs ask [] = []
brought_runs ask (run ∷ runs) = brought_run ask run.offset run.bytes ++ brought_runs ask runs

-- an unmap that brings no more bytes
abbrev pub bare : UnmapAsk → UnmapAsk
bare ask = record ask { runs = [] }

abbrev pub unmap_causes : UnmapAsk → List Cause
unmap_causes ask = brought_runs ask ask.runs ++ OfLine (stream.Unmap (bare ask)) ∷ []

abbrev pub asked_causes : Ask → Question → List Cause
asked_causes ask (question.Read at offset count) = loads ask.site ask.tag at offset count
asked_causes ask (question.Access asked) = OfLine (stream.Ask ask) ∷ []
asked_causes ask (question.Try asked) = OfLine (stream.Ask ask) ∷ []
asked_causes ask (question.Begin request) = OfLine (stream.Ask ask) ∷ []
asked_causes ask question.Tick = OfLine (stream.Ask ask) ∷ []
asked_causes ask (question.Show page) = OfLine (stream.Ask ask) ∷ []
asked_causes ask question.Health = OfLine (stream.Ask ask) ∷ []
asked_causes ask (question.Map at index kind) = OfLine (stream.Ask ask) ∷ []
asked_causes ask question.Mappings = OfLine (stream.Ask ask) ∷ []

abbrev pub causes_of : Cause → List Cause
causes_of (OfLine (stream.Envelope sent)) = OfLine (stream.Envelope sent) ∷ []
causes_of (OfLine (stream.Ask ask)) = asked_causes ask ask.asked
causes_of (OfLine (stream.Write write)) = stores write.site write.tag write.at write.offset write.bytes
causes_of (OfLine (stream.Unmap ask)) = unmap_causes ask
causes_of OfRestart = OfRestart ∷ []
