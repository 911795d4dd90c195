-- A line of the code, as the definitions speak of it.
use Rattle.shm_wire.specs.Asks.{ask_of}
use Rattle.shm_wire.specs.Line as wire
use Rattle.shm_wire.specs.SentOf.{sent_of}
use Rattle.shm_wire.specs.UnmapOf.{unmap_in}
use Rattle.shm_wire.specs.WriteOf.{write_of}
use Rattle.shm_wire.specs.declared.stream_line.Line.{Line}
use Rattle.shm_wire.specs.declared.stream_line.Line.TheVariants as code

abbrev pub line_of : {A : Type 0} → Line A → wire.Line
line_of (code.Envelope sent) = wire.Envelope (sent_of sent)
line_of (code.Ask ask) = wire.Ask (ask_of ask)
line_of (code.Write write) = wire.Write (write_of write)
line_of (code.Unmap unmap) = wire.Unmap (unmap_in unmap)
