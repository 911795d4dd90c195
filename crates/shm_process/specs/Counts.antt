-- What a desk counts: the lines that it didn't open; the envelopes that made a step, and those that were sent; the bytes of its journal; and
-- when it started.
use Rattle.std.specs.Prelude.{ℕ, ◌+◌, Bool, true, false, List, if◌then◌else◌, length, min}
use Rattle.shm_model.specs.Basics.{greatest}
use Rattle.shm_process.specs.Cause.{Cause, OfLine, OfRestart}
use Rattle.shm_process.specs.Node.{Said}
use Rattle.shm_process.specs.Unopened.{Unopened, none_unopened, one_unopened}
use Rattle.shm_process.specs.Waiting.{counted}
use Rattle.shm_process.specs.declared.process_counts.Start.{Start}
use Rattle.shm_seal.specs.declared.open_line_error.Unsealed.{Unsealed}
use Rattle.shm_wire.specs.Line as stream

-- when it started is in seconds since 1970
pub record Counts : Type 0 where
  pub unopened : Unopened
  pub received : ℕ
  pub sent : ℕ
  pub journal : ℕ
  pub since : ℕ

-- with a journal of so many bytes, at this time
abbrev pub counts_from : Start → Counts
counts_from start = record { unopened = none_unopened; received = 0; sent = 0; journal = start.journal; since = start.since }

-- so many more, up to the greatest number
abbrev pub counted_on : ℕ → ℕ → ℕ
counted_on count more = min (count + more) greatest

abbrev pub with_unopened : Unsealed → Counts → Counts
with_unopened why counts = record counts { unopened = one_unopened why counts.unopened }

-- this is recorded
abbrev pub with_text : List ℕ → Counts → Counts
with_text text counts = record counts { journal = counted_on counts.journal (length text) }

abbrev pub is_envelope : stream.Line → Bool
is_envelope (stream.Envelope sent) = true
is_envelope (stream.Ask ask) = false
is_envelope (stream.Write write) = false
is_envelope (stream.Unmap unmap) = false

-- what made a step came from a site
abbrev pub was_received : Cause → Bool
was_received (OfLine line) = is_envelope line
was_received OfRestart = false

-- a step was made
abbrev pub with_said : Said → Counts → Counts
with_said said counts = record counts {
  received = if was_received said.cause then counted counts.received else counts.received;
  sent = counted_on counts.sent (length said.sent);
}
