-- Loads or stores of asks that wait, made one after another: they are recorded as a row, in one entry.
use Rattle.std.specs.Prelude.{ℕ, ◌+◌, ◌==◌, ◌&&◌, Bool, List, [], ◌∷◌, ◌++◌, Option, Some, None, if◌then◌else◌, length, nat_lt, slice_index, option_map}
use Rattle.std.specs.Str.{bytes_eq}
use Rattle.shm_place.specs.Limits.{page_bytes}
use Rattle.shm_model.specs.declared.asked_access.Asked.{Asked}
use Rattle.shm_model.specs.declared.asked_access.Asked.TheVariants.{Load, Store}
use Rattle.shm_wire.specs.Line as stream
use Rattle.shm_wire.specs.declared.caller_ask.Question.{Question}
use Rattle.shm_wire.specs.declared.caller_ask.Question.TheVariants as question
use Rattle.shm_process.specs.Access.{access_ask}
use Rattle.shm_process.specs.Cause.{Cause, OfLine, OfRestart}
use Rattle.shm_process.specs.Causes.{loads, stores}
use Rattle.shm_process.specs.Recorded.{Entry}

-- so many loads, or stores of these bytes
pub data Accesses : Type 0 where
  Loads : ℕ → Accesses
  Stores : List ℕ → Accesses

-- under one tag, through one attachment, at one offset after another, and under one clock after another; the first ones
pub record Row : Type 0 where
  pub clock : ℕ
  pub tag : List ℕ
  pub at : ℕ
  pub offset : ℕ
  pub accesses : Accesses

abbrev pub size : Accesses → ℕ
size (Loads count) = count
size (Stores bytes) = length bytes

-- ---- how a row grows

-- a row of one
abbrev pub row_of : ℕ → List ℕ → Asked → Row
row_of clock tag (Load at offset) = record { clock = clock; tag = tag; at = at; offset = offset; accesses = Loads 1 }
row_of clock tag (Store at offset byte) = record { clock = clock; tag = tag; at = at; offset = offset; accesses = Stores (byte ∷ []) }

-- the second goes on where the first ends, which has less than a page's bytes
abbrev pub follows : Row → Row → Bool
follows row next =
    let count = size row.accesses in
    bytes_eq row.tag next.tag && (row.at == next.at) && (row.offset + count == next.offset) && (row.clock + count == next.clock) && nat_lt count page_bytes

abbrev pub both : Accesses → Accesses → Option Accesses
both (Loads count) (Loads more) = Some (Loads (count + more))
both (Loads count) (Stores more) = None
both (Stores bytes) (Loads more) = None
both (Stores bytes) (Stores more) = Some (Stores (bytes ++ more))

abbrev pub with_accesses : Row → Accesses → Row
with_accesses row accesses = record row { accesses = accesses }

-- both as one row, if they are one
abbrev pub joined : Row → Row → Option Row
joined row next = if follows row next then option_map (with_accesses row) (both row.accesses next.accesses) else None

-- ---- how it is recorded

-- a row of one as the access alone
abbrev pub accesses_cause : ℕ → Row → Accesses → Cause
accesses_cause site row (Loads count) =
    OfLine (stream.Ask (if count == 1 then access_ask site row.tag (Load row.at row.offset)
    else record { site = site; tag = row.tag; asked = question.Read row.at row.offset count }))
accesses_cause site row (Stores bytes) =
    OfLine (if length bytes == 1 then stream.Ask (access_ask site row.tag (Store row.at row.offset (slice_index bytes 0)))
    else stream.Write (record { site = site; tag = row.tag; at = row.at; offset = row.offset; bytes = bytes }))

abbrev pub row_entry : ℕ → Row → Entry
row_entry site row = record { clock = row.clock; cause = accesses_cause site row row.accesses }

-- the steps of it
abbrev pub accesses_steps : ℕ → Row → Accesses → List Cause
accesses_steps site row (Loads count) = loads site row.tag row.at row.offset count
accesses_steps site row (Stores bytes) = stores site row.tag row.at row.offset bytes

-- ---- which steps make a row

abbrev pub row_asked : ℕ → List ℕ → Question → Option Row
row_asked clock tag (question.Access asked) = Some (row_of clock tag asked)
row_asked clock tag (question.Try asked) = None
row_asked clock tag (question.Read at offset count) = None
row_asked clock tag (question.Begin request) = None
row_asked clock tag question.Tick = None
row_asked clock tag (question.Show page) = None
row_asked clock tag question.Health = None
row_asked clock tag (question.Map at index kind) = None
row_asked clock tag question.Mappings = None

-- an access of a caller does
abbrev pub row_in : ℕ → Cause → Option Row
row_in clock (OfLine (stream.Envelope sent)) = None
row_in clock (OfLine (stream.Ask ask)) = row_asked clock ask.tag ask.asked
row_in clock (OfLine (stream.Write write)) = None
row_in clock (OfLine (stream.Unmap ask)) = None
row_in clock OfRestart = None
