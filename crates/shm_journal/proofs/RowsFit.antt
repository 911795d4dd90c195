-- A row of loads or stores has a line that a site takes.
use Rattle.std.proofs.Common.{ℕ, ◌==◌, Bool, true, false, List, cond, length, refl, arith}
use Rattle.std.specs.Prelude.{codes, slice_index}
use Rattle.std.specs.Fmt.{decimal}
use Rattle.shm_model.specs.declared.asked_access.Asked.TheVariants.{Load, Store}
use Rattle.shm_wire.specs.Asks.{Ask, IsAsk}
use Rattle.shm_wire.specs.BytesWord.{bytes_word}
use Rattle.shm_wire.specs.Line as stream
use Rattle.shm_wire.specs.Line.{IsLine}
use Rattle.shm_wire.specs.Writes.{IsWrite, WriteAsk}
use Rattle.shm_wire.specs.declared.caller_ask.Question.TheVariants as question
use Rattle.shm_process.specs.Access.{access_ask}
use Rattle.shm_process.specs.Cause.{IsCause, cause_text}
use Rattle.shm_process.specs.Desk.{max_line_bytes}
use Rattle.shm_process.specs.Rows.{Accesses, Loads, Stores, Row, accesses_cause, row_entry}
use Rattle.shm_journal.proofs.BytesFit.{fits_bytes}
use Rattle.shm_journal.proofs.Fits.{Fits, fits-access, fits-more, fits-number, fits-tag, fits-text, fits-word}

-- bytes that are read
abbrev read_ask : ℕ → List ℕ → ℕ → ℕ → ℕ → Ask
read_ask site tag at offset count = record { site = site; tag = tag; asked = question.Read at offset count }

fits-read : (site : ℕ) (tag : List ℕ) (at offset count : ℕ) → IsAsk (read_ask site tag at offset count)
    → Fits max_line_bytes (stream.line_text (stream.Ask (read_ask site tag at offset count)))
fits-read site tag at offset count h =
    fits-more 125 max_line_bytes _ (omega arith)
    (
    fits-word 3 121 (codes "ask") _ (fits-text (codes "ask") refl)
    (fits-word 20 100 (decimal site) _ (fits-number site h.0)
    (fits-word 32 67 tag _ (fits-tag tag h.1)
    (fits-word 4 62 (codes "read") _ (fits-text (codes "read") refl)
    (fits-word 20 41 (decimal at) _ (fits-number at h.2.0)
    (fits-word 20 20 (decimal offset) (decimal count) (fits-number offset h.2.1) (fits-number count h.2.2))))))
    )

-- bytes that are stored
fits-write : (write : WriteAsk) → IsWrite write → Fits max_line_bytes (stream.line_text (stream.Write write))
fits-write write h =
    fits-more 5570 max_line_bytes _ (omega arith)
    (
    fits-word 3 5566 (codes "ask") _ (fits-text (codes "ask") refl)
    (fits-word 20 5545 (decimal write.site) _ (fits-number write.site h.0)
    (fits-word 32 5512 write.tag _ (fits-tag write.tag h.1)
    (fits-word 5 5506 (codes "write") _ (fits-text (codes "write") refl)
    (fits-word 20 5485 (decimal write.at) _ (fits-number write.at h.2)
    (fits-word 20 5464 (decimal write.offset) (bytes_word write.bytes) (fits-number write.offset h.3) (fits_bytes write.offset write.bytes h.4))))))
    )

-- one load, or more
fits-loads : (site : ℕ) (row : Row) (count : ℕ) (one : Bool)
    → let line = stream.Ask (cond one (access_ask site row.tag (Load row.at row.offset)) (read_ask site row.tag row.at row.offset count)) in
    IsLine line → Fits max_line_bytes (stream.line_text line)
fits-loads site row count true h = fits-access site row.tag (Load row.at row.offset) h
fits-loads site row count false h = fits-read site row.tag row.at row.offset count h

abbrev write_ask : ℕ → Row → List ℕ → WriteAsk
write_ask site row bytes = record { site = site; tag = row.tag; at = row.at; offset = row.offset; bytes = bytes }

fits-stores : (site : ℕ) (row : Row) (bytes : List ℕ) (one : Bool)
    → let line = cond one (stream.Ask (access_ask site row.tag (Store row.at row.offset (slice_index bytes 0)))) (stream.Write (write_ask site row bytes)) in
    IsLine line → Fits max_line_bytes (stream.line_text line)
fits-stores site row bytes true h = fits-access site row.tag (Store row.at row.offset (slice_index bytes 0)) h
fits-stores site row bytes false h = fits-write (write_ask site row bytes) h

fits-accesses : (site : ℕ) (row : Row) (accesses : Accesses) → IsCause (accesses_cause site row accesses)
    → Fits max_line_bytes (cause_text (accesses_cause site row accesses))
fits-accesses site row (Loads count) h = fits-loads site row count (count == 1) h
fits-accesses site row (Stores bytes) h = fits-stores site row bytes (length bytes == 1) h

pub fits_row : (site : ℕ) (row : Row) → IsCause (row_entry site row).cause → Fits max_line_bytes (cause_text (row_entry site row).cause)
fits_row site row h = fits-accesses site row row.accesses h
