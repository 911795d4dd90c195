-- How a replay ends, and what it has written by then.
use Rattle.std.specs.Prelude.{◌≡◌, ℕ, Bool, true, false, List, [], ◌++◌, length, take, Option, None, Some, Result, Ok, Err}
use Rattle.std.specs.Io.KnownBytes.{Appends, Consumes}
use Rattle.shm_debug.specs.Standing.{Standing, world_of}
use Rattle.shm_debug.specs.Said.{standing_after}
use Rattle.shm_debug.specs.Script.{Script, script_of}
use Rattle.shm_debug.specs.Output.{text_of}
use Rattle.shm_debug.specs.declared.script_summary_and_error.Summary.{Summary}
use Rattle.shm_debug.specs.declared.script_summary_and_error.DebugFault.{DebugFault}
use Rattle.shm_debug.specs.declared.script_summary_and_error.DebugFault.TheVariants.{OutOfMemory, BadLine, LineTooLong, TooManyLines, ReadFault, WriteFault}

-- so many lines; the events that stand after them, and the envelopes that were sent in their run
abbrev pub summary_at : ℕ → Option Standing → Summary
summary_at lines None = record { lines = lines; events = 0; sent = 0 }
summary_at lines (Some s) = record { lines = lines; events = length s.events; sent = length (world_of s).sent }

abbrev pub summary_of : Script → Summary
summary_of script = summary_at (length script.lines) (standing_after None script.lines)

-- the text of some whole lines, the first ones
abbrev pub IsTextOfFirst : Script → List ℕ → Type 0
IsTextOfFirst script text = (n : ℕ) × (text ≡ text_of (take n script.lines))

-- a front of the text
abbrev pub IsFrontOfText : Script → List ℕ → Type 0
IsFrontOfText script text = (rest : List ℕ) × (text_of script.lines ≡ text ++ rest)

-- the script's own fault, told with the text of the lines before it
abbrev pub IsFaultOf : Script → DebugFault → List ℕ → Type 0
IsFaultOf script fault text = (script.fault ≡ Some fault) × (text ≡ text_of script.lines)

abbrev pub Ends : Script → Result Summary DebugFault → List ℕ → Type 0
Ends script (Ok summary) text = (script.fault ≡ None) × (text ≡ text_of script.lines) × (summary ≡ summary_of script)
Ends script (Err OutOfMemory) text = IsTextOfFirst script text
Ends script (Err ReadFault) text = IsTextOfFirst script text
Ends script (Err WriteFault) text = IsFrontOfText script text
Ends script (Err (BadLine number)) text = IsFaultOf script (BadLine number) text
Ends script (Err (LineTooLong number)) text = IsFaultOf script (LineTooLong number) text
Ends script (Err TooManyLines) text = IsFaultOf script TooManyLines text

-- where reading failed, the text of all whole lines that were read was written
abbrev pub TellsAllRead : Option (List ℕ) → Option (List ℕ) → Option (List ℕ) → Option (List ℕ) → Result Summary DebugFault → Type 0
TellsAllRead remaining left old new (Err ReadFault) = (taken : List ℕ) × Consumes remaining left taken × Appends old new (text_of (script_of taken).lines)
TellsAllRead remaining left old new _ = Unit {0}

-- the same before the end, where nothing is pending then
abbrev pub PausesAllRead : Option (List ℕ) → Option (List ℕ) → Option (List ℕ) → Option (List ℕ) → List ℕ → Result Summary DebugFault → Type 0
PausesAllRead remaining left old new pending (Err ReadFault) = (pending ≡ []) × TellsAllRead remaining left old new (Err ReadFault)
PausesAllRead remaining left old new pending _ = Unit {0}

-- some of the text is written, and the rest is pending
abbrev pub Gathers : Option (List ℕ) → Option (List ℕ) → List ℕ → List ℕ → Type 0
Gathers old new pending text = (written : List ℕ) × Appends old new written × (text ≡ written ++ pending)

-- how reading ends: what was told is written or pending, but where the writer failed, a front of the text is written
abbrev pub Pauses : Option (List ℕ) → Option (List ℕ) → List ℕ → Script → Result Summary DebugFault → Type 0
Pauses old new pending script (Ok summary) = (text : List ℕ) × Gathers old new pending text × Ends script (Ok summary) text
Pauses old new pending script (Err WriteFault) = (text : List ℕ) × Appends old new text × IsFrontOfText script text
Pauses old new pending script (Err fault) = (text : List ℕ) × Gathers old new pending text × Ends script (Err fault) text

abbrev pub is_write_fault : Result Summary DebugFault → Bool
is_write_fault (Ok summary) = false
is_write_fault (Err WriteFault) = true
is_write_fault (Err fault) = false
