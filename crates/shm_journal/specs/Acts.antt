-- What a process does with what is around it, act by act, and what it has to do.
use Rattle.std.specs.Prelude.{⊤, ◌≡◌, ℕ, List, [], ◌∷◌, ◌++◌, take, Option, Some, None, Result, Ok, Err}
use Rattle.std.specs.Io.KnownBytes.{Appends, Consumes}
use Rattle.shm_process.specs.Desk.{Desk, cleared, on_bytes}
use Rattle.shm_journal.specs.declared.process_error.ProcessFault.{ProcessFault}
use Rattle.shm_journal.specs.declared.service_stop.Stop.{Stop}
use Rattle.shm_journal.specs.declared.process_error.ProcessFault.TheVariants.{JournalFault, OutOfMemory, ReadFault, TooOld, WriteFault}

-- one read gave these bytes; this was appended to the journal; all that was appended is durable; and this was told
pub data Act : Type 0 where
  Read : List ℕ → Act
  Append : List ℕ → Act
  Sync : Act
  Tell : List ℕ → Act

-- ---- what was done

unfoldable pub read_in : List Act → List ℕ
read_in [] = []
read_in (Read bytes ∷ acts) = bytes ++ read_in acts
read_in (act ∷ acts) = read_in acts

unfoldable pub told_in : List Act → List ℕ
told_in [] = []
told_in (Tell text ∷ acts) = text ++ told_in acts
told_in (act ∷ acts) = told_in acts

-- acts that are known go on by these
abbrev pub GoesOn : Option (List Act) → Option (List Act) → List Act → Type 0
GoesOn None new acts = ⊤
GoesOn (Some before) None acts = ⊥
GoesOn (Some before) (Some now) acts = now ≡ before ++ acts

-- What is known of what is around a process: what is left to be read, what was told, and all acts.
pub record Around : Type 0 where
  pub remaining : Option (List ℕ)
  pub contents : Option (List ℕ)
  pub acts : Option (List Act)

abbrev pub around : Option (List ℕ) → Option (List ℕ) → Option (List Act) → Around
around remaining contents acts = record { remaining = remaining; contents = contents; acts = acts }

-- it did these acts and nothing else
pub record Did (old new : Around) (acts : List Act) : Type 0 where
  pub read : Consumes old.remaining new.remaining (read_in acts)
  pub told : Appends old.contents new.contents (told_in acts)
  pub acted : GoesOn old.acts new.acts acts

-- ---- what it has to do

-- what was recorded is appended, and made durable
abbrev pub keeping : List ℕ → List Act
keeping [] = []
keeping (byte ∷ bytes) = Append (byte ∷ bytes) ∷ Sync ∷ []

abbrev pub telling : List ℕ → List Act
telling [] = []
telling (byte ∷ bytes) = Tell (byte ∷ bytes) ∷ []

-- nothing is told before what was recorded of it is durable
abbrev pub publishing : Desk → List Act
publishing desk = keeping desk.recorded ++ telling desk.told

-- of a desk that has published what it held: what one read gives is taken whole, and then published
unfoldable pub serving : Desk → List (List ℕ) → List Act
serving desk [] = []
serving desk (bytes ∷ reads) =
    let taken = on_bytes desk bytes in
    Read bytes ∷ (publishing taken ++ serving (cleared taken) reads)

-- the desk after these reads, each published
unfoldable pub standing : Desk → List (List ℕ) → Desk
standing desk [] = desk
standing desk (bytes ∷ reads) = standing (cleared (on_bytes desk bytes)) reads

-- all that is done from this desk on
abbrev pub run : Desk → List (List ℕ) → List Act
run desk reads = publishing desk ++ serving (cleared desk) reads

-- none of these reads told of a step of the own site that it doesn't have: the first that is noted stays so
abbrev pub AreSound : Desk → List (List ℕ) → Type 0
AreSound desk reads = desk.later ≡ None → (standing (cleared desk) reads).later ≡ None

-- How it ends: when the reads do, or the journal is due to be made shorter, or a read fails, after all is done; where memory is missing what came last is lost, and so where that tells
-- of a step of the own site that it doesn't have; and where the journal or the writer fails it stops in the middle of that act.
abbrev pub IsRun : Desk → Result Stop ProcessFault → List Act → Type 0
IsRun desk (Ok _) acts = (reads : List (List ℕ)) × AreSound desk reads × (acts ≡ run desk reads)
IsRun desk (Err ReadFault) acts = (reads : List (List ℕ)) × AreSound desk reads × (acts ≡ run desk reads)
IsRun desk (Err OutOfMemory) acts =
    (reads : List (List ℕ)) × (bytes : List ℕ) × AreSound desk reads × (acts ≡ run desk reads ++ Read bytes ∷ [])
IsRun desk (Err (TooOld clock)) acts =
    (reads : List (List ℕ)) × (bytes : List ℕ) × AreSound desk reads × (acts ≡ run desk reads ++ Read bytes ∷ [])
    × ((on_bytes (standing (cleared desk) reads) bytes).later ≡ Some clock)
IsRun desk (Err JournalFault) acts =
    (reads : List (List ℕ)) × (before after : List Act) × (text : List ℕ) × (n : ℕ) × AreSound desk reads
    × (run desk reads ≡ before ++ Append text ∷ after) × (acts ≡ before ++ Append (take n text) ∷ [])
IsRun desk (Err WriteFault) acts =
    (reads : List (List ℕ)) × (before : List Act) × (text : List ℕ) × (n : ℕ) × AreSound desk reads
    × (run desk reads ≡ before ++ Tell text ∷ []) × (acts ≡ before ++ Tell (take n text) ∷ [])

-- a process did so
abbrev pub Served : Desk → Around → Around → Result Stop ProcessFault → Type 0
Served desk old new result = (acts : List Act) × Did old new acts × IsRun desk result acts

-- its desk then stands as what it read has left it
abbrev pub Stood : Desk → Desk → Around → Around → Type 0
Stood first last old new = (reads : List (List ℕ)) × Did old new (run first reads) × (last ≡ standing (cleared first) reads)
