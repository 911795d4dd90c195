-- What a site's journal holds: what it begins with, and then, of each life of the site, entries whose steps are exactly those of the events that it
-- had. Which steps share an entry hangs on what came at once. A life ends with its process; the next begins with what the journal leads to.
use Rattle.std.specs.Prelude.{⊤, ◌≡◌, ◌≤◌, ◌⊎◌, ℕ, List, [], ◌∷◌, ◌++◌, length, take, true, false, Result}
use Rattle.std.specs.List.{All}
use Rattle.shm_process.specs.Cause.{cause_text}
use Rattle.shm_process.specs.Desk.{max_line_bytes}
use Rattle.shm_process.specs.Node.{Node}
use Rattle.shm_process.specs.declared.process_counts.Start.{Start}
use Rattle.shm_process.specs.Recorded.{Entry, Event, Line, TooLong, Again, Restarted, IsEntry, after_events, all_steps, entries_of, entries_text, kept}
use Rattle.shm_journal.specs.Acts.{Act, IsRun}
use Rattle.shm_journal.specs.Crash.{MayLeave, after_acts, disk_of}
use Rattle.shm_journal.specs.DeskFrom.{desk_from}
use Rattle.shm_journal.specs.Found.{Sound, bytes_of_lines, found, lines_of, opened}
use Rattle.shm_journal.specs.Begun.{Beginning, anew}
pub use Rattle.shm_journal.specs.Begun.{header_text}
use Rattle.shm_journal.specs.Lines.{Header}
use Rattle.shm_journal.specs.LinesOf.{Unended}
use Rattle.shm_journal.specs.declared.process_error.ProcessFault.{ProcessFault}
use Rattle.shm_journal.specs.declared.service_stop.Stop.{Stop}
use Rattle.shm_seal.specs.Seal.{Seal}

-- a line that is taken has no line feed, and no more bytes than a site's line has
abbrev pub IsTaken : Event → Type 0
IsTaken (Line bytes) = Unended bytes × (length bytes ≤ max_line_bytes)
IsTaken TooLong = ⊤
IsTaken Again = ⊤
IsTaken Restarted = ⊤

-- so it is of the text of what made the steps of an entry
abbrev pub IsOfTaken : Entry → Type 0
IsOfTaken entry = IsTaken (Line (cause_text entry.cause))

-- ---- lives

-- entries, all of them with lines, whose steps are exactly those of the events of a life, in order
pub record IsLife (node : Node) (life : List Event) (text : List ℕ) : Type 0 where
  pub entries : List Entry
  pub are : All IsEntry entries
  pub taken : All IsOfTaken entries
  pub is : text ≡ entries_text entries
  pub steps : all_steps entries ≡ entries_of node life

-- the node after these lives; of each the next has what is kept
abbrev pub after_lives : Node → List (List Event) → Node
after_lives node [] = node
after_lives node (life ∷ lives) = after_lives (kept (after_events node life)) lives

-- the entries of these lives, life after life
abbrev pub IsLives : Node → List (List Event) → List ℕ → Type 0
IsLives node [] text = text ≡ []
IsLives node (life ∷ lives) text =
    (first rest : List ℕ) × (text ≡ first ++ rest) × IsLife node life first × IsLives (kept (after_events node life)) lives rest

-- what it begins with, and these entries
abbrev pub IsJournalFrom : Beginning → List (List Event) → List ℕ → Type 0
IsJournalFrom b lives text = (rest : List ℕ) × (text ≡ b.text ++ rest) × IsLives b.node lives rest

-- the header, and these entries
abbrev pub IsJournal : Header → List (List Event) → List ℕ → Type 0
IsJournal header lives text = IsJournalFrom (anew header) lives text

-- ---- an entry for each step

-- what a desk may take in each life
abbrev pub AreTaken : List (List Event) → Type 0
AreTaken lives = All (All IsTaken) lives

-- the steps of these lives, life after life, each as an entry of its own
abbrev pub steps_text : Node → List (List Event) → List ℕ
steps_text node [] = []
steps_text node (life ∷ lives) = entries_text (entries_of node life) ++ steps_text (kept (after_events node life)) lives

-- the header, and these entries, as earlier versions kept them
abbrev pub journal_of_steps : Header → List (List Event) → List ℕ
journal_of_steps header lives = header_text header ++ steps_text (opened header) lives

-- ---- what is found

-- A file of whole lines, this journal of these lives, and behind them what is torn: the site finds the node after them. The whole lines are
-- exactly the journal.
pub record FindsLivesFrom (b : Beginning) (lives : List (List Event)) (journal file : List ℕ) : Type 0 where
  pub is : IsJournalFrom b lives journal
  pub torn : List ℕ
  pub text : file ≡ journal ++ torn
  pub unended : Unended torn
  pub sound : found b.header file ≡ Sound (after_lives b.node lives)
  pub whole : take (bytes_of_lines (lines_of file).whole) file ≡ journal

abbrev pub FindsLives : Header → List (List Event) → List ℕ → List ℕ → Type 0
FindsLives header lives journal file = FindsLivesFrom (anew header) lives journal file

-- ---- a crash

-- What a crash leaves of a journal while a further life goes on: all entries that are durable, and behind them those of as many events more as
-- are whole.
pub record LeavesLifeFrom (b : Beginning) (lives : List (List Event)) (durable file : List ℕ) : Type 0 where
  pub life : List Event
  pub more : List Event
  pub taken : All IsTaken (life ++ more)
  pub kept : IsJournalFrom b (lives ++ life ∷ []) durable
  pub behind : List ℕ
  pub finds : FindsLivesFrom b (lives ++ (life ++ more) ∷ []) (durable ++ behind) file

abbrev pub LeavesLife : Header → List (List Event) → List ℕ → List ℕ → Type 0
LeavesLife header lives durable file = LeavesLifeFrom (anew header) lives durable file

-- Of a journal that is begun, while nothing is durable: no whole line, or its header alone; the site finds that nothing has happened.
pub record LeavesFront (header : Header) (durable file : List ℕ) : Type 0 where
  pub none : durable ≡ []
  pub finds : found header file ≡ Sound (opened header)
  pub whole : (bytes_of_lines (lines_of file).whole ≡ 0) ⊎ IsJournal header [] file

-- whatever a process does in this life, which began with this journal, at each moment of it, and whatever a crash leaves then
abbrev pub LeavesSoundFrom : Beginning → List (List Event) → List ℕ → Type 0
LeavesSoundFrom b lives journal =
    (seal : Seal) (start : Start) (result : Result Stop ProcessFault) (acts before after : List Act) (left : List ℕ)
    → IsRun (desk_from b.header seal false (after_lives b.node lives) start) result acts → acts ≡ before ++ after
    → MayLeave (after_acts (disk_of journal) before) left
    → LeavesLifeFrom b lives (after_acts (disk_of journal) before).durable left

abbrev pub LeavesSound : Header → List (List Event) → List ℕ → Type 0
LeavesSound header lives journal = LeavesSoundFrom (anew header) lives journal

abbrev pub LeavesNewSound : Header → Type 0
LeavesNewSound header =
    (seal : Seal) (start : Start) (result : Result Stop ProcessFault) (acts before after : List Act) (left : List ℕ)
    → IsRun (desk_from header seal true (opened header) start) result acts → acts ≡ before ++ after
    → MayLeave (after_acts (disk_of []) before) left
    → LeavesFront header (after_acts (disk_of []) before).durable left
    ⊎ LeavesLife header [] (after_acts (disk_of []) before).durable left
