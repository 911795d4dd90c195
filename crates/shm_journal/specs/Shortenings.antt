-- What a crash leaves of a journal that was made shorter while its site ran. The site restarts there, and goes on.
use Rattle.std.specs.Prelude.{◌≡◌, ◌⊎◌, ℕ, List, [], ◌∷◌, ◌++◌, None, Result}
use Rattle.std.specs.List.{All}
use Rattle.shm_process.specs.Desk.{Desk, KeptLine, restarted}
use Rattle.shm_process.specs.Node.{Node}
use Rattle.shm_process.specs.Recorded.{Event, Line, after_events, entry_line, entry_of, kept}
use Rattle.shm_process.specs.Waiting.{after_restart, said_restart}
use Rattle.shm_journal.specs.Acts.{Act, IsRun}
use Rattle.shm_journal.specs.Crash.{MayLeave, after_acts, disk_of}
use Rattle.shm_journal.specs.Found.{Sound, found}
use Rattle.shm_journal.specs.Lines.{Header}
use Rattle.shm_journal.specs.LinesOf.{Unended}
use Rattle.shm_journal.specs.Lives.{IsLife, IsTaken}
use Rattle.shm_journal.specs.Shortened.{rested}
use Rattle.shm_journal.specs.declared.process_error.ProcessFault.{ProcessFault}
use Rattle.shm_journal.specs.declared.service_stop.Stop.{Stop}

-- a desk that has published all, with at most the front of a line, and no row that may still grow
pub record IsIdle (desk : Desk) : Type 0 where
  pub none : desk.recorded ≡ []
  pub row : desk.row ≡ None
  pub unended : Unended desk.line
  pub held : All (λ (k : KeptLine). IsTaken (Line k.line)) desk.kept

-- the first line behind the state
abbrev pub restart_line : Node → List ℕ
restart_line node = entry_line (entry_of (said_restart node)) ++ 10 ∷ []

-- all entries that are durable behind it, and those of as many events more as are whole: the site is found after them
pub record LeavesStretch (header : Header) (begun : List ℕ) (node : Node) (durable file : List ℕ) : Type 0 where
  pub life : List Event
  pub more : List Event
  pub taken : All IsTaken (life ++ more)
  pub entries : List ℕ
  pub holds : durable ≡ begun ++ entries
  pub is : IsLife node life entries
  pub sound : found header file ≡ Sound (kept (after_events node (life ++ more)))

-- before that line is durable: the site is found as the state tells it, or after the restart
abbrev pub LeavesRested : Header → List ℕ → Node → List ℕ → List ℕ → Type 0
LeavesRested header text node durable file =
    (durable ≡ text) × ((found header file ≡ Sound (rested node)) ⊎ (found header file ≡ Sound (kept (after_restart node))))

abbrev pub LeavesShorter : Header → List ℕ → Node → List ℕ → List ℕ → Type 0
LeavesShorter header text node durable file =
    LeavesRested header text node durable file ⊎ LeavesStretch header (text ++ restart_line node) (after_restart node) durable file

-- whatever the process does behind it, at each moment of it, and whatever a crash leaves then
abbrev pub LeavesShorterSound : Header → Desk → List ℕ → Type 0
LeavesShorterSound header desk text =
    (result : Result Stop ProcessFault) (acts before after : List Act) (left : List ℕ)
    → IsRun (restarted desk) result acts → acts ≡ before ++ after → MayLeave (after_acts (disk_of text) before) left
    → LeavesShorter header text desk.node (after_acts (disk_of text) before).durable left
