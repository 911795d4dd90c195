-- What is done of a task, by the exit status, with what is on the input and on the output.
use Rattle.std.specs.Prelude.{◌≡◌, ◌≢◌, ◌⊎◌, ℕ, Bool, false, true, List, [], length, None, Option, option_map, IfSome, Ok, Some}
use Rattle.clap.specs.Words.{Text}
use Rattle.shm_debug.specs.Script.{script_of}
use Rattle.shm_draw.specs.Captions.{Beside, captions_in}
use Rattle.shm_journal.specs.Acts.{Around, Did}
use Rattle.shm_place.specs.declared.page_id.PageId.{PageId}
use Rattle.shm_command.specs.Audited.{FailsAudit, TellsAudit}
use Rattle.shm_command.specs.Prompted.{Prompts}
use Rattle.shm_command.specs.Sealed.{IsSealedSite}
use Rattle.shm_command.specs.Shortening.{Shortened}
use Rattle.shm_command.specs.Simulated.{Simulates}
use Rattle.shm_command.specs.Summarized.{Summarizes}
use Rattle.shm_command.specs.Status.{Fails, HasNoCaptions, Pictures, PicturesFile, Replays, ReplaysFile, Reports}
use Rattle.shm_command.specs.Words.{AskFor}
use Rattle.shm_command.specs.declared.args.task.Task.{Task}
use Rattle.shm_command.specs.declared.args.task.Task.TheVariants.{Replay, Run, Simulate, Prompt, Draw, Site, Audit, Journal, Shorten}

-- A run of a workload failed; or the logs that were wanted couldn't be made ready, and nothing was done.
abbrev pub IsUnrun : ℕ → Bool → ℕ → Around → Around → Type 0
IsUnrun sites summed status old new = Fails sites summed old.remaining status old.contents new.contents ⊎ ((status ≡ 3) × Did old new [])

-- a workload was run over so many sites: its report was written, or it failed
pub record Runs (sites : ℕ) (summed : Bool) (status : ℕ) (old new : Around) : Type 0 where
  pub reported : status ≡ 0 → Reports sites summed old.remaining old.contents new.contents
  pub failed : status ≢ 0 → IsUnrun sites summed status old new

-- so many journals were audited as those of so many sites: there is one for each, and what was counted of them was written; or they weren't
-- accepted
pub record Audits (journals sites status : ℕ) (old new : Around) : Type 0 where
  pub each : status ≡ 0 → journals ≡ sites
  pub accepted : status ≡ 0 → TellsAudit sites old.contents new.contents
  pub failed : status ≢ 0 → FailsAudit journals sites status

-- a script was replayed: that of a file, where one is named, and the input wasn't read; else the one on the input
abbrev pub ReplaysFrom : {F : Type 0} → Option F → ℕ → Around → Around → Type 0
ReplaysFrom None status old new = IfSome old.remaining (λ script. Replays (script_of script) status old.contents new.contents)
ReplaysFrom (Some file) status old new = (new.remaining ≡ old.remaining) × ReplaysFile status old.contents new.contents

-- so what it leaves was drawn, with these captions
abbrev pub PicturesFrom : {F : Type 0} → Option F → Bool → Option PageId → List Beside → ℕ → Around → Around → Type 0
PicturesFrom None steps page besides status old new = IfSome old.remaining (λ script. Pictures steps page besides (script_of script) status old.contents new.contents)
PicturesFrom (Some file) steps page besides status old new = (new.remaining ≡ old.remaining) × PicturesFile steps page besides status old.contents new.contents

-- with the captions of the notes that lie in a file, where one is named; or they have none, and nothing was done
abbrev pub PicturesNoted : {N F : Type 0} → Option N → Option F → Bool → Option PageId → ℕ → Around → Around → Type 0
PicturesNoted None file steps page status old new = PicturesFrom file steps page [] status old new
PicturesNoted (Some notes) file steps page status old new =
    ((bytes : List ℕ) × (besides : List Beside) × (captions_in bytes ≡ Ok besides) × PicturesFrom file steps page besides status old new)
    ⊎ (HasNoCaptions status × Did old new [])

-- this was done, to an end of this status, where a person at a terminal typed or none did
abbrev pub Does : Bool → Task → ℕ → Around → Around → Type 0
Does typed (Replay file) status old new = ReplaysFrom file status old new
Does typed (Run sites seed summary log) status old new = Runs sites summary status old new
Does typed (Simulate asked) status old new = Simulates asked status old new
Does typed Prompt status old new = Prompts typed status old new
Does typed (Draw page steps notes file) status old new = PicturesNoted notes file steps page status old new
Does typed (Site sites me pages journal begins seal shortening) status old new = IsSealedSite seal (option_map (λ file. begins) journal) sites me pages status old new
Does typed (Audit sites journals) status old new = Audits (length journals.items) sites status old new
Does typed (Journal file) status old new = Summarizes status old.contents new.contents
Does typed (Shorten file) status old new = Shortened status old.contents new.contents

-- an audit judges its end
abbrev pub has_audit : Task → Bool
has_audit (Run sites seed summary log) = true
has_audit (Audit sites journals) = true
has_audit _ = false

-- a workload is simulated
abbrev pub is_simulation : Task → Bool
is_simulation (Simulate asked) = true
is_simulation _ = false

-- What the words ask for was done. Or memory was refused while they were read, and nothing was.
abbrev pub IsDone : List Text → Bool → ℕ → Around → Around → Type 0
IsDone words typed status old new = ((task : Task) × AskFor words task × Does typed task status old new) ⊎ ((status ≡ 3) × Did old new [])
