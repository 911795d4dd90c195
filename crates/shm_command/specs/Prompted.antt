-- What a dialog at the prompt did, over files of which nothing is known.
use Rattle.std.specs.Prelude.{⊤, ◌≡◌, ℕ, Bool, List, None, Option, Result, Ok, Err}
use Rattle.std.specs.Io.KnownBytes.{Appends}
use Rattle.shm_journal.specs.Acts.{Around}
use Rattle.shm_prompt.specs.Given.{Given}
use Rattle.shm_prompt.specs.Saves.{Save}
use Rattle.shm_prompt.specs.declared.prompt_error.PromptFault.{PromptFault}
use Rattle.shm_prompt.specs.Sitting.{Ends, nothing_typed}

-- what was saved through the files
abbrev pub unknown_saves : {F : Type 0} → F → Option (List Save)
unknown_saves files = None

-- what a file of this name gives when it is read
abbrev pub MayGive : {F : Type 0} → F → List ℕ → Given → Type 0
MayGive files name given = ⊤

abbrev pub prompt_status : Result (Unit {0}) PromptFault → ℕ
prompt_status (Ok end) = 0
prompt_status (Err fault) = 3

-- All that came was answered up to this end, as to a person at a terminal or to none, and that was written.
pub record Prompts (is_terminal : Bool) (status : ℕ) (old new : Around) : Type 0 where
  pub end : Result (Unit {0}) PromptFault
  pub text : List ℕ
  pub told : status ≡ prompt_status end
  pub written : Appends old.contents new.contents text
  pub ends : Ends {F = Unit {0}} unknown_saves MayGive is_terminal (nothing_typed is_terminal old.remaining tt) end new.remaining tt text
