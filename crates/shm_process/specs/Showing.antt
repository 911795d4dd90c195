-- What a site tells of a page: its state, and the greatest transaction number that it met.
use Rattle.std.specs.Prelude.{ℕ, List, ◌++◌, codes, Option, Some, None}
use Rattle.std.specs.Fmt.{decimal}
use Rattle.shm_model.specs.declared.answer.Answer.TheVariants as answer
use Rattle.shm_model.specs.declared.answer.Shown.{Shown}
use Rattle.shm_model.specs.Refusal.{foreign_message}
use Rattle.shm_text.specs.Names.{state_name}
use Rattle.shm_text.specs.Text.{answer_text}

abbrev pub shown_text : Option Shown → List ℕ
shown_text None = answer_text (answer.Refused foreign_message)
shown_text (Some shown) = codes "page " ++ (state_name shown.state ++ (codes "/" ++ decimal shown.seen))
