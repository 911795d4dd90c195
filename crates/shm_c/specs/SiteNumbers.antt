-- What became of a site's input, as numbers.
use Rattle.shm_model.specs.declared.answer.Answer.TheVariants.{Refused}
use Rattle.shm_model.specs.Refusal.{foreign_message}
use Rattle.shm_c.specs.declared.numbers.AnswerNumbers.{AnswerNumbers}
use Rattle.shm_c.specs.declared.numbers.ReplyNumbers.{ReplyNumbers}
use Rattle.shm_c.specs.declared.site_outcome.SiteOutcome.{SiteOutcome}
use Rattle.shm_c.specs.declared.site_outcome.SiteOutcome.TheVariants.{Made, Foreign, NoMemory, NoSite, NoLine}
use Rattle.shm_c.specs.Numbers.{answer_numbers, answer_reply, kind_alone, no_reply}

abbrev pub site_outcome_numbers : SiteOutcome → AnswerNumbers
site_outcome_numbers (Made answer) = answer_numbers answer
site_outcome_numbers Foreign = answer_numbers (Refused foreign_message)
site_outcome_numbers NoMemory = kind_alone 10
site_outcome_numbers NoSite = kind_alone 13
site_outcome_numbers NoLine = kind_alone 14

abbrev pub site_outcome_reply : SiteOutcome → ReplyNumbers
site_outcome_reply (Made answer) = answer_reply answer
site_outcome_reply _ = no_reply
