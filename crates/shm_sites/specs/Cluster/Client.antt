-- What a client's receipt tells.
use Rattle.std.specs.Prelude.{◌≡◌, ℕ, Bool, true, false, Some}
use Rattle.shm_model.specs.declared.answer.Answer.{Answer}
use Rattle.shm_model.specs.declared.answer.Answer.TheVariants.{Fault, Waiting}
use Rattle.shm_model.specs.Message.{Input}
use Rattle.shm_logs.specs.Boxes.Receipt.{receipt_of}
use Rattle.shm_logs.specs.declared.site_boxes.receipt.Receipt.{Receipt}

-- a step of this site, which was this access
abbrev pub TellsOf : ℕ → Input → Receipt → Type 0
TellsOf site access r = ((receipt_of r).site ≡ site) × ((receipt_of r).asked ≡ Some access)

-- the access had no right to the page, for which the site waits
abbrev pub waits : Answer → Bool
waits Fault = true
waits Waiting = true
waits _ = false

abbrev pub IsServed : Receipt → Type 0
IsServed r = waits (receipt_of r).answer ≡ false
