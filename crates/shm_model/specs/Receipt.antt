-- What callers are told of the steps that they made, and when it is true of the logs.
use Rattle.std.specs.Prelude.{◌≡◌, ℕ, ◌<◌, Bool, false, ◌&&◌, List, Option, Some, None, ◌==◌, option_map, slice_get}
use Rattle.std.specs.List.{All, AllPairs, flat_map}
use Rattle.shm_model.specs.declared.answer.Answer.{Answer}
use Rattle.shm_model.specs.declared.asked_access.Asked.{Asked}
use Rattle.shm_model.specs.declared.asked_access.Asked.TheVariants as code
use Rattle.shm_model.specs.Message.{Input, Load, Store}
use Rattle.shm_model.specs.Log.{Logged, log_of}

-- the access of a step, where it is one
abbrev pub access : Input → Option Input
access (Load at offset) = Some (Load at offset)
access (Store at offset byte) = Some (Store at offset byte)
access _ = None

-- the input that makes this access
abbrev pub access_of : Asked → Input
access_of (code.Load at offset) = Load at offset
access_of (code.Store at offset byte) = Store at offset byte

abbrev pub asked_of : Option Asked → Option Input
asked_of asked = option_map access_of asked

-- the step of this index at this site had this access, or none, and this answer
pub record Receipt : Type 0 where
  pub site : ℕ
  pub index : ℕ
  pub asked : Option Input
  pub answer : Answer

pub record IsTrueOf (logs : List (List Logged)) (r : Receipt) : Type 0 where
  pub step : Logged
  pub named : slice_get (log_of logs r.site) r.index ≡ Some step
  pub asked : access step.input ≡ r.asked
  pub answered : step.answer ≡ r.answer

abbrev pub same_step : Receipt → Receipt → Bool
same_step q r = (q.site == r.site) && (q.index == r.index)

abbrev pub of_all : List (List Receipt) → List Receipt
of_all callers = flat_map (λ receipts. receipts) callers

-- The receipts of each caller, in its order, hold: each tells of a step, no two of all of them of one step, and each caller's steps at
-- one site come in the site's order.
pub record ReceiptsHold (logs : List (List Logged)) (callers : List (List Receipt)) : Type 0 where
  pub tell : All (IsTrueOf logs) (of_all callers)
  pub once : AllPairs (λ q r. same_step q r ≡ false) (of_all callers)
  pub rise : All (AllPairs (λ q r. q.site ≡ r.site → q.index < r.index)) callers
