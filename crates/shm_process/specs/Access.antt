-- Inputs that access a page, what is answered to them, and the asks for them.
use Rattle.std.specs.Prelude.{ℕ, Bool, true, false, List}
use Rattle.shm_model.specs.declared.answer.Answer.{Answer}
use Rattle.shm_model.specs.declared.answer.Answer.TheVariants.{Fault, Waiting}
use Rattle.shm_model.specs.declared.asked_access.Asked.{Asked}
use Rattle.shm_model.specs.Message.{Input, Load, Store}
use Rattle.shm_wire.specs.Asks.{Ask}
use Rattle.shm_wire.specs.declared.caller_ask.Question.TheVariants as question

abbrev pub is_access : Input → Bool
is_access (Load at offset) = true
is_access (Store at offset byte) = true
is_access _ = false

-- the access was neither made nor refused
abbrev pub is_open : Answer → Bool
is_open Fault = true
is_open Waiting = true
is_open _ = false

-- it waits for what was asked already
abbrev pub is_waiting : Answer → Bool
is_waiting Waiting = true
is_waiting _ = false

-- an access that a site is asked for under a tag
abbrev pub access_ask : ℕ → List ℕ → Asked → Ask
access_ask site tag asked = record { site = site; tag = tag; asked = question.Access asked }
