-- A block that is asked for is one.
use Rattle.std.proofs.Common.{◌≡◌, ℕ, true, subst}
use Rattle.shm_wire.specs.Asks.{Ask, IsAsk, IsAsked, is_block}
use Rattle.shm_wire.specs.declared.caller_ask.Question.TheVariants.{Read}

pub asked_block : (ask : Ask) (at offset count : ℕ) → IsAsk ask → ask.asked ≡ Read at offset count → is_block offset count ≡ true
asked_block ask at offset count h is = (subst IsAsked is h.2).3
