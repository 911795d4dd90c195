use Rattle.std.proofs.Common.{◌≡◌, length, map, take}
use Rattle.std.specs.Prelude.{bit_xor}
use Rattle.shm_seal.proofs.hmac.pad.Given as goal

-- the bytes so far have met it
abbrev pub invariant-bytes : goal.invariant-bytes
invariant-bytes l = (length l.pad ≡ 64) × (take l.at l.pad ≡ map (λ b. bit_xor b l.byte) (take l.at l.block))
