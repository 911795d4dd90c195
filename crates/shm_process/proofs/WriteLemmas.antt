-- A block that is stored goes on only at a store that was made, or that still waits.
use Rattle.std.proofs.Common.{◌≡◌, ◌⊎◌, inl, inr, ◌+◌, ◌<◌, true, length, refl, subst, sym}
use Rattle.shm_model.specs.declared.answer.Answer.{Answer}
use Rattle.shm_model.specs.declared.answer.Answer.TheVariants.{Byte, Stored, Fault, Waiting, Began, Replied, Took, Dropped, Refused}
use Rattle.shm_process.specs.Access.{is_open}
use Rattle.shm_process.specs.Writes.{Write, goes_on, stored_after}
use Rattle.shm_process.proofs.Tests.{below}

-- one more byte is stored, and it wasn't the last; or none is, and it waits on
abbrev pub GoesOn : Write → Answer → Type 0
GoesOn write answer =
    ((answer ≡ Stored) × (write.stored + 1 < length write.bytes)) ⊎ ((is_open answer ≡ true) × (stored_after write answer ≡ write.stored))

pub goes-on : (write : Write) (answer : Answer) → goes_on write answer ≡ true → GoesOn write answer
goes-on write (Byte byte) on = absurd (cc)
goes-on write Stored on = inl (refl, below (write.stored + 1) (length write.bytes) on)
goes-on write Fault on = inr (refl, refl)
goes-on write Waiting on = inr (refl, refl)
goes-on write (Began number) on = absurd (cc)
goes-on write (Replied number reply attachment) on = absurd (cc)
goes-on write Took on = absurd (cc)
goes-on write Dropped on = absurd (cc)
goes-on write (Refused refusal) on = absurd (cc)

-- then not all of it is stored
pub more-to-store : (write : Write) (answer : Answer) → write.stored < length write.bytes → GoesOn write answer → stored_after write answer < length write.bytes
more-to-store write answer more (inl h) = subst (λ a. stored_after write a < length write.bytes) (sym h.0) h.1
more-to-store write answer more (inr h) = subst (λ n. n < length write.bytes) (sym h.1) more
