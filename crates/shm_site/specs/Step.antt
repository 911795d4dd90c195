-- Inputs of a site, as the definitions speak of them; and why a step isn't made.
use Rattle.std.specs.Prelude.{ℕ, Bool, true, false, not, Option, Some, None, if◌then◌else◌}
use Rattle.shm_model.specs.declared.answer.Answer.{Answer}
use Rattle.shm_model.specs.declared.answer.Answer.TheVariants as answer
use Rattle.shm_model.specs.Access.{load, store}
use Rattle.shm_model.specs.Message as model
use Rattle.shm_model.specs.Refusal.{foreign_message, out_of_memory}
use Rattle.shm_model.specs.Site.{Site}
use Rattle.shm_model.specs.SegmentCalls.{begin}
use Rattle.shm_model.specs.Step.{deliver, foreign}
use Rattle.shm_parts.specs.Message.{envelope_of}
use Rattle.shm_parts.specs.declared.message.Envelope.{Envelope}
use Rattle.shm_site.specs.declared.site_input.Input.{Input}
use Rattle.shm_site.specs.declared.site_input.Input.TheVariants as input
use Rattle.shm_site.specs.declared.step_error.StepFault.{StepFault}
use Rattle.shm_site.specs.declared.step_error.StepFault.TheVariants as fault

abbrev pub input_of : {A : Type 0} → Input A → model.Input
input_of (input.Load at offset) = model.Load at offset
input_of (input.Store at offset byte) = model.Store at offset byte
input_of (input.Begin request) = model.Begin request
input_of (input.Deliver envelope) = model.Deliver (envelope_of envelope)
input_of input.Tick = model.Tick
input_of input.Restart = model.Restart

-- the envelope that an input hands over
abbrev pub handed_envelope : model.Input → Option model.Envelope
handed_envelope (model.Deliver e) = Some e
handed_envelope _ = None

abbrev pub envelope_if : {A : Type 0} → Option (Envelope A) → Option model.Envelope
envelope_if None = None
envelope_if (Some e) = Some (envelope_of e)

abbrev pub is_foreign : ℕ → ℕ → model.Input → Bool
is_foreign sites me (model.Deliver e) = foreign sites me e
is_foreign sites me _ = false

abbrev pub is_fault : Answer → Bool
is_fault answer.Fault = true
is_fault _ = false

abbrev pub is_refused : Answer → Bool
is_refused (answer.Refused _) = true
is_refused _ = false

-- Whether memory may be missing: never where the step is refused anyway, nor for an access that has the right or waits, nor for a restart.
abbrev pub may_grow : ℕ → ℕ → Site → model.Input → Bool
may_grow sites me site (model.Load at offset) = is_fault (load sites me at offset site).answer
may_grow sites me site (model.Store at offset byte) = is_fault (store sites me at offset byte site).answer
may_grow sites me site (model.Begin request) = not (is_refused (begin sites me request site).answer)
may_grow sites me site (model.Deliver e) = not (is_refused (deliver sites me e site).answer)
may_grow sites me site model.Tick = true
may_grow sites me site model.Restart = false

abbrev pub fault_of : Bool → StepFault
fault_of foreign = if foreign then fault.Foreign else fault.OutOfMemory

abbrev pub step_fault_number : StepFault → ℕ
step_fault_number fault.Foreign = foreign_message
step_fault_number fault.OutOfMemory = out_of_memory
