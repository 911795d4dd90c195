-- What one event adds to an account, and so to what is read off it.
use Rattle.std.proofs.Common.{◌≡◌, ℕ, zero, suc, Bool, true, false, List, [], ◌∷◌, ◌++◌, Option, Some, None, refl, sym, ap, ◌∙◌, slice_get, slice_set}
use Rattle.shm_model.specs.declared.answer.Answer.{Answer}
use Rattle.shm_model.specs.declared.answer.Answer.TheVariants.{Refused}
use Rattle.shm_model.specs.declared.asked_access.Asked.{Asked}
use Rattle.shm_model.specs.declared.asked_access.Asked.TheVariants as asked
use Rattle.shm_model.specs.declared.event.Event.{Event}
use Rattle.shm_model.specs.declared.event.Event.TheVariants as event
use Rattle.shm_model.specs.Message as message
use Rattle.shm_model.specs.Message.{Input, Envelope}
use Rattle.shm_model.specs.Receipt.{access_of}
use Rattle.shm_model.specs.Refusal.{no_such_site, numbers_used_up}
use Rattle.shm_model.specs.Site.{Site}
use Rattle.shm_model.specs.Step.{step}
use Rattle.std.specs.Prelude.{if◌then◌else◌}
use Rattle.shm_model.specs.World.{Done, Next, Opening, Run, World, begun, deliver, extended, hand_over, is_full, live, lose, next, run, run_on, step_at, step_site, stepped, unstepped, without}
use Rattle.shm_laws.proofs.Run.GoesOn.{run_on-append}
use Rattle.shm_simulate.specs.Lines.{Asks, IsNext, heard, heard_at, heard_by, next_line, told}
use Rattle.shm_simulate.specs.Messages.{kept, page_message_in, page_message_of, messages_with}
use Rattle.shm_simulate.specs.Reactions.{reaction_of}
use Rattle.shm_simulate.specs.declared.reaction.Reaction.TheVariants as reaction
use Rattle.shm_simulate.specs.Tries.{is_access, is_silent, try_of}
use Rattle.shm_simulate.specs.declared.page_message.PageMessage.{PageMessage}
use Rattle.shm_simulate.specs.declared.line_state.LineState.{LineState}

-- one event more
pub run-push : (o : Opening) (es : List Event) (e : Event) → run o (es ++ e ∷ []) ≡ extended (run o es) (next (run o es).world e)
run-push o es e = run_on-append (begun o) es (e ∷ [])

abbrev step_or : World → ℕ → Input → Site → Bool → Next
step_or w s input x full = if full then unstepped w s (Refused numbers_used_up) else stepped w s input (step w.count s x input)

-- a site makes a step, or the world refuses it
module _ (P : Done → Type 0) (w : World) (s : ℕ) (input : Input)
    (made : (a : Answer) → P (record { site = s; input = Some input; answer = a }))
    (refused : (n : ℕ) → P (record { site = s; input = None; answer = Refused n })) where
  of-full : (x : Site) (full : Bool) → P (step_or w s input x full).done
  of-full x true = refused numbers_used_up
  of-full x false = made (step w.count s x input).answer

  of-site : (x : Option Site) → P (step_site x w s input).done
  of-site None = refused no_such_site
  of-site (Some x) = of-full x (is_full w)

  pub step-done : P (step_at w s input).done
  step-done = of-site (slice_get w.sites s)

set-to-itself : {X : Type 0} (xs : List X) (i : ℕ) (x : X) → slice_get xs i ≡ Some x → slice_set xs i x ≡ xs
set-to-itself [] i x h = refl
set-to-itself (y ∷ xs) zero x h = let e : x ≡ y = cc in ap (λ z. z ∷ xs) e
set-to-itself (y ∷ xs) (suc i) x h = ap (λ l. y ∷ l) (set-to-itself xs i x h)

-- a refusal changes no line
refused-at : (place : ℕ) (lines : List LineState) (line : Option LineState) → slice_get lines place ≡ line → lines ≡ heard_by reaction.Other line place lines
refused-at place lines None h = refl
refused-at place lines (Some line) h = sym (set-to-itself lines place line h)

refused-same : (place : Option ℕ) (lines : List LineState) → lines ≡ heard_at reaction.Other place lines
refused-same None lines = refl
refused-same (Some place) lines = refused-at place lines (slice_get lines place) refl

-- ---- an access

-- what it adds to the lines
pub access-told : (w : World) (s : ℕ) (a : Asked) (lines : List LineState)
    → let d = (step_at w s (access_of a)).done in told d.site d.input d.answer lines ≡ heard_at (reaction_of d.answer) (next_line s lines) lines
access-told w s (asked.Load at offset) lines =
    step-done (λ d. told d.site d.input d.answer lines ≡ heard_at (reaction_of d.answer) (next_line s lines) lines) w s (message.Load at offset)
    (λ a. refl) (λ n. refused-same (next_line s lines) lines)
access-told w s (asked.Store at offset byte) lines =
    step-done (λ d. told d.site d.input d.answer lines ≡ heard_at (reaction_of d.answer) (next_line s lines) lines) w s (message.Store at offset byte)
    (λ a. refl) (λ n. refused-same (next_line s lines) lines)

-- it is handed no message
pub access-no-message : (w : World) (s : ℕ) (a : Asked) (messages : List PageMessage) → let d = (step_at w s (access_of a)).done in messages ≡ messages_with d.input d.answer messages
access-no-message w s (asked.Load at offset) messages = step-done (λ d. messages ≡ messages_with d.input d.answer messages) w s (message.Load at offset) (λ a. refl) (λ n. refl)
access-no-message w s (asked.Store at offset byte) messages = step-done (λ d. messages ≡ messages_with d.input d.answer messages) w s (message.Store at offset byte) (λ a. refl) (λ n. refl)

-- it is that of its site's next line
pub access-asks : (w : World) (s : ℕ) (a : Asked) (lines : List LineState) → IsNext lines s (access_of a)
    → let d = (step_at w s (access_of a)).done in Asks lines d.site d.input
access-asks w s (asked.Load at offset) lines is = step-done (λ d. Asks lines d.site d.input) w s (message.Load at offset) (λ a. is) (λ n. tt)
access-asks w s (asked.Store at offset byte) lines is = step-done (λ d. Asks lines d.site d.input) w s (message.Store at offset byte) (λ a. is) (λ n. tt)

pub try-next : (w : World) (s : ℕ) (a : Asked) → next w (try_of s a) ≡ step_at w s (access_of a)
try-next w s (asked.Load at offset) = refl
try-next w s (asked.Store at offset byte) = refl

-- ---- other events

-- nothing is added to the lines, and no line is asked for
pub record Quiet (d : Done) (lines : List LineState) : Type 0 where
  pub told : told d.site d.input d.answer lines ≡ lines
  pub asks : Asks lines d.site d.input

-- a delivery
quiet-deliver : (lines : List LineState) (w : World) (x : Option Envelope) → Quiet (hand_over x w).done lines
quiet-deliver lines w None = record { told = refl; asks = tt }
quiet-deliver lines w (Some e) = step-done (λ d. Quiet d lines) w e.to (message.Deliver e) (λ a. record { told = refl; asks = tt }) (λ n. record { told = refl; asks = tt })

quiet-gone : (lines : List LineState) (w : World) (k : ℕ) (x : Option Envelope) → Quiet (deliver x w k).done lines
quiet-gone lines w k None = record { told = refl; asks = tt }
quiet-gone lines w k (Some e) =
    step-done (λ d. Quiet d lines) (without w k) e.to (message.Deliver e) (λ a. record { told = refl; asks = tt }) (λ n. record { told = refl; asks = tt })

quiet-lost : (lines : List LineState) (w : World) (k : ℕ) (x : Option Envelope) → Quiet (lose x w k).done lines
quiet-lost lines w k None = record { told = refl; asks = tt }
quiet-lost lines w k (Some e) = record { told = refl; asks = tt }

pub quiet : (w : World) (e : Event) (lines : List LineState) → is_access e ≡ false → Quiet (next w e).done lines
quiet w (event.Load s a offset) lines h = cc
quiet w (event.Store s a offset byte) lines h = cc
quiet w (event.Begin s request) lines h = step-done (λ d. Quiet d lines) w s (message.Begin request) (λ a. record { told = refl; asks = tt }) (λ n. record { told = refl; asks = tt })
quiet w (event.Tick s) lines h = step-done (λ d. Quiet d lines) w s message.Tick (λ a. record { told = refl; asks = tt }) (λ n. record { told = refl; asks = tt })
quiet w (event.Restart s) lines h = step-done (λ d. Quiet d lines) w s message.Restart (λ a. record { told = refl; asks = tt }) (λ n. record { told = refl; asks = tt })
quiet w (event.Deliver k) lines h = quiet-gone lines w k (live w k)
quiet w (event.Repeat k) lines h = quiet-deliver lines w (live w k)
quiet w (event.Lose k) lines h = quiet-lost lines w k (live w k)

-- what is handed over
deliver-gone : (w : World) (k : ℕ) (x : Option Envelope) (messages : List PageMessage)
    → let d = (deliver x w k).done in kept (reaction_of d.answer) (page_message_in x) messages ≡ messages_with d.input d.answer messages
deliver-gone w k None messages = refl
deliver-gone w k (Some e) messages =
    step-done (λ d. kept (reaction_of d.answer) (page_message_of e.message) messages ≡ messages_with d.input d.answer messages) (without w k) e.to (message.Deliver e) (λ a. refl) (λ n. refl)

deliver-stays : (w : World) (x : Option Envelope) (messages : List PageMessage) → let d = (hand_over x w).done in kept (reaction_of d.answer) (page_message_in x) messages ≡ messages_with d.input d.answer messages
deliver-stays w None messages = refl
deliver-stays w (Some e) messages =
    step-done (λ d. kept (reaction_of d.answer) (page_message_of e.message) messages ≡ messages_with d.input d.answer messages) w e.to (message.Deliver e) (λ a. refl) (λ n. refl)

pub delivered : (w : World) (k : ℕ) (messages : List PageMessage) → let d = (next w (event.Deliver k)).done in kept (reaction_of d.answer) (page_message_in (live w k)) messages ≡ messages_with d.input d.answer messages
delivered w k messages = deliver-gone w k (live w k) messages

pub repeated : (w : World) (k : ℕ) (messages : List PageMessage) → let d = (next w (event.Repeat k)).done in kept (reaction_of d.answer) (page_message_in (live w k)) messages ≡ messages_with d.input d.answer messages
repeated w k messages = deliver-stays w (live w k) messages

lost : (w : World) (k : ℕ) (x : Option Envelope) (messages : List PageMessage) → let d = (lose x w k).done in messages ≡ messages_with d.input d.answer messages
lost w k None messages = refl
lost w k (Some e) messages = refl

-- nothing
pub silent-no-message : (w : World) (e : Event) (messages : List PageMessage) → is_silent e ≡ true → let d = (next w e).done in messages ≡ messages_with d.input d.answer messages
silent-no-message w (event.Load s a offset) messages h = cc
silent-no-message w (event.Store s a offset byte) messages h = cc
silent-no-message w (event.Begin s request) messages h = cc
silent-no-message w (event.Tick s) messages h = step-done (λ d. messages ≡ messages_with d.input d.answer messages) w s message.Tick (λ a. refl) (λ n. refl)
silent-no-message w (event.Restart s) messages h = step-done (λ d. messages ≡ messages_with d.input d.answer messages) w s message.Restart (λ a. refl) (λ n. refl)
silent-no-message w (event.Deliver k) messages h = cc
silent-no-message w (event.Repeat k) messages h = cc
silent-no-message w (event.Lose k) messages h = lost w k (live w k) messages
