-- One event more in a run of a workload.
use Rattle.std.proofs.Common.{◌≡◌, ℕ, List, [], ◌∷◌, ◌++◌, Some, refl, sym, ap, ◌∙◌, subst, slice_get, true, false}
use Rattle.shm_model.specs.declared.asked_access.Asked.{Asked}
use Rattle.shm_model.specs.declared.asked_access.Asked.TheVariants as asked
use Rattle.shm_model.specs.declared.event.Event.{Event}
use Rattle.shm_model.specs.declared.event.Event.TheVariants as event
use Rattle.std.specs.List.{All}
use Rattle.shm_model.specs.Receipt.{access_of}
use Rattle.shm_model.specs.World.{Done, Next, Opening, Run, World, extended, live, next, run, step_at}
use Rattle.shm_world.specs.World.{StandsFor}
use Rattle.shm_lines.specs.declared.workload_access.WorkloadAccess.{WorkloadAccess}
use Rattle.shm_simulate.specs.PartialRun.{Follows}
use Rattle.shm_simulate.specs.Lines.{Asks, InOrder, IsNext, heard_at, lines_after, next_line, told}
use Rattle.shm_simulate.specs.Messages.{kept, page_message_in, messages_after, messages_with}
use Rattle.shm_simulate.specs.Reactions.{reaction_of}
use Rattle.shm_simulate.specs.declared.reaction.Reaction.{Reaction}
use Rattle.shm_simulate.specs.Tries.{Allowed, is_access, is_silent, try_of}
use Rattle.shm_simulate.specs.declared.odds.Odds.{Odds}
use Rattle.shm_simulate.specs.declared.partial_run.PartialRun.{PartialRun}
use Rattle.shm_simulate.specs.declared.page_message.PageMessage.{PageMessage}
use Rattle.shm_simulate.specs.declared.line_state.LineState.{LineState}
use Rattle.std.proofs.lemmas.List.Elements.{All-push}
use Rattle.shm_simulate.proofs.AccountLemmas.{access-asks, access-no-message, access-told, delivered, quiet, repeated, run-push, try-next, silent-no-message}

silent-quiet : (e : Event) → is_silent e ≡ true → is_access e ≡ false
silent-quiet (event.Load s a offset) h = cc
silent-quiet (event.Store s a offset byte) h = cc
silent-quiet (event.Begin s request) h = refl
silent-quiet (event.Tick s) h = refl
silent-quiet (event.Restart s) h = refl
silent-quiet (event.Deliver k) h = refl
silent-quiet (event.Repeat k) h = refl
silent-quiet (event.Lose k) h = refl

module _ (o : Opening) (accesses : List WorkloadAccess) (odds : Odds) (old new : PartialRun) (e : Event) (had : Follows o accesses odds old)
    (stands : StandsFor new.world (run o (old.events.items ++ e ∷ [])).world) (joined : new.events.items ≡ old.events.items ++ e ∷ [])
    (may : Allowed odds e) where
  now : run o new.events.items ≡ extended (run o old.events.items) (next (run o old.events.items).world e)
  now = ap (run o) joined ∙ run-push o old.events.items e

  -- what the event did is what is read off the account
  pub goes-on : let d = (next (run o old.events.items).world e).done in new.lines.items ≡ told d.site d.input d.answer old.lines.items
      → new.messages.items ≡ messages_with d.input d.answer old.messages.items → Asks old.lines.items d.site d.input → Follows o accesses odds new
  goes-on lines messages asks =
      let d : Done = (next (run o old.events.items).world e).done in
      record {
        stands = subst (λ es. StandsFor new.world (run o es).world) (sym joined) stands;
        lines = lines ∙ (ap (told d.site d.input d.answer) had.lines ∙ ap (λ (r : Run). lines_after accesses r.account) (sym now));
        messages = messages ∙ (ap (messages_with d.input d.answer) had.messages ∙ ap (λ (r : Run). messages_after r.account) (sym now));
        order = subst (λ (r : Run). InOrder accesses r.account) (sym now)
            (subst (λ ls. Asks ls d.site d.input) had.lines asks, had.order);
        allowed = subst (All (Allowed odds)) (sym joined) (All-push (Allowed odds) old.events.items e had.allowed may);
      }

  -- a tick, a restart or a loss
  pub passes : is_silent e ≡ true → new.lines ≡ old.lines → new.messages ≡ old.messages → Follows o accesses odds new
  passes silent lines messages =
      let w : World = (run o old.events.items).world in
      let q = quiet w e old.lines.items (silent-quiet e silent) in
      goes-on (ap (λ v. v.items) lines ∙ sym q.told) (ap (λ v. v.items) messages ∙ silent-no-message w e old.messages.items silent) q.asks

-- an envelope is handed over, and is gone
pub delivers : (o : Opening) (accesses : List WorkloadAccess) (odds : Odds) (old new : PartialRun) (k : ℕ) (reaction : Reaction) (had : Follows o accesses odds old)
    → StandsFor new.world (run o (old.events.items ++ event.Deliver k ∷ [])).world → new.events.items ≡ old.events.items ++ event.Deliver k ∷ []
    → reaction ≡ reaction_of (next (run o old.events.items).world (event.Deliver k)).done.answer → new.lines ≡ old.lines
    → new.messages.items ≡ kept reaction (page_message_in (live (run o old.events.items).world k)) old.messages.items → Follows o accesses odds new
delivers o accesses odds old new k reaction had stands joined answered lines messages =
    let w : World = (run o old.events.items).world in
    let q = quiet w (event.Deliver k) old.lines.items refl in
    goes-on o accesses odds old new (event.Deliver k) had stands joined refl (ap (λ v. v.items) lines ∙ sym q.told)
    (messages ∙ (ap (λ a. kept a (page_message_in (live w k)) old.messages.items) answered ∙ delivered w k old.messages.items)) q.asks

-- and stays on its way
pub repeats : (o : Opening) (accesses : List WorkloadAccess) (odds : Odds) (old new : PartialRun) (k : ℕ) (reaction : Reaction) (had : Follows o accesses odds old)
    → Allowed odds (event.Repeat k) → StandsFor new.world (run o (old.events.items ++ event.Repeat k ∷ [])).world → new.events.items ≡ old.events.items ++ event.Repeat k ∷ []
    → reaction ≡ reaction_of (next (run o old.events.items).world (event.Repeat k)).done.answer → new.lines ≡ old.lines
    → new.messages.items ≡ kept reaction (page_message_in (live (run o old.events.items).world k)) old.messages.items → Follows o accesses odds new
repeats o accesses odds old new k reaction had may stands joined answered lines messages =
    let w : World = (run o old.events.items).world in
    let q = quiet w (event.Repeat k) old.lines.items refl in
    goes-on o accesses odds old new (event.Repeat k) had stands joined may (ap (λ v. v.items) lines ∙ sym q.told)
    (messages ∙ (ap (λ a. kept a (page_message_in (live w k)) old.messages.items) answered ∙ repeated w k old.messages.items)) q.asks

try-allowed : (odds : Odds) (s : ℕ) (a : Asked) → Allowed odds (try_of s a)
try-allowed odds s (asked.Load at offset) = refl
try-allowed odds s (asked.Store at offset byte) = refl

-- the first line of a site that isn't done is tried
pub tries : (o : Opening) (accesses : List WorkloadAccess) (odds : Odds) (old new : PartialRun) (s place : ℕ) (line : LineState) (e : Event) (reaction : Reaction) (had : Follows o accesses odds old)
    → next_line s old.lines.items ≡ Some place → slice_get old.lines.items place ≡ Some line → e ≡ try_of s line.access.asked
    → StandsFor new.world (run o (old.events.items ++ e ∷ [])).world → new.events.items ≡ old.events.items ++ e ∷ []
    → reaction ≡ reaction_of (next (run o old.events.items).world e).done.answer
    → new.lines.items ≡ heard_at reaction (Some place) old.lines.items → new.messages ≡ old.messages → Follows o accesses odds new
tries o accesses odds old new s place line e reaction had first there is stands joined answered lines messages =
    let w : World = (run o old.events.items).world in
    let step : next w e ≡ step_at w s (access_of line.access.asked) =
    ap (next w) is ∙ try-next w s line.access.asked in
    let done : (next w e).done ≡ (step_at w s (access_of line.access.asked)).done = ap (λ (n : Next). n.done) step in
    let a : reaction ≡ reaction_of (step_at w s (access_of line.access.asked)).done.answer = answered ∙ ap (λ (n : Next). reaction_of n.done.answer) step in
    let is_next : IsNext old.lines.items s (access_of line.access.asked) = record { place = place; line = line; next = first; there = there; asked = refl } in
    goes-on o accesses odds old new e had stands joined (subst (Allowed odds) (sym is) (try-allowed odds s line.access.asked))
    (lines ∙ (ap (λ p. heard_at reaction p old.lines.items) (sym first) ∙ (ap (λ x. heard_at x (next_line s old.lines.items) old.lines.items) a
    ∙ (sym (access-told w s line.access.asked old.lines.items) ∙ ap (λ (d : Done). told d.site d.input d.answer old.lines.items) (sym done)))))
    (ap (λ v. v.items) messages ∙ (access-no-message w s line.access.asked old.messages.items ∙ ap (λ (d : Done). messages_with d.input d.answer old.messages.items) (sym done)))
    (subst (λ (d : Done). Asks old.lines.items d.site d.input) (sym done) (access-asks w s line.access.asked old.lines.items is_next))
