-- What a list of events makes of a world, event by event; and that a run of two lists is the one list after the other.
use Rattle.std.proofs.Common.{◌≡◌, ℕ, ◌+◌, ◌<◌, ◌≤◌, true, List, [], ◌∷◌, ◌++◌, Some, Result, Ok, Err, length, length-append, take, get_or, refl, suc, sym, ap, ◌∙◌, subst, append_assoc, arith}
use Rattle.std.specs.Prelude.{OnErr}
use Rattle.std.proofs.lemmas.List.{append-nil, length-take-le, take_all, take_more}
use Rattle.std.proofs.lemmas.Option.{slice_get-get_or}
use Rattle.shm_model.specs.declared.answer.Answer.{Answer}
use Rattle.shm_model.specs.declared.event.Event.{Event}
use Rattle.shm_model.specs.World as model
use Rattle.shm_laws.proofs.Run.GoesOn.{run_on-append}
use Rattle.shm_world.specs.Steps.{Went}
use Rattle.shm_world.specs.World.{after, answers, may_grow, AnsweredSome, StandsFor, StopsAtGrowth}
use Rattle.shm_world.specs.declared.world.World.{World}

-- the world stands after these events, and their answers joined those told before
pub record Ran {A : Type 0} (new : World A) (told out : List Answer) (w : model.World) (events : List Event) : Type 0 where
  pub stands : StandsFor new (after w events)
  pub answered : out ≡ told ++ answers w events

after-last : (w : model.World) (events : List Event) (e : Event) → after w (events ++ e ∷ []) ≡ (model.next (after w events) e).world
after-last w [] e = refl
after-last w (x ∷ events) e = after-last (model.next w x).world events e

answers-last : (w : model.World) (events : List Event) (e : Event) → answers w (events ++ e ∷ []) ≡ answers w events ++ (model.next (after w events) e).done.answer ∷ []
answers-last w [] e = refl
answers-last w (x ∷ events) e = ap (λ xs. (model.next w x).done.answer ∷ xs) (answers-last (model.next w x).world events e)

pub ran-none : {A : Type 0} (world : World A) (told out : List Answer) (w : model.World) (events : List Event) → StandsFor world w → out ≡ told → Ran world told out w (take 0 events)
ran-none world told out w events stands same = record { stands = stands; answered = same ∙ sym (append-nil told) }

ran-last : {A : Type 0} (old new : World A) (told out : List Answer) (answer : Answer) (w : model.World) (events : List Event) (e : Event) → Ran old told out w events
    → Went new (model.next (after w events) e) answer → Ran new told (out ++ answer ∷ []) w (events ++ e ∷ [])
ran-last {A} old new told out answer w events e ran went = record {
  stands = subst (λ (v : model.World). StandsFor {A = A} new v) (sym (after-last w events e)) went.stands;
  answered = ap (λ xs. xs ++ answer ∷ []) ran.answered
      ∙ append_assoc told (answers w events) (answer ∷ [])
      ∙ ap (λ a. told ++ (answers w events ++ a ∷ [])) went.answered
      ∙ ap (λ xs. told ++ xs) (sym (answers-last w events e));
}

pub ran-more : {A : Type 0} (old new : World A) (told out later : List Answer) (answer : Answer) (w : model.World) (events : List Event) (i : ℕ) (e : Event) → i < length events
    → e ≡ get_or events i e → later ≡ out ++ answer ∷ [] → Ran old told out w (take i events) → Went new (model.next (after w (take i events)) e) answer → Ran new told later w (take (i + 1) events)
ran-more {A} old new told out later answer w events i e below here joined ran went =
    let more : take (i + 1) events ≡ take i events ++ e ∷ [] = take_more events i e below ∙ ap (λ x. take i events ++ x ∷ []) (sym here) in
    let last : Ran {A = A} new told (out ++ answer ∷ []) w (take i events ++ e ∷ []) = ran-last old new told out answer w (take i events) e ran went in
    let joins : Ran {A = A} new told later w (take i events ++ e ∷ []) = subst (λ (xs : List Answer). Ran {A = A} new told xs w (take i events ++ e ∷ [])) (sym joined) last in
    subst (λ (xs : List Event). Ran {A = A} new told later w xs) (sym more) joins

pub ran-all : {A : Type 0} (new : World A) (told out : List Answer) (w : model.World) (events : List Event) (i : ℕ) → length events ≤ i → Ran new told out w (take i events) → Ran new told out w events
ran-all {A} new told out w events i all ran = subst (λ (xs : List Event). Ran {A = A} new told out w xs) (take_all i events all) ran

pub ran-some : {A X E : Type 0} (result : Result X E) (old new : World A) (told out : List Answer) (w : model.World) (events : List Event) (i : ℕ) → i < length events
    → Ran old told out w (take i events) → StandsFor new (after w (take i events)) → OnErr result (AnsweredSome new told out w events)
ran-some (Ok x) old new told out w events i within ran stands = tt
ran-some (Err e) old new told out w events i within ran stands = record { count = i; within = within; stands = stands; answered = ran.answered }

pub length-answers : (w : model.World) (events : List Event) → length (answers w events) ≡ length events
length-answers w [] = refl
length-answers w (e ∷ events) = ap suc (length-answers (model.next w e).world events)

-- a run stops at an event at which memory may be missing
pub stops-here : {A : Type 0} (old : World A) (told out : List Answer) (w : model.World) (events : List Event) (i : ℕ) (e : Event) → i < length events → e ≡ get_or events i e
    → Ran old told out w (take i events) → may_grow e (model.next (after w (take i events)) e).done.answer ≡ true → StopsAtGrowth told out w events
stops-here old told out w events i e below here ran grows = record {
  count = i;
  event = e;
  joined = ap length ran.answered
      ∙ length-append told (answers w (take i events))
      ∙ ap (λ n. length told + n) (length-answers w (take i events) ∙ length-take-le i events (omega (arith, below)));
  next = slice_get-get_or events i e below ∙ ap (λ x. Some x) (sym here);
  grows = grows;
}

-- runs
run_on-after : (r : model.Run) (events : List Event) → (model.run_on r events).world ≡ after r.world events
run_on-after r [] = refl
run_on-after r (e ∷ events) = run_on-after (model.extended r (model.next r.world e)) events

-- a run goes on from where the first events left it
pub run-then : (o : model.Opening) (before events : List Event) → (model.run o (before ++ events)).world ≡ after (model.run o before).world events
run-then o before events = ap (λ (r : model.Run). r.world) (run_on-append (model.begun o) before events) ∙ run_on-after (model.run o before) events
