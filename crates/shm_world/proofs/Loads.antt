-- What a run answers, and where it leads: each byte is that of the last store to its place, since the run's account is legal.
use Rattle.std.proofs.Common.{◌≡◌, ◌∙◌, ℕ, ◌+◌, Bool, true, false, List, [], ◌∷◌, ◌++◌, Option, Some, None, ap, if◌then◌else◌, length, refl, slice_get, subst, suc, sym, take, zero, arith, length-append, ◌<◌}
use Rattle.std.proofs.lemmas.List.{length-take-le}
use Rattle.std.proofs.lemmas.Option.{same_Some, slice_get_within}
use Rattle.shm_laws.proofs.Log.Lists.{slice_get-append_right}
use Rattle.shm_laws.proofs.Run.GoesOn.{run_on-append}
use Rattle.shm_model.specs.declared.answer.Answer.{Answer}
use Rattle.shm_model.specs.declared.answer.Answer.TheVariants.{Byte, Refused}
use Rattle.shm_model.specs.declared.event.Event.{Event}
use Rattle.shm_model.specs.declared.event.Event.TheVariants as event
use Rattle.shm_model.specs.Memory.{Legal, LoadsLast, last_store, segment_of}
use Rattle.shm_model.specs.Message.{Load}
use Rattle.shm_model.specs.Refusal.{numbers_used_up}
use Rattle.shm_model.specs.Site.{Site}
use Rattle.shm_model.specs.Step.{step}
use Rattle.shm_model.specs.World as model
use Rattle.shm_model.specs.Promise.{EachGivesLast, GivesLast, Promised}
use Rattle.shm_world.specs.Led.{Led, LedAlong, LedPartway}
use Rattle.shm_world.specs.Steps.{Went}
use Rattle.shm_world.specs.World.{after, answers, StandsFor}
use Rattle.shm_world.specs.declared.world.World.{World}
use Rattle.shm_world.proofs.Runs.{Ran, length-answers, run-then}

-- ---- one load

abbrev Loaded : model.Opening → List model.Done → ℕ → ℕ → ℕ → ℕ → Type 0
Loaded o ds s a offset byte = (id : ℕ) × (segment_of o ds s a ≡ Some id) × (byte ≡ last_store o ds id offset)

-- what became of this event is legal after this account
abbrev LegalNext : model.Opening → List model.Done → model.Done → Type 0
LegalNext o ds d = LoadsLast d.input d.answer (segment_of o ds d.site) (last_store o ds)

loads-stepped : (o : model.Opening) (ds : List model.Done) (w : model.World) (s : ℕ) (x : Site) (a offset byte : ℕ) (full : Bool)
    → LegalNext o ds (if full then model.unstepped w s (Refused numbers_used_up) else model.stepped w s (Load a offset) (step w.count s x (Load a offset))).done
    → Byte byte ≡ (if full then model.unstepped w s (Refused numbers_used_up) else model.stepped w s (Load a offset) (step w.count s x (Load a offset))).done.answer
    → Loaded o ds s a offset byte
loads-stepped o ds w s x a offset byte true h is = absurd (cc)
loads-stepped o ds w s x a offset byte false h is = subst (λ answer. LoadsLast (Some (Load a offset)) answer (segment_of o ds s) (last_store o ds)) (sym is) h

loads-at : (o : model.Opening) (ds : List model.Done) (w : model.World) (s a offset byte : ℕ) (m : Option Site) → LegalNext o ds (model.step_site m w s (Load a offset)).done
    → Byte byte ≡ (model.step_site m w s (Load a offset)).done.answer → Loaded o ds s a offset byte
loads-at o ds w s a offset byte None h is = absurd (cc)
loads-at o ds w s a offset byte (Some x) h is = loads-stepped o ds w s x a offset byte (model.is_full w) h is

gives-next : (o : model.Opening) (before : List Event) (e : Event) (answer : Answer) → LegalNext o (model.run o before).account (model.next (model.run o before).world e).done
    → answer ≡ (model.next (model.run o before).world e).done.answer → GivesLast o before e answer
gives-next o before (event.Load s a offset) (Byte byte) h is =
    let r = model.run o before in
    loads-at o r.account r.world s a offset byte (slice_get r.world.sites s) h is
gives-next o before _ _ h is = tt

-- ---- runs that go on by one event

-- the answer to an event is that of the last store where it gives a byte
pub gives-last : (o : model.Opening) (before : List Event) (e : Event) (answer : Answer) → Promised o (before ++ e ∷ [])
    → answer ≡ (model.next (model.run o before).world e).done.answer → GivesLast o before e answer
gives-last o before e answer promised is =
    let legal = subst (λ (r : model.Run). Legal o r.account) (run_on-append (model.begun o) before (e ∷ [])) promised.legal in
    gives-next o before e answer legal.0 is

-- ---- runs that go on by a list of events

-- the answers are those of the events, each from where the ones before it led
answers-each : (w : model.World) (events : List Event) (k : ℕ) (e : Event) (answer : Answer) → slice_get events k ≡ Some e → slice_get (answers w events) k ≡ Some answer
    → answer ≡ (model.next (after w (take k events)) e).done.answer
answers-each w [] k e answer here told = absurd (cc)
answers-each w (x ∷ events) zero e answer here told = sym (same_Some _ _ told) ∙ ap (λ y. (model.next w y).done.answer) (same_Some _ _ here)
answers-each w (x ∷ events) (suc k) e answer here told = answers-each (model.next w x).world events k e answer here told

module _ (promised : (o : model.Opening) (events : List Event) → model.IsOpening o → Promised o events) where
  -- an event leads a world that stood after these events on along their run
  pub led : {A : Type 0} (new : World A) (o : model.Opening) (before : List Event) (e : Event) (answer : Answer) → Went new (model.next (model.run o before).world e) answer
      → Led o before e new answer
  led {A} new o before e answer went = record {
    stands = subst (λ (w : model.World). StandsFor {A = A} new w) (sym (run-then o before (e ∷ []))) went.stands;
    answered = went.answered;
    promised = promised o (before ++ e ∷ []);
    last = λ opening. gives-last o before e answer (promised o (before ++ e ∷ []) opening) went.answered;
  }

  -- each byte that has joined is that of the last store
  each-gives-last : (told out : List Answer) (o : model.Opening) (before events : List Event) → model.IsOpening o → out ≡ told ++ answers (model.run o before).world events
      → EachGivesLast o before events (length told) out
  each-gives-last told out o before events opening answered = λ k e answer here joined.
      let w = (model.run o before).world in
      let joins : slice_get (answers w events) k ≡ Some answer =
      sym (slice_get-append_right told (answers w events) (length told + k) k refl) ∙ ap (λ xs. slice_get xs (length told + k)) (sym answered) ∙ joined in
      gives-last o (before ++ take k events) e answer (promised o ((before ++ take k events) ++ e ∷ []) opening)
      (answers-each w events k e answer here joins ∙ ap (λ v. (model.next v e).done.answer) (sym (run-then o before (take k events))))

  -- so does a list of events
  pub led-along : {A : Type 0} (new : World A) (told out : List Answer) (o : model.Opening) (before events : List Event) → Ran new told out (model.run o before).world events
      → LedAlong o before events new told out
  led-along {A} new told out o before events ran = record {
    stands = subst (λ (w : model.World). StandsFor {A = A} new w) (sym (run-then o before events)) ran.stands;
    answered = ran.answered;
    promised = promised o (before ++ events);
    last = λ opening. each-gives-last told out o before events opening ran.answered;
  }

  -- and where it is stopped, those of its events that were answered
  pub led-partway : {A : Type 0} (old new : World A) (told out : List Answer) (o : model.Opening) (before events : List Event) (i : ℕ) → i < length events
      → Ran old told out (model.run o before).world (take i events) → StandsFor new (after (model.run o before).world (take i events)) → LedPartway o before events new told out
  led-partway old new told out o before events i within ran stands = record {
    count = i;
    within = within;
    led = led-along new told out o before (take i events) (record { stands = stands; answered = ran.answered });
  }

-- what stands at a place among the first so many
get-front : (events : List Event) (n k : ℕ) (e : Event) → k < n → slice_get events k ≡ Some e → (slice_get (take n events) k ≡ Some e) × (take k (take n events) ≡ take k events)
get-front [] n k e low here = absurd (cc)
get-front (x ∷ events) zero k e low here = absurd (omega arith)
get-front (x ∷ events) (suc n) zero e low here = (here, refl)
get-front (x ∷ events) (suc n) (suc k) e low here = let rest = get-front events n k e (omega arith) here in (rest.0, ap (λ es. x ∷ es) rest.1)

-- where a run was stopped too, each byte that joined is that of the last store: the events that weren't made have no answer
pub partway-gives-last : {A : Type 0} (new : World A) (told out : List Answer) (o : model.Opening) (before events : List Event) → LedPartway o before events new told out → model.IsOpening o
    → EachGivesLast o before events (length told) out
partway-gives-last new told out o before events partway opening = λ k e answer here joined.
    let w = (model.run o before).world in
    let within = slice_get_within out (length told + k) answer joined in
    let count = ap length partway.led.answered ∙ length-append told (answers w (take partway.count events)) in
    let each = length-answers w (take partway.count events) in
    let most = length-take-le partway.count events (omega (arith, partway.within)) in
    let front = get-front events partway.count k e (omega (arith, within, count, each, most)) here in
    subst (λ es. GivesLast o (before ++ es) e answer) front.1 (partway.led.last opening k e answer front.0 joined)
