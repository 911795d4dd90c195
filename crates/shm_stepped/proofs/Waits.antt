-- An access that waits, event by event.
use Rattle.std.proofs.Common.{◌≡◌, ℕ, ◌+◌, ◌<◌, ◌&&◌, not, Bool, true, false, List, [], ◌∷◌, ◌++◌, Option, Some, None, length, reverse, refl, sym, ap, ◌∙◌, subst, arith}
use Rattle.std.proofs.lemmas.List.{reverse-append}
use Rattle.shm_model.specs.declared.answer.Answer.{Answer}
use Rattle.shm_model.specs.declared.asked_access.Asked.{Asked}
use Rattle.shm_model.specs.declared.asked_access.Asked.TheVariants as asked
use Rattle.shm_model.specs.declared.event.Event.{Event}
use Rattle.shm_model.specs.declared.event.Event.TheVariants as event
use Rattle.shm_model.specs.Message as input
use Rattle.shm_model.specs.Message.{Envelope}
use Rattle.shm_model.specs.World as model
use Rattle.shm_progress.proofs.Rest.Deliveries.{after-append}
use Rattle.shm_stepped.specs.Choice.{Chose}
use Rattle.shm_stepped.specs.Cost.{counted, kind_of, sum_of}
use Rattle.shm_stepped.specs.Waiting.{Answered, Comes, StillWaits, Stopped, Waited, access_event, cost_of, handed, is_due, reaches, since, turn, turn_after, waits}
use Rattle.shm_stepped.specs.declared.access_cost.Cost.{Cost}
use Rattle.shm_stepped.specs.declared.event_kind.EventKind.TheVariants as kind
use Rattle.shm_stepped.specs.declared.outcome.Unanswered.{Unanswered}
use Rattle.shm_stepped.specs.declared.outcome.Unanswered.TheVariants.{BudgetSpent, OutOfMemory}
use Rattle.shm_stepped.specs.declared.waiting_access.Choice.{Choice}
use Rattle.shm_stepped.specs.declared.waiting_access.Wait.{Wait}
use Rattle.shm_world.specs.Led.{Led}
use Rattle.shm_world.specs.Steps.{Went}
use Rattle.shm_world.specs.World.{StandsFor, after, may_grow}
use Rattle.shm_world.specs.declared.world.World.{World}
use Rattle.shm_world.proofs.Runs.{run-then}
use Rattle.shm_world.proofs.Undoing.{count-at}

pub since-is : (w : model.World) (made : List Event) → since w made ≡ after w (reverse made)
since-is w [] = refl
since-is w (e ∷ earlier) = ap (λ (v : model.World). (model.next v e).world) (since-is w earlier) ∙ (sym (after-append w (reverse earlier) (e ∷ [])) ∙ ap (after w) (sym (reverse-append (e ∷ []) earlier)))

-- there are as many sites after an event as before
count-delivered : (w : model.World) (k : ℕ) (found : Option Envelope) → w.count ≡ (model.deliver found w k).world.count
count-delivered w k None = refl
count-delivered w k (Some e) = count-at _ (model.without w k) e.to (input.Deliver e)

count-handed : (w : model.World) (found : Option Envelope) → w.count ≡ (model.hand_over found w).world.count
count-handed w None = refl
count-handed w (Some e) = count-at _ w e.to (input.Deliver e)

count-lost : (w : model.World) (k : ℕ) (found : Option Envelope) → w.count ≡ (model.lose found w k).world.count
count-lost w k None = refl
count-lost w k (Some e) = refl

count-next : (w : model.World) (e : Event) → w.count ≡ (model.next w e).world.count
count-next w (event.Load s at offset) = count-at _ w s (input.Load at offset)
count-next w (event.Store s at offset byte) = count-at _ w s (input.Store at offset byte)
count-next w (event.Begin s request) = count-at _ w s (input.Begin request)
count-next w (event.Tick s) = count-at _ w s input.Tick
count-next w (event.Restart s) = count-at _ w s input.Restart
count-next w (event.Deliver k) = count-delivered w k (model.live w k)
count-next w (event.Repeat k) = count-handed w (model.live w k)
count-next w (event.Lose k) = count-lost w k (model.live w k)

pub count-since : (w : model.World) (made : List Event) → w.count ≡ (since w made).count
count-since w [] = refl
count-since w (e ∷ earlier) = count-since w earlier ∙ count-next (since w earlier) e

-- the access still waits after so many events, and what the code keeps of them is true
pub record StillWaiting {A : Type 0} (new : World A) (w : model.World) (wait : Wait) (n : ℕ) : Type 0 where
  pub made : List Event
  pub waited : Waited w wait.site (access_event wait.site wait.asked) made
  pub counted : length made ≡ n
  pub due : wait.due ≡ is_due w wait.site made
  pub tick : wait.tick ≡ turn w.count made
  pub cost : wait.cost ≡ cost_of w made
  pub stands : StandsFor new (since w made)

-- an access that is due is no delivery
kind-of-access : (w : model.World) (s : ℕ) (a : Asked) → kind.Access ≡ kind_of w (access_event s a)
kind-of-access w s (asked.Load at offset) = refl
kind-of-access w s (asked.Store at offset byte) = refl

reaches-none : (w : model.World) (s : ℕ) (a : Asked) → false ≡ reaches s (handed w (access_event s a))
reaches-none w s (asked.Load at offset) = refl
reaches-none w s (asked.Store at offset byte) = refl

pub chose-access : (w : model.World) (wait : Wait) (e : Event) → e ≡ access_event wait.site wait.asked → wait.due ≡ true
    → Chose w wait (record { event = e; kind = kind.Access; reaches = false })
chose-access w wait e is due = record {
  comes = subst (λ (d : Bool). Comes w (access_event wait.site wait.asked) d wait.tick e) (sym due) is;
  kind = kind-of-access w wait.site wait.asked ∙ sym (ap (kind_of w) is);
  reaches = reaches-none w wait.site wait.asked ∙ sym (ap (λ (x : Event). reaches wait.site (handed w x)) is);
}

-- what the code keeps after so many events
pub record Kept {A : Type 0} (old new : World A) (site : ℕ) (asked : Asked) (wait : Wait) (n : ℕ) : Type 0 where
  pub of : wait.site ≡ site
  pub makes : wait.asked ≡ asked
  pub sum : sum_of wait.cost ≡ wait.cost.events
  pub events : wait.cost.events ≡ n
  pub still : (w : model.World) → StandsFor old w → StillWaiting new w wait n

pub waits-first : {A : Type 0} (world : World A) (w : model.World) (wait : Wait) → wait.due ≡ true → wait.tick ≡ 0 → wait.cost ≡ cost_of w [] → StandsFor world w → StillWaiting world w wait 0
waits-first world w wait due tick cost stands = record { made = []; waited = tt; counted = refl; due = due; tick = tick; cost = cost; stands = stands }

-- the next event comes as it should
pub follows : {A : Type 0} (old : World A) (w : model.World) (wait : Wait) (n : ℕ) (choice : Choice) (still : StillWaiting old w wait n) → Chose (since w still.made) wait choice
    → Comes (since w still.made) (access_event wait.site wait.asked) (is_due w wait.site still.made) (turn w.count still.made) choice.event
follows old w wait n choice still chose =
    subst (λ (t : ℕ). Comes (since w still.made) (access_event wait.site wait.asked) (is_due w wait.site still.made) t choice.event) still.tick
    (subst (λ (d : Bool). Comes (since w still.made) (access_event wait.site wait.asked) d wait.tick choice.event) still.due chose.comes)

-- one event more, which left the access waiting
pub waits-on : {A : Type 0} (old new : World A) (w : model.World) (wait : Wait) (n sites : ℕ) (choice : Choice) (answer : Answer) (still : StillWaiting old w wait n)
    → Chose (since w still.made) wait choice → Went new (model.next (since w still.made) choice.event) answer → (wait.due ≡ true → waits answer ≡ true)
    → sites ≡ (model.next (since w still.made) choice.event).world.count
    → StillWaiting new w (record wait { due = choice.reaches; tick = turn_after sites choice.event wait.tick; cost = counted choice.kind wait.cost }) (n + 1)
waits-on old new w wait n sites choice answer still chose went left count =
    let v : model.World = since w still.made in
    let many : sites ≡ w.count = count ∙ sym (count-since w (choice.event ∷ still.made)) in
    record {
      made = choice.event ∷ still.made;
      waited = (follows old w wait n choice still chose, (λ due. ap waits (sym went.answered) ∙ left (still.due ∙ due)), still.waited);
      counted = let before = still.counted in omega (arith, before);
      due = chose.reaches;
      tick = ap (λ c. turn_after c choice.event wait.tick) many ∙ ap (λ t. turn_after w.count choice.event t) still.tick;
      cost = ap (λ k. counted k wait.cost) chose.kind ∙ ap (λ c. counted (kind_of v choice.event) c) still.cost;
      stands = went.stands;
    }

-- the access was made, and is answered
pub answered-at : {A : Type 0} (old new : World A) (w : model.World) (wait : Wait) (n : ℕ) (choice : Choice) (answer : Answer) (still : StillWaiting old w wait n)
    → Chose (since w still.made) wait choice → Went new (model.next (since w still.made) choice.event) answer → wait.due ≡ true → waits answer ≡ false
    → ((o : model.Opening) (before : List Event) → StandsFor old (model.run o before).world → Led o before choice.event new answer)
    → Answered new w wait.site (access_event wait.site wait.asked) (record { answer = answer; cost = counted choice.kind wait.cost })
answered-at {A} old new w wait n choice answer still chose went due ended leads =
    let v : model.World = since w still.made in
    let is : choice.event ≡ access_event wait.site wait.asked = subst (λ (d : Bool). Comes v (access_event wait.site wait.asked) d wait.tick choice.event) due chose.comes in
    let went-by : Went new (model.next v (access_event wait.site wait.asked)) answer = subst (λ (e : Event). Went new (model.next v e) answer) is went in
    record {
      made = still.made;
      waited = still.waited;
      due = sym still.due ∙ due;
      answered = went-by.answered;
      ended = ended;
      cost = ap (λ k. counted k wait.cost) (chose.kind ∙ ap (kind_of v) is) ∙ ap (λ c. counted (kind_of v (access_event wait.site wait.asked)) c) still.cost;
      stands = subst (λ (u : model.World). StandsFor {A = A} new u) (since-is w ((access_event wait.site wait.asked) ∷ still.made)) went-by.stands;
      leads = λ o before same.
          let run : (model.run o (before ++ reverse still.made)).world ≡ v = run-then o before (reverse still.made) ∙ (ap (λ (u : model.World). after u (reverse still.made)) same ∙ sym (since-is w still.made)) in
          subst (λ (e : Event). Led o (before ++ reverse still.made) e new answer) is
          (leads o (before ++ reverse still.made) (subst (λ (u : model.World). StandsFor {A = A} old u) (sym run) still.stands));
    }

-- the access still waits where no further event is made
pub stops : {A : Type 0} (old new : World A) (w : model.World) (wait : Wait) (n : ℕ) (still : StillWaiting old w wait n) → StandsFor new (since w still.made)
    → StillWaits new w wait.site (access_event wait.site wait.asked) still.made wait.cost
stops {A} old new w wait n still stands =
    record { waited = still.waited; cost = still.cost; stands = subst (λ (u : model.World). StandsFor {A = A} new u) (since-is w still.made) stands }

-- ---- the loop's invariant

both : (due left : Bool) → (due && not left) ≡ true → (due ≡ true) × (left ≡ false)
both true false h = (refl, refl)
both true true h = cc
both false left h = cc

still-left : (due left : Bool) → (due && not left) ≡ false → due ≡ true → left ≡ true
still-left true true h due = refl
still-left true false h due = cc
still-left false left h due = cc

-- one event more
module _ {A : Type 0} (first old new : World A) (site : ℕ) (asked : Asked) (wait later : Wait) (n sites : ℕ) (choice : Choice) (answer : Answer) (ended : Bool)
    (kept : Kept first old site asked wait n) (chooses : (w : model.World) → StandsFor old w → Chose w wait choice)
    (goes : (w : model.World) → StandsFor old w → Went new (model.next w choice.event) answer) (test : ended ≡ (wait.due && not (waits answer)))
    (is : later ≡ record wait { due = choice.reaches; tick = turn_after sites choice.event wait.tick; cost = counted choice.kind wait.cost }) where
  pub kept-on : ended ≡ false → ((w : model.World) → StandsFor new w → sites ≡ w.count) → sum_of later.cost ≡ later.cost.events → later.cost.events ≡ wait.cost.events + 1
      → Kept first new site asked later (n + 1)
  kept-on goes-on many sum events = record {
    of = ap (λ (t : Wait). t.site) is ∙ kept.of;
    makes = ap (λ (t : Wait). t.asked) is ∙ kept.makes;
    sum = sum;
    events = events ∙ ap (λ m. m + 1) kept.events;
    still = λ w stands.
        let still = kept.still w stands in
        let went = goes _ still.stands in
        subst (λ (t : Wait). StillWaiting {A = A} new w t (n + 1)) (sym is)
        (waits-on old new w wait n sites choice answer still (chooses _ still.stands) went (still-left wait.due (waits answer) (sym test ∙ goes-on)) (many _ went.stands));
  }

  pub answered-kept : ended ≡ true → ((o : model.Opening) (before : List Event) → StandsFor old (model.run o before).world → Led o before choice.event new answer)
      → (w : model.World) → StandsFor first w → Answered new w site (access_event site asked) (record { answer = answer; cost = later.cost })
  answered-kept ends leads w stands =
      let still = kept.still w stands in
      let known = both wait.due (waits answer) (sym test ∙ ends) in
      let at : Answered new w wait.site (access_event wait.site wait.asked) (record { answer = answer; cost = counted choice.kind wait.cost }) =
      answered-at old new w wait n choice answer still (chooses _ still.stands) (goes _ still.stands) known.0 known.1 leads in
      subst (λ (c : Cost). Answered {A = A} new w site (access_event site asked) (record { answer = answer; cost = c })) (sym (ap (λ (t : Wait). t.cost) is))
      (subst (λ (a : Asked). Answered {A = A} new w site (access_event site a) (record { answer = answer; cost = counted choice.kind wait.cost })) kept.makes
      (subst (λ (s : ℕ). Answered {A = A} new w s (access_event s wait.asked) (record { answer = answer; cost = counted choice.kind wait.cost })) kept.of at))

-- where no further event is made
stopped-as : {A : Type 0} (new : World A) (w : model.World) (wait : Wait) (site : ℕ) (asked : Asked) (budget : ℕ) (why : Unanswered) → wait.site ≡ site → wait.asked ≡ asked
    → Stopped new w wait.site (access_event wait.site wait.asked) budget why → Stopped new w site (access_event site asked) budget why
stopped-as {A} new w wait site asked budget why of makes stopped =
    subst (λ (a : Asked). Stopped {A = A} new w site (access_event site a) budget why) makes
    (subst (λ (s : ℕ). Stopped {A = A} new w s (access_event s wait.asked) budget why) of stopped)

pub spent : {A : Type 0} (first world : World A) (site : ℕ) (asked : Asked) (wait : Wait) (n budget : ℕ) → Kept first world site asked wait n → n ≡ budget
    → (w : model.World) → StandsFor first w → Stopped world w site (access_event site asked) budget (BudgetSpent wait.cost)
spent first world site asked wait n budget kept all w stands =
    let still = kept.still w stands in
    stopped-as world w wait site asked budget (BudgetSpent wait.cost) kept.of kept.makes
    (still.made, stops world world w wait n still still.stands, still.counted ∙ all)

pub without-memory : {A : Type 0} (first old new : World A) (site : ℕ) (asked : Asked) (wait : Wait) (n budget : ℕ) (choice : Choice) → Kept first old site asked wait n → n < budget
    → ((w : model.World) → StandsFor old w → Chose w wait choice) → ((w : model.World) → StandsFor old w → StandsFor new w)
    → ((w : model.World) → StandsFor old w → may_grow choice.event (model.next w choice.event).done.answer ≡ true)
    → (w : model.World) → StandsFor first w → Stopped new w site (access_event site asked) budget (OutOfMemory wait.cost)
without-memory first old new site asked wait n budget choice kept fewer chooses refused grows w stands =
    let still = kept.still w stands in
    stopped-as new w wait site asked budget (OutOfMemory wait.cost) kept.of kept.makes (
      still.made,
      stops old new w wait n still (refused _ still.stands),
      (let counted = still.counted in omega (arith, counted, fewer)),
      choice.event,
      follows old w wait n choice still (chooses _ still.stands),
      grows _ still.stands,
    )
