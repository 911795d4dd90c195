-- One run more in a tally.
use Rattle.std.proofs.Common.{◌≡◌, ℕ, ◌+◌, ◌<◌, ◌≤◌, zero, suc, Bool, true, false, List, [], ◌∷◌, ◌++◌, Some, refl, sym, ap, ◌∙◌, subst, arith, length, length-append, slice_get, slice_set, inl, inr}
use Rattle.std.specs.Prelude.{map, ◌==◌, Result, Ok, Err, OnOk}
use Rattle.std.specs.List.{All}
use Rattle.std.proofs.lemmas.Bool.Decides.{nat_tests}
use Rattle.std.proofs.lemmas.List.{map-append}
use Rattle.std.proofs.lemmas.List.Elements.{All-push}
use Rattle.std.proofs.lemmas.Option.{same_Some}
use Rattle.shm_model.specs.declared.event.Event.{Event}
use Rattle.shm_model.specs.World.{Opening}
use Rattle.shm_lines.specs.declared.workload_access.WorkloadAccess.{WorkloadAccess}
use Rattle.shm_simulate.specs.Lines.{InOrder, lines_after}
use Rattle.shm_simulate.specs.Messages.{messages_after}
use Rattle.shm_simulate.specs.Measures.{value_in}
use Rattle.shm_simulate.specs.Outcomes.{Tallied}
use Rattle.shm_simulate.specs.Spreads.{AddsAt, AreSpreads, IsSpread}
use Rattle.shm_simulate.specs.Tally.{IsRunOf, Tells, account_of, given_in, value_of}
use Rattle.shm_simulate.specs.Tries.{Allowed, Ended}
use Rattle.shm_simulate.specs.declared.odds.Odds.{Odds}
use Rattle.shm_simulate.specs.declared.page_message.PageMessage.{PageMessage}
use Rattle.shm_simulate.specs.declared.line_state.LineState.{LineState}
use Rattle.shm_simulate.specs.declared.measure.Measure.{Measure}
use Rattle.shm_simulate.specs.declared.outcome.Outcome.{Outcome}
use Rattle.shm_simulate.specs.declared.spread.Spread.{Spread}
use Rattle.shm_simulate.proofs.ListLemmas.{get-cases, get-within, set-same}

pub map-set : {X Y : Type 0} (f : X → Y) (xs : List X) (i : ℕ) (x z : X) → slice_get xs i ≡ Some x → f z ≡ f x → map f (slice_set xs i z) ≡ map f xs
map-set f [] i x z h e = refl
map-set f (y ∷ xs) zero x z h e = let s : y ≡ x = same_Some y x h in ap (λ w. w ∷ map f xs) (e ∙ ap f (sym s))
map-set f (y ∷ xs) (suc i) x z h e = ap (λ l. f y ∷ l) (map-set f xs i x z h e)

-- the spread at a place has one value more, where memory was given for it
pub adds-at : {T E : Type 0} (V : Measure → ℕ) (r : Result T E) (spreads : List Spread) (place : ℕ) (x new old : Spread) (v : ℕ)
    → slice_get spreads place ≡ Some x → slice_get spreads place ≡ Some old → new.measure ≡ x.measure → v ≡ V x.measure
    → ((values : List ℕ) → IsSpread x.counts.items values → length values < 4294967295 → OnOk r (IsSpread new.counts.items (values ++ v ∷ [])))
    → OnOk r (AddsAt place (slice_set spreads place new) old (V old.measure))
adds-at V (Ok t) spreads place x new old v there got same value more =
    let is : x ≡ old = same_Some x old (sym there ∙ got) in
    record {
      new = new;
      there = set-same spreads place x new there;
      measure = same ∙ ap (λ (s : Spread). s.measure) is;
      more = λ values spread few.
          subst (λ n. IsSpread new.counts.items (values ++ n ∷ [])) (value ∙ ap (λ (s : Spread). V s.measure) is)
          (more values (subst (λ (s : Spread). IsSpread s.counts.items values) (sym is) spread) few);
    }
adds-at V (Err e) spreads place x new old v there got same value more = tt

module _ (V : Measure → ℕ) (first now next : List Spread) (place : ℕ) (values : Measure → List ℕ) (are : AreSpreads values first)
    (few : (m : Measure) → length (values m) < 4294967295) (others : (k : ℕ) → place ≤ k → slice_get now k ≡ slice_get first k)
    (so_far : (k : ℕ) (spread : Spread) → k < place → slice_get now k ≡ Some spread → IsSpread spread.counts.items (values spread.measure ++ V spread.measure ∷ []))
    (stays : (k : ℕ) → (k ≡ place → ⊥) → slice_get next k ≡ slice_get now k)
    (added : (old : Spread) → slice_get now place ≡ Some old → AddsAt place next old (V old.measure)) (inside : place < length now) where
  here : (k : ℕ) (spread : Spread) (b : Bool) → (k == place) ≡ b → k < place + 1 → slice_get next k ≡ Some spread
      → IsSpread spread.counts.items (values spread.measure ++ V spread.measure ∷ [])
  here k spread true e below there =
      let is : k ≡ place = grind (arith, nat_tests) in
      let old = get-within now place inside in
      let one = added old.0 old.1 in
      let was : slice_get first place ≡ Some old.0 = sym (others place (omega arith)) ∙ old.1 in
      let same : one.new ≡ spread = same_Some one.new spread (sym one.there ∙ (ap (slice_get next) (sym is) ∙ there)) in
      let more : IsSpread one.new.counts.items (values old.0.measure ++ V old.0.measure ∷ []) = one.more (values old.0.measure) (are place old.0 was) (few old.0.measure) in
      subst (λ (s : Spread). IsSpread s.counts.items (values s.measure ++ V s.measure ∷ [])) same
      (subst (λ (m : Measure). IsSpread one.new.counts.items (values m ++ V m ∷ [])) (sym one.measure) more)
  here k spread false e below there =
      let ne : k ≡ place → ⊥ = grind (arith, nat_tests) in
      so_far k spread (omega (arith, ne)) (sym (stays k ne) ∙ there)

  -- the spreads up to the next one have the run's values
  pub so-far-more : (k : ℕ) (spread : Spread) → k < place + 1 → slice_get next k ≡ Some spread
      → IsSpread spread.counts.items (values spread.measure ++ V spread.measure ∷ [])
  so-far-more k spread below there = here k spread (k == place) refl below there

-- one spread more, of no runs
pub are-push : (spreads : List Spread) (new : Spread) → AreSpreads (λ _. []) spreads → IsSpread new.counts.items [] → AreSpreads (λ _. []) (spreads ++ new ∷ [])
are-push spreads new are none = λ place spread there. elim (get-cases spreads new place spread there) [
  | inl a ↦ are place spread a
  | inr b ↦ subst (λ (s : Spread). IsSpread s.counts.items []) b.1 none
]

-- the outcomes and the spreads of one run more
pub tells-more : (o : Opening) (accesses : List WorkloadAccess) (odds : Odds) (schedules : List (List Event)) (events : List Event) (lines : List LineState) (messages : List PageMessage)
    (outcomes outcomes' : List Outcome) (spreads spreads' : List Spread) → lines ≡ lines_after accesses (account_of o events)
    → messages ≡ messages_after (account_of o events) → InOrder accesses (account_of o events) → All (Allowed odds) events → Ended lines events
    → Tells o accesses odds schedules outcomes spreads
    → AreSpreads (λ m. map (value_of o accesses m) schedules ++ value_in m lines messages events ∷ []) spreads'
    → Tallied (map (given_in o accesses) schedules ++ map (λ (line : LineState). line.gave) lines ∷ []) (schedules ++ events ∷ []) outcomes'
    → Tells o accesses odds (schedules ++ events ∷ []) outcomes' spreads'
tells-more o accesses odds schedules events lines messages outcomes outcomes' spreads spreads' left arrived order allowed ended had are tallied = record {
  runs = All-push (IsRunOf o accesses odds) schedules events had.runs (record { order = order; allowed = allowed; ended = subst (λ ls. Ended ls events) left ended });
  tallied = subst (λ g. Tallied g (schedules ++ events ∷ []) outcomes')
      (ap (λ ls. map (given_in o accesses) schedules ++ map (λ (line : LineState). line.gave) ls ∷ []) left ∙ sym (map-append (given_in o accesses) schedules (events ∷ [])))
      tallied;
  spread = λ place spread there. subst (IsSpread spread.counts.items)
      (ap (λ ls. map (value_of o accesses spread.measure) schedules ++ value_in spread.measure ls messages events ∷ []) left
      ∙ (ap (λ ml. map (value_of o accesses spread.measure) schedules ++ value_in spread.measure (lines_after accesses (account_of o events)) ml events ∷ []) arrived
      ∙ sym (map-append (value_of o accesses spread.measure) schedules (events ∷ []))))
      (are place spread there);
}

pub on-ok : {T E A B : Type 0} (r : Result T E) → (A → B) → OnOk r A → OnOk r B
on-ok (Ok t) f a = f a
on-ok (Err e) f a = tt
