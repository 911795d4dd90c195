-- Every world comes to rest: as long as something is on its way it can be handed over, and that ends.
use Rattle.std.proofs.Common.{◌≡◌, ℕ, zero, suc, ◌<◌, ◌≤◌, ◌⊎◌, inl, inr, Option, Some, None, List, [], ◌∷◌, ◌++◌, IsTrue, is_some, map, length, slice_get, append_assoc, arith, refl, sym, ◌∙◌, ap, subst}
use Rattle.std.proofs.lemmas.Bool.{cases_lt, cond_both}
use Rattle.std.proofs.lemmas.List.{append-nil, length-append}
use Rattle.std.proofs.lemmas.Option.{slice_get_past}
use Rattle.shm_model.specs.declared.event.Event.{Event}
use Rattle.shm_model.specs.declared.event.Event.TheVariants.{Deliver as DeliverEvent}
use Rattle.shm_model.specs.Message.{Envelope}
use Rattle.shm_model.specs.World.{Opening, Run, World, begun, extended, live, next, run}
use Rattle.shm_laws.proofs.Run.GoesOn.{run_on-append}
use Rattle.shm_progress.specs.Deliveries.{AreOnTheirWay, ComesToRest, IsAtRest, deliveries_left}
use Rattle.shm_progress.proofs.Ending.Falls.{counts, ends}

module _ (w : World) where
  abbrev Found : ℕ → Type 0
  Found n = ((k : ℕ) × IsTrue (is_some (live w k))) ⊎ ((k : ℕ) → k < n → live w k ≡ None)

  below-more : (n : ℕ) → ((k : ℕ) → k < n → live w k ≡ None) → live w n ≡ None → (k : ℕ) → k < suc n → live w k ≡ None
  below-more n none here k l = by-order (cases_lt k n)
    where
      by-order : (k < n) ⊎ (n ≤ k) → live w k ≡ None
      by-order (inl low) = none k low
      by-order (inr high) = let same : k ≡ n = omega arith in ap (live w) same ∙ here

  found-at : (n : ℕ) (found : Option Envelope) → live w n ≡ found → ((k : ℕ) → k < n → live w k ≡ None) → Found (suc n)
  found-at n None h none = inr (below-more n none h)
  found-at n (Some e) h none = inl (n, ap is_some h)

  find-below : (n : ℕ) → Found n
  find-below zero = inr (λ k l. absurd (omega arith))
  find-below (suc n) = elim (find-below n) [
    | inl found ↦ inl found
    | inr none ↦ found-at n (live w n) refl none
  ]

  past-none : (k : ℕ) → length w.sent ≤ k → live w k ≡ None
  past-none k high = cond_both (w.gone k) None (slice_get w.sent k) (λ y. y ≡ None) (λ e. refl) (λ e. slice_get_past w.sent k high)

  all-none : ((k : ℕ) → k < length w.sent → live w k ≡ None) → IsAtRest w
  all-none none k = by-order (cases_lt k (length w.sent))
    where
      by-order : (k < length w.sent) ⊎ (length w.sent ≤ k) → live w k ≡ None
      by-order (inl low) = none k low
      by-order (inr high) = past-none k high

  -- something is on its way, or nothing
  pub find : ((k : ℕ) × IsTrue (is_some (live w k))) ⊎ IsAtRest w
  find = elim (find-below (length w.sent)) [
    | inl found ↦ inl found
    | inr none ↦ inr (all-none none)
  ]

more-rest : (o : Opening) (events : List Event) (k : ℕ) → IsTrue (is_some (live (run o events).world k)) → ComesToRest o (events ++ (DeliverEvent k ∷ [])) → ComesToRest o events
more-rest o events k going rest = record {
  envelopes = k ∷ rest.envelopes;
  on_their_way = (going, subst (λ (r : Run). AreOnTheirWay r.world rest.envelopes) (run_on-append (begun o) events (DeliverEvent k ∷ [])) rest.on_their_way);
  at_rest = subst (λ es. IsAtRest (run o es).world) (append_assoc events (DeliverEvent k ∷ []) (map DeliverEvent rest.envelopes)) rest.at_rest;
}

rests-within : (o : Opening) (n : ℕ) (events : List Event) → deliveries_left (run o events).world < n → ComesToRest o events
rests-within o zero events l = absurd (omega arith)
rests-within o (suc n) events l = elim (find (run o events).world) [
  | inl found ↦
      let less = counts o events found.0 found.1 in
      let goes_on : run o (events ++ (DeliverEvent found.0 ∷ [])) ≡ extended (run o events) (next (run o events).world (DeliverEvent found.0)) = run_on-append (begun o) events (DeliverEvent found.0 ∷ []) in
      let fewer : deliveries_left (run o (events ++ (DeliverEvent found.0 ∷ []))).world < n = subst (λ (r : Run). deliveries_left r.world < n) (sym goes_on) (omega (arith, less, l)) in
      more-rest o events found.0 found.1 (rests-within o n (events ++ (DeliverEvent found.0 ∷ [])) fewer)
  | inr none ↦ record { envelopes = []; on_their_way = tt; at_rest = subst (λ es. IsAtRest (run o es).world) (sym (append-nil events)) none }
]

pub rests : (o : Opening) (events : List Event) → ComesToRest o events
rests o events = rests-within o (suc (deliveries_left (run o events).world)) events (omega arith)

-- one envelope more
pub on-way-last : (o : Opening) (events : List Event) (ks : List ℕ) (k : ℕ) → AreOnTheirWay (run o events).world ks → IsTrue (is_some (live (run o (events ++ map DeliverEvent ks)).world k))
    → AreOnTheirWay (run o events).world (ks ++ (k ∷ []))
on-way-last o events [] k on_way going = (subst (λ es. IsTrue (is_some (live (run o es).world k))) (append-nil events) going, tt)
on-way-last o events (x ∷ ks) k on_way going =
    let goes_on : run o (events ++ (DeliverEvent x ∷ [])) ≡ extended (run o events) (next (run o events).world (DeliverEvent x)) = run_on-append (begun o) events (DeliverEvent x ∷ []) in
    let rest : AreOnTheirWay (run o (events ++ (DeliverEvent x ∷ []))).world (ks ++ (k ∷ [])) = on-way-last o (events ++ (DeliverEvent x ∷ [])) ks k
    (subst (λ (r : Run). AreOnTheirWay r.world ks) (sym goes_on) on_way.1)
    (subst (λ es. IsTrue (is_some (live (run o es).world k))) (sym (append_assoc events (DeliverEvent x ∷ []) (map DeliverEvent ks))) going) in
    (on_way.0, subst (λ (r : Run). AreOnTheirWay r.world (ks ++ (k ∷ []))) goes_on rest)

-- after as many deliveries as there can be nothing is on its way
pub rests-at : (o : Opening) (events : List Event) (ks : List ℕ) → AreOnTheirWay (run o events).world ks → deliveries_left (run o events).world ≤ length ks → IsAtRest (run o (events ++ map DeliverEvent ks)).world
rests-at o events ks on_way many = elim (find (run o (events ++ map DeliverEvent ks)).world) [
  | inl found ↦ absurd (too-many found.0 found.1)
  | inr rest ↦ rest
]
  where
    too-many : (k : ℕ) → IsTrue (is_some (live (run o (events ++ map DeliverEvent ks)).world k)) → ⊥
    too-many k going =
        let few = ends o events (ks ++ (k ∷ [])) (on-way-last o events ks k on_way going) in
        let longer = length-append ks (k ∷ []) in
        omega (arith, few, longer, many)
