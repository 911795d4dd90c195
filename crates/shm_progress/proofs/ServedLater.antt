-- From every world two rounds serve all requests, with no more events than there are for them.
use Rattle.std.proofs.Common.{◌≡◌, ◌+◌, ◌≤◌, Bool, true, false, List, ◌++◌, append_assoc, ap, arith, length, length-append, refl, subst, sum_by, sym, ◌∙◌}
use Rattle.std.specs.List.{range_with_len}
use Rattle.std.proofs.lemmas.Bool.{le-ltb}
use Rattle.shm_model.specs.Basics.{max_sent}
use Rattle.shm_model.specs.declared.event.Event.{Event}
use Rattle.shm_model.specs.World.{IsOpening, Opening, Run, World, begun, is_full, run, run_on, sites_of}
use Rattle.shm_laws.proofs.Run.GoesOn.{run_on-append}
use Rattle.shm_laws.proofs.Run.Induction.{run-shape}
use Rattle.shm_progress.specs.Bounds.{asked_again, events_to_serve, sent_to_serve}
use Rattle.shm_progress.specs.Rounds.{FaultsServed, ManagersSettled, NonePending, Served, ServedLater, Settled}
use Rattle.shm_progress.proofs.Bounds.Pending.{asked-fewer}
use Rattle.shm_progress.proofs.Bounds.Ticks.{asked, ticks-none}
use Rattle.shm_progress.proofs.Round.{settles}
use Rattle.shm_progress.proofs.RoundExists.{Short, all_tick, calm-both, few-events, few-sent, kept-both, short-round, stands-both, ticked-few}
use Rattle.shm_progress.proofs.Request.Again.{second-settles}
use Rattle.shm_progress.proofs.Request.Faults.{faults-served}
use Rattle.shm_progress.proofs.Transfer.Ends.{managers-settle}

module _ (o : Opening) (opening : IsOpening o) (events : List Event) where
  abbrev w : World
  w = (run o events).world

  -- the ticks of the second round send no more than those of the first would
  module _ (first : Short o events) where
    abbrev u : World
    u = (run o (events ++ first.later)).world

    quiet : is_full u ≡ false → asked_again u ≤ asked_again w
    quiet free =
        let on : run o (events ++ first.later) ≡ run_on (run o events) first.later = run_on-append (begun o) events first.later in
        let settled : Settled (run_on (run o events) first.later).world = subst (λ (r : Run). Settled r.world) on (settles o opening events first.later first.kept first.ticks free first.at_rest) in
        let ended : ManagersSettled (run_on (run o events) first.later).world =
        subst (λ (r : Run). ManagersSettled r.world) on (managers-settle o opening events first.later first.kept first.unrestarted first.ticks free first.at_rest) in
        let fewer = asked-fewer (run o events) first.later first.calm settled ended (range_with_len 0 (sites_of o)) in
        let now : asked_again u ≡ sum_by (asked (run_on (run o events) first.later).world.count (run_on (run o events) first.later).world.sites) (range_with_len 0 (sites_of o)) =
        ap (λ n. sum_by (asked u.count u.sites) (range_with_len 0 n)) (run-shape o (events ++ first.later)).count
        ∙ ap (λ (r : Run). sum_by (asked r.world.count r.world.sites) (range_with_len 0 (sites_of o))) on in
        let before : asked_again w ≡ sum_by (asked w.count w.sites) (range_with_len 0 (sites_of o)) = ap (λ n. sum_by (asked w.count w.sites) (range_with_len 0 n)) (run-shape o events).count in
        omega (arith, fewer, now, before)

    second-ticked : length (run o ((events ++ first.later) ++ all_tick (sites_of o))).world.sent ≤ length u.sent + asked_again w
    second-ticked = by-full (is_full u) refl
      where
        by-full : (full : Bool) → is_full u ≡ full → length (run o ((events ++ first.later) ++ all_tick (sites_of o))).world.sent ≤ length u.sent + asked_again w
        by-full true full =
            let on = ap (λ (r : Run). length r.world.sent) (run_on-append (begun o) (events ++ first.later) (all_tick (sites_of o))) in
            let none = ticks-none (run o (events ++ first.later)) (range_with_len 0 (sites_of o)) full in
            omega (arith, on, none)
        by-full false free = let few = ticked-few o (events ++ first.later) in let fewer = quiet free in omega (arith, few, fewer)

  abbrev first : Short o events
  first = short-round o events

  abbrev second : Short o (events ++ first.later)
  second = short-round o (events ++ first.later)

  abbrev both : List Event
  both = first.later ++ second.later

  joined : (events ++ first.later) ++ second.later ≡ events ++ both
  joined = append_assoc events first.later second.later

  few : length both ≤ events_to_serve w
  few =
      let one = few-events o opening events (asked_again w) (ticked-few o events) first in
      let sent = few-sent o opening events (asked_again w) (ticked-few o events) first in
      let two = few-events o opening (events ++ first.later) (asked_again w) (second-ticked first) second in
      let all = length-append first.later second.later in
      let count = (run-shape o events).count in
      omega (arith, one, sent, two, all, count)

  few_sent : length (run o (events ++ both)).world.sent ≤ sent_to_serve w
  few_sent =
      let sent = few-sent o opening events (asked_again w) (ticked-few o events) first in
      let more = few-sent o opening (events ++ first.later) (asked_again w) (second-ticked first) second in
      let same = ap (λ es. length (run o es).world.sent) joined in
      omega (arith, sent, more, same)

  none_pending : is_full (run o (events ++ both)).world ≡ false → NonePending (run o (events ++ both)).world
  none_pending free =
      subst (λ es. NonePending (run o es).world) joined
      (second-settles o opening events first.later second.later first.kept first.unrestarted first.ticks first.at_rest second.kept second.unrestarted second.calm second.ticks
      (subst (λ es. is_full (run o es).world ≡ false) (sym joined) free) second.at_rest)

  faults : is_full (run o (events ++ both)).world ≡ false → FaultsServed o events both
  faults free =
      faults-served o opening events first.later second.later first.kept first.unrestarted first.ticks first.at_rest second.kept second.unrestarted second.calm second.ticks
      (subst (λ es. is_full (run o es).world ≡ false) (sym joined) free) second.at_rest

  pub served-later : ServedLater o events
  served-later = record {
    later = both;
    kept = kept-both first.later second.later first.kept second.kept;
    unrestarted = λ s. stands-both s first.later second.later (first.unrestarted s) (second.unrestarted s);
    calm = calm-both first.later second.later first.calm second.calm;
    few = few;
    few_sent = few_sent;
    none_pending = none_pending;
    faults = faults;
  }

  pub served : sent_to_serve w ≤ max_sent → Served o events
  served room =
      let free : is_full (run o (events ++ both)).world ≡ false = le-ltb max_sent (length (run o (events ++ both)).world.sent) (let most = few_sent in omega (arith, most, room)) in
      record {
        later = both;
        kept = kept-both first.later second.later first.kept second.kept;
        unrestarted = λ s. stands-both s first.later second.later (first.unrestarted s) (second.unrestarted s);
        calm = calm-both first.later second.later first.calm second.calm;
        few = few;
        free = free;
        none_pending = none_pending free;
        faults = faults free;
      }
