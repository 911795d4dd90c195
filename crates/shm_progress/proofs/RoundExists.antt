-- Every world has a round: all sites tick, and what is on its way is handed over until nothing is.
use Rattle.std.proofs.Common.{◌≡◌, ◌≢◌, ℕ, ◌+◌, ◌*◌, ◌≤◌, false, List, [], ◌∷◌, ◌++◌, append_assoc, ap, arith, length, map, refl, subst, sum_by, sym, ◌∙◌}
use Rattle.std.specs.List.{range_with_len}
use Rattle.std.proofs.lemmas.List.{length-append, length-map}
use Rattle.std.proofs.lemmas.List.Elements.{Contains-append_left}
use Rattle.std.proofs.lemmas.List.FromFn.{length-map-range_with_len}
use Rattle.shm_model.specs.declared.event.Event.{Event}
use Rattle.shm_model.specs.declared.event.Event.TheVariants.{Deliver, Restart, Tick}
use Rattle.shm_model.specs.World.{IsOpening, Opening, Run, begun, run, run_on, sites_of}
use Rattle.shm_laws.proofs.Run.GoesOn.{run_on-append}
use Rattle.shm_laws.proofs.Run.Induction.{run-shape}
use Rattle.shm_progress.specs.Bounds.{asked_again, round_events, round_sent}
use Rattle.shm_progress.specs.Deliveries.{ComesToRest, IsAtRest, deliveries_left}
use Rattle.shm_progress.specs.OnTheWay.{NothingLost, is_loss}
use Rattle.shm_progress.specs.Rounds.{AllTick, NoneAccesses, NoneRestarted, Round, is_access}
use Rattle.shm_progress.specs.Transactions.{NotRestarted}
use Rattle.shm_progress.proofs.Bounds.Sent.{sent-along}
use Rattle.shm_progress.proofs.Bounds.Ticks.{asked, ticks-few}
use Rattle.shm_progress.proofs.Ending.Falls.{ends}
use Rattle.shm_progress.proofs.Ending.Few.{left-is-few}
use Rattle.shm_progress.proofs.Ending.Rests.{rests}
use Rattle.shm_progress.proofs.OnTheWay.{run-fresh}
use Rattle.shm_progress.proofs.Purge.Answers.{contains-range}

-- events that are numbered neither lose nor restart nor access, as their kind doesn't
module _ (f : ℕ → Event) (keeps : (n : ℕ) → is_loss (f n) ≡ false) (stands : (n s : ℕ) → f n ≢ Restart s) (calms : (n : ℕ) → is_access (f n) ≡ false) where
  kept-each : (ns : List ℕ) → NothingLost (map f ns)
  kept-each [] = tt
  kept-each (n ∷ ns) = (keeps n, kept-each ns)

  stands-each : (s : ℕ) (ns : List ℕ) → NotRestarted s (map f ns)
  stands-each s [] = tt
  stands-each s (n ∷ ns) = (stands n s, stands-each s ns)

  calm-each : (ns : List ℕ) → NoneAccesses (map f ns)
  calm-each [] = tt
  calm-each (n ∷ ns) = (calms n, calm-each ns)

-- one list after the other
pub kept-both : (es fs : List Event) → NothingLost es → NothingLost fs → NothingLost (es ++ fs)
kept-both [] fs kept kept_on = kept_on
kept-both (e ∷ es) fs kept kept_on = (kept.0, kept-both es fs kept.1 kept_on)

pub stands-both : (s : ℕ) (es fs : List Event) → NotRestarted s es → NotRestarted s fs → NotRestarted s (es ++ fs)
stands-both s [] fs stood stood_on = stood_on
stands-both s (e ∷ es) fs stood stood_on = (stood.0, stands-both s es fs stood.1 stood_on)

pub calm-both : (es fs : List Event) → NoneAccesses es → NoneAccesses fs → NoneAccesses (es ++ fs)
calm-both [] fs calm calm_on = calm_on
calm-both (e ∷ es) fs calm calm_on = (calm.0, calm-both es fs calm.1 calm_on)

-- so many sites tick
abbrev pub all_tick : ℕ → List Event
all_tick sites = map Tick (range_with_len 0 sites)

-- so many sites tick, and then these envelopes are handed over
module _ (sites : ℕ) (envelopes : List ℕ) where
  pub round-kept : NothingLost (all_tick sites ++ map Deliver envelopes)
  round-kept = kept-both (all_tick sites) (map Deliver envelopes) (kept-each Tick (λ n. refl) (λ n s h. cc) (λ n. refl) (range_with_len 0 sites)) (kept-each Deliver (λ n. refl) (λ n s h. cc) (λ n. refl) envelopes)

  pub round-stands : NoneRestarted (all_tick sites ++ map Deliver envelopes)
  round-stands s =
      stands-both s (all_tick sites) (map Deliver envelopes) (stands-each Tick (λ n. refl) (λ n s h. cc) (λ n. refl) s (range_with_len 0 sites)) (stands-each Deliver (λ n. refl) (λ n s h. cc) (λ n. refl) s envelopes)

  pub round-calm : NoneAccesses (all_tick sites ++ map Deliver envelopes)
  round-calm = calm-both (all_tick sites) (map Deliver envelopes) (calm-each Tick (λ n. refl) (λ n s h. cc) (λ n. refl) (range_with_len 0 sites)) (calm-each Deliver (λ n. refl) (λ n s h. cc) (λ n. refl) envelopes)

  pub round-ticks : AllTick sites (all_tick sites ++ map Deliver envelopes)
  round-ticks s small = Contains-append_left (all_tick sites) (map Deliver envelopes) (Tick s) (contains-range Tick sites s small)

-- a round, by how many deliveries there can be after its ticks
pub record Short (o : Opening) (events : List Event) : Type 0 where
  pub later : List Event
  pub kept : NothingLost later
  pub unrestarted : NoneRestarted later
  pub calm : NoneAccesses later
  pub ticks : AllTick (sites_of o) later
  pub at_rest : IsAtRest (run o (events ++ later)).world
  pub few : length later ≤ sites_of o + deliveries_left (run o (events ++ all_tick (sites_of o))).world
  pub few_sent : length (run o (events ++ later)).world.sent
      ≤ length (run o (events ++ all_tick (sites_of o))).world.sent + deliveries_left (run o (events ++ all_tick (sites_of o))).world

pub short-round : (o : Opening) (events : List Event) → Short o events
short-round o events =
    let ticked : List Event = map Tick (range_with_len 0 (sites_of o)) in
    let to_rest : ComesToRest o (events ++ ticked) = rests o (events ++ ticked) in
    let whole : (events ++ ticked) ++ map Deliver to_rest.envelopes ≡ events ++ (ticked ++ map Deliver to_rest.envelopes) = append_assoc events ticked (map Deliver to_rest.envelopes) in
    let few = ends o (events ++ ticked) to_rest.envelopes to_rest.on_their_way in
    let on : run o ((events ++ ticked) ++ map Deliver to_rest.envelopes) ≡ run_on (run o (events ++ ticked)) (map Deliver to_rest.envelopes) =
    run_on-append (begun o) (events ++ ticked) (map Deliver to_rest.envelopes) in
    let sent : length (run_on (run o (events ++ ticked)) (map Deliver to_rest.envelopes)).world.sent ≤ length (run o (events ++ ticked)).world.sent + length to_rest.envelopes =
    sent-along (run o (events ++ ticked)) (run-fresh o (events ++ ticked)) to_rest.envelopes (subst (λ (r : Run). IsAtRest r.world) on to_rest.at_rest) in
    let same : length (run o (events ++ (ticked ++ map Deliver to_rest.envelopes))).world.sent ≡ length (run_on (run o (events ++ ticked)) (map Deliver to_rest.envelopes)).world.sent =
    ap (λ es. length (run o es).world.sent) (sym whole) ∙ ap (λ (r : Run). length r.world.sent) on in
    let parts = length-append ticked (map Deliver to_rest.envelopes) in
    let tickers = length-map-range_with_len Tick 0 (sites_of o) in
    let each = length-map to_rest.envelopes Deliver in
    record {
      later = ticked ++ map Deliver to_rest.envelopes;
      kept = round-kept (sites_of o) to_rest.envelopes;
      unrestarted = round-stands (sites_of o) to_rest.envelopes;
      calm = round-calm (sites_of o) to_rest.envelopes;
      ticks = round-ticks (sites_of o) to_rest.envelopes;
      at_rest = subst (λ es. IsAtRest (run o es).world) whole to_rest.at_rest;
      few = omega (arith, parts, tickers, each, few);
      few_sent = omega (arith, same, sent, few);
    }

-- where its ticks send no more than so many
module _ (o : Opening) (opening : IsOpening o) (events : List Event) (again : ℕ)
    (ticked : length (run o (events ++ all_tick (sites_of o))).world.sent ≤ length (run o events).world.sent + again) (short : Short o events) where
  left : deliveries_left (run o (events ++ all_tick (sites_of o))).world ≤ 114 * length (run o (events ++ all_tick (sites_of o))).world.sent
  left = left-is-few o opening (events ++ all_tick (sites_of o))

  pub few-events : length short.later ≤ round_events (sites_of o) (length (run o events).world.sent) again
  few-events = let few = short.few in let most = left in omega (arith, few, most, ticked)

  pub few-sent : length (run o (events ++ short.later)).world.sent ≤ round_sent (length (run o events).world.sent) again
  few-sent = let few = short.few_sent in let most = left in omega (arith, few, most, ticked)

-- the ticks send what is asked again
pub ticked-few : (o : Opening) (events : List Event) → length (run o (events ++ all_tick (sites_of o))).world.sent ≤ length (run o events).world.sent + asked_again (run o events).world
ticked-few o events =
    let on = ap (λ (r : Run). length r.world.sent) (run_on-append (begun o) events (all_tick (sites_of o))) in
    let few = ticks-few (run o events) (range_with_len 0 (sites_of o)) in
    let count = ap (λ n. sum_by (asked (run o events).world.count (run o events).world.sites) (range_with_len 0 n)) (run-shape o events).count in
    omega (arith, on, few, count)

pub has-round : (o : Opening) (events : List Event) → Round o events
has-round o events =
    let short : Short o events = short-round o events in
    record {
      later = short.later;
      kept = short.kept;
      unrestarted = short.unrestarted;
      calm = short.calm;
      ticks = short.ticks;
      at_rest = short.at_rest;
      few = λ opening. few-events o opening events (asked_again (run o events).world) (ticked-few o events) short;
      few_sent = λ opening. few-sent o opening events (asked_again (run o events).world) (ticked-few o events) short;
    }
