-- The merged order of logs that fit, step by step as a run.
use Rattle.std.proofs.Common.{◌≡◌, ℕ, zero, suc, ◌+◌, ◌<◌, ◌≤◌, Bool, true, false, List, [], ◌∷◌, ◌++◌, Some, None, length, refl, sym, ap, ◌∙◌, subst, arith, slice_get, slice_set, if◌then◌else◌, ◌==◌}
use Rattle.std.specs.Prelude.{map, reverse, nat_lt, IsTrue, not, ◌&&◌}
use Rattle.std.specs.List.{All}
use Rattle.std.proofs.lemmas.Bool.Decides.{nat_tests}
use Rattle.std.proofs.lemmas.Grind.{flat_map-append}
use Rattle.std.proofs.lemmas.List.{append-nil, append_assoc, length-append, map-append, reverse-append}
use Rattle.shm_model.specs.declared.answer.Answer.TheVariants.{Refused}
use Rattle.shm_model.specs.Refusal.{numbers_used_up}
use Rattle.shm_model.specs.Message.{Envelope, Input, Load, Store, Begin, Deliver, Tick, Restart}
use Rattle.shm_model.specs.Site.{Site, Step}
use Rattle.shm_model.specs.Step.{is_proper, step}
use Rattle.shm_model.specs.World.{Opening, Run, World, begun, extended, is_full, hand_over, live, next, opened_site, run, run_on, sites_of, step_at, step_site, stepped, unstepped}
use Rattle.shm_model.specs.Log.{IsSentBefore, Logged, LogsFit, LogsMatch, Matches, Stamp, StepOutcome, inputs_of, is_logged, log_of, moved_by, outcome_of, outcomes}
use Rattle.shm_model.specs.Merge.{IsMerged, RunsAs, SiteStep, done_in, event_of, events_in, part, sent_before}
use Rattle.shm_laws.proofs.Run.GoesOn.{slice_get-range, slice_get-set_other, slice_get-set_same}
use Rattle.shm_laws.proofs.Log.Lists.{all-seam, part-earlier, part-other, part-seam, sent-number, sent_in}

abbrev told_of : Step → StepOutcome
told_of done = record { answer = done.answer; sent = done.sent }

-- a step in the middle of a log that fits tells what the site gives there
pub told-seam : (n s : ℕ) (site : Site) (xs : List Logged) (l : Logged) (ys : List Logged)
    → map outcome_of (xs ++ l ∷ ys) ≡ outcomes n s site (inputs_of (xs ++ l ∷ ys)) → outcome_of l ≡ told_of (step n s (moved_by n s site (inputs_of xs)) l.input)
told-seam n s site [] l ys h = cc
told-seam n s site (x ∷ xs) l ys h = told-seam n s (step n s site x.input).site xs l ys (cc)

pub moved_by-push : (n s : ℕ) (site : Site) (xs : List Logged) (l : Logged)
    → moved_by n s site (inputs_of (xs ++ l ∷ [])) ≡ (step n s (moved_by n s site (inputs_of xs)) l.input).site
moved_by-push n s site [] l = refl
moved_by-push n s site (x ∷ xs) l = moved_by-push n s (step n s site x.input).site xs l

-- what a delivery needs of the world so that the envelope comes to this site
abbrev HandsOver : World → List SiteStep → ℕ → Stamp → Input → Type 0
HandsOver w order s source (Deliver e) = (live w (sent_before order e.from source.index + source.place) ≡ Some e) × (e.to ≡ s)
HandsOver w order s source _ = Unit {0}

pub event-steps : (w : World) (order : List SiteStep) (s : ℕ) (source : Stamp) (input : Input) → HandsOver w order s source input
    → next w (event_of order s source input) ≡ step_at w s input
event-steps w order s source (Load at offset) h = refl
event-steps w order s source (Store at offset byte) h = refl
event-steps w order s source (Begin request) h = refl
event-steps w order s source (Deliver e) h = ap (λ found. hand_over found w) h.0 ∙ ap (λ t. step_at w t (Deliver e)) h.1
event-steps w order s source Tick h = refl
event-steps w order s source Restart h = refl

full-steps : (w : World) (s : ℕ) (input : Input) (site : Site) → slice_get w.sites s ≡ Some site → is_full w ≡ false
    → step_at w s input ≡ stepped w s input (step w.count s site input)
full-steps w s input site found room =
    ap (λ o. step_site o w s input) found
    ∙ ap (λ full. if full then unstepped w s (Refused numbers_used_up) else stepped w s input (step w.count s site input)) room

not-above : (m n : ℕ) → n ≤ m → nat_lt m n ≡ false
not-above m n h = grind (arith, nat_tests)

-- a log that isn't empty is a site's
pub has-log : (logs : List (List Logged)) (s : ℕ) → 0 < length (log_of logs s) → s < length logs
has-log [] s h = absurd (omega arith)
has-log (log ∷ logs) zero h = omega arith
has-log (log ∷ logs) (suc s) h = let k = has-log logs s h in omega arith

first-of-three : (a b c : Bool) → IsTrue (not (not (a && b && c))) → a ≡ true
first-of-three true b c h = refl
first-of-three false b c h = cc

addressed : (n s : ℕ) (e : Envelope) → IsTrue (is_logged n s (Deliver e)) → e.to ≡ s
addressed n s e h =
    let same : (e.to == s) ≡ true = first-of-three (e.to == s) (nat_lt e.from n) (is_proper n s e.from e.message) h in
    grind (arith, nat_tests)

-- the world after these steps
record At (o : Opening) (pre : List SiteStep) (r : Run) : Type 0 where
  account : r.account ≡ reverse (map done_in pre)
  sent : r.world.sent ≡ sent_in pre
  count : r.world.count ≡ sites_of o
  gone : (k : ℕ) → r.world.gone k ≡ false
  sites : (s : ℕ) → s < sites_of o → slice_get r.world.sites s ≡ Some (moved_by (sites_of o) s (opened_site o s) (inputs_of (part s pre)))

at-first : (o : Opening) → At o [] (begun o)
at-first o = record { account = refl; sent = refl; count = refl; gone = λ k. refl; sites = λ s h. slice_get-range (opened_site o) (sites_of o) s h }

sent-push : (pre : List SiteStep) (p : SiteStep) → sent_in (pre ++ p ∷ []) ≡ sent_in pre ++ p.logged.sent
sent-push pre p = flat_map-append (λ q. q.logged.sent) pre (p ∷ []) ∙ ap (λ es. sent_in pre ++ es) (append-nil p.logged.sent)

account-push : (pre : List SiteStep) (p : SiteStep) → reverse (map done_in (pre ++ p ∷ [])) ≡ done_in p ∷ reverse (map done_in pre)
account-push pre p = ap reverse (map-append done_in pre (p ∷ [])) ∙ reverse-append (map done_in pre) (done_in p ∷ [])

module _ (o : Opening) (logs : List (List Logged)) (fits : LogsFit o logs) (match : LogsMatch logs) where
  -- a step between those before it and those after it
  module _ (pre : List SiteStep) (p : SiteStep) (post : List SiteStep) (merged : IsMerged logs (pre ++ p ∷ post)) where
    seam : part p.site pre ++ p.logged ∷ part p.site post ≡ log_of logs p.site
    seam = sym (part-seam pre p post) ∙ merged.parts p.site

    within : p.site < sites_of o
    within =
        let some : 0 < length (log_of logs p.site) = omega (arith, ap length seam, length-append (part p.site pre) (p.logged ∷ part p.site post)) in
        subst (λ n. p.site < n) fits.count (has-log logs p.site some)

    abbrev at : Site
    at = moved_by (sites_of o) p.site (opened_site o p.site) (inputs_of (part p.site pre))

    abbrev done : Step
    done = step (sites_of o) p.site at p.logged.input

    tells-so : outcome_of p.logged ≡ told_of done
    tells-so = told-seam (sites_of o) p.site (opened_site o p.site) (part p.site pre) p.logged (part p.site post)
        (subst (λ log. map outcome_of log ≡ outcomes (sites_of o) p.site (opened_site o p.site) (inputs_of log)) (sym seam) (fits.fit p.site within).tell)

    logged-so : IsTrue (is_logged (sites_of o) p.site p.logged.input)
    logged-so = all-seam (λ l. IsTrue (is_logged (sites_of o) p.site l.input)) (part p.site pre) p.logged (part p.site post)
        (subst (All (λ l. IsTrue (is_logged (sites_of o) p.site l.input))) (sym seam) (fits.fit p.site within).inputs)

    matches-so : Matches logs p.logged p.logged.input
    matches-so = all-seam (λ l. Matches logs l l.input) (part p.site pre) p.logged (part p.site post)
        (subst (All (λ l. Matches logs l l.input)) (sym seam) (match p.site))

    sent-so : (e : Envelope) (before : IsSentBefore logs p.logged e)
        → slice_get (sent_in pre) (sent_before (pre ++ p ∷ post) e.from p.logged.source.index + p.logged.source.place) ≡ Some e
    sent-so e before =
        let named = ap (λ log. slice_get log p.logged.source.index) (merged.parts e.from) ∙ before.named in
        sent-number pre (p ∷ post) e.from p.logged.source.index p.logged.source.place before.sender e
        (part-earlier e.from pre p post p.logged.source.index before.sender merged.rises named before.later) before.placed

    hands-over : (r : Run) (input : Input) → At o pre r → Matches logs p.logged input → IsTrue (is_logged (sites_of o) p.site input)
        → HandsOver r.world (pre ++ p ∷ post) p.site p.logged.source input
    hands-over r (Load a offset) here m own = tt
    hands-over r (Store a offset byte) here m own = tt
    hands-over r (Begin request) here m own = tt
    hands-over r (Deliver e) here m own =
        let k : ℕ = sent_before (pre ++ p ∷ post) e.from p.logged.source.index + p.logged.source.place in
        (ap (λ gone. if gone then None else slice_get r.world.sent k) (here.gone k) ∙ ap (λ es. slice_get es k) here.sent ∙ sent-so e m, addressed (sites_of o) p.site e own)
    hands-over r Tick here m own = tt
    hands-over r Restart here m own = tt

    room : (w : World) → w.sent ≡ sent_in pre → length (sent_in (pre ++ p ∷ post)) ≤ 9223372036854775808 → is_full w ≡ false
    room w e few = not-above 9223372036854775808 (length w.sent)
        (omega (arith, ap length e, ap length (flat_map-append (λ q. q.logged.sent) pre (p ∷ post)), length-append (sent_in pre) (sent_in (p ∷ post))))

    next-is : (r : Run) → At o pre r → length (sent_in (pre ++ p ∷ post)) ≤ 9223372036854775808
        → next r.world (event_of (pre ++ p ∷ post) p.site p.logged.source p.logged.input) ≡ stepped r.world p.site p.logged.input done
    next-is r here few =
        event-steps r.world (pre ++ p ∷ post) p.site p.logged.source p.logged.input (hands-over r p.logged.input here matches-so logged-so)
        ∙ full-steps r.world p.site p.logged.input at (here.sites p.site within) (room r.world here.sent few)
        ∙ ap (λ n. stepped r.world p.site p.logged.input (step n p.site at p.logged.input)) here.count

    sites-so : (r : Run) (t : ℕ) (same : Bool) → (p.site == t) ≡ same → At o pre r → t < sites_of o
        → slice_get (slice_set r.world.sites p.site done.site) t ≡ Some (moved_by (sites_of o) t (opened_site o t) (inputs_of (part t (pre ++ p ∷ []))))
    sites-so r t true same here below =
        let e : p.site ≡ t = grind (arith, nat_tests) in
        subst (λ u. slice_get (slice_set r.world.sites p.site done.site) u ≡ Some (moved_by (sites_of o) u (opened_site o u) (inputs_of (part u (pre ++ p ∷ []))))) e
        (slice_get-set_same r.world.sites p.site at done.site (here.sites p.site within)
        ∙ ap Some (sym (moved_by-push (sites_of o) p.site (opened_site o p.site) (part p.site pre) p.logged))
        ∙ ap (λ log. Some (moved_by (sites_of o) p.site (opened_site o p.site) (inputs_of log))) (sym (part-seam pre p [])))
    sites-so r t false same here below =
        slice_get-set_other r.world.sites p.site t done.site same ∙ here.sites t below
        ∙ ap (λ log. Some (moved_by (sites_of o) t (opened_site o t) (inputs_of log))) (sym (part-other t pre p same))

    step-at : (r : Run) → At o pre r → length (sent_in (pre ++ p ∷ post)) ≤ 9223372036854775808
        → At o (pre ++ p ∷ []) (extended r (next r.world (event_of (pre ++ p ∷ post) p.site p.logged.source p.logged.input)))
    step-at r here few = subst (λ n. At o (pre ++ p ∷ []) (extended r n)) (sym (next-is r here few)) (record {
      account = ap (λ t. record { site = p.site; input = Some p.logged.input; answer = t.answer } ∷ r.account) (sym tells-so)
          ∙ ap (λ ds. done_in p ∷ ds) here.account ∙ sym (account-push pre p);
      sent = ap (λ t. r.world.sent ++ t.sent) (sym tells-so) ∙ ap (λ es. es ++ p.logged.sent) here.sent ∙ sym (sent-push pre p);
      count = here.count;
      gone = here.gone;
      sites = λ t below. sites-so r t (p.site == t) refl here below;
    })

  -- the rest of the order, from where what came before left the world
  rest-at : (order pre post : List SiteStep) (r : Run) → pre ++ post ≡ order → IsMerged logs order → length (sent_in order) ≤ 9223372036854775808 → At o pre r
      → At o order (run_on r (map (λ p. event_of order p.site p.logged.source p.logged.input) post))
  rest-at order pre [] r e merged few here = subst (λ ps. At o ps r) (sym (append-nil pre) ∙ e) here
  rest-at order pre (p ∷ post) r e merged few here =
      rest-at order (pre ++ p ∷ []) post _ (append_assoc pre (p ∷ []) post ∙ e) merged few
      (subst (λ ps. At o (pre ++ p ∷ []) (extended r (next r.world (event_of ps p.site p.logged.source p.logged.input)))) e
      (step-at pre p post (subst (IsMerged logs) (sym e) merged) r here (subst (λ ps. length (sent_in ps) ≤ 9223372036854775808) (sym e) few)))

  pub runs-as : (order : List SiteStep) → IsMerged logs order → length (sent_in order) ≤ 9223372036854775808 → RunsAs o logs order (run o (events_in order))
  runs-as order merged few =
      let last = rest-at order [] order (begun o) refl merged few (at-first o) in
      record {
        account = last.account;
        sent = last.sent;
        sites = λ s below. last.sites s below ∙ ap (λ log. Some (moved_by (sites_of o) s (opened_site o s) (inputs_of log))) (merged.parts s);
      }
