-- A run of two lists, and what its own inputs leave of each site.
use Rattle.std.proofs.Common.{◌≡◌, ℕ, zero, suc, ◌<◌, Bool, true, false, List, [], ◌∷◌, ◌++◌, Some, refl, sym, ap, ◌∙◌, subst, arith, slice_get, slice_set, if◌then◌else◌, Contains, ◌==◌}
use Rattle.std.specs.Prelude.{map}
use Rattle.std.specs.List.{range_with_len}
use Rattle.std.proofs.lemmas.Bool.Decides.{nat_tests}
use Rattle.std.proofs.lemmas.List.{append-nil}
use Rattle.std.proofs.lemmas.List.FromFn.{get_or-map-range_with_len, length-map-range_with_len}
use Rattle.std.proofs.lemmas.Option.{slice_get-get_or}
use Rattle.shm_model.specs.declared.answer.Answer.{Answer}
use Rattle.shm_model.specs.declared.event.Event.{Event}
use Rattle.shm_model.specs.Inputs.{IsSent, OwnInputs, sent_after, site_after, site_moved}
use Rattle.shm_model.specs.Message.{Envelope, Input, Load, Store, Begin, Deliver, Tick, Restart}
use Rattle.shm_model.specs.Site.{Site}
use Rattle.shm_model.specs.Step.{step}
use Rattle.shm_model.specs.World.{Done, Opening, Run, World, begun, extended, next, opened_site, run, run_on, sites_of, stepped, unstepped}
use Rattle.shm_laws.proofs.Run.Induction.{IsHonest, IsStill, Shape, run-good}

pub run_on-append : (r : Run) (earlier later : List Event) → run_on r (earlier ++ later) ≡ run_on (run_on r earlier) later
run_on-append r [] later = refl
run_on-append r (e ∷ earlier) later = run_on-append (extended r (next r.world e)) earlier later

-- the i-th element where the i-th of another place was set
pub slice_get-set_same : {X : Type 0} (xs : List X) (i : ℕ) (x y : X) → slice_get xs i ≡ Some x → slice_get (slice_set xs i y) i ≡ Some y
slice_get-set_same [] i x y h = cc
slice_get-set_same (z ∷ xs) zero x y h = refl
slice_get-set_same (z ∷ xs) (suc i) x y h = slice_get-set_same xs i x y h

pub slice_get-set_other : {X : Type 0} (xs : List X) (i j : ℕ) (y : X) → (i == j) ≡ false → slice_get (slice_set xs i y) j ≡ slice_get xs j
slice_get-set_other [] i j y h = refl
slice_get-set_other (z ∷ xs) zero zero y h = cc
slice_get-set_other (z ∷ xs) zero (suc j) y h = refl
slice_get-set_other (z ∷ xs) (suc i) zero y h = refl
slice_get-set_other (z ∷ xs) (suc i) (suc j) y h = slice_get-set_other xs i j y (grind (arith, nat_tests))

pub slice_get-range : {X : Type 0} (f : ℕ → X) (n i : ℕ) → i < n → slice_get (map f (range_with_len 0 n)) i ≡ Some (f i)
slice_get-range f n i h =
    slice_get-get_or (map f (range_with_len 0 n)) i (f i) (omega (arith, length-map-range_with_len f 0 n))
    ∙ ap Some (get_or-map-range_with_len f 0 n i i (f i) h (omega arith))

module _ (o : Opening) where
  first-own : OwnInputs o (begun o)
  first-own = record { steps = tt; sites = λ s h. slice_get-range (opened_site o) (sites_of o) s h; sent = refl }

  -- a record without an input leaves every site
  left : (account : List Done) (s t : ℕ) (answer : Answer) (same : Bool) → (if same then site_after o t account else site_after o t account) ≡ site_after o t account
  left account s t answer true = refl
  left account s t answer false = refl

  own-stays : (r : Run) (gone : ℕ → Bool) (s : ℕ) (answer : Answer) → OwnInputs o r → Shape o r.world → IsStill answer
      → OwnInputs o (extended r (unstepped (record r.world { gone = gone }) s answer))
  own-stays r gone s answer own shape still = record {
    steps = (tt, own.steps);
    sites = λ t h. own.sites t h ∙ ap Some (sym (left r.account s t answer (s == t)));
    sent = own.sent ∙ sym (append-nil (sent_after o r.account));
  }

  sent-honest : (w : World) (s : ℕ) (input : Input) (sent : List Envelope) → w.sent ≡ sent → IsHonest w s input → IsSent sent s input
  sent-honest w s (Load a b) sent e h = tt
  sent-honest w s (Store a b c) sent e h = tt
  sent-honest w s (Begin b) sent e h = tt
  sent-honest w s (Deliver m) sent e h = (subst (λ es. Contains es m) e h.0, h.1)
  sent-honest w s Tick sent e h = tt
  sent-honest w s Restart sent e h = tt

  -- the sites after a step of one of them
  moved : (r : Run) (s t : ℕ) (site : Site) (input : Input) (same : Bool) → (s == t) ≡ same → OwnInputs o r → t < sites_of o
      → slice_get r.world.sites s ≡ Some site → site ≡ site_after o s r.account
      → slice_get (slice_set r.world.sites s (step (sites_of o) s site input).site) t
      ≡ Some (if same then site_moved (sites_of o) t (Some input) (site_after o t r.account) else site_after o t r.account)
  moved r s t site input true same own below found is =
      let e : s ≡ t = grind (arith, nat_tests) in
      subst (λ u. slice_get (slice_set r.world.sites s (step (sites_of o) s site input).site) u ≡ Some (step (sites_of o) u (site_after o u r.account) input).site) e
      (slice_get-set_same r.world.sites s site _ found ∙ ap (λ x. Some (step (sites_of o) s x input).site) is)
  moved r s t site input false same own below found is = slice_get-set_other r.world.sites s t _ same ∙ own.sites t below

  own-steps : (r : Run) (gone : ℕ → Bool) (s : ℕ) (site : Site) (input : Input) → OwnInputs o r → Shape o r.world → s < sites_of o
      → slice_get r.world.sites s ≡ Some site → IsHonest r.world s input
      → OwnInputs o (extended r (stepped (record r.world { gone = gone }) s input (step (sites_of o) s site input)))
  own-steps r gone s site input own shape below found honest =
      let is : site ≡ site_after o s r.account = grind (arith, own.sites s below) in
      record {
        steps = (record { site = below; answered = ap (λ x. (step (sites_of o) s x input).answer) is; delivered = sent-honest r.world s input (sent_after o r.account) own.sent honest }, own.steps);
        sites = λ t h. moved r s t site input (s == t) refl own h found is;
        sent = ap (λ es. es ++ (step (sites_of o) s site input).sent) own.sent ∙ ap (λ x. sent_after o r.account ++ (step (sites_of o) s x input).sent) is;
      }

  pub own-inputs : (events : List Event) → OwnInputs o (run o events)
  own-inputs events = (run-good o (OwnInputs o) (record { first = first-own; steps = own-steps; stays = own-stays }) events).holds
