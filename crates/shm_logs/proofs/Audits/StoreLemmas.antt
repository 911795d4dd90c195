-- A receipt's step in the order of all steps, and what was stored before it.
use Rattle.std.proofs.Common.{◌≡◌, ℕ, zero, suc, Bool, true, false, List, [], ◌∷◌, ◌++◌, Option, Some, ◌==◌, if◌then◌else◌, length, map, reverse, refl, ap, ◌∙◌, subst, arith, slice_get}
use Rattle.std.proofs.lemmas.Bool.Decides.{nat_tests}
use Rattle.std.proofs.lemmas.List.{append_assoc, map-append, reverse-append}
use Rattle.std.proofs.lemmas.Option.{none-some, same_Some}
use Rattle.shm_model.specs.declared.answer.Answer.{Answer}
use Rattle.shm_model.specs.Log.{Logged}
use Rattle.shm_model.specs.Memory.{last_store, segment_of, Legal, LoadsLast}
use Rattle.shm_model.specs.Merge.{done_in, part, IsMerged, SiteStep}
use Rattle.shm_model.specs.Message.{Begin, Deliver, Input, Load, Restart, Store, Tick}
use Rattle.shm_model.specs.Receipt.{access, IsTrueOf, Receipt}
use Rattle.shm_model.specs.World.{Done, Opening}
use Rattle.shm_logs.specs.Auditing.Audit.{account_of, TellsLastStore}

-- the step of this index at this site stands here in the order
record Stands (order : List SiteStep) (s i : ℕ) (l : Logged) : Type 0 where
  before : List SiteStep
  step : SiteStep
  after : List SiteStep
  whole : order ≡ before ++ step ∷ after
  site : step.site ≡ s
  index : length (part s before) ≡ i
  logged : step.logged ≡ l

abbrev with : Bool → Logged → List Logged → List Logged
with same l ls = if same then l ∷ ls else ls

stands-first : (p : SiteStep) (ps : List SiteStep) (s i : ℕ) (l : Logged) (same : Bool) → (p.site == s) ≡ same
    → ((j : ℕ) → slice_get (part s ps) j ≡ Some l → Stands ps s j l) → slice_get (with same p.logged (part s ps)) i ≡ Some l → Stands (p ∷ ps) s i l
stands-first p ps s zero l true e rest h = record {
  before = [];
  step = p;
  after = ps;
  whole = refl;
  site = grind (arith, nat_tests);
  index = refl;
  logged = same_Some p.logged l h;
}
stands-first p ps s (suc i) l true e rest h =
    let r = rest i h in
    record {
      before = p ∷ r.before;
      step = r.step;
      after = r.after;
      whole = ap (λ qs. p ∷ qs) r.whole;
      site = r.site;
      index = ap (λ b. length (with b p.logged (part s r.before))) e ∙ ap suc r.index;
      logged = r.logged;
    }
stands-first p ps s i l false e rest h =
    let r = rest i h in
    record {
      before = p ∷ r.before;
      step = r.step;
      after = r.after;
      whole = ap (λ qs. p ∷ qs) r.whole;
      site = r.site;
      index = ap (λ b. length (with b p.logged (part s r.before))) e ∙ r.index;
      logged = r.logged;
    }

stands : (order : List SiteStep) (s i : ℕ) (l : Logged) → slice_get (part s order) i ≡ Some l → Stands order s i l
stands [] s i l h = absurd (none-some l h)
stands (p ∷ ps) s i l h = stands-first p ps s i l (p.site == s) refl (λ j. stands ps s j l) h

legal-rest : (o : Opening) (ds es : List Done) → Legal o (ds ++ es) → Legal o es
legal-rest o [] es h = h
legal-rest o (d ∷ ds) es h = legal-rest o ds es h.1

account-seam : (before : List SiteStep) (step : SiteStep) (after : List SiteStep)
    → account_of (before ++ step ∷ after) ≡ reverse (map done_in after) ++ (done_in step ∷ account_of before)
account-seam before step after =
    ap reverse (map-append done_in before (step ∷ after))
    ∙ reverse-append (map done_in before) (done_in step ∷ map done_in after)
    ∙ ap (λ ds. ds ++ account_of before) (reverse-append (done_in step ∷ []) (map done_in after))
    ∙ append_assoc (reverse (map done_in after)) (done_in step ∷ []) (account_of before)

of-access : (input : Input) (answer : Answer) (named : ℕ → Option ℕ) (last : ℕ → ℕ → ℕ) → LoadsLast (Some input) answer named last → LoadsLast (access input) answer named last
of-access (Load a offset) answer named last h = h
of-access (Store a offset byte) answer named last h = tt
of-access (Begin request) answer named last h = tt
of-access (Deliver e) answer named last h = tt
of-access Tick answer named last h = tt
of-access Restart answer named last h = tt

pub tells-last-store : (o : Opening) (logs : List (List Logged)) (order : List SiteStep) (r : Receipt) → IsMerged logs order → Legal o (account_of order)
    → IsTrueOf logs r → TellsLastStore o order r
tells-last-store o logs order r merged legal tells =
    let here = stands order r.site r.index tells.step (ap (λ log. slice_get log r.index) (merged.parts r.site) ∙ tells.named) in
    let whole = ap account_of here.whole ∙ account-seam here.before here.step here.after in
    let rest = legal-rest o (reverse (map done_in here.after)) (done_in here.step ∷ account_of here.before) (subst (Legal o) whole legal) in
    let acc = account_of here.before in
    let own = subst (λ s. LoadsLast (Some here.step.logged.input) here.step.logged.answer (segment_of o acc s) (last_store o acc)) here.site rest.0 in
    let told = subst (λ l. LoadsLast (Some l.input) l.answer (segment_of o acc r.site) (last_store o acc)) here.logged own in
    record {
      before = here.before;
      step = here.step;
      after = here.after;
      whole = here.whole;
      site = here.site;
      index = here.index;
      last = subst (λ a. LoadsLast r.asked a (segment_of o acc r.site) (last_store o acc)) tells.answered
          (subst (λ i. LoadsLast i tells.step.answer (segment_of o acc r.site) (last_store o acc)) tells.asked
          (of-access tells.step.input tells.step.answer (segment_of o acc r.site) (last_store o acc) told));
    }
