-- What an event begins, and all later events of a kind keep, holds after them, in a world that isn't full.
use Rattle.std.proofs.Common.{◌≡◌, false, List, [], ◌∷◌, ◌++◌, append_assoc, append-nil, sym, ◌∙◌, ap, subst}
use Rattle.shm_model.specs.declared.event.Event.{Event}
use Rattle.shm_model.specs.World.{Opening, Run, World, begun, extended, is_full, next, run, run_on}
use Rattle.shm_laws.proofs.Page.Orders.{Each}
use Rattle.shm_laws.proofs.Run.GoesOn.{run_on-append}
use Rattle.shm_progress.specs.OnTheWay.{NothingLost, is_loss}
use Rattle.shm_progress.proofs.OnTheWay.{free-before}

-- the run of some events more, and of one
pub runs-on : (o : Opening) (before done later : List Event) → run o (before ++ (done ++ later)) ≡ run_on (run o (before ++ done)) later
runs-on o before done later = ap (run o) (sym (append_assoc before done later)) ∙ run_on-append (begun o) (before ++ done) later

pub run-more : (o : Opening) (before done : List Event) (e : Event) → run o (before ++ (done ++ (e ∷ []))) ≡ extended (run o (before ++ done)) (next (run o (before ++ done)).world e)
run-more o before done e = runs-on o before done (e ∷ [])

module _ (o : Opening) (before : List Event) (Q : Event → Type 0) (P : List Event → Type 0)
    (keeps : (done : List Event) (e : Event) → Q e → is_full (run o (before ++ done)).world ≡ false → P done → P (done ++ (e ∷ []))) where
  pub along : (done later : List Event) → Each Q later → is_full (run o (before ++ (done ++ later))).world ≡ false → P done → P (done ++ later)
  along done [] kept free p = subst P (sym (append-nil done)) p
  along done (e ∷ es) kept free p =
      let not_full : is_full (run o (before ++ done)).world ≡ false =
      free-before (run o (before ++ done)) (e ∷ es) (subst (λ (r : Run). is_full r.world ≡ false) (runs-on o before done (e ∷ es)) free) in
      subst P (append_assoc done (e ∷ []) es)
      (along (done ++ (e ∷ [])) es kept.1 (subst (λ es. is_full (run o (before ++ es)).world ≡ false) (sym (append_assoc done (e ∷ []) es)) free) (keeps done e kept.0 not_full p))

-- a world that isn't full in the end wasn't at the start
pub free-first : (o : Opening) (earlier : List Event) (start : Event) (later : List Event) → is_full (run o ((earlier ++ (start ∷ [])) ++ later)).world ≡ false → is_full (run o earlier).world ≡ false
free-first o earlier start later free =
    free-before (run o earlier) (start ∷ later)
    (subst (λ (r : Run). is_full r.world ≡ false) (ap (run o) (append_assoc earlier (start ∷ []) later) ∙ run_on-append (begun o) earlier (start ∷ later)) free)

pub run-started : (o : Opening) (earlier : List Event) (start : Event) → run o ((earlier ++ (start ∷ [])) ++ []) ≡ extended (run o earlier) (next (run o earlier).world start)
run-started o earlier start = ap (run o) (append-nil (earlier ++ (start ∷ []))) ∙ run_on-append (begun o) earlier (start ∷ [])

module _ (o : Opening) (Q : Event → Type 0) (P : World → Type 0)
    (keeps : (earlier : List Event) (e : Event) → Q e → is_full (run o earlier).world ≡ false → P (run o earlier).world → P (next (run o earlier).world e).world) where
  pub since : (start : Event) → ((earlier : List Event) → is_full (run o earlier).world ≡ false → P (next (run o earlier).world start).world)
      → (earlier later : List Event) → Each Q later → is_full (run o (earlier ++ (start ∷ later))).world ≡ false → P (run o (earlier ++ (start ∷ later))).world
  since start begins earlier later kept free =
      let before : List Event = earlier ++ (start ∷ []) in
      let parts : before ++ later ≡ earlier ++ (start ∷ later) = append_assoc earlier (start ∷ []) later in
      let free_on : is_full (run o (before ++ later)).world ≡ false = ap (λ es. is_full (run o es).world) parts ∙ free in
      subst (λ es. P (run o es).world) parts
      (along o before Q (λ done. P (run o (before ++ done)).world)
      (λ done e q not_full p. subst (λ (r : Run). P r.world) (sym (run-more o before done e)) (keeps (before ++ done) e q not_full p))
      [] later kept free_on (subst (λ (r : Run). P r.world) (sym (run-started o earlier start)) (begins earlier (free-first o earlier start later free_on))))

-- none of these events loses an envelope
pub each-kept : (events : List Event) → NothingLost events → Each (λ e. is_loss e ≡ false) events
each-kept [] kept = tt
each-kept (e ∷ es) kept = (kept.0, each-kept es kept.1)
