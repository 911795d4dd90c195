-- The log of a box rises: each step has a stamp above the clock.
use Rattle.std.proofs.Common.{◌≡◌, ◌∙◌, ℕ, zero, suc, ◌<◌, ◌≤◌, List, [], ◌∷◌, ◌++◌, Result, Ok, Err, get_or, ap, subst, sym, arith}
use Rattle.std.specs.Prelude.{OnErr, OnOk}
use Rattle.std.specs.List.{All}
use Rattle.std.proofs.lemmas.List.Elements.{All-push, All-weaker}
use Rattle.std.proofs.lemmas.List.Quantifiers.{all_pairs_push}
use Rattle.shm_logs.specs.Boxes.Box.{Box, after, taken}
use Rattle.shm_logs.specs.Boxes.SiteLog.{steps_of}
use Rattle.shm_logs.specs.declared.site_boxes.site_log.SiteLog.{SiteLog}
use Rattle.shm_logs.specs.declared.site_boxes.box_error.BoxFault.{BoxFault}
use Rattle.shm_logs.specs.declared.site_boxes.receipt.Receipt.{Receipt}
use Rattle.shm_model.specs.Log.{Logged, LogsMatch, Matches, Stamp, log_of}
use Rattle.shm_model.specs.Message.{Input}
use Rattle.shm_logs.specs.Auditing.Logs.{logs_of, LogsRise, StampsRise}

-- a box whose log rises up to its clock, and matches whatever the logs are
pub record IsRising (box : Box) : Type 0 where
  pub rises : StampsRise box.log
  pub below : All (λ l. l.stamp ≤ box.clock) box.log
  pub matches : All (λ l. (logs : List (List Logged)) → Matches logs l l.input) box.log

after-rises : (box : Box) (input : Input) (source : Stamp) → IsRising box → ((logs : List (List Logged)) (l : Logged) → Matches logs l input) → IsRising (after box input source)
after-rises box input source rising matches =
    let l = taken box input source in
    let above : (k : Logged) → k.stamp ≤ box.clock → k.stamp < l.stamp = λ k b. omega arith in
    record {
      rises = all_pairs_push (λ k m. k.stamp < m.stamp) box.log l rising.rises (λ k d b. above (get_or box.log k d) (rising.below k d b));
      below = All-push (λ k. k.stamp ≤ l.stamp) box.log l
          (All-weaker (λ k. k.stamp ≤ box.clock) (λ k. k.stamp ≤ l.stamp) (λ k b. omega (arith, above k b)) box.log rising.below) (omega arith);
      matches = All-push (λ k. (logs : List (List Logged)) → Matches logs k k.input) box.log l rising.matches (λ logs. matches logs l);
    }

pub still-rises : (told : Result Receipt BoxFault) (old new : Box) (input : Input) (source : Stamp) → IsRising old → ((logs : List (List Logged)) (l : Logged) → Matches logs l input)
    → OnOk told (new ≡ after old input source) → OnErr told (new ≡ old) → IsRising new
still-rises (Ok receipt) old new input source rising matches made refused = subst IsRising (sym made) (after-rises old input source rising matches)
still-rises (Err fault) old new input source rising matches made refused = subst IsRising (sym refused) rising

-- what holds of two logs and of no steps holds of each site's log
pub each-of-two : (P : List Logged → Type 0) (one other : List Logged) → P one → P other → P [] → (s : ℕ) → P (log_of (one ∷ other ∷ []) s)
each-of-two P one other a b none zero = a
each-of-two P one other a b none (suc zero) = b
each-of-two P one other a b none (suc (suc s)) = none

pub pushed-twice : {X : Type 0} (none one two : List X) (first second : X) → none ≡ [] → one ≡ none ++ first ∷ [] → two ≡ one ++ second ∷ [] → two ≡ first ∷ second ∷ []
pushed-twice none one two first second e f h = h ∙ ap (λ xs. xs ++ second ∷ []) (f ∙ ap (λ xs. xs ++ first ∷ []) e)

-- the steps match, whatever the logs are
abbrev pub AlwaysMatch : List Logged → Type 0
AlwaysMatch log = All (λ l. (logs : List (List Logged)) → Matches logs l l.input) log

pub two-rise : {A : Type 0} (logs : List (SiteLog A)) (first second : SiteLog A) → logs ≡ first ∷ second ∷ [] → StampsRise (steps_of first) → StampsRise (steps_of second)
    → LogsRise (logs_of logs)
two-rise logs first second both a b =
    subst (λ ls. LogsRise (logs_of ls)) (sym both) (each-of-two StampsRise (steps_of first) (steps_of second) a b (λ i j d h k. absurd (omega arith)))

pub two-match : {A : Type 0} (logs : List (SiteLog A)) (first second : SiteLog A) → logs ≡ first ∷ second ∷ [] → AlwaysMatch (steps_of first) → AlwaysMatch (steps_of second)
    → LogsMatch (logs_of logs)
two-match logs first second both a b =
    let all = steps_of first ∷ steps_of second ∷ [] in
    subst (λ ls. LogsMatch (logs_of ls)) (sym both)
    (each-of-two (All (λ l. Matches all l l.input)) (steps_of first) (steps_of second) (λ k d h. a k d h all) (λ k d h. b k d h all) (λ k d h. absurd (omega arith)))
