-- An input that isn't taken is refused, or memory is. Then the log has no further step.
use Rattle.std.proofs.Common.{◌≡◌, ◌∙◌, ℕ, List, [], ◌∷◌, None, ap, inr, length, refl, slice_get, sym}
use Rattle.std.specs.Prelude.{unwrap_or}
use Rattle.shm_model.specs.Log.{Logged}
use Rattle.shm_logs.specs.Boxes.Box.{Box}
use Rattle.shm_logs.specs.Boxes.SiteBox.{box_of}
use Rattle.shm_logs.specs.declared.site_boxes.box_error.BoxFault.TheVariants as fault
use Rattle.shm_sites.specs.Cluster.Posted.{all_sent, sent_at, sent_if}
use Rattle.shm_sites.proofs.cluster.site_thread.give_input.Goals as goal

none-behind : (log : List Logged) → slice_get log (length log) ≡ None
none-behind [] = refl
none-behind (l ∷ log) = none-behind log

pub returns-in-Err-clause-step : goal.returns-in-Err-clause-step
returns-in-Err-clause-step g c =
    inr ((λ none. c.in-Err.ensures.memory (c.in-Err.ensures.fault ∙ ap (λ refusal. unwrap_or refusal fault.OutOfMemory) none)), c.in-Err.ensures.refused)

pub returns-in-Err-clause-sent : goal.returns-in-Err-clause-sent
returns-in-Err-clause-sent g c =
    let log = (box_of c.args.site.now).log in
    ap all_sent c.new.ensures.items
    ∙ sym (ap (λ (b : Box). sent_at b.log (length log)) c.in-Err.ensures.refused ∙ ap (sent_if (length log)) (none-behind log))
