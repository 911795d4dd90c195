use Rattle.std.proofs.Common.{◌≡◌, List, Some, slice_get, sym, ap, subst, arith, ◌∙◌}
use Rattle.std.proofs.lemmas.Option.{slice_get-get_or, slice_get-map}
use Rattle.std.specs.Prelude.{IfOk, option_map}
use Rattle.shm_model.specs.Log.{Logged}
use Rattle.shm_logs.specs.Boxes.Logged.{logged_of}
use Rattle.shm_logs.specs.Boxes.SiteLog.{steps_of}
use Rattle.shm_sites.specs.Cluster.Posted.{all_sent, sent_at, sent_by, sent_if}
use Rattle.shm_sites.specs.Cluster.Sent.{Sent}
use Rattle.shm_sites.proofs.cluster.copy_sent_envelopes.copies_of.Goals as goal

pub returns : goal.returns
returns g c =
    let steps = c.steps-steps.result.now in
    let step = c.index-steps-index.result in
    let index = c.args.index in
    let there = slice_get-get_or steps index step (omega (arith, c.if-index-steps.false)) ∙ ap Some (sym c.index-steps-index.is) in
    let sent : sent_at (steps_of c.args.log.now) index ≡ sent_by index (logged_of step) =
    ap (λ (log : List Logged). sent_at log index) (sym c.steps-steps.ensures.steps)
    ∙ ap (sent_if index) (slice_get-map logged_of steps index ∙ ap (option_map logged_of) there) in
    subst (λ (all : List Sent). IfOk c.copies.result (λ copies. all_sent copies.items ≡ all)) (sym sent) c.copies.ensures

pub copies-requires : goal.copies-requires
copies-requires g c =
    let steps = c.steps-steps.result.now in
    let step = c.index-steps-index.result in
    let index = c.args.index in
    let there = slice_get-get_or steps index step (omega (arith, c.if-index-steps.false)) ∙ ap Some (sym c.index-steps-index.is) in
    ap (λ (log : List Logged). slice_get log index) (sym c.steps-steps.ensures.steps)
    ∙ slice_get-map logged_of steps index ∙ ap (option_map logged_of) there
