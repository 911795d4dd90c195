-- What the event receives is marked, and nothing else.
use Rattle.std.proofs.Common.{◌∙◌, ◌==◌, ◌||◌, ap, false, get_or, sym}
use Rattle.std.specs.Option.{option_map_or}
use Rattle.shm_report.proofs.Counted.{unmarked}
use Rattle.shm_report.proofs.count_run.mark.Goals as goal

pub returns-in-Some-clause-marked : goal.returns-in-Some-clause-marked
returns-in-Some-clause-marked c k below =
    c.mark_at.ensures.marked k below
    ∙ ap (λ b. get_or c.args.marks.now.items k false || b)
    (sym (c.received_envelope.ensures k ∙ ap (λ o. option_map_or (λ n. n == k) o false) c.in-Some.is))

pub returns-in-None-clause-marked : goal.returns-in-None-clause-marked
returns-in-None-clause-marked c k below =
    unmarked (get_or c.args.marks.now.items k false)
    ∙ ap (λ b. get_or c.args.marks.now.items k false || b)
    (sym (c.received_envelope.ensures k ∙ ap (λ o. option_map_or (λ n. n == k) o false) c.in-None.is))
