use Rattle.std.proofs.Common.{◌∙◌, ◌++◌, [], ◌∷◌, ap}
use Rattle.std.proofs.lemmas.Result.{on_ok_weaker}
use Rattle.shm_state.proofs.InOrder.{counts-ordered, counts-said}
use Rattle.shm_state.specs.declared.part.Part.TheVariants as code
use Rattle.shm_state.proofs.tell_calls.tell_counts.Goals as goal

pub returns-clause-said : goal.returns-clause-said
returns-clause-said g c =
    let one = c.in_ok-tell.ensures.items ∙ ap (λ parts. parts ++ code.Requests c.args.requests ∷ []) c.requires in
    on_ok_weaker c.tell-2.result (λ grown. counts-said c.args.requests c.args.begun c.tell-2.new.out.items (grown ∙ ap (λ parts. parts ++ code.Calls c.args.begun ∷ []) one))
    c.tell-2.ensures.items

pub returns-clause-order : goal.returns-clause-order
returns-clause-order g c =
    let one = c.in_ok-tell.ensures.items ∙ ap (λ parts. parts ++ code.Requests c.args.requests ∷ []) c.requires in
    on_ok_weaker c.tell-2.result (λ grown. counts-ordered c.args.requests c.args.begun c.tell-2.new.out.items (grown ∙ ap (λ parts. parts ++ code.Calls c.args.begun ∷ []) one))
    c.tell-2.ensures.items
