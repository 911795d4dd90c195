use Rattle.std.proofs.Common.{rules, ◌∙◌, ap, filter, nat_le}
use Rattle.std.proofs.lemmas.Fn.{filter_same}
use Rattle.shm_prompt.proofs.NoteLemmas.{kept-are}
use Rattle.shm_prompt.proofs.script_notes.Notes.keep_up_to.Goals as goal

pub invariant_of-self : goal.invariant_of-self
invariant_of-self g c =
    kept-are (λ n. nat_le n.line c.args.last) c.self.inside.notes.items c.retain.new.self.items
    (filter_same _ _ _ (λ x b f' k. search rules) _ _ c.retain.ensures.filtered) c.self.invariant

pub returns : goal.returns
returns g c =
    filter_same _ (λ n. nat_le n.line c.args.last) _ (λ x b f' k. search rules) _ _ c.retain.ensures.filtered
    ∙ ap (filter (λ n. nat_le n.line c.args.last)) c.self.view_is
