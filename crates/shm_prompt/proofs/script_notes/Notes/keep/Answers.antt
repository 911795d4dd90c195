use Rattle.std.proofs.Common.{rules, ◌≡◌, ◌∙◌, List, ap, filter, nat_lt}
use Rattle.std.proofs.lemmas.Fn.{filter_same}
use Rattle.shm_draw.specs.Captions.{Beside}
use Rattle.shm_prompt.specs.Notes.{is_note, note, with_note}
use Rattle.shm_prompt.proofs.NoteLemmas.{noted-are, noted-is}
use Rattle.shm_prompt.proofs.script_notes.Notes.keep.Goals as goal

pub invariant_of-self-2 : goal.invariant_of-self-2
invariant_of-self-2 g c =
    let kept : c.retain.new.self.items ≡ filter (λ n. nat_lt n.line c.args.line) c.self.inside.notes.items =
    filter_same _ (λ n. nat_lt n.line c.args.line) _ (λ x b f' k. search rules) _ _ c.retain.ensures.filtered
    ∙ ap (filter (λ n. nat_lt n.line c.args.line)) c.reserve.ensures.items in
    let same : c.in_ok-text.text.items ≡ c.args.text.now = c.in_ok-text.ensures.items_if_clones_equal (λ x y e. e) in
    noted-are (λ n. nat_lt n.line c.args.line) c.self.inside.notes.items c.retain.new.self.items c.push.new.self.items (note c.args.line c.in_ok-text.text.items)
    kept c.in_ok-push.ensures.items c.self.invariant
    (record { from_1 = c.requires.line; within = c.ranges.line.fits; is = ap is_note same ∙ c.requires.text })

pub returns-clause-ok : goal.returns-clause-ok
returns-clause-ok g c =
    let kept : c.retain.new.self.items ≡ filter (λ n. nat_lt n.line c.args.line) c.self.inside.notes.items =
    filter_same _ (λ n. nat_lt n.line c.args.line) _ (λ x b f' k. search rules) _ _ c.retain.ensures.filtered
    ∙ ap (filter (λ n. nat_lt n.line c.args.line)) c.reserve.ensures.items in
    let same : c.in_ok-text.text.items ≡ c.args.text.now = c.in_ok-text.ensures.items_if_clones_equal (λ x y e. e) in
    noted-is c.self.inside.notes.items c.retain.new.self.items c.push.new.self.items c.args.line c.args.text.now c.in_ok-text.text.items
    kept c.in_ok-push.ensures.items same
    ∙ ap (λ (xs : List Beside). with_note xs c.args.line c.args.text.now) c.self.view_is
