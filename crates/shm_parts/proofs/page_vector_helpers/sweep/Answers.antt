use Rattle.std.proofs.Common.{rules, ◌≡◌, ◌∙◌, ap, arith, filter, is_some, length, vec_len}
use Rattle.std.proofs.lemmas.Fn.{filter_same}
use Rattle.shm_parts.specs.OrderedPages.{is_apart, standing}
use Rattle.shm_parts.proofs.PageRowLemmas.{swept-apart, swept-count, swept-standing}
use Rattle.shm_parts.proofs.page_vector_helpers.sweep.Goals as goal

pub index-requires-clause-apart : goal.index-requires-clause-apart
index-requires-clause-apart g c =
    let left : c.retain.new.self.items ≡ filter is_some c.args.rows.now.items = filter_same _ is_some _ (λ x b f' k. search rules) _ _ c.retain.ensures.filtered in
    ap is_apart left ∙ swept-apart c.args.rows.now.items c.requires.apart

pub index-requires-clause-room : goal.index-requires-clause-room
index-requires-clause-room g c =
    let left : c.retain.new.self.items ≡ filter is_some c.args.rows.now.items = filter_same _ is_some _ (λ x b f' k. search rules) _ _ c.retain.ensures.filtered in
    let counted : vec_len c.retain.new.self ≡ length c.retain.new.self.items = search rules in
    let few = ap (λ l. length l) left ∙ swept-count c.args.rows.now.items in
    omega (arith, counted, few, c.requires.count)

pub returns-clause-same : goal.returns-clause-same
returns-clause-same g c =
    let left : c.retain.new.self.items ≡ filter is_some c.args.rows.now.items = filter_same _ is_some _ (λ x b f' k. search rules) _ _ c.retain.ensures.filtered in
    ap standing left ∙ swept-standing c.args.rows.now.items
