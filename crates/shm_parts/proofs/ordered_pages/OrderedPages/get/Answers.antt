use Rattle.std.proofs.Common.{rules, ◌≡◌, ◌∙◌, ap, sym, length, option_copied, vec_len, arith}
use Rattle.std.specs.Map.{lookup}
use Rattle.std.specs.Option.{option_map}
use Rattle.shm_place.specs.declared.page_id.PageId.{PageId}
use Rattle.shm_place.specs.Page.{same_page}
use Rattle.shm_parts.proofs.PageRowLemmas.{absent-lookup, place-within, read-value}
use Rattle.shm_parts.proofs.ordered_pages.OrderedPages.get.Goals as goal

pub returns-in_err-place : goal.returns-in_err-place
returns-in_err-place g c =
    let page = c.args.page.now in
    ap (λ r. option_copied r) c.from_residual.ensures
    ∙ sym (ap (lookup (same_page page)) (sym c.self.view_is) ∙ absent-lookup page c.self.inside.rows.items (sym (c.self.invariant.0.found page) ∙ sym c.in_err-place.ensures.value))

pub index-requires : goal.index-requires
index-requires g c =
    let page = c.args.page.now in
    let counted : vec_len c.self.inside.rows ≡ length c.self.inside.rows.items = search rules in
    omega (arith, counted, place-within page c.in_ok-place.place.now c.self.inside.rows.items (sym (c.self.invariant.0.found page) ∙ sym c.in_ok-place.ensures.value))

pub returns-in-Some : goal.returns-in-Some
returns-in-Some g c =
    let page = c.args.page.now in
    sym (ap (lookup (same_page page)) (sym c.self.view_is)
    ∙ read-value page c.in_ok-place.place.now c.index.result.now c.self.inside.rows.items (sym (c.self.invariant.0.found page) ∙ sym c.in_ok-place.ensures.value) c.index.ensures
    ∙ ap (option_map (λ (e : PageId × _). e.1)) c.in-Some.is)

pub returns-in-None : goal.returns-in-None
returns-in-None g c =
    let page = c.args.page.now in
    sym (ap (lookup (same_page page)) (sym c.self.view_is)
    ∙ read-value page c.in_ok-place.place.now c.index.result.now c.self.inside.rows.items (sym (c.self.invariant.0.found page) ∙ sym c.in_ok-place.ensures.value) c.index.ensures
    ∙ ap (option_map (λ (e : PageId × _). e.1)) c.in-None.is)
