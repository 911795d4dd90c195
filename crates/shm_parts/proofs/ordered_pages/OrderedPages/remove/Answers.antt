use Rattle.std.proofs.Common.{rules, ◌≡◌, ◌∙◌, Some, not, ap, sym, subst, arith, length, vec_len}
use Rattle.std.specs.Map.{lookup, remove_entry}
use Rattle.shm_place.specs.Page.{same_page}
use Rattle.shm_parts.specs.OrderedPages.{IsWithin, place_in, standing, without}
use Rattle.shm_parts.proofs.OrderedPagesLemmas.{within-filter}
use Rattle.shm_parts.proofs.PageRowLemmas.{absent-removed, absent-without, indexed-less, less-removed, less-without, place-within}
use Rattle.shm_parts.proofs.ordered_pages.OrderedPages.remove.Goals as goal

pub returns-in_default-clause-first : goal.returns-in_default-clause-first
returns-in_default-clause-first g c =
    let page = c.args.page.now in
    sym (absent-removed page c.self.inside.rows.items (sym (c.self.invariant.0.found page) ∙ sym c.in_default.ensures.value)) ∙ ap (remove_entry (same_page page)) c.self.view_is

pub returns-in_default-clause-all : goal.returns-in_default-clause-all
returns-in_default-clause-all g c =
    let page = c.args.page.now in
    sym (absent-without page c.self.inside.rows.items (sym (c.self.invariant.0.found page) ∙ sym c.in_default.ensures.value)) ∙ ap (without page) c.self.view_is

pub index_mut-requires : goal.index_mut-requires
index_mut-requires g c =
    let page = c.args.page.now in
    let counted : vec_len c.self.inside.rows ≡ length c.self.inside.rows.items = search rules in
    omega (arith, counted, place-within page c.in-Some.place c.self.inside.rows.items (sym (c.self.invariant.0.found page) ∙ sym c.in-Some.ensures.value))

pub invariant_of-self-then-len-lt-FEW : goal.invariant_of-self-then-len-lt-FEW
invariant_of-self-then-len-lt-FEW g c =
    let page = c.args.page.now in
    let items = c.self.inside.rows.items in
    let at : lookup (same_page page) c.self.inside.places.entries ≡ Some c.in-Some.place = sym c.in-Some.ensures.value in
    let here : place_in page items ≡ Some c.in-Some.place = sym (c.self.invariant.0.found page) ∙ at in (
      indexed-less page c.in-Some.place c.self.inside.places.entries c.swap_remove.new.self.entries items c.self.invariant.0 at c.in-Some.ensures.updates.0 c.in-Some.ensures.len,
      subst (IsWithin c.self.inside.last) (sym (less-without page c.in-Some.place items c.self.invariant.0.apart here))
          (within-filter c.self.inside.last (λ e. not (same_page page e.0)) (standing items) c.self.invariant.1),
    )

pub returns-then-len-lt-FEW-clause-first : goal.returns-then-len-lt-FEW-clause-first
returns-then-len-lt-FEW-clause-first g c =
    let page = c.args.page.now in
    less-removed page c.in-Some.place c.self.inside.rows.items (sym (c.self.invariant.0.found page) ∙ sym c.in-Some.ensures.value) ∙ ap (remove_entry (same_page page)) c.self.view_is

pub returns-then-len-lt-FEW-clause-all : goal.returns-then-len-lt-FEW-clause-all
returns-then-len-lt-FEW-clause-all g c =
    let page = c.args.page.now in
    less-without page c.in-Some.place c.self.inside.rows.items c.self.invariant.0.apart (sym (c.self.invariant.0.found page) ∙ sym c.in-Some.ensures.value) ∙ ap (without page) c.self.view_is

pub sweep-requires : goal.sweep-requires
sweep-requires g c =
    indexed-less c.args.page.now c.in-Some.place c.self.inside.places.entries c.swap_remove.new.self.entries c.self.inside.rows.items c.self.invariant.0
    (sym c.in-Some.ensures.value) c.in-Some.ensures.updates.0 c.in-Some.ensures.len

pub invariant_of-self-2 : goal.invariant_of-self-2
invariant_of-self-2 g c =
    let page = c.args.page.now in
    let items = c.self.inside.rows.items in
    let here : place_in page items ≡ Some c.in-Some.place = sym (c.self.invariant.0.found page) ∙ sym c.in-Some.ensures.value in (
      c.sweep.ensures.indexed,
      subst (IsWithin c.self.inside.last) (sym (c.sweep.ensures.same ∙ less-without page c.in-Some.place items c.self.invariant.0.apart here))
          (within-filter c.self.inside.last (λ e. not (same_page page e.0)) (standing items) c.self.invariant.1),
    )

pub returns-clause-first : goal.returns-clause-first
returns-clause-first g c =
    let page = c.args.page.now in
    c.sweep.ensures.same
    ∙ less-removed page c.in-Some.place c.self.inside.rows.items (sym (c.self.invariant.0.found page) ∙ sym c.in-Some.ensures.value) ∙ ap (remove_entry (same_page page)) c.self.view_is

pub returns-clause-all : goal.returns-clause-all
returns-clause-all g c =
    let page = c.args.page.now in
    c.sweep.ensures.same
    ∙ less-without page c.in-Some.place c.self.inside.rows.items c.self.invariant.0.apart (sym (c.self.invariant.0.found page) ∙ sym c.in-Some.ensures.value) ∙ ap (without page) c.self.view_is
