use Rattle.std.proofs.Common.{◌≡◌, ℕ, Option, Some, None, sym, ◌∙◌, ap, nat_eq}
use Rattle.indexmap.specs.IndexMap.{get}
use Rattle.shm_keys.proofs.Segments.{with_key_found, with_key_missing}
use Rattle.shm_keys.proofs.segment_table.SegTable.with_key.Goals as goal

pub returns-in-None : goal.returns-in-None
returns-in-None g c =
    let places : ℕ → Option ℕ = get nat_eq c.self.inside.keys in
    let key_is : c.key.inside.0 ≡ c.args.key = c.key.view_is in
    let none : places c.args.key ≡ None = ap places (sym key_is) ∙ sym c.in-None.ensures.value in
    rw (← c.self.view_is) (sym (with_key_missing c.self.inside.segments.items places c.args.key c.self.invariant.indexed c.requires none))

pub returns-in-Some : goal.returns-in-Some
returns-in-Some g c =
    let places : ℕ → Option ℕ = get nat_eq c.self.inside.keys in
    let key_is : c.key.inside.0 ≡ c.args.key = c.key.view_is in
    let found : places c.args.key ≡ Some c.in-Some.place.now = ap places (sym key_is) ∙ sym c.in-Some.ensures.value in
    rw (← c.self.view_is) (sym (with_key_found c.self.inside.segments.items places c.args.key c.in-Some.place.now c.index.result.now c.self.invariant.indexed c.requires found ∙ ap Some (sym c.index.ensures)))
