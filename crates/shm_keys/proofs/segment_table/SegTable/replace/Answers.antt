use Rattle.std.proofs.Common.{◌≡◌, ◌/◌, ◌<◌, ◌+◌, ℕ, Option, Some, None, if◌then◌else◌, false, length, get_or, set, sym, ◌∙◌, ap, refl, arith, nat_eq}
use Rattle.indexmap.specs.IndexMap.{get}
use Rattle.shm_model.specs.Permission.{Segment, destroyed}
use Rattle.shm_model.specs.Kernel.{replaced, destroyed_in}
use Rattle.shm_keys.specs.Table.{IsLive}
use Rattle.shm_keys.proofs.Segments.{freed, live_place, replaced_is}
use Rattle.shm_keys.proofs.Changes.{some_live, table-set, destroyed_once}
use Rattle.shm_keys.proofs.segment_table.SegTable.replace.Goals as goal

pub settle-gone-requires-clause-one : goal.settle-gone-requires-clause-one
settle-gone-requires-clause-one g c =
    let items = c.self.inside.segments.items in
    let at_home = rw (← c.self.view_is) at c.requires.home in
    let lives : IsLive items c.args.after.id c.args.before = rw (← c.self.view_is) at c.requires.live in
    let here = live_place c.self.inside.home c.self.inside.sites items c.args.after.id c.args.before c.self.invariant.numbered at_home lives in
    let alive : destroyed (get_or items (c.args.after.id / c.self.inside.sites) c.args.before) ≡ false = rw (here.1 c.args.before) lives.alive in
    let some = some_live items (c.args.after.id / c.self.inside.sites) c.args.before here.0 alive in
    let counted = c.self.invariant.counted in
    omega (arith, some, counted)

pub settle-gone-requires-clause-room : goal.settle-gone-requires-clause-room
settle-gone-requires-clause-room g c =
    let one = settle-gone-requires-clause-one g c in
    let roomy = c.self.invariant.roomy in
    omega (arith, one, roomy)

pub index_mut-requires : goal.index_mut-requires
index_mut-requires g c =
    let items = c.self.inside.segments.items in
    let at_home = rw (← c.self.view_is) at c.requires.home in
    let lives : IsLive items c.args.after.id c.args.before = rw (← c.self.view_is) at c.requires.live in
    let here = live_place c.self.inside.home c.self.inside.sites items c.args.after.id c.args.before c.self.invariant.numbered at_home lives in
    let id_is : c.after.inside.id ≡ c.args.after.id = ap (λ (g : Segment). g.id) c.after.view_is in
    let place_is : c.place_of-place.result ≡ c.args.after.id / c.self.inside.sites = c.place_of-place.ensures ∙ ap (λ n. n / c.self.inside.sites) id_is in
    let within : c.args.after.id / c.self.inside.sites < length items = here.0 in
    omega (arith, within, place_is)

pub invariant_of-self : goal.invariant_of-self
invariant_of-self g c =
    let items = c.self.inside.segments.items in
    let at_home = rw (← c.self.view_is) at c.requires.home in
    let lives : IsLive items c.args.after.id c.args.before = rw (← c.self.view_is) at c.requires.live in
    let id_is : c.after.inside.id ≡ c.args.after.id = ap (λ (g : Segment). g.id) c.after.view_is in
    let place_is : c.place_of-place.result ≡ c.args.after.id / c.self.inside.sites = c.place_of-place.ensures ∙ ap (λ n. n / c.self.inside.sites) id_is in
    let before_is : c.before-2.inside.key ≡ c.args.before.key = ap (λ (g : Segment). g.key) c.before-2.view_is in
    let after_is : c.after.inside.key ≡ c.args.after.key = ap (λ (g : Segment). g.key) c.after.view_is in
    let places : ℕ → Option ℕ = get nat_eq c.self.inside.keys in
    let gone = λ (key : ℕ). c.free_key.ensures key ∙ ap (λ n. freed n c.after.inside.key places key) before_is ∙ ap (λ n. freed c.args.before.key n places key) after_is in
    let e = c.settle-gone.ensures in
    let lengths : c.settle-gone.new.live + length c.settle-gone.new.purges.items ≡ c.self.inside.live + length c.self.inside.purges.items = let p = e.places in omega (arith, p) in
    let kept = table-set c.self.inside.home c.self.inside.sites items places (get nat_eq c.free_key.new.keys) c.self.inside.live c.settle-gone.new.live c.self.inside.purges.items c.settle-gone.new.purges.items _ c.args.before c.args.after
    c.self.invariant at_home lives c.requires.key gone e.live lengths e.rising e.all_missing e.pass in
    rw (place_is, e.capacity) kept

pub returns-clause-table : goal.returns-clause-table
returns-clause-table g c =
    let items = c.self.inside.segments.items in
    let at_home = rw (← c.self.view_is) at c.requires.home in
    let lives : IsLive items c.args.after.id c.args.before = rw (← c.self.view_is) at c.requires.live in
    let here = live_place c.self.inside.home c.self.inside.sites items c.args.after.id c.args.before c.self.invariant.numbered at_home lives in
    let id_is : c.after.inside.id ≡ c.args.after.id = ap (λ (g : Segment). g.id) c.after.view_is in
    let place_is : c.place_of-place.result ≡ c.args.after.id / c.self.inside.sites = c.place_of-place.ensures ∙ ap (λ n. n / c.self.inside.sites) id_is in
    rw (← c.self.view_is, replaced_is c.self.inside.home c.self.inside.sites items c.args.after.id c.args.after c.self.invariant.numbered at_home here.0, place_is) refl

pub returns-clause-gone : goal.returns-clause-gone
returns-clause-gone g c =
    let items = c.self.inside.segments.items in
    let at_home = rw (← c.self.view_is) at c.requires.home in
    let lives : IsLive items c.args.after.id c.args.before = rw (← c.self.view_is) at c.requires.live in
    let here = live_place c.self.inside.home c.self.inside.sites items c.args.after.id c.args.before c.self.invariant.numbered at_home lives in
    let id_is : c.after.inside.id ≡ c.args.after.id = ap (λ (g : Segment). g.id) c.after.view_is in
    let place_is : c.place_of-place.result ≡ c.args.after.id / c.self.inside.sites = c.place_of-place.ensures ∙ ap (λ n. n / c.self.inside.sites) id_is in
    let put : set items c.place_of-place.result c.args.after ≡ replaced c.args.after.id c.args.after items =
    rw place_is (sym (replaced_is c.self.inside.home c.self.inside.sites items c.args.after.id c.args.after c.self.invariant.numbered at_home here.0)) in
    let once : destroyed_in (Some c.args.after.id) items (set items c.place_of-place.result c.args.after) ≡ (if destroyed c.args.after then Some c.args.after.id else None) =
    ap (λ s. destroyed_in (Some c.args.after.id) items s) put ∙ destroyed_once items c.args.before c.args.after lives in
    rw (← c.self.view_is) (once ∙ sym c.settle-gone.ensures.gone)

pub returns-clause-missing : goal.returns-clause-missing
returns-clause-missing g c = λ id site. rw (← c.self.view_is) (c.settle-gone.ensures.missing id site)
