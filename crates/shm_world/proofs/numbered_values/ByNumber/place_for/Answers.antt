use Rattle.std.proofs.Common.{◌≡◌, ◌+◌, ◌-◌, ◌/◌, ◌<◌, length, arith, refl, rules, vec_len}
use Rattle.std.proofs.lemmas.Option.{slice_get_read}
use Rattle.shm_world.proofs.Numbers.{middle_below, not_past, past_less, place_within}
use Rattle.shm_world.proofs.numbered_values.ByNumber.place_for.Goals as goal

pub places-init : goal.places-init
places-init g c =
    let counted : vec_len c.self.inside.places ≡ length c.self.inside.places.items = search rules in
    record {
      low = omega arith;
      high = omega (arith, place_within c.args.number c.self.inside.places.items, c.len-high.ensures, counted);
      within = omega (arith, c.len-high.ensures, counted);
    }

pub index-requires : goal.index-requires
index-requires g c =
    let counted : vec_len c.self.inside.places ≡ length c.self.inside.places.items = search rules in
    omega (arith, middle_below c.places.low c.places.high c.places-test.true, c.places.invariant.within, counted)

pub places-preserved-then-index-number : goal.places-preserved-then-index-number
places-preserved-then-index-number g c =
    let ps = c.self.inside.places.items in
    let middle = c.places.low + (c.places.high - c.places.low) / 2 in
    let within : middle < length ps = omega (arith, middle_below c.places.low c.places.high c.places-test.true, c.places.invariant.within) in
    record {
      low = past_less 0 c.self.inside.next c.args.number middle c.index.result.now ps c.self.invariant
          (slice_get_read ps (length ps) middle c.index.result.now refl within c.index.ensures) c.if-index-number.true;
      high = c.places.invariant.high;
      within = c.places.invariant.within;
    }

pub places-preserved : goal.places-preserved
places-preserved g c =
    let ps = c.self.inside.places.items in
    let middle = c.places.low + (c.places.high - c.places.low) / 2 in
    let within : middle < length ps = omega (arith, middle_below c.places.low c.places.high c.places-test.true, c.places.invariant.within) in
    record {
      low = c.places.invariant.low;
      high = not_past c.args.number middle c.index.result.now ps (slice_get_read ps (length ps) middle c.index.result.now refl within c.index.ensures) c.if-index-number.false;
      within = omega (arith, within);
    }

pub returns : goal.returns
returns g c = rw (← c.self.view_is) (omega (arith, c.places-test.false, c.places.invariant.low, c.places.invariant.high))
