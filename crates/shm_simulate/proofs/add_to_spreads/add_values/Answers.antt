use Rattle.std.proofs.Common.{◌≡◌, ◌<◌, ◌∙◌, arith, length}
use Rattle.std.proofs.lemmas.Option.{slice_get_within}
use Rattle.shm_simulate.specs.Measures.{value_in}
use Rattle.shm_simulate.proofs.TallyLemmas.{so-far-more}
use Rattle.shm_simulate.proofs.add_to_spreads.add_values.Goals as goal

pub spreads-preserved : goal.spreads-preserved
spreads-preserved c =
    let inside : c.spreads.place < length c.spreads.spreads.items =
    omega (arith, c.spreads-test.true, c.spreads.invariant.long, c.len-place-end.ensures, c.spreads.spreads.ok.0) in
    record {
      long = c.in_ok-add_value.ensures.long ∙ c.spreads.invariant.long;
      measures = c.in_ok-add_value.ensures.measures ∙ c.spreads.invariant.measures;
      others = λ k above. c.in_ok-add_value.ensures.others k (λ e. absurd (omega (arith, e, above))) ∙ c.spreads.invariant.others k (omega (arith, above));
      so_far = λ values are few.
          so-far-more (λ m. value_in m c.args.lines.now c.args.messages.now c.args.events.now) c.args.spreads.now.items c.spreads.spreads.items
          c.add_value.new.spreads.items c.spreads.place values are few c.spreads.invariant.others (c.spreads.invariant.so_far values are few)
          c.in_ok-add_value.ensures.others c.in_ok-add_value.ensures.added inside;
    }

pub returns-clause-spreads : goal.returns-clause-spreads
returns-clause-spreads c = λ values are few place spread there.
    let below : place < c.spreads.place =
    omega (arith, slice_get_within c.spreads.spreads.items place spread there, c.spreads-test.false, c.spreads.invariant.long, c.len-place-end.ensures, c.spreads.spreads.ok.0) in
    c.spreads.invariant.so_far values are few place spread below there
