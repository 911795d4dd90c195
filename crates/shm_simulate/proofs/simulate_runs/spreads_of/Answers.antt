use Rattle.std.proofs.Common.{rules, ◌∙◌, ◌++◌, ◌∷◌, [], ap, ap₂, subst, sym}
use Rattle.std.specs.Prelude.{map}
use Rattle.shm_simulate.proofs.ListLemmas.{take-next}
use Rattle.std.proofs.lemmas.List.{map-append}
use Rattle.shm_simulate.specs.Spreads.{AreSpreads}
use Rattle.shm_simulate.specs.declared.spread.Spread.{Spread}
use Rattle.shm_simulate.proofs.TallyLemmas.{are-push}
use Rattle.shm_simulate.proofs.simulate_runs.spreads_of.Goals as goal

pub measures-preserved : goal.measures-preserved
measures-preserved c = record {
  none = subst (AreSpreads (λ _. [])) (sym c.in_ok-push.ensures.items) (are-push c.measures.spreads.items c.new.result c.measures.invariant.none c.new.ensures.spread);
  measures = ap (map (λ (spread : Spread). spread.measure)) c.in_ok-push.ensures.items
      ∙ (map-append (λ (spread : Spread). spread.measure) c.measures.spreads.items (c.new.result ∷ [])
      ∙ (ap₂ (λ l m. l ++ m ∷ []) c.measures.invariant.measures c.new.ensures.measure ∙ sym (take-next c.args.all.now c.measures.measure-index _ (search rules))));
}
