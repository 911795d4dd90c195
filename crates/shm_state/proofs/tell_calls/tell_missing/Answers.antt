use Rattle.std.proofs.Common.{◌∙◌, ◌++◌, [], ◌∷◌, ap, sym}
use Rattle.shm_keys.specs.Restored.{purge_from}
use Rattle.shm_site.specs.State.{State}
use Rattle.shm_state.proofs.Tellings.{grown}
use Rattle.shm_state.specs.Telling.{said_by}
use Rattle.shm_state.proofs.tell_calls.tell_missing.Goals as goal

pub places-preserved : goal.places-preserved
places-preserved g c =
    let old : State = said_by c.args.out.now.items in
    let purge = purge_from c.in-Some.purge in
    record {
      said = c.in_ok-tell_purge.ensures.said ∙ ap (λ (s : State). record s { missing = s.missing ++ purge ∷ [] }) c.places.invariant.said
          ∙ ap (λ purges. record old { missing = purges }) (grown old.missing c.args.table.now.missing c.places.place purge (sym c.in-Some.ensures.purge));
      order = c.in_ok-tell_purge.ensures.order;
    }
