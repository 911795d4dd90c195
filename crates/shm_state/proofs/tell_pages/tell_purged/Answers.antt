use Rattle.std.proofs.Common.{◌∙◌, ap, sym}
use Rattle.shm_site.specs.State.{State}
use Rattle.shm_parts.specs.Listed.{purged_list}
use Rattle.shm_state.proofs.Tellings.{grown}
use Rattle.shm_state.specs.Part.{Purged}
use Rattle.shm_state.specs.Telling.{said_by}
use Rattle.shm_state.specs.Told.{state_with}
use Rattle.shm_state.proofs.tell_pages.tell_purged.Goals as goal

pub places-preserved : goal.places-preserved
places-preserved g c =
    let old : State = said_by c.args.out.now.items in
    record {
      said = c.in_ok-tell_next.ensures.said ∙ ap (state_with (Purged c.in-Some.id)) c.places.invariant.said
          ∙ ap (λ ids. record old { purged = ids }) (grown old.purged (purged_list c.args.purged.now) c.places.place c.in-Some.id (sym c.in-Some.ensures));
      order = c.in_ok-tell_next.ensures.order;
    }
