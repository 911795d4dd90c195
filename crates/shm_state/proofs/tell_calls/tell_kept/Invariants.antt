use Rattle.std.proofs.Common.{◌≡◌}
use Rattle.shm_state.specs.Telling.{AreOrdered, put_below, said_by}
use Rattle.shm_state.specs.declared.told_stage.Stage.TheVariants as stage
use Rattle.shm_state.proofs.tell_calls.tell_kept.Given as goal

abbrev pub invariant-sites : goal.invariant-sites
invariant-sites g l = record {
  said : said_by l.out.items ≡ record (said_by l.initial.out.items) { kept = put_below l.site l.replies (said_by l.initial.out.items).kept };
  order : AreOrdered stage.Kept l.out.items;
}
