use Rattle.std.proofs.Common.{◌≡◌, ◌++◌, take}
use Rattle.shm_parts.specs.Listed.{purged_list}
use Rattle.shm_state.specs.Telling.{AreOrdered, said_by}
use Rattle.shm_state.specs.declared.told_stage.Stage.TheVariants as stage
use Rattle.shm_state.proofs.tell_pages.tell_purged.Given as goal

abbrev pub invariant-places : goal.invariant-places
invariant-places g l = record {
  said : said_by l.out.items ≡ record (said_by l.initial.out.items) { purged = (said_by l.initial.out.items).purged ++ take l.place (purged_list l.purged) };
  order : AreOrdered stage.Purged l.out.items;
}
