use Rattle.std.proofs.Common.{◌≡◌, ◌++◌, take}
use Rattle.shm_parts.specs.Listed.{stored_list}
use Rattle.shm_parts.specs.Purged.{purged_of}
use Rattle.shm_state.specs.Telling.{AreOrdered, alive, said_by}
use Rattle.shm_state.specs.declared.told_stage.Stage.TheVariants as stage
use Rattle.shm_state.proofs.tell_pages.tell_entries.Given as goal

abbrev pub invariant-places : goal.invariant-places
invariant-places g l = record {
  said : said_by l.out.items ≡ record (said_by l.initial.out.items) { entries = (said_by l.initial.out.items).entries ++ alive (purged_of l.fn.held.purged) (take l.place (stored_list l.fn.held.entries)) };
  order : AreOrdered stage.Entries l.out.items;
}
