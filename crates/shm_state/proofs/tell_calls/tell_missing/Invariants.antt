use Rattle.std.proofs.Common.{◌≡◌, ◌++◌, take}
use Rattle.shm_state.specs.Telling.{AreOrdered, said_by}
use Rattle.shm_state.specs.declared.told_stage.Stage.TheVariants as stage
use Rattle.shm_state.proofs.tell_calls.tell_missing.Given as goal

abbrev pub invariant-places : goal.invariant-places
invariant-places g l = record {
  said : said_by l.out.items ≡ record (said_by l.initial.out.items) { missing = (said_by l.initial.out.items).missing ++ take l.place l.table.missing };
  order : AreOrdered stage.Missing l.out.items;
}
