use Rattle.std.proofs.Common.{◌≡◌, ◌++◌, take}
use Rattle.shm_state.specs.Telling.{AreOrdered, said_by}
use Rattle.shm_state.specs.declared.told_stage.Stage.TheVariants as stage
use Rattle.shm_state.proofs.tell_calls.tell_segments.Given as goal

abbrev pub invariant-segments : goal.invariant-segments
invariant-segments g l = record {
  said : said_by l.out.items ≡ record (said_by l.initial.out.items) { table = (said_by l.initial.out.items).table ++ take l.segment-index l.segments };
  order : AreOrdered stage.Segments l.out.items;
}
