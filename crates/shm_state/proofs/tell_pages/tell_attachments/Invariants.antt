use Rattle.std.proofs.Common.{◌≡◌}
use Rattle.shm_state.specs.Telling.{AreOrdered, put_below, said_by}
use Rattle.shm_state.specs.declared.told_stage.Stage.TheVariants as stage
use Rattle.shm_state.proofs.tell_pages.tell_attachments.Given as goal

abbrev pub invariant-numbers : goal.invariant-numbers
invariant-numbers g l = record {
  said : said_by l.out.items ≡ record (said_by l.initial.out.items) { attachments = put_below l.number l.attachments (said_by l.initial.out.items).attachments };
  order : AreOrdered stage.Attachments l.out.items;
}
