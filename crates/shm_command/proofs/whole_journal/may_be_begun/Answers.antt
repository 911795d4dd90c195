use Rattle.std.proofs.Common.{ap, rules}
use Rattle.shm_command.specs.First.{first_batch}
use Rattle.shm_journal.specs.HeaderOf.{header_of}
use Rattle.shm_command.proofs.FirstLemmas.{left_of_file}
use Rattle.shm_command.proofs.whole_journal.may_be_begun.Goals as goal

pub returns-in-Ok-first_batch : goal.returns-in-Ok-first_batch
returns-in-Ok-first_batch g c =
    left_of_file c.is_left_of.result (first_batch (header_of c.args.header)) c.as_slice.result.now c.new-bytes.result.items c.read_to_end.new.buf.items
    c.as_slice-in-Ok-first_batch.result.now c.take.result.limit (g.I.Read.remaining c.take.result.inner) (g.I.Read.remaining c.args.reader) c.take.ensures.limit
    (ap g.I.Read.remaining c.take.ensures.inner) (search rules) c.in-Ok.ensures.bytes (search rules) (search rules) c.is_left_of.ensures
