-- What was copied so far, and what stands at the places that are left, are all that the step sent.
use Rattle.std.proofs.Common.{◌≡◌, ◌++◌, drop}
use Rattle.std.specs.Prelude.{map}
use Rattle.shm_parts.specs.Message.{envelope_of}
use Rattle.shm_logs.specs.Boxes.Logged.{logged_of}
use Rattle.shm_sites.specs.Cluster.Posted.{all_sent, sent_by, sent_from}
use Rattle.shm_sites.proofs.cluster.copy_sent_envelopes.copies.Given as goal

abbrev pub invariant-places : goal.invariant-places
invariant-places g l =
    all_sent l.all.items ++ sent_from l.at l.index l.place (map envelope_of (drop l.place l.step.sent.items))
    ≡ sent_by l.index (logged_of l.step)
