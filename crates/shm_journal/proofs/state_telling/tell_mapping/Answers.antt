use Rattle.std.proofs.Common.{refl}
use Rattle.shm_journal.proofs.TellingLemmas.{mapping_told}
use Rattle.shm_journal.proofs.state_telling.tell_mapping.Goals as goal

pub returns : goal.returns
returns g c = λ t h.
    let old = c.args.telling in
    mapping_told old (record { told = old.told; mapped = c.push.new.self }) t c.args.mapping h refl c.in_ok-push.ensures.items
