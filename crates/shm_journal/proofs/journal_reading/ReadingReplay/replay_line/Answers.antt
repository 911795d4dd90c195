use Rattle.std.proofs.Common.{rules, ◌≡◌, false}
use Rattle.std.specs.Prelude.{is_none}
use Rattle.shm_process.specs.NodeOf.{node_of}
use Rattle.shm_journal.proofs.ReadingLemmas.{further_told}
use Rattle.shm_journal.proofs.journal_reading.ReadingReplay.replay_line.Goals as goal

pub returns-then-self : goal.returns-then-self
returns-then-self g c = λ stage at.
    let site = c.args.self.now in
    let told : is_none site.telling ≡ false = search rules in
    further_told c.read_told.result (node_of site.node) site.in_state site.telling c.args.line.now stage _ told c.if-self.true at c.read_told.ensures
