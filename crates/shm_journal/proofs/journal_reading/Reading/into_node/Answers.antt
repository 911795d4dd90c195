use Rattle.std.proofs.Common.{rules, ◌≡◌, false}
use Rattle.std.specs.Prelude.{◌&&◌, is_some}
use Rattle.shm_process.specs.NodeOf.{node_of}
use Rattle.shm_journal.proofs.ReadingLemmas.{not_both, not_within, sound_site, unended}
use Rattle.shm_journal.proofs.journal_reading.Reading.into_node.Goals as goal
use Rattle.shm_journal.proofs.journal_reading.Reading.into_node.Goals.{else-self-via-then-self+else-is_some, else-self-via-else-self}

pub returns-then-is_some-clause-none : goal.returns-then-is_some-clause-none
returns-then-is_some-clause-none g c = λ stage at.
    let site = c.args.self in unended (node_of site.node) site.in_state site.telling stage (search rules) (search rules) at

pub returns-clause-some : goal.returns-clause-some
returns-clause-some g c = λ stage at.
    let site = c.args.self in
    let outside : site.in_state && is_some site.telling ≡ false = elim c.else-self.branch [
      | else-self-via-then-self+else-is_some w ↦ not_both site.in_state (is_some site.telling) (search rules)
      | else-self-via-else-self w ↦ not_within site.in_state (is_some site.telling) (search rules)
    ] in
    sound_site (node_of site.node) site.in_state site.telling stage outside at
