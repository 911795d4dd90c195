use Rattle.std.proofs.Common.{◌≡◌, ◌∙◌, Some, ap, sym}
use Rattle.std.specs.Prelude.{option_map}
use Rattle.shm_process.specs.NodeOf.{node_of}
use Rattle.shm_journal.specs.StageOf.{Stands}
use Rattle.shm_journal.specs.StateLines.{read_state}
use Rattle.shm_journal.specs.StateOf.{state_line_in}
use Rattle.shm_journal.proofs.ReadingLemmas.{told_none, told_on, told_so}
use Rattle.shm_journal.proofs.journal_reading.Reading.read_told.Goals as goal

pub returns : goal.returns
returns g c = λ t at.
    let site = c.args.self.now in
    let said = state_line_in c.in-Some.line in
    let read : Some said ≡ read_state c.args.line.now = ap (option_map state_line_in) (sym c.in-Some.is) ∙ c.in_ok-line.ensures in
    let tells = told_on (node_of site.node) site.in_state site.telling c.in-Some-take.telling t (sym c.in-Some-take.ensures.value) at in
    told_so t c.args.line.now said c.in_ok-onward.field-0 c.in-Some-2.onward (Stands c.go_on.new.self) read c.in-Some-2.is (c.in_ok-onward.ensures t tells) c.go_on.ensures

pub returns-in_default-2 : goal.returns-in_default-2
returns-in_default-2 g c = λ t at.
    let site = c.args.self.now in
    let said = state_line_in c.in-Some.line in
    let read : Some said ≡ read_state c.args.line.now = ap (option_map state_line_in) (sym c.in-Some.is) ∙ c.in_ok-line.ensures in
    let tells = told_on (node_of site.node) site.in_state site.telling c.in-Some-take.telling t (sym c.in-Some-take.ensures.value) at in
    told_none t c.args.line.now said c.in_ok-onward.field-0 read c.in_default-2.is (c.in_ok-onward.ensures t tells)
