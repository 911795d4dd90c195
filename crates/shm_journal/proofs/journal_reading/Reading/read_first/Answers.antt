use Rattle.std.proofs.Common.{◌≡◌, ◌∙◌, None, Some, ap, refl, sym}
use Rattle.std.specs.Prelude.{option_map}
use Rattle.shm_process.specs.NodeOf.{node_of}
use Rattle.shm_journal.specs.EntryOf.{entry_of}
use Rattle.shm_journal.specs.Lines.{read_entry}
use Rattle.shm_journal.specs.StageOf.{Stands}
use Rattle.shm_journal.proofs.ReadingLemmas.{entry_on, first_told}
use Rattle.shm_journal.proofs.journal_reading.Reading.read_first.Goals as goal

pub returns-in_default : goal.returns-in_default
returns-in_default g c = λ stage at.
    let site = c.args.self.now in
    let read : None ≡ read_entry c.args.line.now = ap (option_map entry_of) (sym c.in_default.is) ∙ c.in_ok-clock.ensures.read in
    first_told c.read_told.result (node_of site.node) site.in_state site.telling c.args.line.now stage (Stands c.read_told.new.self) c.requires.told c.requires.outside at read
    c.read_told.ensures

pub returns : goal.returns
returns g c = λ stage at.
    let site = c.args.self.now in
    let entry = entry_of c.in-Some.field-0 in
    let read : Some entry ≡ read_entry c.args.line.now = ap (option_map entry_of) (sym c.in-Some.is) ∙ c.in_ok-clock.ensures.read in
    entry_on c.replay_entry.result (node_of site.node) (node_of c.replay_entry.new.self) site.in_state site.telling c.args.line.now entry stage _ c.requires.told
    c.requires.outside at read c.replay_entry.ensures.made c.replay_entry.ensures.after refl
