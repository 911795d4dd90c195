-- An entry of the code, as the definitions speak of it.
use Rattle.shm_process.specs.CauseOf.{cause_of}
use Rattle.shm_process.specs.Recorded as spec
use Rattle.shm_journal.specs.declared.journal_entry.Entry.{Entry}

abbrev pub entry_of : {A : Type 0} → Entry A → spec.Entry
entry_of entry = record { clock = entry.clock; cause = cause_of entry.cause }
