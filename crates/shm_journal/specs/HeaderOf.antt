-- A header of the code, as the definitions speak of it.
use Rattle.std.specs.Prelude.{option_map}
use Rattle.shm_journal.specs.Lines as spec
use Rattle.shm_journal.specs.declared.journal_header.Header.{Header}
use Rattle.shm_seal.specs.NameOf.{name_of}

abbrev pub header_of : Header → spec.Header
header_of header = record { sites = header.sites; me = header.me; pages = header.pages; cluster = option_map name_of header.cluster }
