-- What is around a site's process, where only its input and its output may be known.
use Rattle.std.specs.Prelude.{ℕ, List, Option, None}
use Rattle.shm_journal.specs.Acts.{Around, around}

abbrev pub streams : Option (List ℕ) → Option (List ℕ) → Around
streams remaining contents = around remaining contents None
