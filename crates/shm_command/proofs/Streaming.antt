-- What is done with an input and an output of which the bytes may be known.
use Rattle.std.proofs.Common.{ℕ, List, []}
use Rattle.std.specs.Prelude.{Option}
use Rattle.std.proofs.KnownBytes.{Appends-nil, Consumes-nil}
use Rattle.shm_journal.specs.Acts.{Did, read_in, told_in}
use Rattle.shm_command.specs.Around.{streams}

pub did_nothing : (r w : Option (List ℕ)) → Did (streams r w) (streams r w) []
unfolding read_in told_in
did_nothing r w = record { read = Consumes-nil r; told = Appends-nil w; acted = tt }
