-- A site that ended before it began.
use Rattle.std.proofs.Common.{ℕ, Bool, List, Err, inl}
use Rattle.std.specs.Prelude.{Option}
use Rattle.shm_journal.specs.Lines.{Header}
use Rattle.shm_seal.specs.Seal.{Seal}
use Rattle.shm_command.proofs.Streaming.{did_nothing}
use Rattle.shm_command.specs.Around.{streams}
use Rattle.shm_command.specs.Served.{IsServed, IsUnbegun}
use Rattle.shm_command.specs.declared.site_error.SiteFault.{SiteFault}
use Rattle.shm_command.specs.declared.site_error.SiteFault.TheVariants as fault

pub unbegun : (kept : Option Bool) (seal : Seal) (header : Header) (f : SiteFault) (r w : Option (List ℕ)) → IsUnbegun f → IsServed kept seal header (Err f) (streams r w) (streams r w)
unbegun kept seal header (fault.Ended why) r w h = absurd h
unbegun kept seal header (fault.Loose durable) r w h = absurd h
unbegun kept seal header fault.OutOfMemory r w h = inl (did_nothing r w)
unbegun kept seal header fault.Unopened r w h = did_nothing r w
unbegun kept seal header fault.Missing r w h = did_nothing r w
unbegun kept seal header fault.NoFile r w h = did_nothing r w
unbegun kept seal header fault.Existing r w h = did_nothing r w
unbegun kept seal header fault.Blank r w h = did_nothing r w
unbegun kept seal header (fault.Damaged bytes) r w h = did_nothing r w
unbegun kept seal header fault.Unmarked r w h = did_nothing r w
unbegun kept seal header fault.Taken r w h = did_nothing r w
unbegun kept seal header fault.Uncut r w h = did_nothing r w
unbegun kept seal header fault.Unlisted r w h = inl (did_nothing r w)
unbegun kept seal header (fault.Unrecovered why) r w h = did_nothing r w
unbegun kept seal header (fault.Unopenable why) r w h = did_nothing r w
