use Rattle.std.proofs.Common.{◌≡◌, ℕ, List, IfSome}
use Rattle.std.specs.Prelude.{Err, None, Option, Result, Some}
use Rattle.std.specs.Io.KnownBytes.{Appends}
use Rattle.shm_debug.specs.Replay.{Ends}
use Rattle.shm_debug.specs.Script.{script_of}
use Rattle.shm_debug.specs.declared.script_summary_and_error.DebugFault.{DebugFault}
use Rattle.shm_debug.specs.declared.script_summary_and_error.Summary.{Summary}
use Rattle.shm_command.specs.Status.{Replays, status_of}
use Rattle.shm_command.proofs.replay_command.replay_script.Goals as goal

-- what a replay ends as, by its status
replays_so : (script : Option (List ℕ)) (end : Result Summary DebugFault) (status : ℕ) (old new : Option (List ℕ)) → status ≡ status_of end
    → IfSome script (λ bytes. (text : List ℕ) × Appends old new text × Ends (script_of bytes) end text)
    → IfSome script (λ bytes. Replays (script_of bytes) status old new)
replays_so None end status old new is ends = tt
replays_so (Some bytes) end status old new is ends = (end, ends.0, is, ends.1, ends.2)

pub returns-in-Err-clause-replayed : goal.returns-in-Err-clause-replayed
returns-in-Err-clause-replayed g c =
    replays_so (g.I.Read.remaining c.args.reader.now) (Err c.in-Err.fault) c.script_fault.result (g.O.Write.contents c.args.out.now)
    (g.O.Write.contents c.replay.new.writer) c.script_fault.ensures.status c.in-Err.ensures.ends
