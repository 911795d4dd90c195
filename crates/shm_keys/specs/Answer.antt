-- What the calls of a table answer, as the replies that the definitions speak of.
use Rattle.std.specs.Prelude.{◌≡◌, ℕ, List, Result, Ok, Err}
use Rattle.shm_model.specs.Permission.{Segment}
use Rattle.shm_model.specs.Kernel.{Called, call, destroyed_by}
use Rattle.shm_model.specs.declared.call.Attached.{Attached}
use Rattle.shm_model.specs.declared.call.Stat.{Stat}
use Rattle.shm_model.specs.declared.call.Errno.{Errno}
use Rattle.shm_model.specs.declared.call.Op.{Op}
use Rattle.shm_model.specs.declared.call.Reply.{Reply}
use Rattle.shm_model.specs.declared.call.Reply.TheVariants.{Id, Attached as AttachedReply, Ok as OkReply, Stat as StatReply, Refused}
use Rattle.shm_keys.specs.Purge.{missing_after}
use Rattle.shm_keys.specs.Table.{Table, missing_of}
use Rattle.shm_keys.specs.declared.shmget.GetFault.{GetFault}
use Rattle.shm_keys.specs.declared.shmget.GetFault.TheVariants as fault

-- the call has this reply, and leaves the segments of the table after it
abbrev pub Answers : Op → Reply → Table → Table → Type 0
Answers op reply before after = call before.sites before.home op before.segments ≡ record { reply = reply; segments = after.segments }

-- after the call the sites have yet to purge what they had, and all of them what it destroyed
abbrev pub Purges : Op → Table → Table → Type 0
Purges op before after =
    (id site : ℕ) → missing_of after id site ≡ missing_after (destroyed_by op before.segments after.segments) before.sites (missing_of before) id site

abbrev pub attach_reply : Result Attached Errno → Reply
attach_reply (Ok attached) = AttachedReply attached
attach_reply (Err errno) = Refused errno

abbrev pub done_reply : {A : Type 0} → Result A Errno → Reply
done_reply (Ok done) = OkReply
done_reply (Err errno) = Refused errno

abbrev pub stat_reply : Result Stat Errno → Reply
stat_reply (Ok stat) = StatReply stat
stat_reply (Err errno) = Refused errno

-- The answer of `get` is the reply. Memory is missing only where the reply would give the fresh identifier, that of a new segment.
abbrev pub IsGetAnswer : Result ℕ GetFault → ℕ → Called → List Segment → Type 0
IsGetAnswer (Ok id) fresh called segments = called ≡ record { reply = Id id; segments = segments }
IsGetAnswer (Err (fault.Refused errno)) fresh called segments = called ≡ record { reply = Refused errno; segments = segments }
IsGetAnswer (Err fault.OutOfMemory) fresh called segments = called.reply ≡ Id fresh
