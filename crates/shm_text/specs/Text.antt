-- What is said of an answer, and a line of output. Stat tells what `shmctl(2)`, `IPC_STAT`, does.
use Rattle.std.specs.Prelude.{ℕ, Bool, true, false, List, ◌++◌, codes, Option, Some, None}
use Rattle.std.specs.Fmt.{decimal}
use Rattle.shm_model.specs.declared.answer.Answer.{Answer}
use Rattle.shm_model.specs.declared.answer.Answer.TheVariants.{Byte, Stored, Fault, Waiting, Began, Replied, Took, Dropped, Refused}
use Rattle.shm_model.specs.declared.call.Reply.{Reply}
use Rattle.shm_model.specs.declared.call.Reply.TheVariants.{Id, Attached, Ok as OkReply, Stat as StatReply, Refused as RefusedReply}
use Rattle.shm_model.specs.declared.call.Stat.{Stat}
use Rattle.shm_model.specs.Mode.{mode_word}
use Rattle.shm_model.specs.Refusal.{errno_number}

-- an attachment's number, or a dash where there is none
abbrev pub attachment_text : Option ℕ → List ℕ
attachment_text None = codes "-"
attachment_text (Some a) = decimal a

abbrev pub people_text : Stat → List ℕ
people_text s =
    codes "uid " ++ (decimal s.uid ++ (codes " gid " ++ (decimal s.gid ++ (codes " cuid " ++ (decimal s.cuid ++ (codes " cgid " ++ decimal s.cgid))))))

abbrev pub marked_text : Bool → List ℕ
marked_text true = codes "marked"
marked_text false = codes "live"

abbrev pub use_text : Stat → List ℕ
use_text s = codes "size " ++ (decimal s.size ++ (codes " nattch " ++ (decimal s.nattch ++ (codes " " ++ marked_text s.marked))))

abbrev pub stat_text : Stat → List ℕ
stat_text s =
    codes "stat key " ++ (decimal s.key ++ (codes " " ++ (people_text s ++ (codes " mode " ++ (mode_word s.mode ++ (codes " " ++ use_text s))))))

-- a reply, and the attachment that it made
abbrev pub reply_text : Reply → Option ℕ → List ℕ
reply_text (Id id) attachment = codes "id " ++ decimal id
reply_text (Attached _) attachment = codes "attached " ++ attachment_text attachment
reply_text OkReply attachment = codes "ok"
reply_text (StatReply stat) attachment = stat_text stat
reply_text (RefusedReply error) attachment = codes "error " ++ decimal (errno_number error)

abbrev pub answer_text : Answer → List ℕ
answer_text (Byte byte) = codes "byte " ++ decimal byte
answer_text Stored = codes "stored"
answer_text Fault = codes "fault"
answer_text Waiting = codes "waiting"
answer_text (Began number) = codes "began " ++ decimal number
answer_text (Replied number reply attachment) = codes "replied " ++ (decimal number ++ (codes " " ++ reply_text reply attachment))
answer_text Took = codes "took"
answer_text Dropped = codes "dropped"
answer_text (Refused number) = codes "refused " ++ decimal number

-- a line of output: its number, a blank, what is said, and a line feed
abbrev pub line_text : ℕ → List ℕ → List ℕ
line_text number said = decimal number ++ (codes " " ++ (said ++ codes "\n"))
