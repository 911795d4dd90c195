-- Answers and replies, as numbers.
use Rattle.std.specs.Prelude.{ℕ, false, true, Option, None, Some}
use Rattle.shm_model.specs.declared.answer.Answer.{Answer}
use Rattle.shm_model.specs.declared.answer.Answer.TheVariants.{Byte, Stored, Fault, Waiting, Began, Replied, Took, Dropped, Refused}
use Rattle.shm_model.specs.declared.call.Reply.{Reply}
use Rattle.shm_model.specs.declared.call.Reply.TheVariants as reply
use Rattle.shm_model.specs.Refusal.{errno_number}
use Rattle.shm_c.specs.declared.numbers.AnswerNumbers.{AnswerNumbers}
use Rattle.shm_c.specs.declared.numbers.ReplyNumbers.{ReplyNumbers}
use Rattle.shm_c.specs.declared.numbers.Outcome.{Outcome}
use Rattle.shm_c.specs.declared.numbers.Outcome.TheVariants.{Made, NoMemory, NoWorld}

abbrev pub kind_alone : ℕ → AnswerNumbers
kind_alone kind = record { kind = kind; value = 0; number = 0 }

-- an answer's kind, what it says, and its segment call's number
abbrev pub answer_numbers : Answer → AnswerNumbers
answer_numbers (Byte byte) = record { kind = 1; value = byte; number = 0 }
answer_numbers Stored = kind_alone 2
answer_numbers Fault = kind_alone 3
answer_numbers Waiting = kind_alone 4
answer_numbers (Began number) = record { kind = 5; value = 0; number = number }
answer_numbers (Replied number _ _) = record { kind = 6; value = 0; number = number }
answer_numbers Took = kind_alone 7
answer_numbers Dropped = kind_alone 8
answer_numbers (Refused refusal) = record { kind = 9; value = refusal; number = 0 }

abbrev pub outcome_numbers : Outcome → AnswerNumbers
outcome_numbers (Made answer) = answer_numbers answer
outcome_numbers NoMemory = kind_alone 10
outcome_numbers NoWorld = kind_alone 11

abbrev pub no_reply : ReplyNumbers
no_reply = record {
  kind = 0;
  id = 0;
  size = 0;
  read_only = false;
  has_attachment = false;
  attachment = 0;
  errno = 0;
  key = 0;
  uid = 0;
  gid = 0;
  cuid = 0;
  cgid = 0;
  mode = 0;
  marked = false;
  attaches = 0;
}

abbrev pub reply_numbers : Reply → ReplyNumbers
reply_numbers (reply.Id id) = record no_reply { kind = 1; id = id }
reply_numbers (reply.Attached attached) = record no_reply { kind = 2; size = attached.size; read_only = attached.ro }
reply_numbers reply.Ok = record no_reply { kind = 3 }
reply_numbers (reply.Stat stat) = record no_reply {
  kind = 4;
  size = stat.size;
  key = stat.key;
  uid = stat.uid;
  gid = stat.gid;
  cuid = stat.cuid;
  cgid = stat.cgid;
  mode = stat.mode;
  marked = stat.marked;
  attaches = stat.nattch;
}
reply_numbers (reply.Refused errno) = record no_reply { kind = 5; errno = errno_number errno }

abbrev pub with_attachment : Option ℕ → ReplyNumbers → ReplyNumbers
with_attachment None numbers = numbers
with_attachment (Some attachment) numbers = record numbers { has_attachment = true; attachment = attachment }

abbrev pub answer_reply : Answer → ReplyNumbers
answer_reply (Replied _ reply attachment) = with_attachment attachment (reply_numbers reply)
answer_reply _ = no_reply

abbrev pub outcome_reply : Outcome → ReplyNumbers
outcome_reply (Made answer) = answer_reply answer
outcome_reply _ = no_reply
