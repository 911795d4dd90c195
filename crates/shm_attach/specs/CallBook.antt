-- What shm_model sees of a site's calls: how many the site has begun, and the one that is outstanding.
use Rattle.std.specs.Prelude.{ℕ, Option, Some, None, Result, Ok, Err, ◌+◌, ◌==◌, ◌&&◌, if◌then◌else◌, is_some}
use Rattle.shm_model.specs.declared.call.Op.{Op}
use Rattle.shm_model.specs.declared.call.Reply.{Reply}
use Rattle.shm_model.specs.Basics.{greatest}
use Rattle.shm_model.specs.Calls.{Outstanding, fits}
use Rattle.shm_model.specs.Site.{Site, Step, dropped}
use Rattle.shm_model.specs.SegmentCalls.{reply_counts}
use Rattle.shm_attach.specs.declared.begin_call_error.BeginFault.{BeginFault}
use Rattle.shm_attach.specs.declared.begin_call_error.BeginFault.TheVariants.{Busy, UsedUp}

pub record Calls : Type 0 where
  pub begun : ℕ
  pub outstanding : Option Outstanding

abbrev pub outstanding_of : Option (ℕ × Op) → Option Outstanding
outstanding_of None = None
outstanding_of (Some call) = Some (record { number = call.0; op = call.1 })

-- the number that follows so many calls, if one is left
abbrev pub number_after : ℕ → Result ℕ BeginFault
number_after begun = if begun == greatest then Err UsedUp else Ok (begun + 1)

-- the number of a call that begins now, or why none does
abbrev pub begun_number : Calls → Result ℕ BeginFault
begun_number calls = if is_some calls.outstanding then Err Busy else number_after calls.begun

-- the calls once one was begun under this number
abbrev pub begun_as : ℕ → Op → Calls
begun_as number op = record { begun = number; outstanding = Some (record { number = number; op = op }) }

-- the call that this reply ends, if it counts for the one that is outstanding
abbrev pub call_ended_by : ℕ → Reply → Option Outstanding → Option Op
call_ended_by number reply None = None
call_ended_by number reply (Some call) = if (number == call.number) && fits call.op reply then Some call.op else None

-- the site, with these as its calls
abbrev pub with_calls : Calls → Site → Site
with_calls calls site = record site { calls = calls.begun; outstanding = calls.outstanding }

-- the step of a reply, once it is known which call it ends
abbrev pub ended : Option Op → ℕ → Reply → Site → Step
ended None number reply site = dropped site
ended (Some op) number reply site = reply_counts number op reply site
