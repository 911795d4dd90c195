-- Segment calls, by numbers.
use Rattle.std.specs.Prelude.{ℕ, ◌==◌, if◌then◌else◌, nat_lt, Option, None, Some}
use Rattle.shm_model.specs.declared.call.Cred.{Cred}
use Rattle.shm_model.specs.declared.call.Op.{Op}
use Rattle.shm_model.specs.declared.call.Op.TheVariants.{Get, Attach, Remove, Set, Stat}
use Rattle.shm_model.specs.declared.call.Request.{Request}
use Rattle.shm_model.specs.declared.call.Request.TheVariants as request
use Rattle.shm_c.specs.declared.numbers.CallNumbers.{CallNumbers}

abbrev pub caller : CallNumbers → Cred
caller call = record { uid = call.uid; gid = call.gid }

-- a mode has nine bits
abbrev pub with_mode : ℕ → Op → Option Request
with_mode mode op = if nat_lt mode 512 then Some (request.Op op) else None

-- the request of these numbers, if they are one
abbrev pub call_request : CallNumbers → Option Request
call_request call =
    if call.kind == 1 then with_mode call.mode (Get (caller call) call.key call.size call.mode (record { 0 = call.flags }))
    else if call.kind == 2 then Some (request.Op (Attach (caller call) call.id call.read_only))
    else if call.kind == 3 then Some (request.DetachAt call.attachment)
    else if call.kind == 4 then Some (request.Op (Remove (caller call) call.id))
    else if call.kind == 5 then with_mode call.mode (Set (caller call) call.id call.new_uid call.new_gid call.mode)
    else if call.kind == 6 then Some (request.Op (Stat (caller call) call.id))
    else None
