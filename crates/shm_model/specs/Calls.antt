-- Segment calls as numbered transactions: a site has one outstanding, its home executes each number once and keeps the last
-- reply, and a repeated call gets the kept reply again. The network may do what it likes with the rest.
use Rattle.std.specs.Prelude.{ℕ, Bool, true, false, Option, Some, None, ◌&&◌, ◌==◌, nat_lt, nat_le, if◌then◌else◌}
use Rattle.shm_place.specs.Home.{home_of_id, home_of_key}
use Rattle.shm_place.specs.Limits.{max_segment_bytes}
use Rattle.shm_model.specs.declared.call.Op.{Op}
use Rattle.shm_model.specs.declared.call.Op.TheVariants.{Get, Attach, Detach, Remove, Set, Stat}
use Rattle.shm_model.specs.declared.call.Reply.{Reply}
use Rattle.shm_model.specs.declared.call.Reply.TheVariants.{Id, Attached as AttachedReply, Ok as OkReply, Stat as StatReply, Refused}

-- the site that a call goes to
abbrev pub op_home : ℕ → ℕ → Op → ℕ
op_home sites caller (Get _ key _ _ _) = home_of_key sites caller key
op_home sites caller (Attach _ id _) = home_of_id sites id
op_home sites caller (Detach id) = home_of_id sites id
op_home sites caller (Remove _ id) = home_of_id sites id
op_home sites caller (Set _ id _ _ _) = home_of_id sites id
op_home sites caller (Stat _ id) = home_of_id sites id

-- a site's outstanding call
pub record Outstanding : Type 0 where
  pub number : ℕ
  pub op : Op

-- the reply that a home keeps for a site, under the call's number
pub record Kept : Type 0 where
  pub number : ℕ
  pub reply : Reply

-- a call's number against the one kept for its site: to be executed, to be answered again, or old; the number 0 is old
pub data Freshness : Type 0 where
  Fresh : Freshness
  Again : Reply → Freshness
  Old : Freshness

abbrev pub freshness : Option Kept → ℕ → Freshness
freshness None n = if n == 0 then Old else Fresh
freshness (Some k) n =
    if nat_lt n k.number then Old
    else if n == k.number then Again k.reply
    else Fresh

-- an attachment: the segment, its size as it was asked, and whether only to read (shmop(2))
pub record Attachment : Type 0 where
  pub id : ℕ
  pub size : ℕ
  pub ro : Bool

-- a size that a segment can have
abbrev pub is_size : ℕ → Bool
is_size size = nat_le 1 size && nat_le size max_segment_bytes

-- a reply of this form can be the reply to this call
abbrev pub fits : Op → Reply → Bool
fits _ (Refused _) = true
fits (Get _ _ _ _ _) (Id _) = true
fits (Attach _ _ _) (AttachedReply a) = is_size a.size
fits (Detach _) OkReply = true
fits (Remove _ _) OkReply = true
fits (Set _ _ _ _ _) OkReply = true
fits (Stat _ _) (StatReply _) = true
fits _ _ = false
