-- The last number and reply of each of 16 sites, in the order of the sites, and what they say of a call that comes in.
use Rattle.std.specs.Prelude.{ℕ, List, Option, Some, None, nat_lt, slice_index_or, if◌then◌else◌, ◌==◌}
use Rattle.shm_number.specs.declared.kept_reply.Recall.{Recall}
use Rattle.shm_number.specs.declared.kept_reply.Recall.TheVariants as recall

-- what a number says of a call: that it is to be executed; that it is the last one again, which had this reply; that it is older
pub data Verdict (R : Type 0) : Type 0 where
  Fresh : Verdict R
  Again : R → Verdict R
  Old : Verdict R

module _ {R : Type 0} where
  -- the number and the reply kept for one site, if any
  abbrev pub kept_at : List (Option (ℕ × R)) → ℕ → Option (ℕ × R)
  kept_at kept site = slice_index_or kept site None

  -- the last number of a site; with nothing kept it counts as 0
  abbrev pub number_of : Option (ℕ × R) → ℕ
  number_of None = 0
  number_of (Some last) = last.0

  -- after a reply was kept for one site
  abbrev pub kept_then : (ℕ → Option (ℕ × R)) → ℕ → ℕ → R → ℕ → Option (ℕ × R)
  kept_then kept site number reply j = if site == j then Some (number, reply) else kept j

  -- what a number says of a call: one above the last is new, the last one itself is that very call again; 0 is never a call's number
  abbrev pub verdict : Option (ℕ × R) → ℕ → Verdict R
  verdict None number = if number == 0 then Old else Fresh
  verdict (Some last) number =
      if nat_lt number last.0 then Old
      else if number == last.0 then Again last.1
      else Fresh

  -- what a recall says, by the reply that it points to
  abbrev pub recalled : Recall R → Verdict R
  recalled recall.Fresh = Fresh
  recalled (recall.Again reply) = Again reply.now
  recalled recall.Old = Old
