-- What was begun is served: this repository's own.
use Rattle.std.specs.Prelude.{◌≡◌, ℕ, ◌⊎◌, Some, slice_get}
use Rattle.shm_model.specs.declared.call.Reply.{Reply}
use Rattle.shm_model.specs.Calls.{Outstanding, op_home}
use Rattle.shm_model.specs.SegmentCalls.{call_envelope, reply_envelope}
use Rattle.shm_model.specs.Site.{Site}
use Rattle.shm_model.specs.World.{World}
use Rattle.shm_progress.specs.OnTheWay.{IsOnItsWay}

-- the site's call is on its way to its home, or a reply to it is on its way back
abbrev pub IsBeingServed : World → ℕ → Outstanding → Type 0
IsBeingServed w site c =
    IsOnItsWay w (call_envelope w.count site c.number c.op) ⊎ ((reply : Reply) × IsOnItsWay w (reply_envelope (op_home w.count site c.op) site c.number reply))

-- the site's outstanding call, if it has one, is being served
abbrev pub CallGoesOn : World → ℕ → Type 0
CallGoesOn w site = (x : Site) (c : Outstanding) → slice_get w.sites site ≡ Some x → x.outstanding ≡ Some c → IsBeingServed w site c
