-- An envelope that a site sent, and where.
use Rattle.std.specs.Prelude.{◌≡◌, ℕ, List, Some, slice_get}
use Rattle.shm_model.specs.Log.{Fits, Logged, Stamp}
use Rattle.shm_model.specs.Message.{Envelope}
use Rattle.shm_model.specs.World.{Preset, opened_site}

pub record Sent : Type 0 where
  pub envelope : Envelope
  pub source : Stamp

-- A site that took some inputs sent this envelope, by the step of its log and at the place that the source names.
pub record WasSent (sent : Sent) : Type 0 where
  pub sites : ℕ
  pub me : ℕ
  pub pages : ℕ
  pub log : List Logged
  pub fits : Fits sites me (opened_site (Preset sites pages) me) log
  pub step : Logged
  pub made : slice_get log sent.source.index ≡ Some step
  pub at : step.stamp ≡ sent.source.at
  pub there : slice_get step.sent sent.source.place ≡ Some sent.envelope

-- so it did, in one way or another
abbrev pub IsSent : Sent → Type 0
IsSent sent = ∥ WasSent sent ∥₁
