use Rattle.std.proofs.Common.{ℕ, Option, ap}
use Rattle.shm_model.specs.declared.call.Reply.{Reply}
use Rattle.shm_model.specs.Calls.{Kept}
use Rattle.shm_attach.specs.Home.{kept_reply}
use Rattle.shm_attach.proofs.segment_home.Home.new.Goals as goal

pub returns-clause-kept : goal.returns-clause-kept
returns-clause-kept g c = ap {B = ℕ → Option Kept} (λ (kept : ℕ → Option (ℕ × Reply)) (site : ℕ). kept_reply (kept site)) c.new.ensures
