-- Each site runs on its own inputs: where a site stands, what it answers and what it sends follow from the inputs that it was stepped
-- with, in their order. All of it is read off the account, which has the newest record first.
use Rattle.std.specs.Prelude.{◌≡◌, ℕ, ◌<◌, List, [], ◌∷◌, ◌++◌, Option, Some, None, ◌==◌, if◌then◌else◌, Contains, slice_get}
use Rattle.shm_model.specs.declared.answer.Answer.{Answer}
use Rattle.shm_model.specs.Message.{Envelope, Input, Deliver}
use Rattle.shm_model.specs.Site.{Site}
use Rattle.shm_model.specs.Step.{step}
use Rattle.shm_model.specs.World.{Done, Opening, Run, opened_site, sites_of}

abbrev pub site_moved : ℕ → ℕ → Option Input → Site → Site
site_moved sites s None site = site
site_moved sites s (Some input) site = (step sites s site input).site

-- where its own inputs leave a site
abbrev pub site_after : Opening → ℕ → List Done → Site
site_after o s [] = opened_site o s
site_after o s (d ∷ ds) = if d.site == s then site_moved (sites_of o) s d.input (site_after o s ds) else site_after o s ds

abbrev pub sent_for : Opening → ℕ → Option Input → List Done → List Envelope
sent_for o s None earlier = []
sent_for o s (Some input) earlier = (step (sites_of o) s (site_after o s earlier) input).sent

-- all envelopes that the steps sent, in their order
abbrev pub sent_after : Opening → List Done → List Envelope
sent_after o [] = []
sent_after o (d ∷ ds) = sent_after o ds ++ sent_for o d.site d.input ds

-- an envelope that is handed over was sent to this site before
abbrev pub IsSent : List Envelope → ℕ → Input → Type 0
IsSent sent s (Deliver e) = Contains sent e × (e.to ≡ s)
IsSent sent s _ = Unit {0}

-- what a site answered to an input, after these earlier records
pub record IsStep (o : Opening) (s : ℕ) (input : Input) (answer : Answer) (earlier : List Done) : Type 0 where
  pub site : s < sites_of o
  pub answered : answer ≡ (step (sites_of o) s (site_after o s earlier) input).answer
  pub delivered : IsSent (sent_after o earlier) s input

abbrev pub IsRecord : Opening → ℕ → Option Input → Answer → List Done → Type 0
IsRecord o s None answer earlier = Unit {0}
IsRecord o s (Some input) answer earlier = IsStep o s input answer earlier

abbrev pub AreSteps : Opening → List Done → Type 0
AreSteps o [] = Unit {0}
AreSteps o (d ∷ ds) = IsRecord o d.site d.input d.answer ds × AreSteps o ds

-- every record with an input is a step of its site; the sites stand where the steps leave them, and what was sent is what the steps sent
pub record OwnInputs (o : Opening) (r : Run) : Type 0 where
  pub steps : AreSteps o r.account
  pub sites : (s : ℕ) → s < sites_of o → slice_get r.world.sites s ≡ Some (site_after o s r.account)
  pub sent : r.world.sent ≡ sent_after o r.account
