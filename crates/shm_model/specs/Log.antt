-- What running sites log. A step's stamp is above that of the step which sent what it is handed (Lamport 1978: logical clocks), so the
-- logs of all sites tell in which order the steps can have been made.
use Rattle.std.specs.Prelude.{◌≡◌, ℕ, ◌<◌, ◌≤◌, Bool, true, not, List, [], ◌∷◌, Some, IsTrue, length, map, slice_get, slice_index_or}
use Rattle.std.specs.List.{All, sum_by}
use Rattle.shm_model.specs.declared.answer.Answer.{Answer}
use Rattle.shm_model.specs.Message.{Envelope, Input, Deliver}
use Rattle.shm_model.specs.Site.{Site}
use Rattle.shm_model.specs.Step.{foreign, step}
use Rattle.shm_model.specs.World.{Opening, opened_site, sites_of}
use Rattle.shm_model.specs.Basics.{max_sent}

-- where an envelope was sent: the stamp of the sender's step, the step's index in the sender's log, and the envelope's place among
-- those that the step sent; for other inputs all three are 0
pub record Stamp : Type 0 where
  pub at : ℕ
  pub index : ℕ
  pub place : ℕ

-- one step in a site's log, which has the oldest first
pub record Logged : Type 0 where
  pub input : Input
  pub stamp : ℕ
  pub source : Stamp
  pub answer : Answer
  pub sent : List Envelope

abbrev pub inputs_of : List Logged → List Input
inputs_of log = map (λ l. l.input) log

-- what a step answers and sends
pub record StepOutcome : Type 0 where
  pub answer : Answer
  pub sent : List Envelope

abbrev pub outcome_of : Logged → StepOutcome
outcome_of l = record { answer = l.answer; sent = l.sent }

-- the outcomes of these inputs at a site in this state
abbrev pub outcomes : ℕ → ℕ → Site → List Input → List StepOutcome
outcomes sites s site [] = []
outcomes sites s site (input ∷ inputs) =
    let done = step sites s site input in
    record { answer = done.answer; sent = done.sent } ∷ outcomes sites s done.site inputs

-- the state that they leave it in
abbrev pub moved_by : ℕ → ℕ → Site → List Input → Site
moved_by sites s site [] = site
moved_by sites s site (input ∷ inputs) = moved_by sites s (step sites s site input).site inputs

-- what a site logs: it refuses an envelope that is foreign, and logs nothing then
abbrev pub is_logged : ℕ → ℕ → Input → Bool
is_logged sites s (Deliver e) = not (foreign sites s e)
is_logged sites s _ = true

-- the log is that of a site which began in this state
pub record Fits (sites s : ℕ) (site : Site) (log : List Logged) : Type 0 where
  pub tell : map outcome_of log ≡ outcomes sites s site (inputs_of log)
  pub inputs : All (λ l. IsTrue (is_logged sites s l.input)) log

-- a site's log, where there is one log for each site, in the sites' order
abbrev pub log_of : List (List Logged) → ℕ → List Logged
log_of logs s = slice_index_or logs s []

abbrev pub sent_by : List Logged → ℕ
sent_by log = sum_by (λ l. length l.sent) log

-- one log for each site, each of them its site's, and no more envelopes than the network has numbers for
pub record LogsFit (o : Opening) (logs : List (List Logged)) : Type 0 where
  pub count : length logs ≡ sites_of o
  pub fit : (s : ℕ) → s < sites_of o → Fits (sites_of o) s (opened_site o s) (log_of logs s)
  pub numbers : sum_by sent_by logs ≤ max_sent

-- an envelope stands in its sender's log where the delivery says, in a step of a lower stamp
pub record IsSentBefore (logs : List (List Logged)) (l : Logged) (e : Envelope) : Type 0 where
  pub sender : Logged
  pub named : slice_get (log_of logs e.from) l.source.index ≡ Some sender
  pub placed : slice_get sender.sent l.source.place ≡ Some e
  pub later : sender.stamp < l.stamp

abbrev pub Matches : List (List Logged) → Logged → Input → Type 0
Matches logs l (Deliver e) = IsSentBefore logs l e
Matches logs l _ = Unit {0}

-- every delivery matches
abbrev pub LogsMatch : List (List Logged) → Type 0
LogsMatch logs = (s : ℕ) → All (λ l. Matches logs l l.input) (log_of logs s)
