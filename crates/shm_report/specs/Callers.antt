-- What the caller of a site does of a workload, and what it is told.
use Rattle.std.specs.Prelude.{◌≡◌, ℕ, ◌<◌, ◌==◌, List, [], ◌∷◌, ◌++◌, Result, Vec, IfErr, IfOk, MatchBool, Some, length, slice_get, slice_index_or}
use Rattle.std.specs.List.{AllZip, filter}
use Rattle.shm_model.specs.Receipt.{access_of}
use Rattle.shm_logs.specs.declared.site_boxes.receipt.Receipt.{Receipt}
use Rattle.shm_sites.specs.Cluster.Client.{IsServed, TellsOf}
use Rattle.shm_report.specs.declared.call_and_run_error.CallFault.{CallFault}
use Rattle.shm_lines.specs.declared.workload_access.WorkloadAccess.{WorkloadAccess}

-- a site's lines, in their order
abbrev pub lines_of : ℕ → List WorkloadAccess → List WorkloadAccess
lines_of site accesses = filter (λ (access : WorkloadAccess). access.site == site) accesses

-- the step was this access, at its site, and the site had the right to it
abbrev pub Serves : WorkloadAccess → Receipt → Type 0
Serves access receipt = TellsOf access.site (access_of access.asked) receipt × IsServed receipt

-- a receipt for each of the site's lines, in their order
abbrev pub ServesAll : ℕ → List WorkloadAccess → List Receipt → Type 0
ServesAll site accesses receipts = AllZip Serves (lines_of site accesses) receipts

-- the receipt of this access is added where it is the site's
abbrev pub Adds : ℕ → WorkloadAccess → List Receipt → List Receipt → Type 0
Adds site access old new =
    MatchBool (access.site == site) ((receipt : Receipt) × (new ≡ old ++ receipt ∷ []) × Serves access receipt) (new ≡ old)

-- what the caller of a site was told: a receipt for each of the site's lines, unless a fault ended it at one of the accesses
pub record IsToldOf {A : Type 0} (site : ℕ) (accesses : List WorkloadAccess) (told : Result (Vec Receipt A) CallFault) : Type 0 where
  pub served : IfOk told (λ receipts. ServesAll site accesses receipts.items)
  pub place : IfErr told (λ fault. fault.place < length accesses)

-- what the callers of so many sites were told, each at its site's number: a receipt for each of the site's lines, unless a fault ended it
-- at one of the accesses
pub record ServedUnlessEnded {A : Type 0} (sites : ℕ) (accesses : List WorkloadAccess) (told : List (Result (Vec Receipt A) CallFault)) : Type 0 where
  pub count : length told ≡ sites
  pub each : (site : ℕ) (default : Result (Vec Receipt A) CallFault) → site < sites
      → IfOk (slice_index_or told site default) (λ receipts. ServesAll site accesses receipts.items)
  pub place : (site : ℕ) (default : Result (Vec Receipt A) CallFault) → site < sites
      → IfErr (slice_index_or told site default) (λ fault. fault.place < length accesses)

-- each of these accesses is of one of so many sites
abbrev pub AreOf : ℕ → List WorkloadAccess → Type 0
AreOf sites accesses = (place : ℕ) (access : WorkloadAccess) → slice_get accesses place ≡ Some access → access.site < sites

-- one list of receipts for each of so many sites, in the sites' order: those of the site's lines
pub record AllServed {A : Type 0} (sites : ℕ) (accesses : List WorkloadAccess) (callers : List (Vec Receipt A)) : Type 0 where
  pub count : length callers ≡ sites
  pub each : (site : ℕ) (default : Vec Receipt A) → site < sites → ServesAll site accesses (slice_index_or callers site default).items
