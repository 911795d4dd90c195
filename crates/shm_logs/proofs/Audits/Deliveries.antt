-- The number of what a delivery hands over isn't too large, where deliveries match.
use Rattle.std.proofs.Common.{◌≡◌, ℕ, ◌<◌, ◌≤◌, List, [], Some, length, get_or, slice_get, ap, arith}
use Rattle.std.specs.List.{sum_by}
use Rattle.std.proofs.lemmas.List.Sums.{get_or-le-sum_by}
use Rattle.std.proofs.lemmas.Option.{get_or_from_slice_get, slice_get_within}
use Rattle.shm_model.specs.Log.{Logged, Matches, log_of, sent_by}
use Rattle.shm_model.specs.Merge.{SiteStep}
use Rattle.shm_model.specs.Message.{Input, Load, Store, Begin, Deliver, Tick, Restart}
use Rattle.shm_model.specs.Basics.{max_sent}
use Rattle.shm_laws.proofs.Log.Run.{has-log}
use Rattle.shm_logs.specs.Auditing.Numbering.{sent_in, NumberFits, Numbers}
use Rattle.shm_logs.specs.declared.log_audit.envelope_numbering.Numbering.{Numbering}
use Rattle.shm_logs.proofs.Audits.Numbers.{sent_before-within}

step-sends : (logs : List (List Logged)) (s i : ℕ) (l : Logged) → slice_get (log_of logs s) i ≡ Some l → length l.sent ≤ sum_by sent_by logs
step-sends logs s i l there =
    let log = log_of logs s in
    let within : i < length log = slice_get_within log i l there in
    let step : length (get_or log i l).sent ≤ sent_by log = get_or-le-sum_by (λ (k : Logged). length k.sent) log i l within in
    let all : sent_by log ≤ sum_by sent_by logs = get_or-le-sum_by sent_by logs s [] (has-log logs s (omega arith)) in
    let same : length (get_or log i l).sent ≡ length l.sent = ap (λ (k : Logged). length k.sent) (get_or_from_slice_get log i l l there) in
    omega arith

pub number-fits : {A : Type 0} (logs : List (List Logged)) (order : List SiteStep) (table : Numbering A) → Numbers order table → sent_in order ≤ max_sent
    → sum_by sent_by logs ≤ max_sent → (l : Logged) (input : Input) → Matches logs l input → NumberFits table l.source input
number-fits logs order table numbers few all l (Load at offset) matches = tt
number-fits logs order table numbers few all l (Store at offset byte) matches = tt
number-fits logs order table numbers few all l (Begin request) matches = tt
number-fits logs order table numbers few all l (Deliver e) matches =
    let place = slice_get_within matches.sender.sent l.source.place e matches.placed in
    omega (
      arith,
      numbers e.from l.source.index,
      sent_before-within order e.from l.source.index,
      place,
      step-sends logs e.from l.source.index matches.sender matches.named,
    )
number-fits logs order table numbers few all l Tick matches = tt
number-fits logs order table numbers few all l Restart matches = tt
