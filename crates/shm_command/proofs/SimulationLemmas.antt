-- What is told of a simulation, and what its faults say.
use Rattle.std.proofs.Common.{◌≡◌, ◌≢◌, ◌<◌, ◌⊎◌, ℕ, List, [], Option, None, Some, Ok, Err, Result, IfErr, IfSome, OnOk, append-nil, ap, drop, false, inl, inr, lit<, refl, sym, take}
use Rattle.std.specs.Io.KnownBytes.{Appends, Keeps}
use Rattle.std.proofs.KnownBytes.{Appends-kept}
use Rattle.std.proofs.lemmas.List.{take-append-drop}
use Rattle.shm_lines.specs.Workload.{Whole, workload_of}
use Rattle.shm_report.proofs.Reports.{if_err, of_none, on_ok}
use Rattle.shm_report.specs.Causes.{input_cause, is_after_reading, IsRight, IsWrongBy}
use Rattle.shm_report.specs.Report.{IsCutShort}
use Rattle.shm_report.specs.declared.report_error.ReportFault.{ReportFault}
use Rattle.shm_report.specs.declared.report_error.ReportFault.TheVariants as report
use Rattle.shm_simulate.specs.Tally.{IsTally}
use Rattle.shm_simulate.specs.declared.simulate_runs.Tally.{Tally}
use Rattle.shm_command.specs.Simulated.{text_of, CutsRuns, IsUnwritten, Simulated, TellsRuns}
use Rattle.shm_command.specs.Status.{run_status}
use Rattle.shm_command.specs.declared.args.simulation_words.Simulation.{Simulation}

-- ---- a text that wasn't written whole

pub cut_at : (old new : Option (List ℕ)) (text : List ℕ) (n : ℕ) → Appends old new (take n text) → IsCutShort old new text
cut_at old new text n h = record { front = take n text; rest = drop n text; parts = sym (take-append-drop n text); written = h }

-- it was, and then something else failed
pub cut_behind : (old mid new : Option (List ℕ)) (text : List ℕ) → Appends old mid text → Keeps mid new → IsCutShort old new text
cut_behind old mid new text h keeps =
    record { front = text; rest = []; parts = sym (append-nil text); written = Appends-kept old mid new text h keeps }

-- ---- what was written

-- the tally of what was read
pub record IsTallyOf (asked : Simulation) (bytes : Option (List ℕ)) (tally : Tally) : Type 0 where
  pub workload : Whole
  pub read : IfSome bytes (λ bytes. workload_of asked.sites bytes ≡ Ok workload)
  pub is : IsTally asked.sites workload.size workload.accesses asked.odds asked.seed asked.runs tally

tells : (asked : Simulation) (bytes : Option (List ℕ)) (tally : Tally) → IsTallyOf asked bytes tally → TellsRuns asked bytes (text_of tally)
tells asked bytes tally of =
    record { workload = of.workload; read = of.read; runs = record { tally = tally; is = of.is; told = refl } }

pub simulated : {X E : Type 0} (r : Result X E) (asked : Simulation) (bytes old new : Option (List ℕ)) (tally : Tally) → IsTallyOf asked bytes tally
    → OnOk r (Appends old new (text_of tally)) → OnOk r (Simulated asked bytes old new)
simulated r asked bytes old new tally of told = on_ok r (λ written. (text_of tally, written, tells asked bytes tally of)) told

pub cuts : {A : Type 0} (r : Result A ReportFault) (asked : Simulation) (bytes old new : Option (List ℕ)) (tally : Tally) (Same : Type 0) → IsTallyOf asked bytes tally
    → IfErr r (λ fault. fault ≡ report.WriteFault → Same ⊎ IsCutShort old new (text_of tally))
    → IfErr r (λ fault. fault ≡ report.WriteFault → Same ⊎ CutsRuns asked bytes old new)
cuts r asked bytes old new tally Same of cut =
    if_err r
    (λ fault way is.
    elim (way is) [
      | inl same ↦ inl same
      | inr short ↦ inr (text_of tally, short, tells asked bytes tally of)
    ])
    cut

-- ---- what the faults say

unwritten_kind : (fault : ReportFault) → IsUnwritten fault → (is_after_reading fault ≡ false) ⊎ (fault ≡ report.WriteFault)
unwritten_kind fault (inl memory) = inl (ap is_after_reading memory)
unwritten_kind fault (inr write) = inr write

pub kinds : {A : Type 0} (r : Result A ReportFault) → IfErr r IsUnwritten → IfErr r (λ fault. (is_after_reading fault ≡ false) ⊎ (fault ≡ report.WriteFault))
kinds r h = if_err r unwritten_kind h

no_cause : (fault : ReportFault) → IsUnwritten fault → input_cause fault ≡ None
no_cause fault (inl memory) = ap input_cause memory
no_cause fault (inr write) = ap input_cause write

pub inputs : {A : Type 0} (r : Result A ReportFault) (sites : ℕ) (bytes : Option (List ℕ)) → IfErr r IsUnwritten
    → IfErr r (λ fault. IfSome (input_cause fault) (IsWrongBy sites bytes))
inputs r sites bytes h = if_err r (λ fault is. of_none (input_cause fault) (IsWrongBy sites bytes) (no_cause fault is)) h

is_right : (sites : ℕ) (bytes : Option (List ℕ)) (workload : Whole) → IfSome bytes (λ bytes. workload_of sites bytes ≡ Ok workload) → IsRight sites bytes
is_right sites None workload read = tt
is_right sites (Some bytes) workload read = (workload, read)

pub rights : {A : Type 0} (r : Result A ReportFault) (sites : ℕ) (bytes : Option (List ℕ)) (workload : Whole)
    → IfSome bytes (λ bytes. workload_of sites bytes ≡ Ok workload) → IfErr r (λ fault. fault ≡ report.WriteFault → IsRight sites bytes)
rights (Ok x) sites bytes workload read = tt
rights (Err fault) sites bytes workload read = λ is. is_right sites bytes workload read

-- no audit judges a simulation
pub status_below : (fault : ReportFault) → (is_after_reading fault ≡ false) ⊎ (fault ≡ report.WriteFault) → run_status fault < 4
status_below (report.BadLine number) kind = lit< tt
status_below (report.LineTooLong number) kind = lit< tt
status_below report.TooManyLines kind = lit< tt
status_below report.OutOfMemory kind = lit< tt
status_below report.ReadFault kind = lit< tt
status_below report.WriteFault kind = lit< tt
status_below report.NoThread kind = lit< tt
status_below (report.GaveUp number) (inl before) = absurd (cc)
status_below (report.GaveUp number) (inr write) = absurd (cc)
status_below report.ClockEnd kind = lit< tt
status_below report.Logs (inl before) = absurd (cc)
status_below report.Logs (inr write) = absurd (cc)
status_below (report.Audit cause) (inl before) = absurd (cc)
status_below (report.Audit cause) (inr write) = absurd (cc)

pub fails_by : (fault : ReportFault) → run_status fault ≢ 0
fails_by (report.BadLine number) h = absurd (cc)
fails_by (report.LineTooLong number) h = absurd (cc)
fails_by report.TooManyLines h = absurd (cc)
fails_by report.OutOfMemory h = absurd (cc)
fails_by report.ReadFault h = absurd (cc)
fails_by report.WriteFault h = absurd (cc)
fails_by report.NoThread h = absurd (cc)
fails_by (report.GaveUp number) h = absurd (cc)
fails_by report.ClockEnd h = absurd (cc)
fails_by report.Logs h = absurd (cc)
fails_by (report.Audit cause) h = absurd (cc)
