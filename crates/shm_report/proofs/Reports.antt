-- What was written is a report, or a front of one.
use Rattle.std.proofs.Common.{◌≡◌, ◌∙◌, ℕ, Bool, true, false, List, [], ◌++◌, Option, None, Some, Result, Ok, Err, IfErr, IfSome, OnOk, OnErr, append_assoc, append-nil, ap, drop, length, refl, subst, sym, take}
use Rattle.std.specs.Prelude.{Vec}
use Rattle.std.specs.Io.KnownBytes.{Appends, Keeps}
use Rattle.std.proofs.KnownBytes.{Appends-kept, Appends-trans}
use Rattle.std.proofs.lemmas.List.{length-map, take-append-drop}
use Rattle.shm_report.specs.Audited.{counts_of_run, IsAccepted, IsReportOfRun, TellsRun}
use Rattle.shm_report.specs.Callers.{AllServed}
use Rattle.shm_report.specs.Causes.{IsRight}
use Rattle.shm_report.specs.Counts.{summary_text}
use Rattle.shm_report.specs.Report.{audit_yes, whole_of, IsCutShort, IsReport, IsReportOf, IsSummedReport, IsToldReport, TellsLines}
use Rattle.shm_report.specs.declared.audited_run.Audited.{Audited}
use Rattle.shm_logs.specs.Auditing.Logs.{logs_of}
use Rattle.shm_logs.specs.Boxes.SiteLog.{steps_of}
use Rattle.shm_logs.specs.declared.site_boxes.receipt.Receipt.{Receipt}
use Rattle.shm_lines.specs.Workload.{workload_of}
use Rattle.shm_lines.specs.declared.workload_access.WorkloadAccess.{WorkloadAccess}

pub on_ok : {X E P Q : Type 0} (r : Result X E) → (P → Q) → OnOk r P → OnOk r Q
on_ok (Ok x) f p = f p
on_ok (Err e) f p = tt

pub on_err : {X E P Q : Type 0} (r : Result X E) → (P → Q) → OnErr r P → OnErr r Q
on_err (Ok x) f p = tt
on_err (Err e) f p = f p

pub if_err : {X E : Type 0} {P Q : E → Type 0} (r : Result X E) → ((e : E) → P e → Q e) → IfErr r P → IfErr r Q
if_err (Ok x) f p = tt
if_err (Err e) f p = f e p

pub if_on_err : {X E P : Type 0} {Q : E → Type 0} (r : Result X E) → ((e : E) → P → Q e) → OnErr r P → IfErr r Q
if_on_err (Ok x) f p = tt
if_on_err (Err e) f p = f e p

-- of two texts, the first was cut short
pub first_cut : (old new : Option (List ℕ)) (first second : List ℕ) (n : ℕ) → Appends old new (take n first) → IsCutShort old new (first ++ second)
first_cut old new first second n h = record {
  front = take n first;
  rest = drop n first ++ second;
  parts = ap (λ l. l ++ second) (sym (take-append-drop n first)) ∙ append_assoc (take n first) (drop n first) second;
  written = h;
}

-- or the second
pub second_cut : (old mid new : Option (List ℕ)) (first second : List ℕ) (n : ℕ) → Appends old mid first → Appends mid new (take n second) → IsCutShort old new (first ++ second)
second_cut old mid new first second n h k = record {
  front = first ++ take n second;
  rest = drop n second;
  parts = ap (λ l. first ++ l) (sym (take-append-drop n second)) ∙ sym (append_assoc first (take n second) (drop n second));
  written = Appends-trans old mid new first (take n second) h k;
}

-- or neither, and then something else failed
pub uncut : (old mid last new : Option (List ℕ)) (first second : List ℕ) → Appends old mid first → Appends mid last second → Keeps last new → IsCutShort old new (first ++ second)
uncut old mid last new first second h k keeps = record {
  front = first ++ second;
  rest = [];
  parts = sym (append-nil (first ++ second));
  written = Appends-kept old last new (first ++ second) (Appends-trans old mid last first second h k) keeps;
}

-- what is cut short is also cut short where more was to come
pub cut_before : (old new : Option (List ℕ)) (text more : List ℕ) → IsCutShort old new text → IsCutShort old new (text ++ more)
cut_before old new text more cut = record {
  front = cut.front;
  rest = cut.rest ++ more;
  parts = ap (λ l. l ++ more) cut.parts ∙ append_assoc cut.front cut.rest more;
  written = cut.written;
}

-- the lines tell each access its receipt, where all were served
abbrev pub TellsIfServed : {A : Type 0} → List WorkloadAccess → List (Vec Receipt A) → List ℕ → Type 0
TellsIfServed accesses callers text = AllServed (length callers) accesses callers → TellsLines accesses callers text

-- so they are the report of an accepted run
pub is_report_of : (run : Audited) (text : List ℕ) → TellsIfServed run.workload.accesses.items run.ran.callers.items text
    → IsReportOfRun run (text ++ audit_yes)
is_report_of run text lines run_is =
    let tells = lines (subst (λ n. AllServed n run.workload.accesses.items run.ran.callers.items) (sym run_is.served.count) run_is.served) in
    record {
      a_log_each = length-map run.ran.logs.items steps_of ∙ run_is.logs.count;
      audited = run_is.accepted;
      complete = run_is.complete;
      served = run_is.served;
      receipts = tells.0;
      answered = tells.1;
      told = ap (λ text. text ++ audit_yes) tells.2;
    }

-- a run over so many sites, of the workload that these bytes have
pub record IsRunOf (sites : ℕ) (known : Option (List ℕ)) (run : Audited) : Type 0 where
  pub accepted : IsAccepted run
  pub among : run.sites ≡ sites
  pub read : IfSome known (λ bytes. workload_of sites bytes ≡ Ok (whole_of run.workload))

over : (sites : ℕ) (known : Option (List ℕ)) (run : Audited) (lines : List ℕ) → IsRunOf sites known run → IsReportOfRun run lines
    → IsReportOf sites (whole_of run.workload) (logs_of run.ran.logs.items) run.ran.callers.items run.events.items lines
over sites known run lines of reported =
    subst (λ n. IsReportOf n (whole_of run.workload) (logs_of run.ran.logs.items) run.ran.callers.items run.events.items lines) of.among (reported of.accepted)

-- what is told of it is a report
pub unsummed : (sites : ℕ) (known : Option (List ℕ)) (run : Audited) (lines : List ℕ) → IsRunOf sites known run → IsReportOfRun run lines → IsReport sites known lines
unsummed sites known run lines of reported = record {
  workload = whole_of run.workload;
  read = of.read;
  logs = logs_of run.ran.logs.items;
  callers = run.ran.callers.items;
  events = run.events.items;
  reported = over sites known run lines of reported;
}

-- and with what is counted in it, a report with a summary
pub summed : (sites : ℕ) (known : Option (List ℕ)) (run : Audited) (lines : List ℕ) (took : Option ℕ) → IsRunOf sites known run → IsReportOfRun run lines
    → IsSummedReport sites known (lines ++ summary_text (counts_of_run run) took)
summed sites known run lines took of reported = record {
  workload = whole_of run.workload;
  read = of.read;
  logs = logs_of run.ran.logs.items;
  callers = run.ran.callers.items;
  events = run.events.items;
  lines = lines;
  reported = over sites known run lines of reported;
  took = took;
  told = refl;
}

-- what is told of it is told of the workload that these bytes have
pub told_of_run : (summary : Bool) (sites : ℕ) (known : Option (List ℕ)) (run : Audited) (text : List ℕ) → IsRunOf sites known run → TellsRun summary run text
    → IsToldReport summary sites known text
told_of_run true sites known run text of (lines, took, reported, told) =
    subst (IsSummedReport sites known) (sym told) (summed sites known run lines took of reported)
told_of_run false sites known run text of reported = unsummed sites known run text of reported

-- what is neither the workload's fault nor an audit's
pub of_none : {A : Type 0} (o : Option A) (P : A → Type 0) → o ≡ None → IfSome o P
of_none None P none = tt
of_none (Some x) P none = absurd (cc)

-- and that workload is right
pub right_of_run : (sites : ℕ) (known : Option (List ℕ)) (run : Audited) → IsRunOf sites known run → IsRight sites known
right_of_run sites None run of = tt
right_of_run sites (Some bytes) run of = (whole_of run.workload, of.read)
