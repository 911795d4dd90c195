-- How much was done in a run that an audit accepted, and how that is told.
use Rattle.std.specs.Prelude.{ℕ, ◌-◌, ◌==◌, Bool, true, false, List, [], ◌++◌, codes, Option, None, Some, count_by, length}
use Rattle.std.specs.Fmt.{decimal}
use Rattle.std.specs.List.{list_any, range_with_len, sum_by}
use Rattle.shm_model.specs.Log.{Logged, sent_by}
use Rattle.shm_model.specs.declared.answer.Answer.{Answer}
use Rattle.shm_model.specs.declared.answer.Answer.TheVariants.{Fault}
use Rattle.shm_model.specs.declared.event.Event.{Event}
use Rattle.shm_model.specs.declared.event.Event.TheVariants.{Repeat}
use Rattle.shm_report.specs.declared.run_counts.Counts.{Counts}

-- a load or store that had to wait for its page is answered so when its site asks for it
abbrev pub is_fault : Answer → Bool
is_fault Fault = true
is_fault _ = false

abbrev pub faults_of : List Logged → ℕ
faults_of log = count_by (λ step. is_fault step.answer) log

-- In the events of an audited run each receipt of an envelope repeats it by its number: the envelopes are numbered in the order of the run.
abbrev pub is_receipt : Event → Bool
is_receipt (Repeat number) = true
is_receipt _ = false

abbrev pub receives : ℕ → Event → Bool
receives envelope (Repeat number) = number == envelope
receives envelope _ = false

abbrev pub is_received : List Event → ℕ → Bool
is_received events envelope = list_any (receives envelope) events

-- of so many envelopes those that some site received
abbrev pub received_of : ℕ → List Event → ℕ
received_of envelopes events = count_by (is_received events) (range_with_len 0 envelopes)

-- The steps of all sites; the accesses that had to wait; the envelopes that were sent; those of them that no site received; and the
-- receipts beyond the first of each envelope.
abbrev pub counts_of : List (List Logged) → List Event → Counts
counts_of logs events =
    let envelopes = sum_by sent_by logs in
    let received = received_of envelopes events in
    record {
      steps = sum_by length logs;
      faults = sum_by faults_of logs;
      envelopes = envelopes;
      losses = envelopes - received;
      repeats = count_by is_receipt events - received;
    }

abbrev pub counts_text : Counts → List ℕ
counts_text counts =
    codes "steps " ++ (decimal counts.steps ++ (codes "\nfaults " ++ (decimal counts.faults ++ (codes "\nenvelopes " ++ (decimal counts.envelopes
    ++ (codes "\nlosses " ++ (decimal counts.losses ++ (codes "\nrepeats " ++ (decimal counts.repeats ++ codes "\n")))))))))

-- a time in milliseconds, where it is known
abbrev pub time_text : Option ℕ → List ℕ
time_text None = []
time_text (Some milliseconds) = codes "took " ++ (decimal milliseconds ++ codes " ms\n")

abbrev pub summary_text : Counts → Option ℕ → List ℕ
summary_text counts took = counts_text counts ++ time_text took
