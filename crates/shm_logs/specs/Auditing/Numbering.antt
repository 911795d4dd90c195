-- The numbers that envelopes get in an order of steps.
use Rattle.std.specs.Prelude.{◌≡◌, ℕ, ◌+◌, ◌<◌, ◌^◌, List, [], length, slice_get, slice_index_or, unwrap_or}
use Rattle.std.specs.List.{sum_by}
use Rattle.shm_model.specs.Log.{Stamp}
use Rattle.shm_model.specs.Merge.{SiteStep, sent_before}
use Rattle.shm_model.specs.Message.{Input, Deliver}
use Rattle.shm_logs.specs.Auditing.Rows.{rows_of}
use Rattle.shm_logs.specs.declared.log_audit.envelope_numbering.Numbering.{Numbering}

-- how many envelopes the steps send
abbrev pub sent_in : List SiteStep → ℕ
sent_in order = sum_by (λ p. length p.logged.sent) order

-- what the table has for the site's step of this index
abbrev pub number_in : {A : Type 0} → Numbering A → ℕ → ℕ → ℕ
number_in table s index = unwrap_or (slice_get (slice_index_or (rows_of table.before.items) s []) index) table.total

-- it has how many envelopes are sent before each step, in this order
abbrev pub Numbers : {A : Type 0} → List SiteStep → Numbering A → Type 0
Numbers order table = (s index : ℕ) → number_in table s index ≡ sent_before order s index

-- the number of what is handed over isn't too large for the machine
abbrev pub NumberFits : {A : Type 0} → Numbering A → Stamp → Input → Type 0
NumberFits table source (Deliver e) = number_in table e.from source.index + source.place < 2 ^ 64
NumberFits table source _ = Unit {0}
