-- The first cause why logs, and what callers were told, can't be those of sites that ran. The steps of the logs are looked at first, by
-- site and index; then the receipts, by caller and place.
use Rattle.std.specs.Prelude.{◌≡◌, ℕ, ◌+◌, ◌-◌, ◌<◌, ◌⊎◌, List, [], ◌∷◌, ◌++◌, Option, Some, None, ◌==◌, if◌then◌else◌, slice_get, slice_index_or, take}
use Rattle.shm_model.specs.Log.{Logged, log_of}
use Rattle.shm_model.specs.Message.{Envelope, Input, Deliver}
use Rattle.shm_model.specs.Receipt.{Receipt, ReceiptsHold}
use Rattle.shm_model.specs.Refusal.{forged, out_of_memory, stamp_order, unsent, untold}
use Rattle.shm_logs.specs.declared.log_audit.audit_error.AuditFault.{AuditFault}
use Rattle.shm_logs.specs.declared.log_audit.audit_error.AuditFault.TheVariants as fault

-- the stamp is above that of this step, where there is one
abbrev pub IsAbove : Option Logged → ℕ → Type 0
IsAbove None stamp = Unit {0}
IsAbove (Some l) stamp = l.stamp < stamp

-- the step before that of this index
abbrev pub step_before : List Logged → ℕ → Option Logged
step_before log i = if i == 0 then None else slice_get log (i - 1)

-- the step sent this very envelope, at this place
abbrev pub HasSent : Option Logged → ℕ → Envelope → Type 0
HasSent None place e = ⊥
HasSent (Some l) place e = slice_get l.sent place ≡ Some e

-- what is handed over was sent, where the delivery says
abbrev pub IsSent : List (List Logged) → Logged → Input → Type 0
IsSent logs l (Deliver e) = HasSent (slice_get (log_of logs e.from) l.source.index) l.source.place e
IsSent logs l _ = Unit {0}

-- the stamp is above that of the step which sent what is handed over
abbrev pub IsAboveSender : List (List Logged) → Logged → Input → Type 0
IsAboveSender logs l (Deliver e) = IsAbove (slice_get (log_of logs e.from) l.source.index) l.stamp
IsAboveSender logs l _ = Unit {0}

-- nothing is wrong with the step of this index in the site's log
pub record IsSound (logs : List (List Logged)) (s i : ℕ) (l : Logged) : Type 0 where
  pub rises : IsAbove (step_before (log_of logs s) i) l.stamp
  pub sent : IsSent logs l l.input
  pub above : IsAboveSender logs l l.input

-- the step stands above the one before it, and hands over what was never sent
pub record IsUnsent (logs : List (List Logged)) (s i : ℕ) (l : Logged) : Type 0 where
  pub rises : IsAbove (step_before (log_of logs s) i) l.stamp
  pub never : IsSent logs l l.input → ⊥

-- what the step hands over was sent, by a step that isn't below it
pub record IsBelowSender (logs : List (List Logged)) (l : Logged) : Type 0 where
  pub sent : IsSent logs l l.input
  pub below : IsAboveSender logs l l.input → ⊥

-- the step isn't above the one before it, or not above the one that sent what it hands over
abbrev pub IsMisordered : List (List Logged) → ℕ → ℕ → Logged → Type 0
IsMisordered logs s i l = (IsAbove (step_before (log_of logs s) i) l.stamp → ⊥) ⊎ IsBelowSender logs l

-- what is wrong with the step, if this is
abbrev pub IsWrong : List (List Logged) → ℕ → ℕ → Logged → AuditFault → Type 0
IsWrong logs s i l (fault.Unsent t j) = (t ≡ s) × (j ≡ i) × IsUnsent logs s i l
IsWrong logs s i l (fault.StampOrder t j) = (t ≡ s) × (j ≡ i) × IsMisordered logs s i l
IsWrong logs s i l (fault.Forged _ _) = ⊥
IsWrong logs s i l (fault.Untold _ _) = ⊥
IsWrong logs s i l fault.OutOfMemory = ⊥

-- nothing is wrong with the step of this index at this site, or there is none
abbrev pub SoundAt : List (List Logged) → ℕ → ℕ → Type 0
SoundAt logs s i = (l : Logged) → slice_get (log_of logs s) i ≡ Some l → IsSound logs s i l

-- nothing is wrong with any step
abbrev pub AllSound : List (List Logged) → Type 0
AllSound logs = (s i : ℕ) → SoundAt logs s i

-- this is wrong with a step of this index at this site
pub record IsWrongAt (logs : List (List Logged)) (s i : ℕ) (f : AuditFault) : Type 0 where
  pub step : Logged
  pub named : slice_get (log_of logs s) i ≡ Some step
  pub wrong : IsWrong logs s i step f

-- the first step, by site and index, with which something is wrong, and what
pub record IsFirstStep (logs : List (List Logged)) (f : AuditFault) : Type 0 where
  pub site : ℕ
  pub index : ℕ
  pub sites_before : (s i : ℕ) → s < site → SoundAt logs s i
  pub steps_before : (i : ℕ) → i < index → SoundAt logs site i
  pub this : IsWrongAt logs site index f

-- the receipts of the callers before this one, and its own first n
abbrev pub receipts_to : List (List Receipt) → ℕ → ℕ → List (List Receipt)
receipts_to callers c n = take c callers ++ take n (slice_index_or callers c []) ∷ []

-- the receipt at this place of this caller is the first with which the receipts don't hold, and names the step of this index at this site
pub record IsFirstReceipt (logs : List (List Logged)) (callers : List (List Receipt)) (s i : ℕ) : Type 0 where
  pub caller : ℕ
  pub place : ℕ
  pub receipt : Receipt
  pub found : slice_get (slice_index_or callers caller []) place ≡ Some receipt
  pub site : receipt.site ≡ s
  pub index : receipt.index ≡ i
  pub before : ReceiptsHold logs (receipts_to callers caller place)
  pub not_with : ReceiptsHold logs (receipts_to callers caller (place + 1)) → ⊥

abbrev pub IsForged : List (List Logged) → List (List Receipt) → AuditFault → Type 0
IsForged logs callers (fault.Forged s i) = IsFirstReceipt logs callers s i
IsForged logs callers _ = ⊥

-- the first cause, with the site and the index of the step that is wrong, or that the receipt names
abbrev pub IsFirstCause : List (List Logged) → List (List Receipt) → AuditFault → Type 0
IsFirstCause logs callers (fault.Unsent s i) = IsFirstStep logs (fault.Unsent s i)
IsFirstCause logs callers (fault.StampOrder s i) = IsFirstStep logs (fault.StampOrder s i)
IsFirstCause logs callers (fault.Forged s i) = AllSound logs × IsFirstReceipt logs callers s i
IsFirstCause logs callers (fault.Untold _ _) = ⊥
IsFirstCause logs callers fault.OutOfMemory = ⊥

-- the numbers under which programs tell of them
abbrev pub audit_fault_number : AuditFault → ℕ
audit_fault_number (fault.Unsent _ _) = unsent
audit_fault_number (fault.StampOrder _ _) = stamp_order
audit_fault_number (fault.Forged _ _) = forged
audit_fault_number (fault.Untold _ _) = untold
audit_fault_number fault.OutOfMemory = out_of_memory
