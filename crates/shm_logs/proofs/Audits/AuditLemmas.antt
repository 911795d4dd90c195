-- From what the audit found to what it says.
use Rattle.std.proofs.Common.{◌≡◌, ℕ, ◌≤◌, List, [], ◌∷◌, Result, Ok, Err, IfOk, Vec, sym, subst, arith}
use Rattle.std.specs.declared.alloc.AllocError.{AllocError}
use Rattle.shm_place.specs.Limits as limit
use Rattle.shm_logs.specs.declared.site_boxes.site_log.SiteLog.{SiteLog}
use Rattle.shm_logs.specs.Auditing.Logs.{AreLogsOf}
use Rattle.shm_model.specs.declared.event.Event.{Event}
use Rattle.shm_model.specs.Log.{Logged}
use Rattle.shm_model.specs.Memory.{Coherent, Legal}
use Rattle.shm_model.specs.Merge.{events_in, IsMerged, RunsAs, SiteStep}
use Rattle.shm_model.specs.Receipt.{Receipt, ReceiptsHold}
use Rattle.shm_model.specs.World.{run, IsOpening, Opening, Preset}
use Rattle.shm_logs.specs.Auditing.Audit.{IsAudited}
use Rattle.shm_logs.specs.Auditing.Cause.{AllSound, IsFirstCause, IsFirstStep, IsForged}
use Rattle.shm_logs.specs.declared.log_audit.audit_error.AuditFault.{AuditFault}
use Rattle.shm_logs.specs.declared.log_audit.audit_error.AuditFault.TheVariants as fault
use Rattle.shm_logs.proofs.Audits.SoundLemmas.{sound-match}
use Rattle.shm_logs.proofs.Audits.StoreLemmas.{tells-last-store}

pub step-first : (logs : List (List Logged)) (callers : List (List Receipt)) (f : AuditFault) → IsFirstStep logs f → IsFirstCause logs callers f
step-first logs callers (fault.Unsent s i) h = h
step-first logs callers (fault.StampOrder s i) h = h
step-first logs callers (fault.Forged s i) h = absurd h.this.wrong
step-first logs callers (fault.Untold s i) h = absurd h.this.wrong
step-first logs callers fault.OutOfMemory h = absurd h.this.wrong

pub receipt-first : (logs : List (List Logged)) (callers : List (List Receipt)) (f : AuditFault) → AllSound logs → IsForged logs callers f → IsFirstCause logs callers f
receipt-first logs callers (fault.Unsent s i) sound h = absurd h
receipt-first logs callers (fault.StampOrder s i) sound h = absurd h
receipt-first logs callers (fault.Forged s i) sound h = (sound, h)
receipt-first logs callers (fault.Untold s i) sound h = absurd h
receipt-first logs callers fault.OutOfMemory sound h = absurd h

-- the logs' opening is one
pub opens : {A : Type 0} (sites pages : ℕ) (logs : List (SiteLog A)) → AreLogsOf sites pages logs → 1 ≤ sites → sites ≤ 16 → IsOpening (Preset sites pages)
opens sites pages [] are from to = let none = are.count in absurd (omega arith)
opens sites pages (log ∷ logs) are from to =
    let same : log.pages ≡ pages = (are.places 0 log (omega arith)).opened in
    (from, to, subst (λ n. 1 ≤ n) same log.from, subst (λ n. n ≤ limit.pages) same log.to)

pub audited : (o : Opening) (logs : List (List Logged)) (callers : List (List Receipt)) (events : List Event) (order : List SiteStep) → IsMerged logs order
    → events ≡ events_in order → AllSound logs → ReceiptsHold logs callers → RunsAs o logs order (run o (events_in order))
    → Legal o (run o (events_in order)).account → Coherent (run o (events_in order)).world → IsAudited o logs callers events
audited o logs callers events order merged named sound held runs legal coherent = record {
  sound = sound;
  order = order;
  merged = merged;
  named = named;
  matched = sound-match logs sound;
  receipts = held;
  runs = subst (λ es. RunsAs o logs order (run o es)) (sym named) runs;
  legal = subst (λ es. Legal o (run o es).account) (sym named) legal;
  coherent = subst (λ es. Coherent (run o es).world) (sym named) coherent;
  last_stores = λ j d b. tells-last-store o logs order _ merged (subst (Legal o) runs.account legal) (held.tell j d b);
}

-- the events are audited with any receipts that hold
abbrev pub IsAuditedWithAll : Opening → List (List Logged) → List Event → Type 0
IsAuditedWithAll o logs events = (callers : List (List Receipt)) → ReceiptsHold logs callers → IsAudited o logs callers events

pub audited-if : {A : Type 0} (o : Opening) (logs : List (List Logged)) (r : Result (Vec Event A) AuditFault) (m : Result (Vec Event A) AllocError)
    → IfOk r (λ events. m ≡ Ok events) → IfOk m (λ events. (order : List SiteStep) × IsMerged logs order × (events.items ≡ events_in order))
    → AllSound logs → ((order : List SiteStep) → IsMerged logs order → RunsAs o logs order (run o (events_in order)))
    → ((events : List Event) → Legal o (run o events).account) → ((events : List Event) → Coherent (run o events).world)
    → IfOk r (λ events. IsAuditedWithAll o logs events.items)
audited-if o logs (Err f) m same made sound runs legal coherent = tt
audited-if o logs (Ok events) m same made sound runs legal coherent =
    let found = subst (λ n. IfOk n (λ es. (order : List SiteStep) × IsMerged logs order × (es.items ≡ events_in order))) same made in
    λ callers held. audited o logs callers events.items found.0 found.1 found.2 sound held (runs found.0 found.1) (legal (events_in found.0)) (coherent (events_in found.0))

pub audited-with : {A : Type 0} (o : Opening) (logs : List (List Logged)) (callers : List (List Receipt)) (r : Result (Vec Event A) AuditFault)
    → IfOk r (λ events. IsAuditedWithAll o logs events.items) → ReceiptsHold logs callers → IfOk r (λ events. IsAudited o logs callers events.items)
audited-with o logs callers (Err f) all held = tt
audited-with o logs callers (Ok events) all held = all callers held
