-- What is answered of a journal.
use Rattle.std.proofs.Common.{◌≡◌, ◌≤◌, ◌<◌, ◌⊎◌, inl, inr, ℕ, ◌+◌, List, [], ◌∷◌, ◌++◌, Option, None, Some, Ok, Err, length, refl, sym, ap, subst, ◌∙◌, append_assoc, arith}
use Rattle.std.specs.Prelude.{⊤, Result, IfErr, IfOk, IfSome, OnOk}
use Rattle.std.specs.Io.KnownBytes.{Consumes, IsAtEnd}
use Rattle.shm_journal.specs.Found.{Bad, Partial, max_journal_line}
use Rattle.shm_journal.specs.Leading.{Leads}
use Rattle.shm_journal.specs.LinesOf.{Unended}
use Rattle.shm_journal.specs.ReadUpTo.{ReadsToLine, ReadsWhole}
use Rattle.shm_journal.specs.Recovers.{ReadsAll}
use Rattle.shm_journal.specs.Taking.{BreaksOff, most_at_once}
use Rattle.shm_journal.specs.declared.journal_error.JournalFault.{JournalFault}
use Rattle.shm_journal.specs.declared.journal_error.JournalFault.TheVariants as fault
use Rattle.shm_journal.proofs.Fronts.{of_all, of_front}
use Rattle.shm_journal.proofs.Leading.{first_breaks, first_leads, first_stops, joined_fault, joined_whole}
use Rattle.shm_logs.specs.Boxes.Box.{Box}
use Rattle.shm_logs.specs.Boxes.SiteBox.{box_of}
use Rattle.shm_logs.specs.declared.site_boxes.site_box.SiteBox.{SiteBox}
use Rattle.shm_logs.specs.declared.site_boxes.site_log.SiteLog.{SiteLog}
use Rattle.shm_audit.specs.Found.{Cut, EntriesReadUpTo, HasLog, IsFault, IsLed, LeadsToLog, Log, Reading, ReadsUpTo, TellsLog, any, first_found, found, next_reading, opened, reached, rest_found, whole_log}
use Rattle.shm_audit.specs.declared.box_replay.Audited.{Audited}

-- memory and the reader say nothing
nothing_known : (a : Option (List ℕ)) → IfSome a (λ _. ⊤)
nothing_known None = tt
nothing_known (Some xs) = tt

pub fault_known : (old new : Option (List ℕ)) (f : JournalFault) → ReadsUpTo old new f → IfSome old (λ file. IsFault (found file) f)
fault_known old new fault.OutOfMemory h = nothing_known old
fault_known old new fault.ReadFault h = nothing_known old
fault_known old new (fault.BadLine number) (inl s) =
    of_front old new (s.before ++ (s.line ++ s.over)) (λ file. found file ≡ Bad number) s.taken
    (λ more. ap found (append_assoc s.before (s.line ++ s.over) more ∙ ap (λ l. s.before ++ l) (append_assoc s.line s.over more)) ∙ ap whole_log (s.bad (s.over ++ more)))
fault_known old new (fault.BadLine number) (inr l) = of_all old new l.bytes (λ file. found file ≡ Bad number) l.taken l.end (ap whole_log l.bad)
fault_known old new fault.BeginsWithState h =
    let w = h.1 in of_all old new w.bytes (λ file. found file ≡ Partial) w.taken w.end (ap whole_log w.sound)
fault_known old new fault.UnendedState h = absurd h

pub as_any : (old new : Option (List ℕ)) (why : JournalFault) → ReadsToLine reached old new why → ReadsUpTo old new why
as_any old new fault.OutOfMemory h = h
as_any old new fault.ReadFault h = h
as_any old new (fault.BadLine number) h = inl h
as_any old new fault.BeginsWithState h = absurd h
as_any old new fault.UnendedState h = absurd h

pub has_log : {A : Type 0} → (box : SiteBox A) (log : SiteLog A) → log ≡ box.log → HasLog (box_of box) log
has_log box log same = subst (HasLog (box_of box)) (sym same) (record { sites = refl; me = refl; pages = refl; steps = refl })

pub log_known : {A : Type 0} → (old new : Option (List ℕ)) (box : Box) (whole : ℕ) (log : SiteLog A) → ReadsWhole reached old new (Log box) whole → HasLog box log
    → IfSome old (λ file. IsLed (found file) log)
log_known old new box whole log w h = of_all old new w.bytes (λ file. IsLed (found file) log) w.taken w.end (subst (λ f. IsLed f log) (sym (ap whole_log w.sound)) h)

-- ---- the first line

pub first_ok : {A : Type 0} → (before left : Option (List ℕ)) (line seen : List ℕ) (count : ℕ) (r : Result (Audited A) JournalFault) → Consumes before left (line ++ 10 ∷ []) → Unended line
    → length line ≤ max_journal_line → seen ≡ line → count ≡ length line + 1 → IfOk r (λ site. opened seen ≡ Some (box_of site.site_box))
    → IfOk r (λ site. Leads next_reading reached before left 2 (Log (box_of site.site_box)) count)
first_ok before left line seen count (Ok site) taken h short same e o =
    subst (λ n. Leads next_reading reached before left 2 (Log (box_of site.site_box)) n) (sym e)
    (first_leads any before left (Log (box_of site.site_box)) line taken h short (ap first_found (sym (ap opened same) ∙ o)))
first_ok before left line seen count (Err f) taken h short same e o = tt

opens-not : (before now : Option (List ℕ)) (line over : List ℕ) (f : JournalFault) → Consumes before now ((line ++ 10 ∷ []) ++ over) → Unended line → length line ≤ max_journal_line
    → length over < most_at_once → (f ≡ fault.OutOfMemory) ⊎ ((f ≡ fault.BadLine 1) × (opened line ≡ None)) → ReadsUpTo before now f
opens-not before now line over f taken h short once (inl e) =
    subst (ReadsUpTo before now) (sym e)
    (record {
      before = [];
      line = line;
      over = 10 ∷ over;
      taken = subst (Consumes before now) (append_assoc line (10 ∷ []) over) taken;
      sound = inl refl;
      unended = h;
      short = short;
      once = omega (arith, once);
    })
opens-not before now line over f taken h short once (inr e) =
    subst (ReadsUpTo before now) (sym e.0) (inl (first_stops any before now line over (Bad 1) taken h short once (ap first_found e.1) (λ onward. refl)))

pub first_err : {A : Type 0} → (before now : Option (List ℕ)) (line seen over : List ℕ) (r : Result (Audited A) JournalFault) → Consumes before now ((line ++ 10 ∷ []) ++ over) → Unended line
    → length line ≤ max_journal_line → length over < most_at_once → seen ≡ line → IfErr r (λ f. (f ≡ fault.OutOfMemory) ⊎ ((f ≡ fault.BadLine 1) × (opened seen ≡ None)))
    → IfErr r (ReadsUpTo before now)
first_err before now line seen over (Ok site) taken h short once same e = tt
first_err before now line seen over (Err f) taken h short once same e =
    opens-not before now line over f taken h short once (subst (λ l. (f ≡ fault.OutOfMemory) ⊎ ((f ≡ fault.BadLine 1) × (opened l ≡ None))) same e)

-- the reader fails, or memory is missing
pub breaks_first : (before now : Option (List ℕ)) (why : JournalFault) → BreaksOff before now why → ReadsUpTo before now why
breaks_first before now fault.OutOfMemory b = first_breaks any before now fault.OutOfMemory b
breaks_first before now fault.ReadFault b = first_breaks any before now fault.ReadFault b
breaks_first before now (fault.BadLine number) b = absurd b.other
breaks_first before now fault.BeginsWithState b = absurd b.other
breaks_first before now fault.UnendedState b = absurd b.other

-- ---- the entries behind it

pub log_led : {A : Type 0} → (all before left now : Option (List ℕ)) (box : Box) (count : ℕ) (r : Result (SiteLog A) JournalFault) → before ≡ all
    → Leads next_reading reached before left 2 (Log box) count → IfOk r (λ log. LeadsToLog (rest_found box) left now log) → IfOk r (λ log. LeadsToLog reached all now log)
log_led all before left now box count (Ok log) same l w =
    let read = joined_whole next_reading reached before left now (Log box) (Log w.0) count w.1 l w.2 in
    (w.0, count + w.1, subst (λ a. ReadsWhole reached a now (Log w.0) (count + w.1)) same read, w.3)
log_led all before left now box count (Err f) same l w = tt

joined-up : (before left now : Option (List ℕ)) (box : Box) (count : ℕ) (f : JournalFault) → Leads next_reading reached before left 2 (Log box) count
    → EntriesReadUpTo box left now f → ReadsUpTo before now f
joined-up before left now box count fault.BeginsWithState l h = (count + h.0, joined_whole next_reading reached before left now (Log box) Cut count h.0 l h.1)
joined-up before left now box count fault.OutOfMemory l h = joined_fault next_reading reached before left now (Log box) count fault.OutOfMemory l h
joined-up before left now box count fault.ReadFault l h = joined_fault next_reading reached before left now (Log box) count fault.ReadFault l h
joined-up before left now box count (fault.BadLine number) l h = inl (joined_fault next_reading reached before left now (Log box) count (fault.BadLine number) l h)
joined-up before left now box count fault.UnendedState l h = absurd h

pub fault_led : {A : Type 0} → (all before left now : Option (List ℕ)) (box : Box) (count : ℕ) (r : Result (SiteLog A) JournalFault) → before ≡ all
    → Leads next_reading reached before left 2 (Log box) count → IfErr r (EntriesReadUpTo box left now) → IfErr r (ReadsUpTo all now)
fault_led all before left now box count (Ok log) same l h = tt
fault_led all before left now box count (Err f) same l h = subst (λ a. ReadsUpTo a now f) same (joined-up before left now box count f l h)

pub entries_left : (box : Box) (left now : Option (List ℕ)) (why : JournalFault) → ReadsToLine (rest_found box) left now why → EntriesReadUpTo box left now why
entries_left box left now fault.OutOfMemory h = h
entries_left box left now fault.ReadFault h = h
entries_left box left now (fault.BadLine number) h = h
entries_left box left now fault.BeginsWithState h = absurd h
entries_left box left now fault.UnendedState h = h

-- what a site that was read leads to
pub log_read : {A : Type 0} → (box : Box) (last : SiteBox A) (left now : Option (List ℕ)) (more : ℕ) (reading stood : Reading) (r : Result (SiteLog A) JournalFault)
    → ReadsWhole (rest_found box) left now reading more → stood ≡ reading → IfOk r (λ log. stood ≡ Log (box_of last)) → IfOk r (λ log. log ≡ last.log)
    → IfOk r (λ log. LeadsToLog (rest_found box) left now log)
log_read box last left now more reading stood (Ok log) w at is same =
    (box_of last, more, subst (λ x. ReadsWhole (rest_found box) left now x more) (sym at ∙ is) w, has_log last log same)
log_read box last left now more reading stood (Err f) w at is same = tt

pub cut_read : {A : Type 0} → (box : Box) (left now : Option (List ℕ)) (more : ℕ) (reading stood : Reading) (r : Result (SiteLog A) JournalFault)
    → ReadsWhole (rest_found box) left now reading more → stood ≡ reading → IfErr r (λ f. stood ≡ Cut) → IfErr r (λ f. f ≡ fault.BeginsWithState)
    → IfErr r (EntriesReadUpTo box left now)
cut_read box left now more reading stood (Ok log) w at cut is = tt
cut_read box left now more reading stood (Err f) w at cut is =
    subst (EntriesReadUpTo box left now) (sym is) (more, subst (λ x. ReadsWhole (rest_found box) left now x more) (sym at ∙ cut) w)

-- ---- the clauses of a whole journal

pub log_end : {A : Type 0} → (old new : Option (List ℕ)) (r : Result (SiteLog A) JournalFault) → IfOk r (λ log. LeadsToLog reached old new log) → OnOk r (IsAtEnd new)
log_end old new (Ok log) w = let all : ReadsWhole reached old new (Log w.0) w.1 = w.2 in all.end
log_end old new (Err f) w = tt

pub log_all : {A : Type 0} → (old new : Option (List ℕ)) (r : Result (SiteLog A) JournalFault) → IfOk r (λ log. LeadsToLog reached old new log) → OnOk r (ReadsAll old new)
log_all old new (Ok log) w = let all : ReadsWhole reached old new (Log w.0) w.1 = w.2 in (all.bytes, all.taken, all.end)
log_all old new (Err f) w = tt

pub log_found : {A : Type 0} → (old new : Option (List ℕ)) (r : Result (SiteLog A) JournalFault) → IfOk r (λ log. LeadsToLog reached old new log) → IfErr r (ReadsUpTo old new)
    → IfSome old (λ file. TellsLog (found file) r)
log_found old new (Ok log) w h = log_known old new w.0 w.1 log w.2 w.3
log_found old new (Err f) w h = fault_known old new f h
