-- Each text that a process appends to its journal, and makes durable, is a batch.
use Rattle.std.proofs.Common.{◌≡◌, ◌⊎◌, ℕ, false, List, [], ◌∷◌, ◌++◌, Ok, Err, take, refl, ap, sym, subst, ◌∙◌, append-nil, append_assoc}
use Rattle.std.specs.List.{All, concat}
use Rattle.std.specs.Prelude.{None, Result}
use Rattle.std.proofs.lemmas.List.Elements.{All-append, All-cons, All-head, All-nil, All-push, All-tail}
use Rattle.shm_process.proofs.Proper as proper
use Rattle.shm_process.specs.Desk.{Desk, cleared, on_bytes, restarted}
use Rattle.shm_process.specs.Node.{Node, is_late}
use Rattle.shm_process.specs.Recorded.{Entry, Event, entries_text, entry_line}
use Rattle.shm_process.specs.declared.process_counts.Start.{Start}
use Rattle.shm_seal.specs.Seal.{Seal}
use Rattle.shm_journal.proofs.CrashLemmas.{head-of, tail-of}
use Rattle.shm_journal.proofs.DeskLives.{KeepsTaken, Took, keeps_none, line_bytes, line_restart, took_bytes, took_life, took_restart}
use Rattle.shm_journal.proofs.EntriesFit.{AreFit, entries_fit, lives_sound, opened_sound}
use Rattle.shm_journal.proofs.Fits.{IsNoFeed, fits-header}
use Rattle.shm_journal.proofs.Leaving.{leaves_new_sound, leaves_sound}
use Rattle.shm_journal.specs.Acts.{Act, Append, IsRun, Read, Sync, Tell, keeping, publishing, run, serving, telling}
use Rattle.shm_journal.specs.Crash as journal
use Rattle.shm_journal.specs.Crash.{MayLeave, disk_of}
use Rattle.shm_journal.specs.DeskFrom.{greeting_from, with_header}
use Rattle.shm_journal.specs.Found.{opened}
use Rattle.shm_journal.specs.Lines.{Header, IsHeader, header_line}
use Rattle.shm_journal.specs.LinesOf.{Unended}
use Rattle.shm_journal.specs.Lives.{IsJournal, IsLife, LeavesFront, LeavesLife, after_lives}
use Rattle.shm_journal.specs.declared.process_error.ProcessFault.{ProcessFault}
use Rattle.shm_journal.specs.declared.service_stop.Stop.{Stop}
use Rattle.shm_journal.specs.declared.process_error.ProcessFault.TheVariants.{JournalFault, OutOfMemory, ReadFault, TooOld, WriteFault}
use Rattle.shm_batches.proofs.CrashLemmas.{acts_lines, leaves_batches}
use Rattle.shm_batches.proofs.WholeLemmas.{none_batch}
use Rattle.shm_batches.specs.BatchCrash.{Disk, after_act, after_acts, begun, in_lines}
use Rattle.shm_batches.specs.BatchLives.{LeavesNewWhole, LeavesWhole}
use Rattle.shm_batches.specs.Whole.{whole_text}
use Rattle.shm_batches.specs.Written.{IsBatch, IsPlain, lines_text}

-- ---- acts that append batches

abbrev Adds : Act → Type 0
Adds (Read bytes) = Unit {0}
Adds (Append text) = IsBatch text
Adds Sync = Unit {0}
Adds (Tell text) = Unit {0}

record Holds (disk : Disk) : Type 0 where
  pub durable : All IsBatch disk.durable
  pub loose : All IsBatch disk.loose

act-holds : (disk : Disk) (act : Act) → Holds disk → Adds act → Holds (after_act disk act)
act-holds disk (Read bytes) h adds = h
act-holds disk (Append text) h adds = record { durable = h.durable; loose = All-push IsBatch disk.loose text h.loose adds }
act-holds disk Sync h adds = record { durable = All-append IsBatch disk.durable disk.loose h.durable h.loose; loose = All-nil IsBatch }
act-holds disk (Tell text) h adds = h

moment : (before after : List Act) (disk : Disk) → Holds disk → All Adds (before ++ after) → All IsBatch (after_acts disk before).durable
unfolding after_acts
moment [] after disk h adds = h.durable
moment (act ∷ before) after disk h adds =
    moment before after (after_act disk act) (act-holds disk act h (All-head Adds act (before ++ after) adds)) (All-tail Adds act (before ++ after) adds)

none-before : (before after : List Act) → [] ≡ before ++ after → before ≡ []
none-before [] after e = refl
none-before (act ∷ before) after e = absurd (cc)

-- what is appended last isn't durable
last-appended : (before after : List Act) (act : Act) (text : List ℕ) (disk : Disk) → Append text ∷ [] ≡ act ∷ (before ++ after)
    → (after_acts (after_act disk act) before).durable ≡ disk.durable
unfolding after_acts
last-appended before after act text disk e =
    ap (λ b. (after_acts (after_act disk act) b).durable) (none-before before after (tail-of e))
    ∙ ap (λ a. (after_act disk a).durable) (sym (head-of e))

moment-last : (before front after : List Act) (text : List ℕ) (disk : Disk) → Holds disk → All Adds front → front ++ Append text ∷ [] ≡ before ++ after
    → All IsBatch (after_acts disk before).durable
unfolding after_acts
moment-last [] front after text disk h adds e = h.durable
moment-last (act ∷ before) [] after text disk h adds e = subst (All IsBatch) (sym (last-appended before after act text disk e)) h.durable
moment-last (act ∷ before) (first ∷ front) after text disk h adds e =
    let adds_first = subst Adds (head-of e) (All-head Adds first front adds) in
    moment-last before front after text (after_act disk act) (act-holds disk act h adds_first) (All-tail Adds first front adds) (tail-of e)

adds-front : (front rest : List Act) → All Adds (front ++ rest) → All Adds front
adds-front [] rest adds = All-nil Adds
adds-front (act ∷ front) rest adds =
    All-cons Adds act front (All-head Adds act (front ++ rest) adds) (adds-front front rest (All-tail Adds act (front ++ rest) adds))

-- however a process ends
moment-run : (desk : Desk) (disk : Disk) → Holds disk → ((reads : List (List ℕ)) → All Adds (run desk reads))
    → (result : Result Stop ProcessFault) (acts before after : List Act) → IsRun desk result acts → acts ≡ before ++ after
    → All IsBatch (after_acts disk before).durable
moment-run desk disk h all (Ok end) acts before after (reads, sound, same) e = moment before after disk h (subst (All Adds) (sym same ∙ e) (all reads))
moment-run desk disk h all (Err ReadFault) acts before after (reads, sound, same) e = moment before after disk h (subst (All Adds) (sym same ∙ e) (all reads))
moment-run desk disk h all (Err OutOfMemory) acts before after (reads, bytes, sound, same) e =
    moment before after disk h (subst (All Adds) (sym same ∙ e) (All-push Adds (run desk reads) (Read bytes) (all reads) tt))
moment-run desk disk h all (Err (TooOld clock)) acts before after (reads, bytes, sound, same, later) e =
    moment before after disk h (subst (All Adds) (sym same ∙ e) (All-push Adds (run desk reads) (Read bytes) (all reads) tt))
moment-run desk disk h all (Err JournalFault) acts before after (reads, front, rest, text, n, sound, is, same) e =
    moment-last before front after (take n text) disk h (adds-front front (Append text ∷ rest) (subst (All Adds) is (all reads))) (sym same ∙ e)
moment-run desk disk h all (Err WriteFault) acts before after (reads, front, text, n, sound, is, same) e =
    let adds = adds-front front (Tell text ∷ []) (subst (All Adds) is (all reads)) in
    moment before after disk h (subst (All Adds) (sym same ∙ e) (All-push Adds front (Tell (take n text)) adds tt))

-- ---- what a process appends

adds-publishing : (desk : Desk) → IsBatch desk.recorded → All Adds (publishing desk)
adds-publishing desk is = All-append Adds (keeping desk.recorded) (telling desk.told) (adds-keeping desk.recorded is) (adds-telling desk.told)
  where
    adds-keeping : (text : List ℕ) → IsBatch text → All Adds (keeping text)
    adds-keeping [] is = All-nil Adds
    adds-keeping (byte ∷ bytes) is = All-cons Adds (Append (byte ∷ bytes)) (Sync ∷ []) is (All-cons Adds Sync [] tt (All-nil Adds))

    adds-telling : (text : List ℕ) → All Adds (telling text)
    adds-telling [] = All-nil Adds
    adds-telling (byte ∷ bytes) = All-cons Adds (Tell (byte ∷ bytes)) [] tt (All-nil Adds)

-- an entry's line doesn't begin as a mark
entries-batch : (entries : List Entry) → AreFit entries → IsBatch (entries_text entries)
entries-batch [] fit = none_batch
entries-batch (entry ∷ entries) fit =
    let line = entry_line entry in
    let rest = entries-batch entries fit.1 in
    record {
      lines = line ∷ rest.lines;
      are_plain = All-cons IsPlain line rest.lines (record { unended = fit.0.1.unended; plain = refl }) rest.are_plain;
      whole = ap (λ t. line ++ 10 ∷ t) rest.whole ∙ sym (append_assoc line (10 ∷ []) (lines_text rest.lines));
    }

header-batch : (header : Header) → IsHeader header → IsBatch (header_line header ++ 10 ∷ [])
header-batch header is =
    let line = header_line header in
    record {
      lines = line ∷ [];
      are_plain = All-cons IsPlain line [] (record { unended = (fits-header header is).unended; plain = refl }) (All-nil IsPlain);
      whole = sym (append-nil (line ++ 10 ∷ []));
    }

-- what a desk has recorded of further events
took-batch : (old new : Desk) → Took old new → old.recorded ≡ [] → proper.Sound old.node → IsBatch new.recorded
took-batch old new t none sound = life-batch old.node t.events new.recorded (took_life old new t none sound)
  where
    life-batch : (node : Node) (life : List Event) (text : List ℕ) → IsLife node life text → IsBatch text
    life-batch node life text is = subst IsBatch (sym is.is) (entries-batch is.entries (entries_fit is.entries is.are is.taken))

-- it holds nothing
record IsFree (desk : Desk) : Type 0 where
  pub none : desk.recorded ≡ []
  pub row : desk.row ≡ None
  pub unended : Unended desk.line
  pub kept : KeepsTaken desk.kept
  pub sound : proper.Sound desk.node

adds-serving : (reads : List (List ℕ)) (desk : Desk) → IsFree desk → All Adds (serving desk reads)
unfolding serving
adds-serving [] desk free = All-nil Adds
adds-serving (bytes ∷ reads) desk free =
    let next = on_bytes desk bytes in
    let t = took_bytes bytes desk free.unended free.kept free.row in
    let sound : proper.Sound next.node = subst proper.Sound (sym t.node) (proper.events-sound t.events desk.node free.sound) in
    let more = adds-serving reads (cleared next) (record { none = refl; row = t.tidy.1; unended = line_bytes bytes desk free.unended; kept = t.tidy.0; sound = sound }) in
    All-cons Adds (Read bytes) (publishing next ++ serving (cleared next) reads) tt
    (All-append Adds (publishing next) (serving (cleared next) reads) (adds-publishing next (took-batch desk next t free.none free.sound)) more)

adds-run : (reads : List (List ℕ)) (desk : Desk) → IsBatch desk.recorded → IsFree (cleared desk) → All Adds (run desk reads)
adds-run reads desk is free = All-append Adds (publishing desk) (serving (cleared desk) reads) (adds-publishing desk is) (adds-serving reads (cleared desk) free)

adds-restarted : (header : Header) (seal : Seal) (node : Node) (start : Start) → proper.Sound node → is_late node 0 ≡ false → (reads : List (List ℕ))
    → All Adds (run (restarted (greeting_from header seal node start)) reads)
adds-restarted header seal node start sound early reads =
    let greeting = greeting_from header seal node start in
    let t = took_restart header seal node start early in
    adds-run reads (restarted greeting) (took-batch greeting (restarted greeting) t refl sound)
    (
    record {
      none = refl;
      row = t.tidy.1;
      unended = line_restart header seal node start;
      kept = t.tidy.0;
      sound = subst proper.Sound (sym t.node) (proper.events-sound t.events node sound);
    }
    )

adds-new : (header : Header) (seal : Seal) (start : Start) → IsHeader header → (reads : List (List ℕ))
    → All Adds (run (with_header header (greeting_from header seal (opened header) start)) reads)
adds-new header seal start is reads =
    adds-run reads (with_header header (greeting_from header seal (opened header) start)) (header-batch header is)
    (record { none = refl; row = refl; unended = All-nil IsNoFeed; kept = keeps_none; sound = opened_sound header })

-- ---- a life

holds-begun : (texts : List (List ℕ)) → All IsBatch texts → Holds (begun texts)
holds-begun texts are = record { durable = are; loose = All-nil IsBatch }

-- the lines of the disk at this moment
lines-then : (texts : List (List ℕ)) (text : List ℕ) (before : List Act) → concat texts ≡ text → in_lines (after_acts (begun texts) before) ≡ journal.after_acts (disk_of text) before
lines-then texts text before e = acts_lines before (begun texts) ∙ ap (λ t. journal.after_acts (disk_of t) before) e

pub leaves_whole : (header : Header) (lives : List (List Event)) (texts : List (List ℕ)) → IsHeader header → IsJournal header lives (concat texts)
    → is_late (after_lives (opened header) lives) 0 ≡ false → All IsBatch texts → LeavesWhole header lives texts
leaves_whole header lives texts is lived early are seal start result acts before after file ran e may =
    let node = after_lives (opened header) lives in
    let disk = after_acts (begun texts) before in
    let then = lines-then texts (concat texts) before refl in
    let all = adds-restarted header seal node start (lives_sound lives (opened header) (opened_sound header)) early in
    let durable = moment-run (restarted (greeting_from header seal node start)) (begun texts) (holds-begun texts are) all result acts before after ran e in
    let left = leaves_batches disk file durable may in
    let lines = subst (λ d. MayLeave d (whole_text file)) then left.lines in (
      left,
      subst (λ (d : journal.Disk). LeavesLife header lives d.durable (whole_text file)) (sym then)
          (leaves_sound header lives (concat texts) is lived early seal start result acts before after (whole_text file) ran e lines),
    )

pub leaves_new_whole : (header : Header) (texts : List (List ℕ)) → IsHeader header → All IsBatch texts → concat texts ≡ [] → LeavesNewWhole header texts
leaves_new_whole header texts is are text seal start result acts before after file ran e may =
    let disk = after_acts (begun texts) before in
    let then = lines-then texts [] before text in
    let first = with_header header (greeting_from header seal (opened header) start) in
    let durable = moment-run first (begun texts) (holds-begun texts are) (adds-new header seal start is) result acts before after ran e in
    let left = leaves_batches disk file durable may in
    let lines = subst (λ d. MayLeave d (whole_text file)) then left.lines in (
      left,
      subst (λ (d : journal.Disk). LeavesFront header d.durable (whole_text file) ⊎ LeavesLife header [] d.durable (whole_text file)) (sym then)
          (leaves_new_sound header is seal start result acts before after (whole_text file) ran e lines),
    )
