-- What a crash leaves of a journal that was made shorter while its site ran.
use Rattle.std.proofs.Common.{◌≡◌, ◌<◌, ◌==◌, ◌&&◌, inl, inr, ℕ, Bool, true, false, List, [], ◌∷◌, ◌++◌, Some, None, cond, length, max, take, refl, sym, ap, ap₂, subst, ◌∙◌, append-nil, append_assoc, arith}
use Rattle.std.specs.List.{All}
use Rattle.std.specs.Prelude.{option_and_then}
use Rattle.std.proofs.lemmas.Bool.Decides.{nat_tests}
use Rattle.std.proofs.Math.Seq.{take-nil}
use Rattle.std.proofs.lemmas.List.Elements.{All-append, All-cons, All-nil}
use Rattle.shm_model.specs.Basics.{greatest}
use Rattle.shm_process.proofs.Proper as proper
use Rattle.shm_process.proofs.Proper.{IsProper}
use Rattle.shm_process.proofs.Replays.{replays}
use Rattle.shm_process.specs.Desk.{Desk, cleared, is_at_rest, on_bytes, restarted, step_entry}
use Rattle.shm_process.specs.Node.{Node, is_late}
use Rattle.shm_process.specs.Recorded.{Entry, Event, Restarted, IsEntry, after_events, all_steps, entries_from, entries_of, entries_text, entry_line, entry_of, kept, recorded, replayed_all}
use Rattle.shm_process.specs.Waiting.{after_restart, replayed_heard, restarting, said_restart}
use Rattle.shm_process.specs.declared.process_counts.Start.{Start}
use Rattle.shm_seal.specs.Seal.{Seal}
use Rattle.shm_journal.proofs.Beginnings as beginnings
use Rattle.shm_journal.proofs.Beginnings.{Begins}
use Rattle.shm_journal.proofs.CrashLemmas.{published-disk}
use Rattle.shm_journal.proofs.DeskLives.{KeepsTaken, keeps_none, line_bytes, took_bytes}
use Rattle.shm_journal.proofs.EntriesFit.{AreFit, entries_fit, steps_are}
use Rattle.shm_journal.proofs.Fits.{Fits, IsNoFeed, fits-restart}
use Rattle.shm_journal.proofs.Leaving.{AtAll, Leaves, OnDisk, Stands, appended, at-acts, at-both, at-front, at-publishing, at-serving, at-weaker, on-disk}
use Rattle.shm_journal.proofs.Lives.{Cut, cut_life, fits-front, life_begins, life_both, nothing-torn, shape, steps_found, within-line}
use Rattle.shm_journal.proofs.Shortening as shortening
use Rattle.shm_journal.specs.Acts.{publishing, run, serving}
use Rattle.shm_journal.specs.Begun.{Beginning}
use Rattle.shm_journal.specs.Crash.{Disk, MayLeave, disk_of}
use Rattle.shm_journal.specs.DeskFrom.{desk_from, greeting_from}
use Rattle.shm_journal.specs.Found.{Sound, found, max_journal_line}
use Rattle.shm_journal.specs.Lines.{Header, IsHeader}
use Rattle.shm_journal.specs.LinesOf.{Unended}
use Rattle.shm_journal.specs.Lives.{IsLife, IsOfTaken, IsTaken}
use Rattle.shm_journal.specs.Shortened.{Shortens, rested}
use Rattle.shm_journal.specs.Shortenings.{IsIdle, LeavesRested, LeavesShorter, LeavesShorterSound, LeavesStretch, restart_line}
use Rattle.shm_journal.specs.Stretches.{Rests}
use Rattle.shm_journal.specs.declared.service_stop.Stop.TheVariants.{Due}

-- ---- what the restart's entry, and those behind it, lead to

-- made again on what the state tells it does what it did
heard-again : (node : Node) (clock : ℕ) (late : Bool)
    → replayed_heard (rested node) clock (cond late None (Some restarting)) ≡ replayed_heard (kept node) clock (cond late None (Some restarting))
heard-again node clock true = refl
heard-again node clock false = refl

restart-again : (node : Node) (xs : List Entry) → replayed_all (rested node) (entry_of (said_restart node) ∷ xs) ≡ replayed_all (kept node) (entry_of (said_restart node) ∷ xs)
restart-again node xs =
    ap (option_and_then (λ next. replayed_all next xs)) (heard-again node (said_restart node).clock (is_late node 0))

early-events : (node : Node) (events : List Event) (late : Bool) → late ≡ false
    → replayed_all (kept node) (recorded (cond late None (Some (said_restart node))) (entries_of (cond late node (after_restart node)) events))
    ≡ Some (kept (after_events (cond late node (after_restart node)) events))
    → replayed_all (kept node) (entry_of (said_restart node) ∷ entries_of (after_restart node) events) ≡ Some (kept (after_events (after_restart node) events))
early-events node events true e made = absurd (cc)
early-events node events false e made = made

stretch-replays : (node : Node) (events : List Event) → is_late node 0 ≡ false
    → replayed_all (rested node) (entry_of (said_restart node) ∷ entries_of (after_restart node) events) ≡ Some (kept (after_events (after_restart node) events))
stretch-replays node events early =
    restart-again node (entries_of (after_restart node) events) ∙ early-events node events (is_late node 0) early (replays node (Restarted ∷ events))

-- ---- the restart's entry

one-step : (node : Node) (xs : List Entry) → all_steps (entry_of (said_restart node) ∷ xs) ≡ entry_of (said_restart node) ∷ all_steps xs
unfolding entries_from
one-step node xs = refl

one-recorded : (node : Node) (late : Bool) → late ≡ false → All IsEntry (recorded (cond late None (Some (said_restart node))) [])
    → All IsEntry (entry_of (said_restart node) ∷ [])
one-recorded node true e all = absurd (cc)
one-recorded node false e all = all

one-is : (node : Node) → is_late node 0 ≡ false → proper.Sound node → All IsEntry (entry_of (said_restart node) ∷ [])
one-is node early sound = one-recorded node (is_late node 0) early (steps_are (Restarted ∷ []) node sound)

one-taken : (node : Node) → All IsOfTaken (entry_of (said_restart node) ∷ [])
one-taken node = All-cons IsOfTaken (entry_of (said_restart node)) [] (fits-restart.unended, fits-restart.short) (All-nil IsOfTaken)

restarted-sound : (node : Node) (late : Bool) → late ≡ false → proper.Sound (cond late node (after_restart node)) → proper.Sound (after_restart node)
restarted-sound node true e sound = absurd (cc)
restarted-sound node false e sound = sound

-- ---- where the file leads

-- the state, the restart's entry, and those of the life behind it
abbrev beginning : Header → List ℕ → Node → Beginning
beginning header text node = record { header = header; text = text; node = rested node }

stretch-found : (header : Header) (text : List ℕ) (node : Node) (events : List Event) (behind torn : List ℕ) → Begins (beginning header text node)
    → is_late node 0 ≡ false → proper.Sound node → IsLife (after_restart node) events behind → Fits max_journal_line torn
    → found header (text ++ (restart_line node ++ (behind ++ torn))) ≡ Sound (kept (after_events (after_restart node) events))
stretch-found header text node events behind torn begins early sound life fits =
    let entry = entry_of (said_restart node) in
    let entries = entry ∷ life.entries in
    let final = kept (after_events (after_restart node) events) in
    let fit : AreFit entries =
    entries_fit entries (All-append IsEntry (entry ∷ []) life.entries (one-is node early sound) life.are)
    (All-append IsOfTaken (entry ∷ []) life.entries (one-taken node) life.taken) in
    let made : replayed_all (rested node) (all_steps entries) ≡ Some final =
    ap (replayed_all (rested node)) (one-step node life.entries ∙ ap (λ s. entry ∷ s) life.steps) ∙ stretch-replays node events early in
    ap (λ t. found header (text ++ t))
    (ap (λ b. restart_line node ++ (b ++ torn)) life.is ∙ sym (shape (entry_line entry) (entries_text life.entries) torn))
    ∙ steps_found (beginning header text node) entries final torn begins fit made fits

rested-found : (header : Header) (text : List ℕ) (node : Node) (torn : List ℕ) → Begins (beginning header text node) → Fits max_journal_line torn
    → found header (text ++ torn) ≡ Sound (rested node)
rested-found header text node torn begins fits = steps_found (beginning header text node) [] (rested node) torn begins tt refl fits

-- ---- before the restart's entry is durable

none-left : (header : Header) (text : List ℕ) (node : Node) (n : ℕ) (left : List ℕ) → Begins (beginning header text node) → left ≡ text ++ take n []
    → LeavesRested header text node text left
none-left header text node n left begins e =
    (refl, inl (ap (found header) (e ∙ ap (λ t. text ++ t) (take-nil n)) ∙ rested-found header text node [] begins nothing-torn))

line-left : (header : Header) (text : List ℕ) (node : Node) (n : ℕ) (left : List ℕ) → Begins (beginning header text node) → is_late node 0 ≡ false
    → proper.Sound node → left ≡ text ++ take n (restart_line node) → LeavesRested header text node text left
line-left header text node n left begins early sound e =
    let line = entry_line (entry_of (said_restart node)) in
    let fit : AreFit (entry_of (said_restart node) ∷ []) = entries_fit (entry_of (said_restart node) ∷ []) (one-is node early sound) (one-taken node) in (
      refl,
      elim (within-line n line []) [
        | inl h ↦
            inl (ap (found header) (e ∙ ap (λ t. text ++ t) h) ∙ rested-found header text node (take n line) begins (fits-front n line fit.0.1))
        | inr h ↦
            inr (
            ap (found header) (e ∙ ap (λ t. text ++ t) (h.1 ∙ ap (λ t. line ++ 10 ∷ t) (take-nil h.0) ∙ sym (append-nil (restart_line node))))
            ∙ stretch-found header text node [] [] [] begins early sound (life_begins (after_restart node)) nothing-torn
            )
      ],
    )

-- ---- behind it

left-stretch : (header : Header) (text : List ℕ) (node : Node) (disk : Disk) (left : List ℕ) → Begins (beginning header text node) → is_late node 0 ≡ false
    → proper.Sound node → OnDisk (after_restart node) (text ++ restart_line node) disk → MayLeave disk left
    → LeavesStretch header (text ++ restart_line node) (after_restart node) disk.durable left
left-stretch header text node disk left begins early sound on may =
    let now = after_restart node in
    let begun = text ++ restart_line node in
    let cut : Cut (after_events now on.life) on.next (take may.0 disk.loose) = cut_life (after_events now on.life) on.next disk.loose may.0 on.next_taken on.later in
    let both : IsLife now (on.life ++ cut.front) (on.text ++ cut.whole) = life_both now on.life cut.front on.text cut.whole on.is cut.is in
    let whole : left ≡ text ++ (restart_line node ++ ((on.text ++ cut.whole) ++ cut.torn)) =
    may.1 ∙ ap (λ t. disk.durable ++ t) cut.text ∙ ap (λ d. d ++ (cut.whole ++ cut.torn)) on.durable
    ∙ append_assoc begun on.text (cut.whole ++ cut.torn) ∙ ap (λ t. begun ++ t) (sym (append_assoc on.text cut.whole cut.torn))
    ∙ append_assoc text (restart_line node) ((on.text ++ cut.whole) ++ cut.torn) in
    record {
      life = on.life;
      more = cut.front;
      taken = All-append IsTaken on.life cut.front on.life_taken cut.taken;
      entries = on.text;
      holds = on.durable;
      is = on.is;
      sound = ap (found header) whole ∙ stretch-found header text node (on.life ++ cut.front) (on.text ++ cut.whole) cut.torn begins early sound both cut.fits;
    }

-- ---- the desk that restarts

desk-is : (desk : Desk) → IsIdle desk → desk ≡ record desk { recorded = []; row = None }
desk-is desk idle = ap₂ (λ r w. record desk { recorded = r; row = w }) idle.none idle.row

plainly-recorded : (desk : Desk) → (restarted (record desk { recorded = []; row = None })).recorded ≡ restart_line desk.node
unfolding restarted step_entry
plainly-recorded desk = refl

plainly-closed : (desk : Desk) → (restarted (record desk { recorded = []; row = None })).row ≡ None
unfolding restarted step_entry
plainly-closed desk = refl

recorded-is : (desk : Desk) → IsIdle desk → (restarted desk).recorded ≡ restart_line desk.node
recorded-is desk idle = ap (λ d. (restarted d).recorded) (desk-is desk idle) ∙ plainly-recorded desk

closed-is : (desk : Desk) → IsIdle desk → (restarted desk).row ≡ None
closed-is desk idle = ap (λ (d : Desk). (restarted d).row) (desk-is desk idle) ∙ plainly-closed desk

node-is : (desk : Desk) → (restarted desk).node ≡ after_restart desk.node
unfolding restarted step_entry
node-is desk = refl

line-is : (desk : Desk) → (restarted desk).line ≡ desk.line
unfolding restarted step_entry
line-is desk = refl

kept-is : (desk : Desk) → (restarted desk).kept ≡ []
unfolding restarted step_entry
kept-is desk = refl

-- it is idle once that is published
pub again_idle : (desk : Desk) → IsIdle desk → IsIdle (cleared (restarted desk))
again_idle desk idle = record {
  none = refl;
  row = closed-is desk idle;
  unended = subst Unended (sym (line-is desk)) idle.unended;
  held = subst KeepsTaken (sym (kept-is desk)) keeps_none;
}

greeting-idle : (header : Header) (seal : Seal) (node : Node) (start : Start) → IsIdle (greeting_from header seal node start)
greeting-idle header seal node start = record { none = refl; row = refl; unended = All-nil IsNoFeed; held = keeps_none }

pub begun_idle : (header : Header) (seal : Seal) (is_new : Bool) (node : Node) (start : Start) → IsIdle (cleared (desk_from header seal is_new node start))
begun_idle header seal true node start = record { none = refl; row = refl; unended = All-nil IsNoFeed; held = keeps_none }
begun_idle header seal false node start = again_idle (greeting_from header seal node start) (greeting-idle header seal node start)

-- and so it stays
pub stays_idle : (desk : Desk) (bytes : List ℕ) → IsIdle desk → IsIdle (cleared (on_bytes desk bytes))
stays_idle desk bytes idle =
    let t = took_bytes bytes desk idle.unended idle.held idle.row in
    record { none = refl; row = t.tidy.1; unended = line_bytes bytes desk idle.unended; held = t.tidy.0 }

-- ---- the law

is-nothing : {X : Type 0} (xs : List X) (b : Bool) → ((length xs == 0) && b) ≡ true → xs ≡ []
is-nothing [] b e = refl
is-nothing (x ∷ xs) b e = absurd (grind (arith, nat_tests))

sound-node : (desk : Desk) → is_at_rest desk ≡ true → proper.Sound (rested desk.node) → proper.Sound desk.node
sound-node desk rest sound =
    let node = desk.node in
    let none = is-nothing node.waiting (length desk.kept == 0) rest in
    record { clock = sound.clock; asks = subst (All (IsProper node.me)) (sym none) (All-nil (IsProper node.me)) }

early-is : (clock : ℕ) → clock < greatest → (max clock 0 == greatest) ≡ false
early-is clock h = grind (arith, nat_tests)

at-stretch : (reads : List (List ℕ)) (header : Header) (desk : Desk) (text : List ℕ) → Begins (beginning header text desk.node) → is_late desk.node 0 ≡ false
    → proper.Sound desk.node → IsIdle desk → AtAll (Leaves (LeavesShorter header text desk.node)) (disk_of text) (run (restarted desk) reads)
at-stretch reads header desk text begins early sound idle =
    let node = desk.node in
    let now = after_restart node in
    let first = restarted desk in
    let begun = text ++ restart_line node in
    let P = Leaves (LeavesShorter header text node) in
    let right : proper.Sound now = restarted-sound node (is_late node 0) early (proper.event-sound node Restarted sound) in
    let written : text ++ first.recorded ≡ begun ++ [] = ap (λ t. text ++ t) (recorded-is desk idle) ∙ sym (append-nil begun) in
    let behind : (disk : Disk) → OnDisk now begun disk → P disk = λ disk on left may. inr (left-stretch header text node disk left begins early sound on may) in
    let again = again_idle desk idle in
    let stands : Stands now [] [] (cleared first) = record {
      taken = All-nil IsTaken;
      is = life_begins now;
      same = node-is desk;
      none = refl;
      row = again.row;
      unended = again.unended;
      held = again.held;
    } in
    at-both P (publishing first) (serving (cleared first) reads) (disk_of text)
    (
    at-publishing P first text (λ left may. inl (none-left header text node may.0 left begins may.1))
    (
    subst (λ t. P (appended text t)) (sym (recorded-is desk idle))
    (λ left may. inl (line-left header text node may.0 left begins early sound may.1))
    )
    (subst (λ t. P (disk_of t)) (sym written) (behind (disk_of (begun ++ [])) (on-disk now begun [] [] (All-nil IsTaken) (life_begins now))))
    )
    (
    subst (λ d. AtAll P d (serving (cleared first) reads)) (sym (published-disk first text ∙ ap disk_of written))
    (at-weaker (OnDisk now begun) P (serving (cleared first) reads) (disk_of (begun ++ [])) behind
    (at-serving reads now begun [] [] (cleared first) right stands))
    )

pub stays_sound : (header : Header) (desk : Desk) (text : List ℕ) → IsHeader header → IsIdle desk → Rests Due desk → Shortens header desk.node text
    → LeavesShorterSound header desk text
stays_sound header desk text is idle rest shortens result acts before after left ran e may =
    let begins = beginnings.begins (beginning header text desk.node) (shortening.begins header desk.node text is shortens) in
    let early = early-is desk.node.clock rest.1 in
    let sound = sound-node desk rest.0 begins.sound in
    at-front (Leaves (LeavesShorter header text desk.node)) before (disk_of text) acts after e
    (
    at-acts (LeavesShorter header text desk.node) (restarted desk) (disk_of text)
    (λ reads. at-stretch reads header desk text begins early sound idle)
    result acts ran
    )
    left may
