-- An unmap that gives a page up makes exactly the steps that its entry stands for.
use Rattle.std.proofs.Common.{◌≡◌, ℕ, suc, ◌+◌, ◌<◌, ◌≤◌, ◌==◌, Bool, true, false, List, [], ◌∷◌, ◌++◌, Option, Some, None, cond, length, map, max, slice_index, refl, ap, sym, ◌∙◌, arith}
use Rattle.std.specs.List.{All}
use Rattle.std.specs.Prelude.{◌^◌, option_map}
use Rattle.std.proofs.lemmas.Bool.Decides.{nat_tests}
use Rattle.std.proofs.lemmas.List.{length-append}
use Rattle.std.proofs.lemmas.List.Elements.{All-append, All-cons, All-head, All-nil, All-tail}
use Rattle.std.proofs.lemmas.List.Sums.{sum_by-cons}
use Rattle.shm_model.specs.Basics.{greatest}
use Rattle.shm_model.specs.Receipt.{access_of}
use Rattle.shm_model.specs.declared.asked_access.Asked.TheVariants.{Store}
use Rattle.shm_lines.specs.Words.{IsWide}
use Rattle.shm_wire.proofs.LineWords.{line-is_read}
use Rattle.shm_wire.specs.Line as stream
use Rattle.shm_wire.specs.Line.{IsLine, line_text}
use Rattle.shm_wire.specs.Unmaps.{IsRun, IsUnmap, Run, UnmapAsk}
use Rattle.shm_process.specs.Cause.{Cause, OfLine, OfRestart, cause_text}
use Rattle.shm_process.specs.Causes.{bare, brought_run, brought_runs, store_line, unmap_causes}
use Rattle.shm_process.specs.Desk.{Desk, brought, given_up, stored_run, told_quietly, unmap_entry, unrecorded, with_record}
use Rattle.shm_process.specs.Mapped.{byte_place, page_at}
use Rattle.shm_process.specs.Meetings.{meeting}
use Rattle.shm_process.specs.Node.{Node, Heard, Said, asked_under, heard, is_late, next_clock, says}
use Rattle.shm_process.specs.Recorded.{Entry, Event, IsEntry, Line, after_event, after_events, entries_from, entries_of, entries_text, recorded, said_at, steps_of}
use Rattle.shm_process.specs.Remaps.{first_load, unmapped_to}
use Rattle.shm_process.specs.Waiting.{after, after_heard, after_read, joining, joins, said, said_read, taken}
use Rattle.shm_process.specs.declared.line_meeting.Meeting.TheVariants.{Unmaps}
use Rattle.shm_process.proofs.MetLines.{run-within, stores_in}
use Rattle.shm_process.proofs.UnmapClocks.{unmap_clocks}

-- ---- lines that make a step each

record Hears (node : Node) (line : stream.Line) : Type 0 where
  what : Heard
  is : heard node line ≡ Some what
  source : what.source ≡ 0

-- the site's own line makes a step under the next clock
record IsOwn (site : ℕ) (line : stream.Line) : Type 0 where
  spelled : IsLine line
  hears : (node : Node) → node.me ≡ site → is_late node 0 ≡ false → Hears node line

abbrev IsStep : ℕ → Cause → Type 0
IsStep site (OfLine line) = IsOwn site line
IsStep site OfRestart = ⊥

-- the event that its line is
abbrev pub event_of : Cause → Event
event_of cause = Line (cause_text cause)

record Makes (node : Node) (cause : Cause) : Type 0 where
  me : (after_event node (event_of cause)).me ≡ node.me
  clock : (after_event node (event_of cause)).clock ≡ next_clock node 0
  entry : (more : List Entry) → recorded (said_at node (event_of cause)) more ≡ record { clock = next_clock node 0; cause = cause } ∷ more

not-late : (clock : ℕ) → clock < greatest → (max clock 0 == greatest) ≡ false
not-late clock h = grind (arith, nat_tests)

event-after : (node : Node) (line : stream.Line) → IsLine line → after_event node (Line (line_text line)) ≡ after node line
event-after node line is = ap (after_read node) (line-is_read line is)

makes : (site : ℕ) (cause : Cause) (node : Node) → IsStep site cause → node.me ≡ site → node.clock < greatest → Makes node cause
makes site (OfLine line) node is own early =
    let h = is.hears node own (not-late node.clock early) in
    let next : after_event node (Line (line_text line)) ≡ taken node h.what = event-after node line is.spelled ∙ ap (after_heard node (joining node line)) h.is in
    let says_so : said_at node (Line (line_text line)) ≡ Some (says node (OfLine line) h.what (joins node h.what)) =
    ap (said_read node) (line-is_read line is.spelled) ∙ ap (option_map (λ x. says node (OfLine line) x (joins node x))) h.is in
    record {
      me = ap (λ (n : Node). n.me) next;
      clock = ap (λ (n : Node). n.clock) next ∙ ap (next_clock node) h.source;
      entry = λ more.
          let at : ℕ → List Entry = λ n. record { clock = next_clock node n; cause = OfLine line } ∷ more in
          ap (λ s. recorded s more) says_so ∙ ap at h.source;
    }
makes site OfRestart node is own early = absurd is

clock-on : (clock next : ℕ) → next ≡ max clock 0 + 1 → max next 0 + 1 ≡ (max clock 0 + 1) + 1
clock-on clock next h = grind (arith, nat_tests)

room-on : (clock next n : ℕ) → next ≡ max clock 0 + 1 → clock + suc n ≤ greatest → next + n ≤ greatest
room-on clock next n h room = grind (arith, nat_tests)

early-of : (clock n : ℕ) → clock + suc n ≤ greatest → clock < greatest
early-of clock n room = omega (arith, room)

steps-are : (causes : List Cause) (site : ℕ) (node : Node) → All (IsStep site) causes → node.me ≡ site → node.clock + length causes ≤ greatest
    → entries_of node (map event_of causes) ≡ entries_from (next_clock node 0) causes
unfolding entries_from
steps-are [] site node all own room = refl
steps-are (cause ∷ causes) site node all own room =
    let made = makes site cause node (All-head (IsStep site) cause causes all) own (early-of node.clock (length causes) room) in
    let next = after_event node (event_of cause) in
    let first : Entry = record { clock = next_clock node 0; cause = cause } in
    made.entry (entries_of next (map event_of causes))
    ∙ ap (λ es. first ∷ es)
    (
    steps-are causes site next (All-tail (IsStep site) cause causes all) (made.me ∙ own) (room-on node.clock next.clock (length causes) made.clock room)
    ∙ ap (λ n. entries_from n causes) (clock-on node.clock next.clock made.clock)
    )

-- ---- a desk that makes them

abbrev made_by : Desk → Cause → Desk
made_by d (OfLine line) = unrecorded d line
made_by d OfRestart = d

abbrev made_by_all : List Cause → Desk → Desk
made_by_all [] d = d
made_by_all (cause ∷ causes) d = made_by_all causes (made_by d cause)

told-node : (d : Desk) (o : Option Said) → (told_quietly d o).node ≡ d.node
told-node d None = refl
told-node d (Some says) = refl

line-node : (d : Desk) (line : stream.Line) → (unrecorded d line).node ≡ after d.node line
unfolding unrecorded
line-node d line = told-node (record d { node = after d.node line }) (said d.node line)

cause-node : (site : ℕ) (cause : Cause) (d : Desk) → IsStep site cause → (made_by d cause).node ≡ after_event d.node (event_of cause)
cause-node site (OfLine line) d is = line-node d line ∙ sym (event-after d.node line is.spelled)
cause-node site OfRestart d is = absurd is

causes-node : (causes : List Cause) (site : ℕ) (d : Desk) → All (IsStep site) causes → (made_by_all causes d).node ≡ after_events d.node (map event_of causes)
causes-node [] site d all = refl
causes-node (cause ∷ causes) site d all =
    causes-node causes site (made_by d cause) (All-tail (IsStep site) cause causes all)
    ∙ ap (λ n. after_events n (map event_of causes)) (cause-node site cause d (All-head (IsStep site) cause causes all))

-- nothing else is recorded, and no line kept back
record Stays (old new : Desk) : Type 0 where
  recorded : new.recorded ≡ old.recorded
  row : new.row ≡ old.row
  kept : new.kept ≡ old.kept

told-stays : (d : Desk) (node : Node) (o : Option Said) → Stays d (told_quietly (record d { node = node }) o)
told-stays d node None = record { recorded = refl; row = refl; kept = refl }
told-stays d node (Some says) = record { recorded = refl; row = refl; kept = refl }

cause-stays : (cause : Cause) (d : Desk) → Stays d (made_by d cause)
unfolding unrecorded
cause-stays (OfLine line) d = told-stays d (after d.node line) (said d.node line)
cause-stays OfRestart d = record { recorded = refl; row = refl; kept = refl }

causes-stay : (causes : List Cause) (d : Desk) → Stays d (made_by_all causes d)
causes-stay [] d = record { recorded = refl; row = refl; kept = refl }
causes-stay (cause ∷ causes) d =
    let first = cause-stays cause d in
    let later = causes-stay causes (made_by d cause) in
    record { recorded = later.recorded ∙ first.recorded; row = later.row ∙ first.row; kept = later.kept ∙ first.kept }

made-both : (xs ys : List Cause) (d : Desk) → made_by_all (xs ++ ys) d ≡ made_by_all ys (made_by_all xs d)
made-both [] ys d = refl
made-both (x ∷ xs) ys d = made-both xs ys (made_by d x)

run-made : (bytes : List ℕ) (d : Desk) (ask : UnmapAsk) (offset : ℕ) → stored_run d ask offset bytes ≡ made_by_all (brought_run ask offset bytes) d
unfolding stored_run brought_run
run-made [] d ask offset = refl
run-made (byte ∷ bytes) d ask offset = run-made bytes (unrecorded d (store_line ask offset byte)) ask (offset + 1)

runs-made : (runs : List Run) (d : Desk) (ask : UnmapAsk) → brought d ask runs ≡ made_by_all (brought_runs ask runs) d
unfolding brought brought_runs
runs-made [] d ask = refl
runs-made (run ∷ runs) d ask =
    let first = brought_run ask run.offset run.bytes in
    ap (λ x. brought x ask runs) (run-made run.bytes d ask run.offset) ∙ runs-made runs (made_by_all first d) ask
    ∙ sym (made-both first (brought_runs ask runs) d)

by-causes : (d : Desk) (ask : UnmapAsk) → unrecorded (brought d ask ask.runs) (stream.Unmap (bare ask)) ≡ made_by_all (unmap_causes ask) d
by-causes d ask =
    ap (λ x. unrecorded x (stream.Unmap (bare ask))) (runs-made ask.runs d ask)
    ∙ sym (made-both (brought_runs ask ask.runs) (OfLine (stream.Unmap (bare ask)) ∷ []) d)

-- ---- the lines of an unmap

run-length : (bytes : List ℕ) (ask : UnmapAsk) (offset : ℕ) → length (brought_run ask offset bytes) ≡ length bytes
unfolding brought_run
run-length [] ask offset = refl
run-length (byte ∷ bytes) ask offset = ap suc (run-length bytes ask (offset + 1))

runs-length : (runs : List Run) (ask : UnmapAsk) → length (brought_runs ask runs) ≡ stores_in runs
unfolding brought_runs
runs-length [] ask = refl
runs-length (run ∷ runs) ask =
    let both = length-append (brought_run ask run.offset run.bytes) (brought_runs ask runs) in
    let first = run-length run.bytes ask run.offset in
    let more = runs-length runs ask in
    let sum = sum_by-cons (λ (r : Run). length r.bytes) run runs in
    omega (arith, both, first, more, sum)

unmap-length : (ask : UnmapAsk) → length (unmap_causes ask) ≡ stores_in ask.runs + 1
unmap-length ask =
    let both = length-append (brought_runs ask ask.runs) (OfLine (stream.Unmap (bare ask)) ∷ []) in
    let first = runs-length ask.runs ask in
    omega (arith, both, first)

first-place : (offset count : ℕ) → offset + suc count ≤ 2 ^ 32 → offset < 2 ^ 32
first-place offset count h = omega (arith, h)

next-place : (offset count : ℕ) → offset + suc count ≤ 2 ^ 32 → (offset + 1) + count ≤ 2 ^ 32
next-place offset count h = omega (arith, h)

-- what holds of each store of a byte, and of the last step, holds of all
module _ (P : Cause → Type 0) (ask : UnmapAsk) (stores : (offset byte : ℕ) → offset < 2 ^ 32 → byte < 256 → P (OfLine (store_line ask offset byte))) where
  run-all : (bytes : List ℕ) (offset : ℕ) → offset + length bytes ≤ 2 ^ 32 → ((i : ℕ) → slice_index bytes i < 256) → All P (brought_run ask offset bytes)
  unfolding brought_run
  run-all [] offset within small = All-nil P
  run-all (byte ∷ bytes) offset within small =
      All-cons P (OfLine (store_line ask offset byte)) (brought_run ask (offset + 1) bytes) (stores offset byte (first-place offset (length bytes) within) (small 0))
      (run-all bytes (offset + 1) (next-place offset (length bytes) within) (λ i. small (suc i)))

  runs-all : (runs : List Run) → All IsRun runs → All P (brought_runs ask runs)
  unfolding brought_runs
  runs-all [] are = All-nil P
  runs-all (run ∷ runs) are =
      let r = All-head IsRun run runs are in
      All-append P (brought_run ask run.offset run.bytes) (brought_runs ask runs)
      (run-all run.bytes run.offset (run-within run.offset (length run.bytes) r.1) r.2) (runs-all runs (All-tail IsRun run runs are))

  unmap-all : IsUnmap ask → P (OfLine (stream.Unmap (bare ask))) → All P (unmap_causes ask)
  unmap-all is last =
      let one : List Cause = OfLine (stream.Unmap (bare ask)) ∷ [] in
      All-append P (brought_runs ask ask.runs) one (runs-all ask.runs is.4) (All-cons P (OfLine (stream.Unmap (bare ask))) [] last (All-nil P))

-- the unmap has a line without its bytes, and so has the store of each of them
bare-is-unmap : (ask : UnmapAsk) → IsUnmap ask → IsUnmap (bare ask)
bare-is-unmap ask is = (is.0, is.1, is.2, is.3, All-nil IsRun)

store-is-line : (ask : UnmapAsk) (offset byte : ℕ) → IsUnmap ask → offset < 2 ^ 32 → byte < 256 → IsLine (store_line ask offset byte)
store-is-line ask offset byte is place small = (is.0, is.1, (is.2, place, small))

own-test : (site me : ℕ) → me ≡ site → (site == me) ≡ true
own-test site me h = grind (arith, nat_tests)

is-heard : (own late : Bool) (x : Heard) → own ≡ true → late ≡ false → cond own (cond late None (Some x)) None ≡ Some x
is-heard own late x o l = ap (λ b. cond b (cond late None (Some x)) None) o ∙ ap (λ b. cond b None (Some x)) l

store-step : (ask : UnmapAsk) (offset byte : ℕ) → IsUnmap ask → offset < 2 ^ 32 → byte < 256 → IsOwn ask.site (store_line ask offset byte)
store-step ask offset byte is place small = record {
  spelled = store-is-line ask offset byte is place small;
  hears = λ node own early.
      let what : Heard = asked_under ask.tag None None (access_of (Store ask.at offset byte)) in
      record { what = what; is = is-heard (ask.site == node.me) (is_late node 0) what (own-test ask.site node.me own) early; source = refl };
}

bare-step : (ask : UnmapAsk) → IsUnmap ask → IsOwn ask.site (stream.Unmap (bare ask))
bare-step ask is = record {
  spelled = bare-is-unmap ask is;
  hears = λ node own early.
      let left = unmapped_to node.mapped ask.keeps (page_at node.site ask.at (byte_place ask.index 0)) in
      let what : Heard = asked_under ask.tag None left (first_load ask.at ask.index) in
      record { what = what; is = is-heard (ask.site == node.me) (is_late node 0) what (own-test ask.site node.me own) early; source = refl };
}

unmap-steps : (ask : UnmapAsk) → IsUnmap ask → All (IsStep ask.site) (unmap_causes ask)
unmap-steps ask is = unmap-all (IsStep ask.site) ask (λ offset byte place small. store-step ask offset byte is place small) is (bare-step ask is)

-- ---- an unmap

-- one entry is recorded, and has all steps
pub record UnmapMade (d : Desk) (ask : UnmapAsk) : Type 0 where
  pub node : (given_up d ask).node ≡ after_events d.node (map event_of (unmap_causes ask))
  pub steps : entries_of d.node (map event_of (unmap_causes ask)) ≡ steps_of (unmap_entry d.node ask)
  pub recorded : (given_up d ask).recorded ≡ d.recorded ++ entries_text (unmap_entry d.node ask ∷ [])
  pub row : (given_up d ask).row ≡ d.row
  pub kept : (given_up d ask).kept ≡ d.kept

room-for-all : (clock count n : ℕ) → clock + count < greatest → n ≡ count + 1 → clock + n ≤ greatest
room-for-all clock count n room is = omega (arith, room, is)

pub unmap_made : (d : Desk) (ask : UnmapAsk) → IsUnmap ask → meeting d.node (stream.Unmap ask) ≡ Unmaps → UnmapMade d ask
unfolding given_up
unmap_made d ask is met =
    let clocks = unmap_clocks d.node ask met in
    let causes = unmap_causes ask in
    let are = unmap-steps ask is in
    let begun = with_record (entries_text (unmap_entry d.node ask ∷ [])) d in
    let made = by-causes begun ask in
    let stays = causes-stay causes begun in
    record {
      node = ap (λ (x : Desk). x.node) made ∙ causes-node causes ask.site begun are;
      steps = steps-are causes ask.site d.node are clocks.own (room-for-all d.node.clock (stores_in ask.runs) (length causes) clocks.room (unmap-length ask));
      recorded = ap (λ (x : Desk). x.recorded) made ∙ stays.recorded;
      row = ap (λ (x : Desk). x.row) made ∙ stays.row;
      kept = ap (λ (x : Desk). x.kept) made ∙ stays.kept;
    }

-- its first step has the entry's clock
first-wide : (clock : ℕ) (xs : List Cause) (last : Cause) → All IsEntry (entries_from clock (xs ++ last ∷ [])) → IsWide clock
unfolding entries_from
first-wide clock [] last all = (All-head IsEntry (record { clock = clock; cause = last }) [] all).0
first-wide clock (x ∷ xs) last all = (All-head IsEntry (record { clock = clock; cause = x }) (entries_from (clock + 1) (xs ++ last ∷ [])) all).0

pub unmap_first : (node : Node) (ask : UnmapAsk) → All IsEntry (steps_of (unmap_entry node ask)) → IsWide (next_clock node 0)
unmap_first node ask all = first-wide (next_clock node 0) (brought_runs ask ask.runs) (OfLine (stream.Unmap (bare ask))) all
