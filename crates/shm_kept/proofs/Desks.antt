-- What a desk does with bytes: the events of its node, the entries that it recorded of them, and that what it mapped was kept at each.
use Rattle.std.proofs.Common.{◌≡◌, ℕ, zero, suc, ◌+◌, ◌<◌, ◌≤◌, Bool, true, false, List, [], ◌∷◌, ◌++◌, drop, length, map, refl, subst, take, ap, sym, ◌∙◌, append-nil, arith, cond}
use Rattle.std.specs.List.{All}
use Rattle.std.specs.Option.{option_map_or}
use Rattle.std.specs.Prelude.{Option, Some, None, Result, Ok, Err, nat_lt, ◌&&◌, ◌==◌, ◌^◌}
use Rattle.std.proofs.lemmas.Bool.Decides.{nat_tests}
use Rattle.std.proofs.lemmas.List.{take-append-drop}
use Rattle.std.proofs.lemmas.List.Elements.{All-append, All-cons, All-head, All-nil, All-tail}
use Rattle.base64.specs.GeneralPurpose.{IsBytes}
use Rattle.shm_place.specs.declared.page_id.PageId.{PageId}
use Rattle.shm_model.specs.declared.answer.Answer.{Answer}
use Rattle.shm_model.specs.declared.asked_access.Asked.{Asked}
use Rattle.shm_model.specs.declared.answer.Answer.TheVariants.{Refused, Waiting}
use Rattle.shm_model.specs.declared.request_kind.Kind.{Kind}
use Rattle.shm_model.specs.Refusal.{busy, foreign_message}
use Rattle.shm_laws.proofs.Page.Entry.{false-true}
use Rattle.shm_seal.specs.Seal.{opened}
use Rattle.shm_seal.specs.declared.open_line_error.Unsealed.{Unsealed}
use Rattle.shm_wire.proofs.LineWords.{line-is_read, line-is_spelled}
use Rattle.shm_wire.specs.Asks.{Ask, IsBlock}
use Rattle.shm_wire.specs.Line as stream
use Rattle.shm_wire.specs.Sent.{Sent}
use Rattle.shm_wire.specs.declared.caller_ask.Question.{Question}
use Rattle.shm_wire.specs.declared.mapping_text.Mapping.{Mapping}
use Rattle.shm_wire.specs.Line.{IsLine, read_line}
use Rattle.shm_wire.specs.Unmaps.{IsRun, IsUnmap, Run, UnmapAsk}
use Rattle.shm_wire.specs.declared.mapping_text.RevokeText.{RevokeText}
use Rattle.shm_process.specs.Access.{is_open}
use Rattle.shm_process.specs.Cause.{OfLine}
use Rattle.shm_process.specs.Causes.{bare, brought_run, brought_runs, store_line, unmap_causes}
use Rattle.shm_process.specs.Desk.{Desk, KeptLine, after_line, after_opened, after_read_line, all_met, answered, by_meeting, finished, given_up, grown, keep, later_met, left_sealed, made_and_told, map_reply, max_line_bytes, may_keep, met, met_read, noted, on_byte, on_bytes, passed, quietly, reminded, reminded_if, restarted, revoked, settled, step_entry, tag_in, taken, ticks, tried, tried_by, try_of, unmap_entry, untagged, with_other, with_step}
use Rattle.shm_process.proofs.Tries.{meeting-tries, try-is_line}
use Rattle.shm_process.specs.Hello.{first_other, read_hello}
use Rattle.shm_process.specs.Mapped.{is_detained, keeps_beside, keeps_under, passing, verdict_for, wanted}
use Rattle.shm_process.specs.Meetings.{access_meeting, begin_meeting, given_up_if, has_clocks, is_due, map_meeting, meeting, question_meeting, revoking, try_meeting, withheld}
use Rattle.shm_process.specs.Node.{Node, Said, is_lost, new_node}
use Rattle.shm_process.specs.Remaps.{has_right, may_unmap, right_asked, waits_for_right}
use Rattle.shm_process.specs.Recorded.{Entry, Event, IsEntry, Line, after_event, after_events, all_steps, entries_of, kept, replayed_all, said_at, steps_of}
use Rattle.shm_process.specs.Waiting.{after, after_read, after_restart, most_steps, passed_over, said, said_read}
use Rattle.shm_process.specs.declared.hello_line.Hello.{Hello}
use Rattle.shm_process.specs.declared.site_opening.Disagreement.{Disagreement}
use Rattle.shm_process.proofs.Events.{steps_both}
use Rattle.shm_process.proofs.FirstEvents.{first_events}
use Rattle.shm_process.proofs.Replays.{replays}
use Rattle.shm_process.proofs.UnmapSteps.{event_of, unmap_first, unmap_made}
use Rattle.shm_wire.specs.declared.caller_ask.Question.TheVariants as question
use Rattle.shm_model.specs.declared.asked_access.Asked.TheVariants as access
use Rattle.shm_kept.specs.Kept.{Comes, DidKeep, Happening, IsCleared, IsKept, KeptThrough, Restarts, after_happening, after_happenings}
use Rattle.shm_kept.proofs.Rights.{GoodNode, good-kept, kept-good}
use Rattle.shm_kept.proofs.Nodes.{IsFree, after-good, detains, new-good, restart-good, try-good, unmap-good}
use Rattle.shm_kept.proofs.Keeping.{IsKeeping, Keeps, did-cond, did-good, did-nothing, did-of-keeps, did-one, did-settled, did-then, did-too-long, kept-causes, untagged-entry}

run-end : (offset count : ℕ) → IsBlock offset count → offset + count ≤ 2 ^ 32
run-end offset count h = grind (arith, nat_tests)

-- ---- a line while pages are mapped

-- a line was taken, and what is told of it may be less
module _ (d : Desk) (g : GoodNode d.node) (bytes : List ℕ) (line : stream.Line) (is : read_line bytes ≡ Some line) (h : GoodNode (after d.node line)) where
  after-is : after d.node line ≡ after_event d.node (Line bytes)
  after-is = ap (after_read d.node) (sym is)

  said-is : said d.node line ≡ said_at d.node (Line bytes)
  said-is = ap (said_read d.node) (sym is)

  did-taken : Keeps d (taken d (Some line))
  unfolding taken
  did-taken = did-one d (taken d (Some line)) (Line bytes) g h after-is (ap (λ s. d.recorded ++ step_entry s) said-is) refl

  did-quietly : Keeps d (quietly d line)
  unfolding quietly
  did-quietly =
      did-one d (quietly d line) (Line bytes) g h after-is
      (ap (λ e. d.recorded ++ e) (untagged-entry (said d.node line)) ∙ ap (λ s. d.recorded ++ step_entry s) said-is) refl

  did-made : (text : List ℕ) → Keeps d (made_and_told d line text)
  did-made text = did-then d (quietly d line) (made_and_told d line text) did-quietly (λ k. did-nothing (quietly d line) (made_and_told d line text) k refl refl refl)

did-answered : (d : Desk) → GoodNode d.node → (tag : Option (List ℕ)) (answer : Answer) → Keeps d (answered d tag answer)
did-answered d g tag answer = did-too-long d (answered d tag answer) g refl refl refl

did-keep : (d : Desk) → GoodNode d.node → (page : Option PageId) (line : List ℕ) (tag : Option (List ℕ)) → Keeps d (keep d page line tag)
did-keep d g page line tag =
    did-cond (may_keep d.kept page) d (record d { kept = d.kept ++ record { line = line; page = page } ∷ [] }) (answered d tag Waiting)
    (did-nothing d (record d { kept = d.kept ++ record { line = line; page = page } ∷ [] }) g refl refl refl) (did-answered d g tag Waiting)

did-revoked : (d : Desk) → GoodNode d.node → (fresh : Bool) (wants : Option RevokeText) → Keeps d (revoked fresh wants d)
did-revoked d g false wants = did-nothing d d g refl refl refl
did-revoked d g true wants = did-nothing d (revoked true wants d) g refl refl refl

-- the step that was said was made
did-tried_by : (d : Desk) → GoodNode d.node → (line bytes : List ℕ) (step : stream.Line) (tag : Option (List ℕ)) (says : Option Said) → read_line bytes ≡ Some step
    → said d.node step ≡ says → GoodNode (after d.node step) → Keeps d (tried_by (record d { node = after d.node step }) line tag says)
unfolding step_entry
did-tried_by d g line bytes step tag None is so h =
    let now = record d { node = after d.node step } in
    did-one d now (Line bytes) g h (after-is d g bytes step is h)
    (sym (append-nil d.recorded) ∙ ap (λ s. d.recorded ++ step_entry s) (sym so ∙ said-is d g bytes step is h)) refl
did-tried_by d g line bytes step tag (Some says) is so h =
    let now = record d { node = after d.node step } in
    let quiet = with_step now (Some (untagged says)) in
    let loud = with_step now (Some says) in
    let recorded_so = ap (λ s. d.recorded ++ step_entry s) (sym so ∙ said-is d g bytes step is h) in
    let made : Keeps d loud = did-one d loud (Line bytes) g h (after-is d g bytes step is h) recorded_so refl in
    let quietly_made : Keeps d quiet = did-one d quiet (Line bytes) g h (after-is d g bytes step is h) recorded_so refl in
    did-cond (is_open says.answer) d (keep quiet None line tag) loud
    (did-then d quiet (keep quiet None line tag) quietly_made (λ k. did-keep quiet k None line tag)) made

did-tried : (d : Desk) → GoodNode d.node → (line : List ℕ) (read : stream.Line) (asked : Asked) → IsLine (try_of read asked) → GoodNode (after d.node (try_of read asked))
    → Keeps d (tried d line read asked)
unfolding tried
did-tried d g line read asked proper h =
    let step = try_of read asked in
    did-tried_by d g line (stream.line_text step) step (tag_in step) (said d.node step) (line-is_read step proper) refl h

-- a byte that is brought is stored by a line of its own
store-is_line : (ask : UnmapAsk) (offset byte : ℕ) → IsUnmap ask → offset < 2 ^ 32 → byte < 256 → IsLine (store_line ask offset byte)
store-is_line ask offset byte is place small = (is.0, is.1, (is.2, place, small))

first-place : (offset count : ℕ) → offset + suc count ≤ 2 ^ 32 → offset < 2 ^ 32
first-place offset count h = omega (arith, h)

next-place : (offset count : ℕ) → offset + suc count ≤ 2 ^ 32 → (offset + 1) + count ≤ 2 ^ 32
next-place offset count h = omega (arith, h)

store-keeps : (ask : UnmapAsk) (offset byte : ℕ) → IsLine (store_line ask offset byte) → IsKeeping (OfLine (store_line ask offset byte))
store-keeps ask offset byte proper node g =
    let stores : Ask = record { site = ask.site; tag = ask.tag; asked = question.Try (access.Store ask.at offset byte) } in
    subst GoodNode (sym (ap (after_read node) (line-is_read (store_line ask offset byte) proper))) (try-good node g stores (access.Store ask.at offset byte) refl)

run-keeps : (bytes : List ℕ) (ask : UnmapAsk) (offset : ℕ) → IsUnmap ask → offset + length bytes ≤ 2 ^ 32 → IsBytes bytes → All IsKeeping (brought_run ask offset bytes)
unfolding brought_run
run-keeps [] ask offset is within small = All-nil IsKeeping
run-keeps (byte ∷ bytes) ask offset is within small =
    let proper = store-is_line ask offset byte is (first-place offset (length bytes) within) (small 0) in
    All-cons IsKeeping (OfLine (store_line ask offset byte)) (brought_run ask (offset + 1) bytes) (store-keeps ask offset byte proper)
    (run-keeps bytes ask (offset + 1) is (next-place offset (length bytes) within) (λ i. small (suc i)))

runs-keep : (runs : List Run) (ask : UnmapAsk) → IsUnmap ask → All IsRun runs → All IsKeeping (brought_runs ask runs)
unfolding brought_runs
runs-keep [] ask is proper = All-nil IsKeeping
runs-keep (run ∷ runs) ask is proper =
    let r = All-head IsRun run runs proper in
    All-append IsKeeping (brought_run ask run.offset run.bytes) (brought_runs ask runs)
    (run-keeps run.bytes ask run.offset is (run-end run.offset (length run.bytes) r.1) r.2)
    (runs-keep runs ask is (All-tail IsRun run runs proper))

bare-keeps : (ask : UnmapAsk) → IsUnmap ask → IsKeeping (OfLine (stream.Unmap (bare ask)))
bare-keeps ask is node g =
    let proper : IsLine (stream.Unmap (bare ask)) = (is.0, is.1, is.2, is.3, All-nil IsRun) in
    subst GoodNode (sym (ap (after_read node) (line-is_read (stream.Unmap (bare ask)) proper))) (unmap-good node g (bare ask))

unmap-keeps : (ask : UnmapAsk) → IsUnmap ask → All IsKeeping (unmap_causes ask)
unmap-keeps ask is =
    All-append IsKeeping (brought_runs ask ask.runs) (OfLine (stream.Unmap (bare ask)) ∷ []) (runs-keep ask.runs ask is is.4)
    (All-cons IsKeeping (OfLine (stream.Unmap (bare ask))) [] (bare-keeps ask is) (All-nil IsKeeping))

-- an unmap has the events of its steps
did-given_up : (d : Desk) → GoodNode d.node → (ask : UnmapAsk) → IsUnmap ask → meeting d.node (stream.Unmap ask) ≡ given_up_if true → Keeps d (given_up d ask)
did-given_up d g ask is so =
    let made = unmap_made d ask is so in
    record {
      events = map event_of (unmap_causes ask);
      node = made.node;
      kept = kept-causes (unmap_causes ask) d.node g (unmap-keeps ask is);
      records = λ none. record {
        entries = unmap_entry d.node ask ∷ [];
        recorded = made.recorded;
        steps = append-nil (steps_of (unmap_entry d.node ask)) ∙ sym made.steps;
        lines = λ all.
            All-cons IsEntry (unmap_entry d.node ask) [] (unmap_first d.node ask (subst (All IsEntry) made.steps all), is) (All-nil IsEntry);
        row = made.row ∙ none;
      };
    }

-- what becomes of a line by what is mapped, case by case
module _ (d : Desk) (g : GoodNode d.node) (fresh : Bool) (line : List ℕ) where
  did-free : (read : stream.Line) → read_line line ≡ Some read → IsFree d.node read → Keeps d (taken d (Some read))
  did-free read is free = did-taken d g line read is (after-good d.node g read free)

  did-kept : (read : stream.Line) (page : Option PageId) (wants : Option RevokeText) → Keeps d (keep (revoked fresh wants d) page line (tag_in read))
  did-kept read page wants =
      let next = revoked fresh wants d in
      did-then d next (keep next page line (tag_in read)) (did-revoked d g fresh wants) (λ k. did-keep next k page line (tag_in read))

  did-envelope : (sent : Sent) (lost : Bool) (found : Option Mapping) → read_line line ≡ Some (stream.Envelope sent) → is_lost d.node sent ≡ lost
      → wanted d.node.me sent.envelope.message d.node.mapped ≡ found
      → Keeps d (by_meeting fresh d line (stream.Envelope sent) (cond lost (begin_meeting false) (withheld d.node.me sent.envelope.message found)))
  unfolding by_meeting
  did-envelope sent true found is lost none = did-free (stream.Envelope sent) is (λ e. absurd (false-true (sym e ∙ lost)))
  did-envelope sent false None is lost none = did-free (stream.Envelope sent) is (λ e. none)
  did-envelope sent false (Some m) is lost none =
      did-kept (stream.Envelope sent) (Some m.page) (Some (revoking (keeps_under (verdict_for d.node.me sent.envelope.message m)) m))

  module _ (ask : Ask) (is : read_line line ≡ Some (stream.Ask ask)) where
    did-access : (asked : Asked) (found : Option Mapping) → detains d.node.mapped ask.asked ≡ false → Keeps d (by_meeting fresh d line (stream.Ask ask) (access_meeting asked found))
    unfolding by_meeting
    did-access asked None free = did-free (stream.Ask ask) is (λ e. free)
    did-access asked (Some m) free = did-kept (stream.Ask ask) None (Some (revoking (keeps_beside asked) m))

    did-try : (found : Option Mapping) → detains d.node.mapped ask.asked ≡ false → Keeps d (by_meeting fresh d line (stream.Ask ask) (try_meeting found))
    unfolding by_meeting
    did-try None free = did-free (stream.Ask ask) is (λ e. free)
    did-try (Some m) free = did-answered d g (Some ask.tag) Waiting

    did-begin : (detained : Bool) → detains d.node.mapped ask.asked ≡ detained → Keeps d (by_meeting fresh d line (stream.Ask ask) (begin_meeting detained))
    unfolding by_meeting
    did-begin true free = did-answered d g (Some ask.tag) (Refused busy)
    did-begin false free = did-free (stream.Ask ask) is (λ e. free)

    did-map : (at index : ℕ) (kind : Kind) (has waits : Bool) → detains d.node.mapped ask.asked ≡ false
        → meeting d.node (stream.Ask ask) ≡ map_meeting has waits at index kind → Keeps d (by_meeting fresh d line (stream.Ask ask) (map_meeting has waits at index kind))
    unfolding by_meeting
    did-map at index kind true waits free so = did-made d g line (stream.Ask ask) is (after-good d.node g (stream.Ask ask) (λ e. free)) (map_reply d.node at index)
    did-map at index kind false true free so = did-kept (stream.Ask ask) None None
    did-map at index kind false false free so =
        let asked = right_asked kind at index in
        let proper = (line-is_spelled line (stream.Ask ask) is).0 in
        did-tried d g line (stream.Ask ask) asked (try-is_line (stream.Ask ask) asked proper (meeting-tries d.node (stream.Ask ask) asked proper so))
        (try-good d.node g (record ask { asked = question.Try asked }) asked refl)

    did-question : (q : Question) → ask.asked ≡ q → is_due d.node ask.site ≡ true → Keeps d (by_meeting fresh d line (stream.Ask ask) (question_meeting d.node q))
    unfolding by_meeting
    did-question (question.Access asked) same due = did-access asked (passing d.node.mapped d.node.site asked) (ap (detains d.node.mapped) same)
    did-question (question.Try asked) same due = did-try (passing d.node.mapped d.node.site asked) (ap (detains d.node.mapped) same)
    did-question (question.Begin request) same due = did-begin (is_detained d.node.mapped request) (ap (detains d.node.mapped) same)
    did-question (question.Map at index kind) same due =
        did-map at index kind (has_right d.node.sites d.node.me d.node.site at index kind) (waits_for_right d.node.sites d.node.me d.node.site at index kind)
        (ap (detains d.node.mapped) same)
        (ap (λ here. cond here (question_meeting d.node ask.asked) (begin_meeting false)) due ∙ ap (question_meeting d.node) same)
    did-question (question.Read at offset count) same due = did-free (stream.Ask ask) is (λ e. ap (detains d.node.mapped) same)
    did-question question.Tick same due = did-free (stream.Ask ask) is (λ e. ap (detains d.node.mapped) same)
    did-question (question.Show page) same due = did-free (stream.Ask ask) is (λ e. ap (detains d.node.mapped) same)
    did-question question.Health same due = did-free (stream.Ask ask) is (λ e. ap (detains d.node.mapped) same)
    did-question question.Mappings same due = did-free (stream.Ask ask) is (λ e. ap (detains d.node.mapped) same)

    did-ask : (due : Bool) → is_due d.node ask.site ≡ due → Keeps d (by_meeting fresh d line (stream.Ask ask) (cond due (question_meeting d.node ask.asked) (begin_meeting false)))
    unfolding by_meeting
    did-ask true due = did-question ask.asked refl due
    did-ask false due = did-free (stream.Ask ask) is (λ e. absurd (false-true (sym due ∙ e)))

  did-unmap : (unmap : UnmapAsk) (due may : Bool) → read_line line ≡ Some (stream.Unmap unmap)
      → meeting d.node (stream.Unmap unmap) ≡ cond due (given_up_if may) (begin_meeting false)
      → Keeps d (by_meeting fresh d line (stream.Unmap unmap) (cond due (given_up_if may) (begin_meeting false)))
  unfolding by_meeting
  did-unmap unmap true true is so = did-given_up d g unmap (line-is_spelled line (stream.Unmap unmap) is).0 so
  did-unmap unmap true false is so = did-answered d g (Some unmap.tag) (Refused foreign_message)
  did-unmap unmap false may is so = did-free (stream.Unmap unmap) is tt

  did-meet : (read : stream.Line) → read_line line ≡ Some read → Keeps d (by_meeting fresh d line read (meeting d.node read))
  unfolding by_meeting
  did-meet (stream.Envelope sent) is = did-envelope sent (is_lost d.node sent) (wanted d.node.me sent.envelope.message d.node.mapped) is refl refl
  did-meet (stream.Ask ask) is = did-ask ask is (is_due d.node ask.site) refl
  did-meet (stream.Write write) is = did-free (stream.Write write) is tt
  did-meet (stream.Unmap unmap) is =
      did-unmap unmap (is_due d.node unmap.site && has_clocks d.node unmap.runs) (may_unmap d.node.mapped d.node.site unmap) is refl

did-met_read : (d : Desk) → GoodNode d.node → (fresh : Bool) (line : List ℕ) (read : Option stream.Line) → read_line line ≡ read → Keeps d (met_read fresh d line read)
did-met_read d g fresh line None is = did-too-long d (passed d) g refl refl refl
did-met_read d g fresh line (Some read) is = did-meet d g fresh line read is

did-all_met : (kept : List KeptLine) (d : Desk) → GoodNode d.node → (fresh : Bool) → Keeps d (all_met fresh d kept)
unfolding all_met
did-all_met [] d g fresh = did-nothing d d g refl refl refl
did-all_met (k ∷ kept) d g fresh =
    let next = met fresh d k.line in
    did-then d next (all_met fresh next kept) (did-met_read d g fresh k.line (read_line k.line) refl) (λ h. did-all_met kept next h fresh)

did-reminded : (d : Desk) → GoodNode d.node → (tick : Bool) → Keeps d (reminded_if tick d)
unfolding reminded
did-reminded d g false = did-nothing d d g refl refl refl
did-reminded d g true = did-nothing d (reminded d) g refl refl refl

did-finished : (d : Desk) → GoodNode d.node → (tick : Bool) → Keeps d (finished tick d)
did-finished d g tick =
    let now = reminded_if tick d in
    let free = record now { kept = [] } in
    let last = all_met tick free now.kept in
    did-then d now (settled most_steps last) (did-reminded d g tick)
    (λ h. did-then now free (settled most_steps last) (did-nothing now free h refl refl refl)
    (λ i. did-then free last (settled most_steps last) (did-all_met now.kept free i tick) (did-settled most_steps last)))

did-read_line : (d : Desk) → GoodNode d.node → (line : List ℕ) (read : Option stream.Line) → read_line line ≡ read → Keeps d (after_read_line d line read)
did-read_line d g line None is =
    did-then d (passed d) (settled most_steps (passed d)) (did-too-long d (passed d) g refl refl refl) (did-settled most_steps (passed d))
did-read_line d g line (Some read) is =
    let next = by_meeting true d line read (meeting d.node read) in
    did-then d next (finished (ticks d.node read) next) (did-meet d g true line read is) (λ h. did-finished next h (ticks d.node read))

did-other : (d : Desk) → GoodNode d.node → (o : Option Disagreement) → Keeps d (option_map_or (with_other d) o d)
did-other d g None = did-nothing d d g refl refl refl
did-other d g (Some x) = did-nothing d (with_other d x) g refl refl refl

did-noted : (d : Desk) → GoodNode d.node → (read : Option Hello) → Keeps d (noted d read)
did-noted d g read = did-other d g (first_other d.opening d.other read)

did-opened : (d : Desk) → GoodNode d.node → (inner : Result (List ℕ) Unsealed) → Keeps d (after_opened d inner)
did-opened d g (Ok line) =
    let heard = noted d (read_hello line) in
    let now = later_met heard (read_line line) in
    did-then d heard (after_read_line now line (read_line line)) (did-noted d g (read_hello line))
    (λ h. did-then heard now (after_read_line now line (read_line line)) (did-nothing heard now h refl refl refl)
    (λ i. did-read_line now i line (read_line line) refl))
did-opened d g (Err why) =
    did-then d (left_sealed d why) (settled most_steps (left_sealed d why)) (did-too-long d (left_sealed d why) g refl refl refl) (did-settled most_steps (left_sealed d why))

did-line : (d : Desk) → GoodNode d.node → (line : List ℕ) → Keeps d (after_line d line)
unfolding after_line
did-line d g line =
    did-cond (nat_lt max_line_bytes (length line)) d (record d { node = passed_over d.node }) (after_opened d (opened d.seal line))
    (did-too-long d (record d { node = passed_over d.node }) g refl refl refl) (did-opened d g (opened d.seal line))

did-byte : (d : Desk) → GoodNode d.node → (byte : ℕ) → Keeps d (on_byte d byte)
unfolding on_byte
did-byte d g byte =
    let ended = after_line d d.line in
    did-cond (byte == 10) d (record ended { line = [] }) (record d { line = grown d.line byte })
    (did-then d ended (record ended { line = [] }) (did-line d g d.line) (λ h. did-nothing ended (record ended { line = [] }) h refl refl refl))
    (did-nothing d (record d { line = grown d.line byte }) g refl refl refl)

did-bytes : (bytes : List ℕ) (d : Desk) → GoodNode d.node → Keeps d (on_bytes d bytes)
unfolding on_bytes
did-bytes [] d g = did-nothing d d g refl refl refl
did-bytes (byte ∷ bytes) d g = did-then d (on_byte d byte) (on_bytes (on_byte d byte) bytes) (did-byte d g byte) (did-bytes bytes (on_byte d byte))

-- ---- all that happens to a desk

bytes-good : (d : Desk) (bytes : List ℕ) → IsKept d.node → Keeps d (on_bytes d bytes)
bytes-good d bytes k = did-bytes bytes d (kept-good d.node k)

pub bytes-keep : (d : Desk) (bytes : List ℕ) → d.row ≡ None → IsKept d.node → DidKeep d (on_bytes d bytes)
bytes-keep d bytes none k = did-of-keeps d (on_bytes d bytes) none (bytes-good d bytes k)

pub restart-keeps : (d : Desk) → IsKept d.node → IsKept (restarted d).node
unfolding restarted
restart-keeps d k = good-kept (after_restart d.node) (restart-good d.node (kept-good d.node k))

happening-keeps : (d : Desk) (h : Happening) → IsKept d.node → IsKept (after_happening d h).node
happening-keeps d (Comes bytes) k =
    let did = bytes-good d bytes k in good-kept (on_bytes d bytes).node (did-good d (on_bytes d bytes) did)
happening-keeps d Restarts k = restart-keeps d k
happening-keeps d IsCleared k = k

pub happenings-keep : (hs : List Happening) (d : Desk) → IsKept d.node → IsKept (after_happenings d hs).node
happenings-keep [] d k = k
happenings-keep (h ∷ hs) d k = happenings-keep hs (after_happening d h) (happening-keeps d h k)

pub new-keeps : (sites me pages : ℕ) → IsKept (new_node sites me pages)
new-keeps sites me pages = good-kept (new_node sites me pages) (new-good sites me pages)

-- ---- a node that comes back from what was recorded

pub front-kept : (n : ℕ) (events : List Event) (node : Node) → KeptThrough node events → IsKept (after_events node (take n events))
front-kept zero events node k = first-kept events node k
  where
    first-kept : (events : List Event) (node : Node) → KeptThrough node events → IsKept node
    first-kept [] node k = k
    first-kept (event ∷ events) node k = k.0
front-kept (suc n) [] node k = k
front-kept (suc n) (event ∷ events) node k = front-kept n events (after_event node event) k.1

some-node : (a b : Node) → Some a ≡ Some b → a ≡ b
some-node a b e = cc

less-kept : (node : Node) → IsKept node → IsKept (kept node)
less-kept node k = record { may = k.may; through = k.through; numbered = k.numbered }

pub back-kept : (node next : Node) (events : List Event) (n : ℕ) → KeptThrough node events → replayed_all (kept node) (entries_of node (take n events)) ≡ Some next → IsKept next
back-kept node next events n k is =
    let last = after_events node (take n events) in
    subst IsKept (some-node (kept last) next (sym (replays node (take n events)) ∙ is)) (less-kept last (front-kept n events node k))

-- the first of what was recorded are entries of the first events
pub entries-back : (node next : Node) (events : List Event) (entries : List Entry) (n : ℕ) → KeptThrough node events → all_steps entries ≡ entries_of node events
    → replayed_all (kept node) (all_steps (take n entries)) ≡ Some next → IsKept next
entries-back node next events entries n k steps is =
    let front = take n entries in
    let rest = drop n entries in
    let parts : entries_of node events ≡ all_steps front ++ all_steps rest =
    sym steps ∙ ap all_steps (sym (take-append-drop n entries)) ∙ steps_both front rest in
    let f = first_events events node (all_steps front) (all_steps rest) parts in
    back-kept node next events f.0 k (ap (replayed_all (kept node)) f.1 ∙ is)
