-- A desk whose node has only events of one kind: it records their entries, and keeps back only lines of the kind.
use Rattle.std.proofs.Common.{◌≡◌, ℕ, zero, suc, ◌+◌, ◌<◌, ◌≤◌, Bool, true, false, List, [], ◌∷◌, ◌++◌, cond, length, slice_index, refl, ap, ap₂, sym, subst, ◌∙◌, append-nil, arith}
use Rattle.std.specs.List.{All}
use Rattle.std.specs.Prelude.{Option, Some, None, Ok, map, nat_lt, option_map, replicate, ◌==◌, ◌^◌}
use Rattle.std.proofs.lemmas.Bool.Decides.{nat_tests}
use Rattle.std.proofs.lemmas.List.{append_assoc, map-append}
use Rattle.std.proofs.lemmas.List.Elements.{All-append, All-cons, All-head, All-nil, All-push, All-tail}
use Rattle.shm_place.specs.declared.page_id.PageId.{PageId}
use Rattle.shm_model.specs.declared.answer.Answer.{Answer}
use Rattle.shm_model.specs.declared.answer.Answer.TheVariants.{Waiting}
use Rattle.shm_model.specs.declared.asked_access.Asked.{Asked}
use Rattle.shm_model.specs.declared.asked_access.Asked.TheVariants as asked
use Rattle.shm_seal.specs.Seal.{Seal, opened}
use Rattle.shm_wire.proofs.LineWords.{line-is_read, line-is_spelled}
use Rattle.shm_wire.specs.Asks.{Ask, IsAsk, IsAsked, IsBlock}
use Rattle.shm_wire.specs.Line as stream
use Rattle.shm_wire.specs.Line.{IsLine, read_line}
use Rattle.shm_wire.specs.Unmaps.{IsRun, IsUnmap, Run, UnmapAsk}
use Rattle.shm_wire.specs.declared.caller_ask.Question.TheVariants as question
use Rattle.shm_wire.specs.declared.mapping_text.RevokeText.{RevokeText}
use Rattle.shm_process.specs.Access.{is_open}
use Rattle.shm_process.specs.Cause.{IsCause, OfLine, cause_text}
use Rattle.shm_process.specs.Causes.{bare, brought_run, brought_runs, store_line, unmap_causes}
use Rattle.shm_process.specs.Desk.{Desk, KeptLine, after_read_line, all_made, all_met, answered, by_meeting, finished, given_up_by, keep, made_and_told, map_reply, max_line_bytes, may_keep, met, met_read, passed, quietly, reminded, reminded_if, revoked, settled, step_entry, tag_in, taken, ticks, tried, tried_by, try_of, unmap_entry, untagged, with_step}
use Rattle.shm_process.proofs.CauseLemmas.{single_step}
use Rattle.shm_process.proofs.Events.{All-back, All-front, after-both, entries-both, steps_both, text-both}
use Rattle.shm_process.proofs.RowRuns.{IsOfRow, closed-kept, closed-node, closed-row, rows_made}
use Rattle.shm_process.proofs.UnmapSteps.{event_of, unmap_first, unmap_made}
use Rattle.shm_process.proofs.Tries.{meeting-tries, try-is_line}
use Rattle.shm_process.specs.Meetings.{meeting}
use Rattle.shm_process.specs.Node.{Heard, Node, Said, heard, says}
use Rattle.shm_process.specs.Recorded.{Again, Entry, Event, IsEntry, Line, TooLong, after_event, after_events, all_steps, entries_of, entries_text, entry_of, recorded, said_at, steps_of}
use Rattle.shm_process.specs.Rows.{Row, row_entry}
use Rattle.shm_process.specs.Waiting.{after, after_read, joins, most_steps, said, said_read}
use Rattle.shm_process.specs.declared.line_meeting.Meeting.{Meeting}
use Rattle.shm_process.specs.declared.line_meeting.Meeting.TheVariants.{Answered, Free, Kept, Maps, Tries, Unmaps}

-- ---- events of one kind

-- so many times the same event
All-agains : (P : Event → Type 0) → P Again → (n : ℕ) → All P (replicate n Again)
All-agains P is zero = All-nil P
All-agains P is (suc n) = All-cons P Again (replicate n Again) is (All-agains P is n)

-- the line of an access that is tried
abbrev pub trying : Ask → Asked → Ask
trying ask asked = record ask { asked = question.Try asked }

-- the events are of the kind P, as long as what was read of a line is of the kind Q; so are those that a desk makes by itself
pub record IsKind (P : Event → Type 0) (Q : List ℕ → Type 0) : Type 0 where
  pub long : P TooLong
  pub again : P Again
  pub tries : (ask : Ask) (asked : Asked) → IsAsk (trying ask asked) → P (Line (stream.line_text (stream.Ask (trying ask asked))))
  pub gives_up : (ask : UnmapAsk) → IsUnmap (bare ask) → P (Line (stream.line_text (stream.Unmap (bare ask))))
  pub row : (me : ℕ) (row : Row) → IsCause (row_entry me row).cause → P (Line (cause_text (row_entry me row).cause))
  pub begun : Q []
  pub longer : (line : List ℕ) (byte : ℕ) → (byte == 10) ≡ false → Q line → Q (line ++ byte ∷ [])
  pub inner : (seal : Seal) (line text : List ℕ) → opened seal line ≡ Ok text → nat_lt max_line_bytes (length line) ≡ false → Q line → P (Line text)

-- each line that is kept back is of the kind
abbrev pub AreKept : (Event → Type 0) → List KeptLine → Type 0
AreKept P kept = All (λ (k : KeptLine). P (Line k.line)) kept

-- what made the steps of an entry has the text of a line of the kind
abbrev pub IsOwn : (Event → Type 0) → Entry → Type 0
IsOwn P entry = P (Line (cause_text entry.cause))

-- and no row is open
abbrev pub Tidy : (Event → Type 0) → Desk → Type 0
Tidy P d = AreKept P d.kept × (d.row ≡ None)

-- the node of the first desk had events of the kind, and entries of their steps were recorded
pub record Had (P : Event → Type 0) (old new : Desk) : Type 0 where
  pub events : List Event
  pub are : All P events
  pub entries : List Entry
  pub node : new.node ≡ after_events old.node events
  pub recorded : new.recorded ≡ old.recorded ++ entries_text entries
  pub steps : all_steps entries ≡ entries_of old.node events
  pub lines : All IsEntry (entries_of old.node events) → All IsEntry entries
  pub own : All IsEntry (entries_of old.node events) → All (IsOwn P) entries
  pub tidy : Tidy P new

-- the entry of a step doesn't say who is told
untagged-entry : (said : Option Said) → step_entry (option_map untagged said) ≡ step_entry said
unfolding step_entry
untagged-entry None = refl
untagged-entry (Some said) = refl

pub run-end : (offset count : ℕ) → IsBlock offset count → offset + count ≤ 2 ^ 32
run-end offset count h = grind (arith, nat_tests)

-- a byte that is brought is stored by a line of its own
store-is_line : (ask : UnmapAsk) (offset byte : ℕ) → IsUnmap ask → offset < 2 ^ 32 → byte < 256 → IsLine (store_line ask offset byte)
store-is_line ask offset byte is place small = (is.0, is.1, (is.2, place, small))

first-place : (offset count : ℕ) → offset + suc count ≤ 2 ^ 32 → offset < 2 ^ 32
first-place offset count h = omega (arith, h)

next-place : (offset count : ℕ) → offset + suc count ≤ 2 ^ 32 → (offset + 1) + count ≤ 2 ^ 32
next-place offset count h = omega (arith, h)

module _ (P : Event → Type 0) (Q : List ℕ → Type 0) (kind : IsKind P Q) where
  pub had-nothing : (d next : Desk) → next.node ≡ d.node → next.recorded ≡ d.recorded → Tidy P next → Had P d next
  had-nothing d next n r tidy = record {
    events = [];
    are = All-nil P;
    entries = [];
    node = n;
    recorded = r ∙ sym (append-nil d.recorded);
    steps = refl;
    lines = λ all. all;
    own = λ all. All-nil (IsOwn P);
    tidy = tidy;
  }

  pub had-both : (a b c : Desk) → Had P a b → Had P b c → Had P a c
  had-both a b c p q =
      let later = ap (λ n. entries_of n q.events) p.node in
      let whole = entries-both p.events q.events a.node in
      record {
        events = p.events ++ q.events;
        are = All-append P p.events q.events p.are q.are;
        entries = p.entries ++ q.entries;
        node = q.node ∙ ap (λ n. after_events n q.events) p.node ∙ sym (after-both p.events q.events a.node);
        recorded =
            q.recorded ∙ ap (λ r. r ++ entries_text q.entries) p.recorded
            ∙ append_assoc a.recorded (entries_text p.entries) (entries_text q.entries)
            ∙ ap (λ t. a.recorded ++ t) (sym (text-both p.entries q.entries));
        steps = steps_both p.entries q.entries ∙ ap₂ (λ xs ys. xs ++ ys) p.steps (q.steps ∙ later) ∙ sym whole;
        lines = λ all.
            let both = subst (All IsEntry) whole all in
            let xs = entries_of a.node p.events in
            let ys = entries_of (after_events a.node p.events) q.events in
            All-append IsEntry p.entries q.entries (p.lines (All-front IsEntry xs ys both))
            (q.lines (subst (All IsEntry) (sym later) (All-back IsEntry xs ys both)));
        own = λ all.
            let both = subst (All IsEntry) whole all in
            let xs = entries_of a.node p.events in
            let ys = entries_of (after_events a.node p.events) q.events in
            All-append (IsOwn P) p.entries q.entries (p.own (All-front IsEntry xs ys both))
            (q.own (subst (All IsEntry) (sym later) (All-back IsEntry xs ys both)));
        tidy = q.tidy;
      }

  -- the text of a line that is taken is its own
  line-own : (node : Node) (bytes : List ℕ) (line : stream.Line) (o : Option Heard) → bytes ≡ stream.line_text line → P (Line bytes)
      → All (IsOwn P) (recorded (option_map (λ h. says node (OfLine line) h (joins node h)) o) [])
  line-own node bytes line None e is = All-nil (IsOwn P)
  line-own node bytes line (Some h) e is =
      All-cons (IsOwn P) (entry_of (says node (OfLine line) h (joins node h))) [] (subst (λ t. P (Line t)) e is) (All-nil (IsOwn P))

  read-own : (node : Node) (bytes : List ℕ) (read : Option stream.Line) → read_line bytes ≡ read → P (Line bytes) → All (IsOwn P) (recorded (said_read node read) [])
  read-own node bytes None e is = All-nil (IsOwn P)
  read-own node bytes (Some line) e is = line-own node bytes line (heard node line) (line-is_spelled bytes line e).1 is

  -- a line, and what was recorded of it
  pub had-one : (d next : Desk) (bytes : List ℕ) → P (Line bytes) → next.node ≡ after_event d.node (Line bytes)
      → next.recorded ≡ d.recorded ++ step_entry (said_at d.node (Line bytes)) → Tidy P next → Had P d next
  unfolding step_entry
  had-one d next bytes is n r tidy = record {
    events = Line bytes ∷ [];
    are = All-cons P (Line bytes) [] is (All-nil P);
    entries = recorded (said_at d.node (Line bytes)) [];
    node = n;
    recorded = r;
    steps = single_step d.node (Line bytes);
    lines = λ all. all;
    own = λ all. read-own d.node bytes (read_line bytes) refl is;
    tidy = tidy;
  }

  pub had-cond : (b : Bool) (d x y : Desk) → (b ≡ true → Had P d x) → (b ≡ false → Had P d y) → Had P d (cond b x y)
  had-cond true d x y p q = p refl
  had-cond false d x y p q = q refl

  rows-own : (me : ℕ) (entries : List Entry) → All (IsOfRow me) entries → All IsEntry entries → All (IsOwn P) entries
  rows-own me [] rows are = All-nil (IsOwn P)
  rows-own me (entry ∷ entries) rows are =
      let row = All-head (IsOfRow me) entry entries rows in
      let is = All-head IsEntry entry entries are in
      All-cons (IsOwn P) entry entries
      (subst (IsOwn P) row.1 (kind.row me row.0 (subst (λ (e : Entry). IsCause e.cause) (sym row.1) is.1)))
      (rows-own me entries (All-tail (IsOfRow me) entry entries rows) (All-tail IsEntry entry entries are))

  pub had-settled : (n : ℕ) (d : Desk) → Tidy P d → Had P d (settled n d)
  unfolding settled
  had-settled n d tidy =
      let made = rows_made n d tidy.1 in
      let last = all_made n d in
      record {
        events = replicate made.count Again;
        are = All-agains P kind.again made.count;
        entries = made.entries;
        node = closed-node last last.row ∙ made.node;
        recorded = made.recorded;
        steps = made.steps;
        lines = made.lines;
        own = λ all. rows-own d.node.me made.entries made.rows (made.lines all);
        tidy = (subst (AreKept P) (sym (closed-kept last last.row ∙ made.kept)) tidy.0, closed-row last last.row refl);
      }

  pub had-passed : (d : Desk) → Tidy P d → Had P d (passed d)
  had-passed d tidy = record {
    events = TooLong ∷ [];
    are = All-cons P TooLong [] kind.long (All-nil P);
    entries = [];
    node = refl;
    recorded = sym (append-nil d.recorded);
    steps = refl;
    lines = λ all. all;
    own = λ all. All-nil (IsOwn P);
    tidy = tidy;
  }

  -- ---- a line while pages are mapped

  -- a line was taken, and what is told of it may be less
  module _ (d : Desk) (bytes : List ℕ) (line : stream.Line) (is : read_line bytes ≡ Some line) (own : P (Line bytes)) (tidy : Tidy P d) where
    after-is : after d.node line ≡ after_event d.node (Line bytes)
    after-is = ap (after_read d.node) (sym is)

    said-is : said d.node line ≡ said_at d.node (Line bytes)
    said-is = ap (said_read d.node) (sym is)

    had-taken : Had P d (taken d (Some line))
    unfolding taken
    had-taken = had-one d (taken d (Some line)) bytes own after-is (ap (λ s. d.recorded ++ step_entry s) said-is) tidy

    had-quietly : Had P d (quietly d line)
    unfolding quietly
    had-quietly =
        had-one d (quietly d line) bytes own after-is
        (ap (λ e. d.recorded ++ e) (untagged-entry (said d.node line)) ∙ ap (λ s. d.recorded ++ step_entry s) said-is) tidy

    had-made : (text : List ℕ) → Had P d (made_and_told d line text)
    unfolding quietly
    had-made text = had-both d (quietly d line) (made_and_told d line text) had-quietly (had-nothing (quietly d line) (made_and_told d line text) refl refl tidy)

  had-answered : (d : Desk) (tag : Option (List ℕ)) (answer : Answer) → Tidy P d → Had P d (answered d tag answer)
  had-answered d tag answer tidy = had-both d (passed d) (answered d tag answer) (had-passed d tidy) (had-nothing (passed d) (answered d tag answer) refl refl tidy)

  had-keep : (d : Desk) (page : Option PageId) (line : List ℕ) (tag : Option (List ℕ)) → P (Line line) → Tidy P d → Had P d (keep d page line tag)
  had-keep d page line tag own tidy =
      let k : KeptLine = record { line = line; page = page } in
      had-cond (may_keep d.kept page) d (record d { kept = d.kept ++ k ∷ [] }) (answered d tag Waiting)
      (λ e. had-nothing d (record d { kept = d.kept ++ k ∷ [] }) refl refl (All-push (λ (x : KeptLine). P (Line x.line)) d.kept k tidy.0 own, tidy.1))
      (λ e. had-answered d tag Waiting tidy)

  had-revoked : (d : Desk) (fresh : Bool) (wants : Option RevokeText) → Tidy P d → Had P d (revoked fresh wants d)
  had-revoked d false wants tidy = had-nothing d d refl refl tidy
  had-revoked d true wants tidy = had-nothing d (revoked true wants d) refl refl tidy

  -- the step that was said was made
  had-tried_by : (d : Desk) (line bytes : List ℕ) (step : stream.Line) (tag : Option (List ℕ)) (says : Option Said) → read_line bytes ≡ Some step
      → said d.node step ≡ says → P (Line line) → P (Line bytes) → Tidy P d → Had P d (tried_by (record d { node = after d.node step }) line tag says)
  unfolding step_entry
  had-tried_by d line bytes step tag None is so own made tidy =
      let now = record d { node = after d.node step } in
      had-one d now bytes made (after-is d bytes step is made tidy)
      (sym (append-nil d.recorded) ∙ ap (λ s. d.recorded ++ step_entry s) (sym so ∙ said-is d bytes step is made tidy)) tidy
  had-tried_by d line bytes step tag (Some says) is so own made tidy =
      let now = record d { node = after d.node step } in
      let quiet = with_step now (Some (untagged says)) in
      let loud = with_step now (Some says) in
      let node = after-is d bytes step is made tidy in
      let entry = ap (λ s. d.recorded ++ step_entry s) (sym so ∙ said-is d bytes step is made tidy) in
      had-cond (is_open says.answer) d (keep quiet None line tag) loud
      (λ e. had-both d quiet (keep quiet None line tag) (had-one d quiet bytes made node entry tidy) (had-keep quiet None line tag own tidy))
      (λ e. had-one d loud bytes made node entry tidy)

  -- the line that is tried is of the kind
  tries-own : (line : List ℕ) (read : stream.Line) (asked : Asked) → read_line line ≡ Some read → IsAsked (question.Try asked) → P (Line line)
      → P (Line (stream.line_text (try_of read asked)))
  tries-own line (stream.Envelope sent) a is proper own = subst (λ t. P (Line t)) (line-is_spelled line (stream.Envelope sent) is).1 own
  tries-own line (stream.Ask ask) a is proper own =
      let ask_is = (line-is_spelled line (stream.Ask ask) is).0 in kind.tries ask a (ask_is.0, ask_is.1, proper)
  tries-own line (stream.Write write) a is proper own = subst (λ t. P (Line t)) (line-is_spelled line (stream.Write write) is).1 own
  tries-own line (stream.Unmap unmap) a is proper own = subst (λ t. P (Line t)) (line-is_spelled line (stream.Unmap unmap) is).1 own

  had-tried : (d : Desk) (line : List ℕ) (read : stream.Line) (asked : Asked) → read_line line ≡ Some read → IsAsked (question.Try asked) → P (Line line)
      → Tidy P d → Had P d (tried d line read asked)
  unfolding tried
  had-tried d line read asked is proper own tidy =
      let step = try_of read asked in
      had-tried_by d line (stream.line_text step) step (tag_in step) (said d.node step)
      (line-is_read step (try-is_line read asked (line-is_spelled line read is).0 proper)) refl own (tries-own line read asked is proper own) tidy

  -- an unmap has the events of its steps
  are-brought : (bytes : List ℕ) (ask : UnmapAsk) (offset : ℕ) → IsUnmap ask → offset + length bytes ≤ 2 ^ 32 → ((i : ℕ) → slice_index bytes i < 256)
      → All P (map event_of (brought_run ask offset bytes))
  unfolding brought_run
  are-brought [] ask offset is within small = All-nil P
  are-brought (byte ∷ bytes) ask offset is within small =
      let proper = store-is_line ask offset byte is (first-place offset (length bytes) within) (small 0) in
      let own = kind.tries (record { site = ask.site; tag = ask.tag; asked = question.Tick }) (asked.Store ask.at offset byte) proper in
      All-cons P (event_of (OfLine (store_line ask offset byte))) (map event_of (brought_run ask (offset + 1) bytes)) own
      (are-brought bytes ask (offset + 1) is (next-place offset (length bytes) within) (λ i. small (suc i)))

  are-runs : (runs : List Run) (ask : UnmapAsk) → IsUnmap ask → All IsRun runs → All P (map event_of (brought_runs ask runs))
  unfolding brought_runs
  are-runs [] ask is proper = All-nil P
  are-runs (run ∷ runs) ask is proper =
      let r = All-head IsRun run runs proper in
      subst (All P) (sym (map-append event_of (brought_run ask run.offset run.bytes) (brought_runs ask runs)))
      (All-append P (map event_of (brought_run ask run.offset run.bytes)) (map event_of (brought_runs ask runs))
      (are-brought run.bytes ask run.offset is (run-end run.offset (length run.bytes) r.1) r.2) (are-runs runs ask is (All-tail IsRun run runs proper)))

  are-steps : (ask : UnmapAsk) → IsUnmap ask → All P (map event_of (unmap_causes ask))
  are-steps ask is =
      let last = event_of (OfLine (stream.Unmap (bare ask))) in
      subst (All P) (sym (map-append event_of (brought_runs ask ask.runs) (OfLine (stream.Unmap (bare ask)) ∷ [])))
      (All-append P (map event_of (brought_runs ask ask.runs)) (last ∷ []) (are-runs ask.runs ask is is.4)
      (All-cons P last [] (kind.gives_up ask (is.0, is.1, is.2, is.3, All-nil IsRun)) (All-nil P)))

  had-given_up : (d : Desk) (line : List ℕ) (read : stream.Line) → IsLine read → line ≡ stream.line_text read → P (Line line) → meeting d.node read ≡ Unmaps → Tidy P d
      → Had P d (given_up_by d read)
  had-given_up d line (stream.Envelope sent) is spelled own so tidy = had-nothing d d refl refl tidy
  had-given_up d line (stream.Ask ask) is spelled own so tidy = had-nothing d d refl refl tidy
  had-given_up d line (stream.Write write) is spelled own so tidy = had-nothing d d refl refl tidy
  had-given_up d line (stream.Unmap ask) is spelled own so tidy =
      let made = unmap_made d ask is so in
      record {
        events = map event_of (unmap_causes ask);
        are = are-steps ask is;
        entries = unmap_entry d.node ask ∷ [];
        node = made.node;
        recorded = made.recorded;
        steps = append-nil (steps_of (unmap_entry d.node ask)) ∙ sym made.steps;
        lines = λ all.
            let first = unmap_first d.node ask (subst (All IsEntry) made.steps all) in
            All-cons IsEntry (unmap_entry d.node ask) [] (first, is) (All-nil IsEntry);
        own = λ all. All-cons (IsOwn P) (unmap_entry d.node ask) [] (subst (λ t. P (Line t)) spelled own) (All-nil (IsOwn P));
        tidy = (subst (AreKept P) (sym made.kept) tidy.0, made.row ∙ tidy.1);
      }

  had-met : (d : Desk) (fresh : Bool) (line : List ℕ) (read : stream.Line) (m : Meeting) → read_line line ≡ Some read → meeting d.node read ≡ m → P (Line line)
      → Tidy P d → Had P d (by_meeting fresh d line read m)
  unfolding by_meeting
  had-met d fresh line read Free is so own tidy = had-taken d line read is own tidy
  had-met d fresh line read (Kept page wants) is so own tidy =
      let now = revoked fresh wants d in
      let first = had-revoked d fresh wants tidy in
      had-both d now (keep now page line (tag_in read)) first (had-keep now page line (tag_in read) own first.tidy)
  had-met d fresh line read (Answered answer) is so own tidy = had-answered d (tag_in read) answer tidy
  had-met d fresh line read (Maps at index) is so own tidy = had-made d line read is own tidy (map_reply d.node at index)
  had-met d fresh line read (Tries asked) is so own tidy =
      had-tried d line read asked is (meeting-tries d.node read asked (line-is_spelled line read is).0 so) own tidy
  had-met d fresh line read Unmaps is so own tidy = let s = line-is_spelled line read is in had-given_up d line read s.0 s.1 own so tidy

  had-met_read : (d : Desk) (fresh : Bool) (line : List ℕ) (read : Option stream.Line) → read_line line ≡ read → P (Line line) → Tidy P d
      → Had P d (met_read fresh d line read)
  had-met_read d fresh line None is own tidy = had-passed d tidy
  had-met_read d fresh line (Some read) is own tidy = had-met d fresh line read (meeting d.node read) is refl own tidy

  had-all_met : (ks : List KeptLine) (d : Desk) (fresh : Bool) → AreKept P ks → Tidy P d → Had P d (all_met fresh d ks)
  unfolding all_met
  had-all_met [] d fresh all tidy = had-nothing d d refl refl tidy
  had-all_met (k ∷ ks) d fresh all tidy =
      let next = met fresh d k.line in
      let first = had-met_read d fresh k.line (read_line k.line) refl (All-head (λ (x : KeptLine). P (Line x.line)) k ks all) tidy in
      had-both d next (all_met fresh next ks) first (had-all_met ks next fresh (All-tail (λ (x : KeptLine). P (Line x.line)) k ks all) first.tidy)

  had-reminded : (d : Desk) (tick : Bool) → Tidy P d → Had P d (reminded_if tick d)
  unfolding reminded
  had-reminded d false tidy = had-nothing d d refl refl tidy
  had-reminded d true tidy = had-nothing d (reminded d) refl refl tidy

  had-finished : (d : Desk) (tick : Bool) → Tidy P d → Had P d (finished tick d)
  had-finished d tick tidy =
      let now = reminded_if tick d in
      let free = record now { kept = [] } in
      let last = all_met tick free now.kept in
      let first = had-reminded d tick tidy in
      let none : AreKept P [] = All-nil (λ (x : KeptLine). P (Line x.line)) in
      let second = had-all_met now.kept free tick first.tidy.0 (none, first.tidy.1) in
      had-both d now (settled most_steps last) first
      (had-both now free (settled most_steps last) (had-nothing now free refl refl (none, first.tidy.1))
      (had-both free last (settled most_steps last) second (had-settled most_steps last second.tidy)))

  pub had_read_line : (d : Desk) (line : List ℕ) (read : Option stream.Line) → read_line line ≡ read → P (Line line) → Tidy P d
      → Had P d (after_read_line d line read)
  had_read_line d line None is own tidy = had-both d (passed d) (settled most_steps (passed d)) (had-passed d tidy) (had-settled most_steps (passed d) tidy)
  had_read_line d line (Some read) is own tidy =
      let next = by_meeting true d line read (meeting d.node read) in
      let first = had-met d true line read (meeting d.node read) is refl own tidy in
      had-both d next (finished (ticks d.node read) next) first (had-finished next (ticks d.node read) first.tidy)
