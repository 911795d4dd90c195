-- A desk step by step: an ask after the others. What a desk told before stands before all that it tells after.
use Rattle.std.proofs.Common.{◌≡◌, ℕ, zero, suc, ◌+◌, ◌==◌, Bool, true, false, List, [], ◌∷◌, ◌++◌, length, cond, refl, ap, ap₂, sym, ◌∙◌, append-nil}
use Rattle.std.specs.Prelude.{Option, Some, None, Result, Ok, Err, is_some, nat_lt, option_and_then, option_map}
use Rattle.std.specs.List.{flat_map}
use Rattle.std.specs.Option.{option_map_or}
use Rattle.std.proofs.lemmas.List.{append_assoc}
use Rattle.shm_place.specs.declared.page_id.PageId.{PageId}
use Rattle.shm_model.specs.declared.answer.Answer.{Answer}
use Rattle.shm_model.specs.declared.answer.Answer.TheVariants.{Waiting}
use Rattle.shm_model.specs.declared.asked_access.Asked.{Asked}
use Rattle.shm_seal.specs.Seal.{opened}
use Rattle.shm_seal.specs.declared.open_line_error.Unsealed.{Unsealed}
use Rattle.shm_text.specs.Text.{answer_text}
use Rattle.shm_wire.specs.Line.{Line, read_line}
use Rattle.shm_wire.specs.Line as stream
use Rattle.shm_wire.specs.Unmaps.{Run, UnmapAsk}
use Rattle.shm_wire.specs.declared.mapping_text.RevokeText.{RevokeText}
use Rattle.shm_process.specs.Access.{is_open}
use Rattle.shm_process.specs.Causes.{bare, store_line}
use Rattle.shm_process.specs.Counts.{with_said, with_text}
use Rattle.shm_process.specs.Desk.{Desk, KeptLine, after_line, after_opened, after_read_line, all_made, all_met, answered, brought, by_meeting, cleared, closed, closed_by, counts_after, finished, given_up, given_up_by, grown, grown_by, in_row, keep, later_met, left_sealed, line_text, made_again, made_and_told, made_in_row, map_reply, max_line_bytes, may_keep, met, met_again, met_read, noted, on_byte, on_bytes, passed, quietly, reminded, reminded_if, reminder, revoke_line, revoked, settled, step_entry, step_text, stored_run, tag_in, taken, tell, tell_caller, ticks, told_quietly, told_to, tried, tried_by, try_of, unmap_entry, unmap_reply, unrecorded, untagged, with_again, with_other, with_record, with_step, with_told}
use Rattle.shm_process.specs.Hello.{first_other, hello_line, hello_to, read_hello}
use Rattle.shm_process.specs.Meetings.{meeting}
use Rattle.shm_process.specs.Node.{Said}
use Rattle.shm_process.specs.Recorded.{entries_text}
use Rattle.shm_process.specs.Rows.{Row, joined, row_entry, row_in}
use Rattle.shm_process.specs.Telling.{shown_line}
use Rattle.shm_process.specs.Waiting.{after, after_again, after_read, most_steps, passed_over, said, said_again, said_read}
use Rattle.shm_process.specs.WaitingAsks.{next_access}
use Rattle.shm_process.specs.declared.hello_line.Hello.{Hello}
use Rattle.shm_process.specs.declared.line_meeting.Meeting.{Meeting}
use Rattle.shm_process.specs.declared.line_meeting.Meeting.TheVariants.{Answered, Free, Kept, Maps, Tries, Unmaps}
use Rattle.shm_process.specs.declared.site_opening.Disagreement.{Disagreement}

-- ---- loops

-- all rounds are made
pub rounds_over : (n : ℕ) (d whole : Desk) → n ≡ 0 → all_made n d ≡ whole → d ≡ whole
unfolding all_made
rounds_over n d whole over before = sym (ap (λ k. all_made k d) over) ∙ before

-- ---- what was told before

-- the desk, had it recorded and told these before
abbrev pub behind : List ℕ → List ℕ → Desk → Desk
behind entries text desk = record desk { recorded = entries ++ desk.recorded; told = text ++ desk.told }

cond-behind : (b : Bool) (r t : List ℕ) (x after_x y after_y : Desk) → after_x ≡ behind r t x → after_y ≡ behind r t y
    → cond b after_x after_y ≡ behind r t (cond b x y)
cond-behind true r t x after_x y after_y p q = p
cond-behind false r t x after_x y after_y p q = q

with_step-behind : (r t : List ℕ) (d : Desk) (said : Option Said) → with_step (behind r t d) said ≡ behind r t (with_step d said)
with_step-behind r t d said =
    ap₂ (λ recorded told. record d { recorded = recorded; told = told; counts = counts_after said d.counts })
    (append_assoc r d.recorded (step_entry said)) (append_assoc t d.told (step_text d.seal said))

with_record-behind : (r t : List ℕ) (d : Desk) (text : List ℕ) → with_record text (behind r t d) ≡ behind r t (with_record text d)
with_record-behind r t d text =
    ap (λ recorded. record d { recorded = recorded; told = t ++ d.told; counts = with_text text d.counts }) (append_assoc r d.recorded text)

-- ---- rows

closed_by-behind : (r t : List ℕ) (d : Desk) (row : Option Row) → closed_by (behind r t d) row ≡ behind r t (closed_by d row)
closed_by-behind r t d None = refl
closed_by-behind r t d (Some row) = ap (λ (x : Desk). record x { row = None }) (with_record-behind r t d (entries_text (row_entry d.node.me row ∷ [])))

grown_by-behind : (r t : List ℕ) (d : Desk) (next : Row) (o : Option Row) → grown_by (behind r t d) next o ≡ behind r t (grown_by d next o)
grown_by-behind r t d next None = ap (λ (x : Desk). record x { row = Some next }) (closed_by-behind r t d d.row)
grown_by-behind r t d next (Some row) = refl

with_told-behind : (r t : List ℕ) (d : Desk) (said : Said) → with_told (behind r t d) said ≡ behind r t (with_told d said)
with_told-behind r t d said =
    ap (λ told. record d { recorded = r ++ d.recorded; told = told; counts = with_said said d.counts }) (append_assoc t d.told (step_text d.seal (Some said)))

made_in_row-behind : (r t : List ℕ) (d : Desk) (said : Said) (row : Option Row) → made_in_row (behind r t d) said row ≡ behind r t (made_in_row d said row)
made_in_row-behind r t d said None = with_step-behind r t d (Some said)
made_in_row-behind r t d said (Some next) =
    ap (λ x. in_row x next) (with_told-behind r t d said)
    ∙ grown_by-behind r t (with_told d said) next (option_and_then (λ row. joined row next) d.row)

with_again-behind : (r t : List ℕ) (d : Desk) (said : Option Said) → with_again (behind r t d) said ≡ behind r t (with_again d said)
with_again-behind r t d None = refl
with_again-behind r t d (Some said) = made_in_row-behind r t d said (row_in said.clock said.cause)

made_again-behind : (r t : List ℕ) (d : Desk) → made_again (behind r t d) ≡ behind r t (made_again d)
made_again-behind r t d = with_again-behind r t (record d { node = after_again d.node }) (said_again d.node)

all_made-behind : (n : ℕ) (r t : List ℕ) (d : Desk) → all_made n (behind r t d) ≡ behind r t (all_made n d)
unfolding all_made
all_made-behind zero r t d = refl
all_made-behind (suc n) r t d =
    cond-behind (is_some (said_again d.node)) r t (all_made n (made_again d)) (all_made n (made_again (behind r t d))) d (behind r t d)
    (ap (all_made n) (made_again-behind r t d) ∙ all_made-behind n r t (made_again d)) refl

settled-behind : (n : ℕ) (r t : List ℕ) (d : Desk) → settled n (behind r t d) ≡ behind r t (settled n d)
unfolding settled
settled-behind n r t d = ap closed (all_made-behind n r t d) ∙ closed_by-behind r t (all_made n d) (all_made n d).row

taken-behind : (r t : List ℕ) (d : Desk) (read : Option Line) → taken (behind r t d) read ≡ behind r t (taken d read)
unfolding taken
taken-behind r t d read =
    let shown = line_text d.seal (option_and_then (shown_line d.counts d.node) read) in
    let node = after_read d.node read in
    ap (λ told. with_step (record d { node = node; recorded = r ++ d.recorded; told = told }) (said_read d.node read)) (append_assoc t d.told shown)
    ∙ with_step-behind r t (record (tell d shown) { node = node }) (said_read d.node read)

other-behind : (r t : List ℕ) (d : Desk) (o : Option Disagreement)
    → option_map_or (with_other (behind r t d)) o (behind r t d) ≡ behind r t (option_map_or (with_other d) o d)
other-behind r t d None = refl
other-behind r t d (Some x) =
    ap (λ told. record d { recorded = r ++ d.recorded; told = told; other = Some x.other })
    (append_assoc t d.told (hello_line d.seal (hello_to x.own x.other.site)))

noted-behind : (r t : List ℕ) (d : Desk) (read : Option Hello) → noted (behind r t d) read ≡ behind r t (noted d read)
noted-behind r t d read = other-behind r t d (first_other d.opening d.other read)

-- ---- a line while pages are mapped

tell-behind : (r t : List ℕ) (d : Desk) (text : List ℕ) → tell (behind r t d) text ≡ behind r t (tell d text)
tell-behind r t d text = ap (λ told. record d { recorded = r ++ d.recorded; told = told }) (append_assoc t d.told text)

tell_caller-behind : (r t : List ℕ) (d : Desk) (tag : Option (List ℕ)) (text : List ℕ) → tell_caller (behind r t d) tag text ≡ behind r t (tell_caller d tag text)
tell_caller-behind r t d tag text = tell-behind r t d (line_text d.seal (option_map (told_to d.node text) tag))

quietly-behind : (r t : List ℕ) (d : Desk) (line : Line) → quietly (behind r t d) line ≡ behind r t (quietly d line)
unfolding quietly
quietly-behind r t d line = with_step-behind r t (record d { node = after d.node line }) (option_map untagged (said d.node line))

revoked-behind : (r t : List ℕ) (d : Desk) (fresh : Bool) (wants : Option RevokeText) → revoked fresh wants (behind r t d) ≡ behind r t (revoked fresh wants d)
revoked-behind r t d false wants = refl
revoked-behind r t d true wants = tell-behind r t d (line_text d.seal (option_map (revoke_line d.node) wants))

answered-behind : (r t : List ℕ) (d : Desk) (tag : Option (List ℕ)) (answer : Answer) → answered (behind r t d) tag answer ≡ behind r t (answered d tag answer)
answered-behind r t d tag answer = tell_caller-behind r t (passed d) tag (answer_text answer)

keep-behind : (r t : List ℕ) (d : Desk) (page : Option PageId) (line : List ℕ) (tag : Option (List ℕ))
    → keep (behind r t d) page line tag ≡ behind r t (keep d page line tag)
keep-behind r t d page line tag =
    let kept = d.kept ++ record { line = line; page = page } ∷ [] in
    cond-behind (may_keep d.kept page) r t (record d { kept = kept }) (record (behind r t d) { kept = kept })
    (answered d tag Waiting) (answered (behind r t d) tag Waiting) refl (answered-behind r t d tag Waiting)

made-behind : (r t : List ℕ) (d : Desk) (line : Line) (text : List ℕ) → made_and_told (behind r t d) line text ≡ behind r t (made_and_told d line text)
made-behind r t d line text =
    ap (λ x. tell_caller x (tag_in line) text) (quietly-behind r t d line) ∙ tell_caller-behind r t (quietly d line) (tag_in line) text

tried_by-behind : (r t : List ℕ) (d : Desk) (line : List ℕ) (tag : Option (List ℕ)) (said : Option Said)
    → tried_by (behind r t d) line tag said ≡ behind r t (tried_by d line tag said)
tried_by-behind r t d line tag None = refl
tried_by-behind r t d line tag (Some said) =
    let quiet = with_step d (Some (untagged said)) in
    let quiet_then = with_step (behind r t d) (Some (untagged said)) in
    cond-behind (is_open said.answer) r t (keep quiet None line tag) (keep quiet_then None line tag) (with_step d (Some said)) (with_step (behind r t d) (Some said))
    (ap (λ x. keep x None line tag) (with_step-behind r t d (Some (untagged said))) ∙ keep-behind r t quiet None line tag) (with_step-behind r t d (Some said))

tried-behind : (r t : List ℕ) (d : Desk) (line : List ℕ) (read : Line) (asked : Asked) → tried (behind r t d) line read asked ≡ behind r t (tried d line read asked)
unfolding tried
tried-behind r t d line read asked =
    let step = try_of read asked in
    tried_by-behind r t (record d { node = after d.node step }) line (tag_in step) (said d.node step)

told_quietly-behind : (r t : List ℕ) (d : Desk) (said : Option Said) → told_quietly (behind r t d) said ≡ behind r t (told_quietly d said)
told_quietly-behind r t d None = refl
told_quietly-behind r t d (Some said) = with_told-behind r t d (untagged said)

unrecorded-behind : (r t : List ℕ) (d : Desk) (line : Line) → unrecorded (behind r t d) line ≡ behind r t (unrecorded d line)
unfolding unrecorded
unrecorded-behind r t d line = told_quietly-behind r t (record d { node = after d.node line }) (said d.node line)

run-behind : (bytes r t : List ℕ) (d : Desk) (ask : UnmapAsk) (offset : ℕ) → stored_run (behind r t d) ask offset bytes ≡ behind r t (stored_run d ask offset bytes)
unfolding stored_run
run-behind [] r t d ask offset = refl
run-behind (b ∷ bs) r t d ask offset =
    ap (λ x. stored_run x ask (offset + 1) bs) (unrecorded-behind r t d (store_line ask offset b))
    ∙ run-behind bs r t (unrecorded d (store_line ask offset b)) ask (offset + 1)

brought-behind : (runs : List Run) (r t : List ℕ) (d : Desk) (ask : UnmapAsk) → brought (behind r t d) ask runs ≡ behind r t (brought d ask runs)
unfolding brought
brought-behind [] r t d ask = refl
brought-behind (run ∷ runs) r t d ask =
    ap (λ x. brought x ask runs) (run-behind run.bytes r t d ask run.offset) ∙ brought-behind runs r t (stored_run d ask run.offset run.bytes) ask

given_up-behind : (r t : List ℕ) (d : Desk) (read : Line) → given_up_by (behind r t d) read ≡ behind r t (given_up_by d read)
unfolding given_up
given_up-behind r t d (stream.Envelope sent) = refl
given_up-behind r t d (stream.Ask ask) = refl
given_up-behind r t d (stream.Write write) = refl
given_up-behind r t d (stream.Unmap ask) =
    let last = stream.Unmap (bare ask) in
    let text = entries_text (unmap_entry d.node ask ∷ []) in
    let begun = with_record text d in
    ap (λ x. tell_caller (unrecorded (brought x ask ask.runs) last) (Some ask.tag) (unmap_reply ask.keeps)) (with_record-behind r t d text)
    ∙ ap (λ x. tell_caller (unrecorded x last) (Some ask.tag) (unmap_reply ask.keeps)) (brought-behind ask.runs r t begun ask)
    ∙ ap (λ x. tell_caller x (Some ask.tag) (unmap_reply ask.keeps)) (unrecorded-behind r t (brought begun ask ask.runs) last)
    ∙ tell_caller-behind r t (unrecorded (brought begun ask ask.runs) last) (Some ask.tag) (unmap_reply ask.keeps)

meeting-behind : (r t : List ℕ) (d : Desk) (fresh : Bool) (line : List ℕ) (read : Line) (m : Meeting)
    → by_meeting fresh (behind r t d) line read m ≡ behind r t (by_meeting fresh d line read m)
unfolding by_meeting
meeting-behind r t d fresh line read Free = taken-behind r t d (Some read)
meeting-behind r t d fresh line read (Kept page wants) =
    ap (λ x. keep x page line (tag_in read)) (revoked-behind r t d fresh wants) ∙ keep-behind r t (revoked fresh wants d) page line (tag_in read)
meeting-behind r t d fresh line read (Answered answer) = answered-behind r t d (tag_in read) answer
meeting-behind r t d fresh line read (Maps at index) = made-behind r t d read (map_reply d.node at index)
meeting-behind r t d fresh line read (Tries asked) = tried-behind r t d line read asked
meeting-behind r t d fresh line read Unmaps = given_up-behind r t d read

met_read-behind : (r t : List ℕ) (d : Desk) (fresh : Bool) (line : List ℕ) (read : Option Line)
    → met_read fresh (behind r t d) line read ≡ behind r t (met_read fresh d line read)
met_read-behind r t d fresh line None = refl
met_read-behind r t d fresh line (Some read) = meeting-behind r t d fresh line read (meeting d.node read)

all_met-behind : (kept : List KeptLine) (r t : List ℕ) (d : Desk) (fresh : Bool) → all_met fresh (behind r t d) kept ≡ behind r t (all_met fresh d kept)
unfolding all_met
all_met-behind [] r t d fresh = refl
all_met-behind (k ∷ kept) r t d fresh =
    ap (λ x. all_met fresh x kept) (met_read-behind r t d fresh k.line (read_line k.line)) ∙ all_met-behind kept r t (met fresh d k.line) fresh

reminded-behind : (r t : List ℕ) (d : Desk) (tick : Bool) → reminded_if tick (behind r t d) ≡ behind r t (reminded_if tick d)
unfolding reminded
reminded-behind r t d false = refl
reminded-behind r t d true = tell-behind r t d (flat_map (λ ask. reminder d.seal d.node (next_access ask)) d.node.waiting)

finished-behind : (r t : List ℕ) (d : Desk) (tick : Bool) → finished tick (behind r t d) ≡ behind r t (finished tick d)
finished-behind r t d tick =
    let now = reminded_if tick d in
    ap (λ x. settled most_steps (met_again tick x)) (reminded-behind r t d tick)
    ∙ ap (settled most_steps) (all_met-behind now.kept r t (record now { kept = [] }) tick)
    ∙ settled-behind most_steps r t (met_again tick now)

read_line-behind : (r t : List ℕ) (d : Desk) (line : List ℕ) (read : Option Line)
    → after_read_line (behind r t d) line read ≡ behind r t (after_read_line d line read)
read_line-behind r t d line None = settled-behind most_steps r t (passed d)
read_line-behind r t d line (Some read) =
    let tick = ticks d.node read in
    ap (finished tick) (meeting-behind r t d true line read (meeting d.node read)) ∙ finished-behind r t (by_meeting true d line read (meeting d.node read)) tick

opened-behind : (r t : List ℕ) (d : Desk) (inner : Result (List ℕ) Unsealed) → after_opened (behind r t d) inner ≡ behind r t (after_opened d inner)
opened-behind r t d (Ok line) =
    ap (λ x. after_read_line (later_met x (read_line line)) line (read_line line)) (noted-behind r t d (read_hello line))
    ∙ read_line-behind r t (later_met (noted d (read_hello line)) (read_line line)) line (read_line line)
opened-behind r t d (Err why) = settled-behind most_steps r t (left_sealed d why)

after_line-behind : (r t : List ℕ) (d : Desk) (line : List ℕ) → after_line (behind r t d) line ≡ behind r t (after_line d line)
unfolding after_line
after_line-behind r t d line =
    cond-behind (nat_lt max_line_bytes (length line)) r t
    (record d { node = passed_over d.node }) (record (behind r t d) { node = passed_over d.node })
    (after_opened d (opened d.seal line)) (after_opened (behind r t d) (opened d.seal line))
    refl (opened-behind r t d (opened d.seal line))

on_byte-behind : (r t : List ℕ) (d : Desk) (byte : ℕ) → on_byte (behind r t d) byte ≡ behind r t (on_byte d byte)
unfolding on_byte
on_byte-behind r t d byte =
    cond-behind (byte == 10) r t
    (record (after_line d d.line) { line = [] }) (record (after_line (behind r t d) d.line) { line = [] })
    (record d { line = grown d.line byte }) (record (behind r t d) { line = grown d.line byte })
    (ap (λ (x : Desk). record x { line = [] }) (after_line-behind r t d d.line)) refl

on_bytes-behind : (bytes r t : List ℕ) (d : Desk) → on_bytes (behind r t d) bytes ≡ behind r t (on_bytes d bytes)
unfolding on_bytes
on_bytes-behind [] r t d = refl
on_bytes-behind (b ∷ bs) r t d = ap (λ x. on_bytes x bs) (on_byte-behind r t d b) ∙ on_bytes-behind bs r t (on_byte d b)

pub on_bytes-append : (xs ys : List ℕ) (d : Desk) → on_bytes d (xs ++ ys) ≡ on_bytes (on_bytes d xs) ys
unfolding on_bytes
on_bytes-append [] ys d = refl
on_bytes-append (x ∷ xs) ys d = on_bytes-append xs ys (on_byte d x)

apart : (d : Desk) → d ≡ behind d.recorded d.told (cleared d)
apart d = ap₂ (λ recorded told. record d { recorded = recorded; told = told }) (sym (append-nil d.recorded)) (sym (append-nil d.told))

-- a desk that was cleared goes on as one that still holds what it recorded and told, less that
pub gone_on : (first d : Desk) (bytes more : List ℕ) → d ≡ cleared (on_bytes first bytes)
    → on_bytes first (bytes ++ more) ≡ behind (on_bytes first bytes).recorded (on_bytes first bytes).told (on_bytes d more)
gone_on first d bytes more e =
    let whole = on_bytes first bytes in
    on_bytes-append bytes more first ∙ ap (λ x. on_bytes x more) (apart whole) ∙ on_bytes-behind more whole.recorded whole.told (cleared whole)
    ∙ ap (λ x. behind whole.recorded whole.told (on_bytes x more)) (sym e)
