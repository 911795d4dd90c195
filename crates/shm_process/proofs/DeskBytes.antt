-- A desk line by line: bytes without a line feed are gathered, and the line feed behind them ends a line.
use Rattle.std.proofs.Common.{◌≡◌, ℕ, zero, suc, ◌+◌, ◌-◌, ◌≤◌, ◌==◌, Bool, true, false, List, [], ◌∷◌, ◌++◌, length, take, min, cond, nat_lt, refl, ap, sym, ◌∙◌, append-nil, arith}
use Rattle.std.specs.List.{All}
use Rattle.std.specs.Option.{option_map_or}
use Rattle.std.specs.Prelude.{Option, None, Some, Result, Ok, Err, is_some, option_and_then}
use Rattle.std.proofs.lemmas.Bool.Decides.{nat_tests}
use Rattle.std.proofs.Math.Seq.{take-nil}
use Rattle.std.proofs.lemmas.List.{append_assoc, length-append, length-take, take_all, take_min}
use Rattle.std.proofs.lemmas.List.Elements.{All-head, All-tail}
use Rattle.shm_place.specs.declared.page_id.PageId.{PageId}
use Rattle.shm_model.specs.declared.answer.Answer.TheVariants.{Waiting}
use Rattle.shm_model.specs.declared.asked_access.Asked.{Asked}
use Rattle.shm_seal.specs.Seal.{opened}
use Rattle.shm_seal.specs.declared.open_line_error.Unsealed.{Unsealed}
use Rattle.shm_wire.specs.Line.{Line, read_line}
use Rattle.shm_wire.specs.Line as stream
use Rattle.shm_wire.specs.Unmaps.{Run, UnmapAsk}
use Rattle.shm_wire.specs.declared.mapping_text.RevokeText.{RevokeText}
use Rattle.shm_process.specs.Access.{is_open}
use Rattle.shm_process.specs.Desk.{Desk, KeptLine, after_line, after_opened, after_read_line, all_made, all_met, answered, brought, by_meeting, closed, closed_by, finished, given_up, given_up_by, grown, grown_by, keep, later_met, left_sealed, made_again, made_and_told, made_in_row, map_reply, max_line_bytes, may_keep, met, met_again, met_read, noted, on_byte, on_bytes, passed, quietly, reminded, reminded_if, revoked, settled, stored_run, tag_in, taken, tell_caller, ticks, told_quietly, tried, tried_by, try_of, unmap_entry, unmap_reply, unrecorded, untagged, with_again, with_other, with_record, with_step, with_told}
use Rattle.shm_process.specs.Causes.{bare, store_line}
use Rattle.shm_process.specs.Hello.{first_other, read_hello}
use Rattle.shm_process.specs.Meetings.{meeting}
use Rattle.shm_process.specs.Node.{Said}
use Rattle.shm_process.specs.declared.hello_line.Hello.{Hello}
use Rattle.shm_process.specs.declared.line_meeting.Meeting.{Meeting}
use Rattle.shm_process.specs.declared.line_meeting.Meeting.TheVariants.{Answered, Free, Kept, Maps, Tries, Unmaps}
use Rattle.shm_process.specs.declared.site_opening.Disagreement.{Disagreement}
use Rattle.shm_process.specs.Recorded.{entries_text}
use Rattle.shm_process.specs.Rows.{Row, joined, row_in}
use Rattle.shm_process.specs.Waiting.{after, after_again, most_steps, passed_over, said, said_again}
use Rattle.shm_process.proofs.DeskLemmas.{on_bytes-append}

abbrev NoFeed : List ℕ → Type 0
NoFeed bytes = All (λ byte. (byte == 10) ≡ false) bytes

-- ---- what is gathered

-- the front of a line that is kept
abbrev pub room : List ℕ → ℕ
room line = (max_line_bytes + 1) - length line

grown-cut : (line : List ℕ) (byte : ℕ) (bytes : List ℕ) (over : Bool) → nat_lt max_line_bytes (length line) ≡ over
    → cond over line (line ++ byte ∷ []) ++ take (room (cond over line (line ++ byte ∷ []))) bytes ≡ line ++ take (room line) (byte ∷ bytes)
grown-cut line byte bytes true is =
    let none : room line ≡ 0 = no-room (length line) is in
    ap (λ n. line ++ take n bytes) none ∙ sym (ap (λ n. line ++ take n (byte ∷ bytes)) none)
  where
    no-room : (n : ℕ) → nat_lt max_line_bytes n ≡ true → (max_line_bytes + 1) - n ≡ 0
    no-room n h = grind (arith, nat_tests)
grown-cut line byte bytes false is =
    let one : room line ≡ suc (room (line ++ byte ∷ [])) = some-room (length line) (length (line ++ byte ∷ [])) is (length-append line (byte ∷ [])) in
    append_assoc line (byte ∷ []) (take (room (line ++ byte ∷ [])) bytes) ∙ sym (ap (λ n. line ++ take n (byte ∷ bytes)) one)
  where
    some-room : (n m : ℕ) → nat_lt max_line_bytes n ≡ false → m ≡ n + 1 → (max_line_bytes + 1) - n ≡ suc ((max_line_bytes + 1) - m)
    some-room n m h same = grind (arith, nat_tests)

pub gathered : (bytes : List ℕ) (d : Desk) → NoFeed bytes → on_bytes d bytes ≡ record d { line = d.line ++ take (room d.line) bytes }
unfolding on_bytes on_byte
gathered [] d none = ap (λ l. record d { line = l }) (sym (ap (λ l. d.line ++ l) (take-nil (room d.line)) ∙ append-nil d.line))
gathered (byte ∷ bytes) d none =
    ap (λ x. on_bytes x bytes) (grows d byte (All-head (λ byte. (byte == 10) ≡ false) byte bytes none))
    ∙ gathered bytes (record d { line = grown d.line byte }) (All-tail (λ byte. (byte == 10) ≡ false) byte bytes none)
    ∙ ap (λ l. record d { line = l }) (grown-cut d.line byte bytes (nat_lt max_line_bytes (length d.line)) refl)
  where
    grows : (d : Desk) (byte : ℕ) → (byte == 10) ≡ false → on_byte d byte ≡ record d { line = grown d.line byte }
    grows d byte h = ap (λ b. cond b (record (after_line d d.line) { line = [] }) (record d { line = grown d.line byte })) h

-- what was kept of these bytes
pub kept : (d next : Desk) (bytes : List ℕ) (n count : ℕ) → NoFeed bytes → n ≡ room d.line → count ≡ min n (length bytes)
    → next ≡ record d { line = d.line ++ take count bytes } → next ≡ on_bytes d bytes
kept d next bytes n count none left is e =
    e ∙ ap (λ k. record d { line = d.line ++ take k bytes }) is
    ∙ ap (λ xs. record d { line = d.line ++ xs }) (take_min n bytes ∙ ap (λ k. take k bytes) left)
    ∙ sym (gathered bytes d none)

-- ---- a line ends

pub empty_from : (xs : List ℕ) → length xs ≡ 0 → xs ≡ []
empty_from [] h = refl
empty_from (x ∷ xs) h = absurd (omega (arith, h))

-- the desk, had it gathered this of a line
abbrev pub with_line : List ℕ → Desk → Desk
with_line line desk = record desk { line = line }

cond-line : (b : Bool) (l : List ℕ) (x after_x y after_y : Desk) → after_x ≡ with_line l x → after_y ≡ with_line l y
    → cond b after_x after_y ≡ with_line l (cond b x y)
cond-line true l x after_x y after_y p q = p
cond-line false l x after_x y after_y p q = q

-- ---- rows

closed_by-line : (l : List ℕ) (d : Desk) (row : Option Row) → closed_by (with_line l d) row ≡ with_line l (closed_by d row)
closed_by-line l d None = refl
closed_by-line l d (Some row) = refl

grown_by-line : (l : List ℕ) (d : Desk) (next : Row) (o : Option Row) → grown_by (with_line l d) next o ≡ with_line l (grown_by d next o)
grown_by-line l d next None = ap (λ (x : Desk). record x { row = Some next }) (closed_by-line l d d.row)
grown_by-line l d next (Some row) = refl

made_in_row-line : (l : List ℕ) (d : Desk) (said : Said) (row : Option Row) → made_in_row (with_line l d) said row ≡ with_line l (made_in_row d said row)
made_in_row-line l d said None = refl
made_in_row-line l d said (Some next) = grown_by-line l (with_told d said) next (option_and_then (λ row. joined row next) d.row)

with_again-line : (l : List ℕ) (d : Desk) (said : Option Said) → with_again (with_line l d) said ≡ with_line l (with_again d said)
with_again-line l d None = refl
with_again-line l d (Some said) = made_in_row-line l d said (row_in said.clock said.cause)

made_again-line : (l : List ℕ) (d : Desk) → made_again (with_line l d) ≡ with_line l (made_again d)
made_again-line l d = with_again-line l (record d { node = after_again d.node }) (said_again d.node)

all_made-line : (n : ℕ) (l : List ℕ) (d : Desk) → all_made n (with_line l d) ≡ with_line l (all_made n d)
unfolding all_made
all_made-line zero l d = refl
all_made-line (suc n) l d =
    cond-line (is_some (said_again d.node)) l (all_made n (made_again d)) (all_made n (made_again (with_line l d))) d (with_line l d)
    (ap (all_made n) (made_again-line l d) ∙ all_made-line n l (made_again d)) refl

settled-line : (n : ℕ) (l : List ℕ) (d : Desk) → settled n (with_line l d) ≡ with_line l (settled n d)
unfolding settled
settled-line n l d = ap closed (all_made-line n l d) ∙ closed_by-line l (all_made n d) (all_made n d).row

other-line : (l : List ℕ) (d : Desk) (o : Option Disagreement)
    → option_map_or (with_other (with_line l d)) o (with_line l d) ≡ with_line l (option_map_or (with_other d) o d)
other-line l d None = refl
other-line l d (Some x) = refl

noted-line : (l : List ℕ) (d : Desk) (read : Option Hello) → noted (with_line l d) read ≡ with_line l (noted d read)
noted-line l d read = other-line l d (first_other d.opening d.other read)

-- ---- a line while pages are mapped

quietly-line : (l : List ℕ) (d : Desk) (line : Line) → quietly (with_line l d) line ≡ with_line l (quietly d line)
unfolding quietly
quietly-line l d line = refl

revoked-line : (l : List ℕ) (d : Desk) (fresh : Bool) (wants : Option RevokeText) → revoked fresh wants (with_line l d) ≡ with_line l (revoked fresh wants d)
revoked-line l d false wants = refl
revoked-line l d true wants = refl

keep-line : (l : List ℕ) (d : Desk) (page : Option PageId) (line : List ℕ) (tag : Option (List ℕ))
    → keep (with_line l d) page line tag ≡ with_line l (keep d page line tag)
keep-line l d page line tag =
    let kept = d.kept ++ record { line = line; page = page } ∷ [] in
    cond-line (may_keep d.kept page) l (record d { kept = kept }) (record (with_line l d) { kept = kept })
    (answered d tag Waiting) (answered (with_line l d) tag Waiting) refl refl

made-line : (l : List ℕ) (d : Desk) (line : Line) (text : List ℕ) → made_and_told (with_line l d) line text ≡ with_line l (made_and_told d line text)
made-line l d line text = ap (λ x. tell_caller x (tag_in line) text) (quietly-line l d line)

tried_by-line : (l : List ℕ) (d : Desk) (line : List ℕ) (tag : Option (List ℕ)) (said : Option Said)
    → tried_by (with_line l d) line tag said ≡ with_line l (tried_by d line tag said)
tried_by-line l d line tag None = refl
tried_by-line l d line tag (Some said) =
    let quiet = with_step d (Some (untagged said)) in
    cond-line (is_open said.answer) l (keep quiet None line tag) (keep (with_line l quiet) None line tag) (with_step d (Some said)) (with_step (with_line l d) (Some said))
    (keep-line l quiet None line tag) refl

tried-line : (l : List ℕ) (d : Desk) (line : List ℕ) (read : Line) (asked : Asked) → tried (with_line l d) line read asked ≡ with_line l (tried d line read asked)
unfolding tried
tried-line l d line read asked =
    let step = try_of read asked in
    tried_by-line l (record d { node = after d.node step }) line (tag_in step) (said d.node step)

told_quietly-line : (l : List ℕ) (d : Desk) (said : Option Said) → told_quietly (with_line l d) said ≡ with_line l (told_quietly d said)
told_quietly-line l d None = refl
told_quietly-line l d (Some said) = refl

unrecorded-line : (l : List ℕ) (d : Desk) (line : Line) → unrecorded (with_line l d) line ≡ with_line l (unrecorded d line)
unfolding unrecorded
unrecorded-line l d line = told_quietly-line l (record d { node = after d.node line }) (said d.node line)

run-line : (bytes l : List ℕ) (d : Desk) (ask : UnmapAsk) (offset : ℕ) → stored_run (with_line l d) ask offset bytes ≡ with_line l (stored_run d ask offset bytes)
unfolding stored_run
run-line [] l d ask offset = refl
run-line (b ∷ bs) l d ask offset =
    ap (λ x. stored_run x ask (offset + 1) bs) (unrecorded-line l d (store_line ask offset b))
    ∙ run-line bs l (unrecorded d (store_line ask offset b)) ask (offset + 1)

brought-line : (runs : List Run) (l : List ℕ) (d : Desk) (ask : UnmapAsk) → brought (with_line l d) ask runs ≡ with_line l (brought d ask runs)
unfolding brought
brought-line [] l d ask = refl
brought-line (run ∷ runs) l d ask =
    ap (λ x. brought x ask runs) (run-line run.bytes l d ask run.offset) ∙ brought-line runs l (stored_run d ask run.offset run.bytes) ask

given_up-line : (l : List ℕ) (d : Desk) (read : Line) → given_up_by (with_line l d) read ≡ with_line l (given_up_by d read)
unfolding given_up
given_up-line l d (stream.Envelope sent) = refl
given_up-line l d (stream.Ask ask) = refl
given_up-line l d (stream.Write write) = refl
given_up-line l d (stream.Unmap ask) =
    let last = stream.Unmap (bare ask) in
    let begun = with_record (entries_text (unmap_entry d.node ask ∷ [])) d in
    ap (λ x. tell_caller (unrecorded x last) (Some ask.tag) (unmap_reply ask.keeps)) (brought-line ask.runs l begun ask)
    ∙ ap (λ x. tell_caller x (Some ask.tag) (unmap_reply ask.keeps)) (unrecorded-line l (brought begun ask ask.runs) last)

meeting-line : (l : List ℕ) (d : Desk) (fresh : Bool) (line : List ℕ) (read : Line) (m : Meeting)
    → by_meeting fresh (with_line l d) line read m ≡ with_line l (by_meeting fresh d line read m)
unfolding by_meeting taken
meeting-line l d fresh line read Free = refl
meeting-line l d fresh line read (Kept page wants) =
    ap (λ x. keep x page line (tag_in read)) (revoked-line l d fresh wants) ∙ keep-line l (revoked fresh wants d) page line (tag_in read)
meeting-line l d fresh line read (Answered answer) = refl
meeting-line l d fresh line read (Maps at index) = made-line l d read (map_reply d.node at index)
meeting-line l d fresh line read (Tries asked) = tried-line l d line read asked
meeting-line l d fresh line read Unmaps = given_up-line l d read

met_read-line : (l : List ℕ) (d : Desk) (fresh : Bool) (line : List ℕ) (read : Option Line)
    → met_read fresh (with_line l d) line read ≡ with_line l (met_read fresh d line read)
met_read-line l d fresh line None = refl
met_read-line l d fresh line (Some read) = meeting-line l d fresh line read (meeting d.node read)

all_met-line : (kept : List KeptLine) (l : List ℕ) (d : Desk) (fresh : Bool) → all_met fresh (with_line l d) kept ≡ with_line l (all_met fresh d kept)
unfolding all_met
all_met-line [] l d fresh = refl
all_met-line (k ∷ kept) l d fresh =
    ap (λ x. all_met fresh x kept) (met_read-line l d fresh k.line (read_line k.line)) ∙ all_met-line kept l (met fresh d k.line) fresh

reminded-line : (l : List ℕ) (d : Desk) (tick : Bool) → reminded_if tick (with_line l d) ≡ with_line l (reminded_if tick d)
unfolding reminded
reminded-line l d false = refl
reminded-line l d true = refl

finished-line : (l : List ℕ) (d : Desk) (tick : Bool) → finished tick (with_line l d) ≡ with_line l (finished tick d)
finished-line l d tick =
    let now = reminded_if tick d in
    ap (λ x. settled most_steps (met_again tick x)) (reminded-line l d tick)
    ∙ ap (settled most_steps) (all_met-line now.kept l (record now { kept = [] }) tick)
    ∙ settled-line most_steps l (met_again tick now)

read_line-line : (l : List ℕ) (d : Desk) (line : List ℕ) (read : Option Line) → after_read_line (with_line l d) line read ≡ with_line l (after_read_line d line read)
read_line-line l d line None = settled-line most_steps l (passed d)
read_line-line l d line (Some read) =
    let tick = ticks d.node read in
    ap (finished tick) (meeting-line l d true line read (meeting d.node read)) ∙ finished-line l (by_meeting true d line read (meeting d.node read)) tick

opened-line : (l : List ℕ) (d : Desk) (inner : Result (List ℕ) Unsealed) → after_opened (with_line l d) inner ≡ with_line l (after_opened d inner)
opened-line l d (Ok line) =
    ap (λ x. after_read_line (later_met x (read_line line)) line (read_line line)) (noted-line l d (read_hello line))
    ∙ read_line-line l (later_met (noted d (read_hello line)) (read_line line)) line (read_line line)
opened-line l d (Err why) = settled-line most_steps l (left_sealed d why)

-- what a line does has nothing to do with what is gathered of the next
line-apart : (l : List ℕ) (d : Desk) (line : List ℕ) → after_line (with_line l d) line ≡ with_line l (after_line d line)
unfolding after_line
line-apart l d line =
    cond-line (nat_lt max_line_bytes (length line)) l
    (record d { node = passed_over d.node }) (record (with_line l d) { node = passed_over d.node })
    (after_opened d (opened d.seal line)) (after_opened (with_line l d) (opened d.seal line))
    refl (opened-line l d (opened d.seal line))

ended : (d : Desk) (bytes : List ℕ) → on_bytes d (bytes ++ 10 ∷ []) ≡ with_line [] (after_line (on_bytes d bytes) (on_bytes d bytes).line)
unfolding on_bytes on_byte
ended d bytes = on_bytes-append bytes (10 ∷ []) d

-- of a line that is too long enough is kept to tell
enough-kept : (d : Desk) (bytes : List ℕ) (long : Bool) → nat_lt max_line_bytes (length bytes) ≡ long
    → after_line d (take (max_line_bytes + 1) bytes) ≡ after_line d bytes
unfolding after_line
enough-kept d bytes true is =
    let cut : nat_lt max_line_bytes (length (take (max_line_bytes + 1) bytes)) ≡ true =
    ap (nat_lt max_line_bytes) (length-take (max_line_bytes + 1) bytes) ∙ still (length bytes) is in
    ap (λ b. cond b (record d { node = passed_over d.node }) (after_opened d (opened d.seal (take (max_line_bytes + 1) bytes)))) cut
    ∙ sym (ap (λ b. cond b (record d { node = passed_over d.node }) (after_opened d (opened d.seal bytes))) is)
  where
    still : (n : ℕ) → nat_lt max_line_bytes n ≡ true → nat_lt max_line_bytes (min (max_line_bytes + 1) n) ≡ true
    still n h = grind (arith, nat_tests)
enough-kept d bytes false is = ap (after_line d) (take_all (max_line_bytes + 1) bytes (short (length bytes) is))
  where
    short : (n : ℕ) → nat_lt max_line_bytes n ≡ false → n ≤ max_line_bytes + 1
    short n h = grind (arith, nat_tests)

-- a line that lies whole in the bytes that came
pub whole_line : (d next : Desk) (bytes : List ℕ) → NoFeed bytes → d.line ≡ [] → next ≡ after_line d bytes → next ≡ on_bytes d (bytes ++ 10 ∷ [])
whole_line d next bytes none empty e =
    let front = take (max_line_bytes + 1) bytes in
    let now : on_bytes d bytes ≡ with_line front d = gathered bytes d none ∙ ap (λ l. with_line (l ++ take (room l) bytes) d) empty in
    let clean : with_line [] d ≡ d = ap (λ l. with_line l d) (sym empty) in
    e ∙ sym (ap (λ x. after_line x bytes) clean) ∙ line-apart [] d bytes
    ∙ ap (with_line []) (sym (enough-kept d bytes (nat_lt max_line_bytes (length bytes)) refl))
    ∙ ap (with_line []) (sym (line-apart front d front))
    ∙ sym (ended d bytes ∙ ap (λ x. with_line [] (after_line x x.line)) now)

-- one whose front came before
pub rest_of_line : (d now next : Desk) (bytes : List ℕ) → now ≡ on_bytes d bytes → next ≡ after_line (with_line [] now) now.line → next ≡ on_bytes d (bytes ++ 10 ∷ [])
rest_of_line d now next bytes is e =
    e ∙ line-apart [] now now.line ∙ ap (λ x. with_line [] (after_line x x.line)) is ∙ sym (ended d bytes)

-- ---- all lines

pub one_more : (d next whole : Desk) (bytes line rest : List ℕ) → bytes ≡ line ++ 10 ∷ rest → next ≡ on_bytes d (line ++ 10 ∷ [])
    → on_bytes d bytes ≡ whole → on_bytes next rest ≡ whole
one_more d next whole bytes line rest cut e before =
    ap (λ x. on_bytes x rest) e ∙ sym (on_bytes-append (line ++ 10 ∷ []) rest d)
    ∙ ap (on_bytes d) (append_assoc line (10 ∷ []) rest ∙ sym cut) ∙ before
