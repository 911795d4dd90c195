-- What a process records and tells: its node, what was read of a line, the entries of the steps that it made, a row of accesses that may still
-- grow, and what callers and other sites are told of them. Each line that comes is opened first, and each that is told is sealed; what is
-- recorded isn't. Where its site says how it was begun, it has the first that another says otherwise; and the first step that its site has
-- told, and doesn't have.
use Rattle.std.specs.Prelude.{ℕ, zero, suc, ◌+◌, ◌==◌, ◌&&◌, Bool, true, false, not, List, [], ◌∷◌, ◌++◌, codes, Option, Some, None, Result, Ok, Err, if◌then◌else◌, is_some, length, nat_lt, option_and_then, option_map}
use Rattle.std.specs.List.{flat_map, list_any}
use Rattle.std.specs.Option.{option_map_or, option_or}
use Rattle.shm_place.specs.declared.page_id.PageId.{PageId}
use Rattle.shm_place.specs.Page.{same_page}
use Rattle.shm_model.specs.declared.answer.Answer.{Answer}
use Rattle.shm_model.specs.declared.answer.Answer.TheVariants.{Waiting}
use Rattle.shm_model.specs.declared.asked_access.Asked.{Asked}
use Rattle.shm_model.specs.declared.request_kind.Kind.{Kind}
use Rattle.shm_model.specs.declared.request_kind.Kind.TheVariants.{Read, Write}
use Rattle.shm_seal.specs.Seal.{Seal, opened, sealed}
use Rattle.shm_seal.specs.declared.open_line_error.Unsealed.{Unsealed}
use Rattle.shm_text.specs.Text.{answer_text}
use Rattle.shm_wire.specs.Answers.{tell_line}
use Rattle.shm_wire.specs.Line.{Line, read_line}
use Rattle.shm_wire.specs.Line as stream
use Rattle.shm_wire.specs.Sent.{Sent}
use Rattle.shm_wire.specs.MappingTexts.{mapped_text, raised_text, revoke_text, synced_text, unmapped_text}
use Rattle.shm_wire.specs.Unmaps.{Run, UnmapAsk}
use Rattle.shm_wire.specs.declared.caller_ask.Question.{Question}
use Rattle.shm_wire.specs.declared.caller_ask.Question.TheVariants as question
use Rattle.shm_wire.specs.declared.mapping_text.Mapping.{Mapping}
use Rattle.shm_wire.specs.declared.mapping_text.RevokeText.{RevokeText}
use Rattle.shm_process.specs.Access.{is_open}
use Rattle.shm_process.specs.Cause.{OfLine}
use Rattle.shm_process.specs.Causes.{bare, store_line}
use Rattle.shm_process.specs.Counts.{Counts, counts_from, with_said, with_text, with_unopened}
use Rattle.shm_process.specs.Hello.{first_other, greeting, hello_line, hello_to, read_hello}
use Rattle.shm_process.specs.Lines.{sent_lines}
use Rattle.shm_process.specs.Mapped.{byte_place, keeps_beside, mapped_there, passing}
use Rattle.shm_process.specs.Meetings.{meeting, revoking}
use Rattle.shm_process.specs.Node.{Node, Said, is_beyond, next_clock}
use Rattle.shm_process.specs.Recorded.{Entry, entries_text, recorded}
use Rattle.shm_process.specs.Remaps.{bytes_there}
use Rattle.shm_process.specs.Rows.{Row, joined, row_entry, row_in}
use Rattle.shm_process.specs.Telling.{answer_line_of, shown_line}
use Rattle.shm_process.specs.Waiting.{after, after_again, after_read, after_restart, most_steps, passed_over, said, said_again, said_read, said_restart}
use Rattle.shm_process.specs.WaitingAsks.{next_access}
use Rattle.shm_process.specs.declared.hello_line.Hello.{Hello}
use Rattle.shm_process.specs.declared.line_meeting.Meeting.{Meeting}
use Rattle.shm_process.specs.declared.line_meeting.Meeting.TheVariants.{Answered, Free, Kept, Maps, Tries, Unmaps}
use Rattle.shm_process.specs.declared.process_counts.Start.{Start}
use Rattle.shm_process.specs.declared.site_opening.Disagreement.{Disagreement}
use Rattle.shm_process.specs.declared.site_opening.Opening.{Opening}

-- a line that is kept back, and the page that is to be given up before, where it is an envelope
pub record KeptLine : Type 0 where
  pub line : List ℕ
  pub page : Option PageId

pub record Desk : Type 0 where
  pub node : Node
  pub seal : Seal
  pub opening : Option Opening
  pub other : Option Opening
  pub later : Option ℕ
  pub counts : Counts
  pub line : List ℕ
  pub kept : List KeptLine
  pub recorded : List ℕ
  pub row : Option Row
  pub told : List ℕ

abbrev pub desk_at : Seal → Node → Desk
desk_at seal node = record {
  node = node;
  seal = seal;
  opening = None;
  other = None;
  later = None;
  counts = counts_from (record { journal = 0; since = 0 });
  line = [];
  kept = [];
  recorded = [];
  row = None;
  told = [];
}

-- one that has said to the others how its site was begun
abbrev pub greeting_at : Seal → Node → Opening → Start → Desk
greeting_at seal node own start =
    record (desk_at seal node) { opening = Some own; counts = counts_from start; told = greeting seal own }

-- a line, sealed, and its line feed, if there is one
abbrev pub line_text : Seal → Option (List ℕ) → List ℕ
line_text seal None = []
line_text seal (Some line) = sealed seal line ++ 10 ∷ []

-- what is told of a step: the answer, if a caller is told it, and what the site sent
unfoldable pub step_text : Seal → Option Said → List ℕ
step_text seal None = []
step_text seal (Some said) = line_text seal (answer_line_of said) ++ sent_lines seal said

-- what is recorded of a step
unfoldable pub step_entry : Option Said → List ℕ
step_entry said = entries_text (recorded said [])

abbrev pub tell : Desk → List ℕ → Desk
tell desk text = record desk { told = desk.told ++ text }

-- a step is counted, if one was made, and what is recorded of it
abbrev pub counts_after : Option Said → Counts → Counts
counts_after None counts = counts
counts_after (Some said) counts = with_text (step_entry (Some said)) (with_said said counts)

-- a step is recorded, if one was made, and told of
abbrev pub with_step : Desk → Option Said → Desk
with_step desk said = record desk {
  recorded = desk.recorded ++ step_entry said;
  told = desk.told ++ step_text desk.seal said;
  counts = counts_after said desk.counts;
}

-- a text is recorded
abbrev pub with_record : List ℕ → Desk → Desk
with_record text desk = record desk { recorded = desk.recorded ++ text; counts = with_text text desk.counts }

-- ---- rows

-- the row is recorded, if there is one
abbrev pub closed_by : Desk → Option Row → Desk
closed_by desk None = desk
closed_by desk (Some row) = record (with_record (entries_text (row_entry desk.node.me row ∷ [])) desk) { row = None }

abbrev pub closed : Desk → Desk
closed desk = closed_by desk desk.row

-- a step joins the row, or begins another
abbrev pub grown_by : Desk → Row → Option Row → Desk
grown_by desk next None = record (closed desk) { row = Some next }
grown_by desk next (Some row) = record desk { row = Some row }

abbrev pub in_row : Desk → Row → Desk
in_row desk next = grown_by desk next (option_and_then (λ row. joined row next) desk.row)

-- a step is told of and counted; it is recorded elsewhere
abbrev pub with_told : Desk → Said → Desk
with_told desk said = record desk { told = desk.told ++ step_text desk.seal (Some said); counts = with_said said desk.counts }

abbrev pub made_in_row : Desk → Said → Option Row → Desk
made_in_row desk said None = with_step desk (Some said)
made_in_row desk said (Some next) = in_row (with_told desk said) next

abbrev pub with_again : Desk → Option Said → Desk
with_again desk None = desk
with_again desk (Some said) = made_in_row desk said (row_in said.clock said.cause)

abbrev pub made_again : Desk → Desk
made_again desk = with_again (record desk { node = after_again desk.node }) (said_again desk.node)

-- steps of asks that wait are made, as long as one can be, and at most so many
unfoldable pub all_made : ℕ → Desk → Desk
all_made zero desk = desk
all_made (suc n) desk = if is_some (said_again desk.node) then all_made n (made_again desk) else desk

unfoldable pub settled : ℕ → Desk → Desk
settled n desk = closed (all_made n desk)

-- a line is taken, as what was read of it
unfoldable pub taken : Desk → Option Line → Desk
taken desk read =
    let shown = tell desk (line_text desk.seal (option_and_then (shown_line desk.counts desk.node) read)) in
    with_step (record shown { node = after_read desk.node read }) (said_read desk.node read)

-- the bytes that a line has at most, less its line feed; a longer one is passed over
abbrev pub max_line_bytes : ℕ
max_line_bytes = 8192

-- a line that isn't opened is passed over, and counted by its cause
abbrev pub left_sealed : Desk → Unsealed → Desk
left_sealed desk why = record desk { node = passed_over desk.node; counts = with_unopened why desk.counts }

-- ---- a line while pages are mapped

-- a step whose answer isn't told
abbrev pub untagged : Said → Said
untagged said = record said { tag = None }

unfoldable pub quietly : Desk → Line → Desk
quietly desk line = with_step (record desk { node = after desk.node line }) (option_map untagged (said desk.node line))

-- the tag of the caller who asks
abbrev pub tag_in : Line → Option (List ℕ)
tag_in (stream.Envelope sent) = None
tag_in (stream.Ask ask) = Some ask.tag
tag_in (stream.Write write) = Some write.tag
tag_in (stream.Unmap unmap) = Some unmap.tag

abbrev pub told_to : Node → List ℕ → List ℕ → List ℕ
told_to node text tag = tell_line (record { site = node.me; tag = tag; text = text })

-- a caller is told this
abbrev pub tell_caller : Desk → Option (List ℕ) → List ℕ → Desk
tell_caller desk tag text = tell desk (line_text desk.seal (option_map (told_to desk.node text) tag))

-- the site's machine is asked to give a page up
abbrev pub any_tag : List ℕ
any_tag = codes "*"

abbrev pub revoke_line : Node → RevokeText → List ℕ
revoke_line node r = told_to node (revoke_text r.page r.keeps) any_tag

abbrev pub revoked : Bool → Option RevokeText → Desk → Desk
revoked false wants desk = desk
revoked true wants desk = tell desk (line_text desk.seal (option_map (revoke_line desk.node) wants))

abbrev pub passed : Desk → Desk
passed desk = record desk { node = passed_over desk.node }

-- a line that is answered without a step
abbrev pub answered : Desk → Option (List ℕ) → Answer → Desk
answered desk tag answer = tell_caller (passed desk) tag (answer_text answer)

-- so many lines are kept back at most, and of envelopes one for each page: a tick brings the others again
abbrev pub most_kept : ℕ
most_kept = 64

abbrev pub is_page : PageId → Option PageId → Bool
is_page page None = false
is_page page (Some other) = same_page page other

abbrev pub is_new_page : List KeptLine → Option PageId → Bool
is_new_page kept None = true
is_new_page kept (Some page) = not (list_any (λ k. is_page page k.page) kept)

abbrev pub may_keep : List KeptLine → Option PageId → Bool
may_keep kept page = nat_lt (length kept) most_kept && is_new_page kept page

-- a line is kept back, if it finds room; else its caller may ask again
abbrev pub keep : Desk → Option PageId → List ℕ → Option (List ℕ) → Desk
keep desk page line tag =
    if may_keep desk.kept page then record desk { kept = desk.kept ++ record { line = line; page = page } ∷ [] } else answered desk tag Waiting

-- the answer to a map: of a page that is mapped already the machine has the bytes
abbrev pub map_text : Option Mapping → List ℕ → List ℕ
map_text None bytes = mapped_text bytes
map_text (Some m) bytes = raised_text

abbrev pub map_reply : Node → ℕ → ℕ → List ℕ
map_reply node at index =
    map_text (mapped_there node.mapped node.site at (byte_place index 0)) (bytes_there node.site at index)

-- a step, and this told of it
abbrev pub made_and_told : Desk → Line → List ℕ → Desk
made_and_told desk line text = tell_caller (quietly desk line) (tag_in line) text

-- a step that asked for a right: its line is kept back, unless it was refused
abbrev pub tried_so : Desk → List ℕ → Option (List ℕ) → Said → Desk
tried_so desk line tag said =
    if is_open said.answer then keep (with_step desk (Some (untagged said))) None line tag else with_step desk (Some said)

abbrev pub tried_by : Desk → List ℕ → Option (List ℕ) → Option Said → Desk
tried_by desk line tag None = desk
tried_by desk line tag (Some said) = tried_so desk line tag said

-- the line of that step, under the caller's tag
abbrev pub try_of : Line → Asked → Line
try_of (stream.Ask ask) asked = stream.Ask (record ask { asked = question.Try asked })
try_of (stream.Envelope sent) asked = stream.Envelope sent
try_of (stream.Write write) asked = stream.Write write
try_of (stream.Unmap unmap) asked = stream.Unmap unmap

unfoldable pub tried : Desk → List ℕ → Line → Asked → Desk
tried desk line read asked =
    let step = try_of read asked in
    tried_by (record desk { node = after desk.node step }) line (tag_in step) (said desk.node step)

-- the steps of an unmap: their entry is the unmap's
abbrev pub told_quietly : Desk → Option Said → Desk
told_quietly desk None = desk
told_quietly desk (Some said) = with_told desk (untagged said)

unfoldable pub unrecorded : Desk → Line → Desk
unrecorded desk line = told_quietly (record desk { node = after desk.node line }) (said desk.node line)

-- each byte that is brought is stored
unfoldable pub stored_run : Desk → UnmapAsk → ℕ → List ℕ → Desk
stored_run desk ask offset [] = desk
stored_run desk ask offset (byte ∷ bytes) = stored_run (unrecorded desk (store_line ask offset byte)) ask (offset + 1) bytes

unfoldable pub brought : Desk → UnmapAsk → List Run → Desk
brought desk ask [] = desk
brought desk ask (run ∷ runs) = brought (stored_run desk ask run.offset run.bytes) ask runs

abbrev pub unmap_reply : Option Kind → List ℕ
unmap_reply None = unmapped_text
unmap_reply (Some Read) = unmapped_text
unmap_reply (Some Write) = synced_text

-- one entry has all its steps
abbrev pub unmap_entry : Node → UnmapAsk → Entry
unmap_entry node ask = record { clock = next_clock node 0; cause = OfLine (stream.Unmap ask) }

-- all bytes are stored, and then the page is given up
unfoldable pub given_up : Desk → UnmapAsk → Desk
given_up desk ask =
    let begun = with_record (entries_text (unmap_entry desk.node ask ∷ [])) desk in
    tell_caller (unrecorded (brought begun ask ask.runs) (stream.Unmap (bare ask))) (Some ask.tag) (unmap_reply ask.keeps)

abbrev pub given_up_by : Desk → Line → Desk
given_up_by desk (stream.Unmap ask) = given_up desk ask
given_up_by desk (stream.Envelope sent) = desk
given_up_by desk (stream.Ask ask) = desk
given_up_by desk (stream.Write write) = desk

-- what becomes of a line; where it comes for the first time, or at a tick, the machine is asked for what it waits for
unfoldable pub by_meeting : Bool → Desk → List ℕ → Line → Meeting → Desk
by_meeting fresh desk line read Free = taken desk (Some read)
by_meeting fresh desk line read (Kept page wants) = keep (revoked fresh wants desk) page line (tag_in read)
by_meeting fresh desk line read (Answered answer) = answered desk (tag_in read) answer
by_meeting fresh desk line read (Maps at index) = made_and_told desk read (map_reply desk.node at index)
by_meeting fresh desk line read (Tries asked) = tried desk line read asked
by_meeting fresh desk line read Unmaps = given_up_by desk read

abbrev pub met_read : Bool → Desk → List ℕ → Option Line → Desk
met_read fresh desk line None = passed desk
met_read fresh desk line (Some read) = by_meeting fresh desk line read (meeting desk.node read)

abbrev pub met : Bool → Desk → List ℕ → Desk
met fresh desk line = met_read fresh desk line (read_line line)

-- what was kept back comes again
unfoldable pub all_met : Bool → Desk → List KeptLine → Desk
all_met fresh desk [] = desk
all_met fresh desk (k ∷ kept) = all_met fresh (met fresh desk k.line) kept

abbrev pub met_again : Bool → Desk → Desk
met_again fresh desk = all_met fresh (record desk { kept = [] }) desk.kept

-- what the asks that wait want to be given up
abbrev pub reminder_line : Node → Asked → Option (List ℕ)
reminder_line node asked = option_map (λ m. revoke_line node (revoking (keeps_beside asked) m)) (passing node.mapped node.site asked)

abbrev pub reminder : Seal → Node → Asked → List ℕ
reminder seal node asked = line_text seal (reminder_line node asked)

unfoldable pub reminded : Desk → Desk
reminded desk = tell desk (flat_map (λ ask. reminder desk.seal desk.node (next_access ask)) desk.node.waiting)

abbrev pub is_tick : Question → Bool
is_tick question.Tick = true
is_tick question = false

-- the line is a tick of this site
abbrev pub ticks : Node → Line → Bool
ticks node (stream.Ask ask) = (ask.site == node.me) && is_tick ask.asked
ticks node (stream.Envelope sent) = false
ticks node (stream.Write write) = false
ticks node (stream.Unmap unmap) = false

abbrev pub reminded_if : Bool → Desk → Desk
reminded_if false desk = desk
reminded_if true desk = reminded desk

-- after a line: what was kept back, and then the asks that wait
abbrev pub finished : Bool → Desk → Desk
finished tick desk = settled most_steps (met_again tick (reminded_if tick desk))

abbrev pub after_read_line : Desk → List ℕ → Option Line → Desk
after_read_line desk line None = settled most_steps (passed desk)
after_read_line desk line (Some read) = finished (ticks desk.node read) (met_read true desk line (Some read))

-- ---- how other sites were begun

-- the disagreement that was noted
abbrev pub disagreement_in : Desk → Option Disagreement
disagreement_in desk = option_and_then (λ own. option_map (λ other. record { own = own; other = other }) desk.other) desk.opening

-- it is noted, and the other is told how this site was begun
abbrev pub with_other : Desk → Disagreement → Desk
with_other desk d = record (tell desk (hello_line desk.seal (hello_to d.own d.other.site))) { other = Some d.other }

-- the first that says another opening is noted
abbrev pub noted : Desk → Option Hello → Desk
noted desk read = option_map_or (with_other desk) (first_other desk.opening desk.other read) desk

-- ---- steps of this site that it doesn't have

-- the clock of the step that sent the envelope, where it is one of this site, later than its last. No site that keeps up can have sent one that
-- is beyond it.
abbrev pub later_sent : Node → Sent → Option ℕ
later_sent node sent =
    if (sent.envelope.from == node.me) && (nat_lt node.clock sent.source.at && not (is_beyond node sent)) then Some sent.source.at else None

abbrev pub later_step : Node → Option Line → Option ℕ
later_step node None = None
later_step node (Some (stream.Envelope sent)) = later_sent node sent
later_step node (Some (stream.Ask ask)) = None
later_step node (Some (stream.Write write)) = None
later_step node (Some (stream.Unmap unmap)) = None

-- the first is noted: the site told it, so its journal is an older copy, or another's
abbrev pub later_met : Desk → Option Line → Desk
later_met desk read = record desk { later = option_or desk.later (later_step desk.node read) }

-- ---- a line

-- what was opened is taken, and noted where it is another site's hello, which is no line for a site, or tells of a later step of this one
abbrev pub after_opened : Desk → Result (List ℕ) Unsealed → Desk
after_opened desk (Ok line) = after_read_line (later_met (noted desk (read_hello line)) (read_line line)) line (read_line line)
after_opened desk (Err why) = settled most_steps (left_sealed desk why)

unfoldable pub after_line : Desk → List ℕ → Desk
after_line desk line =
    if nat_lt max_line_bytes (length line) then record desk { node = passed_over desk.node }
    else after_opened desk (opened desk.seal line)

-- one more byte of a line; of a line that is too long the rest is not kept
abbrev pub grown : List ℕ → ℕ → List ℕ
grown line byte = if nat_lt max_line_bytes (length line) then line else line ++ byte ∷ []

unfoldable pub on_byte : Desk → ℕ → Desk
on_byte desk byte = if byte == 10 then record (after_line desk desk.line) { line = [] } else record desk { line = grown desk.line byte }

-- the desk after these bytes
unfoldable pub on_bytes : Desk → List ℕ → Desk
on_bytes desk [] = desk
on_bytes desk (byte ∷ bytes) = on_bytes (on_byte desk byte) bytes

-- no ask waits, and no line is kept back
abbrev pub is_at_rest : Desk → Bool
is_at_rest desk = (length desk.node.waiting == 0) && (length desk.kept == 0)

-- the site restarts: its callers ask again, and so do other sites
unfoldable pub restarted : Desk → Desk
restarted desk = with_step (record desk { node = after_restart desk.node; kept = [] }) (Some (said_restart desk.node))

-- what was to be recorded and told is forgotten
abbrev pub cleared : Desk → Desk
cleared desk = record desk { recorded = []; told = [] }
