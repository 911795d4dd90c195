-- What a node makes of a line that comes, by what its site's machine maps: whether it is taken, kept back until a page is given up, or answered
-- at once.
use Rattle.std.specs.Prelude.{ℕ, ◌+◌, Bool, ◌&&◌, not, List, Option, None, Some, ◌==◌, if◌then◌else◌, length, nat_lt}
use Rattle.std.specs.List.{sum_by}
use Rattle.shm_model.specs.declared.answer.Answer.TheVariants.{Refused, Waiting}
use Rattle.shm_model.specs.declared.asked_access.Asked.{Asked}
use Rattle.shm_model.specs.declared.request_kind.Kind.{Kind}
use Rattle.shm_model.specs.Basics.{greatest}
use Rattle.shm_model.specs.Message.{Message}
use Rattle.shm_model.specs.Refusal.{busy, foreign_message}
use Rattle.shm_wire.specs.Asks.{Ask}
use Rattle.shm_wire.specs.Line as stream
use Rattle.shm_wire.specs.Sent.{Sent}
use Rattle.shm_wire.specs.Unmaps.{Run, UnmapAsk}
use Rattle.shm_wire.specs.declared.caller_ask.Question.{Question}
use Rattle.shm_wire.specs.declared.caller_ask.Question.TheVariants as question
use Rattle.shm_wire.specs.declared.mapping_text.Mapping.{Mapping}
use Rattle.shm_wire.specs.declared.mapping_text.RevokeText.{RevokeText}
use Rattle.shm_process.specs.Mapped.{is_detained, keeps_beside, keeps_under, passing, verdict_for, wanted}
use Rattle.shm_process.specs.Node.{Node, is_late, is_lost}
use Rattle.shm_process.specs.Remaps.{has_right, may_unmap, right_asked, waits_for_right}
use Rattle.shm_process.specs.declared.line_meeting.Meeting.{Meeting}
use Rattle.shm_process.specs.declared.line_meeting.Meeting.TheVariants.{Answered, Free, Kept, Maps, Tries, Unmaps}

-- the machine is to give the page up so far
abbrev pub revoking : Option Kind → Mapping → RevokeText
revoking keeps m = record { page = m.page; keeps = keeps }

-- an envelope isn't taken while what it asks for is mapped
abbrev pub withheld : ℕ → Message → Option Mapping → Meeting
withheld me message None = Free
withheld me message (Some m) = Kept (Some m.page) (Some (revoking (keeps_under (verdict_for me message m)) m))

abbrev pub envelope_held : Node → Message → Meeting
envelope_held node message = withheld node.me message (wanted node.me message node.mapped)

abbrev pub envelope_meeting : Node → Sent → Meeting
envelope_meeting node sent = if is_lost node sent then Free else envelope_held node sent.envelope.message

-- nor is an access made that passes what is mapped by
abbrev pub access_meeting : Asked → Option Mapping → Meeting
access_meeting asked None = Free
access_meeting asked (Some m) = Kept None (Some (revoking (keeps_beside asked) m))

abbrev pub try_meeting : Option Mapping → Meeting
try_meeting None = Free
try_meeting (Some m) = Answered Waiting

-- what a page is mapped through isn't detached
abbrev pub begin_meeting : Bool → Meeting
begin_meeting detained = if detained then Answered (Refused busy) else Free

-- a map waits for its right, and asks for it once
abbrev pub map_meeting : Bool → Bool → ℕ → ℕ → Kind → Meeting
map_meeting has waits at index kind = if has then Maps at index else if waits then Kept None None else Tries (right_asked kind at index)

abbrev pub question_meeting : Node → Question → Meeting
question_meeting node (question.Access asked) = access_meeting asked (passing node.mapped node.site asked)
question_meeting node (question.Try asked) = try_meeting (passing node.mapped node.site asked)
question_meeting node (question.Begin request) = begin_meeting (is_detained node.mapped request)
question_meeting node (question.Map at index kind) =
    map_meeting (has_right node.sites node.me node.site at index kind) (waits_for_right node.sites node.me node.site at index kind) at index kind
question_meeting node (question.Read at offset count) = Free
question_meeting node question.Tick = Free
question_meeting node (question.Show page) = Free
question_meeting node question.Health = Free
question_meeting node question.Mappings = Free

-- for this site, while there is a clock for a step
abbrev pub is_due : Node → ℕ → Bool
is_due node site = (site == node.me) && not (is_late node 0)

abbrev pub ask_meeting : Node → Ask → Meeting
ask_meeting node ask = if is_due node ask.site then question_meeting node ask.asked else Free

-- what isn't mapped so can't be given up
abbrev pub given_up_if : Bool → Meeting
given_up_if may = if may then Unmaps else Answered (Refused foreign_message)

-- there are clocks for its steps: a store of each byte, and one step more
abbrev pub has_clocks : Node → List Run → Bool
has_clocks node runs = nat_lt (node.clock + sum_by (λ run. length run.bytes) runs) greatest

abbrev pub unmap_meeting : Node → UnmapAsk → Meeting
unmap_meeting node ask =
    if is_due node ask.site && has_clocks node ask.runs then given_up_if (may_unmap node.mapped node.site ask) else Free

abbrev pub meeting : Node → stream.Line → Meeting
meeting node (stream.Envelope sent) = envelope_meeting node sent
meeting node (stream.Ask ask) = ask_meeting node ask
meeting node (stream.Write write) = Free
meeting node (stream.Unmap unmap) = unmap_meeting node unmap
