-- The access that a map tries has a line.
use Rattle.std.proofs.Common.{◌≡◌, ℕ, ◌<◌, ◌&&◌, Bool, true, false, Option, Some, None, cond, subst, arith}
use Rattle.std.specs.Prelude.{◌^◌}
use Rattle.std.proofs.lemmas.Bool.Decides.{nat_tests}
use Rattle.shm_model.specs.Message.{Message}
use Rattle.shm_model.specs.declared.asked_access.Asked.{Asked}
use Rattle.shm_model.specs.declared.request_kind.Kind.{Kind}
use Rattle.shm_model.specs.declared.request_kind.Kind.TheVariants.{Read, Write}
use Rattle.shm_lines.specs.Spelling.{IsNumber}
use Rattle.shm_wire.specs.Asks.{IsAsked}
use Rattle.shm_wire.specs.Line as stream
use Rattle.shm_wire.specs.Line.{IsLine}
use Rattle.shm_wire.specs.declared.caller_ask.Question.{Question}
use Rattle.shm_wire.specs.declared.caller_ask.Question.TheVariants as question
use Rattle.shm_wire.specs.declared.mapping_text.Mapping.{Mapping}
use Rattle.shm_process.specs.Desk.{try_of}
use Rattle.shm_process.specs.Mapped.{byte_place, is_detained, passing, wanted}
use Rattle.shm_process.specs.Meetings.{access_meeting, begin_meeting, given_up_if, has_clocks, is_due, map_meeting, meeting, question_meeting, try_meeting, withheld}
use Rattle.shm_process.specs.Node.{Node, is_lost}
use Rattle.shm_process.specs.Remaps.{has_right, may_unmap, right_asked, waits_for_right}
use Rattle.shm_process.specs.declared.line_meeting.Meeting.{Meeting}
use Rattle.shm_process.specs.declared.line_meeting.Meeting.TheVariants.{Free, Tries}

place-small : (index : ℕ) → byte_place index 0 < 2 ^ 32
place-small index = grind (arith, nat_tests)

zero-small : 0 < 256
zero-small = omega arith

right-is : (kind : Kind) (at index : ℕ) → IsNumber at → IsAsked (question.Try (right_asked kind at index))
right-is Read at index n = (n, place-small index)
right-is Write at index n = (n, place-small index, zero-small)

tries-is : (x y : Asked) → Tries x ≡ Tries y → x ≡ y
tries-is x y e = cc

-- ---- what is tried is the access that asks for a right

abbrev IsTried : Meeting → Asked → Type 0
IsTried m a = m ≡ Tries a → IsAsked (question.Try a)

if-tried : (b : Bool) (m n : Meeting) (a : Asked) → IsTried m a → IsTried n a → IsTried (cond b m n) a
if-tried true m n a p q e = p e
if-tried false m n a p q e = q e

free-tried : (a : Asked) → IsTried Free a
free-tried a e = absurd (cc)

access-tried : (x : Asked) (o : Option Mapping) (a : Asked) → IsTried (access_meeting x o) a
access-tried x None a e = absurd (cc)
access-tried x (Some m) a e = absurd (cc)

try-tried : (o : Option Mapping) (a : Asked) → IsTried (try_meeting o) a
try-tried None a e = absurd (cc)
try-tried (Some m) a e = absurd (cc)

begin-tried : (b : Bool) (a : Asked) → IsTried (begin_meeting b) a
begin-tried true a e = absurd (cc)
begin-tried false a e = absurd (cc)

given_up-tried : (b : Bool) (a : Asked) → IsTried (given_up_if b) a
given_up-tried true a e = absurd (cc)
given_up-tried false a e = absurd (cc)

withheld-tried : (me : ℕ) (message : Message) (o : Option Mapping) (a : Asked) → IsTried (withheld me message o) a
withheld-tried me message None a e = absurd (cc)
withheld-tried me message (Some m) a e = absurd (cc)

map-tried : (has waits : Bool) (at index : ℕ) (kind : Kind) (a : Asked) → IsNumber at → IsTried (map_meeting has waits at index kind) a
map-tried true waits at index kind a n e = absurd (cc)
map-tried false true at index kind a n e = absurd (cc)
map-tried false false at index kind a n e = subst (λ x. IsAsked (question.Try x)) (tries-is (right_asked kind at index) a e) (right-is kind at index n)

question-tried : (node : Node) (q : Question) (a : Asked) → IsAsked q → IsTried (question_meeting node q) a
question-tried node (question.Access x) a is = access-tried x (passing node.mapped node.site x) a
question-tried node (question.Try x) a is = try-tried (passing node.mapped node.site x) a
question-tried node (question.Read at offset count) a is = free-tried a
question-tried node (question.Begin request) a is = begin-tried (is_detained node.mapped request) a
question-tried node question.Tick a is = free-tried a
question-tried node (question.Show page) a is = free-tried a
question-tried node question.Health a is = free-tried a
question-tried node question.Mappings a is = free-tried a
question-tried node (question.Map at index kind) a is =
    map-tried (has_right node.sites node.me node.site at index kind) (waits_for_right node.sites node.me node.site at index kind) at index kind a is.0

pub meeting-tries : (node : Node) (read : stream.Line) (a : Asked) → IsLine read → meeting node read ≡ Tries a → IsAsked (question.Try a)
meeting-tries node (stream.Envelope sent) a is =
    if-tried (is_lost node sent) Free (withheld node.me sent.envelope.message (wanted node.me sent.envelope.message node.mapped)) a (free-tried a)
    (withheld-tried node.me sent.envelope.message (wanted node.me sent.envelope.message node.mapped) a)
meeting-tries node (stream.Ask ask) a is =
    if-tried (is_due node ask.site) (question_meeting node ask.asked) Free a (question-tried node ask.asked a is.2) (free-tried a)
meeting-tries node (stream.Write write) a is = free-tried a
meeting-tries node (stream.Unmap unmap) a is =
    if-tried (is_due node unmap.site && has_clocks node unmap.runs) (given_up_if (may_unmap node.mapped node.site unmap)) Free a
    (given_up-tried (may_unmap node.mapped node.site unmap) a) (free-tried a)

pub try-is_line : (read : stream.Line) (a : Asked) → IsLine read → IsAsked (question.Try a) → IsLine (try_of read a)
try-is_line (stream.Envelope sent) a is asked = is
try-is_line (stream.Ask ask) a is asked = (is.0, is.1, asked)
try-is_line (stream.Write write) a is asked = is
try-is_line (stream.Unmap unmap) a is asked = is
