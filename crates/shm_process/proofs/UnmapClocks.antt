-- What is given up is given up by an unmap of this site, and there are clocks for its steps.
use Rattle.std.proofs.Common.{◌≡◌, ℕ, ◌+◌, ◌<◌, ◌==◌, ◌&&◌, not, Bool, true, false, Option, Some, None, cond, max, refl, arith}
use Rattle.std.proofs.lemmas.Bool.Decides.{nat_tests}
use Rattle.shm_model.specs.Basics.{greatest}
use Rattle.shm_model.specs.Message.{Message}
use Rattle.shm_model.specs.declared.asked_access.Asked.{Asked}
use Rattle.shm_model.specs.declared.request_kind.Kind.{Kind}
use Rattle.shm_wire.specs.Line as stream
use Rattle.shm_wire.specs.Unmaps.{UnmapAsk}
use Rattle.shm_wire.specs.declared.caller_ask.Question.{Question}
use Rattle.shm_wire.specs.declared.caller_ask.Question.TheVariants as question
use Rattle.shm_wire.specs.declared.mapping_text.Mapping.{Mapping}
use Rattle.shm_process.specs.Mapped.{is_detained, passing, wanted}
use Rattle.shm_process.specs.Meetings.{access_meeting, begin_meeting, given_up_if, has_clocks, is_due, map_meeting, meeting, question_meeting, try_meeting, withheld}
use Rattle.shm_process.specs.Node.{Node, is_late, is_lost}
use Rattle.shm_process.specs.Remaps.{has_right, may_unmap, waits_for_right}
use Rattle.shm_process.specs.declared.line_meeting.Meeting.{Meeting}
use Rattle.shm_process.specs.declared.line_meeting.Meeting.TheVariants.{Free, Unmaps}
use Rattle.shm_process.proofs.MetLines.{stores_in}
use Rattle.shm_process.proofs.Tests.{below}

abbrev IsOther : Meeting → Type 0
IsOther m = m ≡ Unmaps → ⊥

free-other : IsOther Free
free-other e = cc

if-other : (b : Bool) (m n : Meeting) → IsOther m → IsOther n → IsOther (cond b m n)
if-other true m n p q = p
if-other false m n p q = q

access-other : (a : Asked) (o : Option Mapping) → IsOther (access_meeting a o)
access-other a None e = cc
access-other a (Some m) e = cc

try-other : (o : Option Mapping) → IsOther (try_meeting o)
try-other None e = cc
try-other (Some m) e = cc

begin-other : (b : Bool) → IsOther (begin_meeting b)
begin-other true e = cc
begin-other false e = cc

withheld-other : (me : ℕ) (message : Message) (o : Option Mapping) → IsOther (withheld me message o)
withheld-other me message None e = cc
withheld-other me message (Some m) e = cc

map-other : (has waits : Bool) (at index : ℕ) (kind : Kind) → IsOther (map_meeting has waits at index kind)
map-other true waits at index kind e = cc
map-other false true at index kind e = cc
map-other false false at index kind e = cc

question-other : (node : Node) (q : Question) → IsOther (question_meeting node q)
question-other node (question.Access a) = access-other a (passing node.mapped node.site a)
question-other node (question.Try a) = try-other (passing node.mapped node.site a)
question-other node (question.Read at offset count) = free-other
question-other node (question.Begin request) = begin-other (is_detained node.mapped request)
question-other node question.Tick = free-other
question-other node (question.Show page) = free-other
question-other node question.Health = free-other
question-other node question.Mappings = free-other
question-other node (question.Map at index kind) =
    map-other (has_right node.sites node.me node.site at index kind) (waits_for_right node.sites node.me node.site at index kind) at index kind

both-true : (due clocks may : Bool) → cond (due && clocks) (given_up_if may) Free ≡ Unmaps → (due ≡ true) × (clocks ≡ true)
both-true true true may e = (refl, refl)
both-true true false may e = absurd (cc)
both-true false clocks may e = absurd (cc)

same-site : (site me : ℕ) (late : Bool) → ((site == me) && not late) ≡ true → me ≡ site
same-site site me late h = grind (arith, nat_tests)

pub record HasClocks (node : Node) (ask : UnmapAsk) : Type 0 where
  pub own : node.me ≡ ask.site
  pub room : node.clock + stores_in ask.runs < greatest

pub unmap_clocks : (node : Node) (ask : UnmapAsk) → meeting node (stream.Unmap ask) ≡ Unmaps → HasClocks node ask
unmap_clocks node ask e =
    let both = both-true (is_due node ask.site) (has_clocks node ask.runs) (may_unmap node.mapped node.site ask) e in
    record { own = same-site ask.site node.me (is_late node 0) both.0; room = below (node.clock + stores_in ask.runs) greatest both.1 }

first-early : (clock count : ℕ) → clock + count < greatest → max clock 0 < greatest
first-early clock count h = grind (arith, nat_tests)

pub unmaps_early : (node : Node) (read : stream.Line) → meeting node read ≡ Unmaps → max node.clock 0 < greatest
unmaps_early node (stream.Envelope sent) e =
    let message = sent.envelope.message in
    absurd (if-other (is_lost node sent) Free (withheld node.me message (wanted node.me message node.mapped)) free-other (withheld-other node.me message (wanted node.me message node.mapped)) e)
unmaps_early node (stream.Ask ask) e =
    absurd (if-other (is_due node ask.site) (question_meeting node ask.asked) Free (question-other node ask.asked) free-other e)
unmaps_early node (stream.Write write) e = absurd (free-other e)
unmaps_early node (stream.Unmap ask) e = first-early node.clock (stores_in ask.runs) (unmap_clocks node ask e).room
