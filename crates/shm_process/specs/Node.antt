-- A site as a process. Lines come on one stream, which all sites and callers share; each that is for this site makes one step of it, and
-- the others are passed over. A step's clock is above those of the steps before it, and above that of the step which sent what it is
-- handed.
use Rattle.std.specs.Prelude.{ℕ, ◌+◌, Bool, true, false, ◌||◌, not, List, [], Option, Some, None, ◌==◌, if◌then◌else◌, max, nat_lt, option_map, unwrap_or}
use Rattle.shm_model.specs.declared.answer.Answer.{Answer}
use Rattle.shm_model.specs.declared.answer.Answer.TheVariants.{Began, Replied}
use Rattle.shm_model.specs.Basics.{greatest}
use Rattle.shm_model.specs.Message.{Envelope, Input, Begin, Deliver, Tick}
use Rattle.shm_model.specs.Receipt.{access_of}
use Rattle.shm_model.specs.Site.{Site}
use Rattle.shm_model.specs.Step.{foreign, step}
use Rattle.shm_model.specs.World.{Preset, opened_site}
use Rattle.shm_wire.specs.Asks.{Ask}
use Rattle.shm_wire.specs.Line as stream
use Rattle.shm_wire.specs.Sent.{Sent}
use Rattle.shm_wire.specs.declared.caller_ask.Question.{Question}
use Rattle.shm_wire.specs.declared.caller_ask.Question.TheVariants as question
use Rattle.shm_wire.specs.Unmaps.{UnmapAsk}
use Rattle.shm_wire.specs.declared.mapping_text.Mapping.{Mapping}
use Rattle.shm_process.specs.Cause.{Cause}
use Rattle.shm_process.specs.Mapped.{byte_place, page_at}
use Rattle.shm_process.specs.Numbers.{numbers_fit}
use Rattle.shm_process.specs.Remaps.{first_load, has_right, is_empty, mapped_if, unmapped_to}
use Rattle.shm_process.specs.WaitingAsks.{Access, WaitingAsk}

-- how many sites there are, and which one this is; the site as it stands, its clock, and how many steps it made; how many lines made
-- a step or brought a block that found room, and how many were passed over; the tag of the caller whose segment call is outstanding;
-- the asks that wait, the oldest first; and the pages that the site's machine maps
pub record Node : Type 0 where
  pub sites : ℕ
  pub me : ℕ
  pub site : Site
  pub clock : ℕ
  pub steps : ℕ
  pub taken : ℕ
  pub passed : ℕ
  pub caller : Option (List ℕ)
  pub waiting : List WaitingAsk
  pub mapped : List Mapping

-- a node at which nothing has happened
abbrev pub new_node : ℕ → ℕ → ℕ → Node
new_node sites me pages = record {
  sites = sites;
  me = me;
  site = opened_site (Preset sites pages) me;
  clock = 0;
  steps = 0;
  taken = 0;
  passed = 0;
  caller = None;
  waiting = [];
  mapped = [];
}

-- ---- what a line is to a node

-- what a line hands to the site: an input, the clock of the step which sent it, or 0, the tag of the caller who asks, the ask, if it is
-- one that waits, and what is mapped after the step, where that changes
pub record Heard : Type 0 where
  pub input : Input
  pub source : ℕ
  pub tag : Option (List ℕ)
  pub waits : Option WaitingAsk
  pub mapped : Option (List Mapping)

-- no stamp is above this clock, or above the sender's
abbrev pub is_late : Node → ℕ → Bool
is_late node source = max node.clock source == greatest

-- a clock is taken that is at most so much above this one: 2^32
abbrev pub most_ahead : ℕ
most_ahead = 4294967296

abbrev pub is_ahead : Node → ℕ → Bool
is_ahead node source = nat_lt (node.clock + most_ahead) source

-- an envelope from too far ahead, or with a number that no site can have got by its source's clock
abbrev pub is_beyond : Node → Sent → Bool
is_beyond node sent = is_ahead node sent.source.at || not (numbers_fit sent.source.at sent.envelope.message)

-- it can't be for this site, or no site that keeps up can have sent it
abbrev pub is_lost : Node → Sent → Bool
is_lost node sent = foreign node.sites node.me sent.envelope || (is_late node sent.source.at || is_beyond node sent)

-- an envelope, unless it is lost
abbrev pub handed : Node → Sent → Option Heard
handed node sent =
    if is_lost node sent then None
    else Some (record { input = Deliver sent.envelope; source = sent.source.at; tag = None; waits = None; mapped = None })

-- what a site is made to do; a page, counts and mappings are only shown, a block is loaded byte by byte, and a page is mapped with a load of
-- its first byte
abbrev pub input_asked : Question → Option Input
input_asked (question.Access asked) = Some (access_of asked)
input_asked (question.Try asked) = Some (access_of asked)
input_asked (question.Read at offset count) = None
input_asked (question.Begin request) = Some (Begin request)
input_asked question.Tick = Some Tick
input_asked (question.Show page) = None
input_asked question.Health = None
input_asked (question.Map at index kind) = Some (first_load at index)
input_asked question.Mappings = None

-- a load and a store wait for their right, unless they are only tried
abbrev pub waits_for : List ℕ → Question → Option WaitingAsk
waits_for tag (question.Access asked) = Some (Access tag asked)
waits_for tag _ = None

abbrev pub under_tag : List ℕ → Option WaitingAsk → Input → Heard
under_tag tag waits input = record { input = input; source = 0; tag = Some tag; waits = waits; mapped = None }

-- what is mapped after it, where that changes: a page whose right is there
abbrev pub remapped_by : Node → Question → Option (List Mapping)
remapped_by node (question.Map at index kind) = mapped_if (has_right node.sites node.me node.site at index kind) node.mapped node.site at index kind
remapped_by node (question.Access asked) = None
remapped_by node (question.Try asked) = None
remapped_by node (question.Read at offset count) = None
remapped_by node (question.Begin request) = None
remapped_by node question.Tick = None
remapped_by node (question.Show page) = None
remapped_by node question.Health = None
remapped_by node question.Mappings = None

abbrev pub asked_under : List ℕ → Option WaitingAsk → Option (List Mapping) → Input → Heard
asked_under tag waits mapped input = record (under_tag tag waits input) { mapped = mapped }

-- what a caller asks of this site
abbrev pub asked_here : Node → Ask → Option Heard
asked_here node ask =
    if (ask.site == node.me)
    then (if is_late node 0 then None
    else option_map (asked_under ask.tag (waits_for ask.tag ask.asked) (remapped_by node ask.asked)) (input_asked ask.asked))
    else None

-- a page is given up with such a load too, once the bytes that are brought were stored
abbrev pub unmap_input : UnmapAsk → Option Input
unmap_input ask = if is_empty ask.runs then Some (first_load ask.at ask.index) else None

abbrev pub unmapped_here : Node → UnmapAsk → Option Heard
unmapped_here node ask =
    if (ask.site == node.me)
    then (if is_late node 0 then None
    else option_map (asked_under ask.tag None (unmapped_to node.mapped ask.keeps (page_at node.site ask.at (byte_place ask.index 0)))) (unmap_input ask))
    else None

-- a block that is to be stored hands over nothing yet
abbrev pub heard : Node → stream.Line → Option Heard
heard node (stream.Envelope sent) = handed node sent
heard node (stream.Ask ask) = asked_here node ask
heard node (stream.Write write) = None
heard node (stream.Unmap unmap) = unmapped_here node unmap

-- ---- one step

abbrev pub next_clock : Node → ℕ → ℕ
next_clock node source = max node.clock source + 1

abbrev pub answer_to : Node → Heard → Answer
answer_to node heard = (step node.sites node.me node.site heard.input).answer

-- a segment call has its caller until it is replied to
abbrev pub caller_after : Option (List ℕ) → Option (List ℕ) → Answer → Option (List ℕ)
caller_after tag caller (Began number) = tag
caller_after tag caller (Replied number reply attachment) = None
caller_after tag caller answer = caller

-- the node after one step of its site
abbrev pub stepped : Node → Heard → Node
stepped node heard =
    let done = step node.sites node.me node.site heard.input in
    record node {
      site = done.site;
      clock = next_clock node heard.source;
      steps = node.steps + 1;
      caller = caller_after heard.tag node.caller done.answer;
      mapped = unwrap_or heard.mapped node.mapped;
    }

-- ---- what it says

-- of one step: which site made it, its clock and its index, the envelopes that the site sent, what it answers, all bytes of the block whose
-- last load it was, the tag of the caller who is told that; and what made it
pub record Said : Type 0 where
  pub site : ℕ
  pub clock : ℕ
  pub index : ℕ
  pub sent : List Envelope
  pub tag : Option (List ℕ)
  pub answer : Answer
  pub block : Option (List ℕ)
  pub cause : Cause

-- each ask is answered once: a segment call when it is replied to, unless it is refused, and an ask that still waits not yet
abbrev pub tag_told : Bool → Option (List ℕ) → Option (List ℕ) → Answer → Option (List ℕ)
tag_told true tag caller answer = None
tag_told false tag caller (Began number) = None
tag_told false tag caller (Replied number reply attachment) = caller
tag_told false tag caller answer = tag

abbrev pub says : Node → Cause → Heard → Bool → Said
says node cause heard stays =
    let done = step node.sites node.me node.site heard.input in
    record {
      site = node.me;
      clock = next_clock node heard.source;
      index = node.steps;
      sent = done.sent;
      tag = tag_told stays heard.tag node.caller done.answer;
      answer = done.answer;
      block = None;
      cause = cause;
    }
