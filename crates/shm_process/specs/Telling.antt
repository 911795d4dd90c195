-- The lines that callers are told: a step's answer in the script's words, a block, what a page holds, and a site's counts.
use Rattle.std.specs.Prelude.{ℕ, List, Option, Some, None, ◌==◌, ◌||◌, if◌then◌else◌, length, option_map}
use Rattle.shm_place.specs.declared.page_id.PageId.{PageId}
use Rattle.shm_place.specs.Page.{in_limits}
use Rattle.shm_model.specs.declared.answer.Answer.{Answer}
use Rattle.shm_model.specs.declared.answer.Answer.TheVariants.{Waiting}
use Rattle.shm_model.specs.declared.answer.Shown.{Shown}
use Rattle.shm_parts.specs.Holdings.{shown_of}
use Rattle.shm_text.specs.Text.{answer_text}
use Rattle.shm_wire.specs.Answers.{tell_line, block_text}
use Rattle.shm_wire.specs.Asks.{Ask}
use Rattle.shm_wire.specs.Line as stream
use Rattle.shm_wire.specs.MappingTexts.{mappings_text}
use Rattle.shm_wire.specs.declared.caller_ask.Question.{Question}
use Rattle.shm_wire.specs.declared.caller_ask.Question.TheVariants as question
use Rattle.shm_process.specs.Counts.{Counts}
use Rattle.shm_process.specs.Health.{Health, health_text}
use Rattle.shm_wire.specs.Writes.{WriteAsk}
use Rattle.shm_process.specs.Node.{Node, Said, is_late}
use Rattle.shm_process.specs.Showing.{shown_text}
use Rattle.shm_process.specs.Waiting.{has_room}

-- an answer in the script's words; where a block is whole, its bytes
abbrev pub text_of : Answer → Option (List ℕ) → List ℕ
text_of answer None = answer_text answer
text_of answer (Some bytes) = block_text bytes

abbrev pub answer_line_of : Said → Option (List ℕ)
answer_line_of said = option_map (λ tag. tell_line (record { site = said.site; tag = tag; text = text_of said.answer said.block })) said.tag

-- what the site has of a page that a segment can have
abbrev pub shown_at : Node → PageId → Option Shown
shown_at node page =
    if in_limits node.sites page then Some (shown_of (node.site.purged page.seg) (node.site.entries page)) else None

-- a block that finds no room to wait is answered at once
abbrev pub crowded_out : Node → List ℕ → Option (List ℕ)
crowded_out node tag =
    if has_room node || is_late node 0 then None else Some (tell_line (record { site = node.me; tag = tag; text = answer_text Waiting }))

-- the counts of a site's process as it stands
abbrev pub health_of : Counts → Node → Health
health_of counts node = record {
  steps = node.steps;
  clock = node.clock;
  taken = node.taken;
  passed = node.passed;
  waiting = length node.waiting;
  received = counts.received;
  sent = counts.sent;
  journal = counts.journal;
  since = counts.since;
  unopened = counts.unopened;
}

-- what is told of a page
abbrev pub page_line : Node → List ℕ → PageId → List ℕ
page_line node tag page = tell_line (record { site = node.me; tag = tag; text = shown_text (shown_at node page) })

-- what is told of counts
abbrev pub health_line : Node → List ℕ → Health → List ℕ
health_line node tag health = tell_line (record { site = node.me; tag = tag; text = health_text health })

-- what is told of pages that are mapped
abbrev pub mappings_line : Node → List ℕ → List ℕ
mappings_line node tag = tell_line (record { site = node.me; tag = tag; text = mappings_text node.mapped })

-- a block to store that finds no room
abbrev pub shown_write : Node → WriteAsk → Option (List ℕ)
shown_write node write = if (write.site == node.me) then crowded_out node write.tag else None

abbrev pub shown_for : Counts → Node → List ℕ → Question → Option (List ℕ)
shown_for counts node tag question.Health = Some (health_line node tag (health_of counts node))
shown_for counts node tag (question.Show page) = Some (page_line node tag page)
shown_for counts node tag (question.Read at offset count) = crowded_out node tag
shown_for counts node tag question.Mappings = Some (mappings_line node tag)
shown_for counts node tag _ = None

abbrev pub shown_here : Counts → Node → Ask → Option (List ℕ)
shown_here counts node ask = if (ask.site == node.me) then shown_for counts node ask.tag ask.asked else None

-- what is told at once of a line
abbrev pub shown_line : Counts → Node → stream.Line → Option (List ℕ)
shown_line counts node (stream.Envelope sent) = None
shown_line counts node (stream.Ask ask) = shown_here counts node ask
shown_line counts node (stream.Write write) = shown_write node write
shown_line counts node (stream.Unmap unmap) = None
