-- A node of the code, what it hears and what it says, as the definitions speak of them.
use Rattle.std.specs.Prelude.{ℕ, List, map, Option, None, Some, option_map}
use Rattle.shm_model.specs.declared.asked_access.Asked.{Asked}
use Rattle.shm_parts.specs.Message.{envelope_of}
use Rattle.shm_site.specs.Site.{site_of}
use Rattle.shm_site.specs.Step.{input_of}
use Rattle.shm_process.specs.Access.{access_ask}
use Rattle.shm_process.specs.AskOf.{ask_of}
use Rattle.shm_wire.specs.Line as stream
use Rattle.shm_wire.specs.TagOf.{tag_text}
use Rattle.shm_process.specs.Cause.{Cause, OfLine}
use Rattle.shm_process.specs.Node as spec
use Rattle.shm_process.specs.WaitingAsks.{Access, WaitingAsk}
use Rattle.shm_process.specs.declared.retried_step.Again.{Again}
use Rattle.shm_process.specs.declared.interpreted_line.Heard.{Heard}
use Rattle.shm_process.specs.declared.node.Node.{Node}
use Rattle.shm_process.specs.declared.step_output.Said.{Said}

abbrev pub node_of : {A : Type 0} → Node A → spec.Node
node_of node = record {
  sites = node.sites;
  me = node.me;
  site = site_of node.site;
  clock = node.clock;
  steps = node.steps;
  taken = node.taken;
  passed = node.passed;
  caller = option_map tag_text node.caller;
  waiting = map ask_of node.waiting.items;
  mapped = node.mapped.items;
}

-- an access under the tag of its caller
abbrev pub access_under : Option (List ℕ) → Option Asked → Option WaitingAsk
access_under (Some tag) (Some asked) = Some (Access tag asked)
access_under (Some tag) None = None
access_under None asked = None

abbrev pub heard_of : {A : Type 0} → Heard A → spec.Heard
heard_of heard = record {
  input = input_of heard.input;
  source = heard.source;
  tag = option_map tag_text heard.tag;
  waits = access_under (option_map tag_text heard.tag) heard.waits;
  mapped = option_map (λ m. m.items) heard.mapped;
}

-- of a step that this made
abbrev pub said_of : {A : Type 0} → Cause → Said A → spec.Said
said_of cause said = record {
  site = said.site;
  clock = said.clock;
  index = said.index;
  sent = map envelope_of said.sent.items;
  tag = option_map tag_text said.tag;
  answer = said.answer;
  block = option_map (λ bytes. bytes.items) said.block;
  cause = cause;
}

-- of a step of an ask that waited: its cause is the line that asks for the access alone
abbrev pub again_of : {A : Type 0} → Again A → spec.Said
again_of again = said_of (OfLine (stream.Ask (access_ask again.said.site (tag_text again.tag) again.asked))) again.said
