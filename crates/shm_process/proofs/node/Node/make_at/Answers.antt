use Rattle.std.proofs.Common.{◌≡◌, ◌∙◌, ap, ap₂, map, sym}
use Rattle.std.specs.Prelude.{option_map}
use Rattle.shm_model.specs.Step.{step}
use Rattle.shm_parts.specs.Message.{envelope_of}
use Rattle.shm_site.specs.Site.{site_of, stepped}
use Rattle.shm_site.specs.Step.{input_of}
use Rattle.shm_wire.specs.Line as stream
use Rattle.shm_wire.specs.TagOf.{tag_text}
use Rattle.shm_process.specs.Access.{access_ask}
use Rattle.shm_process.specs.AskOf.{ask_of}
use Rattle.shm_process.specs.Cause.{OfLine}
use Rattle.shm_process.specs.Node.{Said}
use Rattle.shm_process.specs.NodeOf.{node_of, said_of}
use Rattle.shm_process.specs.WaitingAsks.{ask_in, goes_on}
use Rattle.shm_process.proofs.Made.{IsMade, node_made, said_made}
use Rattle.shm_process.proofs.node.Node.make_at.Goals as goal

pub returns-clause-said : goal.returns-clause-said
returns-clause-said g c =
    let self = c.args.self.now in
    let node = node_of self in
    let done = c.in_ok-made.made in
    let input = input_of c.of.result in
    let made : step node.sites node.me node.site input ≡ stepped c.step_access.new.site done.answer (map envelope_of done.sent.items) =
    sym (ap₂ (λ sites me. step sites me node.site input) self.all_sites self.own_number) ∙ c.in_ok-made.ensures.step in
    let m : IsMade node c.args.at c.next_of-asked.result.1 input (site_of c.step_access.new.site) done.answer (map envelope_of done.sent.items) =
    record { asks = c.next_of-asked.ensures.asked; hands = c.of.ensures.input; made = made } in
    let stays : c.goes_on_at-stays.result ≡ goes_on (ask_in node.waiting c.args.at) done.answer =
    c.goes_on_at-stays.ensures ∙ ap (λ asks. goes_on (ask_in (map ask_of asks) c.args.at) done.answer) c.as_slice.ensures.value in
    let told = option_map tag_text c.go_on_or_end-told.result.0 in
    let block = option_map (λ bytes. bytes.items) c.go_on_or_end-told.result.1 in
    let said = c.say-said.result in
    let tag = tag_text c.next_of-asked.result.0 in
    let is = c.say-said.ensures.said (OfLine (stream.Ask (access_ask node.me tag c.next_of-asked.result.1))) in
    ap (λ site. said_of (OfLine (stream.Ask (access_ask site tag c.next_of-asked.result.1))) said) (ap (λ (s : Said). s.site) is)
    ∙ said_made node c.args.at c.next_of-asked.result.1 input (site_of c.step_access.new.site) done.answer (map envelope_of done.sent.items) m _
    c.goes_on_at-stays.result told block c.next_clock-clock.result (tag_text c.next_of-asked.result.0) c.next_of-asked.ensures.tag stays c.go_on_or_end-told.ensures.tag
    c.go_on_or_end-told.ensures.whole c.next_clock-clock.ensures is

pub returns-clause-after : goal.returns-clause-after
returns-clause-after g c =
    let self = c.args.self.now in
    let node = node_of self in
    let done = c.in_ok-made.made in
    let input = input_of c.of.result in
    let made : step node.sites node.me node.site input ≡ stepped c.step_access.new.site done.answer (map envelope_of done.sent.items) =
    sym (ap₂ (λ sites me. step sites me node.site input) self.all_sites self.own_number) ∙ c.in_ok-made.ensures.step in
    let m : IsMade node c.args.at c.next_of-asked.result.1 input (site_of c.step_access.new.site) done.answer (map envelope_of done.sent.items) =
    record { asks = c.next_of-asked.ensures.asked; hands = c.of.ensures.input; made = made } in
    let stays : c.goes_on_at-stays.result ≡ goes_on (ask_in node.waiting c.args.at) done.answer =
    c.goes_on_at-stays.ensures ∙ ap (λ asks. goes_on (ask_in (map ask_of asks) c.args.at) done.answer) c.as_slice.ensures.value in
    node_made node c.args.at c.next_of-asked.result.1 input (site_of c.step_access.new.site) done.answer (map envelope_of done.sent.items) m _
    c.goes_on_at-stays.result (option_map tag_text c.go_on_or_end-told.result.0) (map ask_of c.go_on_or_end-told.new.waiting.items) c.next_clock-clock.result
    stays c.go_on_or_end-told.ensures.tag c.go_on_or_end-told.ensures.after c.next_clock-clock.ensures c.say-said.ensures.after
