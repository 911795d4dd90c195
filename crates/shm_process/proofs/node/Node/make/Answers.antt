use Rattle.std.proofs.Common.{◌≡◌, ◌&&◌, ◌∙◌, ap, ap₂, map, sym}
use Rattle.std.specs.Prelude.{is_some, option_map}
use Rattle.shm_model.specs.Step.{step}
use Rattle.shm_parts.specs.Message.{envelope_of}
use Rattle.shm_site.specs.Site.{site_of, stepped}
use Rattle.shm_wire.specs.TagOf.{tag_text}
use Rattle.shm_process.specs.Access.{is_open}
use Rattle.shm_process.specs.AskOf.{ask_of}
use Rattle.shm_process.specs.NodeOf.{heard_of, node_of}
use Rattle.shm_process.specs.Waiting.{has_room, with_ask}
use Rattle.shm_process.proofs.Made.{node_taken, said_taken}
use Rattle.shm_process.proofs.node.Node.make.Goals as goal

pub returns-clause-said : goal.returns-clause-said
returns-clause-said g c =
    let self = c.args.self.now in
    let node = node_of self in
    let h = heard_of c.args.heard in
    let done = c.in_ok-made.made in
    let answer = done.answer in
    let made : step node.sites node.me node.site h.input ≡ stepped c.step_spending.new.self answer (map envelope_of done.sent.items) =
    sym (ap₂ (λ sites me. step sites me node.site h.input) self.all_sites self.own_number) ∙ c.in_ok-made.ensures.step in
    let stays : c.join-tag.result.1 ≡ ((is_some h.waits && has_room node) && is_open answer) =
    c.join-tag.ensures.stays ∙ ap (λ r. (is_some h.waits && r) && is_open answer) c.has_room-room.ensures in
    λ cause. said_taken node h (site_of c.step_spending.new.self) answer (map envelope_of done.sent.items) made cause _ c.join-tag.result.1
    (option_map tag_text c.join-tag.result.0) c.next_clock-clock.result stays c.join-tag.ensures.tag c.next_clock-clock.ensures (c.say.ensures.said cause)

pub returns-clause-after : goal.returns-clause-after
returns-clause-after g c =
    let self = c.args.self.now in
    let node = node_of self in
    let h = heard_of c.args.heard in
    let done = c.in_ok-made.made in
    let answer = done.answer in
    let made : step node.sites node.me node.site h.input ≡ stepped c.step_spending.new.self answer (map envelope_of done.sent.items) =
    sym (ap₂ (λ sites me. step sites me node.site h.input) self.all_sites self.own_number) ∙ c.in_ok-made.ensures.step in
    let stays : c.join-tag.result.1 ≡ ((is_some h.waits && has_room node) && is_open answer) =
    c.join-tag.ensures.stays ∙ ap (λ r. (is_some h.waits && r) && is_open answer) c.has_room-room.ensures in
    let waiting : map ask_of c.join-tag.new.waiting.items ≡ with_ask node.waiting h.waits c.join-tag.result.1 =
    c.join-tag.ensures.after ∙ ap (λ asks. with_ask (map ask_of asks) h.waits c.join-tag.result.1) c.in_ok-reserve.ensures.items in
    node_taken node h (site_of c.step_spending.new.self) answer (map envelope_of done.sent.items) made _ c.join-tag.result.1
    (option_map tag_text c.join-tag.result.0) (map ask_of c.join-tag.new.waiting.items) c.next_clock-clock.result c.one_more-self.result c.change_mapped.new.mapped.items
    stays c.join-tag.ensures.tag waiting c.next_clock-clock.ensures c.one_more-self.ensures c.change_mapped.ensures c.say.ensures.after
