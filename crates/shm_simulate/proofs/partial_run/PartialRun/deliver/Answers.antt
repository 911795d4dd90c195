use Rattle.std.proofs.Common.{◌≡◌, ◌∙◌, ap}
use Rattle.shm_model.specs.World.{World, live, run}
use Rattle.shm_simulate.specs.Messages.{kept, page_message_in}
use Rattle.shm_simulate.proofs.PartialRunLemmas.{delivers}
use Rattle.shm_simulate.proofs.partial_run.PartialRun.deliver.Goals as goal

pub returns-clause-follows : goal.returns-clause-follows
returns-clause-follows c = λ o accesses odds had.
    let w : World = (run o c.args.self.now.events.items).world in
    let is : c.message-message.result ≡ page_message_in (live w c.args.number) = c.message-message.ensures w had.stands in
    let same : c.make.new.self.messages.items ≡ c.args.self.now.messages.items = ap (λ v. v.items) c.in_ok-reaction.ensures.messages ∙ c.in_ok-reserve.ensures.items in
    let held : c.keep.new.messages.items ≡ kept c.in_ok-reaction.reaction (page_message_in (live w c.args.number)) c.args.self.now.messages.items =
    c.keep.ensures ∙ (ap (λ l. kept c.in_ok-reaction.reaction c.message-message.result l) same
    ∙ ap (λ m. kept c.in_ok-reaction.reaction m c.args.self.now.messages.items) is) in
    delivers o accesses odds c.args.self.now
    (record { world = c.make.new.self.world; events = c.make.new.self.events; lines = c.make.new.self.lines; messages = c.keep.new.messages })
    c.args.number c.in_ok-reaction.reaction had (c.in_ok-reaction.ensures.led o had.stands) c.in_ok-reaction.ensures.joined
    (c.in_ok-reaction.ensures.answered o had.stands) c.in_ok-reaction.ensures.lines held
