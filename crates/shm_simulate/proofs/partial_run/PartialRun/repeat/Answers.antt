use Rattle.std.proofs.Common.{◌≡◌, ◌∙◌, ap, nat_lt, true, arith}
use Rattle.std.proofs.lemmas.Bool.Decides.{nat_tests}
use Rattle.shm_model.specs.World.{World, live, run}
use Rattle.shm_simulate.specs.Messages.{kept, page_message_in}
use Rattle.shm_simulate.proofs.PartialRunLemmas.{repeats}
use Rattle.shm_simulate.proofs.partial_run.PartialRun.repeat.Goals as goal

pub returns-clause-follows : goal.returns-clause-follows
returns-clause-follows c = λ o accesses odds some had.
    let w : World = (run o c.args.self.now.events.items).world in
    let may : nat_lt 0 odds.repeat ≡ true = grind (arith, nat_tests) in
    let is : c.message-message.result ≡ page_message_in (live w c.args.number) = c.message-message.ensures w had.stands in
    let same : c.make.new.self.messages.items ≡ c.args.self.now.messages.items = ap (λ v. v.items) c.in_ok-reaction.ensures.messages ∙ c.in_ok-reserve.ensures.items in
    let held : c.keep.new.messages.items ≡ kept c.in_ok-reaction.reaction (page_message_in (live w c.args.number)) c.args.self.now.messages.items =
    c.keep.ensures ∙ (ap (λ l. kept c.in_ok-reaction.reaction c.message-message.result l) same
    ∙ ap (λ m. kept c.in_ok-reaction.reaction m c.args.self.now.messages.items) is) in
    repeats o accesses odds c.args.self.now
    (record { world = c.make.new.self.world; events = c.make.new.self.events; lines = c.make.new.self.lines; messages = c.keep.new.messages })
    c.args.number c.in_ok-reaction.reaction had may (c.in_ok-reaction.ensures.led o had.stands) c.in_ok-reaction.ensures.joined
    (c.in_ok-reaction.ensures.answered o had.stands) c.in_ok-reaction.ensures.lines held
