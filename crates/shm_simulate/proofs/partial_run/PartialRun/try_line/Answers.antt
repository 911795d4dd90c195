use Rattle.std.proofs.Common.{◌≡◌, ◌<◌, ◌∙◌, Some, ap, length, sym}
use Rattle.shm_simulate.specs.Lines.{heard_at, next_line}
use Rattle.shm_simulate.specs.Tries.{try_of}
use Rattle.shm_simulate.proofs.ListLemmas.{get-within}
use Rattle.shm_simulate.proofs.PartialRunLemmas.{tries}
use Rattle.shm_simulate.proofs.partial_run.PartialRun.try_line.Goals as goal

pub returns-clause-follows : goal.returns-clause-follows
returns-clause-follows c = λ o accesses odds had.
    let below : c.in-Some.place < length c.args.self.now.lines.items = rw c.as_slice.ensures.value at c.in-Some.ensures.below in
    let line = get-within c.args.self.now.lines.items c.in-Some.place below in
    let first : next_line c.args.site c.args.self.now.lines.items ≡ Some c.in-Some.place = sym (rw c.as_slice.ensures.value at c.in-Some.ensures.next) in
    let is : c.try_at-event.result ≡ try_of c.args.site line.0.access.asked = (rw c.as_slice-2.ensures.value at c.try_at-event.ensures) line.0 line.1 in
    tries o accesses odds c.args.self.now
    (record { world = c.make.new.self.world; events = c.make.new.self.events; lines = c.hear.new.lines; messages = c.make.new.self.messages })
    c.args.site c.in-Some.place line.0 c.try_at-event.result c.in_ok-reaction.reaction had first line.1 is
    (c.in_ok-reaction.ensures.led o had.stands) c.in_ok-reaction.ensures.joined (c.in_ok-reaction.ensures.answered o had.stands)
    (c.hear.ensures ∙ ap (λ v. heard_at c.in_ok-reaction.reaction (Some c.in-Some.place) v.items) c.in_ok-reaction.ensures.lines)
    c.in_ok-reaction.ensures.messages
