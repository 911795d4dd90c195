use Rattle.shm_simulate.proofs.PartialRunLemmas.{passes}
use Rattle.shm_simulate.proofs.partial_run.PartialRun.pass.Goals as goal

pub returns-clause-follows : goal.returns-clause-follows
returns-clause-follows c = λ o accesses odds may had.
    passes o accesses odds c.args.self.now c.make.new.self c.args.event had (c.in_ok-_reaction.ensures.led o had.stands) c.in_ok-_reaction.ensures.joined may
    c.requires c.in_ok-_reaction.ensures.lines c.in_ok-_reaction.ensures.messages
