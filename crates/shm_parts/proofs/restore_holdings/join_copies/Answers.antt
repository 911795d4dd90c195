use Rattle.shm_parts.proofs.HeldRestoring.{joined_held, joined_new, refused_held}
use Rattle.shm_parts.proofs.restore_holdings.join_copies.Goals as goal

pub returns-in-Some-clause-joins : goal.returns-in-Some-clause-joins
returns-in-Some-clause-joins g c = joined_new c.restore.result c.args.page.now c.args.frames.now c.in-Some.frames c.in-Some.is c.restore.ensures.joins

pub returns-in-Some-clause-after : goal.returns-in-Some-clause-after
returns-in-Some-clause-after g c = joined_held c.restore.result c.args.page.now c.args.frames.now c.in-Some.frames c.restore.new.self c.in-Some.is c.restore.ensures.after

pub returns-in-Some-clause-refused : goal.returns-in-Some-clause-refused
returns-in-Some-clause-refused g c = refused_held c.restore.result c.args.frames.now c.in-Some.frames c.restore.new.self c.in-Some.is c.restore.ensures.refused
