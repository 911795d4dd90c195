use Rattle.std.proofs.Common.{Ok, Err}
use Rattle.std.specs.Prelude.{OnErr, Result}
use Rattle.shm_process_tests.proofs.tests.journals.process_loop.RehearsalJournal.append.Goals as goal

on-err : {A B : Type 0} (r : Result A B) (P : Type 0) → P → OnErr r P
on-err (Ok x) P p = tt
on-err (Err e) P p = p

pub returns-clause-front : goal.returns-clause-front
returns-clause-front c = on-err c.note.result _ (0, tt)
