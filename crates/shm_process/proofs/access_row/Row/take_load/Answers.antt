use Rattle.std.proofs.Common.{◌∙◌, ap, refl, sym}
use Rattle.shm_model.specs.declared.asked_access.Asked.TheVariants as asked
use Rattle.shm_process.specs.RowOf.{accesses_of, row_of}
use Rattle.shm_process.specs.Rows as spec
use Rattle.shm_wire.specs.TagOf.{tag_text}
use Rattle.shm_process.proofs.RowLemmas.{apart, together}
use Rattle.shm_process.proofs.access_row.Row.take_load.Goals as goal

pub returns-then-not-is_followed-clause-joined : goal.returns-then-not-is_followed-clause-joined
returns-then-not-is_followed-clause-joined g c =
    apart (row_of c.args.self.now) (spec.row_of c.args.clock (tag_text c.args.tag.now) (asked.Load c.args.at c.args.offset))
    (sym (c.is_followed.ensures.follows (spec.Loads 1)) ∙ c.if-not-is_followed.true)

pub returns-in-Loads-clause-joined : goal.returns-in-Loads-clause-joined
returns-in-Loads-clause-joined g c =
    together (row_of c.args.self.now) (spec.row_of c.args.clock (tag_text c.args.tag.now) (asked.Load c.args.at c.args.offset))
    (spec.Loads c.in-Loads.count) (spec.Loads 1) _ (sym (c.is_followed.ensures.follows (spec.Loads 1)) ∙ c.if-not-is_followed.false)
    (ap accesses_of c.in-Loads.is) refl refl
