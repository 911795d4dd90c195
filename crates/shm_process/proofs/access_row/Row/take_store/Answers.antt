use Rattle.std.proofs.Common.{◌≡◌, ◌∙◌, ◌∷◌, ◌++◌, [], Some, ap, refl, sym}
use Rattle.shm_model.specs.declared.asked_access.Asked.TheVariants as asked
use Rattle.shm_process.specs.RowOf.{accesses_of, row_of}
use Rattle.shm_process.specs.Rows as spec
use Rattle.shm_wire.specs.TagOf.{tag_text}
use Rattle.shm_process.proofs.RowLemmas.{apart, together}
use Rattle.shm_process.proofs.access_row.Row.take_store.Goals as goal

pub returns-then-not-is_followed-clause-joined : goal.returns-then-not-is_followed-clause-joined
returns-then-not-is_followed-clause-joined g c =
    apart (row_of c.args.self.now) (spec.row_of c.args.clock (tag_text c.args.tag.now) (asked.Store c.args.at c.args.offset c.args.byte))
    (sym (c.is_followed.ensures.follows (spec.Stores (c.args.byte ∷ []))) ∙ c.if-not-is_followed.true)

pub returns-in_ok-push-in-Stores-clause-joined : goal.returns-in_ok-push-in-Stores-clause-joined
returns-in_ok-push-in-Stores-clause-joined g c =
    let row = row_of c.args.self.now in
    let pushed : c.push.new.self.items ≡ c.in-Stores.bytes.items ++ c.args.byte ∷ [] = c.in_ok-push-in-Stores.ensures.items in
    together row (spec.row_of c.args.clock (tag_text c.args.tag.now) (asked.Store c.args.at c.args.offset c.args.byte))
    (spec.Stores c.in-Stores.bytes.items) (spec.Stores (c.args.byte ∷ [])) _
    (sym (c.is_followed.ensures.follows (spec.Stores (c.args.byte ∷ []))) ∙ c.if-not-is_followed.false)
    (ap accesses_of c.in-Stores.is) refl (ap (λ bytes. Some (spec.with_accesses row (spec.Stores bytes))) pushed)
