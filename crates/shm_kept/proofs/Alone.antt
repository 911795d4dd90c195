-- In a world whose sites agree, a page that one machine maps to write no other maps.
use Rattle.std.proofs.Common.{◌≡◌, ◌≢◌, ℕ, true, Option, Some, None, IsTrue, refl, sym, ap, ◌∙◌, subst, slice_get}
use Rattle.std.proofs.lemmas.Bool.{and_parts}
use Rattle.shm_place.specs.declared.page_id.PageId.{PageId}
use Rattle.shm_place.specs.Page.{in_limits, same_page}
use Rattle.shm_model.specs.declared.request_kind.Kind.TheVariants.{Write}
use Rattle.shm_model.specs.Entry.{writable}
use Rattle.shm_model.specs.Memory.{Coherent}
use Rattle.shm_model.specs.World.{World}
use Rattle.shm_laws.proofs.Kernel.Lists.{find-passes}
use Rattle.shm_laws.proofs.Page.Entry.{false-true}
use Rattle.shm_laws.proofs.Page.Moves.{page-same}
use Rattle.shm_mapping.specs.Mapped.{allows}
use Rattle.shm_wire.specs.declared.mapping_text.Mapping.{Mapping}
use Rattle.shm_process.specs.Mapped.{mapped_at}
use Rattle.shm_process.specs.Node.{Node}
use Rattle.shm_kept.specs.Kept.{IsKept, is_through}
use Rattle.shm_kept.proofs.Rights.{all-found, allows-lower, holds, kept-good}

-- the right to a page that is mapped
mapped-allows : (node : Node) (page : PageId) (m : Mapping) → IsKept node → mapped_at page node.mapped ≡ Some m → allows m.kind (node.site.entries page) ≡ true
mapped-allows node page m k is =
    let held = all-found (holds node.site) (λ x. same_page page x.page) node.mapped m (kept-good node k).each is in
    let here = page-same page m.page (find-passes (λ x. same_page page x.page) node.mapped m is) in
    ap (λ p. allows m.kind (node.site.entries p)) here ∙ (and_parts (is_through node.site m) (allows m.kind (node.site.entries m.page)) held).1

pub mapped-alone : (w : World) (s t : ℕ) (a b : Node) (page : PageId) (m : Mapping) → Coherent w → IsTrue (in_limits w.count page)
    → slice_get w.sites s ≡ Some a.site → slice_get w.sites t ≡ Some b.site → s ≢ t → IsKept a → IsKept b
    → mapped_at page a.mapped ≡ Some m → m.kind ≡ Write → mapped_at page b.mapped ≡ None
mapped-alone w s t a b page m agree limits at_s at_t other k l is writes = none (mapped_at page b.mapped) refl
  where
    writable-here : writable (a.site.entries page) ≡ true
    writable-here = subst (λ kind. allows kind (a.site.entries page) ≡ true) writes (mapped-allows a page m k is)

    none : (found : Option Mapping) → mapped_at page b.mapped ≡ found → found ≡ None
    none None there = refl
    none (Some n) there =
        let reads = allows-lower n.kind (b.site.entries page) (mapped-allows b page n l there) in
        absurd (false-true (sym ((agree page s t a.site b.site limits at_s at_t other).alone writable-here) ∙ reads))
