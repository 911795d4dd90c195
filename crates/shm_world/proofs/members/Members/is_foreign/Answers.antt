use Rattle.std.proofs.Common.{◌∙◌, ◌≡◌, length, refl, arith}
use Rattle.std.proofs.lemmas.Option.{slice_get_read}
use Rattle.shm_model.specs.Step.{foreign}
use Rattle.shm_parts.specs.Message.{envelope_of}
use Rattle.shm_world.proofs.Seats.{in-seat}
use Rattle.shm_world.proofs.members.Members.is_foreign.Goals as goal

pub returns : goal.returns
returns g c =
    let is : c.site.inside.0 ≡ c.args.envelope.now.to = omega arith in
    let sites = c.args.self.now.sites.items in
    let there = slice_get_read sites (length sites) c.site.inside.0 c.index.result.now refl (omega arith) c.index.ensures in
    let was = c.index.result.now in
    let e = envelope_of c.args.envelope.now in
    c.is_improper.ensures ∙ in-seat c.args.self.now c.site.inside.0 c.args.envelope.now.to was is there (λ n m. foreign was.sites was.me e ≡ foreign n m e) refl

pub is_improper-requires : goal.is_improper-requires
is_improper-requires g c =
    let is : c.site.inside.0 ≡ c.args.envelope.now.to = omega arith in
    let sites = c.args.self.now.sites.items in
    let there = slice_get_read sites (length sites) c.site.inside.0 c.index.result.now refl (omega arith) c.index.ensures in
    let was = c.index.result.now in
    in-seat c.args.self.now c.site.inside.0 c.args.envelope.now.to was is there (λ n m. m ≡ was.me) refl
