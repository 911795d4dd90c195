use Rattle.std.proofs.Common.{◌≡◌, false, length, refl, arith}
use Rattle.std.proofs.lemmas.Option.{slice_get_read}
use Rattle.std.proofs.lemmas.Result.{IfOk-weaker, on_err_weaker}
use Rattle.shm_model.specs.Step.{deliver}
use Rattle.shm_parts.specs.Message.{envelope_of}
use Rattle.shm_site.specs.Site.{site_of}
use Rattle.shm_site.specs.Step.{is_refused}
use Rattle.shm_world.proofs.Seats.{in-seat, made-there, seat-kept, seated-set, seen-in-seat, seen-same}
use Rattle.shm_world.proofs.members.Members.deliver.Goals as goal

pub invariant_of-self-clause-seats : goal.invariant_of-self-clause-seats
invariant_of-self-clause-seats g c =
    let is : c.site.inside.0 ≡ c.args.envelope.to = omega arith in
    let sites = c.args.self.now.sites.items in
    let there = slice_get_read sites (length sites) c.site.inside.0 c.index_mut.result.now refl (omega arith) c.index_mut.ensures.value in
    let was = c.index_mut.result.now in
    seated-set c.args.self.now.count sites c.site.inside.0 was c.deliver_addressed.new.self c.args.self.now.seats there
    (seat-kept g.O.Outbox.posted was c.deliver_addressed.new.self c.args.outbox.now c.deliver_addressed.new.outbox c.deliver_addressed.result (deliver was.sites was.me (envelope_of c.args.envelope) (site_of was)) c.deliver_addressed.ensures.step c.deliver_addressed.ensures.refused)

pub returns-clause-step : goal.returns-clause-step
returns-clause-step g c =
    let is : c.site.inside.0 ≡ c.args.envelope.to = omega arith in
    let sites = c.args.self.now.sites.items in
    let there = slice_get_read sites (length sites) c.site.inside.0 c.index_mut.result.now refl (omega arith) c.index_mut.ensures.value in
    IfOk-weaker c.deliver_addressed.result _ _
    (λ answer e. made-there g.O.Outbox.posted c.args.self.now _ c.site.inside.0 c.args.envelope.to c.index_mut.result.now c.deliver_addressed.new.self c.args.outbox.now c.deliver_addressed.new.outbox answer (λ n m x. deliver n m (envelope_of c.args.envelope) x) is there refl e)
    c.deliver_addressed.ensures.step

pub returns-clause-memory : goal.returns-clause-memory
returns-clause-memory g c =
    let is : c.site.inside.0 ≡ c.args.envelope.to = omega arith in
    let sites = c.args.self.now.sites.items in
    let there = slice_get_read sites (length sites) c.site.inside.0 c.index_mut.result.now refl (omega arith) c.index_mut.ensures.value in
    on_err_weaker c.deliver_addressed.result (λ grows. seen-in-seat c.args.self.now c.site.inside.0 c.args.envelope.to c.index_mut.result.now is there (λ n m x. is_refused (deliver n m (envelope_of c.args.envelope) x).answer ≡ false) grows)
    c.deliver_addressed.ensures.memory

pub returns-clause-refused : goal.returns-clause-refused
returns-clause-refused g c =
    let is : c.site.inside.0 ≡ c.args.envelope.to = omega arith in
    let sites = c.args.self.now.sites.items in
    let there = slice_get_read sites (length sites) c.site.inside.0 c.index_mut.result.now refl (omega arith) c.index_mut.ensures.value in
    on_err_weaker c.deliver_addressed.result (λ same. (seen-same sites c.site.inside.0 c.index_mut.result.now c.deliver_addressed.new.self there same.site, same.behind)) c.deliver_addressed.ensures.refused

pub deliver_addressed-requires : goal.deliver_addressed-requires
deliver_addressed-requires g c =
    let is : c.site.inside.0 ≡ c.args.envelope.to = omega arith in
    let sites = c.args.self.now.sites.items in
    let there = slice_get_read sites (length sites) c.site.inside.0 c.index_mut.result.now refl (omega arith) c.index_mut.ensures.value in
    let was = c.index_mut.result.now in
    in-seat c.args.self.now c.site.inside.0 c.args.envelope.to was is there (λ n m. m ≡ was.me) refl
