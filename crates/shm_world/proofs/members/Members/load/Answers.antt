use Rattle.std.proofs.Common.{◌≡◌, ap, length, refl, true, arith}
use Rattle.std.proofs.lemmas.Option.{slice_get_read}
use Rattle.std.proofs.lemmas.Result.{IfOk-weaker, on_err_weaker}
use Rattle.shm_model.specs.Access.{load}
use Rattle.shm_site.specs.Site.{site_of}
use Rattle.shm_site.specs.Step.{is_fault}
use Rattle.shm_world.proofs.Seats.{made-there, seat-kept, seated-set, seen-in-seat, seen-same}
use Rattle.shm_world.proofs.members.Members.load.Goals as goal

pub invariant_of-self-clause-seats : goal.invariant_of-self-clause-seats
invariant_of-self-clause-seats g c =
    let is : c.site.inside.0 ≡ c.args.site = omega arith in
    let sites = c.args.self.now.sites.items in
    let there = slice_get_read sites (length sites) c.site.inside.0 c.index_mut.result.now refl (omega arith) c.index_mut.ensures.value in
    let was = c.index_mut.result.now in
    seated-set c.args.self.now.count sites c.site.inside.0 was c.load.new.self c.args.self.now.seats there
    (seat-kept g.O.Outbox.posted was c.load.new.self c.args.outbox.now c.load.new.outbox c.load.result (load was.sites was.me c.args.at c.args.offset (site_of was)) c.load.ensures.step c.load.ensures.refused)

pub returns-clause-step : goal.returns-clause-step
returns-clause-step g c =
    let is : c.site.inside.0 ≡ c.args.site = omega arith in
    let sites = c.args.self.now.sites.items in
    let there = slice_get_read sites (length sites) c.site.inside.0 c.index_mut.result.now refl (omega arith) c.index_mut.ensures.value in
    IfOk-weaker c.load.result _ _
    (λ answer e. made-there g.O.Outbox.posted c.args.self.now _ c.site.inside.0 c.args.site c.index_mut.result.now c.load.new.self c.args.outbox.now c.load.new.outbox answer (λ n m x. load n m c.args.at c.args.offset x) is there refl e)
    c.load.ensures.step

pub returns-clause-refused : goal.returns-clause-refused
returns-clause-refused g c =
    let is : c.site.inside.0 ≡ c.args.site = omega arith in
    let sites = c.args.self.now.sites.items in
    let there = slice_get_read sites (length sites) c.site.inside.0 c.index_mut.result.now refl (omega arith) c.index_mut.ensures.value in
    on_err_weaker c.load.result (λ same. (seen-same sites c.site.inside.0 c.index_mut.result.now c.load.new.self there same.site, same.behind)) c.load.ensures.refused

pub returns-clause-memory : goal.returns-clause-memory
returns-clause-memory g c =
    let is : c.site.inside.0 ≡ c.args.site = omega arith in
    let sites = c.args.self.now.sites.items in
    let there = slice_get_read sites (length sites) c.site.inside.0 c.index_mut.result.now refl (omega arith) c.index_mut.ensures.value in
    on_err_weaker c.load.result (λ fault. seen-in-seat c.args.self.now c.site.inside.0 c.args.site c.index_mut.result.now is there (λ n m x. is_fault (load n m c.args.at c.args.offset x).answer ≡ true) (ap is_fault fault))
    c.load.ensures.memory
