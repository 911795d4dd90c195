use Rattle.std.proofs.Common.{◌≡◌, ℕ, false, true, length, refl, arith}
use Rattle.std.proofs.lemmas.Option.{slice_get_read}
use Rattle.std.proofs.lemmas.Result.{IfOk-weaker, on_err_weaker}
use Rattle.shm_model.specs.Step.{step}
use Rattle.shm_site.specs.Site.{site_of}
use Rattle.shm_site.specs.Step.{input_of, is_foreign, may_grow}
use Rattle.shm_world.proofs.Seats.{in-seat, made-there, seat-kept, seated-set, seen-in-seat, seen-same}
use Rattle.shm_world.proofs.members.Members.step.Goals as goal

pub invariant_of-self-clause-seats : goal.invariant_of-self-clause-seats
invariant_of-self-clause-seats g c =
    let is : c.site.inside.0 ≡ c.args.site = omega arith in
    let sites = c.args.self.now.sites.items in
    let there = slice_get_read sites (length sites) c.site.inside.0 c.index_mut.result.now refl (omega arith) c.index_mut.ensures.value in
    let was = c.index_mut.result.now in
    seated-set c.args.self.now.count sites c.site.inside.0 was c.step_proper.new.self c.args.self.now.seats there
    (seat-kept g.O.Outbox.posted was c.step_proper.new.self c.args.outbox.now c.step_proper.new.outbox c.step_proper.result (step was.sites was.me (site_of was) (input_of c.args.input)) c.step_proper.ensures.step c.step_proper.ensures.refused)

pub returns-clause-step : goal.returns-clause-step
returns-clause-step g c =
    let is : c.site.inside.0 ≡ c.args.site = omega arith in
    let sites = c.args.self.now.sites.items in
    let there = slice_get_read sites (length sites) c.site.inside.0 c.index_mut.result.now refl (omega arith) c.index_mut.ensures.value in
    IfOk-weaker c.step_proper.result _ _
    (λ answer e. made-there g.O.Outbox.posted c.args.self.now _ c.site.inside.0 c.args.site c.index_mut.result.now c.step_proper.new.self c.args.outbox.now c.step_proper.new.outbox answer (λ n m x. step n m x (input_of c.args.input)) is there refl e)
    c.step_proper.ensures.step

pub step_proper-requires : goal.step_proper-requires
step_proper-requires g c =
    let is : c.site.inside.0 ≡ c.args.site = omega arith in
    let sites = c.args.self.now.sites.items in
    let there = slice_get_read sites (length sites) c.site.inside.0 c.index_mut.result.now refl (omega arith) c.index_mut.ensures.value in
    let was = c.index_mut.result.now in
    let own : ℕ → ℕ → Type 0 = λ n m. is_foreign n m (input_of c.args.input) ≡ false in
    in-seat c.args.self.now c.site.inside.0 c.args.site was is there (λ n m. own n m → own was.sites was.me) (λ h. h) c.requires.own

pub returns-clause-memory : goal.returns-clause-memory
returns-clause-memory g c =
    let is : c.site.inside.0 ≡ c.args.site = omega arith in
    let sites = c.args.self.now.sites.items in
    let there = slice_get_read sites (length sites) c.site.inside.0 c.index_mut.result.now refl (omega arith) c.index_mut.ensures.value in
    on_err_weaker c.step_proper.result (seen-in-seat c.args.self.now c.site.inside.0 c.args.site c.index_mut.result.now is there (λ n m x. may_grow n m x (input_of c.args.input) ≡ true))
    c.step_proper.ensures.memory

pub returns-clause-refused : goal.returns-clause-refused
returns-clause-refused g c =
    let is : c.site.inside.0 ≡ c.args.site = omega arith in
    let sites = c.args.self.now.sites.items in
    let there = slice_get_read sites (length sites) c.site.inside.0 c.index_mut.result.now refl (omega arith) c.index_mut.ensures.value in
    on_err_weaker c.step_proper.result (λ same. (seen-same sites c.site.inside.0 c.index_mut.result.now c.step_proper.new.self there same.site, same.behind)) c.step_proper.ensures.refused
