-- The caller that is joined stood first among the rest, so it is that of the next site.
use Rattle.std.proofs.Common.{◌≡◌, ◌+◌, rules, subst, vec_len}
use Rattle.shm_report.specs.CallerThreads.{IsCaller}
use Rattle.shm_report.specs.Callers.{IsToldOf, ServedUnlessEnded}
use Rattle.shm_report.proofs.CallersTold.{one_told}
use Rattle.shm_report.proofs.caller_threads.join_callers.Goals as goal

pub callers-preserved : goal.callers-preserved
callers-preserved g c =
    let was = c.callers.invariant in
    let step = c.in-Some.ensures.steps in
    let done = vec_len c.callers.told in
    let promise = c.in-Some.caller.promise in
    record {
      count = search rules;
      room = search rules;
      left = λ accesses are k d below. let h = was.left accesses are (k + 1) d in grind rules;
      told = λ accesses are.
          let this : IsCaller accesses done promise = let h = was.left accesses are 0 c.in-Some.caller in grind rules in
          let tells : IsToldOf done accesses c.join.result =
          subst (λ xs. IsToldOf done xs c.join.result) this.given
          (subst (λ n. IsToldOf n promise.accesses.now c.join.result) this.own c.join.ensures) in
          let h = one_told accesses c.callers.told.items c.join.result done (was.told accesses are) tells in search rules;
    }

pub returns : goal.returns
returns g c accesses are =
    let done : vec_len c.callers.told ≡ vec_len c.args.callers = search rules in
    subst (λ n. ServedUnlessEnded n accesses c.callers.told.items) done (c.callers.invariant.told accesses are)
