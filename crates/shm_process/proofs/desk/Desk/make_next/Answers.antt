use Rattle.std.proofs.Common.{◌≡◌, ◌∙◌, ◌-◌, suc, arith, sym}
use Rattle.shm_process.specs.DeskOf.{desk_of}
use Rattle.shm_process.proofs.FurtherRounds.{none_more, round_is}
use Rattle.shm_process.proofs.desk.Desk.make_next.Goals as goal

pub returns-in_default-clause-made : goal.returns-in_default-clause-made
returns-in_default-clause-made g c =
    let d = desk_of c.args.self.now in
    let none = sym c.ready.ensures.ready ∙ c.in_default.is in
    none_more 0 d none ∙ sym (none_more c.args.left d none)

pub returns-clause-made : goal.returns-clause-made
returns-clause-made g c =
    let one : c.args.left ≡ suc (c.args.left - 1) = omega (arith, c.requires) in
    round_is (desk_of c.args.self.now) c.in-Some.at (sym c.ready.ensures.ready ∙ c.in-Some.is) (c.args.left - 1) c.args.left (desk_of c.make_one.new.self) one c.in_ok-make_one.ensures
