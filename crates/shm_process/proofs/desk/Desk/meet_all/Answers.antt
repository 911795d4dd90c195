use Rattle.std.proofs.Common.{◌∙◌, ap, map}
use Rattle.shm_process.specs.Desk.{met}
use Rattle.shm_process.specs.DeskOf.{desk_of, kept_of}
use Rattle.shm_process.proofs.Asks.{map_read}
use Rattle.shm_process.proofs.Finds.{seen-over, seen-within}
use Rattle.shm_process.proofs.MetLines.{none_met, one_met}
use Rattle.shm_process.proofs.desk.Desk.meet_all.Goals as goal

pub kept-preserved : goal.kept-preserved
kept-preserved g c =
    let zs = c.args.kept.now in
    let i = c.kept.one-index in
    let one = c.one-item.result in
    let desk = desk_of c.kept.self in
    one_met c.args.fresh (map kept_of zs) i (kept_of one) desk (desk_of c.meet_again.new.self) _ (seen-within kept_of zs i c.kept-test.true)
    (map_read kept_of zs i one (kept_of one) c.kept-test.true c.one-item.is)
    (c.in_ok-meet_again.ensures ∙ ap (met c.args.fresh desk) c.as_slice.ensures.value) c.kept.invariant

pub returns : goal.returns
returns g c =
    none_met c.args.fresh (map kept_of c.args.kept.now) c.kept.one-index (desk_of c.kept.self) _ (seen-over kept_of c.args.kept.now c.kept.one-index c.kept-test.false)
    c.kept.invariant
