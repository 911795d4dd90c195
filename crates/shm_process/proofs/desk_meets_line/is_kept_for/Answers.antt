use Rattle.std.proofs.Common.{◌≡◌, true, false}
use Rattle.shm_process.specs.Desk.{KeptLine, is_page}
use Rattle.shm_process.specs.DeskOf.{kept_of}
use Rattle.shm_process.proofs.Finds.{seen_meets, seen_misses, seen_misses_all}
use Rattle.shm_process.proofs.desk_meets_line.is_kept_for.Goals as goal

pub kept-preserved : goal.kept-preserved
kept-preserved g c =
    let one = c.one-item.result in
    let misses : is_page c.args.page.now one.page ≡ false = cc in
    seen_misses kept_of (λ (k : KeptLine). is_page c.args.page.now k.page) c.args.kept.now c.kept.one-index one _ c.kept-test.true c.one-item.is misses c.kept.invariant

pub returns-then-is_page : goal.returns-then-is_page
returns-then-is_page g c =
    let one = c.one-item.result in
    let meets : is_page c.args.page.now one.page ≡ true = cc in
    seen_meets kept_of (λ (k : KeptLine). is_page c.args.page.now k.page) c.args.kept.now c.kept.one-index one _ c.kept-test.true c.one-item.is meets c.kept.invariant

pub returns : goal.returns
returns g c = seen_misses_all kept_of (λ (k : KeptLine). is_page c.args.page.now k.page) c.args.kept.now c.kept.one-index _ c.kept-test.false c.kept.invariant
