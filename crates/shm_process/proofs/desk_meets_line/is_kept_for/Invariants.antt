use Rattle.std.proofs.Common.{◌≡◌, drop, map}
use Rattle.std.specs.List.{list_any}
use Rattle.shm_process.specs.Desk.{is_page}
use Rattle.shm_process.specs.DeskOf.{kept_of}
use Rattle.shm_process.proofs.desk_meets_line.is_kept_for.Given as goal

-- one to come is for the page, if one is
abbrev pub invariant-kept : goal.invariant-kept
invariant-kept g l = list_any (λ k. is_page l.page k.page) (drop l.one-index (map kept_of l.kept)) ≡ list_any (λ k. is_page l.page k.page) (map kept_of l.kept)
