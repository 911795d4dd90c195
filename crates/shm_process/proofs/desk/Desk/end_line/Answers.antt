use Rattle.std.proofs.Common.{◌≡◌, ◌∷◌, ◌++◌, [], length, arith}
use Rattle.std.proofs.lemmas.Bool.Decides.{nat_tests}
use Rattle.std.proofs.lemmas.Result.{IfOk-weaker}
use Rattle.shm_process.specs.Desk.{after_line, on_bytes}
use Rattle.shm_process.specs.DeskOf.{desk_of}
use Rattle.shm_process.proofs.DeskBytes.{empty_from, rest_of_line, whole_line, with_line}
use Rattle.shm_process.proofs.desk.Desk.end_line.Goals as goal

pub returns-then-is_empty : goal.returns-then-is_empty
returns-then-is_empty g c =
    let desk = desk_of c.args.self.now in
    let bytes = c.args.bytes.now in
    let none : length desk.line ≡ 0 = grind (arith, nat_tests, c.args.self.now.line.ok.0) in
    IfOk-weaker c.take_line.result (λ _. desk_of c.take_line.new.self ≡ after_line desk bytes) (λ _. desk_of c.take_line.new.self ≡ on_bytes desk (bytes ++ 10 ∷ []))
    (λ _ e. whole_line desk (desk_of c.take_line.new.self) bytes c.requires (empty_from desk.line none) e) c.take_line.ensures

pub returns : goal.returns
returns g c =
    let desk = desk_of c.args.self.now in
    let bytes = c.args.bytes.now in
    let now = desk_of c.keep.new.self in
    IfOk-weaker c.take_kept.result (λ _. desk_of c.take_kept.new.self ≡ after_line (with_line [] now) now.line)
    (λ _. desk_of c.take_kept.new.self ≡ on_bytes desk (bytes ++ 10 ∷ []))
    (λ _ e. rest_of_line desk now (desk_of c.take_kept.new.self) bytes c.in_ok-keep.ensures e) c.take_kept.ensures
