use Rattle.std.proofs.Common.{◌≡◌, ◌∙◌, ◌+◌, ℕ, List, Option, Some, None, ap, ap₂, cond, sym}
use Rattle.std.specs.Prelude.{option_map}
use Rattle.std.specs.Str.{bytes_eq}
use Rattle.shm_batches.proofs.FrontLemmas.{line-is, measured-mark, next-some}
use Rattle.shm_batches.specs.Chain.{Chain, mark_line, with_batch}
use Rattle.shm_batches.specs.ChainOf.{chain_of}
use Rattle.shm_batches.specs.Section.{lines_in, open_in}
use Rattle.shm_batches.proofs.front.take_mark.Goals as goal

pub returns : goal.returns
returns g c before left m =
    let front = c.args.front.now in
    let was = chain_of front.chain in
    let line = c.line.ensures ∙ line-is (open_in front.section) m.line m.here in
    let answer : List ℕ → List ℕ → Option Chain = λ l text. cond (bytes_eq l (mark_line was text)) (Some (with_batch was text)) None in
    let next : Some (chain_of c.in-Some.chain) ≡ answer m.line (lines_in front.section) =
    sym (ap (option_map chain_of) c.in-Some.is) ∙ c.in-Ok.ensures ∙ ap₂ answer line c.lines.ensures in
    let both = next-some (bytes_eq m.line (mark_line was (lines_in front.section))) (chain_of c.in-Some.chain) (with_batch was (lines_in front.section)) next in
    measured-mark front c.clear.new.self c.in-Some.chain c.in-Some-checked_add.bytes before left m both.0 both.1
    (c.in-Some-checked_add.ensures.1 ∙ ap (λ n. front.bytes + n) c.len.ensures) c.clear.ensures.lines c.clear.ensures.open
