use Rattle.std.proofs.Common.{◌≡◌, ◌+◌, ◌++◌, ◌∷◌, ◌∙◌, ap, drop, string_bytes, sym, arith}
use Rattle.std.specs.Prelude.{map}
use Rattle.std.proofs.lemmas.List.{drop_more}
use Rattle.shm_journal.specs.Begun.{lines_text}
use Rattle.shm_journal.specs.StateLines.{OfMapping}
use Rattle.shm_journal.proofs.Shortening.{line_written}
use Rattle.shm_journal.proofs.journal_shortening.write_mappings.Goals as goal

pub mapped-preserved : goal.mapped-preserved
mapped-preserved g c =
    let mapped = c.args.mapped.now in
    let i = c.mapped.mapping-index in
    let m = c.mapping-item.result in
    let left : drop i mapped ≡ m ∷ drop (i + 1) mapped =
    drop_more mapped i m (omega (arith, c.mapped-test.true)) ∙ ap (λ x. x ∷ drop (i + 1) mapped) (sym c.mapping-item.is) in
    line_written (string_bytes c.mapped.out) (string_bytes c.write_line.new.out) (string_bytes c.args.out.now ++ lines_text (map OfMapping mapped)) (OfMapping m)
    (map OfMapping (drop (i + 1) mapped)) c.in_ok-write_line.ensures
    (ap (λ ms. string_bytes c.mapped.out ++ lines_text (map OfMapping ms)) (sym left) ∙ c.mapped.invariant)
