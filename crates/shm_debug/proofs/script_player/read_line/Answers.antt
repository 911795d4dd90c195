use Rattle.std.proofs.Common.{◌≡◌, Some, None, true, false, sym, ap, ◌∙◌}
use Rattle.shm_lines.specs.Line.{line_of, may_stand}
use Rattle.shm_debug.specs.Script.{placed}
use Rattle.shm_debug.proofs.ReadingLemmas.{read-within, placed-yes, placed-no}
use Rattle.shm_debug.proofs.PlayerLemmas.{none_read, some_read}
use Rattle.shm_debug.proofs.script_player.read_line.Goals as goal

pub returns-in_default : goal.returns-in_default
returns-in_default c =
    let none : line_of c.args.bytes.now ≡ None = none_read (line_of c.args.bytes.now) _ c.in_default.field-0 (sym c.in_default.is ∙ c.parse_line.ensures) in
    sym (read-within c.args.number c.args.bytes.now c.in-Ok.ensures.number c.in-Ok.ensures.len ∙ ap (placed c.args.number) none)

pub returns-then-not-may_stand : goal.returns-then-not-may_stand
returns-then-not-may_stand c =
    let line = c.in-Ok-parse_line.line in
    let some : line_of c.args.bytes.now ≡ Some c.in-Ok-parse_line.line = some_read (line_of c.args.bytes.now) _ line (sym c.in-Ok-parse_line.is ∙ c.parse_line.ensures) in
    let wrong : may_stand c.args.number c.in-Ok-parse_line.line ≡ false = sym c.may_stand.ensures ∙ c.if-not-may_stand.true in
    sym (read-within c.args.number c.args.bytes.now c.in-Ok.ensures.number c.in-Ok.ensures.len ∙ ap (placed c.args.number) some ∙ placed-no c.args.number line wrong)

pub returns : goal.returns
returns c =
    let line = c.in-Ok-parse_line.line in
    let some : line_of c.args.bytes.now ≡ Some c.in-Ok-parse_line.line = some_read (line_of c.args.bytes.now) _ line (sym c.in-Ok-parse_line.is ∙ c.parse_line.ensures) in
    let right : may_stand c.args.number c.in-Ok-parse_line.line ≡ true = sym c.may_stand.ensures ∙ c.if-not-may_stand.false in
    sym (read-within c.args.number c.args.bytes.now c.in-Ok.ensures.number c.in-Ok.ensures.len ∙ ap (placed c.args.number) some ∙ placed-yes c.args.number line right)
