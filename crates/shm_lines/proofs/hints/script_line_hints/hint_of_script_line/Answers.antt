use Rattle.shm_lines.specs.Line.{line_of}
use Rattle.shm_lines.proofs.AnswerLemmas.{read-some, read-none}
use Rattle.shm_lines.proofs.hints.script_line_hints.hint_of_script_line.Goals as goal

pub returns-in-Ok-clause-right : goal.returns-in-Ok-clause-right
returns-in-Ok-clause-right c = read-some (line_of c.args.line.now) _ c.in-Ok.field-0 c.in-Ok.ensures

pub returns-in-Err-clause-wrong : goal.returns-in-Err-clause-wrong
returns-in-Err-clause-wrong c = read-none (line_of c.args.line.now) _ c.in-Err.field-0 c.in-Err.ensures
