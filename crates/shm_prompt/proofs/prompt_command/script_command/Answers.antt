use Rattle.std.proofs.Common.{Some, option_and_then, ap, sym, ◌∙◌}
use Rattle.shm_lines.specs.Line.{line_of}
use Rattle.shm_prompt.specs.declared.prompt_command.Command.TheVariants.{Line}
use Rattle.shm_prompt.proofs.CommandLemmas.{none_scripted, read_there}
use Rattle.shm_prompt.proofs.prompt_command.script_command.Goals as goal

pub returns-in_default-clause-command : goal.returns-in_default-clause-command
returns-in_default-clause-command c = none_scripted (line_of c.args.bytes.now) c.in_default.field-0 _ (sym c.in_default.is ∙ c.parse_line.ensures)

pub returns-clause-command : goal.returns-clause-command
returns-clause-command c =
    ap (option_and_then (λ line. Some (Line line))) (sym (read_there (line_of c.args.bytes.now) c.in-Ok.line _ (sym c.in-Ok.is ∙ c.parse_line.ensures)))

pub returns-clause-is_line : goal.returns-clause-is_line
returns-clause-is_line c =
    (c.lines_have_one_spelling.ensures.read c.args.bytes.now c.in-Ok.line
    (read_there (line_of c.args.bytes.now) c.in-Ok.line _ (sym c.in-Ok.is ∙ c.parse_line.ensures))).0
