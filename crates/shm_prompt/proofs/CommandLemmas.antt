-- What is read as a line of a script.
use Rattle.std.proofs.Common.{◌≡◌, Option, None, Some, Ok, Err, option_and_then, refl}
use Rattle.std.specs.Option.{ok_or}
use Rattle.shm_lines.specs.declared.script_line.Line as script
use Rattle.shm_lines.specs.declared.script_line_parser.BadLine.{BadLine}
use Rattle.shm_prompt.specs.declared.prompt_command.Command.TheVariants.{Line}

pub none_scripted : (o : Option script.Line) (e f : BadLine) → Err e ≡ ok_or o f → None ≡ option_and_then (λ line. Some (Line line)) o
none_scripted None e f h = refl
none_scripted (Some line) e f h = absurd (cc)

pub read_there : (o : Option script.Line) (line : script.Line) (f : BadLine) → Ok line ≡ ok_or o f → o ≡ Some line
read_there None line f h = absurd (cc)
read_there (Some l) line f h = cc

pub none_there : (o : Option script.Line) (e f : BadLine) → Err e ≡ ok_or o f → o ≡ None
none_there None e f h = refl
none_there (Some line) e f h = absurd (cc)
