use Rattle.std.proofs.Common.{rules, ◌<◌, [], ◌∷◌, ◌∙◌, ap, arith, length, sym}
use Rattle.std.specs.Option.{option_map_or}
use Rattle.shm_lines.specs.Line.{line_of}
use Rattle.shm_prompt.specs.Dialog.{parts_of}
use Rattle.shm_prompt.proofs.CommandLemmas.{none_there, read_there}
use Rattle.shm_prompt.proofs.OpenLemmas.{playing-all, playing-more, playing-none, playing-wrong}
use Rattle.shm_prompt.proofs.open_script.play_lines.Goals as goal

pub lines-init : goal.lines-init
lines-init g c = (omega arith, playing-none c.args.bytes.now c.args.session.now c.args.out.now.items)

pub returns-in_default : goal.returns-in_default
returns-in_default g c =
    playing-all c.args.bytes.now c.lines.rest.now c.split_at.result.0.now c.lines.number c.args.session.now c.lines.session c.args.out.now.items c.lines.out.items
    c.lines.invariant.1
    (c.split_at.ensures.parts ∙ ap (λ o. c.split_at.result.0.now ∷ option_map_or (λ rest. parts_of rest.now) o []) c.in_default.is)

pub returns-in_default-parse_line : goal.returns-in_default-parse_line
returns-in_default-parse_line g c =
    playing-wrong c.args.bytes.now c.lines.rest.now c.split_at.result.0.now c.in-Some.others.now c.lines.number
    c.args.session.now c.lines.session c.args.out.now.items c.lines.out.items c.lines.invariant.1
    (c.split_at.ensures.parts ∙ ap (λ o. c.split_at.result.0.now ∷ option_map_or (λ rest. parts_of rest.now) o []) c.in-Some.is)
    (none_there (line_of c.split_at.result.0.now) c.in_default-parse_line.field-0 _ (sym c.in_default-parse_line.is ∙ c.parse_line.ensures))

pub act_on-requires : goal.act_on-requires
act_on-requires g c =
    (c.lines_have_one_spelling.ensures.read c.split_at.result.0.now c.in-Ok.line
    (read_there (line_of c.split_at.result.0.now) c.in-Ok.line _ (sym c.in-Ok.is ∙ c.parse_line.ensures))).0

pub lines-preserved : goal.lines-preserved
lines-preserved g c = (
  let shorter : length c.in-Some.others.now < length c.lines.rest.now = search rules in omega (arith, shorter),
  playing-more c.args.bytes.now c.lines.rest.now c.split_at.result.0.now c.in-Some.others.now c.lines.number
      c.args.session.now c.lines.session c.act_on.new.session c.args.out.now.items c.lines.out.items c.act_on.new.out.items c.in-Ok.line
      c.lines.invariant.1
      (c.split_at.ensures.parts ∙ ap (λ o. c.split_at.result.0.now ∷ option_map_or (λ rest. parts_of rest.now) o []) c.in-Some.is)
      (read_there (line_of c.split_at.result.0.now) c.in-Ok.line _ (sym c.in-Ok.is ∙ c.parse_line.ensures))
      c.in_ok-act_on.ensures.next c.in_ok-act_on.ensures.told,
)
