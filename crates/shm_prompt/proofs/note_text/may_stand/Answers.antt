use Rattle.std.proofs.Common.{◌∙◌, sym}
use Rattle.std.proofs.lemmas.Str.{IsUtf8-past_char}
use Rattle.shm_draw.proofs.Captioned.{all_stand, stands_not, stands_past}
use Rattle.shm_prompt.proofs.note_text.may_stand.Goals as goal

pub returns-then-is_control : goal.returns-then-is_control
returns-then-is_control c =
    sym (c.chars.invariant.3 ∙ stands_not c.chars.rest.rest.now c.next.new.self.rest.now c.in-Some.c c.chars.invariant.2 c.in-Some.ensures.steps.0 c.if-is_control.ensures)

pub chars-preserved : goal.chars-preserved
chars-preserved c = (
  tt,
  tt,
  IsUtf8-past_char c.chars.rest.rest.now c.next.new.self.rest.now c.in-Some.c c.chars.invariant.2 c.in-Some.ensures.steps.0,
  c.chars.invariant.3 ∙ stands_past c.chars.rest.rest.now c.next.new.self.rest.now c.in-Some.c c.chars.invariant.2 c.in-Some.ensures.steps.0 c.if-is_control.ensures,
)

pub returns : goal.returns
returns c = sym (c.chars.invariant.3 ∙ all_stand c.chars.rest.rest.now c.in_default.ensures.steps.0.0)
