use Rattle.std.proofs.Common.{◌++◌, string_bytes}
use Rattle.std.proofs.lemmas.Str.{IsUtf8-past_char}
use Rattle.shm_draw.specs.Svg.{escaped}
use Rattle.shm_draw.proofs.Captioned.{escaped_all, escaped_past}
use Rattle.shm_draw.proofs.caption_svg.tell_escaped.Goals as goal

pub chars-preserved : goal.chars-preserved
chars-preserved g c = (
  tt,
  tt,
  IsUtf8-past_char c.chars.rest.rest.now c.next.new.self.rest.now c.in-Some.c c.chars.invariant.2 c.in-Some.ensures.steps.0,
  escaped_past (string_bytes c.chars.out) (string_bytes c.tell_char.new.out) c.chars.rest.rest.now c.next.new.self.rest.now
      (string_bytes c.args.out.now ++ escaped c.args.text.now) c.in-Some.c c.chars.invariant.2 c.in-Some.ensures.steps.0 c.in_ok-tell_char.ensures c.chars.invariant.3,
)

pub returns : goal.returns
returns g c =
    escaped_all (string_bytes c.chars.out) c.chars.rest.rest.now (string_bytes c.args.out.now ++ escaped c.args.text.now) c.in_default.ensures.steps.0.0 c.chars.invariant.3
