use Rattle.std.proofs.Common.{◌≡◌, ◌++◌, string_bytes}
use Rattle.std.specs.Str.{IsUtf8}
use Rattle.shm_draw.specs.Svg.{escaped}
use Rattle.shm_draw.proofs.caption_svg.tell_escaped.Given as goal

abbrev pub invariant-chars : goal.invariant-chars
invariant-chars g l =
    (goal.iterator-chars g).can_next l.rest × (goal.iterator-chars g).is_finite l.rest × IsUtf8 l.rest.rest.now
    × (string_bytes l.out ++ escaped l.rest.rest.now ≡ string_bytes l.initial.out ++ escaped l.text)
