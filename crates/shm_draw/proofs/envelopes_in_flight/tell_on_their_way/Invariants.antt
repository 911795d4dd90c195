use Rattle.std.proofs.Common.{◌≡◌, ◌+◌, ◌++◌, drop, string_bytes}
use Rattle.shm_draw.specs.Svg.{flying_text, flying_label}
use Rattle.shm_draw.proofs.envelopes_in_flight.tell_on_their_way.Given as goal

abbrev pub invariant-ways : goal.invariant-ways
invariant-ways g l =
    string_bytes l.out ++ flying_text flying_label l.last (l.index + 1) (drop l.index l.ways) ≡ string_bytes l.initial.out ++ flying_text flying_label l.last 1 l.ways
