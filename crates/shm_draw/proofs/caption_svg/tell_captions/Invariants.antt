use Rattle.std.proofs.Common.{◌≡◌, ◌++◌, drop, string_bytes}
use Rattle.shm_draw.specs.Captions.{besides_of}
use Rattle.shm_draw.specs.Svg.{captions_text}
use Rattle.shm_draw.proofs.caption_svg.tell_captions.Given as goal

abbrev pub invariant-captions : goal.invariant-captions
invariant-captions g l =
    string_bytes l.out ++ captions_text l.x l.last (besides_of (drop l.caption-index l.captions)) ≡ string_bytes l.initial.out ++ captions_text l.x l.last (besides_of l.captions)
