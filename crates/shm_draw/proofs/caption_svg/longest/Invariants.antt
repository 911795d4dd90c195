use Rattle.std.proofs.Common.{◌≡◌, drop}
use Rattle.shm_draw.specs.Captions.{besides_of}
use Rattle.shm_draw.specs.Svg
use Rattle.shm_draw.proofs.caption_svg.longest.Given as goal

abbrev pub invariant-captions : goal.invariant-captions
invariant-captions l = Svg.longest l.most (besides_of (drop l.caption-index l.captions)) ≡ Svg.longest 0 (besides_of l.captions)
