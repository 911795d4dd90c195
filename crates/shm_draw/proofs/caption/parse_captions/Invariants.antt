use Rattle.std.proofs.Common.{◌≡◌, ◌+◌, ◌≤◌, length}
use Rattle.std.specs.Prelude.{Ok}
use Rattle.shm_draw.specs.Captions.{besides_of, captions_in, lines_of, of_notes, then_rest}
use Rattle.shm_draw.proofs.caption.parse_captions.Given as goal

abbrev pub invariant-lines : goal.invariant-lines
invariant-lines g l =
    (l.number + length l.rest ≤ length l.notes + 1)
    × (captions_in l.notes ≡ then_rest (Ok (besides_of l.captions.items)) (of_notes l.number (lines_of l.rest)))

abbrev pub decreases-lines : goal.decreases-lines
decreases-lines g l = length l.rest
