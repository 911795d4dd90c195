-- How a segment's mode is spelled.
use Rattle.std.specs.Prelude.{ℕ, List, ◌++◌, ◌/◌, ◌%◌}
use Rattle.std.specs.Fmt.{decimal}

-- nine mode bits as three octal digits: the owner's, the group's and the others', as `chmod(1)` has them
abbrev pub mode_word : ℕ → List ℕ
mode_word mode = decimal (mode / 64) ++ (decimal (mode / 8 % 8) ++ decimal (mode % 8))
