-- The limits of a workload.
use Rattle.std.specs.Prelude.{ℕ, ◌+◌, ◌*◌}

-- of a line, without its line feed
abbrev pub max_line_bytes : ℕ
max_line_bytes = 200

abbrev pub max_lines : ℕ
max_lines = 10000

-- what is read at most: one byte more than all lines can have
abbrev pub max_bytes : ℕ
max_bytes = max_lines * (max_line_bytes + 1) + 1
