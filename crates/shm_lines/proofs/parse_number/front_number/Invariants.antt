use Rattle.std.proofs.Common.{◌≡◌, ◌==◌, ◌<◌, ◌^◌, true, false, take, All}
use Rattle.std.specs.Char.{is_ascii_digit}
use Rattle.std.specs.List.{list_all}
use Rattle.std.specs.Str.Parse.{digits_value}
use Rattle.shm_lines.proofs.parse_number.front_number.Given as goal

-- what was read is digits, and their value
abbrev pub invariant-digits : goal.invariant-digits
invariant-digits l = (l.value ≡ digits_value 10 (take l.at l.line)) × (l.value < 2 ^ 32) × (list_all is_ascii_digit (take l.at l.line) ≡ true) × All (λ byte. (byte == 32) ≡ false) (take l.at l.line)
