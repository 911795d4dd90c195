use Rattle.std.proofs.Common.{◌≡◌, ◌<◌, ◌^◌, true, take}
use Rattle.std.specs.Char.{is_ascii_digit}
use Rattle.std.specs.List.{list_all}
use Rattle.std.specs.Str.Parse.{digits_value}
use Rattle.shm_lines.proofs.parse_number.value_of.Given as goal

abbrev pub invariant-digits : goal.invariant-digits
invariant-digits l = (l.value ≡ digits_value 10 (take l.byte-index l.word)) × (l.value < 2 ^ 64) × (list_all is_ascii_digit (take l.byte-index l.word) ≡ true)
