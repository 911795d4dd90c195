-- Names are text.
use Rattle.std.proofs.Common.{◌≡◌, ℕ, ◌<◌, ◌&&◌, Bool, true, false, List, length, nat_lt, refl, arith}
use Rattle.std.specs.Char.{is_ascii_graphic}
use Rattle.std.specs.List.{list_all}
use Rattle.std.specs.Str.{IsUtf8}
use Rattle.std.proofs.lemmas.Bool.Decides.{nat_tests}
use Rattle.std.proofs.lemmas.List.Elements.{All-weaker}
use Rattle.std.proofs.lemmas.List.Sums.{AllPass-from_list_all}
use Rattle.std.proofs.lemmas.Str.{IsUtf8-from_ascii}
use Rattle.std.proofs.lemmas.Str.Ascii.{IsAscii-from_all}
use Rattle.shm_seal.specs.Name.{is_name}

graphic-ascii : (c : ℕ) → is_ascii_graphic c ≡ true → c < 128
graphic-ascii c h = grind (arith, nat_tests)

graphic_is_utf8 : (word : List ℕ) → list_all is_ascii_graphic word ≡ true → IsUtf8 word
graphic_is_utf8 word h =
    IsUtf8-from_ascii word (IsAscii-from_all word (All-weaker (λ c. is_ascii_graphic c ≡ true) (λ c. c < 128) (λ c g. graphic-ascii c g) word (AllPass-from_list_all is_ascii_graphic word h)))

graphic-part : (a b c : Bool) → (a && b && c) ≡ true → c ≡ true
graphic-part true true true h = refl
graphic-part true true false h = absurd (cc)
graphic-part true false c h = absurd (cc)
graphic-part false b c h = absurd (cc)

pub name_is_utf8 : (word : List ℕ) → is_name word ≡ true → IsUtf8 word
name_is_utf8 word h = graphic_is_utf8 word (graphic-part (nat_lt 0 (length word)) (nat_lt (length word) 33) (list_all is_ascii_graphic word) h)
