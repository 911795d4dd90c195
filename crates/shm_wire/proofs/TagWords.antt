-- Tags: what is read is spelled so, and what is spelled so is read.
use Rattle.std.proofs.Common.{◌≡◌, ℕ, ◌<◌, ◌==◌, ◌&&◌, Bool, true, false, List, length, None, Some, cond, nat_lt, refl, ap, subst, arith}
use Rattle.std.specs.Char.{is_ascii_graphic}
use Rattle.std.specs.List.{list_all}
use Rattle.std.specs.Str.{IsUtf8}
use Rattle.std.proofs.lemmas.Bool.Decides.{nat_tests}
use Rattle.std.proofs.lemmas.List.Elements.{All-weaker}
use Rattle.std.proofs.lemmas.List.Sums.{AllPass-from_list_all}
use Rattle.std.proofs.lemmas.Str.{IsUtf8-from_ascii}
use Rattle.std.proofs.lemmas.Str.Ascii.{IsAscii-from_all}
use Rattle.shm_lines.proofs.NumberWords.{IsPrinter}
use Rattle.shm_lines.proofs.StepLemmas.{cond-some}
use Rattle.shm_wire.specs.Tag.{IsTag, is_tag, tag_of}

graphic-range : (c : ℕ) → is_ascii_graphic c ≡ true → (c < 128) × ((c == 32) ≡ false)
graphic-range c h = grind (arith, nat_tests)

graphic_is_utf8 : (word : List ℕ) → list_all is_ascii_graphic word ≡ true → IsUtf8 word
graphic_is_utf8 word h =
    IsUtf8-from_ascii word (IsAscii-from_all word (All-weaker (λ c. is_ascii_graphic c ≡ true) (λ c. c < 128) (λ c g. (graphic-range c g).0) word (AllPass-from_list_all is_ascii_graphic word h)))

graphic-part : (a b c : Bool) → (a && b && c) ≡ true → c ≡ true
graphic-part true true true h = refl
graphic-part true true false h = absurd (cc)
graphic-part true false c h = absurd (cc)
graphic-part false b c h = absurd (cc)

pub tag_is_utf8 : (word : List ℕ) → is_tag word ≡ true → IsUtf8 word
tag_is_utf8 word h = graphic_is_utf8 word (graphic-part (nat_lt 0 (length word)) (nat_lt (length word) 33) (list_all is_ascii_graphic word) h)

pub tag : IsPrinter tag_of IsTag (λ word. word)
tag = record {
  reads = λ word t h. let c = cond-some (is_tag word) word t h in (c.1, subst IsTag c.1 c.0);
  prints = λ t h. ap (λ b. cond b (Some t) None) h;
  unparted = λ t h. All-weaker (λ c. is_ascii_graphic c ≡ true) (λ c. (c == 32) ≡ false) (λ c g. (graphic-range c g).1) t
      (AllPass-from_list_all is_ascii_graphic t (graphic-part (nat_lt 0 (length t)) (nat_lt (length t) 33) (list_all is_ascii_graphic t) h));
}
