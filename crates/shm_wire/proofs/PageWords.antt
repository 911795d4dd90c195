-- A page's bytes as a word.
use Rattle.std.proofs.Common.{◌≡◌, ℕ, ◌==◌, true, List, length, None, Some, cond, ap, subst, ◌∙◌, arith}
use Rattle.std.proofs.lemmas.Bool.Decides.{nat_tests}
use Rattle.shm_place.specs.Limits.{page_bytes}
use Rattle.shm_lines.proofs.NumberWords.{IsPrinter}
use Rattle.shm_lines.proofs.StepLemmas.{cond-some, step, step-is}
use Rattle.shm_wire.proofs.BytesWords.{base64}
use Rattle.shm_wire.specs.BytesWord.{bytes_of, bytes_word}
use Rattle.shm_wire.specs.PageWord.{IsPage, page_bytes_of}

length-is : (bytes : List ℕ) → (length bytes == page_bytes) ≡ true → length bytes ≡ page_bytes
length-is bytes h = grind (arith, nat_tests)

is-length : (bytes : List ℕ) → length bytes ≡ page_bytes → (length bytes == page_bytes) ≡ true
is-length bytes h = grind (arith, nat_tests)

page-is : (word page : List ℕ) → page_bytes_of word ≡ Some page → (word ≡ bytes_word page) × IsPage page
page-is word page h =
    let s = step (bytes_of word) _ page h in
    let c = cond-some (length s.value == page_bytes) s.value page s.gives in
    let w = base64.reads word s.value s.gave in
    subst (λ p. (word ≡ bytes_word p) × IsPage p) c.1 (w.0, (length-is s.value c.0, w.1))

page-read : (page : List ℕ) → IsPage page → page_bytes_of (bytes_word page) ≡ Some page
page-read page h =
    step-is (bytes_of (bytes_word page)) (λ b. cond (length b == page_bytes) (Some b) None) page (base64.prints page h.1)
    ∙ ap (λ b. cond b (Some page) None) (is-length page h.0)

pub page : IsPrinter page_bytes_of IsPage bytes_word
page = record {
  reads = page-is;
  prints = page-read;
  unparted = λ page h. base64.unparted page h.1;
}
