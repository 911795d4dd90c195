-- The texts of books: their words, joined by blanks.
use Rattle.std.proofs.Common.{◌≡◌, ℕ, List, [], ◌∷◌, ◌++◌, map, None, Some, refl, sym, ap, append-nil}
use Rattle.std.specs.Prelude.{codes}
use Rattle.std.specs.Fmt.{decimal}
use Rattle.std.specs.List.{join_with_byte}
use Rattle.shm_model.specs.declared.request_kind.Kind.TheVariants.{Read, Write}
use Rattle.shm_state.specs.BookWords.{book_words, numbers_text}
use Rattle.shm_state.specs.PartOf.{book_in}
use Rattle.shm_state.specs.SetWord.{set_word}
use Rattle.shm_state.specs.declared.part.BookPart.{BookPart}

-- a word, and numbers behind it
numbers_behind : (word : List ℕ) (numbers : List ℕ) → join_with_byte 32 (word ∷ map decimal numbers) ≡ word ++ numbers_text numbers
numbers_behind word [] = sym (append-nil word)
numbers_behind word (n ∷ ns) = rw (numbers_behind (decimal n) ns) refl

-- the text before what runs
abbrev pub before_running : BookPart → List ℕ → List ℕ
before_running book text = decimal book.owner ++ 32 ∷ (set_word book.copies ++ 32 ∷ (decimal book.number ++ text))

pub idle_text : (book : BookPart) → book.running ≡ None
    → before_running book (codes " idle" ++ numbers_text book.served) ≡ join_with_byte 32 (book_words (book_in book))
idle_text book is = rw is (ap (λ text. before_running book (32 ∷ text)) (sym (numbers_behind (codes "idle") book.served)))

pub read_text : (book : BookPart) (requester : ℕ) → book.running ≡ Some (Read, requester)
    → before_running book (codes " read " ++ (decimal requester ++ numbers_text book.served)) ≡ join_with_byte 32 (book_words (book_in book))
read_text book requester is =
    rw is (ap (λ text. before_running book (codes " read " ++ text)) (sym (numbers_behind (decimal requester) book.served)))

pub write_text : (book : BookPart) (requester : ℕ) → book.running ≡ Some (Write, requester)
    → before_running book (codes " write " ++ (decimal requester ++ numbers_text book.served)) ≡ join_with_byte 32 (book_words (book_in book))
write_text book requester is =
    rw is (ap (λ text. before_running book (codes " write " ++ text)) (sym (numbers_behind (decimal requester) book.served)))
