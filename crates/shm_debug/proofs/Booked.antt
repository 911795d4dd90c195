-- The text of a book, from its parts in a row.
use Rattle.std.proofs.Common.{◌≡◌, ◌∙◌, ℕ, Bool, List, ◌++◌, ap, refl, append_assoc, codes, Result, Ok, Err, OnOk}
use Rattle.std.specs.Fmt.{decimal}
use Rattle.shm_model.specs.Book.{Book}
use Rattle.shm_debug.specs.Page.{book_text, copies_text, running_text}

in_a_row : (o a d b x t n r : List ℕ) → (((o ++ (a ++ (d ++ b))) ++ x) ++ (t ++ n)) ++ r ≡ o ++ (a ++ (d ++ (b ++ (x ++ (t ++ (n ++ r))))))
in_a_row o a d b x t n r = simp append_assoc refl

pub book_told : (book : Book) (old first second third new : List ℕ) (owner number : ℕ) (copies : ℕ → Bool) → owner ≡ book.owner → copies ≡ book.copies → number ≡ book.number
    → first ≡ old ++ (codes " owner " ++ (decimal owner ++ codes " copies ")) → second ≡ first ++ copies_text copies
    → third ≡ second ++ (codes " t " ++ decimal number) → new ≡ third ++ running_text book.running → new ≡ old ++ book_text book
book_told book old first second third new owner number copies o c n e f g h =
    let r = running_text book.running in
    h ∙ ap (λ s. s ++ r) g
    ∙ ap (λ s. (s ++ (codes " t " ++ decimal number)) ++ r) f
    ∙ ap (λ s. ((s ++ copies_text copies) ++ (codes " t " ++ decimal number)) ++ r) e
    ∙ in_a_row old (codes " owner ") (decimal owner) (codes " copies ") (copies_text copies) (codes " t ") (decimal number) r
    ∙ ap (λ m. old ++ (codes " owner " ++ (decimal m ++ (codes " copies " ++ (copies_text copies ++ (codes " t " ++ (decimal number ++ r))))))) o
    ∙ ap (λ m. old ++ (codes " owner " ++ (decimal book.owner ++ (codes " copies " ++ (copies_text m ++ (codes " t " ++ (decimal number ++ r))))))) c
    ∙ ap (λ m. old ++ (codes " owner " ++ (decimal book.owner ++ (codes " copies " ++ (copies_text book.copies ++ (codes " t " ++ (decimal m ++ r))))))) n

pub on_ok-then : {X Y P Q : Type 0} (r : Result X Y) → (P → Q) → OnOk r P → OnOk r Q
on_ok-then (Ok x) f h = f h
on_ok-then (Err y) f h = tt
