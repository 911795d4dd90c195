-- What a restart leaves of a page's book: what is read is spelled so, and what is spelled so is read.
use Rattle.std.proofs.Common.{◌≡◌, ℕ, Bool, true, false, List, [], ◌∷◌, ◌++◌, map, Option, None, Some, cond, refl, ap, ap₂, subst, ◌∙◌, append-nil}
use Rattle.std.specs.Prelude.{codes}
use Rattle.std.specs.Fmt.{decimal}
use Rattle.std.specs.Str.{bytes_eq}
use Rattle.std.proofs.lemmas.Slice.Eq.{bytes_eq-Decides}
use Rattle.shm_model.specs.Book.{Running}
use Rattle.shm_lines.proofs.NumberWords.{number, wide}
use Rattle.shm_lines.proofs.ReadLemmas.{onto}
use Rattle.shm_lines.proofs.StepLemmas.{NoBlank-test, NoBlanks, some-is, step}
use Rattle.shm_wire.proofs.NameWords.{kind}
use Rattle.shm_wire.proofs.Reading.{Reads, Spelled, ended-is, prints, took}
use Rattle.shm_lines.specs.Spelling.{IsNumber}
use Rattle.shm_model.specs.declared.request_kind.Kind.{Kind}
use Rattle.shm_model.specs.declared.request_kind.Kind.TheVariants.{Read, Write}
use Rattle.shm_wire.specs.Words.{kind_of, kind_word}
use Rattle.shm_state.proofs.ServedWords.{numbers-are, numbers-unparted, served-read}
use Rattle.shm_state.proofs.SetWords.{set}
use Rattle.shm_state.specs.BookWords.{IsBook, IsRunning, book_of, book_words, next_run, next_running, next_served, running_words}
use Rattle.shm_state.specs.Part.{BookPart}
use Rattle.shm_state.specs.SetWord.{set_word}

abbrev Next : Type 0
Next = Option Running × List (List ℕ)

-- what runs, and the words that it was read from
abbrev ReadsRunning : List (List ℕ) → Next → Type 0
ReadsRunning words next = (words ≡ running_words next.0 next.1) × IsRunning next.0

-- ---- what is read

run-is : (word : List ℕ) (words : List (List ℕ)) (next : Next) → next_run word words ≡ Some next → ReadsRunning (word ∷ words) next
run-is word words next h =
    let k = step (kind_of word) _ next h in
    let n = took number words _ next k.gives in
    let made : Next = (Some (record { kind = k.value; requester = n.value }), n.others) in
    subst (ReadsRunning (word ∷ words)) (some-is made next n.gives) (ap₂ ◌∷◌ (kind.reads word k.value k.gave).0 n.are, n.is)

running-cases : (word : List ℕ) (words : List (List ℕ)) (next : Next) (idle : Bool) → bytes_eq word (codes "idle") ≡ idle
    → cond idle (Some (None, words)) (next_run word words) ≡ Some next → ReadsRunning (word ∷ words) next
running-cases word words next true p h =
    let none : Next = (None, words) in
    subst (ReadsRunning (word ∷ words)) (some-is none next h) (ap (λ w. w ∷ words) ((bytes_eq-Decides word (codes "idle")).0 p), tt)
running-cases word words next false p h = run-is word words next h

running-is : (words : List (List ℕ)) (next : Next) → next_running words ≡ Some next → ReadsRunning words next
running-is [] next h = absurd (cc)
running-is (word ∷ words) next h = running-cases word words next (bytes_eq word (codes "idle")) refl h

pub book-is : (words : List (List ℕ)) (book : BookPart) → book_of words ≡ Some book → Reads IsBook book_words words book
book-is words book h =
    let o = took number words _ book h in
    let c = took set o.others _ book o.gives in
    let n = took wide c.others _ book c.gives in
    let r = step (next_running n.others) _ book n.gives in
    let ran = running-is n.others r.value r.gave in
    let s = step (next_served r.value.1) _ book r.gives in
    let all = numbers-are 16 r.value.1 s.value.0 s.value.1 s.gave in
    let made : BookPart = record { owner = o.value; copies = c.value; number = n.value; running = r.value.0; served = s.value.0 } in
    let e = ended-is made book s.value.1 s.gives in
    let last : r.value.1 ≡ map decimal s.value.0 = all.are ∙ ap (λ l. map decimal s.value.0 ++ l) e.0 ∙ append-nil (map decimal s.value.0) in
    subst (Reads IsBook book_words words) e.1
    ((o.is, c.is, n.is, ran.1, (all.many, all.each)), onto o.are (onto c.are (onto n.are (ran.0 ∙ ap (running_words r.value.0) last))))

-- ---- what is spelled

run-read : (kind : Kind) (requester : ℕ) (words : List (List ℕ)) → IsNumber requester
    → next_running (kind_word kind ∷ decimal requester ∷ words) ≡ Some (Some (record { kind = kind; requester = requester }), words)
run-read Read requester words h = rw (prints number requester words h) refl
run-read Write requester words h = rw (prints number requester words h) refl

prints_running : (running : Option Running) (words : List (List ℕ)) → IsRunning running → next_running (running_words running words) ≡ Some (running, words)
prints_running None words h = refl
prints_running (Some run) words h = run-read run.kind run.requester words h

unparted_running : (running : Option Running) (words : List (List ℕ)) → IsRunning running → NoBlanks words → NoBlanks (running_words running words)
unparted_running None words h others = (NoBlank-test (codes "idle") refl, others)
unparted_running (Some run) words h others = (kind.unparted run.kind tt, (number.unparted run.requester h, others))

pub book-spelled : (book : BookPart) → IsBook book → Spelled book_of (book_words book) book
book-spelled book h =
    let served = map decimal book.served in
    let last = running_words book.running served in
    record {
      unparted = (
        number.unparted book.owner h.0,
        (set.unparted book.copies h.1, (wide.unparted book.number h.2, unparted_running book.running served h.3 (numbers-unparted book.served h.4.1))),
      );
      back = rw (
        prints number book.owner (set_word book.copies ∷ decimal book.number ∷ last) h.0,
        prints set book.copies (decimal book.number ∷ last) h.1,
        prints wide book.number last h.2,
        prints_running book.running served h.3,
        served-read book.served h.4,
      ) refl;
    }
