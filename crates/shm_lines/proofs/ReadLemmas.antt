-- What is read is spelled so: each line by its verb, but those of segment calls.
use Rattle.std.proofs.Common.{◌≡◌, ℕ, ◌&&◌, Bool, true, false, not, List, [], ◌∷◌, Option, None, Some, cond, refl, sym, ap, ap₂, subst, ◌∙◌, arith}
use Rattle.std.specs.Prelude.{codes}
use Rattle.std.specs.Fmt.{decimal}
use Rattle.std.specs.Int.{IsInRange}
use Rattle.std.specs.Str.{bytes_eq}
use Rattle.std.proofs.lemmas.Bool.Decides.{nat_tests}
use Rattle.std.proofs.lemmas.Slice.Eq.{bytes_eq-Decides}
use Rattle.shm_place.specs.Limits.{max_frames, pages}
use Rattle.shm_model.specs.Book.{max_sites}
use Rattle.shm_model.specs.declared.event.Event.TheVariants.{Load, Store, Tick, Restart, Deliver, Repeat, Lose}
use Rattle.shm_lines.proofs.NumberWords.{number}
use Rattle.shm_lines.proofs.OneWord.{byte}
pub use Rattle.shm_lines.proofs.Reading.{onto, onto2}
use Rattle.shm_lines.proofs.Reading.{next_of-is, took, end-is, ended-is, Reads}
use Rattle.shm_lines.proofs.StepLemmas.{step, some-is, cond-some, and-parts}
use Rattle.shm_lines.specs.Words.{◌>>=◌, next_word, next_number, next_named, is_from_1_to, is_end}
use Rattle.shm_lines.specs.Line.{sites_line, sites_of, preset_of, frames_of, load_of, store_of, deliver_of, repeat_of, lose_of, tick_of, restart_of, show_of, back_of}
use Rattle.shm_lines.specs.Spelling.{IsLine, spelled_words}
use Rattle.shm_lines.specs.declared.script_line.Line.{Line}
use Rattle.shm_lines.specs.declared.script_line.Line.TheVariants.{Event, Show, Back}

-- a line, and the words that it was read from
abbrev pub ReadsLine : List (List ℕ) → Line → Type 0
ReadsLine = Reads IsLine spelled_words

next_word-is : (words others : List (List ℕ)) (word : List ℕ) → next_word words ≡ Some (word, others) → words ≡ word ∷ others
next_word-is [] others word h = absurd (cc)
next_word-is (first ∷ rest) others word h = ap (λ (p : List ℕ × List (List ℕ)). p.0 ∷ p.1) (some-is (first, rest) (word, others) h)

from_1 : (most n : ℕ) → is_from_1_to most n ≡ true → IsInRange 1 most n
from_1 most n h = grind (arith, nat_tests)

-- a word that was asked for, and a number
record TookNamed (name : List ℕ) (most : ℕ) (words : List (List ℕ)) (f : ℕ × List (List ℕ) → Option Line) (line : Line) : Type 0 where
  pub value : ℕ
  pub others : List (List ℕ)
  pub are : words ≡ name ∷ decimal value ∷ others
  pub is : IsInRange 1 most value
  pub gives : f (value, others) ≡ Some line

took_named : (name : List ℕ) (most : ℕ) (words : List (List ℕ)) (f : ℕ × List (List ℕ) → Option Line) (line : Line)
    → (next_named name most words >>= f) ≡ Some line → TookNamed name most words f line
took_named name most words f line h =
    let s = step (next_named name most words) f line h in
    let a = step (next_word words) _ s.value s.gave in
    let b = step (next_number a.value.1) _ s.value a.gives in
    let c = cond-some (bytes_eq a.value.0 name && is_from_1_to most b.value.0) (b.value.0, b.value.1) s.value b.gives in
    let t = and-parts (bytes_eq a.value.0 name) (is_from_1_to most b.value.0) c.0 in
    let x = next_word-is words a.value.1 a.value.0 a.gave in
    let y = next_of-is number a.value.1 b.value.1 b.value.0 b.gave in
    let word = (bytes_eq-Decides a.value.0 name).0 t.0 in
    record {
      value = b.value.0;
      others = b.value.1;
      are = x ∙ ap₂ ◌∷◌ word y.0;
      is = from_1 most b.value.0 t.1;
      gives = ap f c.1 ∙ s.gives;
    }

-- ---- the first line

frames-is : (count size : ℕ) (words : List (List ℕ)) (line : Line) → IsInRange 1 max_sites count → IsInRange 1 pages size → frames_of count size words ≡ Some line
    → ReadsLine (codes "sites" ∷ decimal count ∷ codes "preset" ∷ decimal size ∷ words) line
frames-is count size words line n m h =
    let a = took_named (codes "frames") max_frames words _ line h in
    let e = ended-is (sites_line count (Some size) (Some a.value)) line a.others a.gives in
    subst (ReadsLine (codes "sites" ∷ decimal count ∷ codes "preset" ∷ decimal size ∷ words)) e.1 (
      (n, (m, a.is)),
      ap (λ l. codes "sites" ∷ decimal count ∷ codes "preset" ∷ decimal size ∷ l) (a.are ∙ ap (λ l. codes "frames" ∷ decimal a.value ∷ l) e.0),
    )

preset-is : (count : ℕ) (words : List (List ℕ)) (line : Line) → IsInRange 1 max_sites count → preset_of count words ≡ Some line
    → ReadsLine (codes "sites" ∷ decimal count ∷ words) line
preset-is count words line n h =
    let a = took_named (codes "preset") pages words _ line h in
    subst (λ l. ReadsLine (codes "sites" ∷ decimal count ∷ l) line) (sym a.are) (go a.value a.others (is_end a.others) refl a.is a.gives)
  where
    go : (size : ℕ) (others : List (List ℕ)) (end : Bool) → is_end others ≡ end → IsInRange 1 pages size
        → cond end (Some (sites_line count (Some size) None)) (frames_of count size others) ≡ Some line
        → ReadsLine (codes "sites" ∷ decimal count ∷ codes "preset" ∷ decimal size ∷ others) line
    go size others true e m g = subst (ReadsLine (codes "sites" ∷ decimal count ∷ codes "preset" ∷ decimal size ∷ others))
        (some-is (sites_line count (Some size) None) line g)
        ((n, m), ap (λ l. codes "sites" ∷ decimal count ∷ codes "preset" ∷ decimal size ∷ l) (end-is others e))
    go size others false e m g = frames-is count size others line n m g

pub sites-is : (words : List (List ℕ)) (line : Line) → sites_of words ≡ Some line → ReadsLine (codes "sites" ∷ words) line
sites-is words line h =
    let a = took number words _ line h in
    subst (λ l. ReadsLine (codes "sites" ∷ l) line) (sym a.are) (go a.value a.others (is_from_1_to max_sites a.value) (is_end a.others) refl refl a.gives)
  where
    go : (count : ℕ) (others : List (List ℕ)) (some end : Bool) → is_from_1_to max_sites count ≡ some → is_end others ≡ end
        → cond (not some) None (cond end (Some (sites_line count None None)) (preset_of count others)) ≡ Some line
        → ReadsLine (codes "sites" ∷ decimal count ∷ others) line
    go count others false end s e g = absurd (cc)
    go count others true true s e g = subst (ReadsLine (codes "sites" ∷ decimal count ∷ others)) (some-is (sites_line count None None) line g)
        ((from_1 max_sites count s, tt), ap (λ l. codes "sites" ∷ decimal count ∷ l) (end-is others e))
    go count others true false s e g = preset-is count others line (from_1 max_sites count s) g

-- ---- accesses

pub load-is : (words : List (List ℕ)) (line : Line) → load_of words ≡ Some line → ReadsLine (codes "load" ∷ words) line
load-is words line h =
    let a = took number words _ line h in
    let b = took number a.others _ line a.gives in
    let c = took number b.others _ line b.gives in
    let e = ended-is (Event (Load a.value b.value c.value)) line c.others c.gives in
    subst (ReadsLine (codes "load" ∷ words)) e.1 (
      (a.is, b.is, c.is),
      ap (λ l. codes "load" ∷ l) (onto a.are (onto b.are (onto c.are e.0))),
    )

pub store-is : (words : List (List ℕ)) (line : Line) → store_of words ≡ Some line → ReadsLine (codes "store" ∷ words) line
store-is words line h =
    let a = took number words _ line h in
    let b = took number a.others _ line a.gives in
    let c = took number b.others _ line b.gives in
    let d = took byte c.others _ line c.gives in
    let e = ended-is (Event (Store a.value b.value c.value d.value)) line d.others d.gives in
    subst (ReadsLine (codes "store" ∷ words)) e.1 (
      (a.is, b.is, c.is, d.is),
      ap (λ l. codes "store" ∷ l) (onto a.are (onto b.are (onto c.are (onto d.are e.0)))),
    )

-- ---- one number alone, and pages

module _ (words : List (List ℕ)) (line : Line) where
  pub deliver-is : deliver_of words ≡ Some line → ReadsLine (codes "deliver" ∷ words) line
  deliver-is h =
      let a = took number words _ line h in
      let e = ended-is (Event (Deliver a.value)) line a.others a.gives in
      subst (ReadsLine (codes "deliver" ∷ words)) e.1 (a.is, ap (λ l. codes "deliver" ∷ l) (onto a.are e.0))

  pub repeat-is : repeat_of words ≡ Some line → ReadsLine (codes "repeat" ∷ words) line
  repeat-is h =
      let a = took number words _ line h in
      let e = ended-is (Event (Repeat a.value)) line a.others a.gives in
      subst (ReadsLine (codes "repeat" ∷ words)) e.1 (a.is, ap (λ l. codes "repeat" ∷ l) (onto a.are e.0))

  pub lose-is : lose_of words ≡ Some line → ReadsLine (codes "lose" ∷ words) line
  lose-is h =
      let a = took number words _ line h in
      let e = ended-is (Event (Lose a.value)) line a.others a.gives in
      subst (ReadsLine (codes "lose" ∷ words)) e.1 (a.is, ap (λ l. codes "lose" ∷ l) (onto a.are e.0))

  pub tick-is : tick_of words ≡ Some line → ReadsLine (codes "tick" ∷ words) line
  tick-is h =
      let a = took number words _ line h in
      let e = ended-is (Event (Tick a.value)) line a.others a.gives in
      subst (ReadsLine (codes "tick" ∷ words)) e.1 (a.is, ap (λ l. codes "tick" ∷ l) (onto a.are e.0))

  pub restart-is : restart_of words ≡ Some line → ReadsLine (codes "restart" ∷ words) line
  restart-is h =
      let a = took number words _ line h in
      let e = ended-is (Event (Restart a.value)) line a.others a.gives in
      subst (ReadsLine (codes "restart" ∷ words)) e.1 (a.is, ap (λ l. codes "restart" ∷ l) (onto a.are e.0))

  pub back-is : back_of words ≡ Some line → ReadsLine (codes "back" ∷ words) line
  back-is h =
      let a = took number words _ line h in
      let e = ended-is (Back a.value) line a.others a.gives in
      subst (ReadsLine (codes "back" ∷ words)) e.1 (a.is, ap (λ l. codes "back" ∷ l) (onto a.are e.0))

  pub show-is : show_of words ≡ Some line → ReadsLine (codes "show" ∷ words) line
  show-is h =
      let a = took number words _ line h in
      let b = took number a.others _ line a.gives in
      let e = ended-is (Show (record { seg = a.value; index = b.value })) line b.others b.gives in
      subst (ReadsLine (codes "show" ∷ words)) e.1 ((a.is, b.is), ap (λ l. codes "show" ∷ l) (onto a.are (onto b.are e.0)))
