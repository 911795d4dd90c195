-- The words of a hello: what is read is spelled so, what is spelled so is read, and it is no line of the stream.
use Rattle.std.proofs.Common.{◌≡◌, ℕ, Bool, true, false, List, [], ◌∷◌, Option, None, Some, cond, refl, sym, ap, subst, ◌∙◌}
use Rattle.std.specs.Prelude.{codes, ◌<◌, ◌^◌}
use Rattle.std.specs.Fmt.{decimal}
use Rattle.std.specs.List.{join_with_byte}
use Rattle.std.specs.Str.{bytes_eq}
use Rattle.std.proofs.lemmas.List.Splits.{join_with_byte-slice_split}
use Rattle.std.proofs.lemmas.Slice.Eq.{bytes_eq-Decides}
use Rattle.shm_lines.proofs.NumberWords.{number}
use Rattle.shm_lines.proofs.ReadLemmas.{onto}
use Rattle.shm_lines.proofs.Reading.{ended-is}
use Rattle.shm_lines.proofs.StepLemmas.{NoBlanks, NoBlank-test, step, words_of-join}
use Rattle.shm_lines.specs.Words.{◌>>=◌, words_of}
use Rattle.shm_wire.proofs.Reading.{prints, took}
use Rattle.shm_wire.specs.Line.{line_of_words, read_line}
use Rattle.shm_process.specs.Hello.{IsHello, hello_of_words, hello_text, hello_words, numbers_of, past, past_stamp, read_hello}
use Rattle.shm_process.specs.declared.hello_line.Hello.{Hello}

-- ---- what was read

-- a word, and what was read from those after it
record Past {A : Type 0} (name : List ℕ) (words : List (List ℕ)) (f : List (List ℕ) → Option A) (x : A) : Type 0 where
  pub others : List (List ℕ)
  pub are : words ≡ name ∷ others
  pub gives : f others ≡ Some x

took_past : {A : Type 0} (name : List ℕ) (words : List (List ℕ)) (f : List (List ℕ) → Option A) (x : A) → (past name words >>= f) ≡ Some x → Past name words f x
took_past name [] f x h = absurd (cc)
took_past name (word ∷ words) f x h = go (bytes_eq word name) refl h
  where
    go : (b : Bool) → bytes_eq word name ≡ b → (cond b (Some words) None >>= f) ≡ Some x → Past name (word ∷ words) f x
    go true e g = record { others = words; are = ap (λ v. v ∷ words) ((bytes_eq-Decides word name).0 e); gives = g }
    go false e g = absurd (cc)

last_past : (name : List ℕ) (words others : List (List ℕ)) → past name words ≡ Some others → words ≡ name ∷ others
last_past name [] others h = absurd (cc)
last_past name (word ∷ words) others h = go (bytes_eq word name) refl h
  where
    go : (b : Bool) → bytes_eq word name ≡ b → cond b (Some words) None ≡ Some others → word ∷ words ≡ name ∷ others
    go true e g = let same : words ≡ others = cc in ap (λ v. v ∷ words) ((bytes_eq-Decides word name).0 e) ∙ ap (λ l. name ∷ l) same
    go false e g = absurd (cc)

stamp-is : (words others : List (List ℕ)) → past_stamp words ≡ Some others → words ≡ codes "0" ∷ codes "0" ∷ codes "0" ∷ codes "hello" ∷ others
stamp-is words others h =
    let a = took_past (codes "0") words _ others h in
    let b = took_past (codes "0") a.others _ others a.gives in
    let c = took_past (codes "0") b.others _ others b.gives in
    onto a.are (onto b.are (onto c.are (last_past (codes "hello") c.others others c.gives)))

numbers-is : (from to : ℕ) (words : List (List ℕ)) (hello : Hello) → numbers_of from to words ≡ Some hello
    → (words ≡ decimal hello.sites ∷ decimal hello.pages ∷ []) × (hello.sites < 2 ^ 32) × (hello.pages < 2 ^ 32) × (hello.from ≡ from) × (hello.to ≡ to)
numbers-is from to words hello h =
    let s = took number words _ hello h in
    let p = took number s.others _ hello s.gives in
    let made : Hello = record { from = from; to = to; sites = s.value; pages = p.value } in
    let d = ended-is made hello p.others p.gives in
    subst (λ (x : Hello). (words ≡ decimal x.sites ∷ decimal x.pages ∷ []) × (x.sites < 2 ^ 32) × (x.pages < 2 ^ 32) × (x.from ≡ from) × (x.to ≡ to)) d.1
    (onto s.are (onto p.are d.0), s.is, p.is, refl, refl)

-- the words of the line
words-are : (line : List ℕ) (hello : Hello) → read_hello line ≡ Some hello → IsHello hello × (words_of line ≡ hello_words hello)
words-are line hello h =
    let e = took_past (codes "env") (words_of line) _ hello h in
    let f = took number e.others _ hello e.gives in
    let t = took number f.others _ hello f.gives in
    let s = step (past_stamp t.others) (numbers_of f.value t.value) hello t.gives in
    let n = numbers-is f.value t.value s.value hello s.gives in
    let from : f.value ≡ hello.from = sym n.3 in
    let to : t.value ≡ hello.to = sym n.4 in (
      (subst (λ x. x < 2 ^ 32) from f.is, subst (λ x. x < 2 ^ 32) to t.is, n.1, n.2),
      onto e.are (onto (f.are ∙ ap (λ x. decimal x ∷ f.others) from) (onto (t.are ∙ ap (λ x. decimal x ∷ t.others) to)
          (stamp-is t.others s.value s.gave ∙ ap (λ l. codes "0" ∷ codes "0" ∷ codes "0" ∷ codes "hello" ∷ l) n.0))),
    )

pub hello_is_spelled : (line : List ℕ) (hello : Hello) → read_hello line ≡ Some hello → IsHello hello × (line ≡ hello_text hello)
hello_is_spelled line hello h =
    let w = words-are line hello h in
    (w.0, sym (join_with_byte-slice_split 32 line) ∙ ap (join_with_byte 32) w.1)

-- ---- what is spelled so

unparted : (hello : Hello) → IsHello hello
    → NoBlanks (decimal hello.from ∷ decimal hello.to ∷ codes "0" ∷ codes "0" ∷ codes "0" ∷ codes "hello" ∷ decimal hello.sites ∷ decimal hello.pages ∷ [])
unparted hello h =
    let zero = NoBlank-test (codes "0") refl in (
      number.unparted hello.from h.0,
      (number.unparted hello.to h.1, (zero, (zero, (zero, (NoBlank-test (codes "hello") refl, (number.unparted hello.sites h.2, (number.unparted hello.pages h.3, tt))))))),
    )

pub hello_is_read : (hello : Hello) → IsHello hello → read_hello (hello_text hello) ≡ Some hello
hello_is_read hello h =
    let last = decimal hello.pages ∷ [] in
    let behind = codes "0" ∷ codes "0" ∷ codes "0" ∷ codes "hello" ∷ decimal hello.sites ∷ last in
    ap hello_of_words (words_of-join (codes "env") (decimal hello.from ∷ decimal hello.to ∷ behind) (NoBlank-test (codes "env") refl) (unparted hello h))
    ∙ rw (prints number hello.from (decimal hello.to ∷ behind) h.0, prints number hello.to behind h.1, prints number hello.sites last h.2, prints number hello.pages [] h.3) refl

-- ---- it is no line of the stream

pub hello_is_no_line : (line : List ℕ) (hello : Hello) → read_hello line ≡ Some hello → read_line line ≡ None
hello_is_no_line line hello h =
    let w = words-are line hello h in
    let last = decimal hello.sites ∷ decimal hello.pages ∷ [] in
    let behind = codes "0" ∷ codes "0" ∷ codes "0" ∷ codes "hello" ∷ last in
    ap line_of_words w.1 ∙ rw (prints number hello.from (decimal hello.to ∷ behind) w.0.0, prints number hello.to behind w.0.1) refl
