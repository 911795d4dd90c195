-- Words that were read, one after another; and words that are read as they were printed.
use Rattle.std.proofs.Common.{◌≡◌, ℕ, Bool, true, false, List, [], ◌∷◌, Option, None, Some, cond, refl, sym, ap, ap₂, subst, ◌∙◌}
use Rattle.std.specs.Prelude.{⊤}
use Rattle.std.specs.Fmt.{decimal}
use Rattle.std.specs.Str.{bytes_eq}
use Rattle.std.proofs.lemmas.Slice.Eq.{bytes_eq-Decides}
use Rattle.shm_model.specs.declared.call.Cred.{Cred}
use Rattle.shm_lines.proofs.NumberWords.{IsPrinter, number}
use Rattle.shm_lines.proofs.StepLemmas.{step, step-is, some-is, cond-some, NoBlanks}
use Rattle.shm_lines.specs.Words.{◌>>=◌, IsCred, next_word, next_of, next_cred, is_end, Verbs, by_verb, nothing, ended}

-- a word, or two, before others
pub onto : {word : List ℕ} {words first others : List (List ℕ)} → first ≡ word ∷ words → words ≡ others → first ≡ word ∷ others
onto {word} e h = e ∙ ap (λ l. word ∷ l) h

pub onto2 : {one two : List ℕ} {words first others : List (List ℕ)} → first ≡ one ∷ two ∷ words → words ≡ others → first ≡ one ∷ two ∷ others
onto2 {one} {two} e h = e ∙ ap (λ l. one ∷ two ∷ l) h

pub next_of-is : {A : Type 0} {read : List ℕ → Option A} {Is : A → Type 0} {print : A → List ℕ} (p : IsPrinter read Is print)
    (words others : List (List ℕ)) (x : A) → next_of read words ≡ Some (x, others) → (words ≡ print x ∷ others) × Is x
next_of-is p [] others x h = absurd (cc)
next_of-is {read} p (word ∷ words) others x h =
    let s = step (read word) (λ y. Some (y, words)) (x, others) h in
    let pair : (s.value, words) ≡ (x, others) = some-is (s.value, words) (x, others) s.gives in
    let value : s.value ≡ x = ap (λ q. q.0) pair in
    let rest : words ≡ others = ap (λ q. q.1) pair in
    let w = p.reads word x (s.gave ∙ ap Some value) in
    (ap₂ ◌∷◌ w.0 rest, w.1)

-- what was read from the first word, and how it goes on with the others
pub record Took {A B : Type 0} (Is : A → Type 0) (print : A → List ℕ) (words : List (List ℕ)) (f : A × List (List ℕ) → Option B) (y : B) : Type 0 where
  pub value : A
  pub others : List (List ℕ)
  pub are : words ≡ print value ∷ others
  pub is : Is value
  pub gives : f (value, others) ≡ Some y

pub took : {A B : Type 0} {read : List ℕ → Option A} {Is : A → Type 0} {print : A → List ℕ} (p : IsPrinter read Is print)
    (words : List (List ℕ)) (f : A × List (List ℕ) → Option B) (y : B) → (next_of read words >>= f) ≡ Some y → Took Is print words f y
took {read} p words f y h =
    let s = step (next_of read words) f y h in
    let w = next_of-is p words s.value.1 s.value.0 s.gave in
    record { value = s.value.0; others = s.value.1; are = w.0; is = w.1; gives = s.gives }

-- a user and its group
pub record TookCred {B : Type 0} (words : List (List ℕ)) (f : Cred × List (List ℕ) → Option B) (y : B) : Type 0 where
  pub value : Cred
  pub others : List (List ℕ)
  pub are : words ≡ decimal value.uid ∷ decimal value.gid ∷ others
  pub is : IsCred value
  pub gives : f (value, others) ≡ Some y

pub took_cred : {B : Type 0} (words : List (List ℕ)) (f : Cred × List (List ℕ) → Option B) (y : B) → (next_cred words >>= f) ≡ Some y → TookCred words f y
took_cred words f y h =
    let s = step (next_cred words) f y h in
    let a = took number words _ s.value s.gave in
    let b = took number a.others _ s.value a.gives in
    let pair = some-is (record { uid = a.value; gid = b.value }, b.others) s.value b.gives in
    record {
      value = record { uid = a.value; gid = b.value };
      others = b.others;
      are = onto a.are b.are;
      is = (a.is, b.is);
      gives = ap f pair ∙ s.gives;
    }

pub end-is : (words : List (List ℕ)) → is_end words ≡ true → words ≡ []
end-is [] h = refl
end-is (word ∷ words) h = absurd (cc)

pub ended-is : {A : Type 0} (made x : A) (words : List (List ℕ)) → ended made words ≡ Some x → (words ≡ []) × (made ≡ x)
ended-is made x words h =
    let c = cond-some (is_end words) made x h in
    (end-is words c.0, c.1)

-- a test before something that was read
pub cond-of : {A : Type 0} (b : Bool) (o : Option A) (x : A) → cond b o None ≡ Some x → (b ≡ true) × (o ≡ Some x)
cond-of true o x h = (refl, h)
cond-of false o x h = absurd (cc)

-- ---- words that are read as they were printed

pub prints : {A : Type 0} {read : List ℕ → Option A} {Is : A → Type 0} {print : A → List ℕ} (p : IsPrinter read Is print)
    (x : A) (words : List (List ℕ)) → Is x → next_of read (print x ∷ words) ≡ Some (x, words)
prints {read} p x words h = step-is (read _) (λ y. Some (y, words)) x (p.prints x h)

pub prints_cred : (cred : Cred) (words : List (List ℕ)) → IsCred cred → next_cred (decimal cred.uid ∷ decimal cred.gid ∷ words) ≡ Some (cred, words)
prints_cred cred words h = rw (prints number cred.uid (decimal cred.gid ∷ words) h.0, prints number cred.gid words h.1) refl

pub unparted_cred : (cred : Cred) (words : List (List ℕ)) → IsCred cred → NoBlanks words → NoBlanks (decimal cred.uid ∷ decimal cred.gid ∷ words)
unparted_cred cred words c h = (number.unparted cred.uid c.0, (number.unparted cred.gid c.1, h))

-- the words have no blanks, and are read as what they spell
pub record Spelled {A : Type 0} (read : List (List ℕ) → Option A) (words : List (List ℕ)) (x : A) : Type 0 where
  pub unparted : NoBlanks words
  pub back : read words ≡ Some x

-- ---- tables of verbs

-- a value, and the words that it was read from
abbrev pub Reads : {A : Type 0} → (A → Type 0) → (A → List (List ℕ)) → List (List ℕ) → A → Type 0
Reads Is print words x = Is x × (words ≡ print x)

-- what the words after a verb give is spelled as they were read
abbrev pub SoundWords : {A : Type 0} → (A → Type 0) → (A → List (List ℕ)) → List ℕ → (List (List ℕ) → Option A) → Type 0
SoundWords {A} Is print verb says = (words : List (List ℕ)) (x : A) → says words ≡ Some x → Reads Is print (verb ∷ words) x

abbrev pub Sound : {A : Type 0} → (A → Type 0) → (A → List (List ℕ)) → Verbs A → Type 0
Sound Is print [] = ⊤
Sound Is print ((verb, says) ∷ rest) = SoundWords Is print verb says × Sound Is print rest

-- the same of whatever the verb is
abbrev pub SoundReader : {A : Type 0} → (A → Type 0) → (A → List (List ℕ)) → (List ℕ → List (List ℕ) → Option A) → Type 0
SoundReader Is print read = (word : List ℕ) → SoundWords Is print word (read word)

pub nothing-is : {A : Type 0} (Is : A → Type 0) (print : A → List (List ℕ)) → SoundReader Is print nothing
nothing-is Is print word words x h = absurd (cc)

pub by_verb-is : {A : Type 0} (Is : A → Type 0) (print : A → List (List ℕ)) (table : Verbs A) (other : List ℕ → List (List ℕ) → Option A)
    → Sound Is print table → SoundReader Is print other → SoundReader Is print (by_verb table other)
by_verb-is Is print [] other sound rests word words x h = rests word words x h
by_verb-is Is print ((verb, says) ∷ rest) other sound rests word words x h = go (bytes_eq word verb) refl (by_verb-is Is print rest other sound.1 rests word words x) h
  where
    go : (b : Bool) → bytes_eq word verb ≡ b → (by_verb rest other word words ≡ Some x → Reads Is print (word ∷ words) x)
        → cond b (says words) (by_verb rest other word words) ≡ Some x → Reads Is print (word ∷ words) x
    go true e more g = subst (λ v. Reads Is print (v ∷ words) x) (sym ((bytes_eq-Decides word verb).0 e)) (sound.0 words x g)
    go false e more g = more g

-- a verb first, and then what follows it
pub verb-is : {A : Type 0} (Is : A → Type 0) (print : A → List (List ℕ)) (read : List ℕ → List (List ℕ) → Option A) → SoundReader Is print read
    → (words : List (List ℕ)) (x : A) → (next_word words >>= λ p. read p.0 p.1) ≡ Some x → Reads Is print words x
verb-is Is print read sound [] x h = absurd (cc)
verb-is Is print read sound (word ∷ words) x h = sound word words x h
