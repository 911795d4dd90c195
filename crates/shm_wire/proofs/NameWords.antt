-- Names from a table: a word that is read is the name of what it stands for.
use Rattle.std.proofs.Common.{◌≡◌, ℕ, Bool, true, false, List, [], ◌∷◌, Some, cond, refl, ap, ◌∙◌}
use Rattle.std.specs.Prelude.{codes, ⊤}
use Rattle.std.specs.Str.{bytes_eq}
use Rattle.std.proofs.lemmas.Slice.Eq.{bytes_eq-Decides}
use Rattle.shm_model.specs.declared.call.Errno.{Errno}
use Rattle.shm_model.specs.declared.call.Errno.TheVariants.{Eacces, Eexist, Eidrm, Einval, Enoent, Enospc, Eperm}
use Rattle.shm_model.specs.declared.request_kind.Kind.{Kind}
use Rattle.shm_model.specs.declared.request_kind.Kind.TheVariants.{Read, Write}
use Rattle.shm_lines.proofs.NumberWords.{IsPrinter}
use Rattle.shm_lines.proofs.StepLemmas.{some-is, NoBlank, NoBlank-test}
use Rattle.shm_wire.specs.Words.{Names, by_name, kinds, kind_of, kind_word, standings, standing_of, standing_word, errnos, errno_of, errno_word}

-- each name of the table is that of what it stands for
abbrev pub Tells : {A : Type 0} → (A → List ℕ) → Names A → Type 0
Tells name [] = ⊤
Tells name ((word, x) ∷ rest) = (word ≡ name x) × Tells name rest

pub named-is : {A : Type 0} (name : A → List ℕ) (table : Names A) → Tells name table → (word : List ℕ) (x : A) → by_name table word ≡ Some x → word ≡ name x
named-is name [] tells word x h = absurd (cc)
named-is name ((first, y) ∷ rest) tells word x h = go (bytes_eq word first) refl (named-is name rest tells.1 word x) h
  where
    go : (b : Bool) → bytes_eq word first ≡ b → (by_name rest word ≡ Some x → word ≡ name x) → cond b (Some y) (by_name rest word) ≡ Some x → word ≡ name x
    go true e more g = (bytes_eq-Decides word first).0 e ∙ tells.0 ∙ ap name (some-is y x g)
    go false e more g = more g

kind_of-word : (kind : Kind) → (kind_of (kind_word kind) ≡ Some kind) × NoBlank (kind_word kind)
kind_of-word Read = (refl, NoBlank-test (codes "read") refl)
kind_of-word Write = (refl, NoBlank-test (codes "write") refl)

pub kind : IsPrinter kind_of (λ kind. ⊤) kind_word
kind = record {
  reads = λ word x h. (named-is kind_word kinds (refl, (refl, tt)) word x h, tt);
  prints = λ x h. (kind_of-word x).0;
  unparted = λ x h. (kind_of-word x).1;
}

standing_of-word : (marked : Bool) → (standing_of (standing_word marked) ≡ Some marked) × NoBlank (standing_word marked)
standing_of-word true = (refl, NoBlank-test (codes "marked") refl)
standing_of-word false = (refl, NoBlank-test (codes "live") refl)

pub standing : IsPrinter standing_of (λ marked. ⊤) standing_word
standing = record {
  reads = λ word x h. (named-is standing_word standings (refl, (refl, tt)) word x h, tt);
  prints = λ x h. (standing_of-word x).0;
  unparted = λ x h. (standing_of-word x).1;
}

errno_of-word : (errno : Errno) → (errno_of (errno_word errno) ≡ Some errno) × NoBlank (errno_word errno)
errno_of-word Eacces = (refl, NoBlank-test (codes "eacces") refl)
errno_of-word Eexist = (refl, NoBlank-test (codes "eexist") refl)
errno_of-word Eidrm = (refl, NoBlank-test (codes "eidrm") refl)
errno_of-word Einval = (refl, NoBlank-test (codes "einval") refl)
errno_of-word Enoent = (refl, NoBlank-test (codes "enoent") refl)
errno_of-word Enospc = (refl, NoBlank-test (codes "enospc") refl)
errno_of-word Eperm = (refl, NoBlank-test (codes "eperm") refl)

pub errno : IsPrinter errno_of (λ errno. ⊤) errno_word
errno = record {
  reads = λ word x h. (named-is errno_word errnos (refl, (refl, (refl, (refl, (refl, (refl, (refl, tt))))))) word x h, tt);
  prints = λ x h. (errno_of-word x).0;
  unparted = λ x h. (errno_of-word x).1;
}
