-- What single words stand for, beside those that a script has: names from a table.
use Rattle.std.specs.Prelude.{ℕ, Bool, true, false, if◌then◌else◌, List, [], ◌∷◌, codes, Option, None, Some}
use Rattle.std.specs.Str.{bytes_eq}
use Rattle.shm_model.specs.declared.call.Errno.{Errno}
use Rattle.shm_model.specs.declared.call.Errno.TheVariants.{Eacces, Eexist, Eidrm, Einval, Enoent, Enospc, Eperm}
use Rattle.shm_model.specs.declared.request_kind.Kind.{Kind}
use Rattle.shm_model.specs.declared.request_kind.Kind.TheVariants.{Read, Write}
pub use Rattle.shm_lines.specs.Words.{Verbs, by_verb, ended, nothing}

-- names, and what each stands for
abbrev pub Names : Type 0 → Type 0
Names A = List (List ℕ × A)

abbrev pub by_name : {A : Type 0} → Names A → List ℕ → Option A
by_name [] word = None
by_name ((name, x) ∷ rest) word = if bytes_eq word name then Some x else by_name rest word

abbrev pub kind_word : Kind → List ℕ
kind_word Read = codes "read"
kind_word Write = codes "write"

abbrev pub kinds : Names Kind
kinds = (codes "read", Read) ∷ (codes "write", Write) ∷ []

abbrev pub kind_of : List ℕ → Option Kind
kind_of = by_name kinds

-- whether a segment is marked to be destroyed
abbrev pub standing_word : Bool → List ℕ
standing_word true = codes "marked"
standing_word false = codes "live"

abbrev pub standings : Names Bool
standings = (codes "marked", true) ∷ (codes "live", false) ∷ []

abbrev pub standing_of : List ℕ → Option Bool
standing_of = by_name standings

abbrev pub errno_word : Errno → List ℕ
errno_word Eacces = codes "eacces"
errno_word Eexist = codes "eexist"
errno_word Eidrm = codes "eidrm"
errno_word Einval = codes "einval"
errno_word Enoent = codes "enoent"
errno_word Enospc = codes "enospc"
errno_word Eperm = codes "eperm"

abbrev pub errnos : Names Errno
errnos =
    (codes "eacces", Eacces) ∷ (codes "eexist", Eexist) ∷ (codes "eidrm", Eidrm) ∷ (codes "einval", Einval)
    ∷ (codes "enoent", Enoent) ∷ (codes "enospc", Enospc) ∷ (codes "eperm", Eperm) ∷ []

abbrev pub errno_of : List ℕ → Option Errno
errno_of = by_name errnos
