-- A part that is none of a site's calls is looked for among those of its pages.
use Rattle.std.proofs.Common.{◌≡◌, ℕ, false, List, refl}
use Rattle.std.specs.Prelude.{codes}
use Rattle.std.specs.Str.{bytes_eq}
use Rattle.shm_state.specs.PartWords.{pages_of, plain_of}

pub plain-others : (verb : List ℕ) (words : List (List ℕ)) → bytes_eq verb (codes "requests") ≡ false → bytes_eq verb (codes "calls") ≡ false
    → bytes_eq verb (codes "outstanding") ≡ false → bytes_eq verb (codes "segment") ≡ false → bytes_eq verb (codes "missing") ≡ false
    → bytes_eq verb (codes "kept") ≡ false → plain_of verb words ≡ pages_of verb words
plain-others verb words requests calls outstanding segment missing kept = rw (requests, calls, outstanding, segment, missing, kept) refl
