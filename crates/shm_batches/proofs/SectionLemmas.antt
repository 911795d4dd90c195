-- What is read behind lines.
use Rattle.std.proofs.Common.{◌≡◌, ℕ, ◌≤◌, true, false, List, [], ◌∷◌, ◌++◌, length, take, drop, ap, sym, subst, ◌∙◌, append_assoc, arith}
use Rattle.std.specs.Io.{StartsWith, StopsAt, appended_bytes}
use Rattle.std.proofs.KnownBytes.{starts_with_rest}
use Rattle.std.proofs.lemmas.List.{drop-append-le, length-append, take-append-drop, take-append-le, take_all}
use Rattle.std.proofs.Math.Seq.{drop-append_seam, take-append_seam}
use Rattle.shm_batches.proofs.UnmarkedLemmas.{ended-line, front_of, one-more}
use Rattle.shm_batches.specs.UnmarkedLine.{IsOneLine, is_ended}

-- ---- a text that has grown

pub lines-grown : (old new : List ℕ) (at : ℕ) → at ≤ length old → StartsWith new old → take at new ≡ take at old
lines-grown old new at h grown = ap (take at) (starts_with_rest new old grown) ∙ take-append-le at old (appended_bytes old new) h

pub open-grown : (old new : List ℕ) (at : ℕ) → at ≤ length old → StartsWith new old → drop at new ≡ drop at old ++ appended_bytes old new
open-grown old new at h grown = ap (drop at) (starts_with_rest new old grown) ∙ drop-append-le at old (appended_bytes old new) h

pub longer : (old new : List ℕ) (at : ℕ) → at ≤ length old → StartsWith new old → at ≤ length new
longer old new at h grown =
    let all : length new ≡ length (old ++ appended_bytes old new) = ap length (starts_with_rest new old grown) in
    let both = length-append old (appended_bytes old new) in
    omega (arith, all, both, h)

pub one-grown : (old new : List ℕ) (at : ℕ) → at ≤ length old → IsOneLine (drop at old) → is_ended (drop at old) ≡ false → StartsWith new old → StopsAt (appended_bytes old new) 10
    → IsOneLine (drop at new)
one-grown old new at h one unended grown stops =
    let add = appended_bytes old new in
    let is : drop at new ≡ drop at old ++ add = open-grown old new at h grown in
    let starts : StartsWith (drop at new) (drop at old) = ap (take (length (drop at old))) is ∙ take-append_seam (drop at old) add in
    let same : appended_bytes (drop at old) (drop at new) ≡ add = ap (drop (length (drop at old))) is ∙ drop-append_seam (drop at old) add in
    one-more (drop at old) (drop at new) one unended starts (subst (λ a. StopsAt a 10) (sym same) stops)

-- all of it is lines
pub all-lines : (old new line : List ℕ) (at : ℕ) → at ≤ length old → StartsWith new old → drop at old ++ appended_bytes old new ≡ line ++ 10 ∷ []
    → take (length new) new ≡ take at old ++ (line ++ 10 ∷ [])
all-lines old new line at h grown whole =
    take_all (length new) new (omega arith)
    ∙ starts_with_rest new old grown
    ∙ ap (λ o. o ++ appended_bytes old new) (sym (take-append-drop at old))
    ∙ append_assoc (take at old) (drop at old) (appended_bytes old new)
    ∙ ap (λ l. take at old ++ l) whole

-- a whole line
pub whole-grown : (old new : List ℕ) (at : ℕ) → at ≤ length old → StartsWith new old → is_ended (drop at new) ≡ true
    → drop at old ++ appended_bytes old new ≡ front_of (drop at new) ++ 10 ∷ []
whole-grown old new at h grown ended = sym (open-grown old new at h grown) ∙ ended-line (drop at new) ended
