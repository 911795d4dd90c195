-- What is opened is what was sealed.
use Rattle.std.proofs.Common.{◌≡◌, ℕ, ◌+◌, ◌-◌, ◌<◌, ◌≤◌, Bool, true, false, List, [], ◌∷◌, ◌++◌, length, take, drop, cond, nat_lt, Option, None, Some, refl, ap, ap₂, sym, subst, ◌∙◌, append_assoc, append-nil, arith}
use Rattle.std.specs.Prelude.{codes, Result, Ok, Err, option_and_then}
use Rattle.std.specs.Option.{option_map_or}
use Rattle.std.specs.Str.{bytes_eq}
use Rattle.std.proofs.lemmas.Bool.Decides.{nat_tests}
use Rattle.std.proofs.lemmas.List.{length-append, length-drop, take-append-drop}
use Rattle.std.proofs.Math.Seq.{drop-append_seam, take-append_seam}
use Rattle.std.proofs.lemmas.Slice.Eq.{bytes_eq-Decides}
use Rattle.hex.proofs.HexLemmas.{length-encode_with}
use Rattle.hex.specs.Hex.{encode_lower, lower_digits}
use Rattle.sha2.proofs.Facts256.{length-sha256}
use Rattle.shm_seal.specs.Hmac.{hmac, padded}
use Rattle.sha2.specs.Sha256.{sha256}
use Rattle.shm_seal.specs.Seal.{Seal, Bare, Named, Keyed, digest_text, if_digest, inner_of, name_tail, opened, opened_keyed, opened_named, opened_text, sealed, tail_of, undigested, without_end}
use Rattle.shm_seal.specs.declared.open_line_error.Unsealed.{Unsealed}
use Rattle.shm_seal.specs.declared.open_line_error.Unsealed.TheVariants.{OtherCluster, NoDigest, WrongDigest}

-- ---- an end

eq-true : (xs ys : List ℕ) → bytes_eq xs ys ≡ true → xs ≡ ys
eq-true xs ys h = grind (arith, bytes_eq-Decides)

eq-self : (xs : List ℕ) → bytes_eq xs xs ≡ true
eq-self xs = grind (arith, bytes_eq-Decides)

-- the end of a line, if it is this
abbrev cut_at : ℕ → List ℕ → List ℕ → Option (List ℕ)
cut_at n line end = cond (bytes_eq (drop n line) end) (Some (take n line)) None

cut-is : (b : Bool) (n : ℕ) (line end front : List ℕ) → bytes_eq (drop n line) end ≡ b → cond b (Some (take n line)) None ≡ Some front → line ≡ front ++ end
cut-is true n line end front is h =
    let same : take n line ≡ front = cc in
    sym (take-append-drop n line) ∙ ap₂ (λ x y. x ++ y) same (eq-true (drop n line) end is)
cut-is false n line end front is h = absurd (cc)

end-is : (short : Bool) (line end front : List ℕ) → cond short None (cut_at (length line - length end) line end) ≡ Some front → line ≡ front ++ end
end-is true line end front h = absurd (cc)
end-is false line end front h = cut-is (bytes_eq (drop (length line - length end) line) end) (length line - length end) line end front refl h

-- a line without its end is what stands before that
ended : (line end front : List ℕ) → without_end line end ≡ Some front → line ≡ front ++ end
ended line end front h = end-is (nat_lt (length line) (length end)) line end front h

less : (n m : ℕ) → nat_lt (n + m) m ≡ false
less n m = grind (arith, nat_tests)

at-seam : (front end : List ℕ) → length (front ++ end) - length end ≡ length front
at-seam front end = let len = length-append front end in omega (arith, len)

unended : (front end : List ℕ) → without_end (front ++ end) end ≡ Some front
unended front end =
    ap (λ n. cond (nat_lt n (length end)) None (cut_at (length (front ++ end) - length end) (front ++ end) end)) (length-append front end)
    ∙ ap (λ b. cond b None (cut_at (length (front ++ end) - length end) (front ++ end) end)) (less (length front) (length end))
    ∙ ap (λ n. cut_at n (front ++ end) end) (at-seam front end)
    ∙ ap₂ (λ d t. cond (bytes_eq d end) (Some t) None) (drop-append_seam front end) (take-append_seam front end)
    ∙ ap (λ b. cond b (Some front) None) (eq-self end)

-- ---- a name

name-from : (name line inner : List ℕ) (front : Option (List ℕ)) → without_end line name ≡ front
    → option_and_then (λ f. without_end f (codes " @")) front ≡ Some inner → line ≡ inner ++ name_tail name
name-from name line inner None is h = absurd (cc)
name-from name line inner (Some front) is h =
    ended line name front is ∙ ap (λ f. f ++ name) (ended front (codes " @") inner h) ∙ append_assoc inner (codes " @") name

named : (name line inner : List ℕ) → inner_of name line ≡ Some inner → line ≡ inner ++ name_tail name
named name line inner h = name-from name line inner (without_end line name) refl h

unnamed : (name inner : List ℕ) → inner_of name (inner ++ name_tail name) ≡ Some inner
unnamed name inner =
    ap (inner_of name) (sym (append_assoc inner (codes " @") name))
    ∙ ap (λ o. option_and_then (λ f. without_end f (codes " @")) o) (unended (inner ++ codes " @") name)
    ∙ unended inner (codes " @")

-- ---- a digest

pub length-digest : (block text : List ℕ) → length (digest_text block text) ≡ 65
unfolding digest_text hmac
length-digest block text =
    let digest = hmac block text in
    let bytes : length digest ≡ 32 = length-sha256 (padded 92 block ++ sha256 (padded 54 block ++ text)) in
    let digits = length-encode_with lower_digits digest in
    omega (arith, bytes, digits)

digest-is : (b : Bool) (block text digest front inner : List ℕ) → bytes_eq digest (digest_text block text) ≡ b
    → cond b (Ok front) (Err WrongDigest) ≡ Ok inner → (digest ≡ digest_text block text) × (front ≡ inner)
digest-is true block text digest front inner is h = (eq-true digest (digest_text block text) is, cc)
digest-is false block text digest front inner is h = absurd (cc)

text-is : (name block line text digest inner : List ℕ) (front : Option (List ℕ)) → inner_of name text ≡ front
    → option_map_or (if_digest block text digest) front (Err (undigested name line)) ≡ Ok inner
    → text ++ digest ≡ (inner ++ name_tail name) ++ digest_text block (inner ++ name_tail name)
text-is name block line text digest inner None is h = absurd (cc)
text-is name block line text digest inner (Some front) is h =
    let d = digest-is (bytes_eq digest (digest_text block text)) block text digest front inner refl h in
    let t : text ≡ inner ++ name_tail name = named name text front is ∙ ap (λ f. f ++ name_tail name) d.1 in
    ap₂ (λ x y. x ++ y) t (d.0 ∙ ap (digest_text block) t)

-- ---- a seal

plain-is : (inner line : List ℕ) (front : Option (List ℕ)) → option_map_or (λ i. Ok i) front (Err OtherCluster) ≡ Ok inner → front ≡ Some inner
plain-is inner line None h = absurd (cc)
plain-is inner line (Some front) h = cc

pub opened_is_sealed : (seal : Seal) (line inner : List ℕ) → opened seal line ≡ Ok inner → line ≡ sealed seal inner
unfolding opened opened_named opened_keyed opened_text sealed tail_of
opened_is_sealed Bare line inner h = let same : line ≡ inner = cc in same ∙ sym (append-nil inner)
opened_is_sealed (Named name) line inner h = named name line inner (plain-is inner line (inner_of name line) h)
opened_is_sealed (Keyed name block) line inner h =
    let text = take (length line - 65) line in
    let digest = drop (length line - 65) line in
    sym (take-append-drop (length line - 65) line)
    ∙ text-is name block line text digest inner (inner_of name text) refl h
    ∙ append_assoc inner (name_tail name) (digest_text block (inner ++ name_tail name))

pub sealed_is_opened : (seal : Seal) (inner : List ℕ) → opened seal (sealed seal inner) ≡ Ok inner
unfolding opened opened_named opened_keyed opened_text sealed tail_of
sealed_is_opened Bare inner = ap (λ l. Ok l) (append-nil inner)
sealed_is_opened (Named name) inner = ap (λ o. option_map_or (λ i. Ok i) o (Err OtherCluster)) (unnamed name inner)
sealed_is_opened (Keyed name block) inner =
    let text = inner ++ name_tail name in
    let digest = digest_text block text in
    let whole = inner ++ (name_tail name ++ digest) in
    let same : whole ≡ text ++ digest = sym (append_assoc inner (name_tail name) digest) in
    let at : length (text ++ digest) - 65 ≡ length text = ap (λ n. length (text ++ digest) - n) (sym (length-digest block text)) ∙ at-seam text digest in
    ap (opened_keyed name block) same
    ∙ ap (λ n. opened_text name block (text ++ digest) (take n (text ++ digest)) (drop n (text ++ digest))) at
    ∙ ap₂ (λ t d. opened_text name block (text ++ digest) t d) (take-append_seam text digest) (drop-append_seam text digest)
    ∙ ap (λ o. option_map_or (if_digest block text digest) o (Err (undigested name (text ++ digest)))) (unnamed name inner)
    ∙ ap (λ b. cond b (Ok inner) (Err WrongDigest)) (eq-self digest)
