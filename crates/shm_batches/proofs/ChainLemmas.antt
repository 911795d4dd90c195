-- A mark names its batch and the digest of the batch before, and so all before it.
use Rattle.std.proofs.Common.{◌≡◌, ◌⊎◌, ℕ, ◌+◌, ◌-◌, ◌<◌, ◌&&◌, zero, suc, Bool, true, false, List, [], ◌∷◌, ◌++◌, length, take, drop, replicate, refl, ap, ap₂, sym, ◌∙◌, append_assoc, inl, inr, arith}
use Rattle.std.specs.Prelude.{codes, slice_index}
use Rattle.std.specs.Fmt.{decimal}
use Rattle.std.specs.Int.{byte_at, bytes_high_first, to_be_bytes, w32}
use Rattle.std.specs.List.{All}
use Rattle.std.specs.Str.{bytes_eq}
use Rattle.std.proofs.lemmas.List.{length-append}
use Rattle.std.proofs.lemmas.List.Elements.{All-append, All-cons, All-head, All-nil, All-tail}
use Rattle.std.proofs.Math.Seq.{drop-append_seam, take-append_seam}
use Rattle.std.proofs.lemmas.Slice.Eq.{bytes_eq-Decides}
use Rattle.hex.proofs.HexLemmas.{decode_of-encode_lower, decode_of-same, length-encode_with}
use Rattle.hex.specs.Hex.{IsBytes, decode_of, encode_lower, lower_digits}
use Rattle.sha2.proofs.Facts256.{length-sha256}
use Rattle.sha2.specs.Sha256.{digest_bytes, sha256}
use Rattle.shm_batches.specs.Chain.{Chain, Collision, chain_after, digest_end, digest_of, entries_at_end, is_marked, mark_front, mark_line, unmarked, with_batch}

-- ---- bytes

pub eq-true : (xs ys : List ℕ) → bytes_eq xs ys ≡ true → xs ≡ ys
eq-true xs ys h = grind (arith, bytes_eq-Decides)

pub eq-self : (xs : List ℕ) → bytes_eq xs xs ≡ true
eq-self xs = grind (arith, bytes_eq-Decides)

abbrev IsByte : ℕ → Type 0
IsByte b = b < 256

byte-below : (k n : ℕ) → byte_at k n < 256
byte-below zero n = omega arith
byte-below (suc k) n = omega arith

high-bytes : (k n : ℕ) → All IsByte (bytes_high_first k n)
high-bytes zero n = All-nil IsByte
high-bytes (suc k) n = All-cons IsByte (byte_at k n) (bytes_high_first k n) (byte-below k n) (high-bytes k n)

digest-bytes : (h : List ℕ) (n : ℕ) → All IsByte (digest_bytes h n)
unfolding digest_bytes
digest-bytes h zero = All-nil IsByte
digest-bytes h (suc n) = All-append IsByte (digest_bytes h n) (to_be_bytes w32 (slice_index h n)) (digest-bytes h n) (high-bytes 4 (slice_index h n))

each-byte : (xs : List ℕ) → All IsByte xs → IsBytes xs
each-byte [] h i = omega arith
each-byte (x ∷ xs) h zero = All-head IsByte x xs h
each-byte (x ∷ xs) h (suc i) = each-byte xs (All-tail IsByte x xs h) i

-- a digest has bytes alone
sha256-bytes : (m : List ℕ) → IsBytes (sha256 m)
unfolding sha256
sha256-bytes m = each-byte _ (digest-bytes _ 8)

zero-bytes : (n : ℕ) → All IsByte (replicate n 0)
zero-bytes zero = All-nil IsByte
zero-bytes (suc n) = All-cons IsByte 0 (replicate n 0) (omega arith) (zero-bytes n)

-- ---- marks

-- the digest of a chain has 32 bytes
record IsChain (chain : Chain) : Type 0 where
  pub bytes : IsBytes chain.digest
  pub few : length chain.digest ≡ 32

unmarked-chain : IsChain unmarked
unmarked-chain = record { bytes = each-byte (replicate 32 0) (zero-bytes 32); few = refl }

with-batch-chain : (chain : Chain) (text : List ℕ) → IsChain (with_batch chain text)
unfolding with_batch digest_of
with-batch-chain chain text = record { bytes = sha256-bytes (text ++ mark_front chain); few = length-sha256 (text ++ mark_front chain) }

length-hex : (bytes : List ℕ) → length bytes ≡ 32 → length (encode_lower bytes) ≡ 64
length-hex bytes h = let len = length-encode_with lower_digits bytes in omega (arith, len, h)

-- a line that doesn't begin as the next mark is none
pub other-line : (chain : Chain) (text line : List ℕ) → bytes_eq (mark_front chain) (take (length (mark_front chain)) line) ≡ false
    → bytes_eq line (mark_line chain text) ≡ false
unfolding mark_line
other-line chain text line h = go (bytes_eq line (mark_line chain text)) refl
  where
    front : List ℕ
    front = mark_front chain

    go : (b : Bool) → bytes_eq line (mark_line chain text) ≡ b → b ≡ false
    go false e = refl
    go true e =
        let begins : take (length front) line ≡ front =
        ap (take (length front)) (eq-true line (mark_line chain text) e) ∙ take-append_seam front (32 ∷ encode_lower (digest_of chain text)) in
        sym (eq-self front) ∙ ap (bytes_eq front) (sym begins) ∙ h

pub verb : (chain : Chain) (end : List ℕ) → bytes_eq (codes "durable ") (take 8 (mark_front chain ++ end)) ≡ true
unfolding mark_front
verb chain end = refl

-- each mark is one by itself
pub mark_is_marked : (chain : Chain) (before text : List ℕ) → entries_at_end (before ++ text) ≡ text → is_marked (before ++ text) (mark_line chain text) ≡ true
unfolding mark_line digest_end digest_of
mark_is_marked chain before text entries =
    let front = mark_front chain in
    let end : List ℕ = 32 ∷ encode_lower (sha256 (text ++ front)) in
    let long : length end ≡ 65 = let h = length-hex (sha256 (text ++ front)) (length-sha256 (text ++ front)) in omega (arith, h) in
    let at : length (front ++ end) - 65 ≡ length front = let len = length-append front end in omega (arith, len, long) in
    ap₂ (λ a b. a && b) (verb chain end)
    (
    ap (λ n. bytes_eq (drop n (front ++ end)) (digest_end (entries_at_end (before ++ text)) (take n (front ++ end)))) at
    ∙ ap (λ t. bytes_eq (drop (length front) (front ++ end)) (digest_end t (take (length front) (front ++ end)))) entries
    ∙ ap₂ (λ d t. bytes_eq d (digest_end text t)) (drop-append_seam front end) (take-append_seam front end)
    ∙ eq-self end
    )

-- ---- all batches before

-- equal ends of one length leave equal fronts
fronts-same : (a b x y : List ℕ) → length x ≡ length y → a ++ x ≡ b ++ y → (a ≡ b) × (x ≡ y)
fronts-same a b x y h e =
    let la = length-append a x in
    let lb = length-append b y in
    let l : length (a ++ x) ≡ length (b ++ y) = ap length e in
    let n : length a ≡ length b = omega (arith, la, lb, l, h) in (
      sym (take-append_seam a x) ∙ ap₂ take n e ∙ take-append_seam b y,
      sym (drop-append_seam a x) ∙ ap₂ drop n e ∙ drop-append_seam b y,
    )

hex-same : (a b : List ℕ) → IsBytes a → IsBytes b → encode_lower a ≡ encode_lower b → a ≡ b
hex-same a b ha hb e = decode_of-same (encode_lower a) a b (decode_of-encode_lower a ha) (ap decode_of e ∙ decode_of-encode_lower b hb)

-- so many bytes behind the same number
front-same : (n m : ℕ) (p q : List ℕ) → n ≡ m → IsBytes p → IsBytes q → length p ≡ 32 → length q ≡ 32
    → (t u : List ℕ) → t ++ mark_front (record { number = n; digest = p }) ≡ u ++ mark_front (record { number = m; digest = q }) → (t ≡ u) × (p ≡ q)
unfolding mark_front
front-same n m p q same hp hq lp lq t u e =
    let front : ℕ → List ℕ → List ℕ = λ k d. codes "durable " ++ (decimal (k + 1) ++ 32 ∷ encode_lower d) in
    let e1 : t ++ front n p ≡ u ++ front n q = e ∙ ap (λ k. u ++ front k q) (sym same) in
    let hexes : length (encode_lower p) ≡ length (encode_lower q) = length-hex p lp ∙ sym (length-hex q lq) in
    let dp = length-append (decimal (n + 1)) (32 ∷ encode_lower p) in
    let dq = length-append (decimal (n + 1)) (32 ∷ encode_lower q) in
    let long : length (front n p) ≡ length (front n q) = omega (arith, dp, dq, hexes) in
    let parts = fronts-same t u (front n p) (front n q) long e1 in
    let word : ℕ → List ℕ = λ k. codes "durable " ++ decimal (k + 1) in
    let cut : (d : List ℕ) → front n d ≡ word n ++ 32 ∷ encode_lower d = λ d. sym (append_assoc (codes "durable ") (decimal (n + 1)) (32 ∷ encode_lower d)) in
    let ends = fronts-same (word n) (word n) (32 ∷ encode_lower p) (32 ∷ encode_lower q) (ap suc hexes) (sym (cut p) ∙ parts.1 ∙ cut q) in
    (parts.0, hex-same p q hp hq (ap (drop 1) ends.1))

false-true : false ≡ true → ⊥
false-true h = absurd (cc)

record SameOne (c d : Chain) (t u : List ℕ) : Type 0 where
  pub chain : c ≡ d
  pub text : t ≡ u

same-one : (c d : Chain) (t u : List ℕ) → IsChain c → IsChain d → with_batch c t ≡ with_batch d u → SameOne c d t u ⊎ Collision
unfolding with_batch digest_of
same-one c d t u ic id e = go (bytes_eq x y) refl
  where
    x : List ℕ
    x = t ++ mark_front c

    y : List ℕ
    y = u ++ mark_front d

    digests : sha256 x ≡ sha256 y
    digests = ap (λ (k : Chain). k.digest) e

    numbers : c.number ≡ d.number
    numbers = let n : c.number + 1 ≡ d.number + 1 = ap (λ (k : Chain). k.number) e in omega (arith, n)

    go : (b : Bool) → bytes_eq x y ≡ b → SameOne c d t u ⊎ Collision
    go true h =
        let parts = front-same c.number d.number c.digest d.digest numbers ic.bytes id.bytes ic.few id.few t u (eq-true x y h) in
        inl (record { chain = ap₂ (λ n p. record { number = n; digest = p }) numbers parts.1; text = parts.0 })
    go false h = inr (record { one = x; other = y; differ = λ s. absurd (false-true (sym h ∙ ap (bytes_eq x) (sym s) ∙ eq-self x)); same = digests })

record SameAll (c d : Chain) (ts us : List (List ℕ)) : Type 0 where
  pub chain : c ≡ d
  pub texts : ts ≡ us

same-all : (ts us : List (List ℕ)) (c d : Chain) → IsChain c → IsChain d → length ts ≡ length us → chain_after c ts ≡ chain_after d us → SameAll c d ts us ⊎ Collision
same-all [] [] c d ic id l e = inl (record { chain = e; texts = refl })
same-all [] (u ∷ us) c d ic id l e = absurd (omega (arith, l))
same-all (t ∷ ts) [] c d ic id l e = absurd (omega (arith, l))
same-all (t ∷ ts) (u ∷ us) c d ic id l e =
    first (same-all ts us (with_batch c t) (with_batch d u) (with-batch-chain c t) (with-batch-chain d u) (omega (arith, l)) e)
  where
    second : ts ≡ us → SameOne c d t u ⊎ Collision → SameAll c d (t ∷ ts) (u ∷ us) ⊎ Collision
    second rest (inl one) = inl (record { chain = one.chain; texts = ap₂ (λ a b. a ∷ b) one.text rest })
    second rest (inr found) = inr found

    first : SameAll (with_batch c t) (with_batch d u) ts us ⊎ Collision → SameAll c d (t ∷ ts) (u ∷ us) ⊎ Collision
    first (inl rest) = second rest.texts (same-one c d t u ic id rest.chain)
    first (inr found) = inr found

number-after : (ts : List (List ℕ)) (c : Chain) → (chain_after c ts).number ≡ c.number + length ts
unfolding with_batch
number-after [] c = omega arith
number-after (t ∷ ts) c = let h = number-after ts (with_batch c t) in omega (arith, h)

pub same_batches : (ts us : List (List ℕ)) → chain_after unmarked ts ≡ chain_after unmarked us → (ts ≡ us) ⊎ Collision
same_batches ts us e = done (same-all ts us unmarked unmarked unmarked-chain unmarked-chain lengths e)
  where
    lengths : length ts ≡ length us
    lengths =
        let a = number-after ts unmarked in
        let b = number-after us unmarked in
        let n : (chain_after unmarked ts).number ≡ (chain_after unmarked us).number = ap (λ (k : Chain). k.number) e in
        omega (arith, a, b, n)

    done : SameAll unmarked unmarked ts us ⊎ Collision → (ts ≡ us) ⊎ Collision
    done (inl same) = inl same.texts
    done (inr found) = inr found
