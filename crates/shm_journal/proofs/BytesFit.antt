-- The base64 of a block's bytes: no line feed, and few enough letters.
use Rattle.std.proofs.Common.{◌≡◌, ◌≤◌, ◌<◌, ◌⊎◌, inl, inr, ℕ, ◌+◌, ◌*◌, ◌/◌, ◌%◌, ◌==◌, ◌++◌, true, List, [], ◌∷◌, length, map, refl, ap, arith}
use Rattle.std.specs.Prelude.{replicate, slice_index}
use Rattle.std.proofs.lemmas.Bool.{cases_lt}
use Rattle.std.proofs.lemmas.Bool.Decides.{nat_tests}
use Rattle.std.proofs.lemmas.List.{get_or_past, length-append, length-replicate}
use Rattle.std.proofs.lemmas.List.Elements.{All-append, All-cons, All-get_or, All-nil, All-replicate}
use Rattle.base64.proofs.RoundTrip.{length-encode_symbols}
use Rattle.base64.specs.Engines.{standard}
use Rattle.base64.specs.Rfc4648.{encode_group, encode_symbols, padding_len}
use Rattle.shm_place.specs.Limits.{page_bytes}
use Rattle.shm_wire.specs.Asks.{IsBlock, is_block}
use Rattle.shm_wire.specs.BytesWord.{bytes_word}
use Rattle.shm_journal.proofs.Fits.{Fits, IsNoFeed, unended_test}
use Rattle.shm_journal.specs.LinesOf.{Unended}

-- no symbol is a line feed, nor what stands for none
symbol-is_no_feed : (symbols : List ℕ) → Unended symbols → (i : ℕ) → IsNoFeed (slice_index symbols i)
symbol-is_no_feed symbols h i = go (cases_lt i (length symbols))
  where
    go : (i < length symbols) ⊎ (length symbols ≤ i) → IsNoFeed (slice_index symbols i)
    go (inl lt) = All-get_or IsNoFeed symbols i 0 lt h
    go (inr ge) = ap (λ n. n == 10) (get_or_past symbols i 0 ge)

unended-symbols : (symbols places : List ℕ) → ((i : ℕ) → IsNoFeed (slice_index symbols i)) → Unended (map (λ i. slice_index symbols i) places)
unended-symbols symbols [] h = All-nil IsNoFeed
unended-symbols symbols (i ∷ is) h = All-cons IsNoFeed (slice_index symbols i) (map (λ i. slice_index symbols i) is) (h i) (unended-symbols symbols is h)

unended-groups : (t bytes : List ℕ) → ((i : ℕ) → IsNoFeed (slice_index t i)) → Unended (encode_symbols t bytes)
unfolding encode_symbols
unended-groups t [] h = All-nil IsNoFeed
unended-groups t (a ∷ []) h = unended-symbols t ((a / 4) ∷ (a % 4 * 16) ∷ []) h
unended-groups t (a ∷ b ∷ []) h = unended-symbols t ((a / 4) ∷ (a % 4 * 16 + b / 16) ∷ (b % 16 * 4) ∷ []) h
unended-groups t (a ∷ b ∷ c ∷ rest) h =
    All-append IsNoFeed (encode_group t a b c) (encode_symbols t rest)
    (unended-symbols t ((a / 4) ∷ (a % 4 * 16 + b / 16) ∷ (b % 16 * 4 + c / 64) ∷ (c % 64) ∷ []) h)
    (unended-groups t rest h)

letters : (n : ℕ) → n ≤ 4096 → (4 * n + 2) / 3 + padding_len n ≤ 5464
letters n h = omega (arith, h)

block-size : (offset count : ℕ) → is_block offset count ≡ true → count ≤ page_bytes
block-size offset count h = grind (arith, nat_tests)

pub fits_few_bytes : (bytes : List ℕ) → length bytes ≤ page_bytes → Fits 5464 (bytes_word bytes)
fits_few_bytes bytes small =
    let symbols = encode_symbols standard.encode_table bytes in
    let padding = replicate (padding_len (length bytes)) 61 in
    let size : length symbols ≡ (4 * length bytes + 2) / 3 = length-encode_symbols standard.encode_table bytes in
    let rest : length padding ≡ padding_len (length bytes) = length-replicate (padding_len (length bytes)) 61 in
    let both : length (symbols ++ padding) ≡ length symbols + length padding = length-append symbols padding in
    let few = letters (length bytes) small in
    record {
      unended = All-append IsNoFeed symbols padding
          (unended-groups standard.encode_table bytes (symbol-is_no_feed standard.encode_table (unended_test standard.encode_table refl)))
          (All-replicate IsNoFeed (padding_len (length bytes)) 61 refl);
      short = omega (arith, size, rest, both, few);
    }

pub fits_bytes : (offset : ℕ) (bytes : List ℕ) → IsBlock offset (length bytes) → Fits 5464 (bytes_word bytes)
fits_bytes offset bytes block = fits_few_bytes bytes (block-size offset (length bytes) block)
