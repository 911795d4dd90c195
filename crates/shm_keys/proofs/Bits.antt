-- Single bits of a number: what a set of flags has of a flag, and what a division leaves.
use Rattle.std.proofs.Common.{◌≡◌, ◌<◌, ◌*◌, ◌/◌, ◌%◌, ◌^◌, ◌==◌, ℕ, ap, ◌∙◌, arith}
use Rattle.std.proofs.lemmas.Bool.Decides.{nat_tests}
use Rattle.std.specs.Int.RustNames.{bit_and}
use Rattle.std.proofs.lemmas.Nat.Bits.{and_pow, bit_at-lt}
use Rattle.std.specs.Int.{bit_at}

-- a bit is 0 or 1
times_bit : (b p : ℕ) → b < 2 → 0 < p → (b * p == p) ≡ (b == 1)
times_bit b p small some = grind (arith, nat_tests)

-- a number has the bit of this power of two where that quotient is odd
pub has_bit : (n k : ℕ) → 0 < 2 ^ k → (bit_and n (2 ^ k) == 2 ^ k) ≡ (n / 2 ^ k % 2 == 1)
has_bit n k some = ap (λ x. x == 2 ^ k) (and_pow n k) ∙ times_bit (bit_at n k) (2 ^ k) (bit_at-lt n k) some

-- the bits that let a class read or write, in its own place or in the whole mode
same_bit : (n k j : ℕ) → 0 < 2 ^ k → n / 2 ^ k ≡ j → (bit_and n (2 ^ k) == 2 ^ k) ≡ (j % 2 == 1)
same_bit n k j some same = has_bit n k some ∙ ap (λ x. x % 2 == 1) same

pub owner_read : (n : ℕ) → (bit_and n 256 == 256) ≡ (n / 64 / 4 % 2 == 1)
owner_read n = same_bit n 8 (n / 64 / 4) (omega arith) (omega arith)

pub owner_write : (n : ℕ) → (bit_and n 128 == 128) ≡ (n / 64 / 2 % 2 == 1)
owner_write n = same_bit n 7 (n / 64 / 2) (omega arith) (omega arith)

pub group_read : (n : ℕ) → (bit_and n 32 == 32) ≡ (n / 8 / 4 % 2 == 1)
group_read n = same_bit n 5 (n / 8 / 4) (omega arith) (omega arith)

pub group_write : (n : ℕ) → (bit_and n 16 == 16) ≡ (n / 8 / 2 % 2 == 1)
group_write n = same_bit n 4 (n / 8 / 2) (omega arith) (omega arith)

pub others_read : (n : ℕ) → (bit_and n 4 == 4) ≡ (n / 4 % 2 == 1)
others_read n = same_bit n 2 (n / 4) (omega arith) (omega arith)

pub others_write : (n : ℕ) → (bit_and n 2 == 2) ≡ (n / 2 % 2 == 1)
others_write n = same_bit n 1 (n / 2) (omega arith) (omega arith)

-- the two flags of a get
pub creat_flag : (n : ℕ) → (bit_and n 512 == 512) ≡ (n / 512 % 2 == 1)
creat_flag n = same_bit n 9 (n / 512) (omega arith) (omega arith)

pub excl_flag : (n : ℕ) → (bit_and n 1024 == 1024) ≡ (n / 1024 % 2 == 1)
excl_flag n = same_bit n 10 (n / 1024) (omega arith) (omega arith)
