-- The numbers that clap reads of an option are those that are written for it.
use Rattle.std.proofs.Common.{◌≡◌, ℕ, List, IfSome, option_map, refl, true}
use Rattle.std.specs.Prelude.{None, Ok, Option, Result, Some}
use Rattle.clap.specs.Words.{ReadsOne, Row, Text, one_of}
use Rattle.shm_command.specs.Words.{is_plain_at, number_at, number_of}

pub number_read : (E : Type 0) (G : List ℕ → Result ℕ E → Type 0) → ((t : List ℕ) (n : ℕ) → G t (Ok n) → n ≡ number_of t)
    → (text : Option (List ℕ)) (r : Option ℕ) → (text ≡ None → r ≡ None) → ((t : List ℕ) → text ≡ Some t → ReadsOne G t r)
    → IfSome r (λ n. option_map number_of text ≡ Some n)
number_read E G says text None none value = tt
number_read E G says None (Some n) none value =
    let bad : Some n ≡ None = none refl in
    cc
number_read E G says (Some t) (Some n) none value =
    let is : n ≡ number_of t = says t n (value t refl) in
    cc

pub plain_read : (option : Text) (rows : List Row) (r : Option ℕ) → is_plain_at option rows ≡ true
    → IfSome r (λ n. option_map number_of (one_of option rows) ≡ Some n) → IfSome r (λ n. number_at option rows ≡ Some n)
plain_read option rows None plain read = tt
plain_read option rows (Some n) plain read = rw plain read
