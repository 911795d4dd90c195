-- Texts that are told one after the other.
use Rattle.std.proofs.Common.{◌≡◌, ◌∙◌, ℕ, List, ◌++◌, if◌then◌else◌, Result, Ok, Err, OnOk, is_ok, ap, append_assoc}
use Rattle.shm_debug.proofs.Booked.{on_ok-then}

-- what `push_str` wrote, as its clause says it
pub pushed : {X Y : Type 0} (r : Result X Y) (old new a : List ℕ) → new ≡ (if is_ok r then old ++ a else old) → OnOk r (new ≡ old ++ a)
pushed (Ok x) old new a e = e
pushed (Err y) old new a e = tt

-- two texts as one
joined : (old one two a b : List ℕ) → one ≡ old ++ a → two ≡ one ++ b → two ≡ old ++ (a ++ b)
joined old one two a b e f = f ∙ ap (λ t. t ++ b) e ∙ append_assoc old a b

-- two of them
pub two_told : {X Y : Type 0} (r : Result X Y) (old one two a b : List ℕ) → one ≡ old ++ a → OnOk r (two ≡ one ++ b) → OnOk r (two ≡ old ++ (a ++ b))
two_told r old one two a b e1 e2 = on_ok-then r (joined old one two a b e1) e2

-- three of them
pub three_told : {X Y : Type 0} (r : Result X Y) (old one two three a b c : List ℕ)
    → one ≡ old ++ a → two ≡ one ++ b → OnOk r (three ≡ two ++ c) → OnOk r (three ≡ old ++ (a ++ (b ++ c)))
three_told r old one two three a b c e1 e2 e3 = two_told r old one three a (b ++ c) e1 (two_told r one two three b c e2 e3)

-- four of them
pub four_told : {X Y : Type 0} (r : Result X Y) (old one two three four a b c d : List ℕ)
    → one ≡ old ++ a → two ≡ one ++ b → three ≡ two ++ c → OnOk r (four ≡ three ++ d) → OnOk r (four ≡ old ++ (a ++ (b ++ (c ++ d))))
four_told r old one two three four a b c d e1 e2 e3 e4 =
    two_told r old one four a (b ++ (c ++ d)) e1 (three_told r one two three four b c d e2 e3 e4)

-- five of them
pub five_told : {X Y : Type 0} (r : Result X Y) (old one two three four five a b c d e : List ℕ)
    → one ≡ old ++ a → two ≡ one ++ b → three ≡ two ++ c → four ≡ three ++ d → OnOk r (five ≡ four ++ e)
    → OnOk r (five ≡ old ++ (a ++ (b ++ (c ++ (d ++ e)))))
five_told r old one two three four five a b c d e e1 e2 e3 e4 e5 =
    two_told r old one five a (b ++ (c ++ (d ++ e))) e1 (four_told r one two three four five b c d e e2 e3 e4 e5)

-- seven of them
pub seven_told : {X Y : Type 0} (r : Result X Y) (old one two three four five six seven a b c d e f g : List ℕ)
    → one ≡ old ++ a → two ≡ one ++ b → three ≡ two ++ c → four ≡ three ++ d → five ≡ four ++ e → six ≡ five ++ f → OnOk r (seven ≡ six ++ g)
    → OnOk r (seven ≡ old ++ (a ++ (b ++ (c ++ (d ++ (e ++ (f ++ g)))))))
seven_told r old one two three four five six seven a b c d e f g e1 e2 e3 e4 e5 e6 e7 =
    three_told r old one two seven a b (c ++ (d ++ (e ++ (f ++ g)))) e1 e2
    (five_told r two three four five six seven c d e f g e3 e4 e5 e6 e7)
