-- The hellos of a site, one more at a time; and a line of the stream is none.
use Rattle.std.proofs.Common.{◌≡◌, ℕ, suc, ◌+◌, List, ◌++◌, Option, None, Some, refl, ap, sym, ◌∙◌, append-nil}
use Rattle.std.proofs.lemmas.List.{append_assoc}
use Rattle.std.specs.Option.{option_map_or}
use Rattle.shm_seal.specs.Seal.{Seal}
use Rattle.shm_wire.specs.Line.{Line, read_line}
use Rattle.shm_process.proofs.HelloWords.{hello_is_no_line}
use Rattle.shm_process.specs.Desk.{Desk, noted, with_other}
use Rattle.shm_process.specs.Hello.{first_other, hello_for, hellos_from, read_hello}
use Rattle.shm_process.specs.declared.hello_line.Hello.{Hello}
use Rattle.shm_process.specs.declared.site_opening.Opening.{Opening}

-- ---- the hellos

-- one of `n` is said
pub hello_said : (seal : Seal) (own : Opening) (to n m : ℕ) (old new whole : List ℕ) → n ≡ suc m → new ≡ old ++ hello_for seal own to
    → old ++ hellos_from seal own to n ≡ whole → new ++ hellos_from seal own (to + 1) m ≡ whole
unfolding hellos_from
hello_said seal own to n m old new whole more pushed before =
    let rest = hellos_from seal own (to + 1) m in
    ap (λ t. t ++ rest) pushed ∙ append_assoc old (hello_for seal own to) rest ∙ sym (ap (λ k. old ++ hellos_from seal own to k) more) ∙ before

pub all_said : (seal : Seal) (own : Opening) (to n : ℕ) (text whole : List ℕ) → n ≡ 0 → text ++ hellos_from seal own to n ≡ whole → text ≡ whole
unfolding hellos_from
all_said seal own to n text whole none before = sym (append-nil text) ∙ sym (ap (λ k. text ++ hellos_from seal own to k) none) ∙ before

-- ---- a line that a site takes

no-hello : (line : List ℕ) (read : Line) (hello : Option Hello) → read_hello line ≡ hello → read_line line ≡ Some read → hello ≡ None
no-hello line read None is e = refl
no-hello line read (Some hello) is e = let none = hello_is_no_line line hello is in absurd (cc)

other-none : (own other : Option Opening) → first_other own other None ≡ None
other-none None None = refl
other-none None (Some x) = refl
other-none (Some own) None = refl
other-none (Some own) (Some x) = refl

-- it isn't noted
pub nothing_noted : (d : Desk) (line : List ℕ) (read : Line) → Some read ≡ read_line line → d ≡ noted d (read_hello line)
nothing_noted d line read e =
    let none = no-hello line read (read_hello line) refl (sym e) in
    sym (ap (noted d) none ∙ ap (λ o. option_map_or (with_other d) o d) (other-none d.opening d.other))
