-- The lines of a script, one after another.
use Rattle.std.proofs.Common.{◌≡◌, ℕ, ◌+◌, ◌==◌, false, List, [], ◌∷◌, ◌++◌, Option, None, Some, refl, sym, ap, ◌∙◌, append_assoc, append-nil}
use Rattle.std.specs.Prelude.{Result, Ok, Err}
use Rattle.shm_lines.specs.Line.{line_of}
use Rattle.shm_lines.specs.Words.{is_end}
use Rattle.shm_lines.proofs.WordLemmas.{is_end-parts}
use Rattle.shm_lines.specs.declared.script_line.Line.{Line}
use Rattle.shm_debug.specs.Said.{next, standing_after}
use Rattle.shm_debug.specs.Standing.{Standing}
use Rattle.shm_prompt.specs.Dialog.{Plays, lines_from, lines_in, parts_of, said_to, then_lines, told_to}

after-more : (s : Option Standing) (done : List Line) (l : Line) → standing_after s (done ++ l ∷ []) ≡ next (standing_after s done) l
after-more s [] l = refl
after-more s (x ∷ done) l = after-more (next s x) done l

told-more : (s : Option Standing) (done : List Line) (l : Line) → told_to s (done ++ l ∷ []) ≡ told_to s done ++ said_to (standing_after s done) l
told-more s [] l = append-nil (said_to s l)
told-more s (x ∷ done) l =
    ap (λ t. said_to s x ++ t) (told-more (next s x) done l) ∙ sym (append_assoc (said_to s x) (told_to (next s x) done) (said_to (standing_after (next s x) done) l))

-- these lines, and then the rest
abbrev pub prefixed : List Line → Result (List Line) ℕ → Result (List Line) ℕ
prefixed done (Err wrong) = Err wrong
prefixed done (Ok lines) = Ok (done ++ lines)

prefixed-nil : (r : Result (List Line) ℕ) → r ≡ prefixed [] r
prefixed-nil (Err wrong) = refl
prefixed-nil (Ok lines) = refl

from-line : (number : ℕ) (line : List ℕ) (parts : List (List ℕ)) → is_end parts ≡ false
    → lines_from number (line ∷ parts) ≡ then_lines number (line_of line) (lines_from (number + 1) parts)
from-line number line [] some = absurd (cc)
from-line number line (part ∷ parts) some = refl

prefixed-line : (done : List Line) (number : ℕ) (l : Line) (r : Result (List Line) ℕ) → prefixed done (then_lines number (Some l) r) ≡ prefixed (done ++ l ∷ []) r
prefixed-line done number l (Err wrong) = refl
prefixed-line done number l (Ok lines) = ap Ok (sym (append_assoc done (l ∷ []) lines))

-- so many lines so far, before the rest
pub record Playing (bytes rest : List ℕ) (number : ℕ) (s t : Option Standing) (text text' : List ℕ) : Type 0 where
  pub done : List Line
  pub read : lines_in bytes ≡ prefixed done (lines_from number (parts_of rest))
  pub stands : t ≡ standing_after s done
  pub told : text' ≡ text ++ told_to s done

pub playing-none : (bytes : List ℕ) (s : Option Standing) (text : List ℕ) → Playing bytes bytes 1 s s text text
playing-none bytes s text = record { done = []; read = prefixed-nil (lines_in bytes); stands = refl; told = sym (append-nil text) }

-- one line more
pub playing-more : (bytes rest line others : List ℕ) (number : ℕ) (s t u : Option Standing) (text out new : List ℕ) (l : Line) → Playing bytes rest number s t text out
    → parts_of rest ≡ line ∷ parts_of others → line_of line ≡ Some l → u ≡ next t l → new ≡ out ++ said_to t l → Playing bytes others (number + 1) s u text new
playing-more bytes rest line others number s t u text out new l p parts is moved told = record {
  done = p.done ++ l ∷ [];
  read =
      p.read
      ∙ ap (λ ps. prefixed p.done (lines_from number ps)) parts
      ∙ ap (prefixed p.done) (from-line number line (parts_of others) (is_end-parts (λ byte. byte == 10) others))
      ∙ ap (λ o. prefixed p.done (then_lines number o (lines_from (number + 1) (parts_of others)))) is
      ∙ prefixed-line p.done number l (lines_from (number + 1) (parts_of others));
  stands = moved ∙ ap (λ x. next x l) p.stands ∙ sym (after-more s p.done l);
  told =
      told ∙ ap (λ x. x ++ said_to t l) p.told ∙ append_assoc text (told_to s p.done) (said_to t l)
      ∙ ap (λ x. text ++ (told_to s p.done ++ said_to x l)) p.stands ∙ ap (λ x. text ++ x) (sym (told-more s p.done l));
}

-- a line that is none
pub playing-wrong : (bytes rest line others : List ℕ) (number : ℕ) (s t : Option Standing) (text out : List ℕ) → Playing bytes rest number s t text out
    → parts_of rest ≡ line ∷ parts_of others → line_of line ≡ None → lines_in bytes ≡ Err number
playing-wrong bytes rest line others number s t text out p parts none =
    p.read
    ∙ ap (λ ps. prefixed p.done (lines_from number ps)) parts
    ∙ ap (prefixed p.done) (from-line number line (parts_of others) (is_end-parts (λ byte. byte == 10) others))
    ∙ ap (λ o. prefixed p.done (then_lines number o (lines_from (number + 1) (parts_of others)))) none

-- all lines
pub playing-all : (bytes rest line : List ℕ) (number : ℕ) (s t : Option Standing) (text out : List ℕ) → Playing bytes rest number s t text out
    → parts_of rest ≡ line ∷ [] → Plays bytes s t text out
playing-all bytes rest line number s t text out p parts = record {
  lines = p.done;
  read = p.read ∙ ap (λ ps. prefixed p.done (lines_from number ps)) parts ∙ ap Ok (append-nil p.done);
  stands = p.stands;
  told = p.told;
}
