-- Words that name a file, or don't.
use Rattle.std.proofs.Common.{◌≡◌, ◌∙◌, ◌⊎◌, inl, inr, ℕ, ◌&&◌, Bool, true, false, not, if◌then◌else◌, List, None, Some, refl, sym, ap}
use Rattle.std.specs.List.{list_any}
use Rattle.std.specs.Str.{is_utf8, IsUtf8}
use Rattle.std.proofs.lemmas.Bool.{cases_Bool}
use Rattle.std.proofs.lemmas.Str.{is_utf8-from_IsUtf8, IsUtf8-from_is_utf8}
use Rattle.shm_prompt.specs.Saves.{is_control, name_in}

not_utf8 : (bs : List ℕ) → ¬ (IsUtf8 bs) → is_utf8 bs ≡ false
not_utf8 bs n = go (cases_Bool (is_utf8 bs))
  where
    go : (is_utf8 bs ≡ true) ⊎ (is_utf8 bs ≡ false) → is_utf8 bs ≡ false
    go (inl e) = absurd (n (IsUtf8-from_is_utf8 bs e))
    go (inr e) = e

neither : (b : Bool) (bs : List ℕ) → (if b && false then Some bs else None) ≡ None
neither true bs = refl
neither false bs = refl

pub no_name : (bs : List ℕ) → ¬ (IsUtf8 bs) → None ≡ name_in bs
no_name bs n =
    sym (ap (λ u. if not (list_any is_control bs) && u then Some bs else None) (not_utf8 bs n)
    ∙ neither (not (list_any is_control bs)) bs)

pub one_name : (bs name : List ℕ) → name ≡ bs → IsUtf8 bs → false ≡ list_any is_control bs → Some name ≡ name_in bs
one_name bs name same u plain =
    ap Some same
    ∙ sym (ap (λ b. if not b && is_utf8 bs then Some bs else None) (sym plain)
    ∙ ap (λ b. if b then Some bs else None) (is_utf8-from_IsUtf8 bs u))
