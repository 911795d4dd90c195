-- Rounds of steps, of which some are made at once.
use Rattle.std.proofs.Common.{◌≡◌, ℕ, zero, suc, ◌+◌, ◌-◌, ◌≤◌, Some, None, cond, refl, ap, ap₂, sym, ◌∙◌, arith}
use Rattle.std.specs.Option.{option_map_or}
use Rattle.std.specs.Prelude.{is_some, option_map}
use Rattle.shm_process.specs.Desk.{Desk, all_made, made_again, with_again}
use Rattle.shm_process.specs.Node.{Node, Said}
use Rattle.shm_process.specs.Waiting.{again_at, ready, said_again, says_at}

module _ (d : Desk) (at : ℕ) (first : ready d.node ≡ Some at) where
  said-is : said_again d.node ≡ Some (says_at d.node at)
  said-is = ap (option_map (says_at d.node)) first

  -- the step of the ask that can be made first
  pub one_made : (x : Desk) (next : Node) (said : Said) → next ≡ again_at d.node at → said ≡ says_at d.node at
      → x ≡ with_again (record d { node = next }) (Some said) → x ≡ made_again d
  one_made x next said after is e =
      e ∙ ap₂ (λ n o. with_again (record d { node = n }) o) (after ∙ sym (ap (λ p. option_map_or (again_at d.node) p d.node) first)) (ap Some is ∙ sym said-is)

  -- a round is made
  pub round_is : (n left : ℕ) (x : Desk) → left ≡ suc n → x ≡ made_again d → all_made n x ≡ all_made left d
  unfolding all_made
  round_is n left x more is =
      ap (all_made n) is ∙ sym (ap (λ s. cond (is_some s) (all_made n (made_again d)) d) said-is) ∙ ap (λ m. all_made m d) (sym more)

-- no more can be made
pub none_more : (n : ℕ) (d : Desk) → ready d.node ≡ None → all_made n d ≡ d
unfolding all_made
none_more zero d none = refl
none_more (suc n) d none = ap (λ s. cond (is_some s) (all_made n (made_again d)) d) (ap (option_map (says_at d.node)) none)

pub none_whole : (n : ℕ) (d whole : Desk) → ready d.node ≡ None → all_made n d ≡ whole → d ≡ whole
none_whole n d whole none e = sym (none_more n d none) ∙ e

-- so many are made at once
pub rounds_are : (made left : ℕ) (d x : Desk) → made ≤ left → ((k : ℕ) → all_made (made + k) d ≡ all_made k x) → all_made (left - made) x ≡ all_made left d
rounds_are made left d x few all =
    let whole : made + (left - made) ≡ left = omega (arith, few) in sym (all (left - made)) ∙ ap (λ n. all_made n d) whole
