-- The managers of pages that stand next to each other.
use Rattle.std.proofs.Common.{◌≡◌, ◌∙◌, ◌+◌, ◌%◌, ℕ, suc, sym, ap, arith}
use Rattle.std.proofs.Math.Nat.{suc-mod}
use Rattle.std.proofs.Math.Numerals.{add-one}
use Rattle.shm_place.specs.Page.{manager_of}

-- the next page's manager is the next site
pub manager_behind : (sites seg index manager : ℕ) → manager ≡ manager_of sites (record { seg = seg; index = index })
    → (manager + 1) % sites ≡ manager_of sites (record { seg = seg; index = index + 1 })
manager_behind sites seg index manager is =
    let page : suc (seg + index) ≡ seg + (index + 1) = omega arith in
    ap (λ n. n % sites) (add-one manager)
    ∙ ap (λ n. suc n % sites) is
    ∙ sym (suc-mod (seg + index) sites)
    ∙ ap (λ n. n % sites) page
