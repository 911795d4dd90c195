use Rattle.std.proofs.Common.{◌≡◌, ◌∙◌, ℕ, Option, None, Some, ap, map, refl, sym}
use Rattle.std.specs.List.{range_with_len}
use Rattle.shm_model.specs.World.{opened_site, sites_of}
use Rattle.shm_model.specs.Opening.{opening_of, opening_with}
use Rattle.shm_world.proofs.world.World.begin.Goals as goal

all_begin : (n : ℕ) (preset frames : Option ℕ) → sites_of (opening_with n preset frames) ≡ n
all_begin n None frames = refl
all_begin n (Some pages) None = refl
all_begin n (Some pages) (Some frames) = refl

pub returns : goal.returns
returns g c =
    let o = opening_of c.args.opening.now in
    let all = all_begin c.args.opening.now.sites c.args.opening.now.preset c.args.opening.now.frames in
    record {
      count = all ∙ sym c.in_ok-members.ensures.count;
      sites = ap (λ n. map (opened_site o) (range_with_len 0 n)) all ∙ sym c.in_ok-members.ensures.sites;
      carries = c.new.ensures;
      unsent = λ k h. refl;
    }
