-- How the sites of a world begin, as the code has it.
use Rattle.std.specs.Prelude.{ℕ, Option, None, Some}
use Rattle.shm_model.specs.World as model
use Rattle.shm_model.specs.declared.world_opening.Opening.{Opening}

-- the opening of so many sites; with so many pages of segment 0, if any; and with so many frames at each site, if any, beside pages alone
abbrev pub opening_with : ℕ → Option ℕ → Option ℕ → model.Opening
opening_with sites None frames = model.New sites
opening_with sites (Some pages) None = model.Preset sites pages
opening_with sites (Some pages) (Some frames) = model.Framed sites pages frames

abbrev pub opening_of : Opening → model.Opening
opening_of opening = opening_with opening.sites opening.preset opening.frames
