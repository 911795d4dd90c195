-- How worlds begin, by numbers.
use Rattle.std.specs.Prelude.{◌≡◌, ℕ, ◌==◌, ◌&&◌, Bool, if◌then◌else◌, nat_le, Option, None, Some}
use Rattle.std.specs.declared.alloc.Global.{Global}
use Rattle.shm_place.specs.Limits.{max_frames, pages as max_pages}
use Rattle.shm_model.specs.Book.{max_sites}
use Rattle.shm_model.specs.World as model
use Rattle.shm_world.specs.World.{StandsFor}
use Rattle.shm_world.specs.declared.world.World.{World}

-- so many sites; so many pages of segment 0, 0 for no segment; so many frames at each site, 0 for any number
abbrev pub numbered_opening : ℕ → ℕ → ℕ → model.Opening
numbered_opening sites pages frames =
    if pages == 0 then model.New sites
    else if frames == 0 then model.Preset sites pages
    else model.Framed sites pages frames

abbrev pub is_opening : ℕ → ℕ → ℕ → Bool
is_opening sites pages frames = nat_le 1 sites && nat_le sites max_sites && nat_le pages max_pages && nat_le frames max_frames

-- a world was made, or memory was refused
abbrev pub Begun : Option (World Global) → model.World → ℕ → Type 0
Begun None w status = status ≡ 17
Begun (Some world) w status = (status ≡ 0) × StandsFor world w
