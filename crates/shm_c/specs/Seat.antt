-- A site behind a handle: how many sites there are, its number, the site, and what its last step sent.
use Rattle.std.specs.Prelude.{◌≡◌, ℕ, ◌<◌, if◌then◌else◌, nat_le, List, [], ◌++◌, length, map, drop, slice_get, Option, None, Some, option_map}
use Rattle.shm_place.specs.declared.page_id.PageId.{PageId}
use Rattle.shm_place.specs.Page.{in_limits}
use Rattle.shm_model.specs.declared.answer.Access.{Access}
use Rattle.shm_model.specs.declared.answer.Shown.{Shown}
use Rattle.shm_model.specs.Message.{Envelope}
use Rattle.shm_model.specs.Site.{Site}
use Rattle.shm_model.specs.World.{Opening, opened_site, sites_of}
use Rattle.shm_parts.specs.Holdings.{access_of, shown_of}
use Rattle.shm_parts.specs.Message.{envelope_of}
use Rattle.shm_site.specs.Site.{site_of}
use Rattle.shm_wire.specs.Sent.{envelope_line}
use Rattle.shm_c.specs.declared.held_site.HeldSite.{HeldSite}

pub record Seat : Type 0 where
  pub sites : ℕ
  pub me : ℕ
  pub site : Site
  pub sent : List Envelope

abbrev pub seat_of : HeldSite → Seat
seat_of held = record { sites = held.site.sites; me = held.site.me; site = site_of held.site; sent = map envelope_of held.sent.items }

-- that of a handle, which may be empty
abbrev pub seat_in : Option HeldSite → Option Seat
seat_in None = None
seat_in (Some held) = Some (seat_of held)

-- a site at which nothing has happened
abbrev pub begun_seat : Opening → ℕ → Seat
begun_seat opening me = record { sites = sites_of opening; me = me; site = opened_site opening me; sent = [] }

-- the handle has this site, or memory was refused and it has none
abbrev pub Seated : Option Seat → Seat → ℕ → Type 0
Seated None seat status = status ≡ 17
Seated (Some made) seat status = (status ≡ 0) × (made ≡ seat)

-- ---- what it shows

abbrev pub seat_access : Seat → PageId → Option Access
seat_access seat page = if in_limits seat.sites page then Some (access_of (seat.site.entries page)) else None

abbrev pub seat_shown : Seat → PageId → Option Shown
seat_shown seat page = if in_limits seat.sites page then Some (shown_of (seat.site.purged page.seg) (seat.site.entries page)) else None

abbrev pub sent_in : Option Seat → List Envelope
sent_in None = []
sent_in (Some seat) = seat.sent

-- ---- the lines of what it sent

-- an envelope's line; the clock and the index are 0, since a handle keeps no log
abbrev pub line_from : ℕ → Envelope → List ℕ
line_from place envelope = envelope_line (record { source = record { at = 0; index = 0; place = place }; envelope = envelope })

abbrev pub line_at : ℕ → Seat → Option (List ℕ)
line_at place seat = option_map (line_from place) (slice_get seat.sent place)

abbrev pub line_in : ℕ → Option Seat → Option (List ℕ)
line_in place None = None
line_in place (Some seat) = line_at place seat

-- the buffer with the line at its front, where it has room
abbrev pub with_line : List ℕ → List ℕ → List ℕ
with_line line buffer = if nat_le (length line) (length buffer) then line ++ drop (length line) buffer else buffer

-- the length is the line's, and the buffer has it where it has room; or it is 0, and nothing was written
abbrev pub Printed : List ℕ → List ℕ → List ℕ → ℕ → Type 0
Printed line old new n = (n ≡ 0 → new ≡ old) × (0 < n → (n ≡ length line) × (new ≡ with_line line old))
