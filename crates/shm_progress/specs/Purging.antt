-- What was destroyed is purged: this repository's own.
use Rattle.std.specs.Prelude.{◌≡◌, ℕ, true, ◌⊎◌, Some, slice_get}
use Rattle.shm_model.specs.Message.{Envelope, Purged}
use Rattle.shm_model.specs.SegmentCalls.{purge_envelope}
use Rattle.shm_model.specs.Site.{Site}
use Rattle.shm_model.specs.World.{World}
use Rattle.shm_progress.specs.OnTheWay.{IsOnItsWay}

-- the site's answer to its home that it has purged the segment
abbrev pub purged_envelope : ℕ → ℕ → ℕ → Envelope
purged_envelope site id home = record { from = site; to = home; message = Purged id }

-- the site is being asked to purge the segment, or its answer is on its way
abbrev pub IsBeingPurged : World → ℕ → ℕ → ℕ → Type 0
IsBeingPurged w home id site = IsOnItsWay w (purge_envelope home id site) ⊎ IsOnItsWay w (purged_envelope site id home)

-- each site that hasn't answered this home's purge yet is being purged
abbrev pub PurgesGoOn : World → ℕ → Type 0
PurgesGoOn w home = (x : Site) (id site : ℕ) → slice_get w.sites home ≡ Some x → x.missing id site ≡ true → IsBeingPurged w home id site
