-- Where sites sit.
use Rattle.std.specs.Prelude.{◌≡◌, ℕ, List, Some, slice_get}
use Rattle.shm_site.specs.declared.site.Site.{Site}

-- each site sits at its number, and knows how many there are
abbrev pub Seated : {A : Type 0} → ℕ → List (Site A) → Type 0
Seated count sites = (s : ℕ) (site : Site _) → slice_get sites s ≡ Some site → (site.sites ≡ count) × (site.me ≡ s)
