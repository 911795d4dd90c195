-- The site that is told is the one that a restart leaves.
use Rattle.std.proofs.Common.{◌≡◌, ◌∙◌, ℕ, Bool, Option, None, Some, length, refl, ap, sym}
use Rattle.std.proofs.lemmas.Option.{none-some}
use Rattle.shm_model.specs.Site.{Frames, untouched}
use Rattle.shm_attach.specs.Home.{kept_reply}
use Rattle.shm_parts.specs.Holdings.{held_frames}
use Rattle.shm_parts.specs.Listed.{filled, limit_held, purged_in, purged_list, stored_list}
use Rattle.shm_parts.specs.Purged.{purged_of}
use Rattle.shm_parts.proofs.Held.{masked}
use Rattle.shm_site.specs.State.{site_from, state_of}
use Rattle.shm_site.specs.declared.site.Site.{Site}
use Rattle.shm_state.proofs.Tellings.{below_all, swept}
use Rattle.shm_state.specs.Telling.{alive, told_of}

pub unlimited : (frames : Option Frames) → limit_held frames ≡ None → frames ≡ None
unlimited None none = refl
unlimited (Some frames) none = absurd (none-some frames.limit (sym none))

pub told_same : {A : Type 0} (site : Site A) → held_frames site.holdings.frames ≡ None → length site.holdings.attachments ≡ 64 → length site.home.kept ≡ 16
    → purged_in (purged_list site.holdings.purged) ≡ purged_of site.holdings.purged
    → site_from site.sites site.me (told_of site) ≡ site_from site.sites site.me (state_of site)
told_same site unlimited numbers sites listed =
    let held = site.holdings in
    let first = untouched site.sites site.me in
    let entries : masked (purged_in (purged_list held.purged)) (filled first (alive (purged_of held.purged) (stored_list held.entries)))
    ≡ masked (purged_in (purged_list held.purged)) (filled first (stored_list held.entries)) =
    ap (λ (p : ℕ → Bool). masked (purged_in (purged_list held.purged)) (filled first (alive p (stored_list held.entries)))) (sym listed)
    ∙ swept (purged_in (purged_list held.purged)) first first (stored_list held.entries) refl in
    let attachments = below_all held.attachments 64 numbers in
    let kept = below_all site.home.kept 16 sites in
    λ i. record (site_from site.sites site.me (state_of site)) {
      entries = entries i;
      attachments = attachments i;
      kept = λ j. kept_reply (kept i j);
      frames = sym unlimited i;
    }
