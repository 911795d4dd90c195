-- What a site's machine maps, from one life of the site to the next.
use Rattle.std.proofs.Common.{◌≡◌, false, List, [], ◌∷◌, ◌++◌, refl, sym, ap, ◌∙◌}
use Rattle.shm_process.specs.Desk.{restarted}
use Rattle.shm_process.specs.Node.{Node}
use Rattle.shm_process.specs.Recorded.{Event, after_events, kept}
use Rattle.shm_process.specs.declared.process_counts.Start.{Start}
use Rattle.shm_seal.specs.Seal.{Seal}
use Rattle.shm_journal.proofs.StateLeads.{made, made_is}
use Rattle.shm_journal.specs.Begun.{IsKeptSite, KeptSite}
use Rattle.shm_journal.specs.DeskFrom.{desk_from}
use Rattle.shm_journal.specs.Lines.{Header}
use Rattle.shm_journal.specs.Lives.{after_lives}

last-kept : (lives : List (List Event)) (life : List Event) (node : Node) → after_lives node (lives ++ life ∷ []) ≡ kept (after_events (after_lives node lives) life)
last-kept [] life node = refl
last-kept (first ∷ lives) life node = last-kept lives life (kept (after_events node first))

begins-mapped : (header : Header) (seal : Seal) (node : Node) (start : Start) → (desk_from header seal false node start).node.mapped ≡ node.mapped
unfolding restarted
begins-mapped header seal node start = refl

pub mapped_from : (header : Header) (seal : Seal) (node : Node) (start : Start) (lives : List (List Event)) (life : List Event)
    → (desk_from header seal false (after_lives node (lives ++ life ∷ [])) start).node.mapped ≡ (after_events (after_lives node lives) life).mapped
mapped_from header seal node start lives life =
    begins-mapped header seal (after_lives node (lives ++ life ∷ [])) start ∙ ap (λ (n : Node). n.mapped) (last-kept lives life node)

-- a state tells what is mapped
pub mapped_state : (header : Header) (seal : Seal) (start : Start) (site : KeptSite) (node : Node) → IsKeptSite header site node
    → (desk_from header seal false node start).node.mapped ≡ site.mapped
mapped_state header seal start site node is =
    let m = made header site node is in
    begins-mapped header seal node start
    ∙ sym (ap (λ (n : Node). n.mapped) (made_is (record m.all { mapped = site.mapped }) site.ending node m.makes))
