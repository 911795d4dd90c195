use Rattle.std.proofs.Common.{◌≡◌, ℕ}
use Rattle.std.specs.List.{AllZip}
use Rattle.std.proofs.lemmas.Map.Entries.{entries_from_clone}
use Rattle.shm_keys.proofs.copy_table.copy_keys.Goals as goal

pub returns-in-Ok : goal.returns-in-Ok
returns-in-Ok g c =
    let clones : AllZip (λ (p q : ℕ × ℕ). (q.0 ≡ p.0) × (q.1 ≡ p.1)) c.args.keys.now.entries c.in-Ok.copy.entries = c.in-Ok.ensures.cases in
    entries_from_clone {K = ℕ} {X = ℕ} (λ x y. y ≡ x) (λ v w. w ≡ v) (λ x y h. h) (λ v w h. h) c.args.keys.now.entries c.in-Ok.copy.entries clones
