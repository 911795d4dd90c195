-- The fields that a row changes, against the book that the definitions make.
use Rattle.std.proofs.Common.{◌≡◌, ℕ, ◌+◌, ◌<◌, Bool, false, Some, max, if◌then◌else◌, ◌==◌, ap, refl, arith, List, true}
use Rattle.std.proofs.lemmas.Bool.Decides.{nat_tests}
use Rattle.shm_number.specs.Served.{taken}
use Rattle.shm_model.specs.declared.request_kind.Kind.{Kind}
use Rattle.shm_model.specs.Book.{Book, started}
use Rattle.shm_model.specs.Basics.{at}
use Rattle.shm_place.specs.SiteSet.{has}

pub taken-fresh : (served : ℕ → ℕ) (site request : ℕ) → served site < request → taken served site request ≡ at served site request
taken-fresh served site request fresh =
    let greatest : max (served site) request ≡ request = grind (arith, nat_tests) in
    ap {B = ℕ → ℕ} (λ (m : ℕ) (j : ℕ). if site == j then m else served j) greatest

pub started_by : (site request : ℕ) (kind : Kind) (b : Book) (cleared : ℕ → Bool) (served : ℕ → ℕ) → cleared ≡ (λ _. false) → served ≡ at b.served site request → record b { number = b.number + 1; running = Some (record { kind = kind; requester = site }); cleared = cleared; served = served } ≡ started site request kind b
started_by site request kind b cleared served none_cleared now_served = rw (none_cleared, now_served) refl

-- a set to which a site was added
pub added : (old new : List Bool) (site : ℕ) → has new ≡ (λ other. if site == other then true else has old other) → has new ≡ at (has old) site true
added old new site is = is
