-- What is purged somewhere is so after each step.
use Rattle.std.proofs.Common.{◌≡◌, ◌≢◌, ℕ, ◌⊎◌, inl, inr, Bool, true, Option, Some, slice_get, sym, ◌∙◌, ap}
use Rattle.std.proofs.lemmas.Bool.{cases_eq}
use Rattle.shm_model.specs.Message.{Input}
use Rattle.shm_model.specs.Site.{Site, Step}
use Rattle.shm_model.specs.Step.{step}
use Rattle.shm_model.specs.World.{World, stepped}
use Rattle.shm_laws.proofs.Sound.{set-here, set-there}
use Rattle.shm_progress.specs.Transactions.{IsPurgedSomewhere}
use Rattle.shm_progress.proofs.Transfer.Steps.{step-gone}

same-site : (found : Option Site) (x y : Site) → found ≡ Some x → found ≡ Some y → x ≡ y
same-site found x y p q = cc

module _ (w : World) (gone : ℕ → Bool) (s : ℕ) (x : Site) (input : Input) (found : slice_get w.sites s ≡ Some x) where
  abbrev st : Step
  st = step w.count s x input

  abbrev u : World
  u = (stepped (record w { gone = gone }) s input st).world

  pub purged-here : (id : ℕ) → x.purged id ≡ true → IsPurgedSomewhere u id
  purged-here id is = (s, st.site, set-here w.sites s x st.site found, step-gone w.count s x id is input)

  pub purged-still : (id : ℕ) → IsPurgedSomewhere w id → IsPurgedSomewhere u id
  purged-still id (t, y, at, is) = by-site (cases_eq t s)
    where
      by-site : (t ≡ s) ⊎ (t ≢ s) → IsPurgedSomewhere u id
      by-site (inl here) = purged-here id (ap (λ (z : Site). z.purged id) (same-site (slice_get w.sites s) x y found (ap (slice_get w.sites) (sym here) ∙ at)) ∙ is)
      by-site (inr there) = (t, y, set-there w.sites s t st.site there ∙ at, is)
