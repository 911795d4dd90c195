use Rattle.std.proofs.Common.{◌∙◌, ℕ, None, ap, length}
use Rattle.std.proofs.lemmas.List.{length-replicate}
use Rattle.shm_place.specs.Limits.{page_bytes}
use Rattle.shm_model.specs.Site.{blank}
use Rattle.shm_page.specs.State.{owned_bytes}
use Rattle.shm_page.proofs.own_write_page.OwnWritePage.blank.Goals as goal

pub invariant_of-result : goal.invariant_of-result
unfolding blank
invariant_of-result g c = (
  ap (λ own. length (owned_bytes None own)) c.in_ok-own.ensures.items ∙ length-replicate {A = ℕ} page_bytes 0,
  c.in_ok-own.ensures.capacity,
  tt,
)
