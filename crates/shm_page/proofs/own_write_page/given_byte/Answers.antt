use Rattle.std.proofs.Common.{◌∙◌, [], ap, sym, slice_index}
use Rattle.std.proofs.lemmas.List.{get_or-replicate}
use Rattle.shm_place.specs.Limits.{page_bytes}
use Rattle.shm_model.specs.Site.{blank}
use Rattle.shm_page.specs.State.{owned_bytes}
use Rattle.shm_page.proofs.own_write_page.given_byte.Goals as goal

pub returns-in-None : goal.returns-in-None
unfolding blank
returns-in-None g c =
    sym (ap (λ given. slice_index (owned_bytes given []) c.args.at) c.in-None.is ∙ get_or-replicate page_bytes c.args.at 0 0 c.requires.within)
