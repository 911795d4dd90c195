use Rattle.std.proofs.Common.{ap, is_some}
use Rattle.std.proofs.Math.Path.{fun_ext}
use Rattle.std.specs.Map.{lookup}
use Rattle.shm_place.specs.Page.{same_page}
use Rattle.shm_parts.specs.Entries.{entry_or}
use Rattle.shm_parts.proofs.page_entries.Entries.new.Goals as goal

pub returns-clause-entries : goal.returns-clause-entries
returns-clause-entries g c rest = fun_ext (λ q. ap (λ es. entry_or (rest q) (lookup (same_page q) es)) c.new.ensures.empty)

pub returns-clause-stored : goal.returns-clause-stored
returns-clause-stored g c = fun_ext (λ q. ap (λ es. is_some (lookup (same_page q) es)) c.new.ensures.empty)
