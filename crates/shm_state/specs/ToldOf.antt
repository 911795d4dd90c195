-- What the code has of a state that is told part by part.
use Rattle.std.specs.Prelude.{◌≡◌, Result, OnErr, OnOk, IfErr, Option, None}
use Rattle.std.specs.Map.{keys_of}
use Rattle.shm_model.specs.Site.{Site, new_site}
use Rattle.shm_number.specs.Kept.{kept_at}
use Rattle.shm_attach.specs.CallBook.{outstanding_of}
use Rattle.shm_attach.specs.Home.{kept_of}
use Rattle.shm_keys.specs.Table.{missing_of}
use Rattle.shm_parts.specs.Books.{with_books}
use Rattle.shm_parts.specs.Holdings.{with_holdings}
use Rattle.shm_site.specs.State.{site_from}
use Rattle.shm_state.specs.Part.{Part}
use Rattle.shm_state.specs.Told as state
use Rattle.shm_state.specs.Told.{IsWhy, told_with}
use Rattle.shm_state.specs.declared.take_fault.TakeFault.{TakeFault}
use Rattle.shm_state.specs.declared.told_state.Told.{Told}

-- the site that the parts make
abbrev pub told_site : {A : Type 0} → Told A → Site
told_site told = with_holdings told.sites told.me told.holdings (with_books told.me told.books (record (new_site told.sites told.me) {
  requests = told.requests;
  calls = told.begun;
  outstanding = outstanding_of told.outstanding;
  table = told.table.segments;
  kept = kept_of told.kept;
  missing = missing_of told.table;
}))

-- it is the site that the state makes; and what of the state a site doesn't show
pub record Tells {A : Type 0} (told : Told A) (said : state.Told) : Type 0 where
  pub last : told.last ≡ said.last
  pub site : told_site told ≡ site_from told.sites told.me said.state
  pub kept : kept_at told.kept ≡ kept_at said.state.kept
  pub missing : told.table.missing ≡ said.state.missing
  pub pages : told.pages.keys ≡ keys_of said.state.entries

-- the part was taken; or it wasn't, for this reason, and nothing changed
pub record Takes {A X : Type 0} (part : Part) (said : state.Told) (found : Option TakeFault) (result : Result X TakeFault) (new : Told A) : Type 0 where
  pub right : OnOk result (found ≡ None)
  pub why : IfErr result (λ fault. IsWhy part fault found)
  pub taken : OnOk result (Tells new (told_with part said))
  pub refused : OnErr result (Tells new said)

-- the site's number, and how many there are, stay
abbrev pub SameSeat : {A : Type 0} → Told A → Told A → Type 0
SameSeat old new = (new.sites ≡ old.sites) × (new.me ≡ old.me)
