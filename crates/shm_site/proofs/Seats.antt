-- What holdings say of the site that they know they are of, said of the site that has them.
use Rattle.std.proofs.Common.{◌≡◌, ℕ, Option, Result}
use Rattle.shm_place.specs.declared.page_id.PageId.{PageId}
use Rattle.shm_model.specs.Access.{load, store}
use Rattle.shm_model.specs.Calls.{Attachment}
use Rattle.shm_model.specs.Entry as model
use Rattle.shm_model.specs.Site.{Site}
use Rattle.shm_model.specs.Transfer.{to_entry}
use Rattle.shm_attach.specs.Attachments.{with_attachments}
use Rattle.shm_attach.specs.declared.access_error.Denied.{Denied}
use Rattle.shm_parts.specs.Entries.{row}
use Rattle.shm_parts.specs.Holdings.{held_entries, stored_step, loaded_step, turned_step, with_holdings}
use Rattle.shm_parts.specs.declared.entry_change.Change.{Change}
use Rattle.shm_parts.specs.declared.holdings.Holdings.{Holdings}
use Rattle.shm_parts.specs.declared.message.Envelope.{Envelope}
use Rattle.shm_parts.specs.declared.access_outcome.StoreOutcome.{StoreOutcome}
use Rattle.shm_parts.specs.declared.access_outcome.LoadOutcome.{LoadOutcome}
use Rattle.shm_parts.proofs.Held.{seated}

module _ {A : Type 0} (sites me sites2 me2 : ℕ) (all : sites2 ≡ sites) (own : me2 ≡ me) (old new : Holdings A) (site : Site) where
  pub load_here : (at offset : ℕ) (result : Result LoadOutcome Denied)
      → load sites2 me2 at offset (with_holdings sites2 me2 old site) ≡ loaded_step sites2 me2 result (with_holdings sites2 me2 old site)
      → load sites me at offset (with_holdings sites me old site) ≡ loaded_step sites me result (with_holdings sites me old site)
  load_here at offset result =
      seated (λ n m. load n m at offset (with_holdings n m old site) ≡ loaded_step n m result (with_holdings n m old site)) sites me sites2 me2 all own

  pub store_here : (at offset byte : ℕ) (result : Result StoreOutcome Denied)
      → store sites2 me2 at offset byte (with_holdings sites2 me2 old site) ≡ stored_step sites2 me2 result (with_holdings sites2 me2 new site)
      → store sites me at offset byte (with_holdings sites me old site) ≡ stored_step sites me result (with_holdings sites me new site)
  store_here at offset byte result =
      seated (λ n m. store n m at offset byte (with_holdings n m old site) ≡ stored_step n m result (with_holdings n m new site)) sites me sites2 me2 all own

  pub attached_here : (attachments : ℕ → Option Attachment)
      → with_holdings sites2 me2 new site ≡ with_attachments attachments (with_holdings sites2 me2 old site)
      → with_holdings sites me new site ≡ with_attachments attachments (with_holdings sites me old site)
  attached_here attachments =
      seated (λ n m. with_holdings n m new site ≡ with_attachments attachments (with_holdings n m old site)) sites me sites2 me2 all own

  pub same_here : with_holdings sites2 me2 new site ≡ with_holdings sites2 me2 old site → with_holdings sites me new site ≡ with_holdings sites me old site
  same_here = seated (λ n m. with_holdings n m new site ≡ with_holdings n m old site) sites me sites2 me2 all own

  pub turned_here : (page : PageId) (note : model.Note) (sent : Option (Envelope A × Change))
      → to_entry sites2 me2 page (row me2 note (held_entries sites2 me2 old page)) (with_holdings sites2 me2 old site) ≡ turned_step page sent (with_holdings sites2 me2 new) site
      → to_entry sites me page (row me note (held_entries sites me old page)) (with_holdings sites me old site) ≡ turned_step page sent (with_holdings sites me new) site
  turned_here page note sent =
      seated (λ n m. to_entry n m page (row m note (held_entries n m old page)) (with_holdings n m old site) ≡ turned_step page sent (with_holdings n m new) site) sites me sites2 me2 all own
