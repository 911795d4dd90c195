-- What a load or a store would do at once.
use Rattle.std.proofs.Common.{◌≡◌, ◌∙◌, ℕ, ◌==◌, ◌&&◌, not, Bool, true, false, Option, Some, None, Result, Ok, Err, ap, cond, refl, sym, slice_index}
use Rattle.shm_place.specs.declared.page_id.PageId.{PageId}
use Rattle.shm_model.specs.Access.{Place, asked, is_pending, load, right, store, store_if, stored_entry}
use Rattle.shm_model.specs.Basics.{at_page, greatest}
use Rattle.shm_model.specs.Entry.{writable}
use Rattle.shm_model.specs.Refusal.{numbers_used_up}
use Rattle.shm_model.specs.Site.{Site, Step, still}
use Rattle.shm_model.specs.declared.answer.Answer.{Answer}
use Rattle.shm_model.specs.declared.answer.Answer.TheVariants.{Fault, Refused, Stored, Waiting}
use Rattle.shm_model.specs.declared.request_kind.Kind.{Kind}
use Rattle.shm_model.specs.declared.request_kind.Kind.TheVariants.{Read, Write}
use Rattle.shm_attach.specs.declared.access_error.Denied.{Denied}
use Rattle.shm_parts.specs.Holdings.{loaded_step}
use Rattle.shm_parts.specs.Reached.{page_reached}
use Rattle.shm_parts.specs.declared.access_outcome.LoadOutcome.{LoadOutcome}
use Rattle.shm_parts.specs.declared.access_outcome.LoadOutcome.TheVariants.{Byte, Absent}
use Rattle.shm_site.specs.AtOnce.{byte_given, is_stored, waits}

-- ---- an access without the right

asks-byte : (pending used : Bool) (site : Site) (anew : Step) → anew.answer ≡ Fault
    → byte_given (cond pending (still Waiting site) (cond used (still (Refused numbers_used_up) site) anew)).answer ≡ None
asks-byte true used site anew h = refl
asks-byte false true site anew h = refl
asks-byte false false site anew h = ap byte_given h

asks-stored : (pending used : Bool) (site : Site) (anew : Step) → anew.answer ≡ Fault
    → is_stored (cond pending (still Waiting site) (cond used (still (Refused numbers_used_up) site) anew)).answer ≡ false
asks-stored true used site anew h = refl
asks-stored false true site anew h = refl
asks-stored false false site anew h = ap is_stored h

asks-waits : (pending used : Bool) (site : Site) (anew : Step) → anew.answer ≡ Fault
    → waits (cond pending (still Waiting site) (cond used (still (Refused numbers_used_up) site) anew)).answer ≡ pending
asks-waits true used site anew h = refl
asks-waits false true site anew h = refl
asks-waits false false site anew h = ap waits h

-- ---- a load

-- the byte of its outcome
abbrev pub byte_in : Result LoadOutcome Denied → Option ℕ
byte_in (Ok (Byte byte)) = Some byte
byte_in (Ok (Absent page)) = None
byte_in (Err denied) = None

-- it waits for a page that was asked for before
abbrev pub waits_in : Site → Result LoadOutcome Denied → Bool
waits_in site (Ok (Byte byte)) = false
waits_in site (Ok (Absent page)) = is_pending Read page site.pending
waits_in site (Err denied) = false

loaded-byte : (sites me : ℕ) (site : Site) (r : Result LoadOutcome Denied) → byte_given (loaded_step sites me r site).answer ≡ byte_in r
loaded-byte sites me site (Ok (Byte byte)) = refl
loaded-byte sites me site (Ok (Absent page)) =
    asks-byte (is_pending Read page site.pending) (site.requests == greatest) site (asked sites me Read page site) refl
loaded-byte sites me site (Err denied) = refl

loaded-waits : (sites me : ℕ) (site : Site) (r : Result LoadOutcome Denied) → waits (loaded_step sites me r site).answer ≡ waits_in site r
loaded-waits sites me site (Ok (Byte byte)) = refl
loaded-waits sites me site (Ok (Absent page)) =
    asks-waits (is_pending Read page site.pending) (site.requests == greatest) site (asked sites me Read page site) refl
loaded-waits sites me site (Err denied) = refl

module _ (sites me at offset : ℕ) (site : Site) (r : Result LoadOutcome Denied) (loads : load sites me at offset site ≡ loaded_step sites me r site) where
  pub byte_loaded : (o : Result LoadOutcome Denied) → r ≡ o → byte_in o ≡ byte_given (load sites me at offset site).answer
  byte_loaded o is = sym (ap (λ (s : Step). byte_given s.answer) loads ∙ loaded-byte sites me site r ∙ ap byte_in is)

  pub load_waits : (o : Result LoadOutcome Denied) → r ≡ o → waits_in site o ≡ waits (load sites me at offset site).answer
  load_waits o is = sym (ap (λ (s : Step). waits s.answer) loads ∙ loaded-waits sites me site r ∙ ap (waits_in site) is)

-- ---- a store

store-here : (may pending used : Bool) (site stored : Site) (anew : Step) → anew.answer ≡ Fault
    → is_stored (cond may (still Stored stored) (cond pending (still Waiting site) (cond used (still (Refused numbers_used_up) site) anew))).answer ≡ may
store-here true pending used site stored anew h = refl
store-here false pending used site stored anew h = asks-stored pending used site anew h

store-there : (may pending used : Bool) (site stored : Site) (anew : Step) → anew.answer ≡ Fault
    → waits (cond may (still Stored stored) (cond pending (still Waiting site) (cond used (still (Refused numbers_used_up) site) anew))).answer ≡ (not may && pending)
store-there true pending used site stored anew h = refl
store-there false pending used site stored anew h = asks-waits pending used site anew h

module _ (sites me byte : ℕ) (site : Site) where
  abbrev stored : Place → Site
  stored p = record site { entries = at_page site.entries p.page (stored_entry p.within byte (site.entries p.page)) }

  abbrev stored_through : Option PageId → Bool
  stored_through None = false
  stored_through (Some page) = writable (site.entries page)

  abbrev waits_through : Option PageId → Bool
  waits_through None = false
  waits_through (Some page) = not (writable (site.entries page)) && is_pending Write page site.pending

  place-stored : (r : Result Place ℕ) → is_stored (store_if sites me r byte site).answer ≡ stored_through (page_reached r)
  place-stored (Err refusal) = refl
  place-stored (Ok p) =
      store-here (writable (site.entries p.page)) (is_pending Write p.page site.pending) (site.requests == greatest) site (stored p)
      (asked sites me Write p.page site) refl

  place-waits : (r : Result Place ℕ) → waits (store_if sites me r byte site).answer ≡ waits_through (page_reached r)
  place-waits (Err refusal) = refl
  place-waits (Ok p) =
      store-there (writable (site.entries p.page)) (is_pending Write p.page site.pending) (site.requests == greatest) site (stored p)
      (asked sites me Write p.page site) refl

  pub store_made : (at offset : ℕ) (page : PageId) (may : Bool) → page_reached (right site.attachments at offset true) ≡ Some page
      → may ≡ writable (site.entries page) → may ≡ is_stored (store sites me at offset byte site).answer
  store_made at offset page may is can =
      can ∙ sym (place-stored (right site.attachments at offset true) ∙ ap stored_through is)

  pub none_made : (at offset : ℕ) → page_reached (right site.attachments at offset true) ≡ None → false ≡ is_stored (store sites me at offset byte site).answer
  none_made at offset is = sym (place-stored (right site.attachments at offset true) ∙ ap stored_through is)

  pub store_waits : (at offset : ℕ) (page : PageId) (may : Bool) → page_reached (right site.attachments at offset true) ≡ Some page
      → may ≡ (not (writable (site.entries page)) && is_pending Write page site.pending) → may ≡ waits (store sites me at offset byte site).answer
  store_waits at offset page may is can =
      can ∙ sym (place-waits (right site.attachments at offset true) ∙ ap waits_through is)

  pub none_waits : (at offset : ℕ) → page_reached (right site.attachments at offset true) ≡ None → false ≡ waits (store sites me at offset byte site).answer
  none_waits at offset is = sym (place-waits (right site.attachments at offset true) ∙ ap waits_through is)
