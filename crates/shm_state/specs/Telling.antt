-- How a state grows as it is told.
use Rattle.std.specs.Prelude.{◌≡◌, ℕ, zero, suc, nat_le, ⊤, Bool, true, false, not, List, [], ◌∷◌, ◌++◌, filter, map, Option, None, Some, is_some, slice_index_or}
use Rattle.shm_place.specs.declared.page_id.PageId.{PageId}
use Rattle.shm_model.specs.Entry.{Entry}
use Rattle.shm_number.specs.Kept.{kept_at}
use Rattle.shm_attach.specs.Attachments.{attachments_of}
use Rattle.shm_attach.specs.Home.{Home}
use Rattle.shm_parts.specs.Listed.{booked_list, purged_list, stored_list}
use Rattle.shm_parts.specs.Purged.{purged_of}
use Rattle.shm_site.specs.State.{State}
use Rattle.shm_site.specs.declared.site.Site.{Site}
use Rattle.shm_state.specs.PartOf.{part_in}
use Rattle.shm_state.specs.Part as state
use Rattle.shm_state.specs.Stage.{is_due, is_whole, rank, stage_of}
use Rattle.shm_state.specs.Told.{put, state_told, told_all, told_nothing, told_with, Told}
use Rattle.shm_state.specs.declared.part.Part.{Part}
use Rattle.shm_state.specs.declared.tell_fault.TellFault.{TellFault}
use Rattle.shm_state.specs.declared.told_stage.Stage.{Stage}
use Rattle.shm_state.specs.declared.tell_fault.TellFault.TheVariants.{Limited, OutOfMemory}

-- the state that these parts make
abbrev pub said_by : {A : Type 0} → List (Part A) → State
said_by parts = state_told (map part_in parts)

-- the stage of the last of these parts
abbrev pub stage_told : {A : Type 0} → List (Part A) → Stage
stage_told parts = (told_all (map part_in parts) told_nothing).last

-- a reply to the same site was told, or an attachment of the same number
abbrev pub is_taken : state.Part → State → Bool
is_taken (state.Kept site number reply) s = is_some (kept_at s.kept site)
is_taken (state.Attachment number attachment) s = is_some (attachments_of s.attachments number)
is_taken part s = false

-- each part is due behind those before it, and none takes the place of another
unfoldable pub AreDue : Told → List state.Part → Type 0
AreDue told [] = ⊤
AreDue told (part ∷ parts) = (is_due told.last (stage_of part) ≡ true) × (is_taken part told.state ≡ false) × AreDue (told_with part told) parts

-- the parts are told in their order and once, the requests and the calls among them, and none at a later stage than this
pub record AreOrdered {A : Type 0} (last : Stage) (parts : List (Part A)) : Type 0 where
  pub due : AreDue told_nothing (map part_in parts)
  pub whole : is_whole (stage_told parts) ≡ true
  pub latest : nat_le (rank (stage_told parts)) (rank last) ≡ true

-- with what there is at a place, if anything is
abbrev pub put_if : {X : Type 0} → ℕ → Option X → List (Option X) → List (Option X)
put_if n None places = places
put_if n (Some x) places = put n x places

-- with what there is at each place below this one
unfoldable pub put_below : {X : Type 0} → ℕ → List (Option X) → List (Option X) → List (Option X)
put_below zero xs places = places
put_below (suc n) xs places = put_if n (slice_index_or xs n None) (put_below n xs places)

-- the entries of pages whose segment wasn't purged
abbrev pub alive : (ℕ → Bool) → List (PageId × Entry) → List (PageId × Entry)
alive purged entries = filter (λ e. not (purged e.0.seg)) entries

-- with what a home keeps
abbrev pub with_home : Home → State → State
with_home home s = record s { table = s.table ++ home.table.segments; missing = s.missing ++ home.table.missing; kept = put_below 16 home.kept s.kept }

-- with what a site has of pages
abbrev pub with_pages : {A : Type 0} → Site A → State → State
with_pages site s = record s {
  purged = s.purged ++ purged_list site.holdings.purged;
  entries = s.entries ++ alive (purged_of site.holdings.purged) (stored_list site.holdings.entries);
  attachments = put_below 64 site.holdings.attachments s.attachments;
  books = s.books ++ booked_list site.me site.books;
}

-- all that is told of a site
abbrev pub told_of : {A : Type 0} → Site A → State
told_of site = with_pages site (with_home site.home (record told_nothing.state { requests = site.requests; calls = site.calls }))

-- why a site's state isn't told: its copies are limited, or memory is refused
abbrev pub IsUntold : TellFault → Option ℕ → Type 0
IsUntold Limited limit = is_some limit ≡ true
IsUntold OutOfMemory limit = limit ≡ None
