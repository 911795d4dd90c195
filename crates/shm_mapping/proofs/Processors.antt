-- A processor's load and store at a mapped page are the site's, in the world that is joined with the machines' memory.
use Rattle.std.proofs.Common.{◌≡◌, ℕ, Bool, true, false, List, [], ◌∷◌, ◌++◌, Option, Some, None, Result, Ok, Err, refl, sym, ap, ◌∙◌, subst, if◌then◌else◌, slice_get, slice_set, slice_index}
use Rattle.std.proofs.Math.Path.{fun_ext}
use Rattle.std.proofs.lemmas.List.{append-nil}
use Rattle.shm_place.specs.declared.page_id.PageId.{PageId}
use Rattle.shm_place.specs.Page.{same_page}
use Rattle.shm_model.specs.declared.answer.Answer.{Answer}
use Rattle.shm_model.specs.declared.answer.Answer.TheVariants.{Byte, Refused, Stored}
use Rattle.shm_model.specs.declared.event.Event.{Event}
use Rattle.shm_model.specs.declared.event.Event.TheVariants.{Load as LoadEvent, Store as StoreEvent}
use Rattle.shm_model.specs.declared.request_kind.Kind.TheVariants.{Read, Write}
use Rattle.shm_model.specs.Access.{Place, ask_for, load_if, right, store_if, stored_entry}
use Rattle.shm_model.specs.Basics.{at, at_page}
use Rattle.shm_model.specs.Book.{is_write}
use Rattle.shm_model.specs.Entry.{Entry, Nil, Copy, OwnRead, OwnWrite, Handed, bytes, readable, writable}
use Rattle.shm_model.specs.Message.{Input, Load, Store}
use Rattle.shm_model.specs.Refusal.{numbers_used_up}
use Rattle.shm_model.specs.Site.{Site, Step, still}
use Rattle.shm_model.specs.Step.{step}
use Rattle.shm_model.specs.World.{IsOpening, Next, Opening, World, is_full, step_at, step_site, stepped, unstepped}
use Rattle.shm_laws.proofs.Page.Entry.{false-true}
use Rattle.shm_laws.proofs.Page.Moves.{page-same}
use Rattle.shm_mapping.specs.Mapped.{Mapped, allows, joined, mapped_at, remapped, with_bytes, with_memory}
use Rattle.shm_mapping.specs.Hosts.{Hosts, loads, loads_at, loads_from, nothing, stores, stores_at, stores_to}
use Rattle.shm_mapping.specs.Programs.{joined_sites, joined_world}
use Rattle.shm_mapping.proofs.Joined.{by_kind, found-page, readable-memory, remapped-here, remapped-there, writable-memory}
use Rattle.shm_mapping.proofs.Worlds.{joined-changed, joined-get, joined_found, set-same}
use Rattle.shm_mapping.proofs.Good.{Good, Holds, Went, allows-readable, changed-holds, nothing-went, push, remapped-holds, write-memory}
use Rattle.shm_mapping.proofs.GiveUp.{write-is}

-- a step that sends nothing, at a site of a world that isn't full
still-at : (w : World) (s : ℕ) (y z : Site) (input : Input) (answer : Answer) → slice_get w.sites s ≡ Some y → is_full w ≡ false → step w.count s y input ≡ still answer z
    → step_at w s input ≡ record { world = record w { sites = slice_set w.sites s z }; done = record { site = s; input = Some input; answer = answer } }
still-at w s y z input answer found room is =
    ap (λ o. step_site o w s input) found
    ∙ (ap (λ full. if full then unstepped w s (Refused numbers_used_up) else stepped w s input (step w.count s y input)) room
    ∙ (ap (λ done. stepped w s input done) is
    ∙ ap (λ sent. record { world = record w { sites = slice_set w.sites s z; sent = sent }; done = record { site = s; input = Some input; answer = answer } }) (append-nil w.sent)))

module _ (o : Opening) (is : IsOpening o) (h : Hosts) (plain own : List Event) (good : Good o h plain own) (s a offset : ℕ) (x : Site)
    (there : slice_get h.world.sites s ≡ Some x) (room : is_full h.world ≡ false) where
  there-joined : slice_get (joined_sites h.mapped h.world.sites) s ≡ Some (joined (h.mapped s) x)
  there-joined = joined-get h.mapped h.world.sites s ∙ ap (joined_found (h.mapped s)) there

  module _ (place : Place) (m : Mapped) (found : mapped_at place.page (h.mapped s) ≡ Some m) where
    abbrev e : Entry
    e = x.entries place.page

    hold : Holds m e
    hold = good.holds s x place.page m there found

    mine-is : with_memory (mapped_at place.page (h.mapped s)) e ≡ with_memory (Some m) e
    mine-is = ap (λ k. with_memory k e) found

    -- a load
    abbrev loaded : Entry → Step
    loaded y = if readable y then still (Byte (slice_index (bytes y) place.within)) (joined (h.mapped s) x) else ask_for h.world.count s Read place.page (joined (h.mapped s) x)

    load-step : right x.attachments a offset false ≡ Ok place → step h.world.count s (joined (h.mapped s) x) (Load a offset) ≡ still (Byte (slice_index m.memory place.within)) (joined (h.mapped s) x)
    load-step at_it =
        let reads : readable (with_memory (Some m) e) ≡ true = readable-memory (Some m) e ∙ allows-readable m.kind e hold.allowed in
        ap (λ r. load_if h.world.count s r (joined (h.mapped s) x)) at_it
        ∙ (ap loaded mine-is
        ∙ (ap (λ b. if b then still (Byte (slice_index (bytes (with_memory (Some m) e)) place.within)) (joined (h.mapped s) x) else ask_for h.world.count s Read place.page (joined (h.mapped s) x)) reads
        ∙ ap (λ bs. still (Byte (slice_index bs place.within)) (joined (h.mapped s) x)) (sym hold.memory)))

    load-went : right x.attachments a offset false ≡ Ok place → Went o plain own (loads_from h s a offset place (Some m))
    load-went at_it =
        let n : Next = record { world = joined_world h; done = record { site = s; input = Some (Load a offset); answer = Byte (slice_index m.memory place.within) } } in
        let next_is : step_at (joined_world h) s (Load a offset) ≡ n =
        still-at (joined_world h) s (joined (h.mapped s) x) (joined (h.mapped s) x) (Load a offset) (Byte (slice_index m.memory place.within)) there-joined room (load-step at_it)
        ∙ ap (λ sites. record n { world = record h.world { sites = sites } }) (set-same (joined_sites h.mapped h.world.sites) s (joined (h.mapped s) x) there-joined) in
        let both = push o h plain own good (LoadEvent s a offset) n next_is in
        subst (λ p. Good o (record h { account = n.done ∷ h.account }) (plain ++ (LoadEvent s a offset ∷ [])) p) (sym (append-nil own))
        (record { as_one = both.0; account = both.1; alone = good.alone; holds = good.holds })

    -- a store
    module _ (byte : ℕ) (write : m.kind ≡ Write) where
      abbrev k : Mapped
      k = record m { memory = slice_set m.memory place.within byte }

      abbrev new : List Mapped
      new = remapped k (h.mapped s)

      may-write : writable e ≡ true
      may-write = subst (λ kind. allows kind e ≡ true) write hold.allowed

      stored-bytes : (memory : List ℕ) (y : Entry) → writable y ≡ true → stored_entry place.within byte (with_bytes memory y) ≡ with_bytes (slice_set memory place.within byte) y
      stored-bytes memory (Nil n) w = absurd (false-true w)
      stored-bytes memory (Copy n b) w = absurd (false-true w)
      stored-bytes memory (OwnRead n b) w = absurd (false-true w)
      stored-bytes memory (OwnWrite n b) w = refl
      stored-bytes memory (Handed n to b) w = absurd (false-true w)

      with-mine : (memory : List ℕ) (y : Entry) → by_kind m.kind memory y ≡ with_bytes memory y
      with-mine memory y = ap (λ kind. by_kind kind memory y) write

      stored-is : stored_entry place.within byte (with_memory (mapped_at place.page (h.mapped s)) e) ≡ with_memory (Some k) e
      stored-is = ap (stored_entry place.within byte) (mine-is ∙ with-mine m.memory e) ∙ (stored-bytes m.memory e may-write ∙ sym (with-mine (slice_set m.memory place.within byte) e))

      page-is : k.page ≡ place.page
      page-is = found-page place.page (h.mapped s) m found

      stored-if : (q : PageId) (same : Bool) → same_page place.page q ≡ same
          → (if same then stored_entry place.within byte (with_memory (mapped_at place.page (h.mapped s)) e) else with_memory (mapped_at q (h.mapped s)) (x.entries q)) ≡ with_memory (mapped_at q new) (x.entries q)
      stored-if q true i =
          let here : mapped_at place.page new ≡ Some k = subst (λ p. mapped_at p new ≡ Some k) page-is (remapped-here k (h.mapped s)) in
          subst (λ p. stored_entry place.within byte (with_memory (mapped_at place.page (h.mapped s)) e) ≡ with_memory (mapped_at p new) (x.entries p)) (page-same place.page q i)
          (stored-is ∙ ap (λ z. with_memory z e) (sym here))
      stored-if q false i = ap (λ z. with_memory z (x.entries q)) (sym (remapped-there k q (h.mapped s) (subst (λ p. same_page p q ≡ false) (sym page-is) i)))

      stored-site : record (joined (h.mapped s) x) { entries = at_page (joined (h.mapped s) x).entries place.page (stored_entry place.within byte (with_memory (mapped_at place.page (h.mapped s)) e)) } ≡ joined new x
      stored-site = ap (λ (f : PageId → Entry). record x { entries = f }) (fun_ext (λ q. stored-if q (same_page place.page q) refl))

      abbrev storing : Bool → Step
      storing w =
          if w then still Stored (record (joined (h.mapped s) x) { entries = at_page (joined (h.mapped s) x).entries place.page (stored_entry place.within byte (with_memory (mapped_at place.page (h.mapped s)) e)) })
          else ask_for h.world.count s Write place.page (joined (h.mapped s) x)

      store-step : right x.attachments a offset true ≡ Ok place → step h.world.count s (joined (h.mapped s) x) (Store a offset byte) ≡ still Stored (joined new x)
      store-step at_it =
          ap (λ r. store_if h.world.count s r byte (joined (h.mapped s) x)) at_it
          ∙ (ap storing (writable-memory (mapped_at place.page (h.mapped s)) e ∙ may-write) ∙ ap (still Stored) stored-site)

      store-holds : Holds k (x.entries k.page)
      store-holds = subst (λ p. Holds k (x.entries p)) (sym page-is) (record { allowed = hold.allowed; memory = write-memory k.memory e may-write ∙ ap bytes (sym (with-mine k.memory e)) })

      store-went : right x.attachments a offset true ≡ Ok place
          → Good o (record h { mapped = at h.mapped s new; account = record { site = s; input = Some (Store a offset byte); answer = Stored } ∷ h.account }) (plain ++ (StoreEvent s a offset byte ∷ [])) own
      store-went at_it =
          let n : Next = record { world = joined_world (record h { mapped = at h.mapped s new }); done = record { site = s; input = Some (Store a offset byte); answer = Stored } } in
          let next_is : step_at (joined_world h) s (Store a offset byte) ≡ n =
          still-at (joined_world h) s (joined (h.mapped s) x) (joined new x) (Store a offset byte) Stored there-joined room (store-step at_it)
          ∙ ap (λ sites. record n { world = record h.world { sites = sites } }) (sym (joined-changed h.mapped h.world.sites s new x there)) in
          let both = push o h plain own good (StoreEvent s a offset byte) n next_is in
          record {
            as_one = both.0;
            account = both.1;
            alone = good.alone;
            holds = changed-holds o h plain own good s x there new (remapped-holds x.entries (h.mapped s) k store-holds (λ q j f. good.holds s x q j there f));
          }

  loads-found : (place : Place) (m : Option Mapped) → mapped_at place.page (h.mapped s) ≡ m → right x.attachments a offset false ≡ Ok place → Went o plain own (loads_from h s a offset place m)
  loads-found place None found at_it = nothing-went o h plain own good
  loads-found place (Some m) found at_it = load-went place m found at_it

  loads-right : (r : Result Place ℕ) → right x.attachments a offset false ≡ r → Went o plain own (loads_at h s a offset r)
  loads-right (Err refusal) at_it = nothing-went o h plain own good
  loads-right (Ok place) at_it = loads-found place (mapped_at place.page (h.mapped s)) refl at_it

  pub loads-went : Went o plain own (loads h s a offset (Some x))
  loads-went = loads-right (right x.attachments a offset false) refl

  stores-if : (byte : ℕ) (place : Place) (m : Mapped) (write : Bool) → is_write m.kind ≡ write → mapped_at place.page (h.mapped s) ≡ Some m → right x.attachments a offset true ≡ Ok place
      → Went o plain own (if write
      then record {
        hosts = record h {
          mapped = at h.mapped s (remapped (record m { memory = slice_set m.memory place.within byte }) (h.mapped s));
          account = record { site = s; input = Some (Store a offset byte); answer = Stored } ∷ h.account;
        };
        plain = StoreEvent s a offset byte ∷ [];
        own = [];
      }
      else nothing h)
  stores-if byte place m true w found at_it =
      subst (λ p. Good o (record h { mapped = at h.mapped s (remapped (record m { memory = slice_set m.memory place.within byte }) (h.mapped s)); account = record { site = s; input = Some (Store a offset byte); answer = Stored } ∷ h.account })
      (plain ++ (StoreEvent s a offset byte ∷ [])) p) (sym (append-nil own)) (store-went place m found byte (write-is m.kind w) at_it)
  stores-if byte place m false w found at_it = nothing-went o h plain own good

  stores-found : (byte : ℕ) (place : Place) (m : Option Mapped) → mapped_at place.page (h.mapped s) ≡ m → right x.attachments a offset true ≡ Ok place → Went o plain own (stores_to h s a offset byte place m)
  stores-found byte place None found at_it = nothing-went o h plain own good
  stores-found byte place (Some m) found at_it = stores-if byte place m (is_write m.kind) refl found at_it

  stores-right : (byte : ℕ) (r : Result Place ℕ) → right x.attachments a offset true ≡ r → Went o plain own (stores_at h s a offset byte r)
  stores-right byte (Err refusal) at_it = nothing-went o h plain own good
  stores-right byte (Ok place) at_it = stores-found byte place (mapped_at place.page (h.mapped s)) refl at_it

  pub stores-went : (byte : ℕ) → Went o plain own (stores h s a offset byte (Some x))
  stores-went byte = stores-right byte (right x.attachments a offset true) refl
