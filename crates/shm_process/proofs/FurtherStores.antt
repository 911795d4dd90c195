-- Further stores of a block, made at once, are so many steps.
use Rattle.std.proofs.Common.{◌≡◌, ℕ, suc, ◌+◌, ◌≤◌, true, false, List, [], ◌∷◌, ◌++◌, Some, Ok, length, set, take, drop, slice_index, refl, ap, ap₂, sym, subst, ◌∙◌, arith}
use Rattle.std.specs.Prelude.{is_some, option_and_then}
use Rattle.std.proofs.Math.Nat.{max-zero}
use Rattle.std.proofs.lemmas.List.{append_assoc, get_or-set_same}
use Rattle.shm_model.specs.declared.answer.Answer.TheVariants.{Stored}
use Rattle.shm_model.specs.declared.asked_access.Asked.{Asked}
use Rattle.shm_model.specs.declared.asked_access.Asked.TheVariants.{Load, Store}
use Rattle.shm_model.specs.Access.{Place, right, store, stored_entry}
use Rattle.shm_model.specs.Basics.{at_page, greatest}
use Rattle.shm_model.specs.Entry.{writable}
use Rattle.shm_model.specs.Message as message
use Rattle.shm_model.specs.Receipt.{access_of}
use Rattle.shm_model.specs.Site.{Site, Step, still}
use Rattle.shm_model.specs.Step.{step}
use Rattle.shm_parts.specs.Reached.{page_reached}
use Rattle.shm_process.specs.Access.{is_access, is_waiting}
use Rattle.shm_process.specs.Desk.{Desk, all_made}
use Rattle.shm_process.specs.Further.{GoesOn, StoresAt, StoresOf, after_stores, site_stored, stored_from, with_stored}
use Rattle.shm_process.specs.Mapped.{mapped_at, passed_by, passing}
use Rattle.shm_process.specs.Node.{Node, answer_to, next_clock}
use Rattle.shm_process.specs.Rows.{Row, Stores, joined, row_of, with_accesses}
use Rattle.shm_process.specs.Waiting.{can_be_made, is_held, next_heard, ready}
use Rattle.shm_process.specs.WaitingAsks.{Access, Writes, after_answer, ask_in, goes_on, next_access, tag_of}
use Rattle.shm_process.specs.Writes.{Write}
use Rattle.shm_process.proofs.Enough.{Later}
use Rattle.shm_process.proofs.FurtherLoads.{early_is, neither, not_either}
use Rattle.shm_process.proofs.FurtherPlaces.{loads_too, next_place, part_first, place_after, store_made}
use Rattle.shm_process.proofs.FurtherRows.{goes_further, joins_store, one_store_more}
use Rattle.shm_process.proofs.FurtherSearch.{First, first_is, set_twice, stays_first}
use Rattle.shm_process.proofs.FurtherStep.{all_further}
use Rattle.shm_process.proofs.Lasting.{access_keeps, lasts}
use Rattle.shm_process.proofs.Made.{IsMade}
use Rattle.shm_process.proofs.Tests.{less_is}

-- ---- the site after one store

-- the site with a byte of a page stored
abbrev pub site_with : Site → Place → ℕ → Site
site_with site place byte = record site { entries = at_page site.entries place.page (stored_entry place.within byte (site.entries place.page)) }

module _ (sites me at offset byte : ℕ) (site : Site) (place : Place) (count : ℕ) (s : StoresAt site at offset (suc count) place) where
  pub stored : store sites me at offset byte site ≡ still Stored (site_with site place byte)
  stored = store_made sites me at offset byte site place s.leads s.writes

  site-is : (store sites me at offset byte site).site ≡ site_with site place byte
  site-is = ap (λ (s : Step). s.site) stored

  -- the page is still the site's to write
  writes-then : writable ((site_with site place byte).entries place.page) ≡ true
  writes-then =
      ap (λ (t : Site). writable (t.entries place.page)) (sym site-is)
      ∙ (access_keeps sites me site (message.Store at offset byte) refl).writes place.page ∙ s.writes

  pub stores_then : (left : ℕ) → count ≡ suc left → StoresAt (site_with site place byte) at (offset + 1) count (place_after place)
  stores_then left some =
      let inside = s.inside in
      record {
        leads = next_place (site.attachments at) offset true place (omega (arith, inside, some)) s.leads;
        writes = writes-then;
        inside = omega (arith, inside);
      }

  pub stored_on : (more : List ℕ) → stored_from sites me at offset (byte ∷ more) site ≡ stored_from sites me at (offset + 1) more (site_with site place byte)
  unfolding stored_from
  stored_on more = ap (stored_from sites me at (offset + 1) more) site-is

  -- who waits there waits on
  pub waits_on : (x : message.Input) → is_access x ≡ true → is_waiting (step sites me site x).answer ≡ true
      → is_waiting (step sites me (site_with site place byte) x).answer ≡ true
  waits_on x is h = subst (λ t. is_waiting (step sites me t x).answer ≡ true) site-is (lasts sites me site (message.Store at offset byte) x refl is h)

-- what a store to a page passes by
pub held_at : (node : Node) (at offset byte : ℕ) (place : Place) → right node.site.attachments at offset true ≡ Ok place
    → passing node.mapped node.site (Store at offset byte) ≡ passed_by true (mapped_at place.page node.mapped)
held_at node at offset byte place leads =
    ap (λ r. passed_by true (option_and_then (λ p. mapped_at p node.mapped) (page_reached r))) (loads_too (node.site.attachments at) offset place leads)

module _ (d : Desk) (at byte : ℕ) (more : List ℕ) (write : Write) (place : Place) (row : Row) (before : List ℕ)
    (first : ready d.node ≡ Some at) (l : StoresOf d.node at (byte ∷ more) write place) (has : d.row ≡ Some row) (is : row.accesses ≡ Stores before)
    (g : GoesOn row (d.node.clock + 1) write.tag write.at (write.offset + write.stored) (suc (length more))) (few : d.counts.sent ≤ greatest) where
  abbrev node : Node
  node = d.node

  abbrev offset : ℕ
  offset = write.offset + write.stored

  abbrev asked : Asked
  asked = Store write.at offset byte

  -- the block with one byte more stored, and the site, the node and the desk with it
  abbrev pub write_then : Write
  write_then = record write { stored = write.stored + 1 }

  abbrev pub site_then : Site
  site_then = site_with node.site place byte

  abbrev pub node_then : Node
  node_then = record node { site = site_then; clock = node.clock + 1; steps = node.steps + 1; waiting = set node.waiting at (Writes write_then) }

  abbrev pub row_then : Row
  row_then = with_accesses row (Stores (before ++ byte ∷ []))

  abbrev pub desk_then : Desk
  desk_then = record d { node = node_then; row = Some row_then }

  f : First node at
  f = first_is node at first

  parts : (byte ≡ slice_index write.bytes write.stored) × (more ≡ take (length more) (drop (write.stored + 1) write.bytes))
  parts = part_first write.bytes write.stored byte more l.given

  made : IsMade node at asked (access_of asked) site_then Stored []
  made = record {
    asks = ap (λ b. Store write.at offset b) parts.0 ∙ ap next_access (sym l.is);
    hands = refl;
    made = stored node.sites node.me write.at offset byte node.site place (length more) l.stores;
  }

  stays : goes_on (ask_in node.waiting at) Stored ≡ true
  stays = let left = l.left in ap (λ ask. goes_on ask Stored) l.is ∙ less_is (write.stored + 1) (length write.bytes) (omega (arith, left))

  clock-is : next_clock node 0 ≡ node.clock + 1
  clock-is = ap (λ n. n + 1) (max-zero node.clock)

  joins : joined row (row_of (next_clock node 0) (tag_of (ask_in node.waiting at)) asked) ≡ Some row_then
  joins =
      ap₂ (λ clock tag. joined row (row_of clock tag asked)) clock-is (ap tag_of l.is)
      ∙ joins_store row (node.clock + 1) write.tag write.at offset (length more) g before byte is

  pub one_store : (k : ℕ) → all_made (suc k) d ≡ all_made k desk_then
  one_store k =
      all_further d at asked site_then Stored row row_then first made stays refl refl has joins few k
      ∙ ap₂ (λ clock ask. all_made k (record d { node = record node { site = site_then; clock = clock; steps = node.steps + 1; waiting = set node.waiting at ask }; row = Some row_then }))
      clock-is (ap (λ ask. after_answer ask Stored) l.is)

  -- ---- and it goes on

  offset-then : write.offset + (write.stored + 1) ≡ offset + 1
  offset-then = omega arith

  later : Later node node_then
  later = record {
    waits = λ x a h. waits_on node.sites node.me write.at offset byte node.site place (length more) l.stores x.input a h;
    held = λ a. refl;
  }

  module _ (next : ℕ) (rest : List ℕ) (on : more ≡ next ∷ rest) where
    longer : length more ≡ suc (length rest)
    longer = ap length on

    pub stores_on : StoresAt site_then write.at (write.offset + (write.stored + 1)) (suc (length rest)) (place_after place)
    stores_on =
        subst (λ n. StoresAt site_then write.at (write.offset + (write.stored + 1)) n (place_after place)) longer
        (subst (λ o. StoresAt site_then write.at o (length more) (place_after place)) (sym offset-then)
        (stores_then node.sites node.me write.at offset byte node.site place (length more) l.stores (length rest) longer))

    held-then : is_held node_then (Writes write_then) ≡ false
    held-then =
        ap is_some (held_at node_then write.at (write.offset + (write.stored + 1)) (slice_index write.bytes (write.stored + 1)) (place_after place) stores_on.leads
        ∙ sym (held_at node write.at offset (slice_index write.bytes write.stored) place l.stores.leads))
        ∙ ap (λ ask. is_held node ask) (sym l.is)
        ∙ not_either (is_held node (ask_in node.waiting at)) (is_waiting (answer_to node (next_heard (ask_in node.waiting at)))) f.can

    can-then : can_be_made node_then (Writes write_then) ≡ true
    can-then =
        neither (is_held node_then (Writes write_then)) (is_waiting (answer_to node_then (next_heard (Writes write_then)))) held-then
        (ap (λ (s : Step). is_waiting s.answer)
        (stored node.sites node.me write.at (write.offset + (write.stored + 1)) (slice_index write.bytes (write.stored + 1)) site_then (place_after place) (length rest) stores_on))

    pub first_then : ready node_then ≡ Some at
    first_then =
        let clocks = l.clocks in
        let count = longer in
        stays_first node node_then at (Writes write_then) first later refl can-then (early_is (node.clock + 1) (omega (arith, clocks, count)))

    pub of_then : StoresOf node_then at (next ∷ rest) write_then (place_after place)
    of_then =
        let left = l.left in
        let clocks = l.clocks in
        let count = longer in
        record {
          is = get_or-set_same node.waiting at (Writes write_then) (Access [] (Load 0 0)) f.within;
          left = omega (arith, left, count);
          clocks = omega (arith, clocks, count);
          stores = stores_on;
          given = sym on ∙ parts.1 ∙ ap (λ m. take (length m) (drop (write.stored + 1) write.bytes)) on;
        }

    pub goes_then : GoesOn row_then (node_then.clock + 1) write.tag write.at (write.offset + (write.stored + 1)) (suc (length rest))
    goes_then =
        subst (λ o. GoesOn row_then (node_then.clock + 1) write.tag write.at o (suc (length rest))) (sym offset-then)
        (subst (λ n. GoesOn row_then (node.clock + 1 + 1) write.tag write.at (offset + 1) n) longer
        (goes_further row (node.clock + 1) write.tag write.at offset (length more) g (Stores (before ++ byte ∷ [])) (one_store_more row before byte is)))

  -- ---- what they leave together

  there : ask_in (set node.waiting at (Writes write_then)) at ≡ Writes write_then
  there = get_or-set_same node.waiting at (Writes write_then) (Access [] (Load 0 0)) f.within

  ask-then : (rest : List ℕ) → with_stored (ask_in (set node.waiting at (Writes write_then)) at) (length rest) ≡ with_stored (ask_in node.waiting at) (suc (length rest))
  ask-then rest =
      let count : (write.stored + 1) + length rest ≡ write.stored + suc (length rest) = omega arith in
      ap (λ ask. with_stored ask (length rest)) there ∙ ap (λ n. Writes (record write { stored = n })) count ∙ ap (λ ask. with_stored ask (suc (length rest))) (sym l.is)

  site-then : (rest : List ℕ) → site_stored node_then (ask_in (set node.waiting at (Writes write_then)) at) rest ≡ site_stored node (ask_in node.waiting at) (byte ∷ rest)
  site-then rest =
      ap (λ ask. site_stored node_then ask rest) there
      ∙ ap (λ o. stored_from node.sites node.me write.at o rest site_then) offset-then
      ∙ sym (stored_on node.sites node.me write.at offset byte node.site place (length more) l.stores rest)
      ∙ ap (λ ask. site_stored node ask (byte ∷ rest)) (sym l.is)

  pub one_and_more : (rest : List ℕ) → after_stores node_then at rest ≡ after_stores node at (byte ∷ rest)
  one_and_more rest =
      let clock : (node.clock + 1) + length rest ≡ node.clock + suc (length rest) = omega arith in
      let steps : (node.steps + 1) + length rest ≡ node.steps + suc (length rest) = omega arith in
      let ask = ask_in (set node.waiting at (Writes write_then)) at in
      ap₂ (λ c s. record node { site = site_stored node_then ask rest; clock = c; steps = s; waiting = set (set node.waiting at (Writes write_then)) at (with_stored ask (length rest)) })
      clock steps
      ∙ ap₂ (λ t w. record node { site = t; clock = node.clock + suc (length rest); steps = node.steps + suc (length rest); waiting = w })
      (site-then rest) (set_twice node.waiting at (Writes write_then) (with_stored ask (length rest)) ∙ ap (set node.waiting at) (ask-then rest))

  nothing-left : site_then ≡ stored_from node.sites node.me write.at (offset + 1) [] site_then
  unfolding stored_from
  nothing-left = refl

  nothing-more : site_then ≡ stored_from node.sites node.me write.at offset (byte ∷ []) node.site
  nothing-more = nothing-left ∙ sym (stored_on node.sites node.me write.at offset byte node.site place (length more) l.stores [])

  pub one_alone : node_then ≡ after_stores node at (byte ∷ [])
  one_alone =
      ap (λ t. record node { site = t; clock = node.clock + 1; steps = node.steps + 1; waiting = set node.waiting at (Writes write_then) }) nothing-more
      ∙ ap (λ ask. record node { site = site_stored node ask (byte ∷ []); clock = node.clock + 1; steps = node.steps + 1; waiting = set node.waiting at (with_stored ask 1) })
      (sym l.is)

-- so many stores, and what is made after them
pub stores_further : (more : List ℕ) (byte k n : ℕ) (d : Desk) (at : ℕ) (write : Write) (place : Place) (row : Row) (before : List ℕ) → n ≡ suc (length more) + k
    → ready d.node ≡ Some at → StoresOf d.node at (byte ∷ more) write place → d.row ≡ Some row → row.accesses ≡ Stores before
    → GoesOn row (d.node.clock + 1) write.tag write.at (write.offset + write.stored) (suc (length more)) → d.counts.sent ≤ greatest
    → all_made n d ≡ all_made k (record d { node = after_stores d.node at (byte ∷ more); row = Some (with_accesses row (Stores (before ++ byte ∷ more))) })
stores_further [] byte k n d at write place row before e first l has is g few =
    let one : n ≡ suc k = omega (arith, e) in
    ap (λ m. all_made m d) one
    ∙ one_store d at byte [] write place row before first l has is g few k
    ∙ ap (λ x. all_made k (record d { node = x; row = Some (with_accesses row (Stores (before ++ byte ∷ []))) })) (one_alone d at byte [] write place row before first l has is g few)
stores_further (next ∷ rest) byte k n d at write place row before e first l has is g few =
    let left = suc (length rest) + k in
    let one : n ≡ suc left = omega (arith, e) in
    ap (λ m. all_made m d) one
    ∙ one_store d at byte (next ∷ rest) write place row before first l has is g few left
    ∙ stores_further rest next k left (desk_then d at byte (next ∷ rest) write place row before first l has is g few) at
    (write_then d at byte (next ∷ rest) write place row before first l has is g few) (place_after place)
    (row_then d at byte (next ∷ rest) write place row before first l has is g few) (before ++ byte ∷ []) refl
    (first_then d at byte (next ∷ rest) write place row before first l has is g few next rest refl)
    (of_then d at byte (next ∷ rest) write place row before first l has is g few next rest refl) refl refl
    (goes_then d at byte (next ∷ rest) write place row before first l has is g few next rest refl) few
    ∙ ap₂ (λ x b. all_made k (record d { node = x; row = Some (with_accesses row (Stores b)) }))
    (one_and_more d at byte (next ∷ rest) write place row before first l has is g few (next ∷ rest)) (append_assoc before (byte ∷ []) (next ∷ rest))
