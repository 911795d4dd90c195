-- Further loads of a block, made at once, are so many steps.
use Rattle.std.proofs.Common.{◌≡◌, ℕ, suc, ◌+◌, ◌<◌, ◌≤◌, ◌==◌, ◌||◌, not, Bool, true, false, List, [], ◌∷◌, ◌++◌, Some, Ok, length, max, set, take, drop, slice_index, refl, ap, ap₂, sym, subst, ◌∙◌, arith}
use Rattle.std.specs.Prelude.{is_some, option_and_then}
use Rattle.std.proofs.Math.Nat.{max-zero}
use Rattle.std.proofs.lemmas.Bool.Decides.{nat_tests}
use Rattle.std.proofs.lemmas.List.{append_assoc, get_or-set_same, length-append}
use Rattle.shm_model.specs.declared.answer.Answer.TheVariants.{Byte}
use Rattle.shm_model.specs.declared.asked_access.Asked.{Asked}
use Rattle.shm_model.specs.declared.asked_access.Asked.TheVariants.{Load}
use Rattle.shm_model.specs.Access.{Place, right}
use Rattle.shm_model.specs.Basics.{greatest}
use Rattle.shm_model.specs.Entry.{bytes}
use Rattle.shm_model.specs.Receipt.{access_of}
use Rattle.shm_model.specs.Site.{Step, still}
use Rattle.shm_parts.specs.Reached.{page_reached}
use Rattle.shm_process.specs.Access.{is_waiting}
use Rattle.shm_process.specs.Blocks.{Block}
use Rattle.shm_process.specs.Desk.{Desk, all_made}
use Rattle.shm_process.specs.Further.{GoesOn, LoadsOf, after_loads, with_loaded}
use Rattle.shm_process.specs.Mapped.{mapped_at, passed_by, passing}
use Rattle.shm_process.specs.Node.{Node, answer_to, next_clock}
use Rattle.shm_process.specs.Rows.{Loads, Row, joined, row_of, with_accesses}
use Rattle.shm_process.specs.Waiting.{can_be_made, is_held, next_heard, ready}
use Rattle.shm_process.specs.WaitingAsks.{Access, Reads, after_answer, ask_in, goes_on, next_access, tag_of}
use Rattle.shm_process.proofs.FurtherPlaces.{load_given, next_place, part_first, place_after}
use Rattle.shm_process.proofs.FurtherRows.{goes_further, joins_load, one_load_more}
use Rattle.shm_process.proofs.FurtherSearch.{First, first_is, set_twice, stays_first}
use Rattle.shm_process.proofs.FurtherStep.{all_further}
use Rattle.shm_process.proofs.Made.{IsMade}
use Rattle.shm_process.proofs.Tests.{less_is}

pub early_is : (clock : ℕ) → clock < greatest → (max clock 0 == greatest) ≡ false
early_is clock h = let same = max-zero clock in grind (arith, nat_tests, same)

pub not_either : (h w : Bool) → not (h || w) ≡ true → h ≡ false
not_either true w e = absurd (cc)
not_either false w e = refl

pub neither : (h w : Bool) → h ≡ false → w ≡ false → not (h || w) ≡ true
neither true w e f = absurd (cc)
neither false w e f = ap not f

-- what an access of a page passes by
pub held_at : (node : Node) (at offset : ℕ) (place : Place) → right node.site.attachments at offset false ≡ Ok place
    → passing node.mapped node.site (Load at offset) ≡ passed_by false (mapped_at place.page node.mapped)
held_at node at offset place leads = ap (λ r. passed_by false (option_and_then (λ p. mapped_at p node.mapped) (page_reached r))) leads

module _ (d : Desk) (at byte : ℕ) (more : List ℕ) (block : Block) (place : Place) (row : Row) (loads : ℕ)
    (first : ready d.node ≡ Some at) (l : LoadsOf d.node at (byte ∷ more) block place) (has : d.row ≡ Some row) (is : row.accesses ≡ Loads loads)
    (g : GoesOn row (d.node.clock + 1) block.tag block.at (block.offset + length block.bytes) (suc (length more))) (few : d.counts.sent ≤ greatest) where
  abbrev node : Node
  node = d.node

  abbrev offset : ℕ
  offset = block.offset + length block.bytes

  abbrev asked : Asked
  asked = Load block.at offset

  -- the block with its next byte, and the node and the desk with it
  abbrev pub block_then : Block
  block_then = record block { bytes = block.bytes ++ byte ∷ [] }

  abbrev pub node_then : Node
  node_then = record node { clock = node.clock + 1; steps = node.steps + 1; waiting = set node.waiting at (Reads block_then) }

  abbrev pub row_then : Row
  row_then = with_accesses row (Loads (loads + 1))

  abbrev pub desk_then : Desk
  desk_then = record d { node = node_then; row = Some row_then }

  f : First node at
  f = first_is node at first

  parts : (byte ≡ slice_index (bytes (node.site.entries place.page)) place.within)
      × (more ≡ take (length more) (drop (place.within + 1) (bytes (node.site.entries place.page))))
  parts = part_first (bytes (node.site.entries place.page)) place.within byte more l.given

  made : IsMade node at asked (access_of asked) node.site (Byte byte) []
  made = record {
    asks = ap next_access (sym l.is);
    hands = refl;
    made = load_given node.sites node.me block.at offset node.site place l.leads l.reads ∙ ap (λ b. still (Byte b) node.site) (sym parts.0);
  }

  stays : goes_on (ask_in node.waiting at) (Byte byte) ≡ true
  stays = let left = l.left in ap (λ ask. goes_on ask (Byte byte)) l.is ∙ less_is (length block.bytes + 1) block.count (omega (arith, left))

  clock-is : next_clock node 0 ≡ node.clock + 1
  clock-is = ap (λ n. n + 1) (max-zero node.clock)

  joins : joined row (row_of (next_clock node 0) (tag_of (ask_in node.waiting at)) asked) ≡ Some row_then
  joins =
      ap₂ (λ clock tag. joined row (row_of clock tag asked)) clock-is (ap tag_of l.is)
      ∙ joins_load row (node.clock + 1) block.tag block.at offset (length more) g loads is

  pub one_load : (k : ℕ) → all_made (suc k) d ≡ all_made k desk_then
  one_load k =
      all_further d at asked node.site (Byte byte) row row_then first made stays refl refl has joins few k
      ∙ ap₂ (λ clock ask. all_made k (record d { node = record node { clock = clock; steps = node.steps + 1; waiting = set node.waiting at ask }; row = Some row_then }))
      clock-is (ap (λ ask. after_answer ask (Byte byte)) l.is)

  -- ---- and it goes on

  offset-then : block.offset + length (block.bytes ++ byte ∷ []) ≡ offset + 1
  offset-then = let longer = length-append block.bytes (byte ∷ []) in omega (arith, longer)

  module _ (next : ℕ) (rest : List ℕ) (on : more ≡ next ∷ rest) where
    longer : length more ≡ suc (length rest)
    longer = ap length on

    pub leads_then : right node.site.attachments block.at (block.offset + length (block.bytes ++ byte ∷ [])) false ≡ Ok (place_after place)
    leads_then =
        let inside = l.inside in
        let count = longer in
        ap (λ o. right node.site.attachments block.at o false) offset-then
        ∙ next_place (node.site.attachments block.at) offset false place (omega (arith, inside, count)) l.leads

    held-then : is_held node_then (Reads block_then) ≡ false
    held-then =
        ap is_some (held_at node block.at (block.offset + length (block.bytes ++ byte ∷ [])) (place_after place) leads_then ∙ sym (held_at node block.at offset place l.leads))
        ∙ ap (λ ask. is_held node ask) (sym l.is)
        ∙ not_either (is_held node (ask_in node.waiting at)) (is_waiting (answer_to node (next_heard (ask_in node.waiting at)))) f.can

    can-then : can_be_made node_then (Reads block_then) ≡ true
    can-then =
        neither (is_held node_then (Reads block_then)) (is_waiting (answer_to node_then (next_heard (Reads block_then)))) held-then
        (ap (λ (s : Step). is_waiting s.answer)
        (load_given node.sites node.me block.at (block.offset + length (block.bytes ++ byte ∷ [])) node.site (place_after place) leads_then l.reads))

    pub first_then : ready node_then ≡ Some at
    first_then =
        let clocks = l.clocks in
        let count = longer in
        stays_first node node_then at (Reads block_then) first (record { waits = λ x a h. h; held = λ a. refl }) refl can-then
        (early_is (node.clock + 1) (omega (arith, clocks, count)))

    pub loads_then : LoadsOf node_then at (next ∷ rest) block_then (place_after place)
    loads_then =
        let left = l.left in
        let clocks = l.clocks in
        let inside = l.inside in
        let count = longer in
        let grown = length-append block.bytes (byte ∷ []) in
        let there = bytes (node.site.entries place.page) in
        record {
          is = get_or-set_same node.waiting at (Reads block_then) (Access [] (Load 0 0)) f.within;
          left = omega (arith, left, count, grown);
          clocks = omega (arith, clocks, count);
          leads = leads_then;
          reads = l.reads;
          inside = omega (arith, inside, count);
          given = sym on ∙ parts.1 ∙ ap (λ m. take (length m) (drop (place.within + 1) there)) on;
        }

    pub goes_then : GoesOn row_then (node_then.clock + 1) block.tag block.at (block.offset + length (block.bytes ++ byte ∷ [])) (suc (length rest))
    goes_then =
        subst (λ o. GoesOn row_then (node_then.clock + 1) block.tag block.at o (suc (length rest))) (sym offset-then)
        (subst (λ n. GoesOn row_then (node.clock + 1 + 1) block.tag block.at (offset + 1) n) longer
        (goes_further row (node.clock + 1) block.tag block.at offset (length more) g (Loads (loads + 1)) (one_load_more row loads is)))

  -- ---- what they leave together

  ask-then : (rest : List ℕ) → with_loaded (ask_in (set node.waiting at (Reads block_then)) at) rest ≡ with_loaded (ask_in node.waiting at) (byte ∷ rest)
  ask-then rest =
      ap (λ ask. with_loaded ask rest) (get_or-set_same node.waiting at (Reads block_then) (Access [] (Load 0 0)) f.within)
      ∙ ap (λ bytes. Reads (record block { bytes = bytes })) (append_assoc block.bytes (byte ∷ []) rest)
      ∙ ap (λ ask. with_loaded ask (byte ∷ rest)) (sym l.is)

  pub one_and_more : (rest : List ℕ) → after_loads node_then at rest ≡ after_loads node at (byte ∷ rest)
  one_and_more rest =
      let clock : (node.clock + 1) + length rest ≡ node.clock + suc (length rest) = omega arith in
      let steps : (node.steps + 1) + length rest ≡ node.steps + suc (length rest) = omega arith in
      ap₂ (λ c s. record node { clock = c; steps = s; waiting = set (set node.waiting at (Reads block_then)) at (with_loaded (ask_in (set node.waiting at (Reads block_then)) at) rest) })
      clock steps
      ∙ ap (λ w. record node { clock = node.clock + suc (length rest); steps = node.steps + suc (length rest); waiting = w })
      (set_twice node.waiting at (Reads block_then) (with_loaded (ask_in (set node.waiting at (Reads block_then)) at) rest) ∙ ap (set node.waiting at) (ask-then rest))

  pub one_alone : node_then ≡ after_loads node at (byte ∷ [])
  one_alone = ap (λ ask. record node { clock = node.clock + 1; steps = node.steps + 1; waiting = set node.waiting at (with_loaded ask (byte ∷ [])) }) (sym l.is)

-- so many loads, and what is made after them
pub loads_further : (more : List ℕ) (byte k n : ℕ) (d : Desk) (at : ℕ) (block : Block) (place : Place) (row : Row) (loads : ℕ) → n ≡ suc (length more) + k
    → ready d.node ≡ Some at → LoadsOf d.node at (byte ∷ more) block place → d.row ≡ Some row → row.accesses ≡ Loads loads
    → GoesOn row (d.node.clock + 1) block.tag block.at (block.offset + length block.bytes) (suc (length more)) → d.counts.sent ≤ greatest
    → all_made n d ≡ all_made k (record d { node = after_loads d.node at (byte ∷ more); row = Some (with_accesses row (Loads (loads + suc (length more)))) })
loads_further [] byte k n d at block place row loads e first l has is g few =
    let one : n ≡ suc k = omega (arith, e) in
    ap (λ m. all_made m d) one
    ∙ one_load d at byte [] block place row loads first l has is g few k
    ∙ ap (λ x. all_made k (record d { node = x; row = Some (with_accesses row (Loads (loads + 1))) })) (one_alone d at byte [] block place row loads first l has is g few)
loads_further (next ∷ rest) byte k n d at block place row loads e first l has is g few =
    let count : (loads + 1) + suc (length rest) ≡ loads + suc (suc (length rest)) = omega arith in
    let left = suc (length rest) + k in
    let one : n ≡ suc left = omega (arith, e) in
    ap (λ m. all_made m d) one
    ∙ one_load d at byte (next ∷ rest) block place row loads first l has is g few left
    ∙ loads_further rest next k left (desk_then d at byte (next ∷ rest) block place row loads first l has is g few) at
    (block_then d at byte (next ∷ rest) block place row loads first l has is g few) (place_after place)
    (row_then d at byte (next ∷ rest) block place row loads first l has is g few) (loads + 1) refl
    (first_then d at byte (next ∷ rest) block place row loads first l has is g few next rest refl)
    (loads_then d at byte (next ∷ rest) block place row loads first l has is g few next rest refl) refl refl
    (goes_then d at byte (next ∷ rest) block place row loads first l has is g few next rest refl) few
    ∙ ap₂ (λ x c. all_made k (record d { node = x; row = Some (with_accesses row (Loads c)) }))
    (one_and_more d at byte (next ∷ rest) block place row loads first l has is g few (next ∷ rest)) count
