-- The bytes that an unmap brings are each stored, and then the page is given up.
use Rattle.std.proofs.Common.{◌≡◌, ℕ, suc, ◌+◌, ◌-◌, ◌*◌, ◌<◌, ◌≤◌, Bool, true, false, List, [], ◌∷◌, ◌&&◌, ◌==◌, Option, Some, None, Result, Ok, Err, cond, length, max, refl, sym, ap, ap₂, ◌∙◌, subst, arith, nat_le, nat_lt, slice_index, slice_set}
use Rattle.std.specs.Prelude.{unwrap_or}
use Rattle.std.specs.List.{list_all}
use Rattle.std.proofs.lemmas.Bool.{and_parts, cond-true}
use Rattle.std.proofs.lemmas.Bool.Decides.{nat_tests}
use Rattle.shm_place.specs.declared.page_id.PageId.{PageId}
use Rattle.shm_place.specs.Limits.{page_bytes, pages}
use Rattle.shm_place.specs.Offset.{rounded}
use Rattle.shm_place.specs.Page.{same_page}
use Rattle.shm_model.specs.declared.answer.Answer.TheVariants.{Byte, Stored}
use Rattle.shm_model.specs.declared.request_kind.Kind.TheVariants.{Read, Write}
use Rattle.shm_model.specs.Access.{Place, ask_for, load_if, place_in, right, right_through, store_if, stored_entry}
use Rattle.shm_model.specs.Basics.{at_page, greatest}
use Rattle.shm_model.specs.Calls.{Attachment}
use Rattle.shm_model.specs.Entry.{OwnWrite, bytes, readable, writable}
use Rattle.shm_model.specs.Message.{Store}
use Rattle.shm_model.specs.Refusal.{out_of_segment, read_only}
use Rattle.shm_model.specs.Site.{Site, still}
use Rattle.shm_laws.proofs.Page.Moves.{same-page}
use Rattle.shm_parts.specs.Reached.{page_reached}
use Rattle.shm_wire.specs.Line as stream
use Rattle.shm_wire.specs.Unmaps.{Run, UnmapAsk}
use Rattle.shm_process.specs.Causes.{bare, store_line}
use Rattle.shm_process.specs.Desk.{Desk, brought, given_up, stored_run, told_quietly, unmap_entry, unrecorded, with_record}
use Rattle.shm_process.specs.Mapped.{byte_place, lowered}
use Rattle.shm_process.specs.Node.{Heard, Node, Said, asked_under, is_late}
use Rattle.shm_process.specs.Recorded.{entries_text}
use Rattle.shm_process.specs.Remaps.{first_load, is_of_page, unmapped_to}
use Rattle.shm_process.specs.Waiting.{after, after_heard, joining, said, taken}
use Rattle.shm_kept.specs.Brought.{IsBringable, IsGivenUp, bytes_of, with_bytes_at, with_runs}
use Rattle.shm_kept.proofs.Bytes.{index-is, inside-test, place-of, within-is}
use Rattle.shm_kept.proofs.Rights.{right-lower}

-- ---- where a byte of the page is

stores-parts : (ro inside : Bool) (p place : Place) → ◌≡◌ {A = Result Place ℕ} (cond ro (Err read_only) (cond inside (Ok p) (Err out_of_segment))) (Ok place)
    → (ro ≡ false) × (inside ≡ true) × (p ≡ place)
stores-parts true inside p place e = absurd (cc)
stores-parts false true p place e = (refl, refl, cc)
stores-parts false false p place e = absurd (cc)

zero-small : 0 < page_bytes
zero-small = omega arith

stores-inside : (x : Attachment) (index k : ℕ) (place : Place) → k < page_bytes → right_through (Some x) (index * page_bytes + 0) true ≡ Ok place
    → right_through (Some x) (index * page_bytes + k) true ≡ Ok (record { page = place.page; within = k })
stores-inside x index k place small e =
    let first = index * page_bytes + 0 in
    let offset = index * page_bytes + k in
    let parts = stores-parts x.ro (nat_lt first (rounded x.size)) (place_in x first) place e in
    let page : (place_in x offset).page ≡ place.page =
    ap (λ (i : ℕ). record { seg = x.id; index = i }) (index-is index k small ∙ sym (index-is index 0 zero-small)) ∙ ap (λ (p : Place). p.page) parts.2 in
    ap (λ b. cond b (Err read_only) (cond (nat_lt offset (rounded x.size)) (Ok (place_in x offset)) (Err out_of_segment))) parts.0
    ∙ ap (λ b. cond b (Ok (place_in x offset)) (Err out_of_segment)) (inside-test index k x.size small parts.1)
    ∙ ap₂ (λ (p : PageId) (w : ℕ). Ok (record { page = p; within = w })) page (within-is index k small)

stores-at : (found : Option Attachment) (index k : ℕ) (place : Place) → k < page_bytes → right_through found (index * page_bytes + 0) true ≡ Ok place
    → right_through found (index * page_bytes + k) true ≡ Ok (record { page = place.page; within = k })
stores-at None index k place small e = absurd (cc)
stores-at (Some x) index k place small e = stores-inside x index k place small e

-- ---- one store

store-made : (sites me : ℕ) (site : Site) (page : PageId) (k byte : ℕ) → writable (site.entries page) ≡ true
    → (store_if sites me (Ok (record { page = page; within = k })) byte site).site ≡ record site { entries = at_page site.entries page (stored_entry k byte (site.entries page)) }
store-made sites me site page k byte writes =
    ap (λ b. (cond b (still Stored (record site { entries = at_page site.entries page (stored_entry k byte (site.entries page)) })) (ask_for sites me Write page site)).site) writes

stored-here : (site : Site) (page : PageId) (k byte number : ℕ) (b : List ℕ) → site.entries page ≡ OwnWrite number b
    → at_page site.entries page (stored_entry k byte (site.entries page)) page ≡ OwnWrite number (slice_set b k byte)
stored-here site page k byte number b e =
    cond-true (same_page page page) (stored_entry k byte (site.entries page)) (site.entries page) (same-page page) ∙ ap (stored_entry k byte) e

-- a step whose entry is the unmap's
told-node : (d : Desk) (says : Option Said) → (told_quietly d says).node ≡ d.node
told-node d None = refl
told-node d (Some says) = refl

unrecorded-node : (d : Desk) (line : stream.Line) → (unrecorded d line).node ≡ after d.node line
unfolding unrecorded
unrecorded-node d line = told-node (record d { node = after d.node line }) (said d.node line)

module _ (ask : UnmapAsk) (place : Place) (number : ℕ) where
  -- so many steps more have a clock after this one
  record Ready (node : Node) (page : List ℕ) (left : ℕ) : Type 0 where
    pub here : (ask.site == node.me) ≡ true
    pub clock : node.clock + left < greatest
    pub leads : right node.site.attachments ask.at (ask.index * page_bytes + 0) true ≡ Ok place
    pub entry : node.site.entries place.page ≡ OwnWrite number page

  in-time : (clock left : ℕ) → clock + left < greatest → (max clock 0 == greatest) ≡ false
  in-time clock left h = grind (arith, nat_tests, h)

  later-clock : (clock left : ℕ) → clock + suc left < greatest → (max clock 0 + 1) + left < greatest
  later-clock clock left h = grind (arith, nat_tests, h)

  heard-if : (here late : Bool) (h : Heard) → here ≡ true → late ≡ false → cond here (cond late None (Some h)) None ≡ Some h
  heard-if here late h p q = ap (λ b. cond b (cond late None (Some h)) None) p ∙ ap (λ b. cond b None (Some h)) q

  store-after : (node : Node) (page : List ℕ) (left offset byte : ℕ) → Ready node page left
      → after node (store_line ask offset byte) ≡ taken node (asked_under ask.tag None None (Store ask.at offset byte))
  store-after node page left offset byte r =
      ap (after_heard node (joining node (store_line ask offset byte)))
      (heard-if (ask.site == node.me) (is_late node 0) (asked_under ask.tag None None (Store ask.at offset byte)) r.here (in-time node.clock left r.clock))

  store-site : (node : Node) (page : List ℕ) (left k byte : ℕ) → Ready node page left → k < page_bytes
      → (taken node (asked_under ask.tag None None (Store ask.at (ask.index * page_bytes + k) byte))).site
      ≡ record node.site { entries = at_page node.site.entries place.page (stored_entry k byte (node.site.entries place.page)) }
  store-site node page left k byte r small =
      ap (λ x. (store_if node.sites node.me x byte node.site).site) (stores-at (node.site.attachments ask.at) ask.index k place small r.leads)
      ∙ store-made node.sites node.me node.site place.page k byte (ap writable r.entry)

  store-ready : (node : Node) (page : List ℕ) (left k byte : ℕ) → Ready node page (suc left) → k < page_bytes
      → Ready (after node (store_line ask (ask.index * page_bytes + k) byte)) (slice_set page k byte) left
  store-ready node page left k byte r small =
      let site = store-site node page (suc left) k byte r small in
      let next = taken node (asked_under ask.tag None None (Store ask.at (ask.index * page_bytes + k) byte)) in
      let made : Ready next (slice_set page k byte) left = record {
        here = r.here;
        clock = later-clock node.clock left r.clock;
        leads = ap (λ (s : Site). right s.attachments ask.at (ask.index * page_bytes + 0) true) site ∙ r.leads;
        entry = ap (λ (s : Site). s.entries place.page) site ∙ stored-here node.site place.page k byte number page r.entry;
      } in
      subst (λ n. Ready n (slice_set page k byte) left) (sym (store-after node page (suc left) (ask.index * page_bytes + k) byte r)) made

  -- ---- runs

  first-of : (k count : ℕ) → k + suc count ≤ page_bytes → k < page_bytes
  first-of k count h = omega (arith, h)

  next-of : (k count : ℕ) → k + suc count ≤ page_bytes → (k + 1) + count ≤ page_bytes
  next-of k count h = omega (arith, h)

  next-offset : (index k : ℕ) → (index * page_bytes + k) + 1 ≡ index * page_bytes + (k + 1)
  next-offset index k = omega arith

  none-left : (left : ℕ) → 0 + left ≡ left
  none-left left = omega arith

  one-left : (count left : ℕ) → suc count + left ≡ suc (count + left)
  one-left count left = omega arith

  byte-ready : (byte : ℕ) (bs : List ℕ) (d : Desk) (page : List ℕ) (left k : ℕ) → Ready d.node page (suc (length bs) + left) → k + suc (length bs) ≤ page_bytes
      → Ready (unrecorded d (store_line ask (ask.index * page_bytes + k) byte)).node (slice_set page k byte) (length bs + left)
  byte-ready byte bs d page left k r within =
      subst (λ n. Ready n (slice_set page k byte) (length bs + left)) (sym (unrecorded-node d (store_line ask (ask.index * page_bytes + k) byte)))
      (store-ready d.node page (length bs + left) k byte (subst (λ n. Ready d.node page n) (one-left (length bs) left) r) (first-of k (length bs) within))

  run-ready : (bs : List ℕ) (d : Desk) (page : List ℕ) (left k : ℕ) → Ready d.node page (length bs + left) → k + length bs ≤ page_bytes
      → Ready (stored_run d ask (ask.index * page_bytes + k) bs).node (with_bytes_at k bs page) left
  unfolding stored_run
  run-ready [] d page left k r within = subst (λ n. Ready d.node page n) (none-left left) r
  run-ready (byte ∷ bs) d page left k r within =
      let next = unrecorded d (store_line ask (ask.index * page_bytes + k) byte) in
      let stored = byte-ready byte bs d page left k r within in
      subst (λ o. Ready (stored_run next ask o bs).node (with_bytes_at (k + 1) bs (slice_set page k byte)) left) (sym (next-offset ask.index k))
      (run-ready bs next (slice_set page k byte) left (k + 1) stored (next-of k (length bs) within))

  run-offset : (first offset count : ℕ) → (nat_le first offset && nat_le (offset + count) (first + page_bytes)) ≡ true → first + (offset - first) ≡ offset
  run-offset first offset count h = let parts = and_parts (nat_le first offset) (nat_le (offset + count) (first + page_bytes)) h in
      let low : first ≤ offset = grind (arith, nat_tests, parts.0) in omega (arith, low)

  run-within : (first offset count : ℕ) → (nat_le first offset && nat_le (offset + count) (first + page_bytes)) ≡ true → (offset - first) + count ≤ page_bytes
  run-within first offset count h = let parts = and_parts (nat_le first offset) (nat_le (offset + count) (first + page_bytes)) h in
      let low : first ≤ offset = grind (arith, nat_tests, parts.0) in
      let high : offset + count ≤ first + page_bytes = grind (arith, nat_tests, parts.1) in omega (arith, low, high)

  runs-ready : (runs : List Run) (d : Desk) (page : List ℕ) → list_all (is_of_page ask.index) runs ≡ true → Ready d.node page (bytes_of runs)
      → Ready (brought d ask runs).node (with_runs ask.index runs page) 0
  unfolding brought
  runs-ready [] d page are r = r
  runs-ready (run ∷ runs) d page are r =
      let parts = and_parts (is_of_page ask.index run) (list_all (is_of_page ask.index) runs) are in
      let first = ask.index * page_bytes in
      let next = stored_run d ask run.offset run.bytes in
      let stored = run-ready run.bytes d page (bytes_of runs) (run.offset - first) r (run-within first run.offset (length run.bytes) parts.0) in
      runs-ready runs next (with_bytes_at (run.offset - first) run.bytes page) parts.1
      (subst (λ o. Ready (stored_run d ask o run.bytes).node (with_bytes_at (run.offset - first) run.bytes page) (bytes_of runs)) (run-offset first run.offset (length run.bytes) parts.0) stored)

  -- ---- what is mapped changes at the end alone

  store-mapped : (node : Node) (page : List ℕ) (left offset byte : ℕ) → Ready node page left → (after node (store_line ask offset byte)).mapped ≡ node.mapped
  store-mapped node page left offset byte r = ap (λ (n : Node). n.mapped) (store-after node page left offset byte r)

  run-mapped : (bs : List ℕ) (d : Desk) (page : List ℕ) (left k : ℕ) → Ready d.node page (length bs + left) → k + length bs ≤ page_bytes
      → (stored_run d ask (ask.index * page_bytes + k) bs).node.mapped ≡ d.node.mapped
  unfolding stored_run
  run-mapped [] d page left k r within = refl
  run-mapped (byte ∷ bs) d page left k r within =
      let line = store_line ask (ask.index * page_bytes + k) byte in
      let next = unrecorded d line in
      let now = subst (λ n. Ready d.node page n) (one-left (length bs) left) r in
      ap (λ o. (stored_run next ask o bs).node.mapped) (next-offset ask.index k)
      ∙ run-mapped bs next (slice_set page k byte) left (k + 1) (byte-ready byte bs d page left k r within) (next-of k (length bs) within)
      ∙ ap (λ (n : Node). n.mapped) (unrecorded-node d line)
      ∙ store-mapped d.node page (suc (length bs + left)) (ask.index * page_bytes + k) byte now

  runs-mapped : (runs : List Run) (d : Desk) (page : List ℕ) → list_all (is_of_page ask.index) runs ≡ true → Ready d.node page (bytes_of runs)
      → (brought d ask runs).node.mapped ≡ d.node.mapped
  unfolding brought
  runs-mapped [] d page are r = refl
  runs-mapped (run ∷ runs) d page are r =
      let parts = and_parts (is_of_page ask.index run) (list_all (is_of_page ask.index) runs) are in
      let first = ask.index * page_bytes in
      let next = stored_run d ask run.offset run.bytes in
      let same = run-offset first run.offset (length run.bytes) parts.0 in
      let within = run-within first run.offset (length run.bytes) parts.0 in
      let stored = run-ready run.bytes d page (bytes_of runs) (run.offset - first) r within in
      runs-mapped runs next (with_bytes_at (run.offset - first) run.bytes page) parts.1
      (subst (λ o. Ready (stored_run d ask o run.bytes).node (with_bytes_at (run.offset - first) run.bytes page) (bytes_of runs)) same stored)
      ∙ ap (λ o. (stored_run d ask o run.bytes).node.mapped) (sym same) ∙ run-mapped run.bytes d page (bytes_of runs) (run.offset - first) r within

  -- ---- the last step

  last-after : (node : Node) (page : List ℕ) → Ready node page 0
      → after node (stream.Unmap (bare ask))
      ≡ taken node (asked_under ask.tag None (unmapped_to node.mapped ask.keeps (page_reached (right node.site.attachments ask.at (byte_place ask.index 0) false))) (first_load ask.at ask.index))
  last-after node page r =
      ap (after_heard node None)
      (heard-if (ask.site == node.me) (is_late node 0)
      (asked_under ask.tag None (unmapped_to node.mapped ask.keeps (page_reached (right node.site.attachments ask.at (byte_place ask.index 0) false))) (first_load ask.at ask.index))
      r.here (in-time node.clock 0 r.clock))

  last-leads : (node : Node) (page : List ℕ) → Ready node page 0 → ask.index < pages → right node.site.attachments ask.at (byte_place ask.index 0) false ≡ Ok place
  last-leads node page r low =
      ap (λ o. right node.site.attachments ask.at o false) (place-of ask.index 0 low zero-small)
      ∙ right-lower (node.site.attachments ask.at) (ask.index * page_bytes + 0) place r.leads

  load-still : (sites me : ℕ) (site : Site) → readable (site.entries place.page) ≡ true → (load_if sites me (Ok place) site).site ≡ site
  load-still sites me site reads =
      ap (λ b. (cond b (still (Byte (slice_index (bytes (site.entries place.page)) place.within)) site) (ask_for sites me Read place.page site)).site) reads

  last-entry : (node : Node) (page : List ℕ) → Ready node page 0 → ask.index < pages
      → (after node (stream.Unmap (bare ask))).site.entries place.page ≡ OwnWrite number page
  last-entry node page r low =
      ap (λ (n : Node). n.site.entries place.page) (last-after node page r)
      ∙ ap (λ x. (load_if node.sites node.me x node.site).site.entries place.page) (last-leads node page r low)
      ∙ ap (λ (s : Site). s.entries place.page) (load-still node.sites node.me node.site (ap readable r.entry)) ∙ r.entry

  last-mapped : (node : Node) (page : List ℕ) → Ready node page 0 → ask.index < pages
      → (after node (stream.Unmap (bare ask))).mapped ≡ lowered place.page ask.keeps node.mapped
  last-mapped node page r low =
      ap (λ (n : Node). n.mapped) (last-after node page r)
      ∙ ap (λ x. unwrap_or (unmapped_to node.mapped ask.keeps (page_reached x)) node.mapped) (last-leads node page r low)

same-number : (a b : ℕ) → a ≡ b → (a == b) ≡ true
same-number a b e = grind (arith, nat_tests, e)

pub gives-up : (d : Desk) (ask : UnmapAsk) (place : Place) (number : ℕ) (page : List ℕ) → IsBringable d.node ask place number page → IsGivenUp d (given_up d ask) ask place number page
unfolding given_up
gives-up d ask place number page b =
    let begun : Ready ask place number d.node page (bytes_of ask.runs) = record {
      here = same-number ask.site d.node.me b.here;
      clock = b.clocks;
      leads = ap (λ o. right d.node.site.attachments ask.at o true) (sym (place-of ask.index 0 b.within zero-small)) ∙ b.leads;
      entry = b.entry;
    } in
    let first = with_record (entries_text (unmap_entry d.node ask ∷ [])) d in
    let next = brought first ask ask.runs in
    let after_all = with_runs ask.index ask.runs page in
    let stored = runs-ready ask place number ask.runs first page b.runs begun in
    let last = unrecorded-node next (stream.Unmap (bare ask)) in
    record {
      entry = ap (λ (n : Node). n.site.entries place.page) last ∙ last-entry ask place number next.node after_all stored b.within;
      mapped = ap (λ (n : Node). n.mapped) last ∙ last-mapped ask place number next.node after_all stored b.within
          ∙ ap (lowered place.page ask.keeps) (runs-mapped ask place number ask.runs first page b.runs begun);
    }
