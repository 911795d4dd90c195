-- What is given up is stored by the site, byte by byte: its entry has the machine's bytes then, and nothing was sent.
use Rattle.std.proofs.Common.{◌≡◌, ℕ, zero, suc, ◌+◌, ◌*◌, ◌/◌, ◌<◌, Bool, true, false, List, [], ◌∷◌, Option, Some, None, Ok, Err, length, map, refl, sym, ap, ◌∙◌, arith, nat_lt, if◌then◌else◌, slice_get, slice_set, slice_index}
use Rattle.std.proofs.Math.Path.{fun_ext}
use Rattle.std.proofs.lemmas.Bool.{cond-true}
use Rattle.std.proofs.lemmas.Bool.Decides.{nat_tests}
use Rattle.std.proofs.lemmas.List.{append-nil}
use Rattle.shm_place.specs.declared.page_id.PageId.{PageId}
use Rattle.shm_place.specs.Limits.{page_bytes}
use Rattle.shm_place.specs.Offset.{index_of, rounded, within_of}
use Rattle.shm_place.specs.Page.{same_page}
use Rattle.shm_model.specs.declared.answer.Answer.TheVariants.{Refused, Stored}
use Rattle.shm_model.specs.declared.request_kind.Kind.TheVariants.{Write}
use Rattle.shm_model.specs.Access.{Place, ask_for, place_in, right_through, store_if, stored_entry}
use Rattle.shm_model.specs.Basics.{at_page}
use Rattle.shm_model.specs.Calls.{Attachment}
use Rattle.shm_model.specs.Entry.{Entry, OwnWrite, bytes, writable}
use Rattle.shm_model.specs.Message.{Store}
use Rattle.shm_model.specs.Refusal.{numbers_used_up, out_of_segment, read_only}
use Rattle.shm_model.specs.Site.{Site, Step, still}
use Rattle.shm_model.specs.Step.{step}
use Rattle.shm_model.specs.World.{World, is_full, next, step_site, stepped, unstepped}
use Rattle.shm_laws.proofs.Page.Entry.{false-true}
use Rattle.shm_laws.proofs.Page.Moves.{page-same}
use Rattle.shm_laws.proofs.Page.Orders.{Each}
use Rattle.shm_laws.proofs.Move.Transfer.{at-page-here}
use Rattle.shm_laws.proofs.Run.GoesOn.{slice_get-set_same}
use Rattle.shm_mapping.specs.Hosts.{after_events, changed, has_page, is_place_in, store_back, stores_back}
use Rattle.shm_mapping.proofs.Back.{changed-below, put-changed, put_all}
use Rattle.shm_mapping.proofs.Worlds.{set-same}

index-is : (offset index k : ℕ) → offset ≡ index * page_bytes + k → k < page_bytes → index_of offset ≡ index
index-is offset index k e l = omega arith

within-is : (offset index k : ℕ) → offset ≡ index * page_bytes + k → k < page_bytes → within_of offset ≡ k
within-is offset index k e l = omega arith

-- a page that begins in a segment is in it whole
whole-page : (size index i : ℕ) → nat_lt (index * page_bytes) (rounded size) ≡ true → i < page_bytes → nat_lt (index * page_bytes + i) (rounded size) ≡ true
whole-page size index i e l = grind (arith, nat_tests, below ((size + 4095) / 4096) index i)
  where
    below : (k index i : ℕ) → index * 4096 < k * 4096 → i < 4096 → index * 4096 + i < k * 4096
    below k index i e l = omega arith

abbrev place_at : PageId → ℕ → Place
place_at page i = record { page = page; within = i }

place-is : (t : Attachment) (page : PageId) (i : ℕ) → same_page (place_in t (page.index * page_bytes)).page page ≡ true → i < page_bytes → place_in t (page.index * page_bytes + i) ≡ place_at page i
place-is t page i e l =
    let seg : t.id ≡ page.seg = ap (λ (p : PageId). p.seg) (page-same (place_in t (page.index * page_bytes)).page page e) in
    let made : ℕ → ℕ → ℕ → Place = (λ x y z. record { page = record { seg = x; index = y }; within = z }) in
    let offset : ℕ = page.index * page_bytes + i in
    ap (λ x. made x (index_of offset) (within_of offset)) seg
    ∙ (ap (λ y. made page.seg y (within_of offset)) (index-is offset page.index i refl l) ∙ ap (λ z. made page.seg page.index z) (within-is offset page.index i refl l))

place-if : (t : Attachment) (page : PageId) (i : ℕ) (ro low : Bool) → nat_lt (page.index * page_bytes) (rounded t.size) ≡ low → i < page_bytes
    → is_place_in page (if ro then Err read_only else if low then Ok (place_in t (page.index * page_bytes)) else Err out_of_segment) ≡ true
    → (if ro then Err read_only else if nat_lt (page.index * page_bytes + i) (rounded t.size) then Ok (place_in t (page.index * page_bytes + i)) else Err out_of_segment) ≡ Ok (place_at page i)
place-if t page i true low e l h = absurd (false-true h)
place-if t page i false false e l h = absurd (false-true h)
place-if t page i false true e l h =
    cond-true (nat_lt (page.index * page_bytes + i) (rounded t.size)) (Ok (place_in t (page.index * page_bytes + i))) (Err out_of_segment) (whole-page t.size page.index i e l)
    ∙ ap Ok (place-is t page i h l)

place-through : (t : Option Attachment) (page : PageId) (i : ℕ) → i < page_bytes → is_place_in page (right_through t (page.index * page_bytes) true) ≡ true
    → right_through t (page.index * page_bytes + i) true ≡ Ok (place_at page i)
place-through None page i l h = absurd (false-true h)
place-through (Some t) page i l h = place-if t page i t.ro (nat_lt (page.index * page_bytes) (rounded t.size)) refl l h

set-twice : {X : Type 0} (xs : List X) (s : ℕ) (x y : X) → slice_set (slice_set xs s x) s y ≡ slice_set xs s y
set-twice [] s x y = refl
set-twice (z ∷ zs) zero x y = refl
set-twice (z ∷ zs) (suc s) x y = ap (λ ws. z ∷ ws) (set-twice zs s x y)

twice-if : (e old new : Entry) (same : Bool) → (if same then new else if same then old else e) ≡ (if same then new else e)
twice-if e old new true = refl
twice-if e old new false = refl

at-twice : (f : PageId → Entry) (page : PageId) (old new : Entry) → at_page (at_page f page old) page new ≡ at_page f page new
at-twice f page old new = fun_ext (λ q. twice-if (f q) old new (same_page page q))

at-same-if : (f : PageId → Entry) (page q : PageId) (same : Bool) → same_page page q ≡ same → (if same then f page else f q) ≡ f q
at-same-if f page q true e = ap f (page-same page q e)
at-same-if f page q false e = refl

at-same-page : (f : PageId → Entry) (page : PageId) → at_page f page (f page) ≡ f
at-same-page f page = fun_ext (λ q. at-same-if f page q (same_page page q) refl)

module _ (w : World) (s a : ℕ) (page : PageId) (x : Site) (n : ℕ) (memory : List ℕ) (found : slice_get w.sites s ≡ Some x) (room : is_full w ≡ false) (has : has_page x a page true ≡ true) where
  -- the site, and its world, with these bytes in its page
  abbrev pub written : List ℕ → Site
  written b = record x { entries = at_page x.entries page (OwnWrite n b) }

  abbrev pub written_world : List ℕ → World
  written_world b = record w { sites = slice_set w.sites s (written b) }

  abbrev stored_as : List ℕ → ℕ → ℕ → Entry → Step
  stored_as b i byte e =
      if writable e then still Stored (record (written b) { entries = at_page (written b).entries page (stored_entry i byte e) }) else ask_for w.count s Write page (written b)

  store-steps : (b : List ℕ) (i byte : ℕ) → i < page_bytes → step w.count s (written b) (Store a (page.index * page_bytes + i) byte) ≡ still Stored (written (slice_set b i byte))
  store-steps b i byte l =
      ap (λ r. store_if w.count s r byte (written b)) (place-through (x.attachments a) page i l has)
      ∙ (ap (stored_as b i byte) (at-page-here x.entries page (OwnWrite n b))
      ∙ ap (λ (f : PageId → Entry). still Stored (record x { entries = f })) (at-twice x.entries page (OwnWrite n b) (OwnWrite n (slice_set b i byte))))

  store-next : (b : List ℕ) (i : ℕ) → i < page_bytes → (next (written_world b) (store_back s a page memory i)).world ≡ written_world (slice_set b i (slice_index memory i))
  store-next b i l =
      let byte : ℕ = slice_index memory i in
      let input = Store a (page.index * page_bytes + i) byte in
      ap (λ o. (step_site o (written_world b) s input).world) (slice_get-set_same w.sites s x (written b) found)
      ∙ (ap (λ full. (if full then unstepped (written_world b) s (Refused numbers_used_up) else stepped (written_world b) s input (step w.count s (written b) input)).world) room
      ∙ (ap (λ done. (stepped (written_world b) s input done).world) (store-steps b i byte l)
      ∙ (ap (λ sent. record w { sites = slice_set (slice_set w.sites s (written b)) s (written (slice_set b i byte)); sent = sent }) (append-nil w.sent)
      ∙ ap (λ sites. record w { sites = sites }) (set-twice w.sites s (written b) (written (slice_set b i byte))))))

  stores-next : (is b : List ℕ) → Each (λ i. i < page_bytes) is → after_events (written_world b) (map (store_back s a page memory) is) ≡ written_world (put_all is memory b)
  stores-next [] b l = refl
  stores-next (i ∷ is) b l =
      ap (λ v. after_events v (map (store_back s a page memory) is)) (store-next b i l.0) ∙ stores-next is (slice_set b i (slice_index memory i)) l.1

  begin-written : (b : List ℕ) → x.entries page ≡ OwnWrite n b → w ≡ written_world b
  begin-written b e =
      let same : x ≡ written b = ap (λ (f : PageId → Entry). record x { entries = f }) (sym (ap (at_page x.entries page) (sym e) ∙ at-same-page x.entries page)) in
      ap (λ sites. record w { sites = sites }) (sym (ap (slice_set w.sites s) (sym same) ∙ set-same w.sites s x found))

  pub stores-bring : (b : List ℕ) → x.entries page ≡ OwnWrite n b → length b ≡ page_bytes → length memory ≡ page_bytes
      → after_events w (stores_back s a page (bytes (x.entries page)) memory) ≡ written_world memory
  stores-bring b e long same =
      ap (λ v. after_events w (stores_back s a page (bytes v) memory)) e
      ∙ (ap (λ v. after_events v (stores_back s a page b memory)) (begin-written b e)
      ∙ (stores-next (changed b memory) b (changed-below b memory long) ∙ ap written_world (put-changed b memory long same)))
