-- The places of a page that accesses go to one after another, and what they are answered.
use Rattle.std.proofs.Common.{◌≡◌, ℕ, ◌==◌, zero, suc, ◌+◌, ◌<◌, Bool, true, false, ◌&&◌, List, [], ◌∷◌, Option, Some, None, Result, Ok, Err, cond, length, take, drop, nat_lt, slice_index, refl, ap, sym, subst, ◌∙◌, arith}
use Rattle.std.specs.Prelude.{is_some}
use Rattle.std.proofs.lemmas.Bool.Decides.{nat_tests}
use Rattle.shm_place.specs.declared.page_id.PageId.{PageId}
use Rattle.shm_place.specs.Limits.{page_bytes}
use Rattle.shm_place.specs.Offset.{index_of, rounded, within_of}
use Rattle.shm_model.specs.declared.answer.Answer.TheVariants.{Byte, Refused, Stored, Waiting}
use Rattle.shm_model.specs.declared.request_kind.Kind.{Kind}
use Rattle.shm_model.specs.declared.request_kind.Kind.TheVariants.{Read, Write}
use Rattle.shm_model.specs.Access.{Place, ask_for, asked, is_pending, load, load_if, place_in, right, right_through, store, store_if, stored_entry}
use Rattle.shm_model.specs.Basics.{at_page, greatest}
use Rattle.shm_model.specs.Calls.{Attachment}
use Rattle.shm_model.specs.Entry.{bytes, readable, writable}
use Rattle.shm_model.specs.Refusal.{numbers_used_up, out_of_segment, read_only}
use Rattle.shm_model.specs.Site.{Site, still}
use Rattle.shm_site.specs.AtOnce.{byte_given, is_stored}

-- ---- a list from a place on

-- what begins a part of a list, and what goes on with it
pub part_first : (xs : List ℕ) (from byte : ℕ) (more : List ℕ) → byte ∷ more ≡ take (suc (length more)) (drop from xs)
    → (byte ≡ slice_index xs from) × (more ≡ take (length more) (drop (from + 1) xs))
part_first [] zero byte more e = absurd (cc)
part_first [] (suc from) byte more e = absurd (cc)
part_first (x ∷ xs) zero byte more e = (heads byte x more (take (length more) xs) e, tails byte x more (take (length more) xs) e)
  where
    heads : (a b : ℕ) (us vs : List ℕ) → a ∷ us ≡ b ∷ vs → a ≡ b
    heads a b us vs e = cc

    tails : (a b : ℕ) (us vs : List ℕ) → a ∷ us ≡ b ∷ vs → us ≡ vs
    tails a b us vs e = cc
part_first (x ∷ xs) (suc from) byte more e =
    let rest = part_first xs from byte more e in
    let on : suc (from + 1) ≡ suc from + 1 = omega arith in
    (rest.0, rest.1 ∙ ap (λ n. take (length more) (drop n (x ∷ xs))) on)

-- ---- the next place

ok-is : (a b : Place) → ◌≡◌ {A = Result Place ℕ} (Ok a) (Ok b) → a ≡ b
ok-is a b e = cc

next-low : (offset size : ℕ) → within_of offset + 1 < page_bytes → nat_lt offset (rounded size) ≡ true → nat_lt (offset + 1) (rounded size) ≡ true
next-low offset size small h =
    let low : offset < rounded size = grind (arith, nat_tests, h) in
    let more : offset + 1 < rounded size = omega (arith, small, low) in
    grind (arith, nat_tests)

next-index : (offset : ℕ) → within_of offset + 1 < page_bytes → index_of (offset + 1) ≡ index_of offset
next-index offset small = omega (arith, small)

next-within : (offset : ℕ) → within_of offset + 1 < page_bytes → within_of (offset + 1) ≡ within_of offset + 1
next-within offset small = omega (arith, small)

abbrev pub place_after : Place → Place
place_after place = record place { within = place.within + 1 }

next-in : (x : Attachment) (offset : ℕ) → within_of offset + 1 < page_bytes → place_in x (offset + 1) ≡ place_after (place_in x offset)
next-in x offset small =
    ap (λ i. record { page = record { seg = x.id; index = i }; within = within_of (offset + 1) }) (next-index offset small)
    ∙ ap (λ w. record { page = record { seg = x.id; index = index_of offset }; within = w }) (next-within offset small)

next-inside : (x : Attachment) (offset : ℕ) (refused inside : Bool) (place : Place) → nat_lt offset (rounded x.size) ≡ inside → place.within + 1 < page_bytes
    → cond refused (Err read_only) (cond inside (Ok (place_in x offset)) (Err out_of_segment)) ≡ Ok place
    → cond refused (Err read_only) (cond (nat_lt (offset + 1) (rounded x.size)) (Ok (place_in x (offset + 1))) (Err out_of_segment)) ≡ Ok (place_after place)
next-inside x offset true inside place is small e = absurd (cc)
next-inside x offset false false place is small e = absurd (cc)
next-inside x offset false true place is small e =
    let same = ok-is (place_in x offset) place e in
    let few : within_of offset + 1 < page_bytes = subst (λ (p : Place). p.within + 1 < page_bytes) (sym same) small in
    ap (λ b. cond b (Ok (place_in x (offset + 1))) (Err out_of_segment)) (next-low offset x.size few is)
    ∙ ap Ok (next-in x offset few ∙ ap place_after same)

-- of one place and the next, both in the page
pub next_place : (found : Option Attachment) (offset : ℕ) (stores : Bool) (place : Place) → place.within + 1 < page_bytes
    → right_through found offset stores ≡ Ok place → right_through found (offset + 1) stores ≡ Ok (place_after place)
next_place None offset stores place small e = absurd (cc)
next_place (Some x) offset stores place small e = next-inside x offset (stores && x.ro) (nat_lt offset (rounded x.size)) place refl small e

-- where in its page an offset is
within-if : (x : Attachment) (offset : ℕ) (refused inside : Bool) (place : Place)
    → cond refused (Err read_only) (cond inside (Ok (place_in x offset)) (Err out_of_segment)) ≡ Ok place → place.within ≡ within_of offset
within-if x offset true inside place e = absurd (cc)
within-if x offset false false place e = absurd (cc)
within-if x offset false true place e = ap (λ (p : Place). p.within) (sym (ok-is (place_in x offset) place e))

pub within_is : (found : Option Attachment) (offset : ℕ) (stores : Bool) (place : Place) → right_through found offset stores ≡ Ok place → place.within ≡ within_of offset
within_is None offset stores place e = absurd (cc)
within_is (Some x) offset stores place e = within-if x offset (stores && x.ro) (nat_lt offset (rounded x.size)) place e

-- who may store there may load there
right-if : (ro inside : Bool) (p place : Place) → cond ro (Err read_only) (cond inside (Ok p) (Err out_of_segment)) ≡ Ok place
    → cond inside (Ok p) (Err out_of_segment) ≡ Ok place
right-if true inside p place e = absurd (cc)
right-if false inside p place e = e

pub loads_too : (found : Option Attachment) (offset : ℕ) (place : Place) → right_through found offset true ≡ Ok place → right_through found offset false ≡ Ok place
loads_too None offset place e = absurd (cc)
loads_too (Some x) offset place e = right-if x.ro (nat_lt offset (rounded x.size)) (place_in x offset) place e

-- ---- a load that is made at once

pub load_given : (sites me at offset : ℕ) (site : Site) (place : Place) → right site.attachments at offset false ≡ Ok place → readable (site.entries place.page) ≡ true
    → load sites me at offset site ≡ still (Byte (slice_index (bytes (site.entries place.page)) place.within)) site
load_given sites me at offset site place leads reads =
    ap (λ r. load_if sites me r site) leads
    ∙ ap (λ b. cond b (still (Byte (slice_index (bytes (site.entries place.page)) place.within)) site) (ask_for sites me Read place.page site)) reads

pub store_made : (sites me at offset byte : ℕ) (site : Site) (place : Place) → right site.attachments at offset true ≡ Ok place
    → writable (site.entries place.page) ≡ true
    → store sites me at offset byte site ≡ still Stored (record site { entries = at_page site.entries place.page (stored_entry place.within byte (site.entries place.page)) })
store_made sites me at offset byte site place leads writes =
    ap (λ r. store_if sites me r byte site) leads
    ∙ ap (λ b. cond b (still Stored (record site { entries = at_page site.entries place.page (stored_entry place.within byte (site.entries place.page)) }))
    (ask_for sites me Write place.page site)) writes

-- ---- and who has the right

-- an access that has to ask gives no byte, and stores none
ask-none : (sites me : ℕ) (kind : Kind) (page : PageId) (site : Site) (pending used : Bool)
    → is_some (byte_given (cond pending (still Waiting site) (cond used (still (Refused numbers_used_up) site) (asked sites me kind page site))).answer) ≡ false
ask-none sites me kind page site true used = refl
ask-none sites me kind page site false true = refl
ask-none sites me kind page site false false = refl

ask-stored : (sites me : ℕ) (kind : Kind) (page : PageId) (site : Site) (pending used : Bool)
    → is_stored (cond pending (still Waiting site) (cond used (still (Refused numbers_used_up) site) (asked sites me kind page site))).answer ≡ false
ask-stored sites me kind page site true used = refl
ask-stored sites me kind page site false true = refl
ask-stored sites me kind page site false false = refl

no-both : (b : Bool) → b ≡ false → b ≡ true → ⊥
no-both true e f = absurd (cc)
no-both false e f = absurd (cc)

reads-if : (sites me : ℕ) (place : Place) (site : Site) (can : Bool)
    → is_some (byte_given (cond can (still (Byte (slice_index (bytes (site.entries place.page)) place.within)) site) (ask_for sites me Read place.page site)).answer) ≡ true
    → can ≡ true
reads-if sites me place site true e = refl
reads-if sites me place site false e =
    absurd (no-both _ (ask-none sites me Read place.page site (is_pending Read place.page site.pending) (site.requests == greatest)) e)

writes-if : (sites me byte : ℕ) (place : Place) (site made : Site) (can : Bool)
    → is_stored (cond can (still Stored made) (ask_for sites me Write place.page site)).answer ≡ true → can ≡ true
writes-if sites me byte place site made true e = refl
writes-if sites me byte place site made false e =
    absurd (no-both _ (ask-stored sites me Write place.page site (is_pending Write place.page site.pending) (site.requests == greatest)) e)

pub load_reads : (sites me : ℕ) (r : Result Place ℕ) (site : Site) → is_some (byte_given (load_if sites me r site).answer) ≡ true
    → (place : Place) × (r ≡ Ok place) × (readable (site.entries place.page) ≡ true)
load_reads sites me (Err refusal) site e = absurd (cc)
load_reads sites me (Ok place) site e = (place, refl, reads-if sites me place site (readable (site.entries place.page)) e)

pub store_writes : (sites me byte : ℕ) (r : Result Place ℕ) (site : Site) → is_stored (store_if sites me r byte site).answer ≡ true
    → (place : Place) × (r ≡ Ok place) × (writable (site.entries place.page) ≡ true)
store_writes sites me byte (Err refusal) site e = absurd (cc)
store_writes sites me byte (Ok place) site e = (place, refl, writes-if sites me byte place site _ (writable (site.entries place.page)) e)
