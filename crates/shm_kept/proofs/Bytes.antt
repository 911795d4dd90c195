-- The bytes that a map gives are the entry's, and what loads give.
use Rattle.std.proofs.Common.{◌≡◌, ℕ, ◌+◌, ◌*◌, ◌<◌, Bool, true, false, Option, Some, None, Result, Ok, Err, cond, refl, sym, ap, ◌∙◌, arith, nat_lt, slice_index}
use Rattle.std.proofs.lemmas.Bool.Decides.{nat_tests}
use Rattle.shm_place.specs.Limits.{page_bytes, pages}
use Rattle.shm_place.specs.Offset.{index_of, rounded, within_of}
use Rattle.shm_model.specs.declared.answer.Answer.TheVariants.{Byte}
use Rattle.shm_model.specs.declared.request_kind.Kind.{Kind}
use Rattle.shm_model.specs.declared.request_kind.Kind.TheVariants.{Read}
use Rattle.shm_model.specs.Access.{Place, ask_for, load, load_if, place_in, right, right_through}
use Rattle.shm_model.specs.Calls.{Attachment}
use Rattle.shm_model.specs.Entry.{bytes, readable}
use Rattle.shm_model.specs.Refusal.{out_of_segment}
use Rattle.shm_model.specs.Site.{Site, still}
use Rattle.shm_parts.specs.Reached.{page_reached}
use Rattle.shm_site.specs.AtOnce.{byte_given}
use Rattle.shm_process.specs.Mapped.{byte_place}
use Rattle.shm_process.specs.Node.{Node}
use Rattle.shm_process.specs.Remaps.{bytes_reached, bytes_there}
use Rattle.shm_kept.specs.Bytes.{GivesBytes, IsMappable}
use Rattle.shm_kept.proofs.Nodes.{has-reads}

-- ---- one byte

pub place-of : (index k : ℕ) → index < pages → k < page_bytes → byte_place index k ≡ index * page_bytes + k
place-of index k low small = grind (arith, nat_tests, low, small)

pub index-is : (index k : ℕ) → k < page_bytes → index_of (index * page_bytes + k) ≡ index
index-is index k small = omega (arith, small)

pub within-is : (index k : ℕ) → k < page_bytes → within_of (index * page_bytes + k) ≡ k
within-is index k small = omega (arith, small)

-- what has a page's first byte has all its bytes
inside-too : (index k size : ℕ) → k < page_bytes → index * page_bytes + 0 < rounded size → index * page_bytes + k < rounded size
inside-too index k size small h = omega (arith, small, h)

pub inside-test : (index k size : ℕ) → k < page_bytes → nat_lt (index * page_bytes + 0) (rounded size) ≡ true → nat_lt (index * page_bytes + k) (rounded size) ≡ true
inside-test index k size small h = let first : index * page_bytes + 0 < rounded size = grind (arith, nat_tests, h) in let more = inside-too index k size small first in grind (arith, nat_tests, more)

ok-parts : (b : Bool) (p place : Place) (r : ℕ) → ◌≡◌ {A = Result Place ℕ} (cond b (Ok p) (Err r)) (Ok place) → (b ≡ true) × (p ≡ place)
ok-parts true p place r e = (refl, cc)
ok-parts false p place r e = absurd (cc)

record LeadsTo (found : Option Attachment) (offset k : ℕ) (place : Place) : Type 0 where
  pub there : Place
  pub is : right_through found offset false ≡ Ok there
  pub page : there.page ≡ place.page
  pub within : there.within ≡ k

leads-inside : (x : Attachment) (index k : ℕ) (place : Place) → k < page_bytes → right_through (Some x) (index * page_bytes + 0) false ≡ Ok place
    → LeadsTo (Some x) (index * page_bytes + k) k place
leads-inside x index k place small e =
    let first = index * page_bytes + 0 in
    let offset = index * page_bytes + k in
    let parts = ok-parts (nat_lt first (rounded x.size)) (place_in x first) place out_of_segment e in
    let zero_small : 0 < page_bytes = omega arith in
    record {
      there = place_in x offset;
      is = ap (λ b. cond b (Ok (place_in x offset)) (Err out_of_segment)) (inside-test index k x.size small parts.0);
      page = ap (λ (i : ℕ). record { seg = x.id; index = i }) (index-is index k small ∙ sym (index-is index 0 zero_small)) ∙ ap (λ (p : Place). p.page) parts.1;
      within = within-is index k small;
    }

leads-to : (found : Option Attachment) (index k : ℕ) (place : Place) → k < page_bytes → right_through found (index * page_bytes + 0) false ≡ Ok place
    → LeadsTo found (index * page_bytes + k) k place
leads-to None index k place small e = absurd (cc)
leads-to (Some x) index k place small e = leads-inside x index k place small e

byte-is : (sites me : ℕ) (site : Site) (there : Place) → readable (site.entries there.page) ≡ true
    → byte_given (load_if sites me (Ok there) site).answer ≡ Some (slice_index (bytes (site.entries there.page)) there.within)
byte-is sites me site there reads =
    ap (λ b. byte_given (cond b (still (Byte (slice_index (bytes (site.entries there.page)) there.within)) site) (ask_for sites me Read there.page site)).answer) reads

module _ (node : Node) (at index : ℕ) (kind : Kind) (place : Place) (m : IsMappable node at index kind place) where
  entry-is : bytes_there node.site at index ≡ bytes (node.site.entries place.page)
  entry-is = ap (λ r. bytes_reached (page_reached r) node.site) m.leads

  one-byte : (k : ℕ) → k < page_bytes → byte_given (load node.sites node.me at (byte_place index k) node.site).answer
      ≡ Some (slice_index (bytes (node.site.entries place.page)) k)
  one-byte k small =
      let zero_small : 0 < page_bytes = omega arith in
      let first : right_through (node.site.attachments at) (index * page_bytes + 0) false ≡ Ok place =
      ap (λ o. right_through (node.site.attachments at) o false) (sym (place-of index 0 m.within zero_small)) ∙ m.leads in
      let l = leads-to (node.site.attachments at) index k place small first in
      let reads = has-reads node.sites node.me node.site at index kind place m.has m.leads in
      ap (λ o. byte_given (load_if node.sites node.me (right node.site.attachments at o false) node.site).answer) (place-of index k m.within small)
      ∙ ap (λ r. byte_given (load_if node.sites node.me r node.site).answer) l.is
      ∙ byte-is node.sites node.me node.site l.there (ap (λ p. readable (node.site.entries p)) l.page ∙ reads)
      ∙ ap (λ p. Some (slice_index (bytes (node.site.entries p)) l.there.within)) l.page
      ∙ ap (λ w. Some (slice_index (bytes (node.site.entries place.page)) w)) l.within

  pub gives-bytes : GivesBytes node at index place
  gives-bytes = record {
    entry = entry-is;
    loaded = λ k small. one-byte k small ∙ ap (λ b. Some (slice_index b k)) (sym entry-is);
  }
