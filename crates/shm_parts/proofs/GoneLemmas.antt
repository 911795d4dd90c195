-- A segment's pages are dropped one after the other, from its first.
use Rattle.std.proofs.Common.{◌≡◌, ◌==◌, ◌&&◌, ◌+◌, ◌<◌, ◌≤◌, ℕ, Bool, true, false, cond, nat_lt, if◌then◌else◌, Option, None, sym, ap, refl, ◌∙◌, arith}
use Rattle.std.proofs.lemmas.Bool.Decides.{nat_tests}
use Rattle.shm_place.specs.declared.page_id.PageId.{PageId}
use Rattle.shm_place.specs.Limits as limit
use Rattle.shm_place.specs.Page.{same_page}
use Rattle.shm_parts.specs.Ends.{is_past}

-- a page of the segment with an index below this one
abbrev pub gone_below : ℕ → ℕ → PageId → Bool
gone_below id index page = (id == page.seg) && nat_lt page.index index

pub gone-none : (id : ℕ) (page : PageId) → gone_below id 0 page ≡ false
gone-none id page = grind (arith, nat_tests)

pub gone-more : (id index : ℕ) (page : PageId) → gone_below id (index + 1) page ≡ (if same_page (record { seg = id; index = index }) page then true else gone_below id index page)
gone-more id index page = grind (arith, nat_tests)

-- a page of the segment is dropped, or past the end
pub gone-past : (id end index : ℕ) (page : PageId) → end ≤ index → (id == page.seg) ≡ true → page.index < limit.pages → gone_below id index page ≡ false → is_past id end page ≡ true
gone-past id end index page all own small kept = grind (arith, nat_tests)

-- what is stored at a page, before and after
module _ {X : Type 0} where
  pub gone_start : (old : Option X) (id : ℕ) (q : PageId) → old ≡ cond (gone_below id 0 q) None old
  gone_start old id q = ap (λ b. cond b None old) (sym (gone-none id q))

  pub gone_step : (old now next : Option X) (id index : ℕ) (q : PageId) → now ≡ cond (gone_below id index q) None old
      → next ≡ cond (same_page (record { seg = id; index = index }) q) None now → next ≡ cond (gone_below id (index + 1) q) None old
  gone_step old now next id index q so_far taken =
      let page : PageId = record { seg = id; index = index } in
      taken ∙ ap (λ (o : Option X). cond (same_page page q) None o) so_far ∙ by (same_page page q) (gone_below id index q) ∙ ap (λ b. cond b None old) (sym (gone-more id index q))
    where
      by : (a b : Bool) → cond a None (cond b None old) ≡ cond (if a then true else b) None old
      by true b = refl
      by false b = refl

  -- nothing is stored at a page past the end
  pub gone_all : (old now : Option X) (id end index : ℕ) (q : PageId) → end ≤ index → now ≡ cond (gone_below id index q) None old → (is_past id end q ≡ true → old ≡ None) → (id == q.seg) ≡ true → q.index < limit.pages → now ≡ None
  gone_all old now id end index q all so_far past own small = so_far ∙ by (gone_below id index q) refl
    where
      by : (b : Bool) → gone_below id index q ≡ b → cond b None old ≡ None
      by true e = refl
      by false e = past (gone-past id end index q all own small e)
