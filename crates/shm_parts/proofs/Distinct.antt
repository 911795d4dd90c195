-- Pages that stand in a list once.
use Rattle.std.proofs.Common.{◌≡◌, ◌∙◌, ℕ, suc, Bool, true, false, cond, not, List, [], ◌∷◌, filter, Option, Some, None, is_some, nat_cmp, Less, refl, ap, sym, true≢false}
use Rattle.std.proofs.lemmas.Bool.{and_parts, false≢true}
use Rattle.std.proofs.lemmas.Map.Keys.{IsDistinct-cons, IsDistinct-head, IsDistinct-tail, sorted_head, sorted_tail}
use Rattle.std.proofs.lemmas.Option.{none-some, same_Some}
use Rattle.std.specs.BTreeMap.{is_at}
use Rattle.std.specs.List.{AllByRecursion, IsDistinct}
use Rattle.std.specs.List.Sorted.{IsStrictlySortedBy}
use Rattle.std.specs.Map.{keys_of, values_of}
use Rattle.std.specs.Option.{option_map}
use Rattle.shm_place.specs.declared.page_id.PageId.{PageId}
use Rattle.shm_place.specs.Page.{same_page}
use Rattle.shm_parts.specs.Frames.{counted}
use Rattle.shm_parts.specs.OrderedPages.{is_apart, place_in, standing}
use Rattle.shm_parts.specs.Places.{place_of}
use Rattle.shm_parts.proofs.EntryLemmas.{page-same}
use Rattle.shm_parts.proofs.ListLemmas.{all-filter, all-keys, all-map, all-values}
use Rattle.shm_parts.proofs.PlaceLemmas.{at-itself}
use Rattle.shm_parts.proofs.RisingLemmas.{less_apart}

pub none_distinct : {K : Type 0} (e : K → K → Bool) → IsDistinct e []
unfolding IsDistinct
none_distinct e = record {}

both : {X : Type 0} (P Q R : X → Type 0) (xs : List X) → ((x : X) → P x → Q x → R x) → AllByRecursion P xs → AllByRecursion Q xs → AllByRecursion R xs
both P Q R [] make p q = record {}
both P Q R (x ∷ xs) make p q = (make x p.0 q.0, both P Q R xs make p.1 q.1)

-- ---- pages at places

mapped_none : (o : Option ℕ) → option_map (λ n. suc n) o ≡ None → o ≡ None
mapped_none None h = refl
mapped_none (Some n) h = absurd (none-some (suc n) (sym h))

not_some : (o : Option ℕ) → not (is_some o) ≡ true → o ≡ None
not_some None h = refl
not_some (Some n) h = absurd (false≢true h)

module _ {V : Type 0} where
  none_standing : (page : PageId) (rows : List (Option (PageId × V))) → place_in page rows ≡ None → AllByRecursion (λ p. same_page page p ≡ false) (keys_of (standing rows))
  none_standing page [] h = record {}
  none_standing page (None ∷ rows) h = none_standing page rows (mapped_none (place_in page rows) h)
  none_standing page (Some e ∷ rows) h =
      (other (same_page page e.0) (option_map (λ n. suc n) (place_in page rows)) h, none_standing page rows (mapped_none (place_in page rows) (left (same_page page e.0) (option_map (λ n. suc n) (place_in page rows)) h)))
    where
      other : (b : Bool) (o : Option ℕ) → cond b (Some 0) o ≡ None → b ≡ false
      other true o h = absurd (none-some 0 (sym h))
      other false o h = refl

      left : (b : Bool) (o : Option ℕ) → cond b (Some 0) o ≡ None → o ≡ None
      left true o h = absurd (none-some 0 (sym h))
      left false o h = h

  pub standing_distinct : (rows : List (Option (PageId × V))) → is_apart rows ≡ true → IsDistinct same_page (keys_of (standing rows))
  standing_distinct [] h = none_distinct same_page
  standing_distinct (None ∷ rows) h = standing_distinct rows h
  standing_distinct (Some e ∷ rows) h =
      let parts = and_parts (not (is_some (place_in e.0 rows))) (is_apart rows) h in
      IsDistinct-cons same_page e.0 (keys_of (standing rows)) (none_standing e.0 rows (not_some (place_in e.0 rows) parts.0)) (standing_distinct rows parts.1)

-- ---- some of the pages

filter_distinct : (keep : PageId → Bool) (pages : List PageId) → IsDistinct same_page pages → IsDistinct same_page (filter keep pages)
filter_distinct keep [] distinct = none_distinct same_page
filter_distinct keep (p ∷ ps) distinct = by (keep p) (filter_distinct keep ps (IsDistinct-tail same_page p ps distinct))
  where
    by : (b : Bool) → IsDistinct same_page (filter keep ps) → IsDistinct same_page (cond b (p ∷ filter keep ps) (filter keep ps))
    by true rest =
        IsDistinct-cons same_page p (filter keep ps)
        (all-map (λ q. (same_page p q ≡ false) × (keep q ≡ true)) (λ q. same_page p q ≡ false) (filter keep ps) (λ q h. h.0)
        (all-filter (λ q. same_page p q ≡ false) keep ps (IsDistinct-head same_page p ps distinct)))
        rest
    by false rest = rest

pub counted_distinct : (awaited : Option PageId) (pages : List PageId) → IsDistinct same_page pages → IsDistinct same_page (counted awaited pages)
counted_distinct None pages distinct = distinct
counted_distinct (Some a) pages distinct = filter_distinct (λ q. not (same_page a q)) pages distinct

-- ---- pages in the order of their places

other_page : (places : List (PageId × ℕ)) (e f : ℕ × PageId) → place_of places e.1 ≡ Some e.0 → nat_cmp e.0 f.0 ≡ Less → place_of places f.1 ≡ Some f.0 → same_page e.1 f.1 ≡ false
other_page places e f own less other = by (same_page e.1 f.1) refl
  where
    by : (b : Bool) → same_page e.1 f.1 ≡ b → b ≡ false
    by true same =
        let place : e.0 ≡ f.0 = same_Some e.0 f.0 (sym own ∙ ap (place_of places) (page-same e.1 f.1 same) ∙ other) in
        absurd (true≢false (sym (at-itself e.0) ∙ ap (λ (n : ℕ). is_at (nat_cmp e.0) n) place ∙ less_apart e.0 f.0 less))
    by false same = refl

pub placed_distinct : (places : List (PageId × ℕ)) (es : List (ℕ × PageId)) → IsStrictlySortedBy nat_cmp (keys_of es) → AllByRecursion (λ e. place_of places e.1 ≡ Some e.0) es → IsDistinct same_page (values_of es)
placed_distinct places [] rising own = none_distinct same_page
placed_distinct places (e ∷ es) rising own =
    IsDistinct-cons same_page e.1 (values_of es)
    (all-values (λ p. same_page e.1 p ≡ false) es
    (both (λ (f : ℕ × PageId). nat_cmp e.0 f.0 ≡ Less) (λ (f : ℕ × PageId). place_of places f.1 ≡ Some f.0) (λ (f : ℕ × PageId). same_page e.1 f.1 ≡ false) es
    (λ f less other. other_page places e f own.0 less other)
    (all-keys (λ k. nat_cmp e.0 k ≡ Less) es (sorted_head nat_cmp e.0 (keys_of es) rising)) own.1))
    (placed_distinct places es (sorted_tail nat_cmp e.0 (keys_of es) rising) own.1)
