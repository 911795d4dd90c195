-- The pages that are listed and marked fit the books, after a change of both.
use Rattle.std.proofs.Common.{◌≡◌, ◌==◌, ◌&&◌, ◌≤◌, ◌+◌, ℕ, Bool, true, false, cond, not, nat_lt, if◌then◌else◌, List, [], ◌∷◌, filter, map, Option, Some, None, is_some, refl, sym, ap, ◌∙◌}
use Rattle.std.proofs.Math.Path.{fun_ext}
use Rattle.std.proofs.lemmas.Bool.{false≢true, true≢false}
use Rattle.std.specs.List.{list_any}
use Rattle.std.specs.Map.{keys_of, lookup}
use Rattle.shm_place.specs.declared.page_id.PageId.{PageId}
use Rattle.shm_place.specs.Page.{same_page}
use Rattle.shm_manager.specs.Book.{book_of}
use Rattle.shm_manager.specs.declared.book.Book.{Book}
use Rattle.shm_model.specs.Book as model
use Rattle.shm_model.specs.SegmentCalls.{of_segment, without_segment}
use Rattle.shm_model.specs.Transfer.{without_page}
use Rattle.shm_parts.specs.Booked.{IsBooked, book_or, runs_at}
use Rattle.shm_parts.specs.Bookings.{is_listed, is_marked, listed_of}
use Rattle.shm_parts.specs.Books.{viewed}
use Rattle.shm_parts.specs.Ends.{is_past}
use Rattle.shm_parts.specs.Places.{in_order, place_of}
use Rattle.shm_parts.specs.declared.pages_with_books.Bookings.{Bookings}
use Rattle.shm_parts.proofs.BookSteps.{as_books, forgotten_books, forgotten_keys, list_any-keys, page-same, same_books, same_keys}
use Rattle.shm_parts.proofs.GoneLemmas.{gone_below, gone-more, gone-none, gone-past}
use Rattle.shm_parts.proofs.ListLemmas.{all-map, all-values, filter-agree, filter-twice}
use Rattle.shm_parts.proofs.PlaceLemmas.{any_placed, listed_within}

pub settled_off : (a b c : Bool) → b ≡ c → c ≡ true → (a && not b) ≡ false
settled_off true b c same h = ap not (same ∙ h)
settled_off false b c same h = refl

present-keys : {A : Type 0} (old new : List (PageId × Book A)) → keys_of new ≡ keys_of old → (q : PageId) → is_some (lookup (same_page q) new) ≡ is_some (lookup (same_page q) old)
present-keys old new same q = sym (list_any-keys (same_page q) new) ∙ ap (list_any (same_page q)) same ∙ list_any-keys (same_page q) old

module _ {A B : Type 0} where
  -- the same pages have books and run
  pub booked_alike : (old new : List (PageId × Book A)) (was now : Bookings B) → ((q : PageId) → is_some (lookup (same_page q) new) ≡ is_some (lookup (same_page q) old)) → ((q : PageId) → runs_at new q ≡ runs_at old q)
      → is_listed now ≡ is_listed was → ((q : PageId) → is_marked was q ≡ true → is_marked now q ≡ true) → IsBooked old was → IsBooked new now
  booked_alike old new was now present runs listed keeps is = record {
    listed = λ q. ap (λ (f : PageId → Bool). f q) listed ∙ is.listed q ∙ sym (present q);
    running = λ q h. keeps q (is.running q (sym (runs q) ∙ h));
  }

  pub booked_same : (old new : List (PageId × Book A)) (was now : Bookings B) → new ≡ old → is_listed now ≡ is_listed was → ((q : PageId) → is_marked was q ≡ true → is_marked now q ≡ true) → IsBooked old was → IsBooked new now
  booked_same old new was now same listed keeps is =
      booked_alike old new was now (λ q. ap (λ (es : List (PageId × Book A)). is_some (lookup (same_page q) es)) same) (λ q. ap (λ (es : List (PageId × Book A)). runs_at es q) same) listed keeps is

  -- a restart, and a copy
  pub booked_forgotten : (old new : List (PageId × Book A)) (was : Bookings B) → viewed new ≡ map (λ e. (e.0, model.without_volatile e.1)) (viewed old) → IsBooked old was → IsBooked new was
  booked_forgotten old new was forgets is =
      booked_alike old new was was (present-keys old new (forgotten_keys old new forgets)) (λ q. ap (λ (books : PageId → model.Book). is_some (books q).running) (forgotten_books 0 old new forgets)) refl (λ q h. h) is

  pub booked_copied : (old new : List (PageId × Book A)) (was now : Bookings B) → viewed new ≡ viewed old → is_listed now ≡ is_listed was → ((q : PageId) → is_marked was q ≡ true → is_marked now q ≡ true) → IsBooked old was → IsBooked new now
  booked_copied old new was now same listed keeps is =
      booked_alike old new was now (present-keys old new (same_keys new old same)) (λ q. ap (λ (books : PageId → model.Book). is_some (books q).running) (same_books (model.untouched_book 0) new old same)) listed keeps is

  pub booked_none : (books : List (PageId × Book A)) (now : Bookings B) → books ≡ [] → is_listed now ≡ (λ _. false) → IsBooked books now
  booked_none books now empty none = record {
    listed = λ q. ap (λ (f : PageId → Bool). f q) none ∙ sym (ap (λ (es : List (PageId × Book A)). is_some (lookup (same_page q) es)) empty);
    running = λ q h. absurd (false≢true (sym (ap (λ (es : List (PageId × Book A)). runs_at es q) empty) ∙ h));
  }

  -- the book b of a page became next
  pub booked_put : (old new : List (PageId × Book A)) (was now : Bookings B) (page : PageId) (b next : Book A) → lookup (same_page page) old ≡ Some b
      → ((q : PageId) → lookup (same_page q) new ≡ cond (same_page page q) (Some next) (lookup (same_page q) old)) → is_listed now ≡ is_listed was
      → ((q : PageId) → same_page page q ≡ false → is_marked was q ≡ true → is_marked now q ≡ true) → (is_some (book_of next).running ≡ true → is_marked now page ≡ true) → IsBooked old was → IsBooked new now
  booked_put old new was now page b next found put listed keeps marks is = record {
    listed = λ q. ap (λ (f : PageId → Bool). f q) listed ∙ is.listed q ∙ there q (same_page page q) refl ∙ ap is_some (sym (put q));
    running = λ q h. run q (same_page page q) refl (ap (λ (o : Option (Book A)). is_some (book_or (model.untouched_book 0) o).running) (sym (put q)) ∙ h);
  }
    where
      there : (q : PageId) (c : Bool) → same_page page q ≡ c → is_some (lookup (same_page q) old) ≡ is_some (cond c (Some next) (lookup (same_page q) old))
      there q true same = ap (λ (p : PageId). is_some (lookup (same_page p) old)) (sym (page-same page q same)) ∙ ap is_some found
      there q false same = refl

      run : (q : PageId) (c : Bool) → same_page page q ≡ c → is_some (book_or (model.untouched_book 0) (cond c (Some next) (lookup (same_page q) old))).running ≡ true → is_marked now q ≡ true
      run q true same h = ap (is_marked now) (sym (page-same page q same)) ∙ marks h
      run q false same h = keeps q same (is.running q h)

  -- a page that has a book is listed
  pub booked_there : (old : List (PageId × Book A)) (was : Bookings B) (page : PageId) (b : Book A) → lookup (same_page page) old ≡ Some b → IsBooked old was → is_listed was page ≡ true
  booked_there old was page b found is = is.listed page ∙ ap is_some found

  -- a page is among those booked if it has a book
  pub any_booked : (books : List (PageId × Book A)) (was : Bookings B) (page : PageId) → IsBooked books was → list_any (same_page page) (listed_of was) ≡ is_some (lookup (same_page page) books)
  any_booked books was page is = any_placed was.places.entries (in_order was.places.entries) was.marked was.next page was.placed ∙ is.listed page

-- ---- without the first pages of a segment

either_not : (a b : Bool) → not (if a then true else b) ≡ (not b && not a)
either_not true true = refl
either_not true false = refl
either_not false true = refl
either_not false false = refl

-- the pages that stay
abbrev pub kept_below : ℕ → ℕ → List PageId → List PageId
kept_below id index pages = filter (λ p. not (gone_below id index p)) pages

pub kept-none : (id : ℕ) (pages : List PageId) → pages ≡ kept_below id 0 pages
kept-none id [] = refl
kept-none id (p ∷ ps) = ap (λ qs. p ∷ qs) (kept-none id ps) ∙ ap (λ b. cond (not b) (p ∷ kept_below id 0 ps) (kept_below id 0 ps)) (sym (gone-none id p))

pub kept-more : (id index : ℕ) (now next old : List PageId) → now ≡ kept_below id index old → next ≡ without_page (record { seg = id; index = index }) now → next ≡ kept_below id (index + 1) old
kept-more id index now next old so_far taken =
    let page : PageId = record { seg = id; index = index } in
    taken ∙ ap (without_page page) so_far
    ∙ filter-twice (λ (p : PageId). not (gone_below id index p)) (λ (p : PageId). not (same_page page p)) (λ (p : PageId). not (gone_below id (index + 1) p)) old
    (λ p. ap not (gone-more id index p) ∙ either_not (same_page page p) (gone_below id index p))

kept_all : (id index : ℕ) (p : PageId) → ((id == p.seg) ≡ true → gone_below id index p ≡ true) → not (gone_below id index p) ≡ not (id == p.seg)
kept_all id index p all = by (id == p.seg) refl
  where
    by : (b : Bool) → (id == p.seg) ≡ b → not (gone_below id index p) ≡ not b
    by true own = ap not (all own)
    by false other = ap (λ b. not (b && nat_lt p.index index)) other

-- the last index is at or behind the end, past which no page of the segment has a book
module _ {A B : Type 0} (old : List (PageId × Book A)) (was : Bookings B) (id end index : ℕ) (all : end ≤ index) (is : IsBooked old was)
    (past : (q : PageId) → is_past id end q ≡ true → lookup (same_page q) old ≡ None) where
  below : (q : PageId) (b : Bool) → gone_below id index q ≡ b → (id == q.seg) ≡ true → is_some (lookup (same_page q) old) ≡ true → gone_below id index q ≡ true
  below q true e own there = e
  below q false e own there =
      let small = listed_within was.places.entries (in_order was.places.entries) was.marked was.next q was.placed (is.listed q ∙ there) in
      absurd (false≢true (sym (ap is_some (past q (gone-past id end index q all own small e))) ∙ there))

  pub kept-all : kept_below id index (listed_of was) ≡ without_segment id (listed_of was)
  kept-all =
      filter-agree (λ (p : PageId). not (gone_below id index p)) (λ (p : PageId). not (id == p.seg)) (listed_of was)
      (all-values (λ (p : PageId). not (gone_below id index p) ≡ not (id == p.seg)) (in_order was.places.entries)
      (all-map (λ (e : ℕ × PageId). place_of was.places.entries e.1 ≡ Some e.0) (λ (e : ℕ × PageId). not (gone_below id index e.1) ≡ not (id == e.1.seg)) (in_order was.places.entries)
      (λ e own. kept_all id index e.1 (λ same. below e.1 (gone_below id index e.1) refl same (sym (is.listed e.1) ∙ ap is_some own))) was.placed.own))

  pub gone_end : (now : List (PageId × Book A)) (rest : model.Book)
      → ((q : PageId) → lookup (same_page q) now ≡ cond (gone_below id index q) None (lookup (same_page q) old)) → as_books rest now ≡ of_segment id rest (as_books rest old)
  gone_end now rest gone = fun_ext (λ q. ap (book_or rest) (gone q) ∙ by q (id == q.seg) (gone_below id index q) refl refl (lookup (same_page q) old) refl)
    where
      by : (q : PageId) (a b : Bool) → (id == q.seg) ≡ a → gone_below id index q ≡ b → (o : Option (Book A)) → lookup (same_page q) old ≡ o → book_or rest (cond b None o) ≡ (if a then rest else book_or rest o)
      by q true true own gone o found = refl
      by q true false own kept None found = refl
      by q true false own kept (Some b) found = absurd (true≢false (sym (below q false kept own (ap is_some found)) ∙ kept))
      by q false false other kept o found = refl
      by q false true other gone o found = absurd (false≢true (sym (ap (λ b. b && nat_lt q.index index) other) ∙ gone))
