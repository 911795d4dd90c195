-- A map of books, as the definitions see it, after a change of one book or of all; and the step that a row of a book's table is.
use Rattle.std.proofs.Common.{◌≡◌, ◌==◌, ◌||◌, ◌<◌, ◌≤◌, ℕ, nat_le, zero, suc, Bool, true, false, cond, if◌then◌else◌, List, [], ◌∷◌, ◌++◌, length, map, Option, Some, None, is_some, option_map, unwrap_or, slice_get, Result, Ok, Err, OnErr, refl, sym, ap, ap₂, subst, ◌∙◌, true≢false, add-one, ◌+◌, arith}
use Rattle.std.proofs.Math.Path.{fun_ext}
use Rattle.std.proofs.lemmas.Bool.{and_parts}
use Rattle.std.proofs.lemmas.Bool.Decides.{nat_tests}
use Rattle.std.specs.List.{AllZip, list_any}
use Rattle.std.specs.Map.{keys_of, lookup, values_of}
use Rattle.indexmap.specs.IndexMap.{set_value_at}
use Rattle.shm_place.specs.declared.page_id.PageId.{PageId}
use Rattle.shm_place.specs.Page.{same_page}
use Rattle.shm_model.specs.declared.request_kind.Kind.{Kind}
use Rattle.shm_model.specs.Book as model
use Rattle.shm_model.specs.Basics.{at_page}
use Rattle.shm_model.specs.Site.{Site, Step, dropped, still}
use Rattle.shm_model.specs.Transfer.{booked_with, to_book, order_envelope}
use Rattle.shm_model.specs.declared.answer.Answer.TheVariants.{Took, Refused}
use Rattle.shm_model.specs.Refusal.{numbers_used_up}
use Rattle.shm_manager.specs.Book.{book_of, due_of, starts}
use Rattle.shm_manager.specs.declared.request_decision.Due.{Due}
use Rattle.shm_manager.specs.declared.book.Book.{Book}
use Rattle.shm_parts.specs.declared.book_outcome.Outcome.{Outcome}
use Rattle.shm_parts.specs.declared.book_outcome.Outcome.TheVariants as outcome
use Rattle.shm_manager.specs.Orders.{orders_of}
use Rattle.shm_manager.specs.declared.manager_messages.Orders.{Orders}
use Rattle.shm_manager.proofs.Members.{orders-few}
use Rattle.shm_parts.specs.Books.{HasRoom, IsSettled, book_or, booked_step, given_by, viewed}

-- pages with the same segment and index are the same
pub page-same : (p q : PageId) → same_page p q ≡ true → p ≡ q
page-same p q e =
    let parts = and_parts (p.seg == q.seg) (p.index == q.index) e in
    let seg : p.seg ≡ q.seg = grind (arith, nat_tests, parts.0) in
    let index : p.index ≡ q.index = grind (arith, nat_tests, parts.1) in
    let made : ℕ → ℕ → PageId = (λ x y. record { seg = x; index = y }) in
    ap (λ x. made x p.index) seg ∙ ap (λ y. made q.seg y) index

-- ---- lists of entries

pub list_any-keys : {K X : Type 0} (test : K → Bool) (es : List (K × X)) → list_any test (keys_of es) ≡ is_some (lookup test es)
list_any-keys test [] = refl
list_any-keys test (e ∷ es) = by (test e.0) (list_any-keys test es)
  where
    by : (b : Bool) → list_any test (keys_of es) ≡ is_some (lookup test es) → (b || list_any test (keys_of es)) ≡ is_some (cond b (Some e.1) (lookup test es))
    by true h = refl
    by false h = h

-- with each value changed by g
lookup-values : {K X Y : Type 0} (g : X → Y) (test : K → Bool) (es : List (K × X)) → lookup test (map (λ e. (e.0, g e.1)) es) ≡ option_map g (lookup test es)
lookup-values g test [] = refl
lookup-values g test (e ∷ es) = by (test e.0) (lookup-values g test es)
  where
    by : (b : Bool) → lookup test (map (λ e. (e.0, g e.1)) es) ≡ option_map g (lookup test es) → cond b (Some (g e.1)) (lookup test (map (λ e. (e.0, g e.1)) es)) ≡ option_map g (cond b (Some e.1) (lookup test es))
    by true h = refl
    by false h = h

keys-values : {K X Y : Type 0} (g : X → Y) (es : List (K × X)) → keys_of (map (λ e. (e.0, g e.1)) es) ≡ keys_of es
keys-values g [] = refl
keys-values g (e ∷ es) = ap (λ ks. e.0 ∷ ks) (keys-values g es)

-- ---- all books forgotten below a place

-- the first n books without what a restart loses
abbrev pub forgotten : ℕ → List (PageId × model.Book) → List (PageId × model.Book)
forgotten zero es = es
forgotten (suc n) [] = []
forgotten (suc n) (e ∷ es) = (e.0, model.without_volatile e.1) ∷ forgotten n es

pub length-forgotten : (n : ℕ) (es : List (PageId × model.Book)) → length (forgotten n es) ≡ length es
length-forgotten zero es = refl
length-forgotten (suc n) [] = refl
length-forgotten (suc n) (e ∷ es) = ap suc (length-forgotten n es)

pub forgotten-more : (n : ℕ) (es : List (PageId × model.Book)) (b : model.Book) → slice_get (values_of (forgotten n es)) n ≡ Some b → set_value_at (forgotten n es) n (model.without_volatile b) ≡ forgotten (suc n) es
forgotten-more zero [] b h = refl
forgotten-more zero (e ∷ es) b h =
    let same : e.1 ≡ b = cc in
    ap (λ x. (e.0, model.without_volatile x) ∷ es) (sym same)
forgotten-more (suc n) [] b h = refl
forgotten-more (suc n) (e ∷ es) b h = ap (λ fs. (e.0, model.without_volatile e.1) ∷ fs) (forgotten-more n es b h)

pub forgotten-all : (n : ℕ) (es : List (PageId × model.Book)) → length es ≤ n → forgotten n es ≡ map (λ e. (e.0, model.without_volatile e.1)) es
forgotten-all zero [] h = refl
forgotten-all zero (e ∷ es) h = absurd (omega (arith, h))
forgotten-all (suc n) [] h = refl
forgotten-all (suc n) (e ∷ es) h = ap (λ fs. (e.0, model.without_volatile e.1) ∷ fs) (forgotten-all n es (omega (arith, h)))

-- ---- books

-- the books of a map as a function of the page, where `rest` is the book of a page without one
abbrev pub as_books : {A : Type 0} → model.Book → List (PageId × Book A) → PageId → model.Book
as_books rest es page = book_or rest (lookup (same_page page) es)

module _ {A : Type 0} where
  book_or-lookup : (rest : model.Book) (test : PageId → Bool) (es : List (PageId × Book A)) → book_or rest (lookup test es) ≡ unwrap_or (lookup test (viewed es)) rest
  book_or-lookup rest test es = by (lookup test es) ∙ ap (λ o. unwrap_or o rest) (sym (lookup-values book_of test es))
    where
      by : (o : Option (Book A)) → book_or rest o ≡ unwrap_or (option_map book_of o) rest
      by None = refl
      by (Some b) = refl

  pub keys-viewed : (es : List (PageId × Book A)) → keys_of (viewed es) ≡ keys_of es
  keys-viewed es = keys-values book_of es

  -- what the books are as a function follows from how the definitions see them
  pub same_books : (rest : model.Book) (es fs : List (PageId × Book A)) → viewed es ≡ viewed fs → as_books rest es ≡ as_books rest fs
  same_books rest es fs h = fun_ext (λ page. book_or-lookup rest (same_page page) es ∙ ap (λ vs. unwrap_or (lookup (same_page page) vs) rest) h ∙ sym (book_or-lookup rest (same_page page) fs))

  pub same_keys : (es fs : List (PageId × Book A)) → viewed es ≡ viewed fs → keys_of es ≡ keys_of fs
  same_keys es fs h = sym (keys-viewed es) ∙ ap keys_of h ∙ keys-viewed fs

  pub forgotten_books : (me : ℕ) (es fs : List (PageId × Book A)) → viewed fs ≡ map (λ e. (e.0, model.without_volatile e.1)) (viewed es)
      → as_books (model.untouched_book me) fs ≡ (λ page. model.without_volatile (as_books (model.untouched_book me) es page))
  forgotten_books me es fs h = fun_ext (λ page.
      book_or-lookup (model.untouched_book me) (same_page page) fs
      ∙ ap (λ vs. unwrap_or (lookup (same_page page) vs) (model.untouched_book me)) h
      ∙ ap (λ o. unwrap_or o (model.untouched_book me)) (lookup-values model.without_volatile (same_page page) (viewed es))
      ∙ by (lookup (same_page page) (viewed es))
      ∙ ap model.without_volatile (sym (book_or-lookup (model.untouched_book me) (same_page page) es)))
    where
      by : (o : Option model.Book) → unwrap_or (option_map model.without_volatile o) (model.untouched_book me) ≡ model.without_volatile (unwrap_or o (model.untouched_book me))
      by None = refl
      by (Some b) = refl

  pub forgotten_keys : (es fs : List (PageId × Book A)) → viewed fs ≡ map (λ e. (e.0, model.without_volatile e.1)) (viewed es) → keys_of fs ≡ keys_of es
  forgotten_keys es fs h = sym (keys-viewed fs) ∙ ap keys_of h ∙ keys-values model.without_volatile (viewed es) ∙ keys-viewed es

  pub viewed-set_value_at : (es : List (PageId × Book A)) (i : ℕ) (b : Book A) → viewed (set_value_at es i b) ≡ set_value_at (viewed es) i (book_of b)
  viewed-set_value_at [] i b = refl
  viewed-set_value_at (e ∷ es) zero b = refl
  viewed-set_value_at (e ∷ es) (suc i) b = ap (λ fs. (e.0, book_of e.1) ∷ fs) (viewed-set_value_at es i b)

  pub viewed_value : (es : List (PageId × Book A)) (i : ℕ) (b : Book A) → slice_get (values_of es) i ≡ Some b → slice_get (values_of (viewed es)) i ≡ Some (book_of b)
  viewed_value [] i b h = absurd (none_some (book_of b) h)
    where
      none_some : {X Y : Type 0} {y : Y} (x : X) → None ≡ Some y → ⊥
      none_some x h = cc
  viewed_value (e ∷ es) zero b h = ap (option_map book_of) h
  viewed_value (e ∷ es) (suc i) b h = viewed_value es i b h

  -- with one book put at its page
  pub put_book : (rest : model.Book) (old new : List (PageId × Book A)) (page : PageId) (b : Book A)
      → ((q : PageId) → lookup (same_page q) new ≡ cond (same_page page q) (Some b) (lookup (same_page q) old))
      → as_books rest new ≡ at_page (as_books rest old) page (book_of b)
  put_book rest old new page b h = fun_ext (λ q. ap (book_or rest) (h q) ∙ by (same_page page q) (lookup (same_page q) old))
    where
      by : (c : Bool) (o : Option (Book A)) → book_or rest (cond c (Some b) o) ≡ (if c then book_of b else book_or rest o)
      by true o = refl
      by false o = refl

-- ---- steps

at_page-same : (books : PageId → model.Book) (page : PageId) (b : model.Book) → b ≡ books page → at_page books page b ≡ books
at_page-same books page b h = fun_ext (λ q. by q (same_page page q) refl)
  where
    by : (q : PageId) (c : Bool) → same_page page q ≡ c → (if c then b else books q) ≡ books q
    by q true e = h ∙ ap books (page-same page q e)
    by q false e = refl

-- the site with these books
abbrev site_with : Site → (PageId → model.Book) → List PageId → Site
site_with site books booked = record site { books = books; booked = booked }

abbrev taken : ℕ → PageId → ℕ → List model.Order → Site → Step
taken me page number orders site = record { site = site; answer = Took; sent = map (order_envelope me page number) orders }

taken_step : (me : ℕ) (page : PageId) (number : ℕ) (orders : Orders) (books next : PageId → model.Book) (booked now_booked : List PageId) (after : model.Book) (site : Site)
    → number ≡ after.number → next ≡ at_page books page after → now_booked ≡ booked_with page booked
    → to_book me page (model.Taken after (orders_of orders)) (site_with site books booked) ≡ booked_step me page (outcome.Taken number orders) (site_with site next now_booked)
taken_step me page number orders books next booked now_booked after site settled put joined =
    ap₂ (λ (bs : PageId → model.Book) (ks : List PageId). taken me page after.number (orders_of orders) (site_with site bs ks)) (sym put) (sym joined)
    ∙ ap (λ n. taken me page n (orders_of orders) (site_with site next now_booked)) (sym settled)

-- a row of a page that has a book
pub row_step : (me : ℕ) (page : PageId) (row : model.Outcome) (outcome : Outcome) (books next : PageId → model.Book) (booked now_booked : List PageId) (after : model.Book) (site : Site)
    → given_by outcome after ≡ row → IsSettled outcome (books page) after → next ≡ at_page books page after → now_booked ≡ booked → booked_with page booked ≡ booked
    → to_book me page row (record site { books = books; booked = booked }) ≡ booked_step me page outcome (record site { books = next; booked = now_booked })
row_step me page row outcome.Ignored books next booked now_booked after site given settled put same there =
    let kept = sym (put ∙ at_page-same books page after settled) in
    subst (λ r. to_book me page r (site_with site books booked) ≡ dropped (site_with site next now_booked)) given (ap₂ (λ bs ks. dropped (site_with site bs ks)) kept (sym same))
row_step me page row outcome.UsedUp books next booked now_booked after site given settled put same there =
    let kept = sym (put ∙ at_page-same books page after settled) in
    subst (λ r. to_book me page r (site_with site books booked) ≡ still (Refused numbers_used_up) (site_with site next now_booked)) given (ap₂ (λ bs ks. still (Refused numbers_used_up) (site_with site bs ks)) kept (sym same))
row_step me page row (outcome.Taken number orders) books next booked now_booked after site given settled put same there =
    subst (λ r. to_book me page r (site_with site books booked) ≡ booked_step me page (outcome.Taken number orders) (site_with site next now_booked)) given
    (taken_step me page number orders books next booked now_booked after site settled put (same ∙ sym there))

-- the first row of a page, which joins the books
pub first_step : (me : ℕ) (page : PageId) (outcome : Outcome) (books next : PageId → model.Book) (booked now_booked : List PageId) (before after started : model.Book) (orders : List model.Order) (site : Site)
    → given_by outcome after ≡ model.Taken started orders → IsSettled outcome before after → next ≡ at_page books page after → now_booked ≡ booked_with page booked
    → to_book me page (model.Taken started orders) (record site { books = books; booked = booked }) ≡ booked_step me page outcome (record site { books = next; booked = now_booked })
first_step me page outcome.Ignored books next booked now_booked before after started orders site given settled put joined = cc
first_step me page outcome.UsedUp books next booked now_booked before after started orders site given settled put joined = cc
first_step me page (outcome.Taken number sent) books next booked now_booked before after started orders site given settled put joined =
    subst (λ r. to_book me page r (site_with site books booked) ≡ booked_step me page (outcome.Taken number sent) (site_with site next now_booked)) given
    (taken_step me page number sent books next booked now_booked after site settled put joined)

-- an untouched page's first request starts a transaction
pub asked_first : (me from request : ℕ) (kind : Kind) → 0 < request → model.on_ask from request kind (model.untouched_book me) ≡ model.Taken (model.started from request kind (model.untouched_book me)) (model.orders (model.started from request kind (model.untouched_book me)))
asked_first me from request kind h = rw (le_0 request h) refl
  where
    le_0 : (r : ℕ) → 0 < r → nat_le r 0 ≡ false
    le_0 r h = grind (arith, nat_tests)

-- what becomes of it, as found out before there is a book
pub first_due : (me from request : ℕ) (kind : Kind) (due : Due) (b : model.Book) → due ≡ due_of (model.on_ask from request kind (model.untouched_book me)) None → b ≡ model.untouched_book me → due ≡ due_of (model.on_ask from request kind b) b.running
first_due me from request kind due b is made = is ∙ sym (ap (λ (x : model.Book). due_of (model.on_ask from request kind x) x.running) made)

-- only one with a number starts a transaction
pub first_starts : (me from request : ℕ) (kind : Kind) (due : Due) → due ≡ due_of (model.on_ask from request kind (model.untouched_book me)) None → starts due ≡ true → 0 < request
first_starts me from zero kind due is h = absurd (true≢false (sym h ∙ ap starts is))
first_starts me from (suc r) kind due is h = omega arith

module _ {A : Type 0} where
  -- a row of a page that has the book b, which became next
  pub present_step : (me : ℕ) (page : PageId) (row : model.Book → model.Outcome) (outcome : Outcome) (old new : List (PageId × Book A)) (booked now_booked : List PageId) (b next : Book A) (site : Site)
      → lookup (same_page page) old ≡ Some b → given_by outcome (book_of next) ≡ row (book_of b) → IsSettled outcome (book_of b) (book_of next)
      → ((q : PageId) → lookup (same_page q) new ≡ cond (same_page page q) (Some next) (lookup (same_page q) old)) → now_booked ≡ booked → list_any (same_page page) booked ≡ true
      → to_book me page (row (as_books (model.untouched_book me) old page)) (site_with site (as_books (model.untouched_book me) old) booked) ≡ booked_step me page outcome (site_with site (as_books (model.untouched_book me) new) now_booked)
  present_step me page row outcome old new booked now_booked b next site found given settled put same there =
      let rest = model.untouched_book me in
      let had : as_books rest old page ≡ book_of b = ap (book_or rest) found in
      row_step me page (row (as_books rest old page)) outcome (as_books rest old) (as_books rest new) booked now_booked (book_of next) site
      (given ∙ ap row (sym had)) (subst (λ (x : model.Book). IsSettled outcome x (book_of next)) (sym had) settled) (put_book rest old new page next put) same (ap (λ (c : Bool). if c then booked else booked ++ (page ∷ [])) there)

  -- the first request of a page, whose book joins the others
  pub absent_step : (me : ℕ) (page : PageId) (from request : ℕ) (kind : Kind) (outcome : Outcome) (old new : List (PageId × Book A)) (booked now_booked : List PageId) (b next : Book A) (site : Site)
      → 0 < request → lookup (same_page page) old ≡ None → book_of b ≡ model.untouched_book me
      → given_by outcome (book_of next) ≡ model.on_ask from request kind (book_of b) → IsSettled outcome (book_of b) (book_of next)
      → ((q : PageId) → lookup (same_page q) new ≡ cond (same_page page q) (Some next) (lookup (same_page q) old)) → now_booked ≡ booked ++ page ∷ [] → list_any (same_page page) booked ≡ false
      → to_book me page (model.on_ask from request kind (as_books (model.untouched_book me) old page)) (site_with site (as_books (model.untouched_book me) old) booked) ≡ booked_step me page outcome (site_with site (as_books (model.untouched_book me) new) now_booked)
  absent_step me page from request kind outcome old new booked now_booked b next site fresh absent made given settled put last apart =
      let rest = model.untouched_book me in
      let started = model.started from request kind rest in
      let had : as_books rest old page ≡ rest = ap (book_or rest) absent in
      let asked : model.on_ask from request kind rest ≡ model.Taken started (model.orders started) = asked_first me from request kind fresh in
      let answered : given_by outcome (book_of next) ≡ model.Taken started (model.orders started) = given ∙ ap (model.on_ask from request kind) made ∙ asked in
      let joined : now_booked ≡ booked_with page booked = last ∙ sym (ap (λ (c : Bool). if c then booked else booked ++ (page ∷ [])) apart) in
      ap (λ (r : model.Outcome). to_book me page r (site_with site (as_books rest old) booked)) (ap (model.on_ask from request kind) had ∙ asked)
      ∙ first_step me page outcome (as_books rest old) (as_books rest new) booked now_booked (book_of b) (book_of next) started (model.orders started) site answered settled (put_book rest old new page next put) joined

  -- the books of a copy of a map, as the definitions see them
  pub viewed-clones : (es fs : List (PageId × Book A)) → AllZip (λ e f. (f.0 ≡ e.0) × (book_of f.1 ≡ book_of e.1)) es fs → viewed fs ≡ viewed es
  viewed-clones [] [] h = refl
  viewed-clones [] (f ∷ fs) h = absurd h
  viewed-clones (e ∷ es) [] h = absurd h
  viewed-clones (e ∷ es) (f ∷ fs) h = ap₂ (λ (x : PageId × model.Book) (xs : List (PageId × model.Book)). x ∷ xs) (ap₂ (λ (p : PageId) (b : model.Book). (p, b)) h.0.0 h.0.1) (viewed-clones es fs h.1)

  -- ---- all books forgotten, one after the other
  pub forget_more : (n : ℕ) (es now : List (PageId × Book A)) (all : List (PageId × model.Book)) (b next : Book A)
      → viewed es ≡ forgotten n all → slice_get (values_of es) n ≡ Some b → book_of next ≡ model.without_volatile (book_of b) → now ≡ set_value_at es n next
      → viewed now ≡ forgotten (n + 1) all
  forget_more n es now all b next so_far at_n forgets put =
      let here : slice_get (values_of (forgotten n all)) n ≡ Some (book_of b) = ap (λ (vs : List (PageId × model.Book)). slice_get (values_of vs) n) (sym so_far) ∙ viewed_value es n b at_n in
      ap viewed put ∙ viewed-set_value_at es n next ∙ ap₂ (λ (vs : List (PageId × model.Book)) (x : model.Book). set_value_at vs n x) so_far forgets ∙ forgotten-more n all (book_of b) here ∙ ap (λ (k : ℕ). forgotten k all) (sym (add-one n))

  length-viewed : (es : List (PageId × Book A)) → length (viewed es) ≡ length es
  length-viewed [] = refl
  length-viewed (e ∷ es) = ap suc (length-viewed es)

  pub length-forgetting : (n : ℕ) (es all : List (PageId × Book A)) → viewed es ≡ forgotten n (viewed all) → length es ≡ length all
  length-forgetting n es all h = sym (length-viewed es) ∙ ap length h ∙ length-forgotten n (viewed all) ∙ length-viewed all

  pub forget_end : (n : ℕ) (es all : List (PageId × Book A)) → viewed es ≡ forgotten n (viewed all) → length all ≤ n → viewed es ≡ map (λ e. (e.0, model.without_volatile e.1)) (viewed all)
  forget_end n es all h long = h ∙ forgotten-all n (viewed all) (subst (λ (k : ℕ). k ≤ n) (sym (length-viewed all)) long)

-- the book of a page that was written back as it was
pub put_back : {A : Type 0} (rest : model.Book) (old new : List (PageId × Book A)) (page : PageId) (b : Book A) → lookup (same_page page) old ≡ Some b
    → ((q : PageId) → lookup (same_page q) new ≡ cond (same_page page q) (Some b) (lookup (same_page q) old)) → ◌≡◌ {A = PageId → model.Book} (λ q. book_or rest (lookup (same_page q) new)) (λ q. book_or rest (lookup (same_page q) old))
put_back rest old new page b found put = fun_ext (λ q. ap (book_or rest) (put q ∙ by q (same_page page q) refl))
  where
    by : (q : PageId) (same : Bool) → same_page page q ≡ same → cond same (Some b) (lookup (same_page q) old) ≡ lookup (same_page q) old
    by q true same = sym found ∙ ap (λ (p : PageId). lookup (same_page p) old) (page-same page q same)
    by q false same = refl

-- room for as many orders as there may be is room for all
pub room_for_all : (outcome : Outcome) (room : ℕ) → 16 ≤ room → HasRoom outcome room
room_for_all outcome.Ignored room much = omega arith
room_for_all outcome.UsedUp room much = omega arith
room_for_all (outcome.Taken number orders) room much = omega (arith, orders-few orders, much)

-- what holds anyway holds where there is an error
pub where_refused : {T E P : Type 0} (r : Result T E) → P → OnErr r P
where_refused (Ok _) p = tt
where_refused (Err _) p = p
