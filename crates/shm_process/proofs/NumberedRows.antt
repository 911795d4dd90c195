-- No row of a page's tables, and no access, makes a number above the clock of its step: neither one that the site holds, nor one that an
-- envelope names.
use Rattle.std.proofs.Common.{◌≡◌, ℕ, ◌+◌, ◌<◌, ◌≤◌, ◌==◌, Bool, true, false, List, [], ◌∷◌, map, flat_map, not, Option, Some, None, Result, Ok, Err, if◌then◌else◌, length, refl, sym, subst, arith, nat_le, nat_lt}
use Rattle.std.specs.List.{All}
use Rattle.std.specs.Prelude.{⊤, IfSome, ◌&&◌}
use Rattle.std.proofs.lemmas.Bool.Decides.{nat_tests}
use Rattle.std.proofs.lemmas.List.Elements.{All-nil, All-append, All-cons, All-head, All-push, All-tail, All-weaker}
use Rattle.shm_place.specs.declared.page_id.PageId.{PageId}
use Rattle.shm_place.specs.Page.{same_page}
use Rattle.shm_model.specs.declared.answer.Answer.{Answer}
use Rattle.shm_model.specs.declared.answer.Answer.TheVariants.{Refused, Waiting as WaitingAnswer}
use Rattle.shm_model.specs.declared.request_kind.Kind.{Kind}
use Rattle.shm_model.specs.declared.request_kind.Kind.TheVariants.{Read, Write}
use Rattle.shm_model.specs.Access.{Place, asked, ask_for, is_pending, load, load_if, put_pending, right, store, store_if, stored_entry}
use Rattle.shm_model.specs.Basics.{at_page, greatest}
use Rattle.shm_model.specs.Book.{Book, Order, ClearTo, HandTo, Outcome, Ignored, UsedUp, Taken, Running, Waiting, ask_behind, ask_while, awaits, cleared_while, confirm_while, ended, is_waiting, is_write, max_waiting, on_ask, orders, serve_next, start, start_first, unserved}
use Rattle.shm_model.specs.Entry.{Entry, Nil, Copy, OwnRead, OwnWrite, Handed, Cleared, Page, Confirm, Out, Nothing, ToManager, ToSite, bytes, forget, hand_read, hand_write, handed_to, installed, meet, on_clear, on_hand, on_page, owned, readable, seen, writable}
use Rattle.shm_model.specs.Message.{Envelope}
use Rattle.shm_model.specs.Site.{Site, Frames, Pending, Step, still}
use Rattle.shm_model.specs.Transfer.{arranged, drop_first, is_nothing, is_settled, limited, order_envelope, order_envelopes, sent_by, settle, to_book, to_entry}
use Rattle.shm_process.specs.Numbers.{BookWithin, NumbersWithin, number_noted, numbers_fit}

-- ---- lists and choices

pub either : {X : Type 0} (P : X → Type 0) (b : Bool) (x y : X) → P x → P y → P (if b then x else y)
either P true x y p q = p
either P false x y p q = q

either-not : {X : Type 0} (P : X → Type 0) (b : Bool) (x y : X) → P x → (b ≡ false → P y) → P (if b then x else y)
either-not P true x y p q = p
either-not P false x y p q = q refl

pub all-flat_map : {X Y : Type 0} (P : Y → Type 0) (f : X → List Y) (xs : List X) → ((x : X) → All P (f x)) → All P (flat_map f xs)
all-flat_map P f [] each = All-nil P
all-flat_map P f (x ∷ xs) each = All-append P (f x) (flat_map f xs) (each x) (all-flat_map P f xs each)

pub all-map : {X Y : Type 0} (P : Y → Type 0) (f : X → Y) (xs : List X) → ((x : X) → P (f x)) → All P (map f xs)
all-map P f [] each = All-nil P
all-map P f (x ∷ xs) each = All-cons P (f x) (map f xs) (each x) (all-map P f xs each)

some-weaker : {X : Type 0} (P Q : X → Type 0) (o : Option X) → ((x : X) → P x → Q x) → IfSome o P → IfSome o Q
some-weaker P Q None weaker p = tt
some-weaker P Q (Some x) weaker p = weaker x p

pub fit : (n c : ℕ) → n ≤ c → nat_le n c ≡ true
fit n c h = grind (arith, nat_tests)

pub least : (c : ℕ) → 0 ≤ c
least c = omega arith

pub next-within : (n k c : ℕ) → n ≤ k → k < c → n + 1 ≤ c
next-within n k c h l = omega (arith, h, l)

still-within : (n k c : ℕ) → n ≤ k → k < c → n ≤ c
still-within n k c h l = omega (arith, h, l)

-- ---- what was held before the step

book-later : (k c : ℕ) (book : Book) → k < c → BookWithin k book → BookWithin c book
book-later k c book l h = record {
  number = still-within book.number k c h.number l;
  served = λ s. still-within (book.served s) k c (h.served s) l;
  waiting = All-weaker (λ w. w.request ≤ k) (λ w. w.request ≤ c) (λ w p. still-within w.request k c p l) book.waiting h.waiting;
}

site-later : (k c : ℕ) (site : Site) → k < c → NumbersWithin k site → NumbersWithin c site
site-later k c site l h = record {
  requests = still-within site.requests k c h.requests l;
  pending = All-weaker (λ p. p.request ≤ k) (λ p. p.request ≤ c) (λ p q. still-within p.request k c q l) site.pending h.pending;
  entries = λ page. still-within (seen (site.entries page)) k c (h.entries page) l;
  books = λ page. book-later k c (site.books page) l (h.books page);
  calls = still-within site.calls k c h.calls l;
  outstanding = some-weaker (λ o. o.number ≤ k) (λ o. o.number ≤ c) site.outstanding (λ o p. still-within o.number k c p l) h.outstanding;
  kept = λ s. some-weaker (λ x. x.number ≤ k) (λ x. x.number ≤ c) (site.kept s) (λ x p. still-within x.number k c p l) (h.kept s);
}

abbrev pub Fits : ℕ → Envelope → Type 0
Fits c e = numbers_fit c e.message ≡ true

-- a step under this clock
pub record Good (c : ℕ) (done : Step) : Type 0 where
  pub site : NumbersWithin c done.site
  pub sent : All (Fits c) done.sent

-- the row of an entry's table
abbrev pub OutFits : ℕ → Out → Type 0
OutFits c Nothing = ⊤
OutFits c (ToManager note) = number_noted note ≤ c
OutFits c (ToSite to note) = number_noted note ≤ c

pub record RowGood (c : ℕ) (row : Entry × Out) : Type 0 where
  pub entry : seen row.0 ≤ c
  pub out : OutFits c row.1

-- the row of a book's table
abbrev pub OutcomeGood : ℕ → Outcome → Type 0
OutcomeGood c Ignored = ⊤
OutcomeGood c UsedUp = ⊤
OutcomeGood c (Taken book orders) = BookWithin c book

-- ---- accesses

put-all : (P : Pending → Type 0) (new : Pending) (pending : List Pending) → P new → All P pending → All P (put_pending new pending)
put-all P new [] is all = All-cons P new [] is (All-nil P)
put-all P new (p ∷ ps) is all =
    either (All P) (same_page new.page p.page) (new ∷ ps) (p ∷ put_pending new ps)
    (All-cons P new ps is (All-tail P p ps all))
    (All-cons P p (put_pending new ps) (All-head P p ps all) (put-all P new ps is (All-tail P p ps all)))

stored-seen : (c within byte : ℕ) (e : Entry) → seen e ≤ c → seen (stored_entry within byte e) ≤ c
stored-seen c within byte (Nil n) h = h
stored-seen c within byte (Copy n b) h = h
stored-seen c within byte (OwnRead n b) h = h
stored-seen c within byte (OwnWrite n b) h = h
stored-seen c within byte (Handed n to b) h = h

module _ (sites me k c : ℕ) (site : Site) (l : k < c) (h : NumbersWithin k site) where
  pub now : NumbersWithin c site
  now = site-later k c site l h

  pub good-still : (answer : Answer) → Good c (still answer site)
  good-still answer = record { site = now; sent = All-nil (Fits c) }

  good-if : (b : Bool) (x y : Step) → Good c x → Good c y → Good c (if b then x else y)
  good-if b x y p q = either (Good c) b x y p q

  good-asked : (kind : Kind) (page : PageId) → Good c (asked sites me kind page site)
  good-asked kind page =
      let next : site.requests + 1 ≤ c = next-within site.requests k c h.requests l in
      record {
        site = record {
          requests = next;
          pending = put-all (λ p. p.request ≤ c) (record { page = page; request = site.requests + 1; kind = kind }) site.pending next now.pending;
          entries = now.entries;
          books = now.books;
          calls = now.calls;
          outstanding = now.outstanding;
          kept = now.kept;
        };
        sent = All-cons (Fits c) _ [] (fit (site.requests + 1) c next) (All-nil (Fits c));
      }

  good-ask_for : (kind : Kind) (page : PageId) → Good c (ask_for sites me kind page site)
  good-ask_for kind page =
      good-if (is_pending kind page site.pending) _ _ (good-still WaitingAnswer)
      (good-if (site.requests == greatest) _ _ (good-still _) (good-asked kind page))

  good-load_if : (place : Result Place ℕ) → Good c (load_if sites me place site)
  good-load_if (Err refusal) = good-still (Refused refusal)
  good-load_if (Ok place) = good-if (readable (site.entries place.page)) _ _ (good-still _) (good-ask_for Read place.page)

  pub good-load : (a offset : ℕ) → Good c (load sites me a offset site)
  good-load a offset = good-load_if (right site.attachments a offset false)

  with-page : (page : PageId) (e : Entry) → seen e ≤ c → (q : PageId) → seen (at_page site.entries page e q) ≤ c
  with-page page e is q = either (λ x. seen x ≤ c) (same_page page q) e (site.entries q) is (now.entries q)

  good-store_if : (place : Result Place ℕ) (byte : ℕ) → Good c (store_if sites me place byte site)
  good-store_if (Err refusal) byte = good-still (Refused refusal)
  good-store_if (Ok place) byte =
      good-if (writable (site.entries place.page)) _ _
      (record {
        site = record {
          requests = now.requests;
          pending = now.pending;
          entries = with-page place.page (stored_entry place.within byte (site.entries place.page)) (stored-seen c place.within byte (site.entries place.page) (now.entries place.page));
          books = now.books;
          calls = now.calls;
          outstanding = now.outstanding;
          kept = now.kept;
        };
        sent = All-nil (Fits c);
      })
      (good-ask_for Write place.page)

  pub good-store : (a offset byte : ℕ) → Good c (store sites me a offset byte site)
  good-store a offset byte = good-store_if (right site.attachments a offset true) byte

-- ---- rows of entries

row : (c : ℕ) (e : Entry) (out : Out) → seen e ≤ c → OutFits c out → RowGood c (e, out)
row c e out p q = record { entry = p; out = q }

row-if : (c : ℕ) (b : Bool) (x y : Entry × Out) → RowGood c x → RowGood c y → RowGood c (if b then x else y)
row-if c b x y p q = either (RowGood c) b x y p q

meet-seen : (c n : ℕ) (e : Entry) → n ≤ c → seen e ≤ c → seen (meet n e) ≤ c
meet-seen c n (Nil m) is h = h
meet-seen c n (Copy m b) is h = h
meet-seen c n (OwnRead m b) is h = is
meet-seen c n (OwnWrite m b) is h = is
meet-seen c n (Handed m to b) is h = h

installed-seen : (c n : ℕ) (kind : Kind) (b : List ℕ) → n ≤ c → seen (installed kind n b) ≤ c
installed-seen c n Read b is = is
installed-seen c n Write b is = is

module _ (c n : ℕ) (e : Entry) (is : n ≤ c) (h : seen e ≤ c) where
  pub row-clear : RowGood c (on_clear n e)
  row-clear =
      row-if c (nat_le n (seen e)) _ _ (row c e (ToManager (Cleared n)) h is)
      (row-if c (owned e) _ _ (row c e Nothing h tt) (row c (Nil n) (ToManager (Cleared n)) is is))

  row-hand_read : (me to : ℕ) → RowGood c (hand_read me n to e)
  row-hand_read me to =
      row-if c (nat_lt n (seen e)) _ _ (row c e Nothing h tt)
      (row-if c (not (owned e)) _ _ (row c e Nothing h tt)
      (row-if c (to == me) _ _ (row c (meet n e) (ToManager (Confirm n)) (meet-seen c n e is h) is)
      (row c (OwnRead n (bytes e)) (ToSite to (Page n Read (bytes e))) is is)))

  row-hand_write : (me to : ℕ) → RowGood c (hand_write me n to e)
  row-hand_write me to =
      row-if c (nat_lt n (seen e)) _ _ (row c e Nothing h tt)
      (row-if c (owned e && (to == me)) _ _ (row c (OwnWrite n (bytes e)) (ToManager (Confirm n)) is is)
      (row-if c (owned e && nat_lt (seen e) n) _ _ (row c (Handed n to (bytes e)) (ToSite to (Page n Write (bytes e))) is is)
      (row-if c (handed_to to e && (n == seen e)) _ _ (row c e (ToSite to (Page n Write (bytes e))) h is) (row c e Nothing h tt))))

  pub row-hand : (me to : ℕ) (kind : Kind) → RowGood c (on_hand me n kind to e)
  row-hand me to Read = row-hand_read me to
  row-hand me to Write = row-hand_write me to

  pub row-page : (kind : Kind) (b : List ℕ) → RowGood c (on_page n kind b e)
  row-page kind b =
      row-if c (nat_lt n (seen e)) _ _ (row c e Nothing h tt)
      (row-if c (n == seen e) _ _ (row c e (ToManager (Confirm n)) h is)
      (row-if c (owned e) _ _ (row c e Nothing h tt) (row c (installed kind n b) (ToManager (Confirm n)) (installed-seen c n kind b is) is)))

settle-all : (P : Pending → Type 0) (reads writes : Bool) (page : PageId) (pending : List Pending) → All P pending → All P (settle reads writes page pending)
settle-all P reads writes page [] all = all
settle-all P reads writes page (p ∷ ps) all =
    let head = All-head P p ps all in
    let tail = All-tail P p ps all in
    either (All P) (same_page page p.page) (if is_settled reads writes p then ps else p ∷ ps) (p ∷ settle reads writes page ps)
    (either (All P) (is_settled reads writes p) ps (p ∷ ps) tail all)
    (All-cons P p (settle reads writes page ps) head (settle-all P reads writes page ps tail))

within-first : (c : ℕ) (copies : List PageId) (f : Frames) (site : Site) → NumbersWithin c site → NumbersWithin c (drop_first copies f site)
within-first c [] f site h = h
within-first c (first ∷ rest) f site h = record {
  requests = h.requests;
  pending = h.pending;
  entries = λ q. either (λ x. seen x ≤ c) (same_page first q) (forget (site.entries first)) (site.entries q) (h.entries first) (h.entries q);
  books = h.books;
  calls = h.calls;
  outstanding = h.outstanding;
  kept = h.kept;
}

within-limited : (c : ℕ) (frames : Option Frames) (site : Site) → NumbersWithin c site → NumbersWithin c (limited frames site)
within-limited c None site h = h
within-limited c (Some f) site h = either (NumbersWithin c) (nat_lt f.limit (length f.copies)) _ site (within-first c f.copies f site h) h

sent-fits : (c sites me : ℕ) (page : PageId) (out : Out) → OutFits c out → All (Fits c) (sent_by sites me page out)
sent-fits c sites me page Nothing is = All-nil (Fits c)
sent-fits c sites me page (ToManager note) is = All-cons (Fits c) _ [] (fit (number_noted note) c is) (All-nil (Fits c))
sent-fits c sites me page (ToSite to note) is = All-cons (Fits c) _ [] (fit (number_noted note) c is) (All-nil (Fits c))

pub good-to_entry : (sites me c : ℕ) (page : PageId) (new : Entry × Out) (site : Site) → NumbersWithin c site → RowGood c new
    → Good c (to_entry sites me page new site)
good-to_entry sites me c page (new, out) site h r =
    either (Good c) (is_nothing out) _ _ (record { site = h; sent = All-nil (Fits c) })
    (record {
      site = within-limited c (arranged page (site.entries page) new site.frames) _ (record {
        requests = h.requests;
        pending = settle-all (λ p. p.request ≤ c) (readable new) (writable new) page site.pending h.pending;
        entries = λ q. either (λ x. seen x ≤ c) (same_page page q) new (site.entries q) r.entry (h.entries q);
        books = h.books;
        calls = h.calls;
        outstanding = h.outstanding;
        kept = h.kept;
      });
      sent = sent-fits c sites me page out r.out;
    })

-- ---- rows of books

outcome-if : (c : ℕ) (b : Bool) (x y : Outcome) → OutcomeGood c x → OutcomeGood c y → OutcomeGood c (if b then x else y)
outcome-if c b x y p q = either (OutcomeGood c) b x y p q

unserved-all : (P : Waiting → Type 0) (served : ℕ → ℕ) (waiting : List Waiting) → All P waiting → All P (unserved served waiting)
unserved-all P served [] all = all
unserved-all P served (w ∷ ws) all =
    either (All P) (nat_le w.request (served w.from)) (unserved served ws) (w ∷ ws) (unserved-all P served ws (All-tail P w ws all)) all

module _ (k c : ℕ) (l : k < c) where
  good-start : (s r : ℕ) (kind : Kind) (b : Book) → r ≤ c → BookWithin k b → OutcomeGood c (start s r kind b)
  good-start s r kind b is h =
      let now = book-later k c b l h in
      outcome-if c (b.number == greatest) _ _ tt
      (record {
        number = next-within b.number k c h.number l;
        served = λ x. either (λ n. n ≤ c) (s == x) r (b.served x) is (now.served x);
        waiting = now.waiting;
      })

  good-behind : (s r : ℕ) (kind : Kind) (b : Book) → r ≤ c → BookWithin k b → OutcomeGood c (ask_behind s r kind b)
  good-behind s r kind b is h =
      let now = book-later k c b l h in
      outcome-if c (is_waiting s r b.waiting) _ _ tt
      (outcome-if c (nat_le max_waiting (length b.waiting)) _ _ tt
      (record {
        number = now.number;
        served = now.served;
        waiting = All-push (λ w. w.request ≤ c) b.waiting (record { from = s; request = r; kind = kind }) now.waiting is;
      }))

  good-ask_while : (running : Option Running) (s r : ℕ) (kind : Kind) (b : Book) → r ≤ c → BookWithin k b → OutcomeGood c (ask_while running s r kind b)
  good-ask_while None s r kind b is h = good-start s r kind b is h
  good-ask_while (Some run) s r kind b is h = good-behind s r kind b is h

  pub good-ask : (s r : ℕ) (kind : Kind) (b : Book) → r ≤ c → BookWithin k b → OutcomeGood c (on_ask s r kind b)
  good-ask s r kind b is h = outcome-if c (nat_le r (b.served s)) _ _ tt (good-ask_while b.running s r kind b is h)

  pub good-cleared : (running : Option Running) (s n : ℕ) (b : Book) → BookWithin k b → OutcomeGood c (cleared_while running s n b)
  good-cleared None s n b h = tt
  good-cleared (Some run) s n b h =
      let now = book-later k c b l h in
      outcome-if c ((n == b.number) && awaits b run s) _ _ (record { number = now.number; served = now.served; waiting = now.waiting }) tt

  same-book : (b d : Book) → d.number ≡ b.number → d.served ≡ b.served → d.waiting ≡ b.waiting → BookWithin k b → BookWithin k d
  same-book b d number served waiting h = record {
    number = subst (λ n. n ≤ k) (sym number) h.number;
    served = subst (λ (f : ℕ → ℕ). (s : ℕ) → f s ≤ k) (sym served) h.served;
    waiting = subst (All (λ w. w.request ≤ k)) (sym waiting) h.waiting;
  }

  within-ended : (run : Running) (b : Book) → BookWithin k b → BookWithin k (ended run b)
  within-ended run b h =
      either (BookWithin k) (is_write run.kind) _ _ (same-book b _ refl refl refl h)
      (either (BookWithin k) (run.requester == b.owner) _ _ (same-book b _ refl refl refl h) (same-book b _ refl refl refl h))

  none-waits : (b : Book) → BookWithin k b → BookWithin c (record b { waiting = [] })
  none-waits b h = let now = book-later k c b l h in record { number = now.number; served = now.served; waiting = All-nil (λ w. w.request ≤ c) }

  good-first : (ws : List Waiting) (b : Book) → BookWithin k b → All (λ w. w.request ≤ k) ws → OutcomeGood c (start_first ws b)
  good-first [] b h all = none-waits b h
  good-first (w ∷ ws) b h all =
      good-start w.from w.request w.kind (record b { waiting = ws }) (still-within w.request k c (All-head (λ w. w.request ≤ k) w ws all) l)
      (record { number = h.number; served = h.served; waiting = All-tail (λ w. w.request ≤ k) w ws all })

  good-serve : (b : Book) → BookWithin k b → OutcomeGood c (serve_next b)
  good-serve b h =
      outcome-if c (b.number == greatest) _ _ (none-waits b h)
      (good-first (unserved b.served b.waiting) b h (unserved-all (λ w. w.request ≤ k) b.served b.waiting h.waiting))

  pub good-confirm : (running : Option Running) (s n : ℕ) (b : Book) → BookWithin k b → OutcomeGood c (confirm_while running s n b)
  good-confirm None s n b h = tt
  good-confirm (Some run) s n b h =
      outcome-if c ((n == b.number) && (s == run.requester)) _ _ (good-serve (ended run b) (within-ended run b h)) tt

order-fits : (c me : ℕ) (page : PageId) (n : ℕ) (order : Order) → n ≤ c → Fits c (order_envelope me page n order)
order-fits c me page n (ClearTo s) is = fit n c is
order-fits c me page n (HandTo owner requester kind) is = fit n c is

pub orders-fit : (c me : ℕ) (page : PageId) (book : Book) (orders : List Order) → book.number ≤ c → All (Fits c) (order_envelopes me page book orders)
orders-fit c me page book orders is = all-map (Fits c) (order_envelope me page book.number) orders (λ order. order-fits c me page book.number order is)

pub good-to_book : (c me : ℕ) (page : PageId) (outcome : Outcome) (site : Site) → NumbersWithin c site → OutcomeGood c outcome → Good c (to_book me page outcome site)
good-to_book c me page Ignored site h o = record { site = h; sent = All-nil (Fits c) }
good-to_book c me page UsedUp site h o = record { site = h; sent = All-nil (Fits c) }
good-to_book c me page (Taken book orders) site h o = record {
  site = record {
    requests = h.requests;
    pending = h.pending;
    entries = h.entries;
    books = λ q. either (BookWithin c) (same_page page q) book (site.books q) o (h.books q);
    calls = h.calls;
    outstanding = h.outstanding;
    kept = h.kept;
  };
  sent = orders-fit c me page book orders o.number;
}
