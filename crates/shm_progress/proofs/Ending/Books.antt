-- What the rows of the entry's and the book's table send, against what was handed over.
use Rattle.std.proofs.Common.{◌≡◌, ℕ, ◌*◌, ◌<◌, ◌≤◌, Bool, true, false, ◌==◌, ◌&&◌, not, if◌then◌else◌, Option, Some, None, List, [], ◌∷◌, map, length, nat_lt, nat_le, sum_by, arith, refl, sym, ◌∙◌, ap, subst}
use Rattle.std.specs.List.{range_with_len}
use Rattle.std.proofs.lemmas.Bool.{cond_both, leb-false}
use Rattle.std.proofs.lemmas.List.Sums.{sum_by-cons, length-filter, count_by-le-length}
use Rattle.std.proofs.lemmas.List.FromFn.{length-range_with_len}
use Rattle.shm_model.specs.declared.request_kind.Kind.{Kind}
use Rattle.shm_model.specs.declared.request_kind.Kind.TheVariants.{Read, Write}
use Rattle.shm_model.specs.Entry.{Entry, Note, Clear, Cleared, Hand, Page, Confirm, Out, Nothing, ToManager, ToSite, handed_to, on_clear, on_hand, on_page, owned, seen}
use Rattle.shm_model.specs.Book.{Book, Order, ClearTo, HandTo, Outcome, Ignored, UsedUp, Taken, Running, Waiting, ask_behind, ask_while, awaited, awaits, cleared_while, confirm_while, ended, hand_if_cleared, is_waiting, is_write, max_sites, max_waiting, on_ask, on_cleared, on_confirm, orders, orders_of, orders_to, serve_next, start, start_first, started, unserved, with_cleared}
use Rattle.shm_model.specs.Basics.{at, greatest}
use Rattle.shm_laws.proofs.Page.Orders.{Each}
use Rattle.shm_progress.specs.Deliveries.{note_deliveries, transaction_deliveries}

-- rows of the entry's table
abbrev pub out_deliveries : Out → ℕ
out_deliveries Nothing = 0
out_deliveries (ToManager note) = note_deliveries note
out_deliveries (ToSite to note) = note_deliveries note

pub data AsksNothing : Note → Type 0 where
  no_clear : (n : ℕ) → AsksNothing (Clear n)
  no_cleared : (n : ℕ) → AsksNothing (Cleared n)
  no_hand : (n : ℕ) (kind : Kind) (to : ℕ) → AsksNothing (Hand n kind to)
  no_page : (n : ℕ) (kind : Kind) (b : List ℕ) → AsksNothing (Page n kind b)
  no_confirm : (n : ℕ) → AsksNothing (Confirm n)

abbrev pub OutAsksNothing : Out → Type 0
OutAsksNothing Nothing = Unit {0}
OutAsksNothing (ToManager note) = AsksNothing note
OutAsksNothing (ToSite to note) = AsksNothing note

pub record RowFalls (left : ℕ) (row : Entry × Out) : Type 0 where
  pub less : out_deliveries row.1 < left
  pub asks_nothing : OutAsksNothing row.1

row-if : (left : ℕ) (b : Bool) (x y : Entry × Out) → RowFalls left x → RowFalls left y → RowFalls left (if b then x else y)
row-if left true x y f g = f
row-if left false x y f g = g

silent : (left : ℕ) (e : Entry) → 0 < left → RowFalls left (e, Nothing)
silent left e l = record { less = l; asks_nothing = tt }

confirms : (left n : ℕ) (e : Entry) → 1 < left → RowFalls left (e, ToManager (Confirm n))
confirms left n e l = record { less = l; asks_nothing = no_confirm n }

pages : (n to : ℕ) (kind : Kind) (b : List ℕ) (e : Entry) → RowFalls 3 (e, ToSite to (Page n kind b))
pages n to kind b e = record { less = omega arith; asks_nothing = no_page n kind b }

clears : (n : ℕ) (e : Entry) → RowFalls 5 (e, ToManager (Cleared n))
clears n e = record { less = omega arith; asks_nothing = no_cleared n }

pub clear-falls : (n : ℕ) (e : Entry) → RowFalls 5 (on_clear n e)
clear-falls n e = row-if 5 (nat_le n (seen e)) _ _ (clears n e) (row-if 5 (owned e) _ _ (silent 5 e (omega arith)) (clears n _))

pub hand-falls : (me n : ℕ) (kind : Kind) (to : ℕ) (e : Entry) → RowFalls 3 (on_hand me n kind to e)
hand-falls me n Read to e =
    row-if 3 (nat_lt n (seen e)) _ _ (silent 3 e (omega arith))
    (row-if 3 (not (owned e)) _ _ (silent 3 e (omega arith)) (row-if 3 (to == me) _ _ (confirms 3 n _ (omega arith)) (pages n to Read _ _)))
hand-falls me n Write to e =
    row-if 3 (nat_lt n (seen e)) _ _ (silent 3 e (omega arith))
    (row-if 3 (owned e && (to == me)) _ _ (confirms 3 n _ (omega arith))
    (row-if 3 (owned e && nat_lt (seen e) n) _ _ (pages n to Write _ _)
    (row-if 3 (handed_to to e && (n == seen e)) _ _ (pages n to Write _ _) (silent 3 e (omega arith)))))

pub page-falls : (n : ℕ) (kind : Kind) (b : List ℕ) (e : Entry) → RowFalls 2 (on_page n kind b e)
page-falls n kind b e =
    row-if 2 (nat_lt n (seen e)) _ _ (silent 2 e (omega arith))
    (row-if 2 (n == seen e) _ _ (confirms 2 n e (omega arith)) (row-if 2 (owned e) _ _ (silent 2 e (omega arith)) (confirms 2 n _ (omega arith))))

-- rows of the book's table
abbrev pub order_deliveries : Order → ℕ
order_deliveries (ClearTo site) = 5
order_deliveries (HandTo owner requester kind) = 3

abbrev pub all_deliveries : List Order → ℕ
all_deliveries os = sum_by order_deliveries os

-- A row that leaves what was served sends less than what was handed over. One that starts a transaction serves a request anew: Asked
-- says of whom.
pub data BookFalls (Asked : ℕ → ℕ → Kind → Type 0) (old : Book) (left : ℕ) : Outcome → Type 0 where
  ignored : BookFalls Asked old left Ignored
  used_up : BookFalls Asked old left UsedUp
  goes_on : (b : Book) (os : List Order) → b.served ≡ old.served → all_deliveries os < left → BookFalls Asked old left (Taken b os)
  starts : (b : Book) (os : List Order) (from request : ℕ) (kind : Kind) → Asked from request kind → old.served from < request → b.served ≡ at old.served from request
      → all_deliveries os ≤ transaction_deliveries → BookFalls Asked old left (Taken b os)

all-clears : (ss : List ℕ) → all_deliveries (map ClearTo ss) ≡ 5 * length ss
all-clears [] = omega arith
all-clears (s ∷ ss) =
    let head = sum_by-cons order_deliveries (ClearTo s) (map ClearTo ss) in
    let rest = all-clears ss in
    omega (arith, head, rest)

awaited-few : (b : Book) (run : Running) → length (awaited b run) ≤ max_sites
unfolding awaited
awaited-few b run =
    let kept = length-filter (awaits b run) (range_with_len 0 max_sites) in
    let few = count_by-le-length (awaits b run) (range_with_len 0 max_sites) in
    let all = length-range_with_len 0 max_sites in
    omega (arith, kept, few, all)

orders-few : (b : Book) (run : Running) (ss : List ℕ) → length ss ≤ max_sites → all_deliveries (orders_to b run ss) ≤ transaction_deliveries
orders-few b run [] few = omega arith
orders-few b run (s ∷ ss) few = let all = all-clears (s ∷ ss) in omega (arith, all, few)

abbrev pub AllAsked : (ℕ → ℕ → Kind → Type 0) → List Waiting → Type 0
AllAsked Asked ws = Each (λ (w : Waiting). Asked w.from w.request w.kind) ws

module _ (Asked : ℕ → ℕ → Kind → Type 0) (old : Book) where
  start-falls : (b : Book) (left s r : ℕ) (kind : Kind) → b.served ≡ old.served → Asked s r kind → old.served s < r → BookFalls Asked old left (start s r kind b)
  start-falls b left s r kind same asked l =
      cond_both (b.number == greatest) UsedUp _ (BookFalls Asked old left) (λ e. used_up)
      (λ e. starts (started s r kind b) (orders (started s r kind b)) s r kind asked l (ap (λ f. at f s r) same)
      (orders-few (started s r kind b) (record { kind = kind; requester = s }) _ (awaited-few (started s r kind b) (record { kind = kind; requester = s }))))

  behind-falls : (s r : ℕ) (kind : Kind) → BookFalls Asked old 1 (ask_behind s r kind old)
  behind-falls s r kind =
      cond_both (is_waiting s r old.waiting) Ignored _ (BookFalls Asked old 1) (λ e. ignored)
      (λ e. cond_both (nat_le max_waiting (length old.waiting)) Ignored _ (BookFalls Asked old 1) (λ f. ignored) (λ f. goes_on _ [] refl (omega arith)))

  while-falls : (running : Option Running) (s r : ℕ) (kind : Kind) → Asked s r kind → old.served s < r → BookFalls Asked old 1 (ask_while running s r kind old)
  while-falls None s r kind asked l = start-falls old 1 s r kind refl asked l
  while-falls (Some run) s r kind asked l = behind-falls s r kind

  pub ask-falls : (s r : ℕ) (kind : Kind) → Asked s r kind → BookFalls Asked old 1 (on_ask s r kind old)
  ask-falls s r kind asked =
      cond_both (nat_le r (old.served s)) Ignored _ (BookFalls Asked old 1) (λ e. ignored)
      (λ e. while-falls old.running s r kind asked (leb-false r (old.served s) e))

  hand-at-last : (b : Book) (run : Running) (ss : List ℕ) → awaited b run ≡ ss → b.running ≡ Some run → b.served ≡ old.served
      → BookFalls Asked old 4 (Taken b (hand_if_cleared b run ss))
  hand-at-last b run (s ∷ ss) is runs same = goes_on b [] same (omega arith)
  hand-at-last b run [] is runs same =
      goes_on b (orders b) same (subst (λ (os : List Order). all_deliveries os < 4) (sym hands) (omega arith))
    where
      hands : orders b ≡ HandTo b.owner run.requester run.kind ∷ []
      hands = ap (orders_of b) runs ∙ ap (orders_to b run) is

  cleared-falls-while : (running : Option Running) (s n : ℕ) → old.running ≡ running → BookFalls Asked old 4 (cleared_while running s n old)
  cleared-falls-while None s n is = ignored
  cleared-falls-while (Some run) s n is =
      cond_both ((n == old.number) && awaits old run s) (with_cleared s run old) Ignored (BookFalls Asked old 4)
      (λ e. hand-at-last (record old { cleared = at old.cleared s true }) run _ refl is refl) (λ e. ignored)

  pub cleared-falls : (s n : ℕ) → BookFalls Asked old 4 (on_cleared s n old)
  cleared-falls s n = cleared-falls-while old.running s n refl

  first-falls : (ws : List Waiting) (b : Book) → b.served ≡ old.served → AllAsked Asked ws → BookFalls Asked old 1 (start_first (unserved old.served ws) b)
  first-falls [] b same asked = goes_on _ [] same (omega arith)
  first-falls (w ∷ ws) b same asked =
      cond_both (nat_le w.request (old.served w.from)) (unserved old.served ws) (w ∷ ws) (λ us. BookFalls Asked old 1 (start_first us b))
      (λ e. first-falls ws b same asked.1)
      (λ e. start-falls (record b { waiting = ws }) 1 w.from w.request w.kind same asked.0 (leb-false w.request (old.served w.from) e))

  serve-falls : (b : Book) → b.served ≡ old.served → b.waiting ≡ old.waiting → AllAsked Asked old.waiting → BookFalls Asked old 1 (serve_next b)
  serve-falls b same waits asked =
      cond_both (b.number == greatest) _ _ (BookFalls Asked old 1) (λ e. goes_on _ [] same (omega arith))
      (λ e. subst (λ us. BookFalls Asked old 1 (start_first us b)) (sym (ap (λ f. unserved f b.waiting) same ∙ ap (unserved old.served) waits)) (first-falls old.waiting b same asked))

  ended-served : (run : Running) → ((ended run old).served ≡ old.served) × ((ended run old).waiting ≡ old.waiting)
  ended-served run =
      cond_both (is_write run.kind) _ _ (λ (b : Book). (b.served ≡ old.served) × (b.waiting ≡ old.waiting)) (λ e. (refl, refl))
      (λ e. cond_both (run.requester == old.owner) _ _ (λ (b : Book). (b.served ≡ old.served) × (b.waiting ≡ old.waiting)) (λ f. (refl, refl)) (λ f. (refl, refl)))

  confirm-falls-while : (running : Option Running) (s n : ℕ) → AllAsked Asked old.waiting → BookFalls Asked old 1 (confirm_while running s n old)
  confirm-falls-while None s n asked = ignored
  confirm-falls-while (Some run) s n asked =
      cond_both ((n == old.number) && (s == run.requester)) (serve_next (ended run old)) Ignored (BookFalls Asked old 1)
      (λ e. let parts = ended-served run in serve-falls (ended run old) parts.0 parts.1 asked) (λ e. ignored)

  pub confirm-falls : (s n : ℕ) → AllAsked Asked old.waiting → BookFalls Asked old 1 (on_confirm s n old)
  confirm-falls s n asked = confirm-falls-while old.running s n asked
