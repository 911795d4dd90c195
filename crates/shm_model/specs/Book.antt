-- The manager's book of one page: Li and Hudak 1989, §3.2, the fixed distributed manager. One transaction runs at a time;
-- it ends with its requester's confirmation, and the others wait.
use Rattle.std.specs.Prelude.{ℕ, Bool, true, false, List, [], ◌∷◌, ◌++◌, Option, Some, None, ◌+◌, ◌&&◌, not, nat_le, ◌==◌, if◌then◌else◌, length, map, filter}
use Rattle.std.specs.List.{list_any, range_with_len}
pub use Rattle.shm_place.specs.Limits.{max_sites}
use Rattle.shm_model.specs.Basics.{at, greatest}
use Rattle.shm_model.specs.declared.request_kind.Kind.{Kind}
use Rattle.shm_model.specs.declared.request_kind.Kind.TheVariants.{Read, Write}

-- an Ask that waits for its turn
pub record Waiting : Type 0 where
  pub from : ℕ
  pub request : ℕ
  pub kind : Kind

-- the transaction that runs: what it gives, and to whom
pub record Running : Type 0 where
  pub kind : Kind
  pub requester : ℕ

-- `number` is the last transaction's; `cleared` are the sites that have answered its Clear; `served` has the greatest request
-- served of each site
pub record Book : Type 0 where
  pub owner : ℕ
  pub copies : ℕ → Bool
  pub number : ℕ
  pub running : Option Running
  pub cleared : ℕ → Bool
  pub served : ℕ → ℕ
  pub waiting : List Waiting

abbrev pub untouched_book : ℕ → Book
untouched_book manager = record { owner = manager; copies = λ _. false; number = 0; running = None; cleared = λ _. false; served = λ _. 0; waiting = [] }

-- what a running transaction asks for, under the book's number
pub data Order : Type 0 where
  ClearTo : ℕ → Order
  HandTo : ℕ → ℕ → Kind → Order

-- a message was ignored; no number is left for the transaction it would start; or the new book, and what goes out
pub data Outcome : Type 0 where
  Ignored : Outcome
  UsedUp : Outcome
  Taken : Book → List Order → Outcome

abbrev pub max_waiting : ℕ
max_waiting = 16

abbrev pub is_write : Kind → Bool
is_write Read = false
is_write Write = true

-- the running Write waits until this site has met it
abbrev pub awaits : Book → Running → ℕ → Bool
awaits b run site = is_write run.kind && b.copies site && not (site == run.requester) && not (b.cleared site)

-- the sites that a running transaction still waits for, rising
unfoldable pub awaited : Book → Running → List ℕ
awaited b run = filter (awaits b run) (range_with_len 0 max_sites)

-- with nobody left to clear, the owner hands the page
abbrev pub orders_to : Book → Running → List ℕ → List Order
orders_to b run [] = HandTo b.owner run.requester run.kind ∷ []
orders_to b run (s ∷ ss) = map ClearTo (s ∷ ss)

abbrev pub orders_of : Book → Option Running → List Order
orders_of b None = []
orders_of b (Some run) = orders_to b run (awaited b run)

-- what the running transaction asks for: at its start, and again at each tick
abbrev pub orders : Book → List Order
orders b = orders_of b b.running

abbrev pub started : ℕ → ℕ → Kind → Book → Book
started s r kind b = record b { number = b.number + 1; running = Some (record { kind = kind; requester = s }); cleared = λ _. false; served = at b.served s r }

abbrev pub start : ℕ → ℕ → Kind → Book → Outcome
start s r kind b =
    if b.number == greatest then UsedUp
    else Taken (started s r kind b) (orders (started s r kind b))

abbrev pub is_waiting : ℕ → ℕ → List Waiting → Bool
is_waiting s r = list_any (λ w. (w.from == s) && (w.request == r))

abbrev pub ask_behind : ℕ → ℕ → Kind → Book → Outcome
ask_behind s r kind b =
    if is_waiting s r b.waiting then Ignored
    else if nat_le max_waiting (length b.waiting) then Ignored
    else Taken (record b { waiting = b.waiting ++ (record { from = s; request = r; kind = kind } ∷ []) }) []

abbrev pub ask_while : Option Running → ℕ → ℕ → Kind → Book → Outcome
ask_while None s r kind b = start s r kind b
ask_while (Some _) s r kind b = ask_behind s r kind b

-- An Ask: what was served is not served again; one transaction at a time.
abbrev pub on_ask : ℕ → ℕ → Kind → Book → Outcome
on_ask s r kind b =
    if nat_le r (b.served s) then Ignored
    else ask_while b.running s r kind b

abbrev pub hand_if_cleared : Book → Running → List ℕ → List Order
hand_if_cleared b run [] = orders b
hand_if_cleared b run (_ ∷ _) = []

abbrev pub with_cleared : ℕ → Running → Book → Outcome
with_cleared s run b =
    let next = record b { cleared = at b.cleared s true } in
    Taken next (hand_if_cleared next run (awaited next run))

abbrev pub cleared_while : Option Running → ℕ → ℕ → Book → Outcome
cleared_while None s n b = Ignored
cleared_while (Some run) s n b =
    if (n == b.number) && awaits b run s then with_cleared s run b else Ignored

-- A Cleared: the running Write has one site less to wait for; after the last, the owner hands the page.
abbrev pub on_cleared : ℕ → ℕ → Book → Outcome
on_cleared s n b = cleared_while b.running s n b

-- the requests that are still to be served, the oldest first
abbrev pub unserved : (ℕ → ℕ) → List Waiting → List Waiting
unserved served [] = []
unserved served (w ∷ ws) = if nat_le w.request (served w.from) then unserved served ws else w ∷ ws

abbrev pub start_first : List Waiting → Book → Outcome
start_first [] b = Taken (record b { waiting = [] }) []
start_first (w ∷ ws) b = start w.from w.request w.kind (record b { waiting = ws })

-- with no number left, nobody who waits is served any more
abbrev pub serve_next : Book → Outcome
serve_next b =
    if b.number == greatest then Taken (record b { waiting = [] }) []
    else start_first (unserved b.served b.waiting) b

-- the transaction is done: a reader joins the copies unless it owns the page; a writer owns it, and nobody has a copy
abbrev pub ended : Running → Book → Book
ended run b =
    if is_write run.kind then record b { owner = run.requester; copies = λ _. false; running = None }
    else if run.requester == b.owner then record b { running = None }
    else record b { copies = at b.copies run.requester true; running = None }

abbrev pub confirm_while : Option Running → ℕ → ℕ → Book → Outcome
confirm_while None s n b = Ignored
confirm_while (Some run) s n b =
    if (n == b.number) && (s == run.requester) then serve_next (ended run b) else Ignored

-- A Confirm: the requester has what it asked for, and the next request is served.
abbrev pub on_confirm : ℕ → ℕ → Book → Outcome
on_confirm s n b = confirm_while b.running s n b

-- what a restart leaves of a book
abbrev pub without_volatile : Book → Book
without_volatile b = record b { cleared = λ _. false; waiting = [] }
