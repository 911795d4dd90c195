-- Each message to the manager's book keeps the invariant.
use Rattle.std.proofs.Common.{◌≡◌, ◌≢◌, ℕ, ◌≤◌, ◌⊎◌, inl, inr, Bool, true, false, ◌&&◌, ◌==◌, Option, Some, None, List, [], ◌∷◌, ◌++◌, nat_le, length, if◌then◌else◌, arith, refl, sym, ◌∙◌, subst}
use Rattle.std.proofs.lemmas.Bool.{cases_eq, cond-false}
use Rattle.std.proofs.lemmas.Bool.Decides.{nat_tests}
use Rattle.shm_model.specs.declared.request_kind.Kind.{Kind}
use Rattle.shm_model.specs.declared.request_kind.Kind.TheVariants.{Read, Write}
use Rattle.shm_model.specs.Entry.{Entry, Nil, Copy, OwnRead, OwnWrite, Handed, is_copy, owned, readable, seen, writable}
use Rattle.shm_model.specs.Book.{Book, Outcome, Ignored, UsedUp, Taken, Running, Waiting, ask_while, awaited, awaits, cleared_while, confirm_while, ended, hand_if_cleared, is_waiting, is_write, max_waiting, on_ask, on_cleared, on_confirm, orders, serve_next, start_first, started, unserved, with_cleared, without_volatile}
use Rattle.shm_model.specs.Basics.{at, greatest}
use Rattle.shm_laws.proofs.Page.View.{View, IsKept, Runs, Holds}
use Rattle.shm_laws.proofs.Page.Entry.{false-true}
use Rattle.shm_laws.proofs.Page.Hand.{own-readable-of}
use Rattle.shm_laws.proofs.Page.HandOver.{writable-owned}
use Rattle.shm_laws.proofs.Page.Orders.{Each, OrderFits, orders-fit}
use Rattle.shm_laws.proofs.Page.Book.{Goes, OutcomeFits, ignored, used_up, taken, goes-on, side-goes, with_book}
use Rattle.shm_laws.proofs.Page.Turn.{end-goes, start-goes}

-- waiting requests and what was cleared count for nothing, but that the cleared have met the running transaction
waiting-goes : (Now : List ℕ → Type 0) (v : View) → Holds Now v → (ws : List Waiting) → Goes Now v (record v.book { waiting = ws })
waiting-goes Now v h ws = side-goes Now v h (record v.book { waiting = ws }) refl (λ s. refl) refl refl h.cleared

start-keeps : (Now : List ℕ → Type 0) (v : View) → Holds Now v → v.book.running ≡ None → (s r : ℕ) (kind : Kind) (full : Bool)
    → OutcomeFits Now v (if full then UsedUp else Taken (started s r kind v.book) (orders (started s r kind v.book)))
start-keeps Now v h idle s r kind true = used_up
start-keeps Now v h idle s r kind false =
    let goes : Goes Now v (started s r kind v.book) = start-goes Now v h idle s r kind in
    taken (started s r kind v.book) (orders (started s r kind v.book)) goes (orders-fit Now (with_book v (started s r kind v.book)) goes.holds)

behind-keeps : (Now : List ℕ → Type 0) (v : View) → Holds Now v → (s r : ℕ) (kind : Kind) (known full : Bool)
    → OutcomeFits Now v (if known then Ignored else if full then Ignored else Taken (record v.book { waiting = v.book.waiting ++ (record { from = s; request = r; kind = kind } ∷ []) }) [])
behind-keeps Now v h s r kind true full = ignored
behind-keeps Now v h s r kind false true = ignored
behind-keeps Now v h s r kind false false =
    let ws : List Waiting = v.book.waiting ++ (record { from = s; request = r; kind = kind } ∷ []) in
    taken (record v.book { waiting = ws }) [] (waiting-goes Now v h ws) tt

ask-keeps-while : (Now : List ℕ → Type 0) (v : View) → Holds Now v → (running : Option Running) → v.book.running ≡ running → (s r : ℕ) (kind : Kind)
    → OutcomeFits Now v (ask_while running s r kind v.book)
ask-keeps-while Now v h None idle s r kind = start-keeps Now v h idle s r kind (v.book.number == greatest)
ask-keeps-while Now v h (Some run) is s r kind = behind-keeps Now v h s r kind (is_waiting s r v.book.waiting) (nat_le max_waiting (length v.book.waiting))

ask-keeps-if : (Now : List ℕ → Type 0) (v : View) → Holds Now v → (s r : ℕ) (kind : Kind) (old : Bool)
    → OutcomeFits Now v (if old then Ignored else ask_while v.book.running s r kind v.book)
ask-keeps-if Now v h s r kind true = ignored
ask-keeps-if Now v h s r kind false = ask-keeps-while Now v h v.book.running refl s r kind

pub ask-keeps : (Now : List ℕ → Type 0) (v : View) → Holds Now v → (s r : ℕ) (kind : Kind) → OutcomeFits Now v (on_ask s r kind v.book)
ask-keeps Now v h s r kind = ask-keeps-if Now v h s r kind (nat_le r (v.book.served s))

at-true : (f : ℕ → Bool) (k s : ℕ) → at f k true s ≡ true → (k ≡ s) ⊎ (f s ≡ true)
at-true f k s e = at-true-of f k s (cases_eq k s) e
  where
    at-true-of : (f : ℕ → Bool) (k s : ℕ) → (k ≡ s) ⊎ (k ≢ s) → at f k true s ≡ true → (k ≡ s) ⊎ (f s ≡ true)
    at-true-of f k s (inl same) e = inl same
    at-true-of f k s (inr other) e = inr (grind (arith, nat_tests))

hand-orders : (Now : List ℕ → Type 0) (v : View) → Holds Now v → (run : Running) (ss : List ℕ) → Each (OrderFits Now v) (hand_if_cleared v.book run ss)
hand-orders Now v h run [] = orders-fit Now v h
hand-orders Now v h run (s ∷ ss) = tt

with-cleared-keeps : (Now : List ℕ → Type 0) (v : View) → Holds Now v → (run : Running) (s : ℕ) → v.book.number ≤ seen (v.entries s)
    → OutcomeFits Now v (with_cleared s run v.book)
with-cleared-keeps Now v h run s met =
    let b : Book = record v.book { cleared = at v.book.cleared s true } in
    let has_met : (kind : Kind) (q x : ℕ) → Runs v.book kind q → at v.book.cleared s true x ≡ true → v.book.number ≤ seen (v.entries x) =
    (λ kind q x r c. has-met kind q x r (at-true v.book.cleared s x c)) in
    let goes : Goes Now v b = side-goes Now v h b refl (λ x. refl) refl refl has_met in
    taken b (hand_if_cleared b run (awaited b run)) goes (hand-orders Now (with_book v b) goes.holds run (awaited b run))
  where
    has-met : (kind : Kind) (q x : ℕ) → Runs v.book kind q → (s ≡ x) ⊎ (v.book.cleared x ≡ true) → v.book.number ≤ seen (v.entries x)
    has-met kind q x r (inl same) = subst (λ y. v.book.number ≤ seen (v.entries y)) same met
    has-met kind q x r (inr c) = h.cleared kind q x r c

cleared-keeps-if : (Now : List ℕ → Type 0) (v : View) → Holds Now v → (run : Running) (s n : ℕ) → n ≤ seen (v.entries s) → (same counts : Bool) → (n == v.book.number) ≡ same
    → OutcomeFits Now v (if same && counts then with_cleared s run v.book else Ignored)
cleared-keeps-if Now v h run s n met true true e = with-cleared-keeps Now v h run s (grind (arith, nat_tests))
cleared-keeps-if Now v h run s n met true false e = ignored
cleared-keeps-if Now v h run s n met false counts e = ignored

cleared-keeps-while : (Now : List ℕ → Type 0) (v : View) → Holds Now v → (running : Option Running) (s n : ℕ) → n ≤ seen (v.entries s)
    → OutcomeFits Now v (cleared_while running s n v.book)
cleared-keeps-while Now v h None s n met = ignored
cleared-keeps-while Now v h (Some run) s n met = cleared-keeps-if Now v h run s n met (n == v.book.number) (awaits v.book run s) refl

pub cleared-keeps : (Now : List ℕ → Type 0) (v : View) → Holds Now v → (s n : ℕ) → n ≤ seen (v.entries s) → OutcomeFits Now v (on_cleared s n v.book)
cleared-keeps Now v h s n met = cleared-keeps-while Now v h v.book.running s n met

-- the requester confirms: the page goes on with the ended transaction
module _ (Now : List ℕ → Type 0) (v : View) (h : Holds Now v) (q : ℕ) (met : v.book.number ≤ seen (v.entries q)) where
  readable-copy : (e : Entry) → is_copy e ≡ true → readable e ≡ true
  readable-copy (Nil m) w = absurd (false-true w)
  readable-copy (Copy m b) w = refl
  readable-copy (OwnRead m b) w = absurd (false-true w)
  readable-copy (OwnWrite m b) w = absurd (false-true w)
  readable-copy (Handed m to b) w = absurd (false-true w)

  writable-copy : (e : Entry) → is_copy e ≡ true → writable e ≡ true → ⊥
  writable-copy (Nil m) c w = false-true c
  writable-copy (Copy m b) c w = false-true w
  writable-copy (OwnRead m b) c w = false-true c
  writable-copy (OwnWrite m b) c w = false-true c
  writable-copy (Handed m to b) c w = false-true c

  module _ (runs : Runs v.book Write q) where
    reads-alone : (s : ℕ) → s ≢ q → readable (v.entries s) ≡ true → ⊥
    reads-alone s o w = grind (arith, h.alone q s (h.writer q runs met), w)

    write-ended : Goes Now v (record v.book { owner = q; copies = λ _. false; running = None })
    write-ended = end-goes Now v h Write q runs met (record v.book { owner = q; copies = λ _. false; running = None }) refl refl
        (λ s w. owner-is s w (cases_eq s q)) (λ s w. absurd (no-copy s w (cases_eq s q))) refl (writable-owned (v.entries q) (h.writer q runs met))
      where
        owner-is : (s : ℕ) → owned (v.entries s) ≡ true → (s ≡ q) ⊎ (s ≢ q) → s ≡ q
        owner-is s w (inl e) = e
        owner-is s w (inr o) = absurd (reads-alone s o (own-readable-of (v.entries s) w))

        no-copy : (s : ℕ) → is_copy (v.entries s) ≡ true → (s ≡ q) ⊎ (s ≢ q) → ⊥
        no-copy s w (inl e) = writable-copy (v.entries q) (subst (λ x. is_copy (v.entries x) ≡ true) e w) (h.writer q runs met)
        no-copy s w (inr o) = reads-alone s o (readable-copy (v.entries s) w)

  module _ (runs : Runs v.book Read q) where
    owner-stays : (s : ℕ) → owned (v.entries s) ≡ true → s ≡ v.book.owner
    owner-stays s w = grind (arith, h.owner s w, runs.is)

    owner-has : IsKept v → owned (v.entries v.book.owner) ≡ true
    owner-has (inl w) = w
    owner-has (inr g) = absurd (grind (arith, g.runs.is, runs.is))

    own-ended : q ≡ v.book.owner → Goes Now v (record v.book { running = None })
    own-ended e = end-goes Now v h Read q runs met (record v.book { running = None }) refl refl owner-stays
        (λ s w. (h.copy_other s w, grind (arith, h.copy s w, h.copy_other s w, runs.is))) h.owner_no_copy (owner-has h.kept)

    read-ended : q ≢ v.book.owner → Goes Now v (record v.book { copies = at v.book.copies q true; running = None })
    read-ended other = end-goes Now v h Read q runs met (record v.book { copies = at v.book.copies q true; running = None }) refl refl owner-stays
        (λ s w. (h.copy_other s w, grind (arith, nat_tests, h.copy s w, runs.is)))
        (cond-false (q == v.book.owner) true (v.book.copies v.book.owner) (grind (arith, nat_tests)) ∙ h.owner_no_copy) (owner-has h.kept)

  read-ended-if : (run : Running) → Runs v.book Read q → run.requester ≡ q → (own : Bool) → (run.requester == v.book.owner) ≡ own
      → Goes Now v (if own then record v.book { running = None } else record v.book { copies = at v.book.copies run.requester true; running = None })
  read-ended-if run runs e true o = own-ended runs (grind (arith, nat_tests))
  read-ended-if run runs e false o = subst (λ s. Goes Now v (record v.book { copies = at v.book.copies s true; running = None })) (sym e) (read-ended runs (not-owner e o))
    where
      not-owner : run.requester ≡ q → (run.requester == v.book.owner) ≡ false → q ≢ v.book.owner
      not-owner e o same = grind (arith, nat_tests)

ended-goes : (Now : List ℕ → Type 0) (v : View) → Holds Now v → (kind : Kind) (q : ℕ) → Runs v.book kind q → v.book.number ≤ seen (v.entries q)
    → Goes Now v (ended (record { kind = kind; requester = q }) v.book)
ended-goes Now v h Read q runs met = read-ended-if Now v h q met (record { kind = Read; requester = q }) runs refl (q == v.book.owner) refl
ended-goes Now v h Write q runs met = write-ended Now v h q met runs

ended-idle : (run : Running) (b : Book) (w own : Bool)
    → (if w then record b { owner = run.requester; copies = λ _. false; running = None }
    else if own then record b { running = None } else record b { copies = at b.copies run.requester true; running = None }).running ≡ None
ended-idle run b true own = refl
ended-idle run b false true = refl
ended-idle run b false false = refl

outcome-after : (Now : List ℕ → Type 0) (v : View) (b : Book) (x : Outcome) → Goes Now v b → OutcomeFits Now (with_book v b) x → OutcomeFits Now v x
outcome-after Now v b Ignored g ignored = ignored
outcome-after Now v b UsedUp g used_up = used_up
outcome-after Now v b (Taken c os) g (taken _ _ k e) = taken c os (goes-on Now v b c g k) e

first-keeps : (Now : List ℕ → Type 0) (v : View) → Holds Now v → v.book.running ≡ None → (ws : List Waiting) → OutcomeFits Now v (start_first ws v.book)
first-keeps Now v h idle [] = taken (record v.book { waiting = [] }) [] (waiting-goes Now v h []) tt
first-keeps Now v h idle (w ∷ ws) =
    let goes : Goes Now v (record v.book { waiting = ws }) = waiting-goes Now v h ws in
    outcome-after Now v (record v.book { waiting = ws }) _ goes
    (start-keeps Now (with_book v (record v.book { waiting = ws })) goes.holds idle w.from w.request w.kind (v.book.number == greatest))

serve-keeps : (Now : List ℕ → Type 0) (v : View) → Holds Now v → v.book.running ≡ None → (full : Bool)
    → OutcomeFits Now v (if full then Taken (record v.book { waiting = [] }) [] else start_first (unserved v.book.served v.book.waiting) v.book)
serve-keeps Now v h idle true = taken (record v.book { waiting = [] }) [] (waiting-goes Now v h []) tt
serve-keeps Now v h idle false = first-keeps Now v h idle (unserved v.book.served v.book.waiting)

confirm-keeps-if : (Now : List ℕ → Type 0) (v : View) → Holds Now v → (kind : Kind) (q s n : ℕ) → Runs v.book kind q → n ≤ seen (v.entries s) → (same its : Bool)
    → (n == v.book.number) ≡ same → (s == q) ≡ its
    → OutcomeFits Now v (if same && its then serve_next (ended (record { kind = kind; requester = q }) v.book) else Ignored)
confirm-keeps-if Now v h kind q s n runs met true true e f =
    let b : Book = ended (record { kind = kind; requester = q }) v.book in
    let has_met : v.book.number ≤ seen (v.entries q) = grind (arith, nat_tests) in
    let goes : Goes Now v b = ended-goes Now v h kind q runs has_met in
    outcome-after Now v b (serve_next b) goes
    (serve-keeps Now (with_book v b) goes.holds (ended-idle (record { kind = kind; requester = q }) v.book (is_write kind) (q == v.book.owner)) (b.number == greatest))
confirm-keeps-if Now v h kind q s n runs met true false e f = ignored
confirm-keeps-if Now v h kind q s n runs met false its e f = ignored

confirm-keeps-while : (Now : List ℕ → Type 0) (v : View) → Holds Now v → (running : Option Running) → v.book.running ≡ running → (s n : ℕ) → n ≤ seen (v.entries s)
    → OutcomeFits Now v (confirm_while running s n v.book)
confirm-keeps-while Now v h None is s n met = ignored
confirm-keeps-while Now v h (Some run) is s n met =
    confirm-keeps-if Now v h run.kind run.requester s n (record { is = is }) met (n == v.book.number) (s == run.requester) refl refl

pub confirm-keeps : (Now : List ℕ → Type 0) (v : View) → Holds Now v → (s n : ℕ) → n ≤ seen (v.entries s) → OutcomeFits Now v (on_confirm s n v.book)
confirm-keeps Now v h s n met = confirm-keeps-while Now v h v.book.running refl s n met

none-met : (Now : List ℕ → Type 0) (v : View) (kind : Kind) (q s : ℕ) → Runs v.book kind q → false ≡ true → v.book.number ≤ seen (v.entries s)
none-met Now v kind q s r c = absurd (false-true c)

pub restart-goes : (Now : List ℕ → Type 0) (v : View) → Holds Now v → Goes Now v (without_volatile v.book)
restart-goes Now v h = side-goes Now v h (without_volatile v.book) refl (λ s. refl) refl refl (none-met Now v)
