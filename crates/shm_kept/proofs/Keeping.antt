-- Events of a desk, one after another, at each of which what its node maps is kept.
use Rattle.std.proofs.Common.{◌≡◌, ℕ, zero, suc, Bool, true, false, List, [], ◌∷◌, ◌++◌, cond, map, refl, subst, ap, ap₂, sym, ◌∙◌, append-nil}
use Rattle.std.specs.List.{All}
use Rattle.std.specs.Prelude.{Option, Some, None, is_some, option_and_then, option_map, replicate}
use Rattle.std.proofs.lemmas.List.{append_assoc}
use Rattle.std.proofs.lemmas.List.Elements.{All-append, All-head, All-tail}
use Rattle.shm_process.specs.Cause.{Cause}
use Rattle.shm_process.specs.Desk.{Desk, all_made, grown_by, made_again, made_in_row, settled, step_entry, untagged, with_again, with_told}
use Rattle.shm_process.proofs.CauseLemmas.{single_step}
use Rattle.shm_process.proofs.Events.{All-back, All-front, after-both, entries-both, steps_both, text-both}
use Rattle.shm_process.proofs.RowRuns.{closed-node, closed-row, rows_made}
use Rattle.shm_process.proofs.UnmapSteps.{event_of}
use Rattle.shm_process.specs.Node.{Node, Said}
use Rattle.shm_process.specs.Recorded.{Again, Entry, Event, IsEntry, TooLong, after_event, after_events, all_steps, entries_of, entries_text, recorded, said_at}
use Rattle.shm_process.specs.Rows.{Row, joined, row_in}
use Rattle.shm_process.specs.Waiting.{after_again, passed_over, said_again}
use Rattle.shm_kept.specs.Kept.{DidKeep, IsKept, KeptThrough}
use Rattle.shm_kept.proofs.Rights.{GoodNode, good-kept, kept-good}
use Rattle.shm_kept.proofs.Nodes.{again-good}

-- ---- events, one after another

pub kept-last : (events : List Event) (node : Node) → KeptThrough node events → IsKept (after_events node events)
kept-last [] node k = k
kept-last (event ∷ events) node k = kept-last events (after_event node event) k.1

kept-both : (xs ys : List Event) (node : Node) → KeptThrough node xs → KeptThrough (after_events node xs) ys → KeptThrough node (xs ++ ys)
kept-both [] ys node k l = l
kept-both (x ∷ xs) ys node k l = (k.0, kept-both xs ys (after_event node x) k.1 l)

-- so many steps of asks that wait
kept-agains : (n : ℕ) (node : Node) → GoodNode node → KeptThrough node (replicate n Again)
kept-agains zero node g = good-kept node g
kept-agains (suc n) node g = (good-kept node g, kept-agains n (after_event node Again) (again-good node g))

-- what is mapped is kept by a step that is made so
abbrev pub IsKeeping : Cause → Type 0
IsKeeping cause = (node : Node) → GoodNode node → GoodNode (after_event node (event_of cause))

pub kept-causes : (causes : List Cause) (node : Node) → GoodNode node → All IsKeeping causes → KeptThrough node (map event_of causes)
kept-causes [] node g all = good-kept node g
kept-causes (cause ∷ causes) node g all =
    (good-kept node g, kept-causes causes (after_event node (event_of cause)) (All-head IsKeeping cause causes all node g) (All-tail IsKeeping cause causes all))

-- ---- what a desk records

-- entries of the steps of these events were recorded, and no row is open
pub record Records (old new : Desk) (events : List Event) : Type 0 where
  pub entries : List Entry
  pub recorded : new.recorded ≡ old.recorded ++ entries_text entries
  pub steps : all_steps entries ≡ entries_of old.node events
  pub lines : All IsEntry (entries_of old.node events) → All IsEntry entries
  pub row : new.row ≡ None

-- The node of the first desk had these events, and what it mapped was kept at each. From a desk without a row it recorded their entries.
pub record Keeps (old new : Desk) : Type 0 where
  pub events : List Event
  pub node : new.node ≡ after_events old.node events
  pub kept : KeptThrough old.node events
  pub records : old.row ≡ None → Records old new events

pub did-of-keeps : (old new : Desk) → old.row ≡ None → Keeps old new → DidKeep old new
did-of-keeps old new none k =
    let r = k.records none in
    record {
      did = record { events = k.events; entries = r.entries; node = k.node; recorded = r.recorded; steps = r.steps; lines = r.lines; row = r.row };
      kept = k.kept;
    }

records-nothing : (d next : Desk) → next.recorded ≡ d.recorded → next.row ≡ d.row → d.row ≡ None → Records d next []
records-nothing d next r same none =
    record { entries = []; recorded = r ∙ sym (append-nil d.recorded); steps = refl; lines = λ all. all; row = same ∙ none }

pub did-nothing : (d next : Desk) → GoodNode d.node → next.node ≡ d.node → next.recorded ≡ d.recorded → next.row ≡ d.row → Keeps d next
did-nothing d next g n r same = record { events = []; node = n; kept = good-kept d.node g; records = λ none. records-nothing d next r same none }

records-both : (a b c : Desk) (xs ys : List Event) → b.node ≡ after_events a.node xs → Records a b xs → Records b c ys → Records a c (xs ++ ys)
records-both a b c xs ys on p q =
    let later = ap (λ n. entries_of n ys) on in
    let whole = entries-both xs ys a.node in
    record {
      entries = p.entries ++ q.entries;
      recorded =
          q.recorded ∙ ap (λ r. r ++ entries_text q.entries) p.recorded ∙ append_assoc a.recorded (entries_text p.entries) (entries_text q.entries)
          ∙ ap (λ t. a.recorded ++ t) (sym (text-both p.entries q.entries));
      steps = steps_both p.entries q.entries ∙ ap₂ (λ s t. s ++ t) p.steps (q.steps ∙ later) ∙ sym whole;
      lines = λ all.
          let both = subst (All IsEntry) whole all in
          let first = entries_of a.node xs in
          let rest = entries_of (after_events a.node xs) ys in
          All-append IsEntry p.entries q.entries (p.lines (All-front IsEntry first rest both)) (q.lines (subst (All IsEntry) (sym later) (All-back IsEntry first rest both)));
      row = q.row;
    }

pub did-both : (a b c : Desk) → Keeps a b → Keeps b c → Keeps a c
did-both a b c p q = record {
  events = p.events ++ q.events;
  node = q.node ∙ ap (λ n. after_events n q.events) p.node ∙ sym (after-both p.events q.events a.node);
  kept = kept-both p.events q.events a.node p.kept (subst (λ n. KeptThrough n q.events) p.node q.kept);
  records = λ none. let r = p.records none in records-both a b c p.events q.events p.node r (q.records r.row);
}

-- what is mapped holds then
pub did-good : (a b : Desk) → Keeps a b → GoodNode b.node
did-good a b p = subst GoodNode (sym p.node) (kept-good (after_events a.node p.events) (kept-last p.events a.node p.kept))

pub did-then : (a b c : Desk) → Keeps a b → (GoodNode b.node → Keeps b c) → Keeps a c
did-then a b c p next = did-both a b c p (next (did-good a b p))

-- one event, and what was recorded of it
pub did-one : (d next : Desk) (event : Event) → GoodNode d.node → GoodNode next.node → next.node ≡ after_event d.node event
    → next.recorded ≡ d.recorded ++ step_entry (said_at d.node event) → next.row ≡ d.row → Keeps d next
unfolding step_entry
did-one d next event g h n r same = record {
  events = event ∷ [];
  node = n;
  kept = (good-kept d.node g, good-kept (after_event d.node event) (subst GoodNode n h));
  records = λ none. record {
    entries = recorded (said_at d.node event) [];
    recorded = r;
    steps = single_step d.node event;
    lines = λ all. all;
    row = same ∙ none;
  };
}

pub did-cond : (b : Bool) (d x y : Desk) → Keeps d x → Keeps d y → Keeps d (cond b x y)
did-cond true d x y p q = p
did-cond false d x y p q = q

-- the entry of a step doesn't say who is told
pub untagged-entry : (said : Option Said) → step_entry (option_map untagged said) ≡ step_entry said
unfolding step_entry
untagged-entry None = refl
untagged-entry (Some said) = refl

pub did-too-long : (d next : Desk) → GoodNode d.node → next.node ≡ passed_over d.node → next.recorded ≡ d.recorded → next.row ≡ d.row → Keeps d next
did-too-long d next g n r same = record {
  events = TooLong ∷ [];
  node = n;
  kept = (good-kept d.node g, good-kept (passed_over d.node) g);
  records = λ none. record { entries = []; recorded = r ∙ sym (append-nil d.recorded); steps = refl; lines = λ all. all; row = same ∙ none };
}

-- ---- asks that wait

again-node : (d : Desk) (said : Option Said) → (with_again d said).node ≡ d.node
again-node d None = refl
again-node d (Some said) = made-node said (row_in said.clock said.cause)
  where
    grown-node : (x : Desk) (next : Row) (o : Option Row) → (grown_by x next o).node ≡ x.node
    grown-node x next None = closed-node x x.row
    grown-node x next (Some row) = refl

    made-node : (said : Said) (o : Option Row) → (made_in_row d said o).node ≡ d.node
    made-node said None = refl
    made-node said (Some next) = grown-node (with_told d said) next (option_and_then (λ row. joined row next) d.row)

-- so many steps of them were made
abbrev Agains : Desk → Desk → Type 0
Agains d next = (count : ℕ) × (next.node ≡ after_events d.node (replicate count Again))

agains-if : (d x y : Desk) (b : Bool) → Agains d x → Agains d y → Agains d (cond b x y)
agains-if d x y true p q = p
agains-if d x y false p q = q

agains : (n : ℕ) (d : Desk) → Agains d (all_made n d)
unfolding all_made
agains zero d = (0, refl)
agains (suc n) d =
    let next = made_again d in
    let more = agains n next in
    let on : next.node ≡ after_event d.node Again = again-node (record d { node = after_again d.node }) (said_again d.node) in
    agains-if d (all_made n next) d (is_some (said_again d.node)) (suc more.0, more.1 ∙ ap (λ m. after_events m (replicate more.0 Again)) on) (0, refl)

settled-from : (n : ℕ) (d : Desk) (row : Option Row) → d.row ≡ row → GoodNode d.node → Keeps d (settled n d)
unfolding settled
settled-from n d None e g =
    let made = rows_made n d e in
    let last = all_made n d in
    record {
      events = replicate made.count Again;
      node = closed-node last last.row ∙ made.node;
      kept = kept-agains made.count d.node g;
      records = λ none. record { entries = made.entries; recorded = made.recorded; steps = made.steps; lines = made.lines; row = closed-row last last.row refl };
    }
settled-from n d (Some row) e g =
    let made = agains n d in
    let last = all_made n d in
    record {
      events = replicate made.0 Again;
      node = closed-node last last.row ∙ made.1;
      kept = kept-agains made.0 d.node g;
      records = λ none. let never : Some row ≡ None = sym e ∙ none in absurd (cc);
    }

pub did-settled : (n : ℕ) (d : Desk) → GoodNode d.node → Keeps d (settled n d)
did-settled n d g = settled-from n d d.row refl g
