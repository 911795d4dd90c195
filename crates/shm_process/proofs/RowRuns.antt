-- Asks that wait make steps, one after another: what is recorded of them in rows are entries of exactly these steps.
use Rattle.std.proofs.Common.{◌≡◌, ℕ, zero, suc, true, false, List, [], ◌∷◌, ◌++◌, cond, refl, ap, ap₂, sym, subst, ◌∙◌, append-nil, arith}
use Rattle.std.specs.List.{All}
use Rattle.std.specs.Prelude.{⊤, Option, Some, None, is_some, option_and_then, option_map, replicate}
use Rattle.std.specs.Option.{option_map_or}
use Rattle.std.proofs.lemmas.List.{append_assoc}
use Rattle.std.proofs.lemmas.List.Elements.{All-append, All-cons, All-nil}
use Rattle.shm_model.specs.declared.asked_access.Asked.{Asked}
use Rattle.shm_model.specs.declared.asked_access.Asked.TheVariants.{Load, Store}
use Rattle.shm_wire.specs.Line as stream
use Rattle.shm_process.specs.Access.{access_ask}
use Rattle.shm_process.specs.Cause.{OfLine}
use Rattle.shm_process.specs.Desk.{Desk, all_made, closed, closed_by, grown_by, in_row, made_again, made_in_row, with_again, with_told}
use Rattle.shm_process.specs.Node.{Said, next_clock}
use Rattle.shm_process.specs.Recorded.{Again, Entry, IsEntry, after_events, all_steps, entries_of, entries_from, entries_text, entry_of, recorded, steps_of}
use Rattle.shm_process.specs.Rows.{Row, joined, row_entry, row_in, row_of, size}
use Rattle.shm_process.specs.Waiting.{after_again, again_at, ready, said_again, says_at}
use Rattle.shm_process.specs.WaitingAsks.{ask_in, next_access, tag_of}
use Rattle.shm_process.proofs.Events.{All-back, All-front, steps_both, text-both}
use Rattle.shm_process.proofs.RowLemmas.{IsRow, entry_steps, joined_is, joined_steps, row_line, row_steps}

-- ---- a row that is recorded

pub closed-node : (d : Desk) (row : Option Row) → (closed_by d row).node ≡ d.node
closed-node d None = refl
closed-node d (Some row) = refl

pub closed-kept : (d : Desk) (row : Option Row) → (closed_by d row).kept ≡ d.kept
closed-kept d None = refl
closed-kept d (Some row) = refl

pub closed-row : (d : Desk) (row : Option Row) → d.row ≡ row → (closed_by d row).row ≡ None
closed-row d None e = e
closed-row d (Some row) e = refl

-- ---- what was recorded so far, with the row

abbrev steps_in_row : ℕ → Option Row → List Entry
steps_in_row me None = []
steps_in_row me (Some row) = row_steps me row

abbrev row_entries : ℕ → Option Row → List Entry
row_entries me None = []
row_entries me (Some row) = row_entry me row ∷ []

-- an entry of a row
abbrev pub IsOfRow : ℕ → Entry → Type 0
IsOfRow me entry = (row : Row) × (row_entry me row ≡ entry)

rows-of : (me : ℕ) (row : Option Row) → All (IsOfRow me) (row_entries me row)
rows-of me None = All-nil (IsOfRow me)
rows-of me (Some row) = All-cons (IsOfRow me) (row_entry me row) [] (row, refl) (All-nil (IsOfRow me))

abbrev IsOpen : Option Row → Type 0
IsOpen None = ⊤
IsOpen (Some row) = IsRow row

-- behind this text the desk recorded entries, and the row goes on with them: together they are these steps
record Holds (me : ℕ) (text : List ℕ) (steps : List Entry) (d : Desk) : Type 0 where
  pub own : d.node.me ≡ me
  pub entries : List Entry
  pub recorded : d.recorded ≡ text ++ entries_text entries
  pub are : all_steps entries ++ steps_in_row me d.row ≡ steps
  pub lines : All IsEntry steps → All IsEntry entries
  pub rows : All (IsOfRow me) entries
  pub row : IsOpen d.row

-- the row's entry, behind the others
entries-closed : (me : ℕ) (row : Option Row) (entries : List Entry) → all_steps (entries ++ row_entries me row) ≡ all_steps entries ++ steps_in_row me row
entries-closed me None entries = ap all_steps (append-nil entries) ∙ sym (append-nil (all_steps entries))
entries-closed me (Some row) entries =
    steps_both entries (row_entry me row ∷ [])
    ∙ ap (λ xs. all_steps entries ++ xs) (append-nil (steps_of (row_entry me row)) ∙ entry_steps me row)

lines-closed : (me : ℕ) (row : Option Row) → IsOpen row → All IsEntry (steps_in_row me row) → All IsEntry (row_entries me row)
lines-closed me None is all = All-nil IsEntry
lines-closed me (Some row) is all = All-cons IsEntry (row_entry me row) [] (row_line me row is all) (All-nil IsEntry)

text-closed : (d : Desk) (me : ℕ) (text : List ℕ) (entries : List Entry) (row : Option Row) → d.node.me ≡ me → d.recorded ≡ text ++ entries_text entries
    → (closed_by d row).recorded ≡ text ++ entries_text (entries ++ row_entries me row)
text-closed d me text entries None own e = e ∙ ap (λ es. text ++ entries_text es) (sym (append-nil entries))
text-closed d me text entries (Some row) own e =
    ap (λ r. r ++ entries_text (row_entry d.node.me row ∷ [])) e
    ∙ append_assoc text (entries_text entries) (entries_text (row_entry d.node.me row ∷ []))
    ∙ ap (λ site. text ++ (entries_text entries ++ entries_text (row_entry site row ∷ []))) own
    ∙ ap (λ t. text ++ t) (sym (text-both entries (row_entry me row ∷ [])))

-- ---- one step more

-- a row of one is one step
one-step : (me clock : ℕ) (tag : List ℕ) (asked : Asked)
    → row_steps me (row_of clock tag asked) ≡ record { clock = clock; cause = OfLine (stream.Ask (access_ask me tag asked)) } ∷ []
unfolding entries_from Rattle.shm_process.specs.Causes.loads Rattle.shm_process.specs.Causes.stores
one-step me clock tag (Load at offset) = refl
one-step me clock tag (Store at offset byte) = refl

one-size : (clock : ℕ) (tag : List ℕ) (asked : Asked) → size (row_of clock tag asked).accesses ≡ 1
one-size clock tag (Load at offset) = refl
one-size clock tag (Store at offset byte) = refl

one-row : (clock : ℕ) (tag : List ℕ) (asked : Asked) → IsRow (row_of clock tag asked)
one-row clock tag asked =
    let one = one-size clock tag asked in
    (omega (arith, one), omega (arith, one))

-- it begins another row
other-row : (me : ℕ) (text : List ℕ) (steps : List Entry) (d x : Desk) (row : Option Row) (next : Row) (e : Entry) → Holds me text steps d → d.row ≡ row
    → x.node.me ≡ d.node.me → x.recorded ≡ d.recorded → row_steps me next ≡ e ∷ [] → IsRow next
    → Holds me text (steps ++ e ∷ []) (record (closed_by x row) { row = Some next })
other-row me text steps d x row next e h is site same one fine =
    let entries = h.entries ++ row_entries me row in
    let so_far : all_steps entries ≡ steps = entries-closed me row h.entries ∙ ap (λ r. all_steps h.entries ++ steps_in_row me r) (sym is) ∙ h.are in
    record {
      own = ap (λ n. n.me) (closed-node x row) ∙ site ∙ h.own;
      entries = entries;
      recorded = text-closed x me text h.entries row (site ∙ h.own) (same ∙ h.recorded);
      are = ap₂ (λ xs ys. xs ++ ys) so_far one;
      lines = λ all.
          let before = All-front IsEntry steps (e ∷ []) all in
          let whole = subst (All IsEntry) (sym (ap (λ r. all_steps h.entries ++ steps_in_row me r) (sym is) ∙ h.are)) before in
          All-append IsEntry h.entries (row_entries me row) (h.lines before)
          (lines-closed me row (subst IsOpen is h.row) (All-back IsEntry (all_steps h.entries) (steps_in_row me row) whole));
      rows = All-append (IsOfRow me) h.entries (row_entries me row) h.rows (rows-of me row);
      row = fine;
    }

-- it joins the row
same-row : (me : ℕ) (text : List ℕ) (steps : List Entry) (d x : Desk) (row next whole : Row) (e : Entry) → Holds me text steps d → d.row ≡ Some row
    → x.node.me ≡ d.node.me → x.recorded ≡ d.recorded → row_steps me next ≡ e ∷ [] → size next.accesses ≡ 1 → joined row next ≡ Some whole
    → Holds me text (steps ++ e ∷ []) (record x { row = Some whole })
same-row me text steps d x row next whole e h is site same one single j =
    let joins = joined_steps me row next whole j in
    record {
      own = site ∙ h.own;
      entries = h.entries;
      recorded = same ∙ h.recorded;
      are =
          ap (λ xs. all_steps h.entries ++ xs) (joins.steps ∙ ap (λ ys. row_steps me row ++ ys) one)
          ∙ sym (append_assoc (all_steps h.entries) (row_steps me row) (e ∷ []))
          ∙ ap (λ xs. xs ++ e ∷ []) (ap (λ r. all_steps h.entries ++ steps_in_row me r) (sym is) ∙ h.are);
      lines = λ all. h.lines (All-front IsEntry steps (e ∷ []) all);
      rows = h.rows;
      row = joined_is me row next whole joins (subst IsOpen is h.row) single;
    }

grown-holds : (me : ℕ) (text : List ℕ) (steps : List Entry) (d x : Desk) (next : Row) (e : Entry) (row : Option Row) (o : Option Row) → Holds me text steps d
    → d.row ≡ row → x.row ≡ row → x.node.me ≡ d.node.me → x.recorded ≡ d.recorded → row_steps me next ≡ e ∷ [] → size next.accesses ≡ 1 → IsRow next
    → option_and_then (λ r. joined r next) row ≡ o → Holds me text (steps ++ e ∷ []) (grown_by x next o)
grown-holds me text steps d x next e row None h is now site same one single fine j =
    subst (λ r. Holds me text (steps ++ e ∷ []) (record (closed_by x r) { row = Some next })) (sym now)
    (other-row me text steps d x row next e h is site same one fine)
grown-holds me text steps d x next e None (Some whole) h is now site same one single fine j = absurd (cc)
grown-holds me text steps d x next e (Some row) (Some whole) h is now site same one single fine j =
    same-row me text steps d x row next whole e h is site same one single j

-- ---- all steps

again-holds : (me : ℕ) (text : List ℕ) (steps : List Entry) (d : Desk) (at : ℕ) → Holds me text steps d → ready d.node ≡ Some at
    → Holds me text (steps ++ entry_of (says_at d.node at) ∷ [])
    (in_row (with_told (record d { node = again_at d.node at }) (says_at d.node at))
    (row_of (next_clock d.node 0) (tag_of (ask_in d.node.waiting at)) (next_access (ask_in d.node.waiting at))))
again-holds me text steps d at h is =
    let ask = ask_in d.node.waiting at in
    let next = row_of (next_clock d.node 0) (tag_of ask) (next_access ask) in
    let x = with_told (record d { node = again_at d.node at }) (says_at d.node at) in
    let e = entry_of (says_at d.node at) in
    let one =
    one-step me (next_clock d.node 0) (tag_of ask) (next_access ask)
    ∙ ap (λ site. record { clock = next_clock d.node 0; cause = OfLine (stream.Ask (access_ask site (tag_of ask) (next_access ask))) } ∷ []) (sym h.own) in
    grown-holds me text steps d x next e d.row (option_and_then (λ r. joined r next) d.row) h refl refl refl refl one
    (one-size (next_clock d.node 0) (tag_of ask) (next_access ask)) (one-row (next_clock d.node 0) (tag_of ask) (next_access ask)) refl

record Makes (n me : ℕ) (text : List ℕ) (steps : List Entry) (d : Desk) : Type 0 where
  pub count : ℕ
  pub node : (all_made n d).node ≡ after_events d.node (replicate count Again)
  pub holds : Holds me text (steps ++ entries_of d.node (replicate count Again)) (all_made n d)
  pub kept : (all_made n d).kept ≡ d.kept

makes-none : (n me : ℕ) (text : List ℕ) (steps : List Entry) (d : Desk) → all_made n d ≡ d → Holds me text steps d → Makes n me text steps d
makes-none n me text steps d e h = record {
  count = 0;
  node = ap (λ (x : Desk). x.node) e;
  holds = subst (λ x. Holds me text (steps ++ []) x) (sym e) (subst (λ xs. Holds me text xs d) (sym (append-nil steps)) h);
  kept = ap (λ (x : Desk). x.kept) e;
}

grown_by-kept : (x : Desk) (next : Row) (o : Option Row) → ((grown_by x next o).kept ≡ x.kept) × ((grown_by x next o).node ≡ x.node)
grown_by-kept x next None = (closed-kept x x.row, closed-node x x.row)
grown_by-kept x next (Some row) = (refl, refl)

-- one more step, and then the others
makes-more : (n me : ℕ) (text : List ℕ) (steps : List Entry) (d x : Desk) (at : ℕ) → ready d.node ≡ Some at → all_made (suc n) d ≡ all_made n x
    → x.node ≡ again_at d.node at → x.kept ≡ d.kept → Makes n me text (steps ++ entry_of (says_at d.node at) ∷ []) x → Makes (suc n) me text steps d
makes-more n me text steps d x at is e node kept later =
    let e1 = entry_of (says_at d.node at) in
    let there : after_again d.node ≡ again_at d.node at = ap (λ p. option_map_or (again_at d.node) p d.node) is in
    let says : said_again d.node ≡ Some (says_at d.node at) = ap (option_map (says_at d.node)) is in
    let more = replicate later.count Again in
    let rest : entries_of x.node more ≡ entries_of (after_again d.node) more = ap (λ m. entries_of m more) (node ∙ sym there) in
    let whole : (steps ++ e1 ∷ []) ++ entries_of x.node more ≡ steps ++ entries_of d.node (Again ∷ more) =
    append_assoc steps (e1 ∷ []) (entries_of x.node more)
    ∙ ap (λ xs. steps ++ e1 ∷ xs) rest
    ∙ ap (λ s. steps ++ recorded s (entries_of (after_again d.node) more)) (sym says) in
    record {
      count = suc later.count;
      node = ap (λ (y : Desk). y.node) e ∙ later.node ∙ ap (λ m. after_events m more) (node ∙ sym there);
      holds = subst (λ xs. Holds me text xs (all_made (suc n) d)) whole
          (subst (λ y. Holds me text ((steps ++ e1 ∷ []) ++ entries_of x.node more) y) (sym e) later.holds);
      kept = ap (λ (y : Desk). y.kept) e ∙ later.kept ∙ kept;
    }

made-from : (d : Desk) (at : ℕ) → ready d.node ≡ Some at
    → made_again d ≡ in_row (with_told (record d { node = again_at d.node at }) (says_at d.node at))
    (row_of (next_clock d.node 0) (tag_of (ask_in d.node.waiting at)) (next_access (ask_in d.node.waiting at)))
made-from d at is = ap (λ p. with_again (record d { node = option_map_or (again_at d.node) p d.node }) (option_map (says_at d.node) p)) is

made-zero : (d : Desk) → all_made 0 d ≡ d
unfolding all_made
made-zero d = refl

made-stops : (n : ℕ) (d : Desk) → is_some (said_again d.node) ≡ false → all_made (suc n) d ≡ d
unfolding all_made
made-stops n d e = ap (λ b. cond b (all_made n (made_again d)) d) e

made-goes_on : (n : ℕ) (d : Desk) → is_some (said_again d.node) ≡ true → all_made (suc n) d ≡ all_made n (made_again d)
unfolding all_made
made-goes_on n d e = ap (λ b. cond b (all_made n (made_again d)) d) e

makes : (n me : ℕ) (text : List ℕ) (steps : List Entry) (d : Desk) (p : Option ℕ) → ready d.node ≡ p → Holds me text steps d → Makes n me text steps d
makes zero me text steps d p is h = makes-none zero me text steps d (made-zero d) h
makes (suc n) me text steps d None is h =
    makes-none (suc n) me text steps d (made-stops n d (ap (λ q. is_some (option_map (says_at d.node) q)) is)) h
makes (suc n) me text steps d (Some at) is h =
    let next = row_of (next_clock d.node 0) (tag_of (ask_in d.node.waiting at)) (next_access (ask_in d.node.waiting at)) in
    let x = with_told (record d { node = again_at d.node at }) (says_at d.node at) in
    let y = in_row x next in
    let same = grown_by-kept x next (option_and_then (λ r. joined r next) d.row) in
    makes-more n me text steps d y at is
    (made-goes_on n d (ap (λ q. is_some (option_map (says_at d.node) q)) is) ∙ ap (all_made n) (made-from d at is)) same.1 same.0
    (makes n me text (steps ++ entry_of (says_at d.node at) ∷ []) y (ready y.node) refl (again-holds me text steps d at h is))

-- the node, whatever was recorded
in-row-node : (d : Desk) (said : Said) (row : Option Row) → (made_in_row d said row).node ≡ d.node
in-row-node d said None = refl
in-row-node d said (Some next) = (grown_by-kept (with_told d said) next (option_and_then (λ r. joined r next) d.row)).1

with-again-node : (d : Desk) (said : Option Said) → (with_again d said).node ≡ d.node
with-again-node d None = refl
with-again-node d (Some said) = in-row-node d said (row_in said.clock said.cause)

pub made_again-node : (d : Desk) → (made_again d).node ≡ after_again d.node
made_again-node d = with-again-node (record d { node = after_again d.node }) (said_again d.node)

-- ---- from a desk without a row

pub record RowsMade (n : ℕ) (d : Desk) : Type 0 where
  pub count : ℕ
  pub entries : List Entry
  pub node : (all_made n d).node ≡ after_events d.node (replicate count Again)
  pub recorded : (closed (all_made n d)).recorded ≡ d.recorded ++ entries_text entries
  pub steps : all_steps entries ≡ entries_of d.node (replicate count Again)
  pub lines : All IsEntry (entries_of d.node (replicate count Again)) → All IsEntry entries
  pub rows : All (IsOfRow d.node.me) entries
  pub kept : (all_made n d).kept ≡ d.kept

pub rows_made : (n : ℕ) (d : Desk) → d.row ≡ None → RowsMade n d
rows_made n d none =
    let me = d.node.me in
    let begun : Holds me d.recorded [] d = record {
      own = refl;
      entries = [];
      recorded = sym (append-nil d.recorded);
      are = ap (steps_in_row me) none;
      lines = λ all. all;
      rows = All-nil (IsOfRow me);
      row = subst IsOpen (sym none) tt;
    } in
    let made = makes n me d.recorded [] d (ready d.node) refl begun in
    let last = all_made n d in
    let h = made.holds in
    record {
      count = made.count;
      entries = h.entries ++ row_entries me last.row;
      node = made.node;
      recorded = text-closed last me d.recorded h.entries last.row h.own h.recorded;
      steps = entries-closed me last.row h.entries ∙ h.are;
      lines = λ all.
          All-append IsEntry h.entries (row_entries me last.row) (h.lines all)
          (lines-closed me last.row h.row (All-back IsEntry (all_steps h.entries) (steps_in_row me last.row) (subst (All IsEntry) (sym h.are) all)));
      rows = All-append (IsOfRow me) h.entries (row_entries me last.row) h.rows (rows-of me last.row);
      kept = made.kept;
    }
