-- What is left of the steps of a recorded line once the next of them was taken.
use Rattle.std.proofs.Common.{◌≡◌, ℕ, zero, suc, ◌+◌, ◌-◌, ◌<◌, ◌≤◌, List, [], ◌∷◌, ◌++◌, drop, get_or, length, map, refl, ap, sym, subst, ◌∙◌, arith}
use Rattle.std.specs.List.{All}
use Rattle.std.specs.Prelude.{◌^◌, true}
use Rattle.std.proofs.lemmas.Bool.Decides.{nat_tests}
use Rattle.std.proofs.lemmas.List.{drop_all, drop_more, drop-map, get_or-map, get_or_read, length-map}
use Rattle.std.proofs.lemmas.List.Elements.{All-get_or}
use Rattle.shm_place.specs.Limits.{page_bytes}
use Rattle.shm_model.specs.declared.asked_access.Asked.TheVariants.{Load, Store}
use Rattle.shm_wire.specs.Asks.{is_block}
use Rattle.shm_wire.specs.Line as stream
use Rattle.shm_wire.specs.UnmapOf.{run_in}
use Rattle.shm_wire.specs.Unmaps.{IsRun, Run, UnmapAsk}
use Rattle.shm_wire.specs.declared.unmap_ask.Run.{Run as CodeRun}
use Rattle.shm_process.specs.Access.{access_ask}
use Rattle.shm_process.specs.Cause.{Cause, OfLine}
use Rattle.shm_process.specs.Causes.{bare, brought_run, brought_runs, loads, store_line, stores, unmap_causes}
use Rattle.shm_process.specs.RunsLeft.{first_size, runs_left, unmap_rest}

-- ---- loads

pub loads_first : (site : ℕ) (tag : List ℕ) (at offset count : ℕ) → 0 < count
    → loads site tag at offset count ≡ OfLine (stream.Ask (access_ask site tag (Load at offset))) ∷ loads site tag at (offset + 1) (count - 1)
unfolding loads
loads_first site tag at offset zero some = absurd (omega arith)
loads_first site tag at offset (suc n) some =
    let less : n ≡ suc n - 1 = omega arith in
    ap (λ m. OfLine (stream.Ask (access_ask site tag (Load at offset))) ∷ loads site tag at (offset + 1) m) less

pub loads_last : (site : ℕ) (tag : List ℕ) (at offset count : ℕ) → count ≡ 1
    → loads site tag at offset count ≡ OfLine (stream.Ask (access_ask site tag (Load at offset))) ∷ []
unfolding loads
loads_last site tag at offset count one = ap (loads site tag at offset) one

-- ---- stores

pub stores_first : (site : ℕ) (tag : List ℕ) (at offset made : ℕ) (bytes : List ℕ) → made < length bytes
    → stores site tag at (offset + made) (drop made bytes)
    ≡ OfLine (stream.Ask (access_ask site tag (Store at (offset + made) (get_or bytes made 0)))) ∷ stores site tag at (offset + (made + 1)) (drop (made + 1) bytes)
unfolding stores
stores_first site tag at offset made bytes more =
    let next : offset + made + 1 ≡ offset + (made + 1) = omega arith in
    ap (stores site tag at (offset + made)) (drop_more bytes made 0 more)
    ∙ ap (λ n. OfLine (stream.Ask (access_ask site tag (Store at (offset + made) (get_or bytes made 0)))) ∷ stores site tag at n (drop (made + 1) bytes)) next

pub stores_none : (site : ℕ) (tag : List ℕ) (at offset made : ℕ) (bytes : List ℕ) → length bytes ≤ made → stores site tag at offset (drop made bytes) ≡ []
unfolding stores
stores_none site tag at offset made bytes all = ap (stores site tag at offset) (drop_all made bytes all)

-- ---- bytes that an unmap brings

-- runs of the code, from one on
pub runs_from : {A : Type 0} (runs : List (CodeRun A)) (at : ℕ) (run : CodeRun A) → at < length runs → run ≡ get_or runs at run
    → drop at (map run_in runs) ≡ run_in run ∷ drop (at + 1) (map run_in runs)
runs_from runs at run within is =
    drop-map run_in at runs
    ∙ ap (map run_in) (drop_more runs at run within ∙ ap (λ r. r ∷ drop (at + 1) runs) (sym is))
    ∙ ap (λ rs. run_in run ∷ rs) (sym (drop-map run_in (at + 1) runs))

-- where a byte is left, there is a run
pub run_within : {A : Type 0} (runs : List (CodeRun A)) (at made : ℕ) → made < first_size (drop at (map run_in runs)) → at < length runs
run_within [] zero made more = absurd (omega (arith, more))
run_within [] (suc at) made more = absurd (omega (arith, more))
run_within (run ∷ runs) zero made more = omega arith
run_within (run ∷ runs) (suc at) made more = let within = run_within runs at made more in omega (arith, within)

-- which has the byte
pub byte_within : {A : Type 0} (runs : List (CodeRun A)) (at made : ℕ) (run : CodeRun A) → at < length runs → run ≡ get_or runs at run
    → made < first_size (drop at (map run_in runs)) → made < length run.bytes.items
byte_within runs at made run within is more = subst (λ rs. made < first_size rs) (runs_from runs at run within is) more

-- and a further byte of it is left too
pub more_in_run : {A : Type 0} (runs : List (CodeRun A)) (at made : ℕ) (run : CodeRun A) → at < length runs → run ≡ get_or runs at run
    → made < length run.bytes.items → made < first_size (drop at (map run_in runs))
more_in_run runs at made run within is more = subst (λ rs. made < first_size rs) (sym (runs_from runs at run within is)) more

block-ends : (offset count : ℕ) → is_block offset count ≡ true → (0 < count) × (count ≤ page_bytes) × (offset + count ≤ 2 ^ 32)
block-ends offset count is = (grind (arith, nat_tests), grind (arith, nat_tests), grind (arith, nat_tests))

-- no run is empty, and each ends below 2 to the 32
pub run_ends : {A : Type 0} (runs : List (CodeRun A)) (at : ℕ) (run : CodeRun A) → All IsRun (map run_in runs) → at < length runs → run ≡ get_or runs at run
    → (0 < length run.bytes.items) × (length run.bytes.items ≤ page_bytes) × (run.offset + length run.bytes.items ≤ 2 ^ 32)
run_ends runs at run all within is =
    let here : at < length (map run_in runs) = omega (arith, length-map runs run_in) in
    let same : get_or (map run_in runs) at (run_in run) ≡ run_in run = get_or-map run_in runs at run (run_in run) within ∙ ap run_in (sym is) in
    let proper : IsRun (run_in run) = subst IsRun same (All-get_or IsRun (map run_in runs) at (run_in run) here all) in
    block-ends run.offset (length run.bytes.items) proper.1

run-first : (ask : UnmapAsk) (offset made : ℕ) (bytes : List ℕ) → made < length bytes
    → brought_run ask (offset + made) (drop made bytes)
    ≡ OfLine (store_line ask (offset + made) (get_or bytes made 0)) ∷ brought_run ask (offset + (made + 1)) (drop (made + 1) bytes)
unfolding brought_run
run-first ask offset made bytes more =
    let next : offset + made + 1 ≡ offset + (made + 1) = omega arith in
    ap (brought_run ask (offset + made)) (drop_more bytes made 0 more)
    ∙ ap (λ n. OfLine (store_line ask (offset + made) (get_or bytes made 0)) ∷ brought_run ask n (drop (made + 1) bytes)) next

run-over : (ask : UnmapAsk) (offset made : ℕ) (bytes : List ℕ) → length bytes ≤ made → brought_run ask offset (drop made bytes) ≡ []
unfolding brought_run
run-over ask offset made bytes all = ap (brought_run ask offset) (drop_all made bytes all)

none-made : (ask : UnmapAsk) (runs : List Run) → runs_left ask 0 runs ≡ brought_runs ask runs
unfolding brought_runs
none-made ask [] = refl
none-made ask (run ∷ runs) = let none : run.offset + 0 ≡ run.offset = omega arith in ap (λ n. brought_run ask n run.bytes ++ brought_runs ask runs) none

-- the next byte, and those behind it
rest-first : (ask : UnmapAsk) (made : ℕ) (run : Run) (runs : List Run) → made < length run.bytes
    → unmap_rest ask made (run ∷ runs) ≡ OfLine (store_line ask (run.offset + made) (get_or run.bytes made 0)) ∷ unmap_rest ask (made + 1) (run ∷ runs)
rest-first ask made run runs more =
    ap (λ (cs : List Cause). (cs ++ brought_runs ask runs) ++ OfLine (stream.Unmap (bare ask)) ∷ []) (run-first ask run.offset made run.bytes more)

-- behind the last byte of a run
rest-over : (ask : UnmapAsk) (made : ℕ) (run : Run) (runs : List Run) → length run.bytes ≤ made → unmap_rest ask made (run ∷ runs) ≡ unmap_rest ask 0 runs
rest-over ask made run runs over =
    ap (λ (cs : List Cause). (cs ++ brought_runs ask runs) ++ OfLine (stream.Unmap (bare ask)) ∷ []) (run-over ask (run.offset + made) made run.bytes over)
    ∙ ap (λ (cs : List Cause). cs ++ OfLine (stream.Unmap (bare ask)) ∷ []) (sym (none-made ask runs))

first-dropped : {A : Type 0} (xs ys : List A) (x : A) → xs ≡ x ∷ ys → drop 1 xs ≡ ys
first-dropped xs ys x e = ap (drop 1) e

pub next_is : {A : Type 0} (ask : UnmapAsk) (runs : List (CodeRun A)) (at made : ℕ) (run : CodeRun A) (byte : ℕ) → at < length runs → run ≡ get_or runs at run
    → made < length run.bytes.items → byte ≡ get_or run.bytes.items made byte → unmap_rest ask made (drop at (map run_in runs))
    ≡ OfLine (store_line ask (run.offset + made) byte) ∷ drop 1 (unmap_rest ask made (drop at (map run_in runs)))
next_is ask runs at made run byte within is more has =
    let bytes = run.bytes.items in
    let left = unmap_rest ask made (drop at (map run_in runs)) in
    let next = rest-first ask made (run_in run) (drop (at + 1) (map run_in runs)) more in
    let e = ap (unmap_rest ask made) (runs_from runs at run within is) ∙ next in
    e ∙ ap (λ (cs : List Cause). OfLine (store_line ask (run.offset + made) (get_or bytes made 0)) ∷ cs) (sym (first-dropped left _ _ e))
    ∙ ap (λ (b : ℕ). OfLine (store_line ask (run.offset + made) b) ∷ drop 1 left) (sym (get_or_read bytes made byte more has 0))

-- what is left behind it: within its run, at the next run, and at the end
pub left_in_run : {A : Type 0} (ask : UnmapAsk) (runs : List (CodeRun A)) (at made : ℕ) (run : CodeRun A) → at < length runs → run ≡ get_or runs at run
    → made < length run.bytes.items → unmap_rest ask (made + 1) (drop at (map run_in runs)) ≡ drop 1 (unmap_rest ask made (drop at (map run_in runs)))
left_in_run ask runs at made run within is more =
    let here = runs_from runs at run within is in
    ap (unmap_rest ask (made + 1)) here
    ∙ sym (first-dropped (unmap_rest ask made (drop at (map run_in runs))) _ _
    (ap (unmap_rest ask made) here ∙ rest-first ask made (run_in run) (drop (at + 1) (map run_in runs)) more))

pub left_behind_run : {A : Type 0} (ask : UnmapAsk) (runs : List (CodeRun A)) (at made : ℕ) (run : CodeRun A) → at < length runs → run ≡ get_or runs at run
    → made < length run.bytes.items → length run.bytes.items ≤ made + 1
    → unmap_rest ask 0 (drop (at + 1) (map run_in runs)) ≡ drop 1 (unmap_rest ask made (drop at (map run_in runs)))
left_behind_run ask runs at made run within is more over =
    sym (rest-over ask (made + 1) (run_in run) (drop (at + 1) (map run_in runs)) over)
    ∙ ap (unmap_rest ask (made + 1)) (sym (runs_from runs at run within is))
    ∙ left_in_run ask runs at made run within is more

pub no_items : {A : Type 0} (runs : List (CodeRun A)) → runs ≡ [] → map run_in runs ≡ []
no_items runs none = ap (map run_in) none

pub left_at_end : {A : Type 0} (ask : UnmapAsk) (last : List Run) (runs : List (CodeRun A)) (at made : ℕ) (run : CodeRun A) → last ≡ []
    → at < length runs → run ≡ get_or runs at run → made < length run.bytes.items → length run.bytes.items ≤ made + 1 → length runs ≤ at + 1
    → OfLine (stream.Unmap (record ask { runs = last })) ∷ [] ≡ drop 1 (unmap_rest ask made (drop at (map run_in runs)))
left_at_end ask last runs at made run none within is more over end =
    let past : length (map run_in runs) ≤ at + 1 = omega (arith, length-map runs run_in) in
    ap (λ (rs : List Run). OfLine (stream.Unmap (record ask { runs = rs })) ∷ []) none
    ∙ sym (ap (unmap_rest ask 0) (drop_all (at + 1) (map run_in runs) past))
    ∙ left_behind_run ask runs at made run within is more over

-- a run that comes has a byte
pub some_left : (runs : List Run) (at : ℕ) → All IsRun runs → at < length runs → 0 < first_size (drop at runs)
some_left runs at all within =
    let none : Run = record { offset = 0; bytes = [] } in
    let here : IsRun (get_or runs at none) = all at none within in
    subst (λ (rs : List Run). 0 < first_size rs) (sym (drop_more runs at none within)) (block-ends (get_or runs at none).offset (length (get_or runs at none).bytes) here.1).0

-- ---- the steps of an unmap

pub of_runs : (ask : UnmapAsk) → unmap_rest ask 0 ask.runs ≡ unmap_causes ask
of_runs ask = ap (λ (cs : List Cause). cs ++ OfLine (stream.Unmap (bare ask)) ∷ []) (none-made ask ask.runs)

pub of_none : (ask : UnmapAsk) → ask.runs ≡ [] → OfLine (stream.Unmap ask) ∷ [] ≡ unmap_causes ask
unfolding brought_runs
of_none ask none =
    ap (λ runs. OfLine (stream.Unmap (record ask { runs = runs })) ∷ []) none
    ∙ ap (λ runs. brought_runs ask runs ++ OfLine (stream.Unmap (bare ask)) ∷ []) (sym none)
