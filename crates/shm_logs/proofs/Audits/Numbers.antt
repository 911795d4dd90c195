-- The rows of a table of numbers, from one step of an order to the next.
use Rattle.std.proofs.Common.{◌≡◌, ◌≢◌, ◌∙◌, ℕ, zero, suc, ◌+◌, ◌-◌, ◌<◌, ◌≤◌, ◌==◌, Bool, true, false, List, [], ◌∷◌, ◌++◌, length, get_or, ap, refl, sym, arith, slice_get, slice_set, unwrap_or, replicate}
use Rattle.std.specs.Prelude.{if◌then◌else◌, sum_by}
use Rattle.std.proofs.lemmas.Bool.Decides.{nat_tests}
use Rattle.std.proofs.lemmas.List.{append-nil, get_or-map, get_or-set_other, get_or-set_same, length-map, map-set}
use Rattle.std.proofs.lemmas.List.Concat.{length-flat_map}
use Rattle.std.proofs.lemmas.List.Sums.{sum_by-cons}
use Rattle.shm_model.specs.Log.{Logged, sent_by}
use Rattle.shm_model.specs.Merge.{IsMerged, SiteStep, sent_before}
use Rattle.shm_laws.proofs.Log.Count.{as-many-sent}
use Rattle.std.specs.declared.vec.Vec.{Vec}
use Rattle.shm_logs.specs.Auditing.Numbering.{sent_in}
use Rattle.shm_logs.specs.Auditing.Rows.{rows_of}

-- of the site's steps in the order, how many envelopes are sent before each, counted from this number
abbrev pub numbers : ℕ → ℕ → List SiteStep → List ℕ
numbers n s [] = []
numbers n s (p ∷ ps) =
    if p.site == s then n ∷ numbers (n + length p.logged.sent) s ps else numbers (n + length p.logged.sent) s ps

sent-first : (p : SiteStep) (ps : List SiteStep) → sent_in (p ∷ ps) ≡ length p.logged.sent + sent_in ps
sent-first p ps = sum_by-cons (λ (q : SiteStep). length q.logged.sent) p ps

after-first : (same : Bool) (n k : ℕ) (row : List ℕ) (total i : ℕ) (before : ℕ → ℕ) → ((j : ℕ) → unwrap_or (slice_get row j) total ≡ n + k + before j)
    → unwrap_or (slice_get (if same then n ∷ row else row) i) total ≡ n + (if same then (if i == 0 then 0 else k + before (i - 1)) else k + before i)
after-first true n k row total zero before h = omega arith
after-first true n k row total (suc i) before h =
    let si : suc i - 1 ≡ i = omega arith in
    let sb : (suc i == 0) ≡ false = grind (arith, nat_tests) in
    let sum : n + k + before i ≡ n + (k + before i) = omega arith in
    h i ∙ sum ∙ ap (λ j. n + (k + before j)) (sym si) ∙ ap (λ b. n + (if b then 0 else k + before (suc i - 1))) (sym sb)
after-first false n k row total i before h = let sum : n + k + before i ≡ n + (k + before i) = omega arith in h i ∙ sum

pub number-at : (n s i : ℕ) (ps : List SiteStep) → unwrap_or (slice_get (numbers n s ps) i) (n + sent_in ps) ≡ n + sent_before ps s i
number-at n s i [] = refl
number-at n s i (p ∷ ps) =
    let k = length p.logged.sent in
    let total : n + k + sent_in ps ≡ n + sent_in (p ∷ ps) = omega (arith, sent-first p ps) in
    after-first (p.site == s) n k (numbers (n + k) s ps) (n + sent_in (p ∷ ps)) i (sent_before ps s)
    (λ j. ap (unwrap_or (slice_get (numbers (n + k) s ps) j)) (sym total) ∙ number-at (n + k) s j ps)

pushed-after : (same : Bool) (n : ℕ) (row row' extra : List ℕ) → row' ≡ row ++ extra → (if same then n ∷ row' else row') ≡ (if same then n ∷ row else row) ++ extra
pushed-after true n row row' extra h = ap (λ r. n ∷ r) h
pushed-after false n row row' extra h = h

abbrev own-number : Bool → ℕ → List ℕ
own-number same n = if same then n ∷ [] else []

numbers-push : (n s : ℕ) (ps : List SiteStep) (p : SiteStep) → numbers n s (ps ++ p ∷ []) ≡ numbers n s ps ++ own-number (p.site == s) (n + sent_in ps)
numbers-push n s [] p = let none : n ≡ n + 0 = omega arith in ap (own-number (p.site == s)) none
numbers-push n s (x ∷ ps) p =
    let k = length x.logged.sent in
    let total : n + k + sent_in ps ≡ n + sent_in (x ∷ ps) = omega (arith, sent-first x ps) in
    pushed-after (x.site == s) n (numbers (n + k) s ps) (numbers (n + k) s (ps ++ p ∷ [])) (own-number (p.site == s) (n + sent_in (x ∷ ps)))
    (numbers-push (n + k) s ps p ∙ ap (λ m. numbers (n + k) s ps ++ own-number (p.site == s) m) total)

-- each site has its row
abbrev pub HasRows : List (List ℕ) → List SiteStep → Type 0
HasRows rows ps = (s : ℕ) → get_or rows s [] ≡ numbers 0 s ps

row-with : (rows : List (List ℕ)) (ps : List SiteStep) (p : SiteStep) (s : ℕ) (same : Bool) → (p.site == s) ≡ same → p.site < length rows → HasRows rows ps
    → get_or (slice_set rows p.site (get_or rows p.site [] ++ sent_in ps ∷ [])) s [] ≡ numbers 0 s (ps ++ p ∷ [])
row-with rows ps p s true test within has =
    let e : p.site ≡ s = grind (arith, nat_tests) in
    let none : sent_in ps ≡ 0 + sent_in ps = omega arith in
    let new = get_or rows p.site [] ++ sent_in ps ∷ [] in
    ap (λ t. get_or (slice_set rows p.site new) t []) (sym e)
    ∙ get_or-set_same rows p.site new [] within
    ∙ ap (λ t. get_or rows t [] ++ sent_in ps ∷ []) e
    ∙ ap (λ r. r ++ sent_in ps ∷ []) (has s)
    ∙ ap (λ m. numbers 0 s ps ++ own-number true m) none
    ∙ ap (λ b. numbers 0 s ps ++ own-number b (0 + sent_in ps)) (sym test)
    ∙ sym (numbers-push 0 s ps p)
row-with rows ps p s false test within has =
    let other : s ≢ p.site = λ e. grind (arith, nat_tests) in
    get_or-set_other rows p.site s (get_or rows p.site [] ++ sent_in ps ∷ []) [] other
    ∙ has s
    ∙ sym (append-nil (numbers 0 s ps))
    ∙ ap (λ b. numbers 0 s ps ++ own-number b (0 + sent_in ps)) (sym test)
    ∙ sym (numbers-push 0 s ps p)

pub rows-with : (rows : List (List ℕ)) (ps : List SiteStep) (p : SiteStep) → p.site < length rows → HasRows rows ps
    → HasRows (slice_set rows p.site (get_or rows p.site [] ++ sent_in ps ∷ [])) (ps ++ p ∷ [])
rows-with rows ps p within has s = row-with rows ps p s (p.site == s) refl within has

-- the same where the rows are those of a table, and one of them has one number more
pub rows-pushed : {A : Type 0} (before : List (Vec ℕ A)) (row new : Vec ℕ A) (ps : List SiteStep) (p : SiteStep) (s n : ℕ) → s ≡ p.site → s < length before
    → row ≡ get_or before s row → new.items ≡ row.items ++ n ∷ [] → n ≡ sent_in ps → HasRows (rows_of before) ps
    → HasRows (rows_of (slice_set before s new)) (ps ++ p ∷ [])
rows-pushed {A} before row new ps p s n at below read pushed total has t =
    let rows = rows_of before in
    let old : row.items ≡ get_or rows s [] = ap (λ (v : Vec ℕ A). v.items) read ∙ sym (get_or-map (λ v. v.items) before s row [] below) in
    let items : new.items ≡ get_or rows s [] ++ sent_in ps ∷ [] = pushed ∙ ap (λ r. r ++ n ∷ []) old ∙ ap (λ m. get_or rows s [] ++ m ∷ []) total in
    let set : rows_of (slice_set before s new) ≡ slice_set rows s new.items = map-set (λ v. v.items) before s new in
    ap (λ rs. get_or rs t []) set
    ∙ ap (λ r. get_or (slice_set rows s r) t []) items
    ∙ ap (λ u. get_or (slice_set rows u (get_or rows u [] ++ sent_in ps ∷ [])) t []) at
    ∙ rows-with rows ps p (omega (arith, length-map before (λ (v : Vec ℕ A). v.items))) has t

-- rows of all steps have all numbers
pub has-numbers : (rows : List (List ℕ)) (total : ℕ) (ps all : List SiteStep) → ps ≡ all → HasRows rows ps → total ≡ sent_in ps
    → (s i : ℕ) → unwrap_or (slice_get (get_or rows s []) i) total ≡ sent_before all s i
has-numbers rows total ps all same has sum s i =
    let start : 0 + sent_before ps s i ≡ sent_before ps s i = omega arith in
    let sum' : total ≡ 0 + sent_in ps = omega arith in
    ap (λ row. unwrap_or (slice_get row i) total) (has s)
    ∙ ap (unwrap_or (slice_get (numbers 0 s ps) i)) sum'
    ∙ number-at 0 s i ps
    ∙ start
    ∙ ap (λ qs. sent_before qs s i) same

pub no-rows : (n s : ℕ) → get_or (replicate n []) s [] ≡ numbers 0 s []
no-rows zero s = refl
no-rows (suc n) zero = refl
no-rows (suc n) (suc s) = no-rows n s

no-more : (first : Bool) (k : ℕ) → (if first then 0 else k) ≤ k
no-more true k = omega arith
no-more false k = omega arith

before-within : (same : Bool) (k total i : ℕ) (before : ℕ → ℕ) → ((j : ℕ) → before j ≤ total)
    → (if same then (if i == 0 then 0 else k + before (i - 1)) else k + before i) ≤ k + total
before-within true k total i before h = omega (arith, no-more (i == 0) (k + before (i - 1)), h (i - 1))
before-within false k total i before h = omega (arith, h i)

pub sent_before-within : (ps : List SiteStep) (s i : ℕ) → sent_before ps s i ≤ sent_in ps
sent_before-within [] s i = omega arith
sent_before-within (p ∷ ps) s i =
    omega (arith, before-within (p.site == s) (length p.logged.sent) (sent_in ps) i (sent_before ps s) (λ j. sent_before-within ps s j), sent-first p ps)

-- merged logs send what the logs send
pub merged-sends : (logs : List (List Logged)) (order : List SiteStep) → IsMerged logs order → sent_in order ≡ sum_by sent_by logs
merged-sends logs order merged = sym (length-flat_map (λ (p : SiteStep). p.logged.sent) order) ∙ as-many-sent order logs merged.parts
