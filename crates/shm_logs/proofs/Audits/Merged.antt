-- The steps taken so far are merged, from one step to the next.
use Rattle.std.proofs.Common.{◌≡◌, ◌≢◌, ◌∙◌, ℕ, zero, suc, ◌+◌, ◌-◌, ◌<◌, ◌≤◌, ◌==◌, Bool, true, false, List, [], ◌∷◌, ◌++◌, Some, None, length, take, ap, refl, sym, subst, arith, inl, inr, slice_get, slice_set, ◌⊎◌}
use Rattle.std.specs.Prelude.{slice_index}
use Rattle.std.specs.List.{All, AllPairs}
use Rattle.std.proofs.lemmas.Bool.{cases_lt}
use Rattle.std.proofs.lemmas.Bool.Decides.{nat_tests}
use Rattle.std.proofs.lemmas.List.{get_or-set_other, get_or-set_same, get_or_past, map_push, take_all, take_more}
use Rattle.std.proofs.lemmas.List.Elements.{All-push, All-weaker}
use Rattle.std.proofs.lemmas.List.Quantifiers.{all_pairs_push}
use Rattle.std.proofs.lemmas.Option.{get_or_from_slice_get, none-some, slice_get_past, slice_get_within}
use Rattle.shm_model.specs.Log.{Logged, log_of}
use Rattle.shm_model.specs.Merge.{IsBefore, IsMerged, SiteStep, part}
use Rattle.shm_laws.proofs.Log.Lists.{part-other, part-seam}
use Rattle.shm_laws.proofs.Log.Run.{has-log}
use Rattle.shm_logs.specs.declared.log_audit.merge_logs.Head.{Head}
use Rattle.shm_logs.specs.Auditing.Heads.{IsLeast, IsLeastIf, next}
use Rattle.shm_logs.specs.Auditing.Logs.{LogsRise}
use Rattle.shm_logs.specs.Auditing.Order.{order_of, no_step, step_named, AllName, Names}
use Rattle.shm_logs.specs.declared.log_audit.step_id.StepName.{StepName}

-- so many steps of each log stand in this order, which comes before every step that is left
pub record IsMergedUpTo (logs : List (List Logged)) (heads : List ℕ) (order : List SiteStep) : Type 0 where
  pub parts : (s : ℕ) → part s order ≡ take (slice_index heads s) (log_of logs s)
  pub rises : AllPairs IsBefore order
  pub before : (s : ℕ) (l : Logged) → next logs heads s ≡ Some l → All (λ p. IsBefore p (record { site = s; logged = l })) order

abbrev step_of : ℕ → Logged → SiteStep
step_of s l = record { site = s; logged = l }

parts-more : (logs : List (List Logged)) (heads : List ℕ) (order : List SiteStep) (s : ℕ) (l : Logged) (t : ℕ) (same : Bool) → (s == t) ≡ same
    → s < length heads → next logs heads s ≡ Some l → ((u : ℕ) → part u order ≡ take (slice_index heads u) (log_of logs u))
    → part t (order ++ step_of s l ∷ []) ≡ take (slice_index (slice_set heads s (slice_index heads s + 1)) t) (log_of logs t)
parts-more logs heads order s l t true test within here parts =
    let e : s ≡ t = grind (arith, nat_tests) in
    let i = slice_index heads s in
    let log = log_of logs s in
    let own : part s (order ++ step_of s l ∷ []) ≡ take (i + 1) log =
    part-seam order (step_of s l) []
    ∙ ap (λ ls. ls ++ l ∷ []) (parts s)
    ∙ ap (λ m. take i log ++ m ∷ []) (sym (get_or_from_slice_get log i l l here))
    ∙ sym (take_more log i l (slice_get_within log i l here)) in
    subst (λ u. part u (order ++ step_of s l ∷ []) ≡ take (slice_index (slice_set heads s (i + 1)) u) (log_of logs u)) e
    (own ∙ ap (λ n. take n log) (sym (get_or-set_same heads s (i + 1) 0 within)))
parts-more logs heads order s l t false test within here parts =
    let other : t ≢ s = λ e. grind (arith, nat_tests) in
    part-other t order (step_of s l) test ∙ parts t
    ∙ ap (λ n. take n (log_of logs t)) (sym (get_or-set_other heads s t (slice_index heads s + 1) 0 other))

lower-still : (p : SiteStep) (s : ℕ) (l m : Logged) → l.stamp < m.stamp → IsBefore p (step_of s l) → IsBefore p (step_of s m)
lower-still p s l m h b = inl (omega arith)

-- the next step of the same log has a higher stamp
log-rises : (logs : List (List Logged)) (s i : ℕ) (l m : Logged) → LogsRise logs → slice_get (log_of logs s) i ≡ Some l → slice_get (log_of logs s) (i + 1) ≡ Some m
    → l.stamp < m.stamp
log-rises logs s i l m rise at at' =
    let log = log_of logs s in
    let within : i + 1 < length log = slice_get_within log (i + 1) m at' in
    let lower = rise s i (i + 1) l (omega arith) within in
    omega (arith, lower, ap (λ (k : Logged). k.stamp) (get_or_from_slice_get log i l l at), ap (λ (k : Logged). k.stamp) (get_or_from_slice_get log (i + 1) m l at'))

before-other : (head : Head) (s t : ℕ) (l m : Logged) → head.site ≡ s → head.stamp ≡ l.stamp → t ≢ s
    → (head.stamp < m.stamp) ⊎ ((head.stamp ≡ m.stamp) × (head.site ≤ t)) → IsBefore (step_of s l) (step_of t m)
before-other head s t l m at stamp other (inl lower) = inl (omega arith)
before-other head s t l m at stamp other (inr same) = inr (omega arith, omega arith)

before-more : (logs : List (List Logged)) (heads : List ℕ) (count : ℕ) (order : List SiteStep) (head : Head) (s : ℕ) (l : Logged) (t : ℕ) (m : Logged) (same : Bool) → (s == t) ≡ same
    → s < length heads → length logs ≤ count → LogsRise logs → IsMergedUpTo logs heads order → IsLeast logs heads count head → head.site ≡ s → head.stamp ≡ l.stamp
    → next logs heads s ≡ Some l → next logs (slice_set heads s (slice_index heads s + 1)) t ≡ Some m
    → All (λ p. IsBefore p (step_of t m)) (order ++ step_of s l ∷ [])
before-more logs heads count order head s l t m true test within few rise upto least at stamp here there =
    let e : s ≡ t = grind (arith, nat_tests) in
    let i = slice_index heads s in
    let follows : slice_get (log_of logs s) (i + 1) ≡ Some m =
    ap (slice_get (log_of logs s)) (sym (get_or-set_same heads s (i + 1) 0 within))
    ∙ subst (λ u. slice_get (log_of logs u) (slice_index (slice_set heads s (i + 1)) u) ≡ Some m) (sym e) there in
    let higher = log-rises logs s i l m rise here follows in
    subst (λ u. All (λ p. IsBefore p (step_of u m)) (order ++ step_of s l ∷ [])) e
    (All-push (λ p. IsBefore p (step_of s m)) order (step_of s l)
    (All-weaker (λ p. IsBefore p (step_of s l)) (λ p. IsBefore p (step_of s m)) (λ p b. lower-still p s l m higher b) order (upto.before s l here))
    (inl higher))
before-more logs heads count order head s l t m false test within few rise upto least at stamp here there =
    let other : t ≢ s = λ e. grind (arith, nat_tests) in
    let there' : next logs heads t ≡ Some m =
    ap (slice_get (log_of logs t)) (sym (get_or-set_other heads s t (slice_index heads s + 1) 0 other)) ∙ there in
    let some : 0 < length (log_of logs t) = omega (arith, slice_get_within (log_of logs t) (slice_index heads t) m there') in
    All-push (λ p. IsBefore p (step_of t m)) order (step_of s l) (upto.before t m there')
    (before-other head s t l m at stamp other (least.least t m (omega (arith, has-log logs t some)) there'))

merged-more : (logs : List (List Logged)) (heads : List ℕ) (count : ℕ) (order : List SiteStep) (head : Head) (s : ℕ) (l : Logged)
    → s < length heads → length logs ≤ count → LogsRise logs → IsMergedUpTo logs heads order → IsLeast logs heads count head → head.site ≡ s → head.stamp ≡ l.stamp
    → next logs heads s ≡ Some l → IsMergedUpTo logs (slice_set heads s (slice_index heads s + 1)) (order ++ step_of s l ∷ [])
merged-more logs heads count order head s l within few rise upto least at stamp here = record {
  parts = λ t. parts-more logs heads order s l t (s == t) refl within here upto.parts;
  rises = all_pairs_push IsBefore order (step_of s l) upto.rises (upto.before s l here);
  before = λ t m there. before-more logs heads count order head s l t m (s == t) refl within few rise upto least at stamp here there;
}

-- with the name of one step more
pub merged-with : (logs : List (List Logged)) (heads : List ℕ) (count : ℕ) (names new : List StepName) (head : Head) (name : StepName)
    → count ≤ length heads → length logs ≤ count → LogsRise logs → IsMergedUpTo logs heads (order_of logs names) → IsLeast logs heads count head
    → name.site ≡ head.site → name.index ≡ head.index → new ≡ names ++ name ∷ []
    → IsMergedUpTo logs (slice_set heads head.site (head.index + 1)) (order_of logs new)
merged-with logs heads count names new head name within few rise upto least at-site at-index pushed =
    let s = head.site in
    let l = least.left.step in
    let order = order_of logs names in
    let more = merged-more logs heads count order head s l (omega (arith, least.below)) few rise upto least refl least.left.stamped least.left.there in
    let there : slice_get (log_of logs name.site) name.index ≡ Some l =
    ap (λ t. slice_get (log_of logs t) name.index) at-site ∙ ap (slice_get (log_of logs s)) (at-index ∙ least.left.at) ∙ least.left.there in
    let step : step_named logs name ≡ step_of s l =
    ap (step_of name.site) (get_or_from_slice_get (log_of logs name.site) name.index l no_step there) ∙ ap (λ t. step_of t l) at-site in
    let same : order_of logs new ≡ order ++ step_of s l ∷ [] =
    ap (order_of logs) pushed ∙ map_push (step_named logs) names name ∙ ap (λ p. order ++ p ∷ []) step in
    subst (λ ps. IsMergedUpTo logs (slice_set heads s (head.index + 1)) ps) (sym same)
    (subst (λ i. IsMergedUpTo logs (slice_set heads s (i + 1)) (order ++ step_of s l ∷ [])) (sym least.left.at) more)

pub named-with : (logs : List (List Logged)) (heads : List ℕ) (count : ℕ) (names new : List StepName) (head : Head) (name : StepName)
    → AllName logs names → IsLeast logs heads count head → name.site ≡ head.site → name.index ≡ head.index → new ≡ names ++ name ∷ [] → AllName logs new
named-with logs heads count names new head name all least at-site at-index pushed =
    let there : slice_get (log_of logs name.site) name.index ≡ Some least.left.step =
    ap (λ t. slice_get (log_of logs t) name.index) at-site ∙ ap (slice_get (log_of logs head.site)) (at-index ∙ least.left.at) ∙ least.left.there in
    subst (AllName logs) (sym pushed) (All-push (Names logs) names name all (slice_get_within (log_of logs name.site) name.index least.left.step there))

-- where none is left, all were taken
none-left : (xs : List Logged) (i : ℕ) → slice_get xs i ≡ None → length xs ≤ i
none-left [] i e = omega arith
none-left (x ∷ xs) zero e = cc
none-left (x ∷ xs) (suc i) e = let h = none-left xs i e in omega arith

all-of-site : (logs : List (List Logged)) (heads : List ℕ) (count s : ℕ) → length logs ≤ count → IsLeastIf logs heads count None → length (log_of logs s) ≤ slice_index heads s
all-of-site logs heads count s few none = elim (cases_lt s count) [
  | inl b ↦ none-left (log_of logs s) (slice_index heads s) (none s b)
  | inr past ↦ omega (arith, ap (length {A = Logged}) (get_or_past logs s [] (omega arith)))
]

pub all-merged : (logs : List (List Logged)) (heads : List ℕ) (count : ℕ) (order : List SiteStep) → length logs ≤ count → IsMergedUpTo logs heads order → IsLeastIf logs heads count None → IsMerged logs order
all-merged logs heads count order few upto none = record {
  parts = λ s. upto.parts s ∙ take_all (slice_index heads s) (log_of logs s) (all-of-site logs heads count s few none);
  rises = upto.rises;
}

-- how many steps are left
abbrev pub left : List (List Logged) → List ℕ → ℕ
left [] heads = 0
left (log ∷ logs) [] = length log + left logs []
left (log ∷ logs) (i ∷ heads) = (length log - i) + left logs heads

pub fewer-left : (logs : List (List Logged)) (heads : List ℕ) (s i : ℕ) (l : Logged) → s < length heads → i ≡ slice_index heads s → next logs heads s ≡ Some l
    → left logs (slice_set heads s (i + 1)) < left logs heads
fewer-left [] heads s i l within at here = absurd (none-some l (sym (slice_get_past [] (slice_index heads s) (omega arith)) ∙ here))
fewer-left (log ∷ logs) [] s i l within at here = absurd (omega arith)
fewer-left (log ∷ logs) (j ∷ heads) zero i l within at here = omega (arith, slice_get_within log j l here)
fewer-left (log ∷ logs) (j ∷ heads) (suc s) i l within at here = omega (arith, fewer-left logs heads s i l (omega arith) at here)
