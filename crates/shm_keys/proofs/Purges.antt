-- Which sites are missing of which segment, after one of the entries comes, changes or goes.
use Rattle.std.proofs.Common.{◌≡◌, ◌≢◌, ℕ, ◌+◌, ◌-◌, ◌<◌, ◌≤◌, Bool, true, false, not, ◌&&◌, ◌||◌, ◌==◌, List, ◌∷◌, ◌++◌, length, take, drop, set, get_or, sym, ◌∙◌, ap, refl, subst, suc, arith, ⊎_elim}
use Rattle.std.specs.List.{insert, remove}
use Rattle.std.specs.List.Sorted.{IsNonDecreasingBy}
use Rattle.std.proofs.lemmas.Bool.{and_left, false≢true, ne_eqb, cases_lt, cases_eq, cases_Bool, eq-eqb, eqb-true}
use Rattle.std.proofs.lemmas.List.{get_or_default, get_or_past, set_split, set-get_or, take-append-drop}
use Rattle.std.proofs.lemmas.List.Edits.{get_or-remove_below, get_or-remove_above, length-remove, length-insert, get_or-insert_below, get_or-insert_at, get_or-insert_above}
use Rattle.std.proofs.lemmas.List.Folds.{list_any-append, list_any_none, list_all_at}
use Rattle.shm_place.specs.SiteSet.{has, has_none}
use Rattle.shm_keys.specs.Purge.{awaits_site, missing_in, IsRising}
use Rattle.shm_keys.specs.declared.pending_purge.Purge.{Purge}

pub not_falling : (ps : List Purge) → IsRising ps → IsNonDecreasingBy (λ p. p.id) ps
not_falling ps up i j d le lt =
    ⊎_elim (λ below. omega (arith, up i j d below lt))
    (λ above. let e : i ≡ j = omega arith in subst (λ k. (get_or ps i d).id ≤ (get_or ps k d).id) e (omega arith))
    (cases_lt i j)

or_middle : (a b c : Bool) → (a || (b || c)) ≡ (b || (a || c))
or_middle a b c = grind arith

-- an entry between two parts of a list
pub missing_between : (front back : List Purge) (p : Purge) (id site : ℕ) → missing_in (front ++ (p ∷ back)) id site ≡ (awaits_site id site p || missing_in (front ++ back) id site)
missing_between front back p id site =
    rw (list_any-append (awaits_site id site) front (p ∷ back), list_any-append (awaits_site id site) front back)
    (or_middle (missing_in front id site) (awaits_site id site p) (missing_in back id site))

pub missing-insert : (ps : List Purge) (i : ℕ) (p : Purge) (id site : ℕ) → missing_in (insert ps i p) id site ≡ (awaits_site id site p || missing_in ps id site)
missing-insert ps i p id site =
    missing_between (take i ps) (drop i ps) p id site ∙ ap (λ qs. awaits_site id site p || missing_in qs id site) (take-append-drop i ps)

pub missing-set : (ps : List Purge) (i : ℕ) (p : Purge) (id site : ℕ) → i < length ps → missing_in (set ps i p) id site ≡ (awaits_site id site p || missing_in (remove ps i) id site)
missing-set ps i p id site lt =
    ap (λ qs. missing_in qs id site) (set_split ps i p lt) ∙ missing_between (take i ps) (drop (suc i) ps) p id site

pub missing_with : (ps : List Purge) (i : ℕ) (d : Purge) (id site : ℕ) → i < length ps → missing_in ps id site ≡ (awaits_site id site (get_or ps i d) || missing_in (remove ps i) id site)
missing_with ps i d id site lt =
    ap (λ qs. missing_in qs id site) (sym (set-get_or ps i d)) ∙ missing-set ps i (get_or ps i d) id site lt

-- no entry has the identifier
pub none_missing : (ps : List Purge) (id site : ℕ) → ((k : ℕ) (d : Purge) → k < length ps → (get_or ps k d).id ≢ id) → missing_in ps id site ≡ false
none_missing ps id site apart =
    list_any_none (awaits_site id site) ps (λ k d lt. and_left (id == (get_or ps k d).id) _ (ne_eqb id (get_or ps k d).id (λ e. apart k d lt (sym e))))

-- the identifiers of a rising list are apart
pub none_beside : (ps : List Purge) (i : ℕ) (e : Purge) (site : ℕ) → IsRising ps → i < length ps → missing_in (remove ps i) (get_or ps i e).id site ≡ false
none_beside ps i e site up lt =
    none_missing (remove ps i) (get_or ps i e).id site (λ k d within.
    let shorter = length-remove ps i lt in
    ⊎_elim (λ below. rw (get_or-remove_below ps i d k below lt) (let less = up k i d below lt in rw (get_or_default ps i e d lt) (omega (arith, less))))
    (λ above. rw (get_or-remove_above ps i d k above lt) (let more = up i (k + 1) d (omega arith) (omega arith) in rw (get_or_default ps i e d lt) (omega (arith, more))))
    (cases_lt k i))

pub none_in : (members : List Bool) (site : ℕ) → has_none members ≡ true → has members site ≡ false
none_in members site none =
    ⊎_elim (λ within. not_from members site none within) (λ past. get_or_past members site false past) (cases_lt site (length members))
  where
    not_from : (members : List Bool) (site : ℕ) → has_none members ≡ true → site < length members → has members site ≡ false
    not_from members site none within =
        ⊎_elim (λ yes. absurd (false≢true (sym (list_all_at not members site false within (ap not yes)) ∙ none))) (λ no. no) (cases_Bool (has members site))

-- an identifier that would stand at a place, and doesn't
pub not_missing : (ps : List Purge) (i id site : ℕ) → IsRising ps → i < length ps → ((k : ℕ) (d : Purge) → k < i → (get_or ps k d).id < id) → ((d : Purge) → id < (get_or ps i d).id) → missing_in ps id site ≡ false
not_missing ps i id site up lt below above =
    none_missing ps id site (λ k d within.
    ⊎_elim (λ (less : k < i). let h = below k d less in omega (arith, h))
    (λ (same_or_more : i ≤ k). ⊎_elim (λ e. let h = above d in rw e (omega (arith, h))) (λ apart. let h = above d in let more = up i k d (omega arith) within in omega (arith, h, more)) (cases_eq k i))
    (cases_lt k i))

and_not_here : (m same_id same_site : Bool) → (same_id ≡ true → same_site ≡ true → m ≡ false) → m ≡ (m && not (same_id && same_site))
and_not_here true true true h = absurd (false≢true (sym (h refl refl)))
and_not_here true true false h = refl
and_not_here true false b h = refl
and_not_here false a b h = refl

pub kept_apart : (ps : List Purge) (id site other at : ℕ) → missing_in ps id site ≡ false → missing_in ps other at ≡ (missing_in ps other at && not ((other == id) && (at == site)))
kept_apart ps id site other at none =
    and_not_here (missing_in ps other at) (other == id) (at == site)
    (λ e f. let same_id : other ≡ id = eqb-true other id e in let same_site : at ≡ site = eqb-true at site f in rw (same_id, same_site) none)

taken_same : (left nm r e s h : Bool) → r ≡ false → nm ≡ h → e ≡ true → left ≡ (h && not s) → (left || r) ≡ ((nm || r) && not (e && s))
taken_same left nm r e s h a b c f = grind arith

taken_other : (left nm r e s : Bool) → left ≡ false → nm ≡ false → e ≡ false → (left || r) ≡ ((nm || r) && not (e && s))
taken_other left nm r e s a b c = grind arith

-- the entry at the place, for one identifier or another
named_here : (purge : Purge) (id site : ℕ) → id ≡ purge.id → awaits_site id site purge ≡ has purge.missing site
named_here purge id site e = rw (eq-eqb id purge.id e) refl

named_other : (purge : Purge) (id site : ℕ) → (id ≡ purge.id → ⊥) → awaits_site id site purge ≡ false
named_other purge id site ne = and_left (id == purge.id) (has purge.missing site) (ne_eqb id purge.id ne)

-- one site is taken out of the entry at the place, which then goes
pub missing-taken_last : (ps : List Purge) (i : ℕ) (d : Purge) (id site : ℕ) (left : List Bool) → IsRising ps → i < length ps → (get_or ps i d).id ≡ id
    → ((at : ℕ) → has left at ≡ (has (get_or ps i d).missing at && not (at == site))) → has_none left ≡ true
    → (other at : ℕ) → missing_in (remove ps i) other at ≡ (missing_in ps other at && not ((other == id) && (at == site)))
missing-taken_last ps i d id site left up lt is_id less none other at =
    let p : Purge = get_or ps i d in
    rw (missing_with ps i d other at lt)
    (⊎_elim
    (λ (e : other ≡ id).
    taken_same false (awaits_site other at p) (missing_in (remove ps i) other at) (other == id) (at == site) (has p.missing at)
    (subst (λ n. missing_in (remove ps i) n at ≡ false) (is_id ∙ sym e) (none_beside ps i d at up lt))
    (named_here p other at (e ∙ sym is_id)) (eq-eqb other id e) (sym (none_in left at none) ∙ less at))
    (λ (ne : other ≡ id → ⊥).
    taken_other false (awaits_site other at p) (missing_in (remove ps i) other at) (other == id) (at == site) refl
    (named_other p other at (λ e. ne (e ∙ is_id))) (ne_eqb other id ne))
    (cases_eq other id))

-- the same, where sites are left
pub missing-taken : (ps : List Purge) (i : ℕ) (d : Purge) (id site : ℕ) (left : List Bool) → IsRising ps → i < length ps → (get_or ps i d).id ≡ id
    → ((at : ℕ) → has left at ≡ (has (get_or ps i d).missing at && not (at == site)))
    → (other at : ℕ) → missing_in (set ps i (record { id = id; missing = left })) other at ≡ (missing_in ps other at && not ((other == id) && (at == site)))
missing-taken ps i d id site left up lt is_id less other at =
    let p : Purge = get_or ps i d in
    let q : Purge = record { id = id; missing = left } in
    rw (missing-set ps i q other at lt, missing_with ps i d other at lt)
    (⊎_elim
    (λ (e : other ≡ id).
    taken_same (awaits_site other at q) (awaits_site other at p) (missing_in (remove ps i) other at) (other == id) (at == site) (has p.missing at)
    (subst (λ n. missing_in (remove ps i) n at ≡ false) (is_id ∙ sym e) (none_beside ps i d at up lt))
    (named_here p other at (e ∙ sym is_id)) (eq-eqb other id e) (named_here q other at e ∙ less at))
    (λ (ne : other ≡ id → ⊥).
    taken_other (awaits_site other at q) (awaits_site other at p) (missing_in (remove ps i) other at) (other == id) (at == site) (named_other q other at ne)
    (named_other p other at (λ e. ne (e ∙ is_id))) (ne_eqb other id ne))
    (cases_eq other id))

pub missing_here : (ps : List Purge) (i : ℕ) (d : Purge) (site : ℕ) → IsRising ps → i < length ps → missing_in ps (get_or ps i d).id site ≡ has (get_or ps i d).missing site
missing_here ps i d site up lt =
    let p : Purge = get_or ps i d in
    missing_with ps i d p.id site lt ∙ rw (none_beside ps i d site up lt, named_here p p.id site refl) (or_false (has p.missing site))
  where
    or_false : (a : Bool) → (a || false) ≡ a
    or_false a = grind arith

at_above : (ps : List Purge) (i : ℕ) (p d : Purge) (k : ℕ) → i < k → i ≤ length ps → get_or (insert ps i p) k d ≡ get_or ps (k - 1) d
at_above ps i p d k above within =
    let e : (k - 1) + 1 ≡ k = omega arith in
    subst (λ n. get_or (insert ps i p) n d ≡ get_or ps (k - 1) d) e (get_or-insert_above ps i p d (k - 1) (omega arith) within)

at_place : (ps : List Purge) (i : ℕ) (p d : Purge) (k : ℕ) → k ≡ i → i ≤ length ps → get_or (insert ps i p) k d ≡ p
at_place ps i p d k e within = subst (λ n. get_or (insert ps i p) n d ≡ p) (sym e) (get_or-insert_at ps i p d within)

pub rising-insert : (ps : List Purge) (i : ℕ) (p : Purge) → IsRising ps → i ≤ length ps
    → ((k : ℕ) (d : Purge) → k < i → (get_or ps k d).id < p.id) → ((k : ℕ) (d : Purge) → i ≤ k → k < length ps → p.id < (get_or ps k d).id) → IsRising (insert ps i p)
rising-insert ps i p up within below above j k d lt inside =
    let longer = length-insert ps i p within in
    ⊎_elim
    (λ (k_below : k < i).
    rw (get_or-insert_below ps i p d j (omega arith) within, get_or-insert_below ps i p d k k_below within) (up j k d lt (omega arith)))
    (λ (k_not_below : i ≤ k).
    ⊎_elim
    (λ (k_here : k ≡ i). rw (get_or-insert_below ps i p d j (omega arith) within, at_place ps i p d k k_here within) (below j d (omega arith)))
    (λ (k_not_here : k ≡ i → ⊥).
    rw (at_above ps i p d k (omega arith) within)
    (⊎_elim
    (λ (j_below : j < i). rw (get_or-insert_below ps i p d j j_below within) (up j (k - 1) d (omega arith) (omega (arith, longer))))
    (λ (j_not_below : i ≤ j).
    ⊎_elim
    (λ (j_here : j ≡ i). rw (at_place ps i p d j j_here within) (above (k - 1) d (omega arith) (omega (arith, longer))))
    (λ (j_not_here : j ≡ i → ⊥). rw (at_above ps i p d j (omega arith) within) (up (j - 1) (k - 1) d (omega arith) (omega (arith, longer))))
    (cases_eq j i))
    (cases_lt j i)))
    (cases_eq k i))
    (cases_lt k i)

-- the same of an entry that was read at the place
pub taken_last : (ps : List Purge) (i : ℕ) (p : Purge) (id site : ℕ) (left : List Bool) → IsRising ps → i < length ps → p ≡ get_or ps i p → p.id ≡ id
    → ((at : ℕ) → has left at ≡ (has p.missing at && not (at == site))) → has_none left ≡ true
    → (other at : ℕ) → missing_in (remove ps i) other at ≡ (missing_in ps other at && not ((other == id) && (at == site)))
taken_last ps i p id site left up lt read is_id less none =
    missing-taken_last ps i p id site left up lt (ap (λ q. q.id) (sym read) ∙ is_id) (λ at. less at ∙ ap (λ (q : Purge). has q.missing at && not (at == site)) read) none

pub taken : (ps : List Purge) (i : ℕ) (p : Purge) (id site : ℕ) (left : List Bool) → IsRising ps → i < length ps → p ≡ get_or ps i p → p.id ≡ id
    → ((at : ℕ) → has left at ≡ (has p.missing at && not (at == site)))
    → (other at : ℕ) → missing_in (set ps i (record { id = id; missing = left })) other at ≡ (missing_in ps other at && not ((other == id) && (at == site)))
taken ps i p id site left up lt read is_id less =
    missing-taken ps i p id site left up lt (ap (λ q. q.id) (sym read) ∙ is_id) (λ at. less at ∙ ap (λ (q : Purge). has q.missing at && not (at == site)) read)

pub missing_read : (ps : List Purge) (i : ℕ) (p : Purge) (id site : ℕ) → IsRising ps → i < length ps → p ≡ get_or ps i p → p.id ≡ id → missing_in ps id site ≡ has p.missing site
missing_read ps i p id site up lt read is_id =
    ap (λ n. missing_in ps n site) (sym is_id ∙ ap (λ (q : Purge). q.id) read) ∙ missing_here ps i p site up lt ∙ ap (λ (q : Purge). has q.missing site) (sym read)

pub not_read : (ps : List Purge) (i : ℕ) (p : Purge) (id site : ℕ) → IsRising ps → i < length ps → p ≡ get_or ps i p → (p.id ≡ id → ⊥)
    → ((k : ℕ) (d : Purge) → k < i → (get_or ps k d).id < id) → id ≤ (get_or ps i p).id → missing_in ps id site ≡ false
not_read ps i p id site up lt read apart below least =
    not_missing ps i id site up lt below (λ d. rw (get_or_default ps i d p lt) (let e : p.id ≡ (get_or ps i p).id = ap (λ (q : Purge). q.id) read in omega (arith, apart)))
