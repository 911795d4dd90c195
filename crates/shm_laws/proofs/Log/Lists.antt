-- Lemmas on the merged order as a list: parts, places, and the numbers that its envelopes get.
use Rattle.std.proofs.Common.{◌≡◌, ℕ, zero, suc, ◌+◌, ◌-◌, ◌<◌, ◌≤◌, Bool, true, false, List, [], ◌∷◌, ◌++◌, Some, length, refl, sym, ap, ◌∙◌, subst, arith, slice_get, if◌then◌else◌, ◌==◌}
use Rattle.std.specs.Prelude.{slice_index_or}
use Rattle.std.specs.List.{All, AllPairs, flat_map}
use Rattle.std.proofs.Math.Seq.{get_or-append_seam}
use Rattle.std.proofs.lemmas.Bool.Decides.{nat_tests}
use Rattle.std.proofs.lemmas.List.{append-nil, length-append}
use Rattle.std.proofs.lemmas.Option.{none-some}
use Rattle.shm_model.specs.Message.{Envelope}
use Rattle.shm_model.specs.Log.{Logged}
use Rattle.shm_model.specs.Merge.{IsBefore, SiteStep, part, sent_before}

pub slice_get-append_left : {X : Type 0} (xs ys : List X) (i : ℕ) (x : X) → slice_get xs i ≡ Some x → slice_get (xs ++ ys) i ≡ Some x
slice_get-append_left [] ys i x h = cc
slice_get-append_left (z ∷ xs) ys zero x h = h
slice_get-append_left (z ∷ xs) ys (suc i) x h = slice_get-append_left xs ys i x h

pub slice_get-append_right : {X : Type 0} (xs ys : List X) (n i : ℕ) → length xs + i ≡ n → slice_get (xs ++ ys) n ≡ slice_get ys i
slice_get-append_right [] ys n i e = let e' : n ≡ i = omega arith in ap (slice_get ys) e'
slice_get-append_right (x ∷ xs) ys zero i e = absurd (omega arith)
slice_get-append_right (x ∷ xs) ys (suc n) i e = slice_get-append_right xs ys n i (omega arith)

-- what holds of all holds of the one in the middle
pub all-seam : {X : Type 0} (P : X → Type 0) (xs : List X) (x : X) (ys : List X) → All P (xs ++ x ∷ ys) → P x
all-seam P xs x ys h = subst P (get_or-append_seam xs x ys x) (h (length xs) x (omega (arith, length-append xs (x ∷ ys))))

abbrev first : {X : Type 0} → Bool → X → List X → List X
first same x xs = if same then x ∷ xs else xs

first-append : {X : Type 0} (same : Bool) (x : X) (xs ys zs : List X) → zs ≡ xs ++ ys → first same x zs ≡ first same x xs ++ ys
first-append true x xs ys zs h = ap (λ ls. x ∷ ls) h
first-append false x xs ys zs h = h

pub part-append : (s : ℕ) (ps qs : List SiteStep) → part s (ps ++ qs) ≡ part s ps ++ part s qs
part-append s [] qs = refl
part-append s (p ∷ ps) qs = first-append (p.site == s) p.logged (part s ps) (part s qs) (part s (ps ++ qs)) (part-append s ps qs)

same_site : (s : ℕ) → (s == s) ≡ true
same_site s = grind (arith, nat_tests)

-- a step's own site has it, between what the site did before and after
pub part-seam : (pre : List SiteStep) (p : SiteStep) (post : List SiteStep) → part p.site (pre ++ p ∷ post) ≡ part p.site pre ++ p.logged ∷ part p.site post
part-seam pre p post = part-append p.site pre (p ∷ post) ∙ ap (λ b. part p.site pre ++ first b p.logged (part p.site post)) (same_site p.site)

-- a step of another site
pub part-other : (s : ℕ) (pre : List SiteStep) (p : SiteStep) → (p.site == s) ≡ false → part s (pre ++ p ∷ []) ≡ part s pre
part-other s pre p h = part-append s pre (p ∷ []) ∙ ap (λ b. part s pre ++ first b p.logged []) h ∙ append-nil (part s pre)

-- what holds of each step of an order holds of each in a site's part of it
first-all : (P : SiteStep → Type 0) (s : ℕ) (p : SiteStep) (ls : List Logged) (same : Bool) → (p.site == s) ≡ same → P p
    → ((i : ℕ) (l : Logged) → slice_get ls i ≡ Some l → P (record { site = s; logged = l }))
    → (i : ℕ) (l : Logged) → slice_get (first same p.logged ls) i ≡ Some l → P (record { site = s; logged = l })
first-all P s p ls true same here rest zero l e =
    let there : p.site ≡ s = grind (arith, nat_tests) in
    let that : p.logged ≡ l = cc in
    subst (λ t. P (record { site = t; logged = l })) there (subst (λ m. P (record { site = p.site; logged = m })) that here)
first-all P s p ls true same here rest (suc i) l e = rest i l e
first-all P s p ls false same here rest i l e = rest i l e

pub part-all : (P : SiteStep → Type 0) (s : ℕ) (ps : List SiteStep) → All P ps → (i : ℕ) (l : Logged) → slice_get (part s ps) i ≡ Some l
    → P (record { site = s; logged = l })
part-all P s [] h = λ i l e. absurd (none-some l e)
part-all P s (p ∷ ps) h = first-all P s p (part s ps) (p.site == s) refl (h 0 p (omega arith)) (part-all P s ps (λ j d b. h (suc j) d (omega arith)))

pub rest-after : (p : SiteStep) (post : List SiteStep) → AllPairs IsBefore (p ∷ post) → All (IsBefore p) post
rest-after p post h j d b = h 0 (suc j) d (omega arith) (omega arith)

pub rest-rises : (p : SiteStep) (post : List SiteStep) → AllPairs IsBefore (p ∷ post) → AllPairs IsBefore post
rest-rises p post h i j d a b = h (suc i) (suc j) d (omega arith) (omega arith)

before-not-below : (p q : SiteStep) → IsBefore p q → p.logged.stamp ≤ q.logged.stamp
before-not-below p q h = omega arith

rest-not-below : (p : SiteStep) (post : List SiteStep) → AllPairs IsBefore (p ∷ post) → All (λ q. p.logged.stamp ≤ q.logged.stamp) (p ∷ post)
rest-not-below p post h zero d b = omega arith
rest-not-below p post h (suc j) d b = before-not-below p (slice_index_or post j d) (rest-after p post h j d (omega arith))

first-earlier : (same : Bool) (x l : Logged) (ls ms : List Logged) (i : ℕ) → ((j : ℕ) → slice_get ls j ≡ Some l → slice_get ms j ≡ Some l)
    → slice_get (first same x ls) i ≡ Some l → slice_get (first same x ms) i ≡ Some l
first-earlier true x l ls ms zero h e = e
first-earlier true x l ls ms (suc i) h e = h i e
first-earlier false x l ls ms i h e = h i e

-- in a rising order, a step with a stamp below p's stands before p
pub part-earlier : (s : ℕ) (pre : List SiteStep) (p : SiteStep) (post : List SiteStep) (i : ℕ) (l : Logged) → AllPairs IsBefore (pre ++ p ∷ post)
    → slice_get (part s (pre ++ p ∷ post)) i ≡ Some l → l.stamp < p.logged.stamp → slice_get (part s pre) i ≡ Some l
part-earlier s [] p post i l rises e h = absurd (omega (arith, part-all (λ q. p.logged.stamp ≤ q.logged.stamp) s (p ∷ post) (rest-not-below p post rises) i l e))
part-earlier s (x ∷ pre) p post i l rises e h =
    first-earlier (x.site == s) x.logged l (part s (pre ++ p ∷ post)) (part s pre) i
    (λ j k. part-earlier s pre p post j l (rest-rises x (pre ++ p ∷ post) rises) k h) e

abbrev pub sent_in : List SiteStep → List Envelope
sent_in order = flat_map (λ p. p.logged.sent) order

abbrev counted : Bool → ℕ → ℕ → (ℕ → ℕ) → ℕ
counted same index n rest = if same then (if index == 0 then 0 else n + rest (index - 1)) else n + rest index

first-number : (same : Bool) (x l : Logged) (ls : List Logged) (es : List Envelope) (i k : ℕ) (e : Envelope) (rest : ℕ → ℕ)
    → ((j : ℕ) → slice_get ls j ≡ Some l → slice_get es (rest j + k) ≡ Some e) → slice_get l.sent k ≡ Some e
    → slice_get (first same x ls) i ≡ Some l → slice_get (x.sent ++ es) (counted same i (length x.sent) rest + k) ≡ Some e
first-number true x l ls es zero k e rest h sent found =
    let xl : l ≡ x = cc in
    let zk : k ≡ 0 + k = omega arith in
    slice_get-append_left x.sent es (0 + k) e (subst (λ n. slice_get x.sent n ≡ Some e) zk (subst (λ y. slice_get y.sent k ≡ Some e) xl sent))
first-number true x l ls es (suc i) k e rest h sent found =
    let si : suc i - 1 ≡ i = omega arith in
    let sb : (suc i == 0) ≡ false = grind (arith, nat_tests) in
    ap (λ b. slice_get (x.sent ++ es) ((if b then 0 else length x.sent + rest (suc i - 1)) + k)) sb
    ∙ slice_get-append_right x.sent es (length x.sent + rest (suc i - 1) + k) (rest (suc i - 1) + k) (omega arith)
    ∙ subst (λ j. slice_get es (rest j + k) ≡ Some e) (sym si) (h i found)
first-number false x l ls es i k e rest h sent found =
    slice_get-append_right x.sent es (length x.sent + rest i + k) (rest i + k) (omega arith) ∙ h i found

-- an envelope stands under its number among all that were sent so far
pub sent-number : (pre rest : List SiteStep) (s i k : ℕ) (l : Logged) (e : Envelope) → slice_get (part s pre) i ≡ Some l → slice_get l.sent k ≡ Some e
    → slice_get (sent_in pre) (sent_before (pre ++ rest) s i + k) ≡ Some e
sent-number [] rest s i k l e found sent = cc
sent-number (p ∷ pre) rest s i k l e found sent =
    first-number (p.site == s) p.logged l (part s pre) (sent_in pre) i k e (sent_before (pre ++ rest) s)
    (λ j h. sent-number pre rest s j k l e h sent) sent found
