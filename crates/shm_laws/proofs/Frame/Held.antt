-- The pages that a site counts as copies are copies, each once; so that a frame is only ever freed of a copy.
use Rattle.std.proofs.Common.{◌≡◌, Bool, true, false, not, Option, Some, None, List, [], ◌∷◌, ◌++◌, filter, nat_lt, if◌then◌else◌, arith, refl, sym, ◌∙◌, ap}
use Rattle.std.proofs.lemmas.Bool.{cond_both, cond-true, cond-false}
use Rattle.std.proofs.lemmas.Bool.Decides.{nat_tests}
use Rattle.shm_place.specs.declared.page_id.PageId.{PageId}
use Rattle.shm_place.specs.Page.{same_page}
use Rattle.shm_model.specs.Entry.{Entry, is_copy, seen}
use Rattle.shm_model.specs.Basics.{at_page}
use Rattle.shm_model.specs.Site.{Frames}
use Rattle.shm_model.specs.Transfer.{arranged, reordered, without_page}
use Rattle.shm_laws.proofs.Page.Entry.{false-true}
use Rattle.shm_laws.proofs.Page.Orders.{Each, each-imp, each-filter}
use Rattle.shm_laws.proofs.Page.Moves.{page-same, same-page}

abbrev pub Distinct : List PageId → Type 0
Distinct [] = Unit {0}
Distinct (p ∷ ps) = Each (λ x. same_page p x ≡ false) ps × Distinct ps

pub record CopiesHeld (entries : PageId → Entry) (pages : List PageId) : Type 0 where
  pub once : Distinct pages
  pub held : Each (λ p. is_copy (entries p) ≡ true) pages

abbrev pub FramesHeld : (PageId → Entry) → Option Frames → Type 0
FramesHeld entries None = Unit {0}
FramesHeld entries (Some f) = CopiesHeld entries f.copies

each-filter-of : {X : Type 0} (P : X → Type 0) (p : X → Bool) (xs : List X) → Each P xs → Each P (filter p xs)
each-filter-of P p xs a = each-imp (λ y. P y × (p y ≡ true)) P (filter p xs) (λ y r. r.0) (each-filter P p xs a)

distinct-cond : (p : PageId) (ps : List PageId) (keep : Bool) → Each (λ x. same_page p x ≡ false) ps → Distinct ps → Distinct (if keep then p ∷ ps else ps)
distinct-cond p ps true a d = (a, d)
distinct-cond p ps false a d = d

pub distinct-filter : (t : PageId → Bool) (ps : List PageId) → Distinct ps → Distinct (filter t ps)
distinct-filter t [] d = tt
distinct-filter t (p ∷ ps) d = distinct-cond p (filter t ps) (t p) (each-filter-of (λ x. same_page p x ≡ false) t ps d.0) (distinct-filter t ps d.1)

each-end : {X : Type 0} (P : X → Type 0) (xs : List X) (x : X) → Each P xs → P x → Each P (xs ++ (x ∷ []))
each-end P [] x a p = (p, tt)
each-end P (y ∷ ys) x a p = (a.0, each-end P ys x a.1 p)

distinct-end : (ps : List PageId) (p : PageId) → Distinct ps → Each (λ x. same_page x p ≡ false) ps → Distinct (ps ++ (p ∷ []))
distinct-end [] p d a = (tt, tt)
distinct-end (x ∷ xs) p d a = (each-end (λ y. same_page x y ≡ false) xs p d.0 a.0, distinct-end xs p d.1 a.1)

other-way : (p x : PageId) → not (same_page p x) ≡ true → same_page x p ≡ false
other-way p x e = grind (arith, nat_tests)

pub not-true : (b : Bool) → not b ≡ true → b ≡ false
not-true true e = absurd (false-true e)
not-true false e = refl

all-true : {X : Type 0} (xs : List X) → Each (λ _. Unit {0}) xs
all-true [] = tt
all-true (x ∷ xs) = (tt, all-true xs)

passing : (t : PageId → Bool) (ps : List PageId) → Each (λ x. t x ≡ true) (filter t ps)
passing t ps = each-imp (λ y. Unit {0} × (t y ≡ true)) (λ y. t y ≡ true) (filter t ps) (λ y r. r.1) (each-filter (λ _. Unit {0}) t ps (all-true ps))

each-both : {X : Type 0} (P Q : X → Type 0) (xs : List X) → Each P xs → Each Q xs → Each (λ x. P x × Q x) xs
each-both P Q [] a b = tt
each-both P Q (x ∷ xs) a b = ((a.0, b.0), each-both P Q xs a.1 b.1)

module _ (entries : PageId → Entry) (page : PageId) (new : Entry) where
  copy-else : (x : PageId) → same_page page x ≡ false → is_copy (entries x) ≡ true → is_copy (at_page entries page new x) ≡ true
  copy-else x e c = ap is_copy (cond-false (same_page page x) new (entries x) e) ∙ c

  copy-here : is_copy new ≡ true → is_copy (at_page entries page new page) ≡ true
  copy-here c = ap is_copy (cond-true (same_page page page) new (entries page) (same-page page)) ∙ c

  copy-any : is_copy new ≡ true → (x : PageId) → is_copy (entries x) ≡ true → is_copy (at_page entries page new x) ≡ true
  copy-any c x d = cond_both (same_page page x) new (entries x) (λ e. is_copy e ≡ true) (λ e. c) (λ e. d)

  without-held : (ps : List PageId) → CopiesHeld entries ps → CopiesHeld (at_page entries page new) (without_page page ps)
  without-held ps h = record {
    once = distinct-filter (λ p. not (same_page page p)) ps h.once;
    held = each-imp (λ x. (is_copy (entries x) ≡ true) × (not (same_page page x) ≡ true)) (λ x. is_copy (at_page entries page new x) ≡ true) (without_page page ps)
        (λ x r. copy-else x (not-true (same_page page x) r.1) r.0) (each-filter (λ x. is_copy (entries x) ≡ true) (λ p. not (same_page page p)) ps h.held);
  }

  last-held : (ps : List PageId) → is_copy new ≡ true → CopiesHeld entries ps → CopiesHeld (at_page entries page new) (without_page page ps ++ (page ∷ []))
  last-held ps c h =
      let w : CopiesHeld (at_page entries page new) (without_page page ps) = without-held ps h in
      record {
        once = distinct-end (without_page page ps) page w.once (each-imp (λ x. not (same_page page x) ≡ true) (λ x. same_page x page ≡ false) (without_page page ps) (λ x e. other-way page x e) (passing (λ p. not (same_page page p)) ps));
        held = each-end (λ x. is_copy (at_page entries page new x) ≡ true) (without_page page ps) page w.held (copy-here c);
      }

  reordered-held : (old : Entry) (ps : List PageId) → CopiesHeld entries ps → CopiesHeld (at_page entries page new) (reordered page old new ps)
  reordered-held old ps h =
      cond_both (not (is_copy new)) _ _ (CopiesHeld (at_page entries page new)) (λ e. without-held ps h)
      (λ e. cond_both (nat_lt (seen old) (seen new)) _ _ (CopiesHeld (at_page entries page new)) (λ f. last-held ps (was-copy (is_copy new) e) h)
      (λ f. record { once = h.once; held = each-imp (λ x. is_copy (entries x) ≡ true) (λ x. is_copy (at_page entries page new x) ≡ true) ps (copy-any (was-copy (is_copy new) e)) h.held }))
    where
      was-copy : (b : Bool) → not b ≡ false → b ≡ true
      was-copy true e = refl
      was-copy false e = absurd (false-true (sym e))

  pub arranged-held : (old : Entry) (frames : Option Frames) → FramesHeld entries frames → FramesHeld (at_page entries page new) (arranged page old new frames)
  arranged-held old None h = tt
  arranged-held old (Some f) h = reordered-held old f.copies h

-- the first copy is given up
pub rest-held : (entries : PageId → Entry) (first : PageId) (rest : List PageId) (e : Entry) → CopiesHeld entries (first ∷ rest) → CopiesHeld (at_page entries first e) rest
rest-held entries first rest e h = record {
  once = h.once.1;
  held = each-imp (λ x. (is_copy (entries x) ≡ true) × (same_page first x ≡ false)) (λ x. is_copy (at_page entries first e x) ≡ true) rest
      (λ x r. copy-else entries first e x r.1 r.0) (each-both (λ x. is_copy (entries x) ≡ true) (λ x. same_page first x ≡ false) rest h.held.1 h.once.0);
}

-- a page that is changed but stays no copy, or stays one
pub same-held : (entries : PageId → Entry) (page : PageId) (e : Entry) (frames : Option Frames) → is_copy e ≡ is_copy (entries page) → FramesHeld entries frames → FramesHeld (at_page entries page e) frames
same-held entries page e None c h = tt
same-held entries page e (Some f) c h = record {
  once = h.once;
  held = each-imp (λ x. is_copy (entries x) ≡ true) (λ x. is_copy (at_page entries page e x) ≡ true) f.copies (λ x d. copy-same x d (same_page page x) refl) h.held;
}
  where
    copy-same : (x : PageId) → is_copy (entries x) ≡ true → (same : Bool) → same_page page x ≡ same → is_copy (if same then e else entries x) ≡ true
    copy-same x d true is = c ∙ (ap (λ p. is_copy (entries p)) (page-same page x is) ∙ d)
    copy-same x d false is = d
