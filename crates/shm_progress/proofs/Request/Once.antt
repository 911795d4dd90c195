-- Of each page at most one request is pending at a site.
use Rattle.std.proofs.Common.{◌≡◌, ◌⊎◌, inl, inr, Bool, true, false, List, [], ◌∷◌, filter, arith, refl, sym, ◌∙◌, subst, Contains}
use Rattle.std.proofs.lemmas.Bool.{cond_both}
use Rattle.shm_place.specs.declared.page_id.PageId.{PageId}
use Rattle.shm_place.specs.Page.{same_page}
use Rattle.shm_model.specs.Site.{Pending}
use Rattle.shm_model.specs.Access.{put_pending}
use Rattle.shm_model.specs.Transfer.{is_settled, settle}
use Rattle.shm_laws.proofs.Page.Moves.{page-same, same-page}
use Rattle.shm_progress.proofs.Purge.Answers.{contains-first, contains-later}
use Rattle.shm_progress.proofs.Request.Pending.{contains-cons, filter-before, put-before, settle-before}

-- none of these is of the page
abbrev NoneOf : PageId → List Pending → Type 0
NoneOf q ps = (r : Pending) → Contains ps r → r.page ≡ q → ⊥

abbrev pub Once : List Pending → Type 0
Once [] = Unit {0}
Once (p ∷ ps) = NoneOf p.page ps × Once ps

pub none-in : (p : Pending) → Contains {X = Pending} [] p → ⊥
none-in p (k, l, e) = omega arith

apart : (p q : PageId) → same_page p q ≡ false → p ≡ q → ⊥
apart p q other is = let yes = subst (λ r. same_page p r ≡ true) is (same-page p) in let both : true ≡ false = sym yes ∙ other in cc

-- two of one page are the same
pub once-same : (ps : List Pending) (p r : Pending) → Once ps → Contains ps p → Contains ps r → p.page ≡ r.page → p ≡ r
once-same [] p r once here there same = absurd (none-in p here)
once-same (o ∷ os) p r once here there same = by-first (contains-cons o os p here) (contains-cons o os r there) (λ a b. once-same os p r once.1 a b same)
  where
    by-first : (o ≡ p) ⊎ Contains os p → (o ≡ r) ⊎ Contains os r → (Contains os p → Contains os r → p ≡ r) → p ≡ r
    by-first (inl a) (inl b) rest = sym a ∙ b
    by-first (inl a) (inr b) rest = absurd (once.0 r b (sym same ∙ subst (λ (t : Pending). t.page ≡ o.page) a refl))
    by-first (inr a) (inl b) rest = absurd (once.0 p a (same ∙ subst (λ (t : Pending). t.page ≡ o.page) b refl))
    by-first (inr a) (inr b) rest = rest a b

pub once-put : (new : Pending) (ps : List Pending) → Once ps → Once (put_pending new ps)
once-put new [] once = (λ r here is. none-in r here, tt)
once-put new (p ∷ ps) once =
    cond_both (same_page new.page p.page) (new ∷ ps) (p ∷ put_pending new ps) Once
    (λ e. (λ r here is. once.0 r here (is ∙ page-same new.page p.page e), once.1))
    (λ e. (λ r here is. by-before e r is (put-before new ps r here), once-put new ps once.1))
  where
    by-before : same_page new.page p.page ≡ false → (r : Pending) → r.page ≡ p.page → Contains ps r ⊎ (new ≡ r) → ⊥
    by-before e r is (inl there) = once.0 r there is
    by-before e r is (inr now) = apart new.page p.page e (subst (λ (t : Pending). t.page ≡ p.page) (sym now) is)

pub put-has : (new : Pending) (ps : List Pending) → Contains (put_pending new ps) new
put-has new [] = contains-first new []
put-has new (p ∷ ps) = cond_both (same_page new.page p.page) (new ∷ ps) (p ∷ put_pending new ps) (λ l. Contains l new) (λ e. contains-first new ps) (λ e. contains-later p new (put_pending new ps) (put-has new ps))

pub once-filter : (f : Pending → Bool) (ps : List Pending) → Once ps → Once (filter f ps)
once-filter f [] once = tt
once-filter f (p ∷ ps) once =
    cond_both (f p) (p ∷ filter f ps) (filter f ps) Once (λ e. (λ r here is. once.0 r (filter-before f ps r here) is, once-filter f ps once.1)) (λ e. once-filter f ps once.1)

module _ (reads writes : Bool) (page : PageId) where
  pub once-settle : (ps : List Pending) → Once ps → Once (settle reads writes page ps)
  once-settle [] once = tt
  once-settle (p ∷ ps) once =
      cond_both (same_page page p.page) _ _ Once
      (λ e. cond_both (is_settled reads writes p) ps (p ∷ ps) Once (λ f. once.1) (λ f. once))
      (λ e. (λ r here is. once.0 r (settle-before reads writes page ps r here) is, once-settle ps once.1))

  -- what is left of the page isn't settled
  pub settle-left : (ps : List Pending) (p : Pending) → Once ps → Contains (settle reads writes page ps) p → p.page ≡ page → is_settled reads writes p ≡ false
  settle-left [] p once here is = absurd (none-in p here)
  settle-left (o ∷ os) p once here is =
      cond_both (same_page page o.page) _ _ (λ l. Contains l p → is_settled reads writes p ≡ false)
      (λ e. cond_both (is_settled reads writes o) os (o ∷ os) (λ l. Contains l p → is_settled reads writes p ≡ false)
      (λ f h. absurd (once.0 p h (is ∙ page-same page o.page e))) (λ f h. first e f (contains-cons o os p h)))
      (λ e h. later e (contains-cons o (settle reads writes page os) p h) (λ there. settle-left os p once.1 there is)) here
    where
      first : same_page page o.page ≡ true → is_settled reads writes o ≡ false → (o ≡ p) ⊎ Contains os p → is_settled reads writes p ≡ false
      first e f (inl same) = subst (λ t. is_settled reads writes t ≡ false) same f
      first e f (inr there) = absurd (once.0 p there (is ∙ page-same page o.page e))

      later : same_page page o.page ≡ false → (o ≡ p) ⊎ Contains (settle reads writes page os) p → (Contains (settle reads writes page os) p → is_settled reads writes p ≡ false) → is_settled reads writes p ≡ false
      later e (inl same) rest = absurd (apart page o.page e (sym (subst (λ (t : Pending). t.page ≡ page) (sym same) is)))
      later e (inr there) rest = rest there
