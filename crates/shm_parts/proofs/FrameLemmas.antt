-- Which pages may be among the copies after a change, and what goes where there are more than frames.
use Rattle.std.proofs.Common.{◌≡◌, ℕ, Bool, true, false, cond, not, ◌||◌, ◌==◌, nat_lt, if◌then◌else◌, List, [], ◌∷◌, ◌++◌, length, filter, Option, None, Some, refl, sym, ap, ◌∙◌, ◌⊎◌, inl, inr, ⊎_elim}
use Rattle.std.specs.List.{list_any}
use Rattle.std.proofs.lemmas.Bool.{and_from, eq-eqb, or_right}
use Rattle.std.proofs.lemmas.Option.{same_Some, none-some}
use Rattle.shm_place.specs.declared.page_id.PageId.{PageId}
use Rattle.shm_place.specs.Page.{same_page}
use Rattle.shm_model.specs.Entry.{forget}
use Rattle.shm_model.specs.Basics.{at_page}
use Rattle.shm_model.specs.Site as model
use Rattle.shm_model.specs.SegmentCalls.{without_segment}
use Rattle.shm_model.specs.Transfer.{drop_first, limited, without_page}
use Rattle.shm_parts.specs.declared.entry_change.Change.{Change}
use Rattle.shm_parts.specs.Frames.{arranged_by, first_out, overflowed}

-- the page is one of the list
abbrev pub among : PageId → List PageId → Bool
among page pages = list_any (same_page page) pages

or_more : (a b c : Bool) → (b ≡ true → c ≡ true) → (a || b) ≡ true → (a || c) ≡ true
or_more true b c step h = refl
or_more false b c step h = step h

kept_step : (page : PageId) (b : Bool) (q : PageId) (qs kept : List PageId) → (among page kept ≡ true → among page qs ≡ true) → among page (cond b (q ∷ kept) kept) ≡ true → among page (q ∷ qs) ≡ true
kept_step page true q qs kept step h = or_more (same_page page q) (among page kept) (among page qs) step h
kept_step page false q qs kept step h = or_right (same_page page q) (among page qs) (step h)

pub among-filter : (page : PageId) (keep : PageId → Bool) (qs : List PageId) → among page (filter keep qs) ≡ true → among page qs ≡ true
among-filter page keep [] h = h
among-filter page keep (q ∷ qs) h = kept_step page (keep q) q qs (filter keep qs) (λ k. among-filter page keep qs k) h

pub among-without_page : (page gone : PageId) (qs : List PageId) → among page (without_page gone qs) ≡ true → among page qs ≡ true
among-without_page page gone qs h = among-filter page (λ q. not (same_page gone q)) qs h

pub among-without_segment : (page : PageId) (id : ℕ) (qs : List PageId) → among page (without_segment id qs) ≡ true → among page qs ≡ true
among-without_segment page id qs h = among-filter page (λ q. not (id == q.seg)) qs h

pub among-tail : (page q : PageId) (qs : List PageId) → among page qs ≡ true → among page (q ∷ qs) ≡ true
among-tail page q qs h = or_right (same_page page q) (among page qs) h

last_step : (a b c : Bool) → (b ≡ true → (c ≡ true) ⊎ (a ≡ true)) → (d : Bool) → (d || b) ≡ true → (c ≡ true) ⊎ ((d || a) ≡ true)
last_step a b c step true h = inr refl
last_step a b c step false h = step h

alone : (a : Bool) → (a || false) ≡ true → (a ≡ true) ⊎ (false ≡ true)
alone true h = inl refl
alone false h = inr h

pub among-push : (page last : PageId) (qs : List PageId) → among page (qs ++ (last ∷ [])) ≡ true → (same_page page last ≡ true) ⊎ (among page qs ≡ true)
among-push page last [] h = alone (same_page page last) h
among-push page last (q ∷ qs) h =
    last_step (among page qs) (among page (qs ++ (last ∷ []))) (same_page page last) (λ k. among-push page last qs k) (same_page page q) h

arranged_step : (page at : PageId) (copies : List PageId) (copy newer : Bool)
    → among page (if not copy then without_page at copies else if newer then without_page at copies ++ (at ∷ []) else copies) ≡ true
    → (same_page page at ≡ true) ⊎ (among page copies ≡ true)
arranged_step page at copies false newer h = inr (among-without_page page at copies h)
arranged_step page at copies true true h =
    ⊎_elim (λ new. inl new) (λ old. inr (among-without_page page at copies old)) (among-push page at (without_page at copies) h)
arranged_step page at copies true false h = inr h

-- no copy is added but of the page at which the change is
pub among-arranged_by : (page at : PageId) (change : Change) (copies : List PageId) → among page (arranged_by change at copies) ≡ true
    → (same_page page at ≡ true) ⊎ (among page copies ≡ true)
among-arranged_by page at change copies h = arranged_step page at copies change.copy change.newer h

pub same_page-itself : (page : PageId) → same_page page page ≡ true
same_page-itself page = and_from (page.seg == page.seg) (page.index == page.index) (eq-eqb page.seg page.seg refl) (eq-eqb page.index page.index refl)

-- what `overflowed` gives, by whether there are more copies than frames
overflow_step : (P : Option PageId × model.Frames → Type 0) (f : model.Frames) (b : Bool) → P (first_out f.copies f) → P (None, f) → P (if b then first_out f.copies f else (None, f))
overflow_step P f true more few = more
overflow_step P f false more few = few

first_among : (page : PageId) (limit : ℕ) (copies qs : List PageId) → among page (first_out qs (record { limit = limit; copies = copies })).1.copies ≡ true → qs ≡ copies → among page copies ≡ true
first_among page limit copies [] h e = h
first_among page limit copies (q ∷ qs) h e = ap (among page) (sym e) ∙ among-tail page q qs h

pub among-overflowed : (page : PageId) (f : model.Frames) → among page (overflowed f).1.copies ≡ true → among page f.copies ≡ true
among-overflowed page f =
    overflow_step (λ out. among page out.1.copies ≡ true → among page f.copies ≡ true) f (nat_lt f.limit (length f.copies))
    (λ h. first_among page f.limit f.copies f.copies h refl) (λ h. h)

first_was : (page : PageId) (f : model.Frames) (qs : List PageId) → (first_out qs f).0 ≡ Some page → among page qs ≡ true
first_was page f [] h = absurd (none-some page h)
first_was page f (q ∷ qs) h =
    let same : q ≡ page = same_Some q page h in
    ap (λ p. same_page page p || among page qs) same ∙ ap (λ b. b || among page qs) (same_page-itself page)

-- what goes was a copy
pub overflowed-among : (page : PageId) (f : model.Frames) → (overflowed f).0 ≡ Some page → among page f.copies ≡ true
overflowed-among page f =
    overflow_step (λ out. out.0 ≡ Some page → among page f.copies ≡ true) f (nat_lt f.limit (length f.copies))
    (λ h. first_was page f f.copies h) (λ h. absurd (none-some page h))

few_step : (b : Bool) (qs : List PageId) (f : model.Frames) (site : model.Site) → (if b then first_out qs f else (None, f)).0 ≡ None → (if b then drop_first qs f site else site) ≡ site
few_step true [] f site h = refl
few_step true (q ∷ qs) f site h = absurd (none-some q (sym h))
few_step false qs f site h = refl

-- a site with no more copies than frames stays
pub limited-few : (f : model.Frames) (site : model.Site) → (overflowed f).0 ≡ None → limited (Some f) site ≡ site
limited-few f site h = few_step (nat_lt f.limit (length f.copies)) f.copies f site h

-- a site without the page as a copy, and with these frames
abbrev pub given_up : PageId → model.Frames → model.Site → model.Site
given_up page frames site = record site {
  frames = Some frames;
  entries = at_page site.entries page (forget (site.entries page));
}

more_step : (b : Bool) (qs : List PageId) (f : model.Frames) (site : model.Site) (page : PageId) → (if b then first_out qs f else (None, f)).0 ≡ Some page
    → (if b then drop_first qs f site else site) ≡ given_up page (if b then first_out qs f else (None, f)).1 site
more_step true [] f site page h = absurd (none-some page h)
more_step true (q ∷ qs) f site page h = ap (λ p. given_up p (record f { copies = qs }) site) (same_Some q page h)
more_step false qs f site page h = absurd (none-some page h)

-- one with more gives up the page that `overflowed` names
pub limited-more : (f : model.Frames) (site : model.Site) (page : PageId) → (overflowed f).0 ≡ Some page → limited (Some f) site ≡ given_up page (overflowed f).1 site
limited-more f site page h = more_step (nat_lt f.limit (length f.copies)) f.copies f site page h
