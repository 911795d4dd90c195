-- The words of pages in their order, against those of the definitions over the requests that are pending.
use Rattle.std.proofs.Common.{◌≡◌, ℕ, Bool, true, false, cond, not, ◌&&◌, ◌||◌, ◌==◌, filter, List, [], ◌∷◌, map, Option, None, Some, refl, sym, ap, ◌∙◌}
use Rattle.std.specs.Option.{option_map}
use Rattle.std.specs.Map.{lookup, remove_entry}
use Rattle.std.proofs.lemmas.Bool.{and_parts, eqb-true}
use Rattle.indexmap.specs.IndexMap.{insert_entry}
use Rattle.shm_place.specs.declared.page_id.PageId.{PageId}
use Rattle.shm_place.specs.Page.{same_page}
use Rattle.shm_model.specs.declared.request_kind.Kind.{Kind}
use Rattle.shm_model.specs.Book.{is_write}
use Rattle.shm_model.specs.Site.{Pending}
use Rattle.shm_model.specs.Access.{is_pending, pending_at, put_pending, serves}
use Rattle.shm_model.specs.Transfer.{is_settled, settle}
use Rattle.shm_parts.specs.Pendings.{pending_of, settled_by, settles}

abbrev Row : Type 0
Row = PageId × (ℕ × Kind)

pub same_page-same : (p q : PageId) → same_page p q ≡ true → p ≡ q
same_page-same p q h =
    let parts = and_parts (p.seg == q.seg) (p.index == q.index) h in
    let seg : p.seg ≡ q.seg = eqb-true p.seg q.seg parts.0 in
    let index : p.index ≡ q.index = eqb-true p.index q.index parts.1 in
    λ i. record { seg = seg i; index = index i }

-- a request of the page
abbrev pub at_page : PageId → ℕ × Kind → Pending
at_page page value = pending_of (page, value)

found_step : (b : Bool) (page : PageId) (e : Row) (later : Option Pending) (rest : Option (ℕ × Kind)) → (b ≡ true → page ≡ e.0) → later ≡ option_map (at_page page) rest
    → cond b (Some (pending_of e)) later ≡ option_map (at_page page) (cond b (Some e.1) rest)
found_step true page e later rest same found = ap (λ p. Some (at_page p e.1)) (sym (same refl))
found_step false page e later rest same found = found

pub pending_found : (page : PageId) (es : List Row) → pending_at page (map pending_of es) ≡ option_map (at_page page) (lookup (same_page page) es)
pending_found page [] = refl
pending_found page (e ∷ es) =
    found_step (same_page page e.0) page e (pending_at page (map pending_of es)) (lookup (same_page page) es) (same_page-same page e.0) (pending_found page es)

pub pending_serves : (kind : Kind) (page : PageId) (value : ℕ × Kind) (es : List Row) → lookup (same_page page) es ≡ Some value
    → is_pending kind page (map pending_of es) ≡ (is_write value.1 || not (is_write kind))
pending_serves kind page value es h = ap (serves kind) (pending_found page es ∙ ap (option_map (at_page page)) h)

pub pending_absent : (kind : Kind) (page : PageId) (es : List Row) → lookup (same_page page) es ≡ None → is_pending kind page (map pending_of es) ≡ false
pending_absent kind page es h = ap (serves kind) (pending_found page es ∙ ap (option_map (at_page page)) h)

pub pending_settles : (reads writes : Bool) (page : PageId) (value : ℕ × Kind) (es : List Row) → lookup (same_page page) es ≡ Some value
    → settles reads writes page (map pending_of es) ≡ (writes || (reads && not (is_write value.1)))
pending_settles reads writes page value es h = ap (settled_by reads writes) (pending_found page es ∙ ap (option_map (at_page page)) h)

pub none_settles : (reads writes : Bool) (page : PageId) (es : List Row) → lookup (same_page page) es ≡ None → settles reads writes page (map pending_of es) ≡ false
none_settles reads writes page es h = ap (settled_by reads writes) (pending_found page es ∙ ap (option_map (at_page page)) h)

put_step : (b : Bool) (page : PageId) (value : ℕ × Kind) (e : Row) (es rest : List Row) (more : List Pending) → (b ≡ true → page ≡ e.0) → map pending_of rest ≡ more
    → map pending_of (cond b ((e.0, value) ∷ es) (e ∷ rest)) ≡ cond b (at_page page value ∷ map pending_of es) (pending_of e ∷ more)
put_step true page value e es rest more same put = ap (λ p. at_page p value ∷ map pending_of es) (sym (same refl))
put_step false page value e es rest more same put = ap (λ ps. pending_of e ∷ ps) put

pub pending_put : (page : PageId) (value : ℕ × Kind) (es : List Row) → map pending_of (insert_entry same_page es page value) ≡ put_pending (at_page page value) (map pending_of es)
pending_put page value [] = refl
pending_put page value (e ∷ es) =
    put_step (same_page page e.0) page value e es (insert_entry same_page es page value) (put_pending (at_page page value) (map pending_of es))
    (same_page-same page e.0) (pending_put page value es)

settled_step : (b reads writes : Bool) (e : Row) (es rest : List Row) (later : Option Pending) (more : List Pending) → (settled_by reads writes later ≡ true → map pending_of rest ≡ more)
    → settled_by reads writes (cond b (Some (pending_of e)) later) ≡ true
    → map pending_of (cond b es (e ∷ rest)) ≡ cond b (cond (is_settled reads writes (pending_of e)) (map pending_of es) (pending_of e ∷ map pending_of es)) (pending_of e ∷ more)
settled_step true reads writes e es rest later more step h = sym (ap (λ s. cond s (map pending_of es) (pending_of e ∷ map pending_of es)) h)
settled_step false reads writes e es rest later more step h = ap (λ ps. pending_of e ∷ ps) (step h)

-- where the page's request is settled, it goes
pub pending_settled : (reads writes : Bool) (page : PageId) (es : List Row) → settles reads writes page (map pending_of es) ≡ true
    → map pending_of (remove_entry (same_page page) es) ≡ settle reads writes page (map pending_of es)
pending_settled reads writes page [] h = refl
pending_settled reads writes page (e ∷ es) h =
    settled_step (same_page page e.0) reads writes e es (remove_entry (same_page page) es) (pending_at page (map pending_of es)) (settle reads writes page (map pending_of es))
    (λ k. pending_settled reads writes page es k) h

dropped_step : (b reads : Bool) (e : Row) (es rest : List Row) (more : List Pending) → map pending_of rest ≡ more
    → map pending_of (cond b es (e ∷ rest)) ≡ cond b (cond (is_settled reads true (pending_of e)) (map pending_of es) (pending_of e ∷ map pending_of es)) (pending_of e ∷ more)
dropped_step true reads e es rest more h = refl
dropped_step false reads e es rest more h = ap (λ ps. pending_of e ∷ ps) h

-- the right to write settles the page's request, whatever it is
pub pending_dropped : (reads : Bool) (page : PageId) (es : List Row) → map pending_of (remove_entry (same_page page) es) ≡ settle reads true page (map pending_of es)
pending_dropped reads page [] = refl
pending_dropped reads page (e ∷ es) =
    dropped_step (same_page page e.0) reads e es (remove_entry (same_page page) es) (settle reads true page (map pending_of es)) (pending_dropped reads page es)

-- where no right came, nothing is settled
pub nothing_settles : (page : PageId) (pending : List Pending) → settles false false page pending ≡ false
nothing_settles page pending = by (pending_at page pending)
  where
    by : (p : Option Pending) → settled_by false false p ≡ false
    by None = refl
    by (Some p) = refl

kept_step : (b reads writes : Bool) (p : Pending) (ps more : List Pending) (later : Option Pending) → (settled_by reads writes later ≡ false → ps ≡ more)
    → settled_by reads writes (cond b (Some p) later) ≡ false → p ∷ ps ≡ cond b (cond (is_settled reads writes p) ps (p ∷ ps)) (p ∷ more)
kept_step true reads writes p ps more later step h = sym (ap (λ s. cond s ps (p ∷ ps)) h)
kept_step false reads writes p ps more later step h = ap (λ qs. p ∷ qs) (step h)

-- where it isn't, all stay
pub pending_kept : (reads writes : Bool) (page : PageId) (pending : List Pending) → settles reads writes page pending ≡ false → pending ≡ settle reads writes page pending
pending_kept reads writes page [] h = refl
pending_kept reads writes page (p ∷ ps) h =
    kept_step (same_page page p.page) reads writes p ps (settle reads writes page ps) (pending_at page ps) (λ k. pending_kept reads writes page ps k) h

filter_step : (b : Bool) (e : Row) (rest : List Row) (more : List Pending) → map pending_of rest ≡ more → map pending_of (cond b (e ∷ rest) rest) ≡ cond b (pending_of e ∷ more) more
filter_step true e rest more h = ap (λ ps. pending_of e ∷ ps) h
filter_step false e rest more h = h

pub pending_filtered : (id : ℕ) (es : List Row) → map pending_of (filter (λ e. not (id == e.0.seg)) es) ≡ filter (λ p. not (id == p.page.seg)) (map pending_of es)
pending_filtered id [] = refl
pending_filtered id (e ∷ es) =
    filter_step (not (id == e.0.seg)) e (filter (λ e. not (id == e.0.seg)) es) (filter (λ p. not (id == p.page.seg)) (map pending_of es)) (pending_filtered id es)
