-- Sites in their seats: one more, one changed, and what the definitions see of them.
use Rattle.std.proofs.Common.{◌≡◌, ℕ, ◌+◌, ◌⊎◌, inl, inr, ⊎_elim, zero, suc, List, [], ◌∷◌, ◌++◌, length, map, Option, None, Some, IfSome, Result, Ok, Err, IfOk, OnErr, slice_get, slice_set, take, option_map, refl, sym, ap, ap₂, ◌∙◌, subst}
use Rattle.std.proofs.lemmas.Grind.{take_at_read}
use Rattle.std.proofs.lemmas.List.{map-append, map-set}
use Rattle.std.proofs.lemmas.Option.{get_or_from_slice_get, none-some, same_Some, slice_get-map, slice_get_past, slice_get_read, slice_get_within}
use Rattle.std.specs.Slice.{IsItemAt}
use Rattle.std.specs.Option.{option_copied}
use denote.Ref.{Bor}
use Rattle.shm_model.specs.declared.answer.Answer.{Answer}
use Rattle.shm_model.specs.Site.{Step}
use Rattle.shm_model.specs.Site as model
use Rattle.shm_parts.specs.Message.{envelope_of}
use Rattle.shm_parts.specs.declared.message.Envelope.{Envelope}
use Rattle.shm_site.specs.Site.{SameSeat, StepsTo, Unchanged, site_of}
use Rattle.shm_site.specs.declared.site.Site.{Site}
use Rattle.shm_world.specs.declared.members.Members.{Members}
use Rattle.shm_world.specs.Members.{members_of, seen_by, Made}
use Rattle.shm_world.specs.Seats.{Seated}
use Rattle.shm_world.proofs.Steps.{set_same}

-- ---- lists

at-push : {X : Type 0} (xs : List X) (y x : X) (k : ℕ) → slice_get (xs ++ y ∷ []) k ≡ Some x → (slice_get xs k ≡ Some x) ⊎ ((k ≡ length xs) × (y ≡ x))
at-push [] y x zero e = inr (refl, same_Some y x e)
at-push [] y x (suc k) e = absurd (none-some x e)
at-push (z ∷ xs) y x zero e = inl e
at-push (z ∷ xs) y x (suc k) e = ⊎_elim inl (λ h. inr (ap suc h.0, h.1)) (at-push xs y x k e)

at-set : {X : Type 0} (xs : List X) (i : ℕ) (y x : X) (k : ℕ) → slice_get (slice_set xs i y) k ≡ Some x → (slice_get xs k ≡ Some x) ⊎ ((k ≡ i) × (y ≡ x))
at-set [] i y x k e = inl e
at-set (z ∷ xs) zero y x zero e = inr (refl, same_Some y x e)
at-set (z ∷ xs) zero y x (suc k) e = inl e
at-set (z ∷ xs) (suc i) y x zero e = inl e
at-set (z ∷ xs) (suc i) y x (suc k) e = ⊎_elim inl (λ h. inr (ap suc h.0, h.1)) (at-set xs i y x k e)

take-more : {X : Type 0} (xs : List X) (k : ℕ) (x : X) → slice_get xs k ≡ Some x → take (k + 1) xs ≡ take k xs ++ x ∷ []
take-more xs k x e = (take_at_read xs k x (slice_get_within xs k x e)).1 ∙ ap (λ y. take k xs ++ y ∷ []) (get_or_from_slice_get xs k x x e)

-- what is lent of a place is what stands there
pub lent : {X : Type 0} (xs : List X) (i : ℕ) (r : Option (Bor X)) → IsItemAt xs i r → option_copied r ≡ slice_get xs i
lent xs i None h = sym (slice_get_past xs i h.3)
lent xs i (Some x) h = sym (slice_get_read xs (length xs) i x.now refl h.3.0 h.1)

-- ---- seats

pub none-seated : {A : Type 0} (count : ℕ) (xs : List (Site A)) → xs ≡ [] → Seated count xs
none-seated count xs e = λ s site h. absurd (none-some site (ap (λ ys. slice_get ys s) (sym e) ∙ h))

-- one more site, in the next seat
pub seated-push : {A : Type 0} (count : ℕ) (xs ys : List (Site A)) (site : Site A) → Seated count xs → ys ≡ xs ++ site ∷ [] → site.sites ≡ count → site.me ≡ length xs → Seated count ys
seated-push count xs ys site seats more all here = λ s x e. ⊎_elim
    (λ (h : slice_get xs s ≡ Some x). seats s x h)
    (λ (h : (s ≡ length xs) × (site ≡ x)). (ap (λ (y : Site _). y.sites) (sym h.1) ∙ all, ap (λ (y : Site _). y.me) (sym h.1) ∙ here ∙ sym h.0))
    (at-push xs site x s (ap (λ zs. slice_get zs s) (sym more) ∙ e))

-- a site that changed keeps its seat
pub seated-set : {A : Type 0} (count : ℕ) (xs : List (Site A)) (i : ℕ) (old new : Site A) → Seated count xs → slice_get xs i ≡ Some old → SameSeat old new → Seated count (slice_set xs i new)
seated-set count xs i old new seats there same = λ s x e. ⊎_elim
    (λ (h : slice_get xs s ≡ Some x). seats s x h)
    (λ (h : (s ≡ i) × (new ≡ x)).
    let was = seats i old there in
    (ap (λ (y : Site _). y.sites) (sym h.1) ∙ same.0 ∙ was.0, ap (λ (y : Site _). y.me) (sym h.1) ∙ same.1 ∙ was.1 ∙ sym h.0))
    (at-set xs i new x s e)

-- and so does one that is put in its place, and sits there
pub seated-put : {A : Type 0} (count : ℕ) (xs : List (Site A)) (i : ℕ) (new : Site A) → Seated count xs → new.sites ≡ count → new.me ≡ i → Seated count (slice_set xs i new)
seated-put count xs i new seats all own = λ s x e. ⊎_elim
    (λ (h : slice_get xs s ≡ Some x). seats s x h)
    (λ (h : (s ≡ i) × (new ≡ x)). (ap (λ (y : Site _). y.sites) (sym h.1) ∙ all, ap (λ (y : Site _). y.me) (sym h.1) ∙ own ∙ sym h.0))
    (at-set xs i new x s e)

-- a site keeps its seat, whether its step is made or not
pub seat-kept : {A O E : Type 0} (posted : O → O → List (Envelope A) → Type 0) (old new : Site A) (before after : O) (r : Result Answer E) (step : Step)
    → IfOk r (λ answer. StepsTo posted old new before after answer step) → OnErr r (Unchanged posted old new before after) → SameSeat old new
seat-kept posted old new before after (Ok answer) step to same = to.seat
seat-kept posted old new before after (Err e) step to same = same.seat

-- ---- what is seen of them

seen-of : {A : Type 0} (o : Option (Site A)) → seen_by o ≡ option_map site_of o
seen-of None = refl
seen-of (Some site) = refl

pub seen-at : {A : Type 0} (xs : List (Site A)) (i s : ℕ) (r : Option (Bor (Site A))) → i ≡ s → option_copied r ≡ slice_get xs i → seen_by (option_copied r) ≡ slice_get (map site_of xs) s
seen-at xs i s r is e = ap seen_by e ∙ seen-of (slice_get xs i) ∙ sym (slice_get-map site_of xs i) ∙ ap (slice_get (map site_of xs)) is

pub seat-at : {A : Type 0} (count : ℕ) (xs : List (Site A)) (i s : ℕ) (r : Option (Bor (Site A))) → Seated count xs → i ≡ s → option_copied r ≡ slice_get xs i → IfSome r (λ x. (x.now.sites ≡ count) × (x.now.me ≡ s))
seat-at count xs i s None seats is e = tt
seat-at count xs i s (Some x) seats is e = let seat = seats i x.now (sym e) in (seat.0, seat.1 ∙ is)

-- the site that is seen at a number
pub seen-there : {A : Type 0} (xs : List (Site A)) (i s : ℕ) (site : Site A) (x : model.Site) → i ≡ s → slice_get xs i ≡ Some site → slice_get (map site_of xs) s ≡ Some x → site_of site ≡ x
seen-there xs i s site x is there e =
    same_Some (site_of site) x (sym (ap (option_map site_of) there) ∙ sym (slice_get-map site_of xs i) ∙ ap (slice_get (map site_of xs)) is ∙ e)

-- one more site is seen last
pub seen-push : {A : Type 0} (xs ys : List (Site A)) (site : Site A) (seen : List model.Site) (x : model.Site) → map site_of xs ≡ seen → ys ≡ xs ++ site ∷ [] → site_of site ≡ x → map site_of ys ≡ seen ++ x ∷ []
seen-push xs ys site seen x so_far more is = ap (map site_of) more ∙ map-append site_of xs (site ∷ []) ∙ ap₂ (λ (zs : List model.Site) (z : model.Site). zs ++ z ∷ []) so_far is

-- and one that is seen as the next of others
pub seen-next : {A : Type 0} (xs ys all : List (Site A)) (site next : Site A) (n : ℕ) → map site_of xs ≡ map site_of (take n all) → ys ≡ xs ++ site ∷ [] → slice_get all n ≡ Some next → site_of site ≡ site_of next
    → map site_of ys ≡ map site_of (take (n + 1) all)
seen-next xs ys all site next n so_far more there is =
    seen-push xs ys site (map site_of (take n all)) (site_of next) so_far more is ∙ sym (map-append site_of (take n all) (next ∷ [])) ∙ ap (map site_of) (sym (take-more all n next there))

-- a site that is seen as before changes nothing
pub seen-same : {A : Type 0} (xs : List (Site A)) (i : ℕ) (old new : Site A) → slice_get xs i ≡ Some old → site_of new ≡ site_of old → map site_of (slice_set xs i new) ≡ map site_of xs
seen-same xs i old new there same =
    map-set site_of xs i new ∙ ap (slice_set (map site_of xs) i) same ∙ set_same (map site_of xs) i (site_of old) (slice_get-map site_of xs i ∙ ap (option_map site_of) there)

-- what is said of a site by its own number, and how many it knows of, holds at its seat
pub in-seat : {A : Type 0} (old : Members A) (i s : ℕ) (was : Site A) → i ≡ s → slice_get old.sites.items i ≡ Some was → (P : ℕ → ℕ → Type 0) → P was.sites was.me → P old.count s
in-seat old i s was at_i there P p = let seat = old.seats i was there in subst (λ n. P n s) seat.0 (subst (λ n. P was.sites n) (seat.1 ∙ at_i) p)

pub seen-in-seat : {A : Type 0} (old : Members A) (i s : ℕ) (was : Site A) → i ≡ s → slice_get old.sites.items i ≡ Some was → (P : ℕ → ℕ → model.Site → Type 0) → P was.sites was.me (site_of was)
    → (x : model.Site) → slice_get (members_of old) s ≡ Some x → P old.count s x
seen-in-seat old i s was at_i there P p x seen = in-seat old i s was at_i there (λ n m. P n m x) (subst (P was.sites was.me) (seen-there old.sites.items i s was x at_i there seen) p)

-- a step of the site in seat i is one of all
pub made-there : {A O : Type 0} (posted : O → O → List (Envelope A) → Type 0) (old new : Members A) (i s : ℕ) (was is : Site A) (before after : O) (answer : Answer) (f : ℕ → ℕ → model.Site → Step)
    → i ≡ s → slice_get old.sites.items i ≡ Some was → new.sites.items ≡ slice_set old.sites.items i is → StepsTo posted was is before after answer (f was.sites was.me (site_of was))
    → (x : model.Site) → slice_get (members_of old) s ≡ Some x → Made posted old new s before after answer (f old.count s x)
made-there posted old new i s was is before after answer f at_i there changed to x seen =
    let seat = old.seats i was there in
    let m = to.makes in
    let step : f was.sites was.me (site_of was) ≡ f old.count s x =
    ap (λ n. f n was.me (site_of was)) seat.0 ∙ ap (λ n. f old.count n (site_of was)) (seat.1 ∙ at_i) ∙ ap (f old.count s) (seen-there old.sites.items i s was x at_i there seen)
    in
    let whole : f old.count s x ≡ record { site = site_of is; answer = answer; sent = map envelope_of m.sent } = sym step ∙ m.made in
    record {
      sites = ap (map site_of) changed ∙ map-set site_of old.sites.items i is ∙ ap (λ n. slice_set (map site_of old.sites.items) n (site_of is)) at_i ∙ ap (slice_set (map site_of old.sites.items) s) (sym (ap (λ (t : Step). t.site) whole));
      sent = record { sent = m.sent; behind = m.behind; meant = sym (ap (λ (t : Step). t.sent) whole) };
      answered = sym (ap (λ (t : Step). t.answer) whole);
    }
