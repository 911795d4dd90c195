-- What a tick has sent so far, part by part.
use Rattle.std.proofs.Common.{◌≡◌, ℕ, ◌+◌, ◌-◌, ◌*◌, ◌/◌, ◌<◌, ◌≤◌, ◌==◌, zero, suc, Bool, true, false, cond, List, [], ◌∷◌, ◌++◌, Option, Some, None, length, map, filter, take, get_or, sym, ◌∙◌, ap, refl, subst, arith, ⊎_elim, append_assoc}
use Rattle.std.specs.List.{AllByRecursion, flat_map, position_or_len, range_with_len}
use Rattle.std.proofs.Math.Nat.{mul-le-mul_right}
use Rattle.std.proofs.lemmas.Bool.{cases_lt, eqb-true, false≢true, lt-ltb, ltb-true}
use Rattle.std.proofs.lemmas.Grind.{flat_map-append}
use Rattle.std.proofs.lemmas.List.{append-nil, flat_map_more, length-append, map_push, take_all, take_more}
use Rattle.std.proofs.lemmas.List.Elements.{filter_agree}
use Rattle.std.proofs.lemmas.List.FromFn.{filter_of_map_range_with_len_more}
use Rattle.std.proofs.lemmas.List.Folds.{find_at}
use Rattle.std.proofs.lemmas.List.Sums.{passes_at_first}
use Rattle.std.proofs.lemmas.Nat.{div-mul-add}
use Rattle.std.proofs.lemmas.Option.{none-some, same_Some, slice_get_past}
use Rattle.shm_place.specs.declared.page_id.PageId.{PageId}
use Rattle.shm_model.specs.Book.{Running, orders_of}
use Rattle.shm_model.specs.Kernel.{is_destroyed}
use Rattle.shm_model.specs.Message.{Envelope}
use Rattle.shm_model.specs.Permission.{Segment}
use Rattle.shm_model.specs.SegmentCalls.{purge_envelope}
use Rattle.shm_model.specs.Site.{Site}
use Rattle.shm_model.specs.Step.{orders_again, purges_again}
use Rattle.shm_model.specs.Transfer.{order_envelope}
use Rattle.shm_model.specs.World.{preset_segment}
use Rattle.shm_keys.specs.Purge.{is_above}
use Rattle.shm_place.specs.SiteSet.{has}
use Rattle.shm_keys.specs.Table.{IsNumbered, is_purged_from}

-- all is sent behind what was there before, but for what is left
pub record IsSent {Y : Type 0} (before now left all : List Y) : Type 0 where
  pub done : List Y
  pub sent : now ≡ before ++ done
  pub rest : done ++ left ≡ all

-- one more was sent
pub is_sent_push : {E Y : Type 0} (f : E → Y) (before : List Y) (now next : List E) (e : E) (m : Y) (was left all : List Y) → IsSent before (map f now) was all → was ≡ m ∷ left → next ≡ now ++ e ∷ [] → f e ≡ m → IsSent before (map f next) left all
is_sent_push {Y = Y} f before now next e m was left all had first pushed is = record {
  done = had.done ++ m ∷ [];
  sent = ap (map f) pushed ∙ map_push f now e ∙ ap (λ (x : Y). map f now ++ x ∷ []) is ∙ ap (λ (l : List Y). l ++ m ∷ []) had.sent ∙ append_assoc before had.done (m ∷ []);
  rest = append_assoc had.done (m ∷ []) left ∙ ap (λ (l : List Y). had.done ++ l) (sym first) ∙ had.rest;
}

-- pages whose books don't run send nothing
pub idle_sends : (me : ℕ) (site : Site) (pages : List PageId) → AllByRecursion (λ p. (site.books p).running ≡ None) pages → flat_map (orders_again me site) pages ≡ []
idle_sends me site [] idle = refl
idle_sends me site (p ∷ ps) idle =
    ap (λ r. map (order_envelope me p (site.books p).number) (orders_of (site.books p) r) ++ flat_map (orders_again me site) ps) idle.0 ∙ idle_sends me site ps idle.1

-- what holds at each manager holds at this one
pub idle_for : (me : ℕ) (running : ℕ → PageId → Option Running) (pages : List PageId) → AllByRecursion (λ p. (manager : ℕ) → running manager p ≡ None) pages → AllByRecursion (λ p. running me p ≡ None) pages
idle_for me running [] h = h
idle_for me running (p ∷ ps) h = (h.0 me, idle_for me running ps h.1)

-- what the running transactions ask for was sent again, but for the pages that are left
abbrev pub OrdersSent : ℕ → Site → List Envelope → List Envelope → List PageId → Type 0
OrdersSent me site before now left = IsSent before now (flat_map (orders_again me site) left) (flat_map (orders_again me site) site.booked)

pub orders_none : (me : ℕ) (site : Site) (before now : List Envelope) → now ≡ before → OrdersSent me site before now site.booked
orders_none me site before now same = record { done = []; sent = same ∙ sym (append-nil before); rest = refl }

pub orders_more : (me : ℕ) (site : Site) (before now next : List Envelope) (left between right : List PageId) (page : PageId) → OrdersSent me site before now left → left ≡ between ++ page ∷ right
    → AllByRecursion (λ p. (site.books p).running ≡ None) between → next ≡ now ++ orders_again me site page → OrdersSent me site before next right
orders_more me site before now next left between right page had parts idle sent =
    let f : PageId → List Envelope = orders_again me site in
    record {
      done = had.done ++ f page;
      sent = sent ∙ ap (λ ys. ys ++ f page) had.sent ∙ append_assoc before had.done (f page);
      rest = append_assoc had.done (f page) (flat_map f right)
          ∙ ap (λ ys. had.done ++ ys) (sym (ap (flat_map f) parts ∙ flat_map-append f between (page ∷ right) ∙ ap (λ ys. ys ++ flat_map f (page ∷ right)) (idle_sends me site between idle)))
          ∙ had.rest;
    }

pub orders_fewer : (left between right : List PageId) (page : PageId) → left ≡ between ++ page ∷ right → length right < length left
orders_fewer left between right page parts =
    let whole : length left ≡ length between + length (page ∷ right) = ap length parts ∙ length-append between (page ∷ right) in
    omega (arith, whole)

pub orders_done : (me : ℕ) (site : Site) (before now : List Envelope) (left : List PageId) → OrdersSent me site before now left → AllByRecursion (λ p. (site.books p).running ≡ None) left
    → now ≡ before ++ flat_map (orders_again me site) site.booked
orders_done me site before now left had idle =
    had.sent ∙ ap (λ ys. before ++ ys) (sym (append-nil had.done) ∙ ap (λ ys. had.done ++ ys) (sym (idle_sends me site left idle)) ∙ had.rest)

-- the sites below n that pass
unfoldable pub passing : (ℕ → Bool) → ℕ → List ℕ
passing p n = filter p (map (λ s. s) (range_with_len 0 n))

map_same : (xs : List ℕ) → map (λ x. x) xs ≡ xs
map_same [] = refl
map_same (x ∷ xs) = ap (λ ys. x ∷ ys) (map_same xs)

pub passing_all : (p : ℕ → Bool) (n : ℕ) → passing p n ≡ filter p (range_with_len 0 n)
unfolding passing
passing_all p n = ap (filter p) (map_same (range_with_len 0 n))

passing_more : (p : ℕ → Bool) (n : ℕ) → passing p (n + 1) ≡ passing p n ++ cond (p n) (n ∷ []) []
unfolding passing
passing_more p n = filter_of_map_range_with_len_more p (λ s. s) 0 n n (omega arith)

pub sent_none : {Y : Type 0} (f : ℕ → Y) (p : ℕ → Bool) (before : List Y) → before ≡ before ++ map f (passing p 0)
unfolding passing
sent_none f p before = sym (append-nil before)

pub sent_here : {Y : Type 0} (f : ℕ → Y) (p : ℕ → Bool) (before now : List Y) (n : ℕ) → now ≡ before ++ map f (passing p n) → p n ≡ true → now ++ f n ∷ [] ≡ before ++ map f (passing p (n + 1))
sent_here f p before now n so_far here =
    ap (λ ys. ys ++ f n ∷ []) so_far ∙ append_assoc before (map f (passing p n)) (f n ∷ [])
    ∙ ap (λ ys. before ++ ys) (sym (map_push f (passing p n) n) ∙ ap (map f) (ap (λ b. passing p n ++ cond b (n ∷ []) []) (sym here) ∙ sym (passing_more p n)))

pub sent_not_here : {Y : Type 0} (f : ℕ → Y) (p : ℕ → Bool) (before now : List Y) (n : ℕ) → now ≡ before ++ map f (passing p n) → p n ≡ false → now ≡ before ++ map f (passing p (n + 1))
sent_not_here f p before now n so_far not_here =
    so_far ∙ ap (λ ys. before ++ map f ys) (sym (append-nil (passing p n)) ∙ ap (λ b. passing p n ++ cond b (n ∷ []) []) (sym not_here) ∙ sym (passing_more p n))

-- elements that give nothing
flat_idle : {X Y : Type 0} (f : X → List Y) (xs : List X) (d : X) (from to n : ℕ) → from + n ≡ to → ((k : ℕ) → from ≤ k → k < to → k < length xs → f (get_or xs k d) ≡ []) → flat_map f (take to xs) ≡ flat_map f (take from xs)
flat_idle f xs d from to zero e idle = ap (λ k. flat_map f (take k xs)) (omega (arith, e))
flat_idle f xs d from to (suc n) e idle =
    let next : to ≡ from + n + 1 = omega (arith, e) in
    let before = flat_idle f xs d from (from + n) n refl (λ k ge lt inside. idle k ge (omega (arith, lt, e)) inside) in
    ap (λ k. flat_map f (take k xs)) next
    ∙ ⊎_elim (λ (lt : from + n < length xs).
    ap (flat_map f) (take_more xs (from + n) d lt) ∙ flat_map-append f (take (from + n) xs) (get_or xs (from + n) d ∷ [])
    ∙ ap (λ ys. flat_map f (take (from + n) xs) ++ (ys ++ [])) (idle (from + n) (omega arith) (omega (arith, e)) lt) ∙ append-nil (flat_map f (take (from + n) xs)) ∙ before)
    (λ (past : length xs ≤ from + n). ap (flat_map f) (take_all (from + n + 1) xs (omega (arith, past)) ∙ sym (take_all (from + n) xs past)) ∙ before)
    (cases_lt (from + n) (length xs))

filter_none : (p : ℕ → Bool) (xs : List ℕ) → ((x : ℕ) → p x ≡ false) → filter p xs ≡ []
filter_none p [] none = refl
filter_none p (x ∷ xs) none = rw (none x) (filter_none p xs none)

quiet : (sites me : ℕ) (site : Site) (g : Segment) → ((s : ℕ) → site.missing g.id s ≡ false) → purges_again sites me site g ≡ []
quiet sites me site g none = ap (map (purge_envelope me g.id)) (filter_none (site.missing g.id) (range_with_len 0 sites) none)

not_true : (b : Bool) → (b ≡ true → ⊥) → b ≡ false
not_true true h = absurd (h refl)
not_true false h = refl

-- how many segments a tick has passed, after the purges of this one
abbrev pub passed : ℕ → Option ℕ → ℕ
passed sites None = 0
passed sites (Some id) = id / sites + 1

-- the purges up to a segment of this home, and its own, were sent
pub record PurgesSent (home sites me : ℕ) (site : Site) (before now : List Envelope) (last : Option ℕ) : Type 0 where
  pub sent : now ≡ before ++ flat_map (purges_again sites me site) (take (passed sites last) site.table)
  pub within : passed sites last ≤ length site.table
  pub own : (a : ℕ) → last ≡ Some a → a ≡ a / sites * sites + home

record Place (home sites id : ℕ) (segments : List Segment) (d : Segment) : Type 0 where
  within : id / sites < length segments
  own : (get_or segments (id / sites) d).id ≡ id
  value : id ≡ id / sites * sites + home

place_of : (home sites id : ℕ) (segments : List Segment) (d : Segment) → IsNumbered home sites segments → is_purged_from segments id ≡ true → Place home sites id segments d
place_of home sites id segments d n gone =
    let test : Segment → Bool = λ g. id == g.id in
    let first : ℕ = position_or_len test segments in
    ⊎_elim (λ (lt : first < length segments).
    let same : id ≡ (get_or segments first d).id = eqb-true id (get_or segments first d).id (passes_at_first test segments d lt) in
    let value : id ≡ first * sites + home = same ∙ n.each first d lt in
    let place : id / sites ≡ first = ap (λ m. m / sites) value ∙ div-mul-add first sites home n.below in
    record { within = rw place lt; own = rw place (sym same); value = value ∙ ap (λ m. m * sites + home) (sym place) })
    (λ (past : length segments ≤ first). absurd (false≢true (sym (ap is_destroyed (find_at test segments ∙ slice_get_past segments first past)) ∙ gone)))
    (cases_lt first (length segments))

above_passed : (home sites : ℕ) (last : Option ℕ) (k : ℕ) → home < sites → ((a : ℕ) → last ≡ Some a → a ≡ a / sites * sites + home) → passed sites last ≤ k → is_above last (k * sites + home) ≡ true
above_passed home sites None k b own le = refl
above_passed home sites (Some a) k b own le =
    lt-ltb a (k * sites + home) (let lt : a / sites < k = omega (arith, le) in let rows = mul-le-mul_right sites lt in let value = own a refl in omega (arith, rows, value, b))

passed_above : (home sites : ℕ) (last : Option ℕ) (id : ℕ) → home < sites → ((a : ℕ) → last ≡ Some a → a ≡ a / sites * sites + home) → id ≡ id / sites * sites + home → is_above last id ≡ true → passed sites last ≤ id / sites
passed_above home sites None id b own value above = omega arith
passed_above home sites (Some a) id b own value above =
    ⊎_elim (λ (lt : a / sites < id / sites). omega (arith, lt))
    (λ (ge : id / sites ≤ a / sites). absurd (let rows = mul-le-mul_right sites ge in let less = ltb-true a id above in let other = own a refl in omega (arith, rows, less, other, value)))
    (cases_lt (a / sites) (id / sites))

nothing_between : (home sites me : ℕ) (site : Site) (last : Option ℕ) (limit : ℕ) → IsNumbered home sites site.table → ((a : ℕ) → last ≡ Some a → a ≡ a / sites * sites + home) → passed sites last ≤ limit
    → ((k s : ℕ) → k < limit → is_above last (k * sites + home) ≡ true → site.missing (k * sites + home) s ≡ true → ⊥)
    → flat_map (purges_again sites me site) (take limit site.table) ≡ flat_map (purges_again sites me site) (take (passed sites last) site.table)
nothing_between home sites me site last limit n own le none =
    let d : Segment = preset_segment 0 0 in
    flat_idle (purges_again sites me site) site.table d (passed sites last) limit (limit - passed sites last) (omega (arith, le))
    (λ k ge lt inside. quiet sites me site (get_or site.table k d) (λ s. ap (λ i. site.missing i s) (n.each k d inside) ∙ not_true (site.missing (k * sites + home) s) (none k s lt (above_passed home sites last k n.below own ge))))

pub purges_none : (home sites me : ℕ) (site : Site) (before now : List Envelope) → now ≡ before → PurgesSent home sites me site before now None
purges_none home sites me site before now e = record { sent = e ∙ sym (append-nil before); within = omega arith; own = λ a h. absurd (none-some a h) }

pub purges_more : (home sites me : ℕ) (site : Site) (before now next : List Envelope) (last : Option ℕ) (id : ℕ) (set : List Bool) → IsNumbered home sites site.table → PurgesSent home sites me site before now last
    → is_above last id ≡ true → ((i s : ℕ) → is_above last i ≡ true → site.missing i s ≡ true → id ≤ i) → ((s : ℕ) → has set s ≡ site.missing id s) → is_purged_from site.table id ≡ true
    → next ≡ now ++ map (purge_envelope me id) (filter (has set) (range_with_len 0 sites)) → PurgesSent home sites me site before next (Some id)
purges_more home sites me site before now next last id set n had above least members gone sent =
    let f : Segment → List Envelope = purges_again sites me site in
    let d : Segment = preset_segment 0 0 in
    let place = place_of home sites id site.table d n gone in
    let from : passed sites last ≤ id / sites = passed_above home sites last id n.below had.own place.value above in
    let before_it : flat_map f (take (id / sites) site.table) ≡ flat_map f (take (passed sites last) site.table) = nothing_between home sites me site last (id / sites) n had.own from
    (λ k s lt over miss. let no_more = least (k * sites + home) s over miss in let rows = mul-le-mul_right sites lt in let value = place.value in let below = n.below in omega (arith, no_more, rows, value, below)) in
    let here : f (get_or site.table (id / sites) d) ≡ map (purge_envelope me id) (filter (has set) (range_with_len 0 sites)) =
    ap (λ i. map (purge_envelope me i) (filter (site.missing i) (range_with_len 0 sites))) place.own ∙ ap (map (purge_envelope me id)) (filter_agree (site.missing id) (has set) (λ s. sym (members s)) (range_with_len 0 sites)) in
    record {
      sent = sent ∙ ap (λ ys. ys ++ map (purge_envelope me id) (filter (has set) (range_with_len 0 sites))) (had.sent ∙ ap (λ ys. before ++ ys) (sym before_it))
          ∙ ap (λ ys. (before ++ flat_map f (take (id / sites) site.table)) ++ ys) (sym here) ∙ flat_map_more f before (take (id / sites) site.table) (get_or site.table (id / sites) d)
          ∙ ap (λ ys. before ++ flat_map f ys) (sym (take_more site.table (id / sites) d place.within));
      within = let h = place.within in omega (arith, h);
      own = λ a h. subst (λ m. m ≡ m / sites * sites + home) (same_Some id a h) place.value;
    }

pub purges_fewer : (home sites me : ℕ) (site : Site) (before now : List Envelope) (last : Option ℕ) (id : ℕ) → IsNumbered home sites site.table → PurgesSent home sites me site before now last → is_above last id ≡ true → is_purged_from site.table id ≡ true
    → length site.table - passed sites (Some id) < length site.table - passed sites last
purges_fewer home sites me site before now last id n had above gone =
    let place = place_of home sites id site.table (preset_segment 0 0) n gone in
    let from : passed sites last ≤ id / sites = passed_above home sites last id n.below had.own place.value above in
    let inside = place.within in omega (arith, from, inside)

pub purges_done : (home sites me : ℕ) (site : Site) (before now : List Envelope) (last : Option ℕ) → IsNumbered home sites site.table → PurgesSent home sites me site before now last
    → ((i s : ℕ) → is_above last i ≡ true → site.missing i s ≡ true → ⊥) → now ≡ before ++ flat_map (purges_again sites me site) site.table
purges_done home sites me site before now last n had none =
    had.sent ∙ ap (λ ys. before ++ ys)
    (sym (nothing_between home sites me site last (length site.table) n had.own had.within (λ k s lt over miss. none (k * sites + home) s over miss))
    ∙ ap (flat_map (purges_again sites me site)) (take_all (length site.table) site.table (omega arith)))
