-- A picture's scenes are those of the run, and each envelope's origin is the event that sent it.
use Rattle.std.proofs.Common.{◌≡◌, ◌∙◌, ◌⊎◌, ℕ, zero, suc, ◌+◌, ◌-◌, ◌≤◌, ◌<◌, Bool, true, false, List, [], ◌∷◌, ◌++◌, length, length-append, replicate, Option, Some, None, refl, sym, ap, subst, append_assoc, append-nil, arith, inl, inr, if◌then◌else◌, nat_lt, slice_get, slice_index, Contains}
use Rattle.std.proofs.lemmas.List.Elements.{Contains-append_cases}
use Rattle.std.proofs.lemmas.List.{get_or_append_left, get_or-append_right, get_or-replicate, length-replicate}
use Rattle.std.proofs.lemmas.Option.{get_or_from_slice_get, slice_get_within, slice_get-get_or}
use Rattle.std.proofs.lemmas.Bool.{cases_lt}
use Rattle.std.specs.List.{flat_map, range_with_len}
use Rattle.std.specs.Option.{option_to_list}
use Rattle.shm_place.specs.declared.page_id.PageId.{PageId}
use Rattle.shm_place.specs.Page.{same_page}
use Rattle.shm_model.specs.declared.event.Event.{Event}
use Rattle.shm_model.specs.declared.event.Event.TheVariants.{Load, Store, Begin, Tick, Restart, Deliver, Repeat, Lose}
use Rattle.shm_model.specs.Message.{Envelope}
use Rattle.shm_model.specs.World.{Opening, World, live, next, opened, run}
use Rattle.shm_world.proofs.Runs.{run-then}
use Rattle.shm_draw.specs.Arrows.{IsWayOf, Passes, SentBy, scene_of}
use Rattle.shm_draw.specs.Picture.{Scene, about, about_envelope, first_scene, is_of, last_scene, live_way, mark, mark_on, on_their_way, origins_after, own_mark, page_of, passed, scene_after, way, word_of}
use Rattle.shm_draw.specs.declared.mark_kinds.End.{End}
use Rattle.shm_draw.specs.declared.mark_kinds.End.TheVariants.{HandedOver, Repeated, Lost, OnItsWay}
use Rattle.shm_draw.specs.declared.mark_kinds.Mark.{Mark}
use Rattle.shm_draw.specs.declared.mark_kinds.Mark.TheVariants.{At, Arrow, Elsewhere, Nowhere}
use Rattle.shm_draw.specs.declared.mark_kinds.Symbol.{Symbol}
use Rattle.shm_draw.specs.declared.mark_kinds.Symbol.TheVariants.{Request, Tick as TickSymbol, Restart as RestartSymbol}
use Rattle.shm_draw.specs.declared.mark_kinds.Way.{Way}
use Rattle.shm_draw.proofs.Senders.{from-at, next-sends}

-- ---- one event more

pub last_scene-append : (s : Scene) (earlier later : List Event) → last_scene s (earlier ++ later) ≡ last_scene (last_scene s earlier) later
last_scene-append s [] later = refl
last_scene-append s (e ∷ earlier) later = last_scene-append (scene_after s e) earlier later

-- an event that sent an envelope did so, whatever comes later
sent_then : (o : Opening) (events : List Event) (e : Event) (origin number site : ℕ) → SentBy o events origin number site → SentBy o (events ++ e ∷ []) origin number site
sent_then o events e origin number site s = record {
  earlier = s.earlier;
  event = s.event;
  later = s.later ++ e ∷ [];
  order = ap (λ es. es ++ e ∷ []) s.order ∙ append_assoc s.earlier (s.event ∷ s.later) (e ∷ []);
  numbered = s.numbered;
  unsent = s.unsent;
  sent = s.sent;
  step_of = s.step_of;
}

-- the scene that stands after these events
pub record Traced (o : Opening) (events : List Event) (s : Scene) : Type 0 where
  pub world : s.world ≡ (run o events).world
  pub number : s.number ≡ length events + 1
  pub counted : length s.origins ≡ length s.world.sent
  pub origins : (k : ℕ) (e : Envelope) → slice_get s.world.sent k ≡ Some e → SentBy o events (slice_index s.origins k) k e.from

-- what is in a list that others join
old_or_new : (xs ys : List Envelope) (k : ℕ) (e : Envelope) → slice_get (xs ++ ys) k ≡ Some e
    → ((k < length xs) × (slice_get xs k ≡ Some e)) ⊎ ((length xs ≤ k) × (k < length xs + length ys) × (slice_get ys (k - length xs) ≡ Some e))
old_or_new xs ys k e h =
    let within : k < length (xs ++ ys) = slice_get_within (xs ++ ys) k e h in
    let same = get_or_from_slice_get (xs ++ ys) k e e h in
    elim (cases_lt k (length xs)) [
      | inl low ↦ inl (low, slice_get-get_or xs k e low ∙ ap Some (sym (get_or_append_left xs ys e k low) ∙ same))
      | inr high ↦
          let less : k < length xs + length ys = omega (arith, within, length-append xs ys) in
          let there : k - length xs < length ys = omega (arith, less, high) in
          inr (high, less, slice_get-get_or ys (k - length xs) e there ∙ ap Some (sym (get_or-append_right xs ys (length xs) k e refl high) ∙ same))
    ]

sent_now : (o : Opening) (events : List Event) (e : Event) (w : World) (number k site : ℕ) → w ≡ (run o events).world → number ≡ length events + 1 → length w.sent ≤ k
    → k < length (next w e).world.sent → site ≡ (next w e).done.site → SentBy o (events ++ e ∷ []) number k site
sent_now o events e w number k site same numbered low high from = record {
  earlier = events;
  event = e;
  later = [];
  order = refl;
  numbered = numbered;
  unsent = subst (λ (v : World). length v.sent ≤ k) same low;
  sent = subst (λ (v : World). k < length (next v e).world.sent) same high;
  step_of = ap (λ (v : World). (next v e).done.site) (sym same) ∙ sym from;
}

traced_next : (o : Opening) (events : List Event) (s : Scene) (e : Event) → Traced o events s → Traced o (events ++ e ∷ []) (scene_after s e)
traced_next o events s e t =
    let w = s.world in
    let n = next s.world e in
    let m = next-sends s.world e in
    let d = length (next s.world e).world.sent - length s.origins in
    let rep = replicate (length (next s.world e).world.sent - length s.origins) s.number in
    let now = s.origins ++ replicate (length (next s.world e).world.sent - length s.origins) s.number in
    let many : length (next s.world e).world.sent ≡ length s.world.sent + length m.more = ap length m.sent ∙ length-append s.world.sent m.more in
    record {
      world = ap (λ (v : World). (next v e).world) t.world ∙ sym (run-then o events (e ∷ []));
      number = omega (arith, t.number, length-append events (e ∷ []));
      counted = omega (arith, length-append s.origins rep, length-replicate d s.number, many, t.counted);
      origins = λ k sent h.
          let there : slice_get (s.world.sent ++ m.more) k ≡ Some sent = subst (λ xs. slice_get xs k ≡ Some sent) m.sent h in
          elim (old_or_new s.world.sent m.more k sent there) [
            | inl p ↦
                let below : k < length s.origins = omega (arith, p.0, t.counted) in
                let same : slice_index now k ≡ slice_index s.origins k = get_or_append_left s.origins rep 0 k below in
                subst (λ i. SentBy o (events ++ e ∷ []) i k sent.from) (sym same)
                (sent_then o events e (slice_index s.origins k) k sent.from (t.origins k sent p.1))
            | inr p ↦
                let above : length s.origins ≤ k = omega (arith, p.0, t.counted) in
                let high : k < length (next s.world e).world.sent = omega (arith, p.1, many) in
                let less : k - length s.origins < d = omega (arith, high, above) in
                let same : slice_index now k ≡ s.number =
                get_or-append_right s.origins rep (length s.origins) k 0 refl above ∙ get_or-replicate d (k - length s.origins) s.number 0 less in
                let from : sent.from ≡ n.done.site = from-at n.done.site m.more (k - length s.world.sent) sent m.own p.2 in
                subst (λ i. SentBy o (events ++ e ∷ []) i k sent.from) (sym same)
                (sent_now o events e s.world s.number k sent.from t.world t.number p.0 high from)
          ];
    }

traced_on : (o : Opening) (earlier later : List Event) (s : Scene) → Traced o earlier s → Traced o (earlier ++ later) (last_scene s later)
traced_on o earlier [] s t = subst (λ es. Traced o es s) (sym (append-nil earlier)) t
traced_on o earlier (e ∷ later) s t =
    subst (λ es. Traced o es (last_scene (scene_after s e) later)) (append_assoc earlier (e ∷ []) later)
    (traced_on o (earlier ++ e ∷ []) later (scene_after s e) (traced_next o earlier s e t))

pub traced : (o : Opening) (events : List Event) → Traced o events (scene_of o events)
traced o events = traced_on o [] events (first_scene (opened o)) (record { world = refl; number = refl; counted = refl; origins = λ k e h. absurd (cc) })

-- ---- arrows

still_there : (w : World) (k : ℕ) (gone : Bool) (e : Envelope) → (if gone then None else slice_get w.sent k) ≡ Some e → slice_get w.sent k ≡ Some e
still_there w k true e h = absurd (cc)
still_there w k false e h = h

abbrev way_at : Scene → ℕ → Envelope → Way
way_at s k e = way s.origins k e

is_way : (page : PageId) (o : Opening) (events : List Event) (s : Scene) (k : ℕ) (e : Envelope) → Traced o events s → live s.world k ≡ Some e → is_of page (page_of e.message) ≡ true
    → IsWayOf page o events (way_at s k e)
is_way page o events s k e t h of = record {
  envelope = e;
  live = ap (λ (w : World). live w k) (sym t.world) ∙ h;
  of_page = of;
  from = refl;
  to = refl;
  word = refl;
  sent = t.origins k e (still_there s.world k (s.world.gone k) e h);
}

-- what an arrow is, where it is of an envelope that was passed
record IsArrow (page : PageId) (o : Opening) (events : List Event) (k : ℕ) (ended : End) (w : Way) (end : End) : Type 0 where
  same : w.number ≡ k
  ends : end ≡ ended
  is : IsWayOf page o events w

passed_is : (page : PageId) (o : Opening) (events : List Event) (s : Scene) (k : ℕ) (found : Option Envelope) (ended : End) (w : Way) (end : End) → Traced o events s
    → live s.world k ≡ found → is_of page (about_envelope found) ≡ true → passed s.origins k found ended ≡ Arrow w end → IsArrow page o events k ended w end
passed_is page o events s k None ended w end t h of is = absurd (cc)
passed_is page o events s k (Some e) ended w end t h of is =
    let same : way_at s k e ≡ w = cc in
    let ends : ended ≡ end = cc in
    record {
      same = ap (λ (x : Way). x.number) (sym same);
      ends = sym ends;
      is = subst (IsWayOf page o events) same (is_way page o events s k e t h of);
    }

hands_over : (page : PageId) (o : Opening) (events : List Event) (k : ℕ) (ended : End) (event : Event) (w : Way) (end : End) → Passes event k ended → IsArrow page o events k ended w end
    → Passes event w.number end × IsWayOf page o events w
hands_over page o events k ended event w end p a = (
  subst (λ x. Passes event w.number x) (sym a.ends) (subst (λ n. Passes event n ended) (sym a.same) p),
  a.is,
)

not_at : (b : Bool) (site : ℕ) (y : Symbol) (w : Way) (end : End) → (if b then At site y else Nowhere) ≡ Arrow w end → ⊥
not_at true site y w end h = absurd (cc)
not_at false site y w end h = absurd (cc)

-- what is an arrow on a page's picture is one, and is of that page
arrow_there : (page : PageId) (of : Option PageId) (m : Mark) (w : Way) (end : End) → mark_on page of m ≡ Arrow w end → (is_of page of ≡ true) × (m ≡ Arrow w end)
arrow_there page None m w end h = (refl, h)
arrow_there page (Some other) m w end h = picked (same_page page other) h
  where
    picked : (b : Bool) → (if b then m else Elsewhere other) ≡ Arrow w end → (b ≡ true) × (m ≡ Arrow w end)
    picked true is = (refl, is)
    picked false is = absurd (cc)

own_is : (page : PageId) (o : Opening) (events : List Event) (s : Scene) (event : Event) (w : Way) (end : End) → Traced o events s
    → is_of page (about s.world event) ≡ true → own_mark s.world s.origins event ≡ Arrow w end → Passes event w.number end × IsWayOf page o events w
own_is page o events s (Load site at offset) w end t of is = absurd (not_at (nat_lt site s.world.count) site Request w end is)
own_is page o events s (Store site at offset byte) w end t of is = absurd (not_at (nat_lt site s.world.count) site Request w end is)
own_is page o events s (Begin site request) w end t of is = absurd (not_at (nat_lt site s.world.count) site Request w end is)
own_is page o events s (Tick site) w end t of is = absurd (not_at (nat_lt site s.world.count) site TickSymbol w end is)
own_is page o events s (Restart site) w end t of is = absurd (not_at (nat_lt site s.world.count) site RestartSymbol w end is)
own_is page o events s (Deliver k) w end t of is =
    hands_over page o events k HandedOver (Deliver k) w end refl (passed_is page o events s k (live s.world k) HandedOver w end t refl of is)
own_is page o events s (Repeat k) w end t of is =
    hands_over page o events k Repeated (Repeat k) w end refl (passed_is page o events s k (live s.world k) Repeated w end t refl of is)
own_is page o events s (Lose k) w end t of is =
    hands_over page o events k Lost (Lose k) w end refl (passed_is page o events s k (live s.world k) Lost w end t refl of is)

pub mark_is : (page : PageId) (o : Opening) (events : List Event) (s : Scene) (event : Event) (w : Way) (end : End) → Traced o events s
    → mark page s.world s.origins event ≡ Arrow w end → Passes event w.number end × IsWayOf page o events w
mark_is page o events s event w end t is =
    let there = arrow_there page (about s.world event) (own_mark s.world s.origins event) w end is in
    own_is page o events s event w end t there.0 there.1

-- ---- none is missing

stays_there : (page : PageId) (of : Option PageId) (m : Mark) → is_of page of ≡ true → mark_on page of m ≡ m
stays_there page None m h = refl
stays_there page (Some other) m h = ap (λ b. if b then m else Elsewhere other) h

drawn_there : (page : PageId) (s : Scene) (k : ℕ) (e : Envelope) (found : Option Envelope) (ended : End) → found ≡ Some e → is_of page (page_of e.message) ≡ true
    → mark_on page (about_envelope found) (passed s.origins k found ended) ≡ Arrow (way_at s k e) ended
drawn_there page s k e found ended f d =
    ap (λ x. mark_on page (about_envelope x) (passed s.origins k x ended)) f ∙ stays_there page (page_of e.message) (Arrow (way_at s k e) ended) d

pub has_arrow : (page : PageId) (s : Scene) (event : Event) (k : ℕ) (end : End) (e : Envelope) → Passes event k end → live s.world k ≡ Some e
    → is_of page (page_of e.message) ≡ true → (w : Way) × (mark page s.world s.origins event ≡ Arrow w end) × (w.number ≡ k)
has_arrow page s event k HandedOver e p h d =
    (way_at s k e, ap (mark page s.world s.origins) p ∙ drawn_there page s k e (live s.world k) HandedOver h d, refl)
has_arrow page s event k Repeated e p h d =
    (way_at s k e, ap (mark page s.world s.origins) p ∙ drawn_there page s k e (live s.world k) Repeated h d, refl)
has_arrow page s event k Lost e p h d =
    (way_at s k e, ap (mark page s.world s.origins) p ∙ drawn_there page s k e (live s.world k) Lost h d, refl)
has_arrow page s event k OnItsWay e p h d = absurd p

-- ---- what is still on its way

live_way_is : (page : PageId) (o : Opening) (events : List Event) (s : Scene) (k : ℕ) (found : Option Envelope) (w : Way) → Traced o events s → live s.world k ≡ found
    → live_way page s.origins k found ≡ Some w → IsWayOf page o events w
live_way_is page o events s k None w t h is = absurd (cc)
live_way_is page o events s k (Some e) w t h is = shown_is (is_of page (page_of e.message)) refl is
  where
    shown_is : (b : Bool) → is_of page (page_of e.message) ≡ b → (if b then Some (way_at s k e) else None) ≡ Some w → IsWayOf page o events w
    shown_is true of same =
        let here : way_at s k e ≡ w = cc in
        subst (IsWayOf page o events) here (is_way page o events s k e t h of)
    shown_is false of same = absurd (cc)

none_there : {X : Type 0} (x : X) → Contains [] x → ⊥
none_there x h = let no : h.0 < 0 = h.1 in omega (arith, no)

-- an element of a list of lists in a row is in one of them
in_a_row : {X : Type 0} (P : X → Type 0) (f : ℕ → List X) → ((k : ℕ) (x : X) → Contains (f k) x → P x) → (ks : List ℕ) (x : X) → Contains (flat_map f ks) x → P x
in_a_row P f all [] x h = absurd (none_there x h)
in_a_row P f all (k ∷ ks) x h = elim (Contains-append_cases (f k) (flat_map f ks) x h) [
  | inl first ↦ all k x first
  | inr others ↦ in_a_row P f all ks x others
]

one_there : {X : Type 0} (o : Option X) (x : X) → Contains (option_to_list o) x → o ≡ Some x
one_there None x h = absurd (none_there x h)
one_there (Some y) x (zero, within, same) = ap Some same
one_there (Some y) x (suc k, within, same) = let no : suc k < 1 = within in absurd (omega (arith, no))

pub flying_is : (page : PageId) (o : Opening) (events : List Event) (s : Scene) (w : Way) → Traced o events s → Contains (on_their_way page s.world s.origins) w → IsWayOf page o events w
flying_is page o events s w t h =
    in_a_row (IsWayOf page o events) (λ k. option_to_list (live_way page s.origins k (live s.world k)))
    (λ k x found. live_way_is page o events s k (live s.world k) x t refl (one_there (live_way page s.origins k (live s.world k)) x found))
    (range_with_len 0 (length s.world.sent)) w h
