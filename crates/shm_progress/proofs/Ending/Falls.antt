-- The measure falls with each delivery, and so bounds how many there can be.
use Rattle.std.proofs.Common.{◌≡◌, ◌≢◌, ℕ, ◌+◌, ◌*◌, ◌<◌, ◌≤◌, ◌⊎◌, inl, inr, Bool, true, false, if◌then◌else◌, Option, Some, None, List, [], ◌∷◌, ◌++◌, IsTrue, is_some, length, slice_get, slice_set, sum_by, count_by, arith, refl, sym, ◌∙◌, ap, subst}
use Rattle.std.proofs.lemmas.Bool.{cases_eq, cond_both}
use Rattle.std.proofs.lemmas.Option.{get_or_from_slice_get, slice_get-get_or, slice_get_within}
use Rattle.shm_model.specs.declared.event.Event.{Event}
use Rattle.shm_model.specs.declared.event.Event.TheVariants.{Deliver as DeliverEvent}
use Rattle.shm_model.specs.Message.{Envelope, Message, Of, Call, Replies, Purge, Purged, Deliver}
use Rattle.shm_model.specs.Site.{Site, Step}
use Rattle.shm_model.specs.Step.{deliver as site_deliver}
use Rattle.shm_model.specs.World.{Next, Opening, Run, World, begun, deliver, extended, is_full, live, next, run, step_site, stepped, without}
use Rattle.shm_laws.proofs.Page.Orders.{each-imp}
use Rattle.shm_laws.proofs.Run.GoesOn.{run_on-append}
use Rattle.shm_laws.proofs.Sound.{set-here, set-there}
use Rattle.shm_progress.specs.Deliveries.{AreOnTheirWay, deliveries_left, is_unserved, may_serve_at, may_serve_message, message_deliveries, not_gone, on_their_way, transaction_deliveries, unserved_asks}
use Rattle.shm_progress.proofs.Ending.Sums.{count-fewer, count-less, count-none, left-more, left-without}
use Rattle.shm_progress.proofs.Ending.Steps.{Cost, cheap, serves, DeliveryFalls, NoAsk, WaitingAsked, deliver-falls, some-delivery}
use Rattle.shm_progress.proofs.Ending.Waiting.{run-waits}

module _ (w : World) (k s : ℕ) (x : Site) (e : Envelope) (found : slice_get w.sites s ≡ Some x) (here : slice_get w.sent k ≡ Some e) (going : w.gone k ≡ false) where
  abbrev weigh : Envelope → ℕ
  weigh f = message_deliveries w.count f.message

  -- with what is sent anew, less is left of the envelopes
  way-left : (sent : List Envelope) → sum_by weigh (not_gone (without w k).gone 0 (w.sent ++ sent)) + weigh e ≤ sum_by weigh (on_their_way w) + sum_by weigh sent
  way-left sent =
      let more = left-more weigh (without w k).gone 0 w.sent sent in
      let less = left-without weigh w.gone 0 k k w.sent e here (omega arith) going in
      omega (arith, more, less)

  -- a site's step leaves no request unserved that was served
  module _ (st : Step) (falls : DeliveryFalls w.count s w.sent x (weigh e) st) where
    kept-message : (from : ℕ) (m : Message) → may_serve_message st.site from m ≡ true → may_serve_message x from m ≡ true
    kept-message from (Of page note) h = falls.kept from page note h
    kept-message from (Call n op) h = h
    kept-message from (Replies n reply) h = h
    kept-message from (Purge id) h = h
    kept-message from (Purged id) h = h

    kept-at : (f : Envelope) (t : ℕ) → (t ≡ s) ⊎ (t ≢ s) → may_serve_at (slice_get (slice_set w.sites s st.site) t) f ≡ true → may_serve_at (slice_get w.sites t) f ≡ true
    kept-at f t (inl same) h =
        ap (λ u. may_serve_at (slice_get w.sites u) f) same ∙ (ap (λ y. may_serve_at y f) found
        ∙ kept-message f.from f.message (sym (ap (λ y. may_serve_at y f) (set-here w.sites s x st.site found)) ∙ (sym (ap (λ u. may_serve_at (slice_get (slice_set w.sites s st.site) u) f) same) ∙ h)))
    kept-at f t (inr other) h = ap (λ y. may_serve_at y f) (sym (set-there w.sites s t st.site other)) ∙ h

    still-unserved : (f : Envelope) → is_unserved (slice_set w.sites s st.site) f ≡ true → is_unserved w.sites f ≡ true
    still-unserved f h = kept-at f f.to (cases_eq f.to s) h

    no-ask-at : (f : Envelope) (found : Option Site) → NoAsk f → may_serve_at found f ≡ false
    no-ask-at f None none = refl
    no-ask-at f (Some y) none = none y

    new-served : count_by (is_unserved (slice_set w.sites s st.site)) (w.sent ++ st.sent) ≡ count_by (is_unserved (slice_set w.sites s st.site)) w.sent
    new-served =
        count-none (is_unserved (slice_set w.sites s st.site)) (is_unserved (slice_set w.sites s st.site)) w.sent st.sent
        (each-imp NoAsk (λ f. is_unserved (slice_set w.sites s st.site) f ≡ false) st.sent (λ f none. no-ask-at f (slice_get (slice_set w.sites s st.site) f.to) none) falls.sent)

    served-at : (a : Envelope) → a.to ≡ s → may_serve_message st.site a.from a.message ≡ false → is_unserved (slice_set w.sites s st.site) a ≡ false
    served-at a to h = ap (λ u. may_serve_at (slice_get (slice_set w.sites s st.site) u) a) to ∙ (ap (λ y. may_serve_at y a) (set-here w.sites s x st.site found) ∙ h)

    unserved-at : (a : Envelope) → a.to ≡ s → may_serve_message x a.from a.message ≡ true → is_unserved w.sites a ≡ true
    unserved-at a to h = ap (λ u. may_serve_at (slice_get w.sites u) a) to ∙ (ap (λ y. may_serve_at y a) found ∙ h)

    by-cost : Cost w.count s w.sent x st.site st.sent (weigh e)
        → sum_by weigh st.sent + transaction_deliveries * count_by (is_unserved (slice_set w.sites s st.site)) w.sent < weigh e + transaction_deliveries * unserved_asks w
    by-cost (cheap less) =
        let fewer : count_by (is_unserved (slice_set w.sites s st.site)) w.sent ≤ unserved_asks w =
        count-fewer (is_unserved w.sites) (is_unserved (slice_set w.sites s st.site)) w.sent still-unserved in
        omega (arith, less, fewer)
    by-cost (serves a (i, within, is) to was isn less) =
        let fewer : count_by (is_unserved (slice_set w.sites s st.site)) w.sent + 1 ≤ unserved_asks w =
        count-less (is_unserved w.sites) (is_unserved (slice_set w.sites s st.site)) w.sent i a (slice_get-get_or w.sent i a within ∙ ap Some is) still-unserved (unserved-at a to was) (served-at a to isn) in
        omega (arith, less, fewer)

    pub stepped-less : deliveries_left (stepped (without w k) s (Deliver e) st).world < deliveries_left w
    stepped-less =
        let way = way-left st.sent in
        let cost = by-cost falls.cost in
        let new = new-served in
        omega (arith, way, cost, new)

-- the delivery of an envelope that is on its way
module _ (w : World) (waits : (s : ℕ) (x : Site) → slice_get w.sites s ≡ Some x → WaitingAsked w.count s w.sent x) (k : ℕ) where
  gone-less : (e : Envelope) → slice_get w.sent k ≡ Some e → w.gone k ≡ false → deliveries_left (without w k) < deliveries_left w
  gone-less e here going =
      let less = left-without (λ (f : Envelope). message_deliveries w.count f.message) w.gone 0 k k w.sent e here (omega arith) going in
      let some = some-delivery w.count e.message in
      omega (arith, less, some)

  site-less : (found : Option Site) (e : Envelope) → slice_get w.sites e.to ≡ found → slice_get w.sent k ≡ Some e → w.gone k ≡ false
      → deliveries_left (step_site found (without w k) e.to (Deliver e)).world < deliveries_left w
  site-less None e found here going = gone-less e here going
  site-less (Some x) e found here going =
      cond_both (is_full (without w k)) _ _ (λ (n : Next). deliveries_left n.world < deliveries_left w) (λ h. gone-less e here going)
      (λ h. stepped-less w k e.to x e found here going (site_deliver w.count e.to e x)
      (deliver-falls w.count e.to w.sent x e (waits e.to x found) (k, slice_get_within w.sent k e here, get_or_from_slice_get w.sent k e e here) refl))

  live-parts : (e : Envelope) (gone : Bool) → (if gone then None else slice_get w.sent k) ≡ Some e → (gone ≡ false) × (slice_get w.sent k ≡ Some e)
  live-parts e true h = absurd (none-some e h)
    where
      none-some : (e : Envelope) → None ≡ Some e → ⊥
      none-some e h = cc
  live-parts e false h = (refl, h)

  live-less : (found : Option Envelope) → live w k ≡ found → is_some found ≡ true → deliveries_left (deliver found w k).world < deliveries_left w
  live-less None h some = cc
  live-less (Some e) h some = let parts = live-parts e (w.gone k) h in site-less (slice_get w.sites e.to) e refl parts.1 parts.0

pub counts : (o : Opening) (events : List Event) (k : ℕ) → IsTrue (is_some (live (run o events).world k))
    → deliveries_left (next (run o events).world (DeliverEvent k)).world < deliveries_left (run o events).world
counts o events k going =
    live-less (run o events).world (run-waits o events (run o events).world.count) k (live (run o events).world k) refl going

pub ends : (o : Opening) (events : List Event) (envelopes : List ℕ) → AreOnTheirWay (run o events).world envelopes → length envelopes ≤ deliveries_left (run o events).world
ends o events [] on_way = omega arith
ends o events (k ∷ ks) on_way =
    let less = counts o events k on_way.0 in
    let goes_on : run o (events ++ (DeliverEvent k ∷ [])) ≡ extended (run o events) (next (run o events).world (DeliverEvent k)) = run_on-append (begun o) events (DeliverEvent k ∷ []) in
    let rest = subst (λ (r : Run). AreOnTheirWay r.world ks → length ks ≤ deliveries_left r.world) goes_on (ends o (events ++ (DeliverEvent k ∷ [])) ks) on_way.1 in
    omega (arith, less, rest)
