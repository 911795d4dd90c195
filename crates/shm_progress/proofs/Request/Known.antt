-- What is known of the Asks that were sent, against what is pending at the site that sent them.
use Rattle.std.proofs.Common.{◌≡◌, ◌≢◌, ℕ, ◌<◌, ◌≤◌, ◌⊎◌, inl, inr, Some, List, [], ◌++◌, slice_get, slice_set, map, arith, refl, sym, ◌∙◌, ap, subst, Contains}
use Rattle.std.specs.List.{range_with_len}
use Rattle.std.proofs.lemmas.Bool.{cases_eq}
use Rattle.std.proofs.lemmas.Option.{slice_get_within}
use Rattle.std.proofs.lemmas.List.FromFn.{length-map-range_with_len}
use Rattle.std.proofs.lemmas.List.Elements.{Contains-append_cases}
use Rattle.shm_place.specs.declared.page_id.PageId.{PageId}
use Rattle.shm_model.specs.declared.event.Event.{Event}
use Rattle.shm_model.specs.declared.request_kind.Kind.{Kind}
use Rattle.shm_model.specs.Entry.{Ask}
use Rattle.shm_model.specs.Message.{Envelope, Input, Of}
use Rattle.shm_model.specs.Site.{Pending, Site, Step}
use Rattle.shm_model.specs.Step.{step}
use Rattle.shm_model.specs.World.{Framed, New, Opening, Preset, World, begun, opened_site, run, sites_of}
use Rattle.shm_laws.proofs.Run.Induction.{Kept, run-good}
use Rattle.shm_laws.proofs.Run.GoesOn.{slice_get-range}
use Rattle.shm_laws.proofs.Sound.{each-in, set-here, set-there}
use Rattle.shm_progress.proofs.Request.Asking.{Asking, AsksFor, step-asking}
use Rattle.shm_progress.proofs.Request.Once.{Once, none-in, once-same}

-- the envelope is this site's Ask
pub record IsAsk (s : ℕ) (q : PageId) (r : ℕ) (kind : Kind) (e : Envelope) : Type 0 where
  pub from : e.from ≡ s
  pub message : e.message ≡ Of q (Ask r kind)

-- requests are numbered, of each page one is pending, and what was sent is no newer than what is pending
pub record Known (sent : List Envelope) (s : ℕ) (x : Site) : Type 0 where
  pub once : Once x.pending
  pub low : (p : Pending) → Contains x.pending p → (1 ≤ p.request) × (p.request ≤ x.requests)
  pub asked : (e : Envelope) → Contains sent e → (q : PageId) (r : ℕ) (kind : Kind) → IsAsk s q r kind e → r ≤ x.requests
  pub behind : (p : Pending) → Contains x.pending p → (e : Envelope) → Contains sent e → (r : ℕ) (kind : Kind) → IsAsk s p.page r kind e → (r ≤ p.request) × (r ≡ p.request → kind ≡ p.kind)

abbrev pub AllKnown : World → Type 0
AllKnown w = (s : ℕ) (x : Site) → slice_get w.sites s ≡ Some x → Known w.sent s x

some-same : (x y : Site) → Some x ≡ Some y → x ≡ y
some-same x y e = cc

-- the site's own step
module _ (s : ℕ) (x : Site) (st : Step) (a : Asking s x st) (sent : List Envelope) (k : Known sent s x) where
  now-asked : (e : Envelope) → Contains st.sent e → (q : PageId) (r : ℕ) (kind : Kind) → e.message ≡ Of q (Ask r kind) → Contains st.site.pending (record { page = q; request = r; kind = kind })
  now-asked e here q r kind is = (each-in (AsksFor s st.site.pending) st.sent e a.sent here q r kind is).1

  now-low : (p : Pending) → Contains st.site.pending p → (1 ≤ p.request) × (p.request ≤ st.site.requests)
  now-low p here = by-before (a.before p here)
    where
      by-before : Contains x.pending p ⊎ ((x.requests < p.request) × (p.request ≤ st.site.requests)) → (1 ≤ p.request) × (p.request ≤ st.site.requests)
      by-before (inl was) = let parts = k.low p was in let first = parts.0 in let last = parts.1 in let more = a.grows in (first, omega (arith, last, more))
      by-before (inr (above, below)) = (omega (arith, above), below)

  pub own-known : Known (sent ++ st.sent) s st.site
  own-known = record {
    once = a.once k.once;
    low = now-low;
    asked = λ e here q r kind is. asked-by e q r kind is (Contains-append_cases sent st.sent e here);
    behind = λ p pending e here r kind is. behind-by p pending e r kind is (Contains-append_cases sent st.sent e here);
  }
    where
      asked-by : (e : Envelope) (q : PageId) (r : ℕ) (kind : Kind) → IsAsk s q r kind e → Contains sent e ⊎ Contains st.sent e → r ≤ st.site.requests
      asked-by e q r kind is (inl was) = let low = k.asked e was q r kind is in let more = a.grows in omega (arith, low, more)
      asked-by e q r kind is (inr now) = (now-low (record { page = q; request = r; kind = kind }) (now-asked e now q r kind is.message)).1

      behind-by : (p : Pending) → Contains st.site.pending p → (e : Envelope) (r : ℕ) (kind : Kind) → IsAsk s p.page r kind e → Contains sent e ⊎ Contains st.sent e → (r ≤ p.request) × (r ≡ p.request → kind ≡ p.kind)
      behind-by p pending e r kind is (inl was) = by-before (a.before p pending)
        where
          by-before : Contains x.pending p ⊎ ((x.requests < p.request) × (p.request ≤ st.site.requests)) → (r ≤ p.request) × (r ≡ p.request → kind ≡ p.kind)
          by-before (inl old) = k.behind p old e was r kind is
          by-before (inr (above, below)) = let low = k.asked e was p.page r kind is in (omega (arith, low, above), λ same. absurd (omega (arith, low, above, same)))
      behind-by p pending e r kind is (inr now) =
          let one = once-same st.site.pending (record { page = p.page; request = r; kind = kind }) p (a.once k.once) (now-asked e now p.page r kind is.message) pending refl in
          let request : r ≡ p.request = ap (λ (t : Pending). t.request) one in
          (omega (arith, request), λ same. ap (λ (t : Pending). t.kind) one)

-- another site's step
other-known : (s t : ℕ) (x y : Site) (st : Step) → Asking t y st → s ≢ t → (sent : List Envelope) → Known sent s x → Known (sent ++ st.sent) s x
other-known s t x y st a other sent k = record {
  once = k.once;
  low = k.low;
  asked = λ e here q r kind is. k.asked e (was e q r kind is (Contains-append_cases sent st.sent e here)) q r kind is;
  behind = λ p pending e here r kind is. k.behind p pending e (was e p.page r kind is (Contains-append_cases sent st.sent e here)) r kind is;
}
  where
    was : (e : Envelope) (q : PageId) (r : ℕ) (kind : Kind) → IsAsk s q r kind e → Contains sent e ⊎ Contains st.sent e → Contains sent e
    was e q r kind is (inl before) = before
    was e q r kind is (inr now) = absurd (other (sym is.from ∙ (each-in (AsksFor t st.site.pending) st.sent e a.sent now q r kind is.message).0))

module _ (o : Opening) where
  none-sent : (e : Envelope) → Contains {X = Envelope} [] e → ⊥
  none-sent e (k, l, is) = omega arith

  opened-known : (p : Opening) (s : ℕ) → Known [] s (opened_site p s)
  opened-known (New n) s = record { once = tt; low = λ p here. absurd (none-in p here); asked = λ e here. absurd (none-sent e here); behind = λ p here. absurd (none-in p here) }
  opened-known (Preset n pages) s = record { once = tt; low = λ p here. absurd (none-in p here); asked = λ e here. absurd (none-sent e here); behind = λ p here. absurd (none-in p here) }
  opened-known (Framed n pages frames) s = record { once = tt; low = λ p here. absurd (none-in p here); asked = λ e here. absurd (none-sent e here); behind = λ p here. absurd (none-in p here) }

  first-known : AllKnown (begun o).world
  first-known s x found =
      let within = slice_get_within (map (opened_site o) (range_with_len 0 (sites_of o))) s x found in
      let all = length-map-range_with_len (opened_site o) 0 (sites_of o) in
      let small : s < sites_of o = omega (arith, within, all) in
      subst (Known [] s) (some-same (opened_site o s) x (sym (slice_get-range (opened_site o) (sites_of o) s small) ∙ found)) (opened-known o s)

  stepped-known : (w : World) (t : ℕ) (y : Site) (input : Input) → AllKnown w → slice_get w.sites t ≡ Some y → (s : ℕ) (x : Site)
      → slice_get (slice_set w.sites t (step (sites_of o) t y input).site) s ≡ Some x → (s ≡ t) ⊎ (s ≢ t) → Known (w.sent ++ (step (sites_of o) t y input).sent) s x
  stepped-known w t y input all found s x now (inl here) =
      let mine : (step (sites_of o) t y input).site ≡ x = some-same (step (sites_of o) t y input).site x
      (sym (set-here w.sites t y (step (sites_of o) t y input).site found) ∙ (ap (slice_get (slice_set w.sites t (step (sites_of o) t y input).site)) (sym here) ∙ now)) in
      subst (Known (w.sent ++ (step (sites_of o) t y input).sent) s) mine
      (subst (λ u. Known (w.sent ++ (step (sites_of o) t y input).sent) u (step (sites_of o) t y input).site) (sym here)
      (own-known t y (step (sites_of o) t y input) (step-asking (sites_of o) t y input) w.sent (all t y found)))
  stepped-known w t y input all found s x now (inr there) =
      other-known s t x y (step (sites_of o) t y input) (step-asking (sites_of o) t y input) there w.sent (all s x (sym (set-there w.sites t s (step (sites_of o) t y input).site there) ∙ now))

  known-kept : Kept o (λ r. AllKnown r.world)
  known-kept = record {
    first = first-known;
    steps = λ r gone t y input all shape small found honest s x now. stepped-known r.world t y input all found s x now (cases_eq s t);
    stays = λ r gone s answer all shape still. all;
  }

  pub run-known : (events : List Event) → AllKnown (run o events).world
  run-known events = (run-good o (λ r. AllKnown r.world) known-kept events).holds
