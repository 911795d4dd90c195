-- In a second round, with no access since the first, each site asks for a page with one request alone; so none is turned away.
use Rattle.std.proofs.Common.{◌≡◌, ◌≢◌, ℕ, ◌<◌, ◌≤◌, ◌⊎◌, inl, inr, Bool, false, Option, Some, None, List, [], ◌∷◌, ◌++◌, append-nil, slice_get, zero, suc, arith, refl, sym, ◌∙◌, ap, subst, Contains}
use Rattle.std.proofs.lemmas.Bool.{cases_eq, cond-false}
use Rattle.std.proofs.lemmas.Option.{get_or_from_slice_get, slice_get_within}
use Rattle.shm_place.specs.declared.page_id.PageId.{PageId}
use Rattle.shm_model.specs.declared.event.Event.{Event}
use Rattle.shm_model.specs.declared.request_kind.Kind.{Kind}
use Rattle.shm_model.specs.Entry.{Ask}
use Rattle.shm_model.specs.Book.{untouched_book}
use Rattle.shm_model.specs.Message.{Envelope, Input, Load, Store, Begin, Deliver, Tick, Restart, Of}
use Rattle.shm_model.specs.Site.{Pending, Site, Step}
use Rattle.shm_model.specs.Step.{step}
use Rattle.shm_model.specs.World.{IsOpening, Opening, Run, World, begun, is_full, live, next, run, sites_of, stepped}
use Rattle.shm_laws.proofs.Headline.{size-of}
use Rattle.shm_laws.proofs.Page.Orders.{Each}
use Rattle.shm_laws.proofs.Run.Induction.{IsHonest, run-shape}
use Rattle.shm_laws.proofs.Run.GoesOn.{run_on-append}
use Rattle.shm_laws.proofs.Sound.{each-in, set-here, set-there}
use Rattle.shm_progress.specs.Deliveries.{IsAtRest}
use Rattle.shm_progress.specs.OnTheWay.{NothingLost}
use Rattle.shm_progress.specs.Requests.{TurnedAway}
use Rattle.shm_progress.specs.Rounds.{AllTick, ManagersSettled, NoneAccesses, NonePending, NoneRestarted, is_access}
use Rattle.shm_progress.proofs.Along.{along, run-more, runs-on}
use Rattle.shm_progress.proofs.BooksKept.{BookRule, step-holds}
use Rattle.shm_progress.proofs.OnTheWay.{free-before, live-parts}
use Rattle.shm_progress.proofs.Purge.Answers.{contains-first}
use Rattle.shm_progress.proofs.Request.Asking.{AsksFor, step-asking}
use Rattle.shm_progress.proofs.Request.Calm.{Calm, IsAside, IsHanded, StaysGone, calm, goes, requests-same, rests}
use Rattle.shm_progress.proofs.Request.Ends.{requests-settle}
use Rattle.shm_progress.proofs.Request.Few.{not-full}
use Rattle.shm_progress.proofs.Request.Known.{run-known}
use Rattle.shm_progress.proofs.Request.Line.{Line, ask-line, cleared-line, confirm-line, empty-line, restart-line}
use Rattle.shm_progress.proofs.Request.Once.{once-same}
use Rattle.shm_progress.proofs.Transfer.Ends.{managers-settle}
use Rattle.shm_progress.proofs.Transfer.Rows.{note_envelope}

same-site : (found : Option Site) (x y : Site) → found ≡ Some x → found ≡ Some y → x ≡ y
same-site found x y p q = cc

-- what stands in two lists at a place stands there in the first, or in the second
at-either : (xs ys : List Envelope) (j : ℕ) (e : Envelope) → slice_get (xs ++ ys) j ≡ Some e → (slice_get xs j ≡ Some e) ⊎ Contains ys e
at-either [] ys j e at = inr (j, slice_get_within ys j e at, get_or_from_slice_get ys j e e at)
at-either (x ∷ xs) ys zero e at = inl at
at-either (x ∷ xs) ys (suc j) e at = at-either xs ys j e at

-- the envelope that a site is handed
abbrev handed_list : Input → List Envelope
handed_list (Deliver e) = e ∷ []
handed_list _ = []

none-in : (f : Envelope) → Contains {X = Envelope} [] f → ⊥
none-in f (k, l, e) = omega arith

is-handed : (input : Input) (f : Envelope) → Contains (handed_list input) f → input ≡ Deliver f
is-handed (Load a offset) f here = absurd (none-in f here)
is-handed (Store a offset byte) f here = absurd (none-in f here)
is-handed (Begin request) f here = absurd (none-in f here)
is-handed (Deliver e) f (zero, l, is) = ap Deliver is
is-handed (Deliver e) f (suc k, l, is) = absurd (omega arith)
is-handed Tick f here = absurd (none-in f here)
is-handed Restart f here = absurd (none-in f here)

-- the world after the first round
module _ (o : Opening) (opening : IsOpening o) (before : List Event) (settled : ManagersSettled (run o before).world) (rest : IsAtRest (run o before).world) where
  -- the site had this request pending then
  abbrev Was : PageId → ℕ → ℕ → Kind → Type 0
  Was q s r kind = (x : Site) × (slice_get (run o before).world.sites s ≡ Some x) × Contains x.pending (record { page = q; request = r; kind = kind })

  one : (q : PageId) (s r n : ℕ) (kind other : Kind) → Was q s r kind → Was q s n other → r ≡ n
  one q s r n kind other (x, at, here) (y, there, also) =
      ap (λ (p : Pending). p.request) (once-same x.pending (record { page = q; request = r; kind = kind }) (record { page = q; request = n; kind = other }) (run-known o before s x at).once here
      (subst (λ (k : Site). Contains k.pending (record { page = q; request = n; kind = other })) (same-site (slice_get (run o before).world.sites s) y x there at) also) refl)

  small : (q : PageId) (s r : ℕ) (kind : Kind) → Was q s r kind → s < sites_of o
  small q s r kind (x, at, here) = let within = slice_get_within (run o before).world.sites s x at in let all = (run-shape o before).sites in omega (arith, within, all)

  record Again (w : World) : Type 0 where
    pub pending : (s : ℕ) (x : Site) (p : Pending) → slice_get w.sites s ≡ Some x → Contains x.pending p → Was p.page s p.request p.kind
    pub asks : (j : ℕ) (e : Envelope) → live w j ≡ Some e → (q : PageId) (r : ℕ) (kind : Kind) → e.message ≡ Of q (Ask r kind) → Was q e.from r kind
    pub books : (m : ℕ) (y : Site) → slice_get w.sites m ≡ Some y → (q : PageId) → Line (Was q) (one q) (y.books q)

  first-again : Again (run o before).world
  first-again = record {
    pending = λ s x p at here. (x, at, here);
    asks = λ j e is q r kind message. absurd (none-some (live (run o before).world j) e is (rest j));
    books = λ m y at q. empty-line (Was q) (one q) (y.books q) (settled.ended m y q at) (settled.served m y q at);
  }
    where
      none-some : (found : Option Envelope) (e : Envelope) → found ≡ Some e → found ≡ None → ⊥
      none-some found e p q = cc

  module _ (w : World) (again : Again w) where
    was-live : (gone : ℕ → Bool) → StaysGone w gone → (j : ℕ) (e : Envelope) → gone j ≡ false → slice_get w.sent j ≡ Some e → live w j ≡ Some e
    was-live gone stays j e free at = cond-false (w.gone j) None (slice_get w.sent j) (stays j free) ∙ at

    module _ (gone : ℕ → Bool) (t : ℕ) (z : Site) (input : Input) (stays : StaysGone w gone) (found : slice_get w.sites t ≡ Some z) (aside : IsAside input) (handed : IsHanded w t input) where
      abbrev st : Step
      st = step w.count t z input

      abbrev u : World
      u = (stepped (record w { gone = gone }) t input st).world

      own-pending : (p : Pending) → Contains st.site.pending p → Was p.page t p.request p.kind
      own-pending p here = by-before ((step-asking w.count t z input).before p here)
        where
          by-before : Contains z.pending p ⊎ ((z.requests < p.request) × (p.request ≤ st.site.requests)) → Was p.page t p.request p.kind
          by-before (inl was) = again.pending t z p found was
          by-before (inr (above, below)) = let same = requests-same w.count t z input aside in absurd (omega (arith, above, below, same))

      now-pending : (s : ℕ) (x : Site) (p : Pending) → slice_get u.sites s ≡ Some x → Contains x.pending p → (s ≡ t) ⊎ (s ≢ t) → Was p.page s p.request p.kind
      now-pending s x p at here (inl it) =
          let mine : x ≡ st.site = same-site (slice_get u.sites s) x st.site at (ap (slice_get u.sites) it ∙ set-here w.sites t z st.site found) in
          subst (λ k. Was p.page k p.request p.kind) (sym it) (own-pending p (subst (λ (k : Site). Contains k.pending p) mine here))
      now-pending s x p at here (inr other) = again.pending s x p (sym (set-there w.sites t s st.site other) ∙ at) here

      now-asks : (j : ℕ) (e : Envelope) → live u j ≡ Some e → (q : PageId) (r : ℕ) (kind : Kind) → e.message ≡ Of q (Ask r kind) → Was q e.from r kind
      now-asks j e is q r kind message = by-sent (at-either w.sent st.sent j e (live-parts u j e is).1)
        where
          by-sent : (slice_get w.sent j ≡ Some e) ⊎ Contains st.sent e → Was q e.from r kind
          by-sent (inl old) = again.asks j e (was-live gone stays j e (live-parts u j e is).0 old) q r kind message
          by-sent (inr new) =
              let parts = each-in (AsksFor t st.site.pending) st.sent e (step-asking w.count t z input).sent new q r kind message in
              subst (λ k. Was q k r kind) (sym parts.0) (own-pending (record { page = q; request = r; kind = kind }) parts.1)

      heard : (q : PageId) (from r : ℕ) (kind : Kind) → Contains (handed_list input) (note_envelope from t q (Ask r kind)) → Was q from r kind
      heard q from r kind here =
          let (to, (j, is)) = handed (note_envelope from t q (Ask r kind)) (is-handed input (note_envelope from t q (Ask r kind)) here) in
          again.asks j (note_envelope from t q (Ask r kind)) is q r kind refl

      rule : BookRule (λ q b. Line (Was q) (one q) b) w.count t (handed_list input)
      rule = record {
        fresh = λ q. empty-line (Was q) (one q) (untouched_book t) refl refl;
        restarted = λ q b h. restart-line (Was q) (one q) b h;
        asked = λ q b from r kind h was proper. ask-line (Was q) (one q) b h from r kind (heard q from r kind was);
        cleared = λ q b from n h. cleared-line (Was q) (one q) b h from n;
        confirmed = λ q b from n h. confirm-line (Was q) (one q) b h from n;
      }

      honest : (i : Input) → input ≡ i → IsHonest (record w { sent = handed_list i }) t i
      honest (Load a offset) is = tt
      honest (Store a offset byte) is = tt
      honest (Begin request) is = tt
      honest (Deliver e) is = (contains-first e [], (handed e is).0)
      honest Tick is = tt
      honest Restart is = tt

      now-books : (m : ℕ) (y : Site) → slice_get u.sites m ≡ Some y → (m ≡ t) ⊎ (m ≢ t) → (q : PageId) → Line (Was q) (one q) (y.books q)
      now-books m y at (inl it) q =
          let mine : y ≡ st.site = same-site (slice_get u.sites m) y st.site at (ap (slice_get u.sites) it ∙ set-here w.sites t z st.site found) in
          subst (λ (k : Site). Line (Was q) (one q) (k.books q)) (sym mine)
          (step-holds (λ q b. Line (Was q) (one q) b) w.count t (handed_list input) rule z (again.books t z found) (record w { sent = handed_list input }) refl input (honest input refl) q)
      now-books m y at (inr other) q = again.books m y (sym (set-there w.sites t m st.site other) ∙ at) q

      stepped-again : Again u
      stepped-again = record { pending = λ s x p at here. now-pending s x p at here (cases_eq s t); asks = now-asks; books = λ m y at. now-books m y at (cases_eq m t) }

    calm-again : (u : World) → Calm w u → Again u
    calm-again u (rests gone stays) = record {
      pending = again.pending;
      asks = λ j e is. again.asks j e (was-live gone stays j e (live-parts (record w { gone = gone }) j e is).0 (live-parts (record w { gone = gone }) j e is).1);
      books = again.books;
    }
    calm-again u (goes gone t z input stays found aside handed) = stepped-again gone t z input stays found aside handed

  -- none of these events accesses
  each-calm : (front back : List Event) → NoneAccesses (front ++ back) → Each (λ e. is_access e ≡ false) front
  each-calm [] back none = tt
  each-calm (e ∷ es) back none = (none.0, each-calm es back none.1)

  again-along : (front : List Event) → Each (λ e. is_access e ≡ false) front → is_full (run o (before ++ front)).world ≡ false → Again (run o (before ++ front)).world
  again-along front none free =
      along o before (λ e. is_access e ≡ false) (λ done. Again (run o (before ++ done)).world)
      (λ done e k not_full all. subst (λ (r : Run). Again r.world) (sym (run-more o before done e)) (calm-again (run o (before ++ done)).world all (next (run o (before ++ done)).world e).world (calm (run o (before ++ done)).world e k)))
      [] front none free (subst (λ es. Again (run o es).world) (sym (append-nil before)) first-again)

  pub never-full : (since : List Event) → NoneAccesses since → is_full (run o (before ++ since)).world ≡ false → (m s : ℕ) (p : Pending) → TurnedAway o before since m s p → ⊥
  never-full since none free m s p full =
      let few = (size-of o opening).few_sites in
      not-full (Was p.page) (one p.page) (sites_of o) (small p.page) (full.site.books p.page) ((again-along full.front (each-calm full.front (full.event ∷ full.back) (subst NoneAccesses full.is none)) free_then).books m full.site full.found p.page) few full.full
    where
      free_then : is_full (run o (before ++ full.front)).world ≡ false
      free_then =
          free-before (run o (before ++ full.front)) (full.event ∷ full.back)
          (subst (λ (r : Run). is_full r.world ≡ false) (runs-on o before full.front (full.event ∷ full.back)) (subst (λ es. is_full (run o (before ++ es)).world ≡ false) full.is free))

none-pending : (ps : List Pending) → ((p : Pending) → Contains ps p → ⊥) → ps ≡ []
none-pending [] none = refl
none-pending (p ∷ ps) none = absurd (none p (contains-first p ps))

pub second-settles : (o : Opening) → IsOpening o → (earlier first second : List Event) → NothingLost first → NoneRestarted first → AllTick (sites_of o) first → IsAtRest (run o (earlier ++ first)).world
    → NothingLost second → NoneRestarted second → NoneAccesses second → AllTick (sites_of o) second → is_full (run o ((earlier ++ first) ++ second)).world ≡ false → IsAtRest (run o ((earlier ++ first) ++ second)).world
    → NonePending (run o ((earlier ++ first) ++ second)).world
second-settles o opening earlier first second kept unrestarted ticks rest kept_on unrestarted_on none ticks_on free rest_on = λ s x at.
    none-pending x.pending (λ p here. never-full o opening (earlier ++ first) settled rest second none free _ s p (requests-settle o opening (earlier ++ first) second kept_on unrestarted_on ticks_on free rest_on s x p at here))
  where
    free_first : is_full (run o (earlier ++ first)).world ≡ false
    free_first = free-before (run o (earlier ++ first)) second (subst (λ (r : Run). is_full r.world ≡ false) (run_on-append (begun o) (earlier ++ first) second) free)

    settled : ManagersSettled (run o (earlier ++ first)).world
    settled = managers-settle o opening earlier first kept unrestarted ticks free_first rest
