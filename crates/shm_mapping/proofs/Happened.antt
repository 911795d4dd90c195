-- An event that isn't held keeps what is mapped.
use Rattle.std.proofs.Common.{◌≡◌, ◌≢◌, ℕ, ◌⊎◌, inl, inr, Bool, true, false, List, [], ◌∷◌, ◌++◌, Option, Some, None, Result, Ok, Err, is_some, refl, sym, ap, ◌∙◌, subst, if◌then◌else◌, slice_get, slice_set, ◌==◌}
use Rattle.std.proofs.lemmas.Bool.{cases_eq, cond_both}
use Rattle.shm_place.specs.declared.page_id.PageId.{PageId}
use Rattle.shm_place.specs.Page.{same_page}
use Rattle.shm_model.specs.declared.answer.Answer.{Answer}
use Rattle.shm_model.specs.declared.answer.Answer.TheVariants.{Stored, Took, Refused}
use Rattle.shm_model.specs.declared.event.Event.{Event}
use Rattle.shm_model.specs.declared.event.Event.TheVariants.{Load as LoadEvent, Store as StoreEvent, Begin as BeginEvent, Tick as TickEvent, Restart as RestartEvent, Deliver as DeliverEvent, Repeat, Lose}
use Rattle.shm_model.specs.declared.request_kind.Kind.{Kind}
use Rattle.shm_model.specs.declared.request_kind.Kind.TheVariants.{Read, Write}
use Rattle.shm_model.specs.Access.{Place, ask_for, is_pending, right, store_at, store_if, stored_entry}
use Rattle.shm_model.specs.Basics.{greatest}
use Rattle.shm_model.specs.Entry.{Entry, bytes, readable, writable}
use Rattle.shm_model.specs.Message.{Envelope, Input, Load, Store, Begin, Deliver, Tick, Restart}
use Rattle.shm_model.specs.Refusal.{no_such_message, no_such_site, numbers_used_up}
use Rattle.shm_model.specs.Site.{Site, Step}
use Rattle.shm_model.specs.Step.{step}
use Rattle.shm_model.specs.World.{Done, IsOpening, Next, Opening, World, deliver, hand_over, is_full, live, lose, next, step_at, step_site, stepped, unstepped, without}
use Rattle.shm_laws.proofs.Naming.Kept.{done_at}
use Rattle.shm_laws.proofs.Page.Entry.{false-true}
use Rattle.shm_laws.proofs.Page.Moves.{now_of, page-same}
use Rattle.shm_laws.proofs.Run.GoesOn.{slice_get-set_same}
use Rattle.shm_laws.proofs.Sound.{set-there}
use Rattle.shm_mapping.specs.Mapped.{Mapped, allows, joined, mapped_at, with_memory}
use Rattle.shm_mapping.specs.Hosts.{Hosts, accesses_by, happens, is_held, nothing, takes_away}
use Rattle.shm_mapping.specs.Programs.{joined_sites}
use Rattle.shm_mapping.proofs.Joined.{allowed, by_kind}
use Rattle.shm_mapping.proofs.Steps.{PassesBy, found}
use Rattle.shm_mapping.proofs.Worlds.{allowed-of, held_by, joined-get, joined_found, joined_next, next-same, or-false, passed-by, taken-allowed}
use Rattle.shm_mapping.proofs.Good.{Good, Holds, Went, allows-readable, nothing-went, now-of-run, now-same, push, run-push, write-memory}

some-same : {X : Type 0} (x y : X) → Some x ≡ Some y → x ≡ y
some-same x y e = cc

-- what an event does to a world: it steps one site, or none
module _ (w : World) (P : Next → Type 0) (still : (gone : ℕ → Bool) (s : ℕ) (answer : Answer) → P (unstepped (record w { gone = gone }) s answer))
    (go : (gone : ℕ → Bool) (s : ℕ) (site : Site) (input : Input) → slice_get w.sites s ≡ Some site → P (stepped (record w { gone = gone }) s input (step w.count s site input))) where
  site-case : (gone : ℕ → Bool) (s : ℕ) (site : Option Site) (input : Input) → slice_get w.sites s ≡ site → P (step_site site (record w { gone = gone }) s input)
  site-case gone s None input e = still gone s (Refused no_such_site)
  site-case gone s (Some site) input e = cond_both (is_full w) _ _ P (λ full. still gone s (Refused numbers_used_up)) (λ room. go gone s site input e)

  at-case : (gone : ℕ → Bool) (s : ℕ) (input : Input) → P (step_at (record w { gone = gone }) s input)
  at-case gone s input = site-case gone s (slice_get w.sites s) input refl

  repeat-case : (e : Option Envelope) → P (hand_over e w)
  repeat-case None = still w.gone 0 (Refused no_such_message)
  repeat-case (Some e) = at-case w.gone e.to (Deliver e)

  deliver-case : (k : ℕ) (e : Option Envelope) → P (deliver e w k)
  deliver-case k None = still w.gone 0 (Refused no_such_message)
  deliver-case k (Some e) = at-case (without w k).gone e.to (Deliver e)

  lose-case : (k : ℕ) (e : Option Envelope) → P (lose e w k)
  lose-case k None = still w.gone 0 (Refused no_such_message)
  lose-case k (Some e) = still (without w k).gone 0 Took

  pub next-case : (event : Event) → P (next w event)
  next-case (LoadEvent s a offset) = at-case w.gone s (Load a offset)
  next-case (StoreEvent s a offset byte) = at-case w.gone s (Store a offset byte)
  next-case (BeginEvent s request) = at-case w.gone s (Begin request)
  next-case (TickEvent s) = at-case w.gone s Tick
  next-case (RestartEvent s) = at-case w.gone s Restart
  next-case (DeliverEvent k) = deliver-case k (live w k)
  next-case (Repeat k) = repeat-case (live w k)
  next-case (Lose k) = lose-case k (live w k)

-- a store that doesn't pass by leaves what is mapped
module _ (memory : PageId → Option Mapped) (page : PageId) (m : Mapped) (is : memory page ≡ Some m) where
  some-not : (k : Option Mapped) → k ≡ Some m → is_some k ≡ false → ⊥
  some-not k e f = false-true (sym f ∙ ap is_some e)

  put-if : (f : PageId → Entry) (place : Place) (e : Entry) (same : Bool) → same_page place.page page ≡ same → is_some (memory place.page) ≡ false → (if same then e else f page) ≡ f page
  put-if f place e true p free = absurd (some-not (memory place.page) (ap memory (page-same place.page page p) ∙ is) free)
  put-if f place e false p free = refl

  store-place : (sites me : ℕ) (place : Place) (byte : ℕ) (site : Site) → ((store_at sites me place byte site).answer ≡ Stored → is_some (memory place.page) ≡ false)
      → (store_at sites me place byte site).site.entries page ≡ site.entries page
  store-place sites me place byte site by =
      cond_both (writable (site.entries place.page)) _ _ (λ (st : Step). (st.answer ≡ Stored → is_some (memory place.page) ≡ false) → st.site.entries page ≡ site.entries page)
      (λ w b. put-if site.entries place (stored_entry place.within byte (site.entries place.page)) (same_page place.page page) refl (b refl))
      (λ w b. asked sites me place.page site) by
    where
      asked : (sites me : ℕ) (p : PageId) (site : Site) → (ask_for sites me Write p site).site.entries page ≡ site.entries page
      asked sites me p site =
          cond_both (is_pending Write p site.pending) _ _ (λ (st : Step). st.site.entries page ≡ site.entries page) (λ _. refl)
          (λ _. cond_both (site.requests == greatest) _ _ (λ (st : Step). st.site.entries page ≡ site.entries page) (λ _. refl) (λ _. refl))

  store-stays : (sites me : ℕ) (r : Result Place ℕ) (byte : ℕ) (site : Site) → ((store_if sites me r byte site).answer ≡ Stored → is_some (found memory r) ≡ false)
      → (store_if sites me r byte site).site.entries page ≡ site.entries page
  store-stays sites me (Err refusal) byte site by = refl
  store-stays sites me (Ok place) byte site by = store-place sites me place byte site by

module _ (o : Opening) (h : Hosts) where
  abbrev NowAll : List Site → List Done → Type 0
  NowAll sites account = (s : ℕ) (y : Site) (page : PageId) → slice_get (joined_sites h.mapped sites) s ≡ Some y → readable (y.entries page) ≡ true → now_of o page account (bytes (y.entries page))

  abbrev HoldsAll : List Site → Type 0
  HoldsAll sites = (s : ℕ) (x : Site) (page : PageId) (m : Mapped) → slice_get sites s ≡ Some x → mapped_at page (h.mapped s) ≡ Some m → Holds m (x.entries page)

  keep-memory : (kind : Kind) (memory : List ℕ) (old new : Entry) → allows kind new ≡ true → memory ≡ bytes (by_kind kind memory old) → (kind ≡ Read → bytes old ≡ bytes new)
      → memory ≡ bytes (by_kind kind memory new)
  keep-memory Read memory old new a e same = e ∙ same refl
  keep-memory Write memory old new a e same = write-memory memory new a

  -- of what is mapped to read the machine's bytes are the site's
  read-entry : (kind : Kind) (memory : List ℕ) (e : Entry) → kind ≡ Read → by_kind kind memory e ≡ e
  read-entry kind memory e is = ap (λ k. by_kind k memory e) is

  module _ (old : NowAll h.world.sites h.account) (holds : HoldsAll h.world.sites) where
    -- the step of one site, where it is stepped
    module _ (gone : ℕ → Bool) (s : ℕ) (site : Site) (input : Input) (there : slice_get h.world.sites s ≡ Some site) where
      abbrev done : Step
      done = step h.world.count s site input

      abbrev after : List Site
      after = slice_set h.world.sites s done.site

      module _ (new : NowAll after (done_at s input done.answer ∷ h.account)) (ok : (page : PageId) → allowed (mapped_at page (h.mapped s)) (done.site.entries page) ≡ true)
          (by : PassesBy (λ page. mapped_at page (h.mapped s)) input site done.answer) (page : PageId) (m : Mapped) (is : mapped_at page (h.mapped s) ≡ Some m) where
        allows-then : allows m.kind (done.site.entries page) ≡ true
        allows-then = subst (λ k. allowed k (done.site.entries page) ≡ true) is (ok page)

        same-entry : (x : Site) → m.kind ≡ Read → (joined (h.mapped s) x).entries page ≡ x.entries page
        same-entry x read = ap (λ k. with_memory k (x.entries page)) is ∙ read-entry m.kind m.memory (x.entries page) read

        now-before : m.kind ≡ Read → now_of o page h.account (bytes (site.entries page))
        now-before read =
            let e = same-entry site read in
            subst (λ x. now_of o page h.account (bytes x)) e
            (old s (joined (h.mapped s) site) page (joined-get h.mapped h.world.sites s ∙ ap (joined_found (h.mapped s)) there)
            (ap readable e ∙ allows-readable m.kind (site.entries page) (holds s site page m there is).allowed))

        now-after : m.kind ≡ Read → now_of o page (done_at s input done.answer ∷ h.account) (bytes (done.site.entries page))
        now-after read =
            let e = same-entry done.site read in
            subst (λ x. now_of o page (done_at s input done.answer ∷ h.account) (bytes x)) e
            (new s (joined (h.mapped s) done.site) page (joined-get h.mapped after s ∙ ap (joined_found (h.mapped s)) (slice_get-set_same h.world.sites s site done.site there))
            (ap readable e ∙ allows-readable m.kind (done.site.entries page) allows-then))

    stay : (s : ℕ) (site : Site) (input : Input) (page : PageId) (m : Mapped) → mapped_at page (h.mapped s) ≡ Some m
        → PassesBy (λ p. mapped_at p (h.mapped s)) input site (step h.world.count s site input).answer
        → now_of o page h.account (bytes (site.entries page)) → now_of o page (done_at s input (step h.world.count s site input).answer ∷ h.account) (bytes ((step h.world.count s site input).site.entries page))
        → bytes (site.entries page) ≡ bytes ((step h.world.count s site input).site.entries page)
    stay s site (Store a offset byte) page m is by earlier later = ap bytes (sym (store-stays (λ p. mapped_at p (h.mapped s)) page m is h.world.count s (right site.attachments a offset true) byte site by))
    stay s site (Load a offset) page m is by earlier later = now-same o page h.account _ _ earlier later
    stay s site (Begin request) page m is by earlier later = now-same o page h.account _ _ earlier later
    stay s site (Deliver e) page m is by earlier later = now-same o page h.account _ _ earlier later
    stay s site Tick page m is by earlier later = now-same o page h.account _ _ earlier later
    stay s site Restart page m is by earlier later = now-same o page h.account _ _ earlier later

    module _ (gone : ℕ → Bool) (s : ℕ) (site : Site) (input : Input) (there : slice_get h.world.sites s ≡ Some site)
        (held : held_by h.mapped h.world.sites (stepped (record h.world { gone = gone }) s input (step h.world.count s site input)) ≡ false)
        (new : NowAll (slice_set h.world.sites s (step h.world.count s site input).site) (done_at s input (step h.world.count s site input).answer ∷ h.account)) where
      abbrev did : Step
      did = step h.world.count s site input

      parts : (takes_away (h.mapped s) (slice_get (slice_set h.world.sites s did.site) s) ≡ false) × (accesses_by (h.mapped s) (slice_get h.world.sites s) (done_at s input did.answer) ≡ false)
      parts = or-false h.mapped (takes_away (h.mapped s) (slice_get (slice_set h.world.sites s did.site) s)) (accesses_by (h.mapped s) (slice_get h.world.sites s) (done_at s input did.answer)) held

      ok : (page : PageId) → allowed (mapped_at page (h.mapped s)) (did.site.entries page) ≡ true
      ok = taken-allowed h.mapped (h.mapped s) did.site (subst (λ f. takes_away (h.mapped s) f ≡ false) (slice_get-set_same h.world.sites s site did.site there) parts.0)

      by : PassesBy (λ page. mapped_at page (h.mapped s)) input site did.answer
      by = passed-by h.mapped (h.mapped s) site input did.answer (subst (λ f. accesses_by (h.mapped s) f (done_at s input did.answer) ≡ false) there parts.1)

      here-holds : (page : PageId) (m : Mapped) → mapped_at page (h.mapped s) ≡ Some m → Holds m (did.site.entries page)
      here-holds page m is =
          let a = allows-then gone s site input there new ok by page m is in
          record {
            allowed = a;
            memory = keep-memory m.kind m.memory (site.entries page) (did.site.entries page) a (holds s site page m there is).memory
                (λ read. stay s site input page m is by (now-before gone s site input there new ok by page m is read) (now-after gone s site input there new ok by page m is read));
          }

      after-holds : (t : ℕ) (x : Site) (page : PageId) (m : Mapped) → (t ≡ s) ⊎ (t ≢ s) → slice_get (slice_set h.world.sites s did.site) t ≡ Some x → mapped_at page (h.mapped t) ≡ Some m → Holds m (x.entries page)
      after-holds t x page m (inl same) e is =
          let site_is : did.site ≡ x = some-same did.site x (sym (slice_get-set_same h.world.sites s site did.site there) ∙ (ap (slice_get (slice_set h.world.sites s did.site)) (sym same) ∙ e)) in
          subst (λ (z : Site). Holds m (z.entries page)) site_is (here-holds page m (ap (λ i. mapped_at page (h.mapped i)) (sym same) ∙ is))
      after-holds t x page m (inr other) e is = holds t x page m (sym (set-there h.world.sites s t did.site other) ∙ e) is

    pub next-holds : (event : Event) → held_by h.mapped h.world.sites (next h.world event) ≡ false → NowAll (next h.world event).world.sites ((next h.world event).done ∷ h.account) → HoldsAll (next h.world event).world.sites
    next-holds event =
        next-case h.world (λ n. held_by h.mapped h.world.sites n ≡ false → NowAll n.world.sites (n.done ∷ h.account) → HoldsAll n.world.sites)
        (λ gone s answer held new. holds) (λ gone s site input there held new t x page m e is. after-holds gone s site input there held new t x page m (cases_eq t s) e is) event

module _ (o : Opening) (is : IsOpening o) (h : Hosts) (plain own : List Event) (good : Good o h plain own) where
  pub now-joined : NowAll o h h.world.sites h.account
  now-joined s y page e r =
      subst (λ a. now_of o page a (bytes (y.entries page))) good.account
      (now-of-run o plain is page s y (ap (λ (w : World). slice_get w.sites s) good.as_one ∙ e) r)

  pub happened : (event : Event) → is_held h (next h.world event) ≡ false
      → Good o (record h { world = (next h.world event).world; account = (next h.world event).done ∷ h.account }) (plain ++ (event ∷ [])) (own ++ (event ∷ []))
  happened event held =
      let n : Next = next h.world event in
      let ok = (λ (s : ℕ) (x : Site) (e : slice_get h.world.sites s ≡ Some x) (page : PageId). allowed-of (mapped_at page (h.mapped s)) (x.entries page) (λ m f. (good.holds s x page m e f).allowed)) in
      let both = push o h plain own good event (joined_next h.mapped n) (next-same h.mapped h.world ok event held) in
      record {
        as_one = both.0;
        account = both.1;
        alone = ap (λ r. r.world) (run-push o own event) ∙ ap (λ w. (next w event).world) good.alone;
        holds = next-holds o h now-joined good.holds event held
            (λ s y page e r. subst (λ a. now_of o page a (bytes (y.entries page))) both.1 (now-of-run o (plain ++ (event ∷ [])) is page s y (ap (λ (w : World). slice_get w.sites s) both.0 ∙ e) r));
      }

  happens-if : (event : Event) (held : Bool) → is_held h (next h.world event) ≡ held
      → Went o plain own (if held then nothing h else record { hosts = record h { world = (next h.world event).world; account = (next h.world event).done ∷ h.account }; plain = event ∷ []; own = event ∷ [] })
  happens-if event true e = nothing-went o h plain own good
  happens-if event false e = happened event e

  pub happens-went : (event : Event) → Went o plain own (happens h event (next h.world event))
  happens-went event = happens-if event (is_held h (next h.world event)) refl
