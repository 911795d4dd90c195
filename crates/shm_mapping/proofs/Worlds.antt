-- An event that isn't held is the same in the world that is joined with the machines' memory.
use Rattle.std.proofs.Common.{◌≡◌, ◌≢◌, ℕ, zero, suc, Bool, true, false, not, ◌==◌, ◌||◌, List, [], ◌∷◌, ◌++◌, Option, Some, None, Result, Ok, Err, is_some, refl, sym, ap, ◌∙◌, subst, arith, if◌then◌else◌, slice_get, slice_set}
use Rattle.std.proofs.Math.Path.{fun_ext}
use Rattle.std.proofs.lemmas.Bool.{cond-true, cond-false}
use Rattle.std.proofs.lemmas.Bool.Decides.{nat_tests}
use Rattle.shm_place.specs.declared.page_id.PageId.{PageId}
use Rattle.shm_model.specs.declared.answer.Answer.{Answer}
use Rattle.shm_model.specs.declared.answer.Answer.TheVariants.{Byte, Stored, Refused}
use Rattle.shm_model.specs.declared.event.Event.{Event}
use Rattle.shm_model.specs.declared.event.Event.TheVariants.{Load as LoadEvent, Store as StoreEvent, Begin as BeginEvent, Tick as TickEvent, Restart as RestartEvent, Deliver as DeliverEvent, Repeat, Lose}
use Rattle.shm_model.specs.Access.{Place, right}
use Rattle.shm_model.specs.Basics.{at}
use Rattle.shm_model.specs.Entry.{Entry}
use Rattle.shm_model.specs.Message.{Envelope, Input, Load, Store, Begin, Deliver, Tick, Restart}
use Rattle.shm_model.specs.Refusal.{numbers_used_up}
use Rattle.shm_model.specs.Site.{Site, Step}
use Rattle.shm_model.specs.Step.{step}
use Rattle.shm_model.specs.World.{Next, World, deliver, hand_over, is_full, live, lose, next, step_at, step_site, stepped, unstepped, without}
use Rattle.shm_laws.proofs.Page.Entry.{false-true}
use Rattle.shm_laws.proofs.Run.GoesOn.{slice_get-set_same}
use Rattle.shm_mapping.specs.Mapped.{Mapped, allows, allows_all, joined, mapped_at}
use Rattle.shm_mapping.specs.Hosts.{accesses_by, is_written, passes_by, reached, takes_away}
use Rattle.shm_mapping.specs.Programs.{joined_sites}
use Rattle.shm_mapping.proofs.Joined.{allowed, allows-at}
use Rattle.shm_mapping.proofs.Steps.{PassesBy, found, step-same}

abbrev pub joined_found : List Mapped → Option Site → Option Site
joined_found mapped None = None
joined_found mapped (Some site) = Some (joined mapped site)

pub joined-get : (mapped : ℕ → List Mapped) (sites : List Site) (s : ℕ) → slice_get (joined_sites mapped sites) s ≡ joined_found (mapped s) (slice_get sites s)
joined-get mapped [] s = refl
joined-get mapped (x ∷ xs) zero = refl
joined-get mapped (x ∷ xs) (suc s) = joined-get (λ t. mapped (suc t)) xs s

pub joined-set : (mapped : ℕ → List Mapped) (sites : List Site) (s : ℕ) (site : Site) → joined_sites mapped (slice_set sites s site) ≡ slice_set (joined_sites mapped sites) s (joined (mapped s) site)
joined-set mapped [] s site = refl
joined-set mapped (x ∷ xs) zero site = refl
joined-set mapped (x ∷ xs) (suc s) site = ap (λ ys. joined (mapped 0) x ∷ ys) (joined-set (λ t. mapped (suc t)) xs s site)

none-some : {X : Type 0} (x : X) → None ≡ Some x → ⊥
none-some x e = cc

some-same : {X : Type 0} (x y : X) → Some x ≡ Some y → x ≡ y
some-same x y e = cc

pub at-same-place : {X : Type 0} (f : ℕ → X) (s : ℕ) (x : X) → at f s x s ≡ x
at-same-place f s x = cond-true (s == s) x (f s) (grind (arith, nat_tests))

pub at-other-place : {X : Type 0} (f : ℕ → X) (s t : ℕ) (x : X) → s ≢ t → at f s x t ≡ f t
at-other-place f s t x other = cond-false (s == t) x (f t) (grind (arith, nat_tests))

at-first : {X : Type 0} (f : ℕ → X) (x : X) (t : ℕ) → at f 0 x (suc t) ≡ f (suc t)
at-first f x t = at-other-place f 0 (suc t) x (λ e. zero-suc t e)
  where
    zero-suc : (t : ℕ) → 0 ≡ suc t → ⊥
    zero-suc t e = omega arith

at-later : {X : Type 0} (f : ℕ → X) (s : ℕ) (x : X) (t : ℕ) → at f (suc s) x (suc t) ≡ at (λ i. f (suc i)) s x t
at-later f s x t = ap (λ b. if b then x else f (suc t)) (suc-same s t (s == t) refl)
  where
    suc-same : (s t : ℕ) (same : Bool) → (s == t) ≡ same → (suc s == suc t) ≡ same
    suc-same s t true e = grind (arith, nat_tests)
    suc-same s t false e = grind (arith, nat_tests)

-- what one host maps is changed
pub joined-changed : (mapped : ℕ → List Mapped) (sites : List Site) (s : ℕ) (new : List Mapped) (site : Site) → slice_get sites s ≡ Some site
    → joined_sites (at mapped s new) sites ≡ slice_set (joined_sites mapped sites) s (joined new site)
joined-changed mapped [] s new site e = absurd (none-some site e)
joined-changed mapped (x ∷ xs) zero new site e =
    ap (λ m. joined m x ∷ joined_sites (λ t. at mapped 0 new (suc t)) xs) (at-same-place mapped 0 new)
    ∙ (ap (λ f. joined new x ∷ joined_sites f xs) (fun_ext (λ t. at-first mapped new t)) ∙ ap (λ y. joined new y ∷ joined_sites (λ t. mapped (suc t)) xs) (some-same x site e))
joined-changed mapped (x ∷ xs) (suc s) new site e =
    ap (λ m. joined m x ∷ joined_sites (λ t. at mapped (suc s) new (suc t)) xs) (at-other-place mapped (suc s) 0 new (suc-zero s))
    ∙ (ap (λ f. joined (mapped 0) x ∷ joined_sites f xs) (fun_ext (λ t. at-later mapped s new t)) ∙ ap (λ ys. joined (mapped 0) x ∷ ys) (joined-changed (λ t. mapped (suc t)) xs s new site e))
  where
    suc-zero : (s : ℕ) → suc s ≡ 0 → ⊥
    suc-zero s e = omega arith

pub joined-beyond : (mapped : ℕ → List Mapped) (sites : List Site) (s : ℕ) (new : List Mapped) → slice_get sites s ≡ None → joined_sites (at mapped s new) sites ≡ joined_sites mapped sites
joined-beyond mapped [] s new e = refl
joined-beyond mapped (x ∷ xs) zero new e = absurd (none-some x (sym e))
joined-beyond mapped (x ∷ xs) (suc s) new e =
    ap (λ m. joined m x ∷ joined_sites (λ t. at mapped (suc s) new (suc t)) xs) (at-other-place mapped (suc s) 0 new (suc-zero s))
    ∙ (ap (λ f. joined (mapped 0) x ∷ joined_sites f xs) (fun_ext (λ t. at-later mapped s new t)) ∙ ap (λ ys. joined (mapped 0) x ∷ ys) (joined-beyond (λ t. mapped (suc t)) xs s new e))
  where
    suc-zero : (s : ℕ) → suc s ≡ 0 → ⊥
    suc-zero s e = omega arith

pub set-same : {X : Type 0} (xs : List X) (s : ℕ) (x : X) → slice_get xs s ≡ Some x → slice_set xs s x ≡ xs
set-same [] s x e = refl
set-same (y ∷ ys) zero x e = ap (λ z. z ∷ ys) (sym (some-same y x e))
set-same (y ∷ ys) (suc s) x e = ap (λ zs. y ∷ zs) (set-same ys s x e)

pub allowed-of : (m : Option Mapped) (e : Entry) → ((x : Mapped) → m ≡ Some x → allows x.kind e ≡ true) → allowed m e ≡ true
allowed-of None e f = refl
allowed-of (Some x) e f = f x refl

module _ (mapped : ℕ → List Mapped) where
  abbrev pub joined_with : World → World
  joined_with w = record w { sites = joined_sites mapped w.sites }

  abbrev pub joined_next : Next → Next
  joined_next n = record { world = joined_with n.world; done = n.done }

  -- the definitions' rule, by the sites before
  abbrev pub held_by : List Site → Next → Bool
  held_by sites n = takes_away (mapped n.done.site) (slice_get n.world.sites n.done.site) || accesses_by (mapped n.done.site) (slice_get sites n.done.site) n.done

  abbrev pub AllowedAt : List Site → Type 0
  AllowedAt sites = (s : ℕ) (site : Site) → slice_get sites s ≡ Some site → (page : PageId) → allowed (mapped_at page (mapped s)) (site.entries page) ≡ true

  pub or-false : (a b : Bool) → a || b ≡ false → (a ≡ false) × (b ≡ false)
  or-false true b e = absurd (false-true (sym e))
  or-false false b e = (refl, e)

  not-false : (b : Bool) → not b ≡ false → b ≡ true
  not-false true e = refl
  not-false false e = absurd (false-true (sym e))

  pub taken-allowed : (ms : List Mapped) (site : Site) → takes_away ms (Some site) ≡ false → (page : PageId) → allowed (mapped_at page ms) (site.entries page) ≡ true
  taken-allowed ms site e page = allowed-of (mapped_at page ms) (site.entries page) (λ x found. allows-at ms site page x (not-false (allows_all ms site) e) found)

  load-by : (ms : List Mapped) (site : Site) (a offset : ℕ) (answer : Answer) → passes_by ms site (Some (Load a offset)) answer ≡ false
      → (r : Result Place ℕ) → right site.attachments a offset false ≡ r → (b : ℕ) → answer ≡ Byte b → is_written (reached ms r) ≡ false
  load-by ms site a offset answer e r is b byte =
      subst (λ q. is_written (reached ms q) ≡ false) is (subst (λ x. passes_by ms site (Some (Load a offset)) x ≡ false) byte e)

  store-by : (ms : List Mapped) (site : Site) (a offset byte : ℕ) (answer : Answer) → passes_by ms site (Some (Store a offset byte)) answer ≡ false
      → (r : Result Place ℕ) → right site.attachments a offset true ≡ r → answer ≡ Stored → is_some (reached ms r) ≡ false
  store-by ms site a offset byte answer e r is stored =
      subst (λ q. is_some (reached ms q) ≡ false) is (subst (λ x. passes_by ms site (Some (Store a offset byte)) x ≡ false) stored e)

  reached-found : (ms : List Mapped) (r : Result Place ℕ) → found (λ page. mapped_at page ms) r ≡ reached ms r
  reached-found ms (Err _) = refl
  reached-found ms (Ok place) = refl

  pub passed-by : (ms : List Mapped) (site : Site) (input : Input) (answer : Answer) → passes_by ms site (Some input) answer ≡ false → PassesBy (λ page. mapped_at page ms) input site answer
  passed-by ms site (Load a offset) answer e = λ b is. ap is_written (reached-found ms (right site.attachments a offset false)) ∙ load-by ms site a offset answer e (right site.attachments a offset false) refl b is
  passed-by ms site (Store a offset byte) answer e = λ is. ap is_some (reached-found ms (right site.attachments a offset true)) ∙ store-by ms site a offset byte answer e (right site.attachments a offset true) refl is
  passed-by ms site (Begin r) answer e = tt
  passed-by ms site (Deliver m) answer e = tt
  passed-by ms site Tick answer e = tt
  passed-by ms site Restart answer e = tt

  module _ (w : World) (ok : AllowedAt w.sites) where
    stepped-same : (s : ℕ) (site : Site) (input : Input) → slice_get w.sites s ≡ Some site → held_by w.sites (stepped w s input (step w.count s site input)) ≡ false
        → stepped (joined_with w) s input (step w.count s (joined (mapped s) site) input) ≡ joined_next (stepped w s input (step w.count s site input))
    stepped-same s site input found held =
        let done : Step = step w.count s site input in
        let parts = or-false (takes_away (mapped s) (slice_get (slice_set w.sites s done.site) s)) (accesses_by (mapped s) (slice_get w.sites s) (record { site = s; input = Some input; answer = done.answer })) held in
        let after : takes_away (mapped s) (Some done.site) ≡ false = subst (λ f. takes_away (mapped s) f ≡ false) (slice_get-set_same w.sites s site done.site found) parts.0 in
        let by : passes_by (mapped s) site (Some input) done.answer ≡ false = subst (λ f. accesses_by (mapped s) f (record { site = s; input = Some input; answer = done.answer }) ≡ false) found parts.1 in
        ap (stepped (joined_with w) s input) (step-same (λ page. mapped_at page (mapped s)) w.count s site input (ok s site found) (taken-allowed (mapped s) done.site after) (passed-by (mapped s) site input done.answer by))
        ∙ ap (λ sites. record (joined_next (stepped w s input done)) { world = record w { sites = sites; sent = w.sent ++ done.sent } }) (sym (joined-set mapped w.sites s done.site))

    full-same : (s : ℕ) (site : Site) (input : Input) (full : Bool) → slice_get w.sites s ≡ Some site
        → held_by w.sites (if full then unstepped w s (Refused numbers_used_up) else stepped w s input (step w.count s site input)) ≡ false
        → (if full then unstepped (joined_with w) s (Refused numbers_used_up) else stepped (joined_with w) s input (step w.count s (joined (mapped s) site) input))
        ≡ joined_next (if full then unstepped w s (Refused numbers_used_up) else stepped w s input (step w.count s site input))
    full-same s site input true found held = refl
    full-same s site input false found held = stepped-same s site input found held

    site-same : (s : ℕ) (found : Option Site) (input : Input) → slice_get w.sites s ≡ found → held_by w.sites (step_site found w s input) ≡ false
        → step_site (joined_found (mapped s) found) (joined_with w) s input ≡ joined_next (step_site found w s input)
    site-same s None input e held = refl
    site-same s (Some site) input e held = full-same s site input (is_full w) e held

    at-same : (s : ℕ) (input : Input) → held_by w.sites (step_at w s input) ≡ false → step_at (joined_with w) s input ≡ joined_next (step_at w s input)
    at-same s input held = ap (λ f. step_site f (joined_with w) s input) (joined-get mapped w.sites s) ∙ site-same s (slice_get w.sites s) input refl held

  module _ (w : World) (ok : AllowedAt w.sites) where
    repeat-same : (found : Option Envelope) → held_by w.sites (hand_over found w) ≡ false → hand_over found (joined_with w) ≡ joined_next (hand_over found w)
    repeat-same None held = refl
    repeat-same (Some e) held = at-same w ok e.to (Deliver e) held

    deliver-same : (k : ℕ) (found : Option Envelope) → held_by w.sites (deliver found w k) ≡ false → deliver found (joined_with w) k ≡ joined_next (deliver found w k)
    deliver-same k None held = refl
    deliver-same k (Some e) held = at-same (without w k) ok e.to (Deliver e) held

    lose-same : (k : ℕ) (found : Option Envelope) → lose found (joined_with w) k ≡ joined_next (lose found w k)
    lose-same k None = refl
    lose-same k (Some e) = refl

    pub next-same : (event : Event) → held_by w.sites (next w event) ≡ false → next (joined_with w) event ≡ joined_next (next w event)
    next-same (LoadEvent s a offset) held = at-same w ok s (Load a offset) held
    next-same (StoreEvent s a offset byte) held = at-same w ok s (Store a offset byte) held
    next-same (BeginEvent s request) held = at-same w ok s (Begin request) held
    next-same (TickEvent s) held = at-same w ok s Tick held
    next-same (RestartEvent s) held = at-same w ok s Restart held
    next-same (DeliverEvent k) held = deliver-same k (live w k) held
    next-same (Repeat k) held = repeat-same (live w k) held
    next-same (Lose k) held = lose-same k (live w k)
