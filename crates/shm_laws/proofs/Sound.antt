-- The invariant of a run: every site names its attachments as the account does and holds the pages as their views say, what was sent fits,
-- and the account is legal.
use Rattle.std.proofs.Common.{◌≡◌, ◌≢◌, ℕ, ◌<◌, true, false, ◌==◌, Option, Some, None, List, [], ◌∷◌, nat_lt, slice_get, slice_set, slice_index, Contains, arith, refl, sym, ◌∙◌, ap, subst, zero, suc}
use Rattle.std.proofs.lemmas.Bool.{cond_both, false_from_ne_true}
use Rattle.std.proofs.lemmas.Option.{slice_get-get_or}
use Rattle.shm_place.specs.declared.page_id.PageId.{PageId}
use Rattle.shm_place.specs.Limits.{page_bytes}
use Rattle.shm_place.specs.Offset.{rounded, within_of}
use Rattle.shm_model.specs.declared.request_kind.Kind.TheVariants.{Read}
use Rattle.shm_model.specs.Entry.{bytes, readable}
use Rattle.shm_model.specs.Book.{max_sites}
use Rattle.shm_model.specs.Basics.{greatest}
use Rattle.shm_model.specs.Message.{Envelope, Input, Load, Store, Begin, Deliver, Tick, Restart}
use Rattle.shm_model.specs.Calls.{Attachment}
use Rattle.shm_model.specs.Site.{Site, Step}
use Rattle.shm_model.specs.Access.{ask_for, is_pending, load, load_at, load_if, place_in, right_through}
use Rattle.shm_model.specs.Step.{step}
use Rattle.shm_model.specs.Memory.{Legal, LoadsLast, last_store, segment_of}
use Rattle.shm_model.specs.World.{Done, Opening, Run, World, sites_of}
use Rattle.shm_laws.proofs.Run.Induction.{IsHonest}
use Rattle.shm_laws.proofs.Page.View.{View, Holds}
use Rattle.shm_laws.proofs.Page.Entry.{false-true}
use Rattle.shm_laws.proofs.Page.Orders.{Each}
use Rattle.shm_laws.proofs.Page.Moves.{EnvelopeFits, Local, StepMoves, now_of}
use Rattle.shm_laws.proofs.Move.Access.{load-moves, offset-parts, store-moves}
use Rattle.shm_laws.proofs.Move.Calls.{begin-quiet}
use Rattle.shm_laws.proofs.Move.Steps.{deliver-moves, quiet-step, restart-moves, tick-moves}
use Rattle.shm_laws.proofs.Frame.Steps.{SiteHeld}
use Rattle.shm_laws.proofs.Naming.Kept.{Naming, done_at}

pub set-here : {X : Type 0} (xs : List X) (s : ℕ) (x y : X) → slice_get xs s ≡ Some x → slice_get (slice_set xs s y) s ≡ Some y
set-here [] s x y e = absurd (none-some x e)
  where
    none-some : {X : Type 0} (x : X) → None ≡ Some x → ⊥
    none-some x e = cc
set-here (z ∷ zs) zero x y e = refl
set-here (z ∷ zs) (suc s) x y e = set-here zs s x y e

pub set-there : {X : Type 0} (xs : List X) (s t : ℕ) (y : X) → t ≢ s → slice_get (slice_set xs s y) t ≡ slice_get xs t
set-there [] s t y other = refl
set-there (z ∷ zs) zero zero y other = absurd (other refl)
set-there (z ∷ zs) zero (suc t) y other = refl
set-there (z ∷ zs) (suc s) zero y other = refl
set-there (z ∷ zs) (suc s) (suc t) y other = set-there zs s t y (λ e. other (ap suc e))

pub record SiteSound (o : Opening) (account : List Done) (s : ℕ) (site : Site) : Type 0 where
  pub held : SiteHeld site
  pub naming : Naming o account s site

-- one page in a run
pub record PageSound (o : Opening) (r : Run) (q : PageId) : Type 0 where
  pub view : View
  pub local : (s : ℕ) (site : Site) → slice_get r.world.sites s ≡ Some site → Local (sites_of o) s q site view
  pub holds : Holds (now_of o q r.account) view
  pub fits : Each (EnvelopeFits (now_of o q r.account) q view) r.world.sent

pub record Sound (o : Opening) (r : Run) : Type 0 where
  pub sites : (s : ℕ) (site : Site) → slice_get r.world.sites s ≡ Some site → SiteSound o r.account s site
  pub pages : (q : PageId) → PageSound o r q
  pub legal : Legal o r.account

pub each-at : {X : Type 0} (P : X → Type 0) (xs : List X) (k : ℕ) (x : X) → Each P xs → slice_get xs k ≡ Some x → P x
each-at P [] k x a e = absurd (none-some x e)
  where
    none-some : {X : Type 0} (x : X) → None ≡ Some x → ⊥
    none-some x e = cc
each-at P (y ∷ ys) zero x a e = subst P (some-same y x e) a.0
  where
    some-same : {X : Type 0} (x y : X) → Some x ≡ Some y → x ≡ y
    some-same x y e = cc
each-at P (y ∷ ys) (suc k) x a e = each-at P ys k x a.1 e

pub each-in : {X : Type 0} (P : X → Type 0) (xs : List X) (x : X) → Each P xs → Contains xs x → P x
each-in P xs x a (k, l, e) = each-at P xs k x a (slice_get-get_or xs k x l ∙ ap Some e)

-- the step of one site moves one page
module _ (o : Opening) (account : List Done) (s : ℕ) (small : s < max_sites) (q : PageId) (v : View) (site : Site) (sent : List Envelope)
    (h : Holds (now_of o q account) v) (l : Local (sites_of o) s q site v) (sound : SiteSound o account s site) (fits : Each (EnvelopeFits (now_of o q account) q v) sent) where
  abbrev Goal : Input → Type 0
  Goal input = StepMoves (now_of o q account) (now_of o q (done_at s input (step (sites_of o) s site input).answer ∷ account)) (sites_of o) s q v (step (sites_of o) s site input)

  pub input-moves : (w : World) → w.sent ≡ sent → (input : Input) → IsHonest w s input → Goal input
  input-moves w is (Load a offset) honest = load-moves (now_of o q account) (sites_of o) s q v site h l a offset
  input-moves w is (Store a offset byte) honest = store-moves o account (sites_of o) s a offset byte q v site h l (λ t e. sound.naming.named a t e)
  input-moves w is (Begin request) honest = quiet-step (now_of o q account) (sites_of o) s q v site h l _ (begin-quiet (sites_of o) s request site)
  input-moves w is (Deliver e) honest =
      deliver-moves (now_of o q account) (sites_of o) s q v site h l sound.held small e honest.1 (each-in (EnvelopeFits (now_of o q account) q v) sent e fits (subst (λ xs. Contains xs e) is honest.0))
  input-moves w is Tick honest = tick-moves (now_of o q account) (sites_of o) s q v site h l
  input-moves w is Restart honest = restart-moves (now_of o q account) (sites_of o) s q v site h l

-- a load that completes gives what was stored last
module _ (o : Opening) (account : List Done) (s : ℕ) (site : Site) (naming : Naming o account s site) (a offset : ℕ) (pages : (q : PageId) → (v : View) × Local (sites_of o) s q site v × Holds (now_of o q account) v) where
  abbrev Loads : Step → Type 0
  Loads st = LoadsLast (Some (Load a offset)) st.answer (segment_of o account s) (last_store o account)

  ask-loads : (page : PageId) → Loads (ask_for (sites_of o) s Read page site)
  ask-loads page = cond_both (is_pending Read page site.pending) _ _ Loads (λ e. tt) (λ e. cond_both (site.requests == greatest) _ _ Loads (λ f. tt) (λ f. tt))

  byte-last : (t : Attachment) (b : List ℕ) → now_of o (place_in t offset).page account b → slice_index b (within_of offset) ≡ last_store o account t.id offset
  byte-last t b now = now.byte (within_of offset) (within-small offset) ∙ ap (last_store o account t.id) (sym (offset-parts offset))
    where
      within-small : (offset : ℕ) → within_of offset < page_bytes
      within-small offset = omega arith

  read-here : (t : Attachment) → readable (site.entries (place_in t offset).page) ≡ true → slice_index (bytes (site.entries (place_in t offset).page)) (within_of offset) ≡ last_store o account t.id offset
  read-here t w =
      let q : PageId = (place_in t offset).page in
      let (v, l, h) = pages q in
      let open_here : site.purged q.seg ≡ false = false_from_ne_true _ (λ p. false-true (sym (ap readable (l.gone p)) ∙ w)) in
      let same : v.entries s ≡ site.entries q = l.entry open_here in
      byte-last t (bytes (site.entries q)) (subst (λ e. now_of o q account (bytes e)) same (h.now s (ap readable same ∙ w)))

  place-loads : (t : Attachment) → site.attachments a ≡ Some t → Loads (load_at (sites_of o) s (place_in t offset) site)
  place-loads t e =
      cond_both (readable (site.entries (place_in t offset).page)) _ _ Loads (λ w. (t.id, naming.named a t e, read-here t w)) (λ w. ask-loads (place_in t offset).page)

  found-loads : (found : Option Attachment) → site.attachments a ≡ found → Loads (load_if (sites_of o) s (right_through found offset false) site)
  found-loads None e = tt
  found-loads (Some t) e =
      cond_both (nat_lt offset (rounded t.size)) _ _ (λ r. Loads (load_if (sites_of o) s r site)) (λ k. place-loads t e) (λ k. tt)

  pub load-is-last : Loads (load (sites_of o) s a offset site)
  load-is-last = found-loads (site.attachments a) refl
