-- Every run is sound, and so legal and coherent.
use Rattle.std.proofs.Common.{◌≡◌, ◌≢◌, ℕ, ◌+◌, ◌<◌, ◌≤◌, ◌⊎◌, inl, inr, Bool, true, ◌==◌, Some, None, List, [], ◌∷◌, map, ◌%◌, slice_get, slice_set, if◌then◌else◌, arith, refl, sym, ◌∙◌, ap, subst, zero, suc}
use Rattle.std.proofs.lemmas.Bool.{cases_eq, cond_both, cond-true, cond-false, eq-eqb, false_from_ne_true}
use Rattle.std.proofs.lemmas.Bool.Decides.{nat_tests}
use Rattle.shm_place.specs.declared.page_id.PageId.{PageId}
use Rattle.shm_place.specs.Limits.{page_bytes}
use Rattle.shm_place.specs.Page.{manager_of}
use Rattle.shm_model.specs.declared.answer.Answer.{Answer}
use Rattle.shm_model.specs.declared.request_kind.Kind.{Kind}
use Rattle.shm_model.specs.declared.request_kind.Kind.TheVariants.{Read, Write}
use Rattle.shm_model.specs.Entry.{Entry, Nil, bytes, readable, writable}
use Rattle.shm_model.specs.Book.{max_sites}
use Rattle.shm_model.specs.Message.{Input, Load, Store, Begin, Deliver, Tick, Restart}
use Rattle.shm_model.specs.Calls.{Attachment}
use Rattle.shm_model.specs.Site.{Site, Step, blank, untouched}
use Rattle.shm_model.specs.Step.{step}
use Rattle.shm_model.specs.Memory.{Legal, segment_of}
use Rattle.shm_model.specs.World.{Done, Opening, Run, extended, sites_of, stepped, unstepped}
use Rattle.shm_laws.proofs.Run.Induction.{IsHonest, Shape}
use Rattle.shm_laws.proofs.Page.View.{View, Holds}
use Rattle.shm_laws.proofs.Page.Entry.{false-true}
use Rattle.shm_laws.proofs.Page.Orders.{each-imp}
use Rattle.shm_laws.proofs.Page.Moves.{EnvelopeFits, Local, Moves, now_of}
use Rattle.shm_laws.proofs.Move.Steps.{each-append}
use Rattle.shm_laws.proofs.Frame.Steps.{step-held}
use Rattle.shm_laws.proofs.Naming.Kept.{Naming, done_at, other-naming}
use Rattle.shm_laws.proofs.Naming.Steps.{step-naming}
use Rattle.std.specs.List.{range_with_len}
use Rattle.std.proofs.lemmas.List.{get_or-replicate, length-replicate}
use Rattle.shm_model.specs.declared.call.Op.TheVariants.{Attach}
use Rattle.shm_model.specs.declared.event.Event.{Event}
use Rattle.shm_model.specs.Entry.{OwnWrite, Handed, is_copy, owned, seen}
use Rattle.shm_model.specs.Book.{Book, untouched_book}
use Rattle.shm_model.specs.Basics.{at}
use Rattle.shm_model.specs.Memory.{Agree, Coherent, op_of}
use Rattle.shm_model.specs.World.{Framed, IsOpening, New, Preset, begun, opened, opened_site, preset_attachment, run}
use Rattle.shm_laws.proofs.Run.Induction.{Kept, run-good}
use Rattle.shm_laws.proofs.Page.View.{Runs}
use Rattle.shm_laws.proofs.Page.Hand.{own-readable-of}
use Rattle.shm_laws.proofs.Page.HandOver.{writable-owned}
use Rattle.shm_laws.proofs.Sound.{PageSound, SiteSound, Sound, input-moves, load-is-last, set-here, set-there}

none-some : {X : Type 0} (x : X) → None ≡ Some x → ⊥
none-some x e = cc

some-same : {X : Type 0} (x y : X) → Some x ≡ Some y → x ≡ y
some-same x y e = cc

pub mapped : {X : Type 0} (f : ℕ → X) (a n k : ℕ) (x : X) → slice_get (map f (range_with_len a n)) k ≡ Some x → (f (a + k) ≡ x) × (k < n)
mapped f a zero k x e = absurd (none-some x e)
mapped f a (suc n) zero x e = (ap f (omega arith) ∙ some-same (f a) x e, omega arith)
mapped f a (suc n) (suc k) x e = let (is, low) = mapped f (a + 1) n k x e in (ap f (omega arith) ∙ is, omega arith)

-- the opening
preset-named : (pages a : ℕ) (t : Attachment) (here : (0 ≡ a) ⊎ (0 ≢ a)) → at (λ _. None) 0 (Some (preset_attachment pages)) a ≡ Some t → (if a == 0 then Some 0 else None) ≡ Some t.id
preset-named pages a t (inl here) e =
    let same : Some (preset_attachment pages) ≡ Some t = sym (cond-true (0 == a) (Some (preset_attachment pages)) None (grind (arith, nat_tests))) ∙ e in
    cond-true (a == 0) (Some 0) None (grind (arith, nat_tests)) ∙ ap Some (ap (λ (y : Attachment). y.id) (some-same (preset_attachment pages) t same))
preset-named pages a t (inr there) e = absurd (none-some t (sym (cond-false (0 == a) (Some (preset_attachment pages)) None (grind (arith, nat_tests))) ∙ e))

opened-sound : (o : Opening) (s : ℕ) → SiteSound o [] s (opened_site o s)
opened-sound (New n) s = record { held = tt; naming = record { named = λ a t e. absurd (none-some t e); called_as = λ out cred id ro e f. absurd (none-some out e) } }
opened-sound (Preset n pages) s = record { held = tt; naming = record { named = λ a t e. preset-named pages a t (cases_eq 0 a) e; called_as = λ out cred id ro e f. absurd (none-some out e) } }
opened-sound (Framed n pages frames) s =
    record { held = record { once = tt; held = tt }; naming = record { named = λ a t e. preset-named pages a t (cases_eq 0 a) e; called_as = λ out cred id ro e f. absurd (none-some out e) } }

first-sites : (o : Opening) (s : ℕ) (site : Site) → slice_get (opened o).sites s ≡ Some site → SiteSound o [] s site
first-sites o s site e = subst (SiteSound o [] s) (mapped (opened_site o) 0 (sites_of o) s site e).0 (opened-sound-at o s)
  where
    opened-sound-at : (o : Opening) (s : ℕ) → SiteSound o [] s (opened_site o (0 + s))
    opened-sound-at o s = subst (λ t. SiteSound o [] s (opened_site o t)) (zero-plus s) (opened-sound o s)
      where
        zero-plus : (s : ℕ) → s ≡ 0 + s
        zero-plus s = omega arith

abbrev first-view : ℕ → PageId → View
first-view n q = record { entries = λ s. untouched n s q; book = untouched_book (manager_of n q) }

opened-local : (o : Opening) (q : PageId) (s : ℕ) → Local (sites_of o) s q (opened_site o s) (first-view (sites_of o) q)
opened-local (New n) q s = record { entry = λ p. refl; gone = λ p. absurd (false-true p); book = λ m p. ap untouched_book m; elsewhere = λ m. refl; closed = λ p. refl }
opened-local (Preset n pages) q s = record { entry = λ p. refl; gone = λ p. absurd (false-true p); book = λ m p. ap untouched_book m; elsewhere = λ m. refl; closed = λ p. refl }
opened-local (Framed n pages frames) q s = record { entry = λ p. refl; gone = λ p. absurd (false-true p); book = λ m p. ap untouched_book m; elsewhere = λ m. refl; closed = λ p. refl }

first-local : (o : Opening) (q : PageId) (s : ℕ) (site : Site) → slice_get (opened o).sites s ≡ Some site → Local (sites_of o) s q site (first-view (sites_of o) q)
first-local o q s site e = subst (λ x. Local (sites_of o) s q x (first-view (sites_of o) q)) (mapped (opened_site o) 0 (sites_of o) s site e).0 (subst (λ t. Local (sites_of o) s q (opened_site o t) (first-view (sites_of o) q)) (zero-plus s) (opened-local o q s))
  where
    zero-plus : (s : ℕ) → s ≡ 0 + s
    zero-plus s = omega arith

first-now : (o : Opening) (q : PageId) → now_of o q [] blank
unfolding blank
first-now o q = record { whole = length-replicate {A = ℕ} page_bytes 0; byte = λ k l. get_or-replicate {A = ℕ} page_bytes k 0 0 l }

not-running : (b : Book) (kind : Kind) (q : ℕ) → b.running ≡ None → Runs b kind q → ⊥
not-running b kind q idle r = none-some _ (sym idle ∙ r.is)

module _ (Now : List ℕ → Type 0) (n : ℕ) (q : PageId) (now : Now blank) (small : manager_of n q < max_sites) where
  untouched-seen : (s : ℕ) → seen (untouched n s q) ≡ 0
  untouched-seen s = cond_both (manager_of n q == s) (OwnWrite 0 blank) (Nil 0) (λ e. seen e ≡ 0) (λ e. refl) (λ e. refl)

  untouched-copy : (s : ℕ) → is_copy (untouched n s q) ≡ true → ⊥
  untouched-copy s = cond_both (manager_of n q == s) (OwnWrite 0 blank) (Nil 0) (λ e. is_copy e ≡ true → ⊥) (λ e w. false-true w) (λ e w. false-true w)

  same-number : (a b : ℕ) → (a == b) ≡ true → a ≡ b
  same-number a b e = grind (arith, nat_tests)

  untouched-here : (s : ℕ) → readable (untouched n s q) ≡ true → s ≡ manager_of n q
  untouched-here s = cond_both (manager_of n q == s) (OwnWrite 0 blank) (Nil 0) (λ e. readable e ≡ true → s ≡ manager_of n q) (λ e w. sym (same-number (manager_of n q) s e)) (λ e w. absurd (false-true w))

  untouched-owned : (s : ℕ) → owned (untouched n s q) ≡ true → s ≡ manager_of n q
  untouched-owned s = cond_both (manager_of n q == s) (OwnWrite 0 blank) (Nil 0) (λ e. owned e ≡ true → s ≡ manager_of n q) (λ e w. sym (same-number (manager_of n q) s e)) (λ e w. absurd (false-true w))

  untouched-writable : (s : ℕ) → writable (untouched n s q) ≡ true → s ≡ manager_of n q
  untouched-writable s = cond_both (manager_of n q == s) (OwnWrite 0 blank) (Nil 0) (λ e. writable e ≡ true → s ≡ manager_of n q) (λ e w. sym (same-number (manager_of n q) s e)) (λ e w. absurd (false-true w))

  untouched-now : (s : ℕ) → readable (untouched n s q) ≡ true → Now (bytes (untouched n s q))
  untouched-now s = cond_both (manager_of n q == s) (OwnWrite 0 blank) (Nil 0) (λ e. readable e ≡ true → Now (bytes e)) (λ e w. now) (λ e w. absurd (false-true w))

  untouched-handed : (s m to : ℕ) (b : List ℕ) → untouched n s q ≡ Handed m to b → ⊥
  untouched-handed s m to b = cond_both (manager_of n q == s) (OwnWrite 0 blank) (Nil 0) (λ e. e ≡ Handed m to b → ⊥) (λ e w. own-handed m to b blank w) (λ e w. nil-handed m to b w)
    where
      own-handed : (m to : ℕ) (b c : List ℕ) → OwnWrite 0 c ≡ Handed m to b → ⊥
      own-handed m to b c e = cc

      nil-handed : (m to : ℕ) (b : List ℕ) → Nil 0 ≡ Handed m to b → ⊥
      nil-handed m to b e = cc

  pub first-holds : Holds Now (first-view n q)
  first-holds = record {
    met = λ s. omega (arith, untouched-seen s);
    owner = λ s w. inl (untouched-owned s w);
    copy_other = λ s w. absurd (untouched-copy s w);
    copy = λ s w. absurd (untouched-copy s w);
    alone = λ s x w other. false_from_ne_true _ (λ r. other (untouched-writable s w ∙ sym (untouched-here x r)));
    now = untouched-now;
    handed = λ s m to b e l. absurd (untouched-handed s m to b e);
    writer = λ p r m. absurd (not-running (untouched_book (manager_of n q)) Write p refl r);
    owner_first = λ k p r m. absurd (not-running (untouched_book (manager_of n q)) k p refl r);
    copies_first = λ p r m. absurd (not-running (untouched_book (manager_of n q)) Write p refl r);
    nobody_else = λ p x r other m. absurd (not-running (untouched_book (manager_of n q)) Write p refl r);
    owner_lent = λ p r other m. absurd (not-running (untouched_book (manager_of n q)) Read p refl r);
    cleared = λ k p s r c. absurd (false-true c);
    bounded = λ s w. subst (λ t. t < max_sites) (sym (untouched-here s w)) small;
    owner_no_copy = refl;
    kept = inl (ap owned (cond-true (manager_of n q == manager_of n q) (OwnWrite 0 blank) (Nil 0) (eq-eqb (manager_of n q) (manager_of n q) refl)));
  }

pub record Size (o : Opening) : Type 0 where
  pub some_site : 1 ≤ sites_of o
  pub few_sites : sites_of o ≤ max_sites

pub size-of : (o : Opening) → IsOpening o → Size o
size-of (New n) i = record { some_site = i.0; few_sites = i.1 }
size-of (Preset n pages) i = record { some_site = i.0; few_sites = i.1 }
size-of (Framed n pages frames) i = record { some_site = i.0; few_sites = i.1 }

manager-small : (n seg index : ℕ) → 1 ≤ n → n ≤ max_sites → (seg + index) % n < max_sites
manager-small n seg index some few = omega arith

first-sound : (o : Opening) → Size o → Sound o (begun o)
first-sound o size = record {
  sites = first-sites o;
  pages = λ q. record {
    view = first-view (sites_of o) q;
    local = first-local o q;
    holds = first-holds (now_of o q []) (sites_of o) q (first-now o q) (manager-small (sites_of o) q.seg q.index size.some_site size.few_sites);
    fits = tt;
  };
  legal = tt;
}

-- a step of one site
module _ (o : Opening) (size : Size o) (r : Run) (gone : ℕ → Bool) (s : ℕ) (site : Site) (input : Input) (sound : Sound o r) (shape : Shape o r.world) (low : s < sites_of o)
    (found : slice_get r.world.sites s ≡ Some site) (honest : IsHonest r.world s input) where
  abbrev done : Step
  done = step (sites_of o) s site input

  abbrev after : Run
  after = extended r (stepped (record r.world { gone = gone }) s input done)

  site-is : (x : Site) → slice_get (slice_set r.world.sites s done.site) s ≡ Some x → done.site ≡ x
  site-is x e = some-same done.site x (sym (set-here r.world.sites s site done.site found) ∙ e)

  sites-after : (t : ℕ) (x : Site) → (t ≡ s) ⊎ (t ≢ s) → slice_get (slice_set r.world.sites s done.site) t ≡ Some x → SiteSound o (done_at s input done.answer ∷ r.account) t x
  sites-after t x (inl same) e =
      let old : SiteSound o r.account s site = sound.sites s site found in
      let here : SiteSound o (done_at s input done.answer ∷ r.account) s done.site =
      record { held = step-held (sites_of o) s site old.held input; naming = step-naming o r.account (sites_of o) s site old.naming input } in
      subst (λ k. SiteSound o (done_at s input done.answer ∷ r.account) k x) (sym same)
      (subst (SiteSound o (done_at s input done.answer ∷ r.account) s) (site-is x (subst (λ k. slice_get (slice_set r.world.sites s done.site) k ≡ Some x) same e)) here)
  sites-after t x (inr other) e =
      let old : SiteSound o r.account t x = sound.sites t x (sym (set-there r.world.sites s t done.site other) ∙ e) in
      record { held = old.held; naming = other-naming o r.account (done_at s input done.answer) t x (λ same. other (sym same)) old.naming }

  moves : (q : PageId) → Moves (now_of o q r.account) (now_of o q (done_at s input done.answer ∷ r.account)) (sites_of o) s q (sound.pages q).view done.site done.sent
  moves q = input-moves o r.account s (omega (arith, size.few_sites)) q (sound.pages q).view site r.world.sent (sound.pages q).holds ((sound.pages q).local s site found) (sound.sites s site found) (sound.pages q).fits r.world refl input honest

  local-after : (q : PageId) (t : ℕ) (x : Site) → (t ≡ s) ⊎ (t ≢ s) → slice_get (slice_set r.world.sites s done.site) t ≡ Some x → Local (sites_of o) t q x (moves q).view
  local-after q t x (inl same) e =
      subst (λ k. Local (sites_of o) k q x (moves q).view) (sym same)
      (subst (λ y. Local (sites_of o) s q y (moves q).view) (site-is x (subst (λ k. slice_get (slice_set r.world.sites s done.site) k ≡ Some x) same e)) (moves q).local)
  local-after q t x (inr other) e =
      let old : Local (sites_of o) t q x (sound.pages q).view = (sound.pages q).local t x (sym (set-there r.world.sites s t done.site other) ∙ e) in
      record {
        entry = λ p. (moves q).others t other ∙ old.entry p;
        gone = old.gone;
        book = λ m p. (moves q).book_stays (λ same. other (sym m ∙ same)) ∙ old.book m p;
        elsewhere = old.elsewhere;
        closed = old.closed;
      }

  page-after : (q : PageId) → PageSound o after q
  page-after q = record {
    view = (moves q).view;
    local = λ t x e. local-after q t x (cases_eq t s) e;
    holds = (moves q).holds;
    fits = each-append (EnvelopeFits (now_of o q (done_at s input done.answer ∷ r.account)) q (moves q).view) r.world.sent done.sent
        (each-imp (EnvelopeFits (now_of o q r.account) q (sound.pages q).view) (EnvelopeFits (now_of o q (done_at s input done.answer ∷ r.account)) q (moves q).view) r.world.sent
        (λ e (f : EnvelopeFits (now_of o q r.account) q (sound.pages q).view e). record { fits = λ note is. (moves q).fits e.from e.to note (f.fits note is) }) (sound.pages q).fits)
        (moves q).new;
  }

  pages-here : (q : PageId) → (v : View) × Local (sites_of o) s q site v × Holds (now_of o q r.account) v
  pages-here q = ((sound.pages q).view, (sound.pages q).local s site found, (sound.pages q).holds)

  pub step-sound : Legal o (done_at s input done.answer ∷ r.account) → Sound o after
  step-sound legal = record { sites = λ t x e. sites-after t x (cases_eq t s) e; pages = page-after; legal = legal }

legal-step : (o : Opening) (r : Run) (s : ℕ) (site : Site) (input : Input) → Sound o r → slice_get r.world.sites s ≡ Some site → Legal o (done_at s input (step (sites_of o) s site input).answer ∷ r.account)
legal-step o r s site (Load a offset) sound found =
    (load-is-last o r.account s site (sound.sites s site found).naming a offset (λ q. ((sound.pages q).view, (sound.pages q).local s site found, (sound.pages q).holds)), sound.legal)
legal-step o r s site (Store a offset byte) sound found = (tt, sound.legal)
legal-step o r s site (Begin request) sound found = (tt, sound.legal)
legal-step o r s site (Deliver e) sound found = (tt, sound.legal)
legal-step o r s site Tick sound found = (tt, sound.legal)
legal-step o r s site Restart sound found = (tt, sound.legal)

-- an event that steps no site
still-naming : (o : Opening) (account : List Done) (s : ℕ) (answer : Answer) (t : ℕ) (site : Site) → Naming o account t site → Naming o (record { site = s; input = None; answer = answer } ∷ account) t site
still-naming o account s answer t site n = record {
  named = λ a x e. cond_both (s == t) (segment_of o account t a) (segment_of o account t a) (λ y. y ≡ Some x.id) (λ _. n.named a x e) (λ _. n.named a x e);
  called_as = λ out cred id ro e f. cond_both (s == t) (op_of account t out.number) (op_of account t out.number) (λ y. y ≡ Some (Attach cred id ro)) (λ _. n.called_as out cred id ro e f) (λ _. n.called_as out cred id ro e f);
}

still-sound : (o : Opening) (r : Run) (gone : ℕ → Bool) (s : ℕ) (answer : Answer) → Sound o r → Sound o (extended r (unstepped (record r.world { gone = gone }) s answer))
still-sound o r gone s answer sound = record {
  sites = λ t x e. record { held = (sound.sites t x e).held; naming = still-naming o r.account s answer t x (sound.sites t x e).naming };
  pages = λ q. record { view = (sound.pages q).view; local = (sound.pages q).local; holds = (sound.pages q).holds; fits = (sound.pages q).fits };
  legal = (tt, sound.legal);
}

sound-kept : (o : Opening) → IsOpening o → Kept o (Sound o)
sound-kept o is = record {
  first = first-sound o (size-of o is);
  steps = λ r gone s site input sound shape low found honest. step-sound o (size-of o is) r gone s site input sound shape low found honest (legal-step o r s site input sound found);
  stays = λ r gone s answer sound shape still. still-sound o r gone s answer sound;
}

pub run-sound : (o : Opening) (events : List Event) → IsOpening o → Sound o (run o events)
run-sound o events is = (run-good o (Sound o) (sound-kept o is) events).holds

pub runs-legal : (o : Opening) (events : List Event) → IsOpening o → Legal o (run o events).account
runs-legal o events is = (run-sound o events is).legal

module _ (o : Opening) (account : List Done) (q : PageId) (v : View) (h : Holds (now_of o q account) v) (s t : ℕ) (x y : Site) (lx : Local (sites_of o) s q x v) (ly : Local (sites_of o) t q y v) (other : s ≢ t) where
  open-where : (u : ℕ) (z : Site) → Local (sites_of o) u q z v → readable (z.entries q) ≡ true → v.entries u ≡ z.entries q
  open-where u z l w = l.entry (false_from_ne_true _ (λ p. false-true (sym (ap readable (l.gone p)) ∙ w)))

  alone-here : writable (x.entries q) ≡ true → readable (y.entries q) ≡ true → ⊥
  alone-here w r =
      let ex : v.entries s ≡ x.entries q = open-where s x lx (readable-of (x.entries q) w) in
      let ey : v.entries t ≡ y.entries q = open-where t y ly r in
      false-true (sym (h.alone s t (ap writable ex ∙ w) other) ∙ (ap readable ey ∙ r))
    where
      readable-of : (e : Entry) → writable e ≡ true → readable e ≡ true
      readable-of e w = own-readable-of e (writable-owned e w)

  bytes-here : (u : ℕ) (z : Site) → Local (sites_of o) u q z v → readable (z.entries q) ≡ true → now_of o q account (bytes (z.entries q))
  bytes-here u z l w = let e : v.entries u ≡ z.entries q = open-where u z l w in subst (λ k. now_of o q account (bytes k)) e (h.now u (ap readable e ∙ w))

  pub agree-here : Agree (x.entries q) (y.entries q)
  agree-here = record {
    alone = λ w. false_from_ne_true _ (λ r. alone-here w r);
    equal = λ wx wy k l. (bytes-here s x lx wx).byte k l ∙ sym ((bytes-here t y ly wy).byte k l);
  }

pub runs-coherent : (o : Opening) (events : List Event) → IsOpening o → Coherent (run o events).world
runs-coherent o events is q s t x y limits ex ey other =
    let sound : Sound o (run o events) = run-sound o events is in
    let page : PageSound o (run o events) q = sound.pages q in
    agree-here o (run o events).account q page.view page.holds s t x y (page.local s x ex) (page.local t y ey) other
