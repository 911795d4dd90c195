-- What is left when a machine dies: event by event, and from the batch on.
use Rattle.std.proofs.Common.{◌≡◌, ◌≢◌, ℕ, ◌⊎◌, inl, inr, true, false, ◌==◌, List, [], ◌∷◌, ◌++◌, Option, Some, None, arith, filter, refl, sym, ap, ◌∙◌, subst, if◌then◌else◌, slice_get}
use Rattle.std.proofs.lemmas.Bool.{cases_eq}
use Rattle.std.proofs.lemmas.Bool.Decides.{nat_tests}
use Rattle.std.proofs.lemmas.List.{append-nil, append_assoc}
use Rattle.shm_place.specs.declared.page_id.PageId.{PageId}
use Rattle.shm_model.specs.declared.event.Event.{Event}
use Rattle.shm_model.specs.declared.request_kind.Kind.{Kind}
use Rattle.shm_model.specs.Basics.{at}
use Rattle.shm_model.specs.Memory.{Legal}
use Rattle.shm_model.specs.Site.{Site}
use Rattle.shm_model.specs.World.{Done, IsOpening, Opening, next}
use Rattle.shm_laws.proofs.Headline.{runs-legal}
use Rattle.shm_mapping.specs.Mapped.{Mapped, mapped_at, with_memory}
use Rattle.shm_mapping.specs.Hosts.{GiveUp, Happens, HostEvent, Hosts, ProcessorLoad, Map, ProcessorStore, gives_up, hosts_on, is_held, live_site, moved, own_on}
use Rattle.shm_mapping.specs.Deaths.{AreTurns, BringNothing, BringsNothing, Dies, IsBrought, IsTurn, Life, LivesAsOne, Moves, OthersSawNothing, Turn, died, first_life, is_access_at, is_elsewhere, left, lived, lived_on, plain_without, turned}
use Rattle.shm_mapping.proofs.Worlds.{joined-beyond}
use Rattle.shm_mapping.proofs.Good.{Good, Holds, Went, changed-good}
use Rattle.shm_mapping.proofs.Mapping.{kind-bytes}
use Rattle.shm_mapping.proofs.Hold.{moved-went, opened-good}
use Rattle.shm_mapping.proofs.Dies.{Stepped, bare, gives-here, gives-there, happens-if, left-loads-site, left-stores-site, loads-site, maps-here, maps-there, mapped-there, stores-site}

none-some : {X : Type 0} (x : X) → None ≡ Some x → ⊥
none-some x e = cc

module _ (s : ℕ) (o : Opening) (is : IsOpening o) where
  module _ (h : Hosts) (a : List Done) (ps os : List Event) (good : Good o (bare s h a) ps os) (away : filter (is_elsewhere s) a ≡ filter (is_elsewhere s) h.account) where
    abbrev Kept : HostEvent → Type 0
    Kept e = Stepped s o is h (moved h e).hosts (ps ++ (if is_access_at s e then [] else (moved h e).plain)) (os ++ (moved h e).own)

    map-kept : (t at_a : ℕ) (page : PageId) (kind : Kind) → (t ≡ s) ⊎ (t ≢ s) → Kept (Map t at_a page kind)
    map-kept t at_a page kind (inl here) = subst (λ i. Kept (Map i at_a page kind)) (sym here) (maps-here s o is h a ps os good away at_a page kind (live_site h.world s))
    map-kept t at_a page kind (inr there) = maps-there s o is h a ps os good away t there at_a page kind (live_site h.world t) (moved-went o is (bare s h a) ps os good (Map t at_a page kind))

    give-kept : (t at_a : ℕ) (page : PageId) (left : Option Kind) → (t ≡ s) ⊎ (t ≢ s) → BringsNothing s h (GiveUp t at_a page left) → Kept (GiveUp t at_a page left)
    give-kept t at_a page left (inl here) none =
        subst (λ i. Kept (GiveUp i at_a page left)) (sym here) (gives-here s o is h a ps os good away at_a page left (live_site h.world s) (mapped_at page (h.mapped s)) (none here))
    give-kept t at_a page left (inr there) none =
        gives-there s o is h a ps os good away t there at_a page left (live_site h.world t) (mapped_at page (h.mapped t))
        (subst (λ l. Went o ps os (gives_up (bare s h a) t at_a page left (live_site h.world t) (mapped_at page l))) (mapped-there s h t there) (moved-went o is (bare s h a) ps os good (GiveUp t at_a page left)))

    same-true : (t : ℕ) → t ≡ s → (t == s) ≡ true
    same-true t e = grind (arith, nat_tests)

    same-false : (t : ℕ) → t ≢ s → (t == s) ≡ false
    same-false t e = grind (arith, nat_tests)

    load-kept : (t at_a offset : ℕ) → (t ≡ s) ⊎ (t ≢ s) → Kept (ProcessorLoad t at_a offset)
    load-kept t at_a offset (inl here) =
        subst (λ i. Kept (ProcessorLoad i at_a offset)) (sym here)
        (subst (λ c. Stepped s o is h (moved h (ProcessorLoad s at_a offset)).hosts (ps ++ (if c then [] else (moved h (ProcessorLoad s at_a offset)).plain)) (os ++ (moved h (ProcessorLoad s at_a offset)).own)) (sym (same-true s refl))
        (left-loads-site s o is h a ps os good away at_a offset (live_site h.world s)))
    load-kept t at_a offset (inr there) =
        subst (λ c. Stepped s o is h (moved h (ProcessorLoad t at_a offset)).hosts (ps ++ (if c then [] else (moved h (ProcessorLoad t at_a offset)).plain)) (os ++ (moved h (ProcessorLoad t at_a offset)).own)) (sym (same-false t there))
        (loads-site s o is h a ps os good away t there at_a offset (live_site h.world t) (moved-went o is (bare s h a) ps os good (ProcessorLoad t at_a offset)))

    store-kept : (t at_a offset byte : ℕ) → (t ≡ s) ⊎ (t ≢ s) → Kept (ProcessorStore t at_a offset byte)
    store-kept t at_a offset byte (inl here) =
        subst (λ i. Kept (ProcessorStore i at_a offset byte)) (sym here)
        (subst (λ c. Stepped s o is h (moved h (ProcessorStore s at_a offset byte)).hosts (ps ++ (if c then [] else (moved h (ProcessorStore s at_a offset byte)).plain)) (os ++ (moved h (ProcessorStore s at_a offset byte)).own)) (sym (same-true s refl))
        (left-stores-site s o is h a ps os good away at_a offset byte (live_site h.world s)))
    store-kept t at_a offset byte (inr there) =
        subst (λ c. Stepped s o is h (moved h (ProcessorStore t at_a offset byte)).hosts (ps ++ (if c then [] else (moved h (ProcessorStore t at_a offset byte)).plain)) (os ++ (moved h (ProcessorStore t at_a offset byte)).own)) (sym (same-false t there))
        (stores-site s o is h a ps os good away t there at_a offset byte (live_site h.world t) (moved-went o is (bare s h a) ps os good (ProcessorStore t at_a offset byte)))

    event-kept : (e : HostEvent) → BringsNothing s h e → Kept e
    event-kept (Happens event) none = happens-if s o is h a ps os good away event (is_held h (next h.world event)) refl
    event-kept (Map t at_a page kind) none = map-kept t at_a page kind (cases_eq t s)
    event-kept (GiveUp t at_a page left) none = give-kept t at_a page left (cases_eq t s) none
    event-kept (ProcessorLoad t at_a offset) none = load-kept t at_a offset (cases_eq t s)
    event-kept (ProcessorStore t at_a offset byte) none = store-kept t at_a offset byte (cases_eq t s)

  events-kept : (later : List HostEvent) (h : Hosts) (a : List Done) (ps os : List Event) → Good o (bare s h a) ps os → filter (is_elsewhere s) a ≡ filter (is_elsewhere s) h.account → BringNothing s h later
      → Stepped s o is h (hosts_on h later) (ps ++ plain_without s h later) (os ++ own_on h later)
  events-kept [] h a ps os good away none = record {
    account = a;
    good = subst (λ p. Good o (bare s h a) p (os ++ [])) (sym (append-nil ps)) (subst (λ p. Good o (bare s h a) ps p) (sym (append-nil os)) good);
    away = away;
  }
  events-kept (e ∷ es) h a ps os good away none =
      let first = event-kept h a ps os good away e none.0 in
      let here : List Event = if is_access_at s e then [] else (moved h e).plain in
      let rest = events-kept es (moved h e).hosts first.account (ps ++ here) (os ++ (moved h e).own) first.good first.away none.1 in
      let end : Hosts = hosts_on (moved h e).hosts es in
      record {
        account = rest.account;
        good = subst (λ p. Good o (bare s end rest.account) p (os ++ ((moved h e).own ++ own_on (moved h e).hosts es))) (append_assoc ps here (plain_without s (moved h e).hosts es))
            (subst (λ p. Good o (bare s end rest.account) ((ps ++ here) ++ plain_without s (moved h e).hosts es) p) (append_assoc os (moved h e).own (own_on (moved h e).hosts es)) rest.good);
        away = rest.away;
      }

  -- at the batch the machine's memory has what the site has
  module _ (h : Hosts) (ps os : List Event) (good : Good o h ps os) (brought : IsBrought s h) where
    same-if : (x : Site) (q : PageId) (m : Option Mapped) → slice_get h.world.sites s ≡ Some x → mapped_at q (h.mapped s) ≡ m → x.entries q ≡ with_memory m (x.entries q)
    same-if x q None there e = refl
    same-if x q (Some m) there e = sym (kind-bytes m.kind m.memory (x.entries q) (brought x q m there e))

    bare-if : (x : Option Site) → slice_get h.world.sites s ≡ x → Good o (bare s h h.account) ps os
    bare-if None none = record {
      as_one = good.as_one ∙ ap (λ sites. record h.world { sites = sites }) (sym (joined-beyond h.mapped h.world.sites s [] none));
      account = good.account;
      alone = good.alone;
      holds = λ t x page m e f. other t x page m e f (cases_eq s t);
    }
      where
        other : (t : ℕ) (x : Site) (page : PageId) (m : Mapped) → slice_get h.world.sites t ≡ Some x → mapped_at page (at h.mapped s [] t) ≡ Some m → (s ≡ t) ⊎ (s ≢ t) → Holds m (x.entries page)
        other t x page m e f (inl same) = absurd (none-some x (sym none ∙ (ap (slice_get h.world.sites) same ∙ e)))
        other t x page m e f (inr apart) = good.holds t x page m e (ap (mapped_at page) (sym (mapped-there s h t (λ y. apart (sym y)))) ∙ f)
    bare-if (Some x) there = changed-good o h ps os good s x there [] (λ q m e. absurd (none-some m e)) (λ q. same-if x q (mapped_at q (h.mapped s)) there refl)

    bare-good : Good o (bare s h h.account) ps os
    bare-good = bare-if (slice_get h.world.sites s) refl

  -- a death
  module _ (life : Life) (os : List Event) (good : Good o life.hosts life.plain os) (later : List HostEvent) (brought : IsBrought s life.hosts) (none : BringNothing s life.hosts later) where
    ended : Stepped s o is life.hosts (hosts_on life.hosts later) (left life s later) (os ++ own_on life.hosts later)
    ended = events-kept later life.hosts life.hosts.account life.plain os (bare-good life.hosts life.plain os good brought) refl none

    pub died-good : Good o (died o life s later) (left life s later) (os ++ own_on life.hosts later)
    died-good = subst (λ a. Good o (bare s (hosts_on life.hosts later) a) (left life s later) (os ++ own_on life.hosts later)) (sym ended.good.account) ended.good

    pub others-saw : OthersSawNothing o life s later
    others-saw = ap (filter (is_elsewhere s)) ended.good.account ∙ ended.away

module _ (o : Opening) (is : IsOpening o) where
  pub record LifeGood (life : Life) : Type 0 where
    pub own : List Event
    pub good : Good o life.hosts life.plain own

  turn-good : (life : Life) (turn : Turn) → LifeGood life → IsTurn life turn → LifeGood (turned o life turn)
  turn-good life (Moves e) g is_turn = record { own = g.own ++ (moved life.hosts e).own; good = moved-went o is life.hosts life.plain g.own g.good e }
  turn-good life (Dies s later) g is_turn = record { own = g.own ++ own_on life.hosts later; good = died-good s o is life g.own g.good later is_turn.0 is_turn.1 }

  turns-good : (turns : List Turn) (life : Life) → LifeGood life → AreTurns o life turns → LifeGood (lived_on o life turns)
  turns-good [] life g are = g
  turns-good (t ∷ ts) life g are = turns-good ts (turned o life t) (turn-good life t g are.0) are.1

  lived-good : (turns : List Turn) → AreTurns o (first_life o) turns → LifeGood (lived o turns)
  lived-good turns are = turns-good turns (first_life o) (record { own = []; good = opened-good o }) are

  pub lives-as-one : (turns : List Turn) → AreTurns o (first_life o) turns → LivesAsOne o (lived o turns)
  lives-as-one turns are = let g = lived-good turns are in record { world = g.good.as_one; account = g.good.account }

  pub death-unseen : (turns : List Turn) (s : ℕ) (later : List HostEvent) → AreTurns o (first_life o) turns → IsTurn (lived o turns) (Dies s later) → OthersSawNothing o (lived o turns) s later
  death-unseen turns s later are is_turn = let g = lived-good turns are in others-saw s o is (lived o turns) g.own g.good later is_turn.0 is_turn.1

  pub lives-legal : (turns : List Turn) → AreTurns o (first_life o) turns → Legal o (lived o turns).hosts.account
  lives-legal turns are = subst (Legal o) (lived-good turns are).good.account (runs-legal o (lived o turns).plain is)
