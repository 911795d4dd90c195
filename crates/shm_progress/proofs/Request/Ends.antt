-- After a round without restarts each request that is still pending was turned away: its Ask came while sixteen waited.
use Rattle.std.proofs.Common.{◌≡◌, ℕ, ◌≤◌, ◌⊎◌, inl, inr, true, false, List, [], ◌∷◌, ◌++◌, Option, Some, None, append_assoc, slice_get, refl, sym, ◌∙◌, ap, subst, Contains}
use Rattle.shm_place.specs.Page.{manager_of}
use Rattle.shm_model.specs.declared.event.Event.{Event}
use Rattle.shm_model.specs.declared.event.Event.TheVariants.{Tick}
use Rattle.shm_model.specs.Book.{Running, Waiting, is_waiting}
use Rattle.shm_model.specs.Site.{Pending, Site}
use Rattle.shm_model.specs.World.{IsOpening, Opening, Run, World, is_full, live, run, sites_of}
use Rattle.shm_laws.proofs.Run.Induction.{run-shape}
use Rattle.shm_progress.specs.Deliveries.{IsAtRest}
use Rattle.shm_progress.specs.OnTheWay.{NothingLost}
use Rattle.shm_progress.specs.Requests.{IsStarted, IsTakenUp, IsTakenUpAt, RequestsSettled, TookNone, TurnedAway}
use Rattle.shm_progress.specs.Rounds.{AllTick, NoneRestarted}
use Rattle.shm_progress.specs.Transactions.{IsPurgedSomewhere, NotRestarted}
use Rattle.shm_progress.proofs.Round.{Split, since, split}
use Rattle.shm_progress.proofs.Request.GoOn.{requests-go-on, taken-at-rest}
use Rattle.shm_progress.proofs.Along.{runs-on}
use Rattle.shm_progress.proofs.OnTheWay.{free-before}
use Rattle.shm_progress.proofs.Request.Numbers.{number-left}
use Rattle.shm_progress.proofs.Request.Open.{pending-open}
use Rattle.shm_progress.proofs.Request.Serving.{started-served}
use Rattle.shm_progress.proofs.Transfer.Ends.{back-unrestarted, managers-settle, purged-too}

-- the events about a tick among the later ones
module _ (o : Opening) (earlier later : List Event) (s : ℕ) (tick : Split later (Tick s)) where
  abbrev before : List Event
  before = (earlier ++ tick.front) ++ (Tick s ∷ [])

  pub whole : (es : List Event) → before ++ es ≡ earlier ++ (tick.front ++ (Tick s ∷ es))
  whole es = append_assoc (earlier ++ tick.front) (Tick s ∷ []) es ∙ append_assoc earlier tick.front (Tick s ∷ es)

  pub all-events : before ++ tick.back ≡ earlier ++ later
  all-events = whole tick.back ∙ ap (λ es. earlier ++ es) (sym tick.is)

  inside : (es fs : List Event) → tick.back ≡ es ++ fs → later ≡ (tick.front ++ (Tick s ∷ es)) ++ fs
  inside es fs is = tick.is ∙ (ap (λ es. tick.front ++ (Tick s ∷ es)) is ∙ sym (append_assoc tick.front (Tick s ∷ es) fs))

  pub turned-in : (m t : ℕ) (p : Pending) → TookNone o before tick.back m t p → TookNone o earlier later m t p
  turned-in m t p (inl a) = inl (record {
    front = tick.front ++ (Tick s ∷ a.front);
    event = a.event;
    back = a.back;
    is = inside a.front (a.event ∷ a.back) a.is;
    site = a.site;
    found = ap (λ es. slice_get (run o es).world.sites m) (sym (whole a.front)) ∙ a.found;
    full = a.full;
    number = a.number;
    asked = ap (λ es. live (run o es).world a.number) (sym (whole a.front)) ∙ a.asked;
    gone = ap (λ es. live (run o es).world a.number) (ap (λ es. earlier ++ es) (append_assoc tick.front (Tick s ∷ a.front) (a.event ∷ [])) ∙ sym (whole (a.front ++ (a.event ∷ [])))) ∙ a.gone;
  })
  turned-in m t p (inr u) = inr (record {
    front = tick.front ++ (Tick s ∷ u.front);
    back = u.back;
    is = inside u.front u.back u.is;
    site = u.site;
    found = ap (λ es. slice_get (run o es).world.sites m) (sym (whole u.front)) ∙ u.found;
    last = u.last;
  })

-- a number was left, so that sixteen waited
turned-away : (o : Opening) (earlier later : List Event) (m s : ℕ) (p : Pending) → is_full (run o (earlier ++ later)).world ≡ false → TookNone o earlier later m s p → TurnedAway o earlier later m s p
turned-away o earlier later m s p free (inl t) = t
turned-away o earlier later m s p free (inr t) = absurd (number-left o (earlier ++ t.front) m t.site p.page t.found free_then t.last)
  where
    free_then : is_full (run o (earlier ++ t.front)).world ≡ false
    free_then =
        free-before (run o (earlier ++ t.front)) t.back
        (subst (λ (r : Run). is_full r.world ≡ false) (runs-on o earlier t.front t.back) (subst (λ es. is_full (run o (earlier ++ es)).world ≡ false) t.is free))

none-waits : (ws : List Waiting) (s r : ℕ) → ws ≡ [] → is_waiting s r ws ≡ true → ⊥
none-waits [] s r e h = cc
none-waits (w ∷ ws) s r e h = cc

module _ (o : Opening) (opening : IsOpening o) (earlier later : List Event) (kept : NothingLost later) (unrestarted : NoneRestarted later) (ticks : AllTick (sites_of o) later)
    (free : is_full (run o (earlier ++ later)).world ≡ false) (rest : IsAtRest (run o (earlier ++ later)).world) where
  abbrev w : World
  w = (run o (earlier ++ later)).world

  module _ (s : ℕ) (x : Site) (p : Pending) (found : slice_get w.sites s ≡ Some x) (here : Contains x.pending p) where
    started : IsTakenUpAt w (manager_of (sites_of o) p.page) s p → IsStarted w s p
    started (y, at, taken) =
        (y, ap (λ n. slice_get w.sites (manager_of n p.page)) (run-shape o (earlier ++ later)).count ∙ at, by-taken taken)
      where
        by-taken : IsTakenUp (y.books p.page) s p.request → p.request ≤ (y.books p.page).served s
        by-taken (inl waits) =
            absurd (none-waits (y.books p.page).waiting s p.request ((managers-settle o opening earlier later kept unrestarted ticks free rest).served (manager_of (sites_of o) p.page) y p.page at) waits)
        by-taken (inr low) = low

    -- what was started runs, and none does
    unstarted : IsStarted w s p → ⊥
    unstarted is =
        let now = started-served o opening (earlier ++ later) s x p found here is in
        some-none _ _ now.runs ((managers-settle o opening earlier later kept unrestarted ticks free rest).ended (manager_of w.count p.page) now.manager p.page now.found)
      where
        some-none : (found : Option Running) (run : Running) → found ≡ Some run → found ≡ None → ⊥
        some-none found run e f = cc

    settle-one : TurnedAway o earlier later (manager_of (sites_of o) p.page) s p
    settle-one = by-end (ends-at found rest)
      where
        tick : Split later (Tick s)
        tick = split o opening earlier later kept ticks free rest s x found

        ends-at : slice_get w.sites s ≡ Some x → IsAtRest w → IsTakenUpAt w (manager_of (sites_of o) p.page) s p
            ⊎ (TookNone o ((earlier ++ tick.front) ++ (Tick s ∷ [])) tick.back (manager_of (sites_of o) p.page) s p ⊎ IsPurgedSomewhere w p.page.seg)
        ends-at =
            subst (λ es. slice_get (run o es).world.sites s ≡ Some x → IsAtRest (run o es).world → IsTakenUpAt (run o es).world (manager_of (sites_of o) p.page) s p
            ⊎ (TookNone o ((earlier ++ tick.front) ++ (Tick s ∷ [])) tick.back (manager_of (sites_of o) p.page) s p ⊎ IsPurgedSomewhere (run o es).world p.page.seg)) (all-events o earlier later s tick)
            (λ at quiet. taken-at-rest o ((earlier ++ tick.front) ++ (Tick s ∷ [])) tick.back (manager_of (sites_of o) p.page) s x p
            (requests-go-on o opening (manager_of (sites_of o) p.page) s (earlier ++ tick.front) tick.back (since o opening earlier later kept ticks free rest s x found)
            (back-unrestarted (manager_of (sites_of o) p.page) tick.front (Tick s) tick.back (subst (NotRestarted (manager_of (sites_of o) p.page)) tick.is (unrestarted (manager_of (sites_of o) p.page))))
            (subst (λ es. is_full (run o es).world ≡ false) (sym (all-events o earlier later s tick)) free)) quiet at here refl)

        by-end : IsTakenUpAt w (manager_of (sites_of o) p.page) s p
            ⊎ (TookNone o ((earlier ++ tick.front) ++ (Tick s ∷ [])) tick.back (manager_of (sites_of o) p.page) s p ⊎ IsPurgedSomewhere w p.page.seg)
            → TurnedAway o earlier later (manager_of (sites_of o) p.page) s p
        by-end (inl taken) = absurd (unstarted (started taken))
        by-end (inr (inl turned)) = turned-away o earlier later (manager_of (sites_of o) p.page) s p free (turned-in o earlier later s tick (manager_of (sites_of o) p.page) s p turned)
        by-end (inr (inr purged)) = absurd (open-still (purged-too o opening earlier later kept unrestarted ticks free rest s x found p.page purged))
          where
            open-still : x.purged p.page.seg ≡ true → ⊥
            open-still gone = let open_here = pending-open o opening (earlier ++ later) s x p found here in let both : true ≡ false = sym gone ∙ open_here in cc

  pub requests-settle : RequestsSettled o earlier later
  requests-settle s x p found here = settle-one s x p found here
