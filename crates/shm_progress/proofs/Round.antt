-- After a round every site has ticked with nothing lost since, so that its call and its purges have gone on to their ends.
use Rattle.std.proofs.Common.{◌≡◌, ℕ, zero, suc, false, List, [], ◌∷◌, ◌++◌, Some, None, slice_get, append_assoc, arith, sym, ◌∙◌, ap, subst, Contains}
use Rattle.std.proofs.lemmas.Option.{slice_get-get_or, slice_get_within}
use Rattle.shm_model.specs.declared.event.Event.{Event}
use Rattle.shm_model.specs.declared.event.Event.TheVariants.{Tick}
use Rattle.shm_model.specs.Site.{Site}
use Rattle.shm_model.specs.World.{IsOpening, Opening, World, is_full, run, sites_of}
use Rattle.shm_laws.proofs.Run.Induction.{run-shape}
use Rattle.shm_progress.specs.Deliveries.{IsAtRest}
use Rattle.shm_progress.specs.OnTheWay.{NothingLost, world_since}
use Rattle.shm_progress.specs.Rounds.{AllTick, Settled}
use Rattle.shm_progress.proofs.Purge.GoOn.{purged-at-rest, purges-go-on}
use Rattle.shm_progress.proofs.Serve.GoOn.{answered-at-rest, calls-go-on}

-- a list about one of its elements
pub record Split (events : List Event) (e : Event) : Type 0 where
  pub front : List Event
  pub back : List Event
  pub is : events ≡ front ++ (e ∷ back)

split-at : (events : List Event) (k : ℕ) (e : Event) → slice_get events k ≡ Some e → Split events e
split-at [] k e found = cc
split-at (x ∷ xs) zero e found = record { front = []; back = xs; is = ap (λ y. y ∷ xs) (some-same x e found) }
  where
    some-same : (x y : Event) → Some x ≡ Some y → x ≡ y
    some-same x y h = cc
split-at (x ∷ xs) (suc k) e found = let rest = split-at xs k e found in record { front = x ∷ rest.front; back = rest.back; is = ap (λ ys. x ∷ ys) rest.is }

back-kept : (front : List Event) (e : Event) (back : List Event) → NothingLost (front ++ (e ∷ back)) → NothingLost back
back-kept [] e back kept = kept.1
back-kept (x ∷ xs) e back kept = back-kept xs e back kept.1

-- what a tick of this site among the events leaves
module _ (o : Opening) (opening : IsOpening o) (earlier later : List Event) (kept : NothingLost later) (ticks : AllTick (sites_of o) later)
    (free : is_full (run o (earlier ++ later)).world ≡ false) (rest : IsAtRest (run o (earlier ++ later)).world) where
  abbrev w : World
  w = (run o (earlier ++ later)).world

  module _ (s : ℕ) (x : Site) (found : slice_get w.sites s ≡ Some x) where
    pub split : Split later (Tick s)
    split =
        let within = slice_get_within w.sites s x found in
        let all = (run-shape o (earlier ++ later)).sites in
        at-tick (ticks s (omega (arith, within, all)))
      where
        at-tick : Contains later (Tick s) → Split later (Tick s)
        at-tick (k, l, e) = split-at later k (Tick s) (slice_get-get_or later k (Tick s) l ∙ ap Some e)

    pub same-world : w ≡ world_since o (earlier ++ split.front) s split.back
    same-world = ap (λ es. (run o es).world) (ap (λ es. earlier ++ es) split.is ∙ sym (append_assoc earlier split.front (Tick s ∷ split.back)))

    pub since : NothingLost split.back
    since = back-kept split.front (Tick s) split.back (subst NothingLost split.is kept)

    no-call : x.outstanding ≡ None
    no-call =
        subst (λ u. is_full u ≡ false → IsAtRest u → slice_get u.sites s ≡ Some x → x.outstanding ≡ None) (sym same-world)
        (λ f r here. answered-at-rest (world_since o (earlier ++ split.front) s split.back) s x (calls-go-on o opening s (earlier ++ split.front) split.back since f) r here) free rest found

    no-purge : (id t : ℕ) → x.missing id t ≡ false
    no-purge id t =
        subst (λ u. is_full u ≡ false → IsAtRest u → slice_get u.sites s ≡ Some x → x.missing id t ≡ false) (sym same-world)
        (λ f r here. purged-at-rest (world_since o (earlier ++ split.front) s split.back) s x id t (purges-go-on o opening s (earlier ++ split.front) split.back since f) r here) free rest found

  pub settles : Settled w
  settles = record { answered = no-call; purged = λ home id site x found. no-purge home x found id site }
