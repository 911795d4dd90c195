-- After a round without restarts no manager has a transaction that runs: where one site has purged a segment, all have.
use Rattle.std.proofs.Common.{◌≡◌, ℕ, ◌<◌, ◌≤◌, ◌⊎◌, inl, inr, true, false, List, [], ◌∷◌, ◌++◌, Some, None, slice_get, arith, sym, ◌∙◌, ap, subst}
use Rattle.std.proofs.lemmas.Option.{get_or_from_slice_get, slice_get-get_or, slice_get_within}
use Rattle.shm_place.specs.declared.page_id.PageId.{PageId}
use Rattle.shm_place.specs.Home.{home_of_id}
use Rattle.shm_model.specs.declared.event.Event.{Event}
use Rattle.shm_model.specs.declared.event.Event.TheVariants.{Tick}
use Rattle.shm_model.specs.Book.{Book}
use Rattle.shm_model.specs.Site.{Site}
use Rattle.shm_model.specs.World.{IsOpening, Opening, World, is_full, opened_site, run, sites_of}
use Rattle.shm_laws.proofs.Run.Induction.{run-shape}
use Rattle.shm_laws.proofs.Call.Run.{desks}
use Rattle.shm_laws.proofs.Headline.{run-sound, size-of}
use Rattle.shm_progress.specs.Deliveries.{IsAtRest}
use Rattle.shm_progress.specs.OnTheWay.{NothingLost, world_since}
use Rattle.shm_progress.specs.Rounds.{AllTick, ManagersSettled, NoneRestarted, Settled}
use Rattle.shm_progress.specs.Transactions.{IsPurgedSomewhere, NotRestarted}
use Rattle.shm_progress.proofs.Behind.{none-waits}
use Rattle.shm_progress.proofs.Purge.Everyone.{everyone-purges}
use Rattle.shm_progress.proofs.Round.{same-world, settles, since, split}
use Rattle.shm_progress.proofs.Transfer.GoOn.{ended-at-rest, transactions-go-on}

pub back-unrestarted : (s : ℕ) (front : List Event) (e : Event) (back : List Event) → NotRestarted s (front ++ (e ∷ back)) → NotRestarted s back
back-unrestarted s [] e back kept = kept.1
back-unrestarted s (x ∷ xs) e back kept = back-unrestarted s xs e back kept.1

module _ (o : Opening) (opening : IsOpening o) (earlier later : List Event) (kept : NothingLost later) (unrestarted : NoneRestarted later) (ticks : AllTick (sites_of o) later)
    (free : is_full (run o (earlier ++ later)).world ≡ false) (rest : IsAtRest (run o (earlier ++ later)).world) where
  abbrev w : World
  w = (run o (earlier ++ later)).world

  settled : Settled w
  settled = settles o opening earlier later kept ticks free rest

  module _ (s : ℕ) (x : Site) (found : slice_get w.sites s ≡ Some x) (q : PageId) where
    small : s < sites_of o
    small = let within = slice_get_within w.sites s x found in let all = (run-shape o (earlier ++ later)).sites in omega (arith, within, all)

    -- what one site has purged this one has
    pub purged-too : IsPurgedSomewhere w q.seg → x.purged q.seg ≡ true
    purged-too (t, y, at, is) = by-way (everyone-purges o (earlier ++ later) t q.seg y at is s small)
      where
        home-small : (n id : ℕ) → 1 ≤ n → home_of_id n id < n
        home-small n id some = omega arith

        by-way : ((desks o w.sites (home_of_id (sites_of o) q.seg)).missing q.seg s ≡ true) ⊎ ((desks o w.sites s).purged q.seg ≡ true) → x.purged q.seg ≡ true
        by-way (inl missed) =
            let all = (run-shape o (earlier ++ later)).sites in
            let low = home-small (sites_of o) q.seg (size-of o opening).some_site in
            let none = settled.purged (home_of_id (sites_of o) q.seg) q.seg s _ (slice_get-get_or w.sites (home_of_id (sites_of o) q.seg) (opened_site o (home_of_id (sites_of o) q.seg)) (omega (arith, all, low))) in
            let both : true ≡ false = sym missed ∙ none in
            cc
        by-way (inr purged) = ap (λ (z : Site). z.purged q.seg) (sym (get_or_from_slice_get w.sites s x (opened_site o s) found)) ∙ purged

    closed-idle : x.purged q.seg ≡ true → (x.books q).running ≡ None
    closed-idle is = ap (λ (b : Book). b.running) ((((run-sound o (earlier ++ later) opening).pages q).local s x found).closed is)

    ended : (x.books q).running ≡ None
    ended = by-end ended-or-purged
      where
        ended-or-purged : ((x.books q).running ≡ None) ⊎ IsPurgedSomewhere w q.seg
        ended-or-purged =
            let tick = split o opening earlier later kept ticks free rest s x found in
            let same = same-world o opening earlier later kept ticks free rest s x found in
            subst (λ u. is_full u ≡ false → IsAtRest u → slice_get u.sites s ≡ Some x → ((x.books q).running ≡ None) ⊎ IsPurgedSomewhere u q.seg) (sym same)
            (λ f r here. ended-at-rest (world_since o (earlier ++ tick.front) s tick.back) s x q
            (transactions-go-on o opening s (earlier ++ tick.front) tick.back (since o opening earlier later kept ticks free rest s x found)
            (back-unrestarted s tick.front (Tick s) tick.back (subst (NotRestarted s) tick.is (unrestarted s))) f) r here) free rest found

        by-end : ((x.books q).running ≡ None) ⊎ IsPurgedSomewhere w q.seg → (x.books q).running ≡ None
        by-end (inl none) = none
        by-end (inr purged) = closed-idle (purged-too purged)

  pub managers-settle : ManagersSettled w
  managers-settle = record {
    ended = λ s x q found. ended s x found q;
    served = λ s x q found. none-waits o (earlier ++ later) q s x found (ended s x found q);
  }
