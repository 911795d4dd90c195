-- What is missing at a home is named by no attachment of any site.
use Rattle.std.proofs.Common.{◌≡◌, ℕ, ◌*◌, ◌<◌, Bool, true, false, ◌==◌, ◌||◌, List, [], ◌∷◌, Option, Some, None, slice_get, arith, refl, sym, ◌∙◌, ap, subst}
use Rattle.std.specs.List.{list_any, range_with_len}
use Rattle.std.proofs.lemmas.Bool.{eqb-true, false_from_ne_true}
use Rattle.std.proofs.lemmas.Option.{get_or_from_slice_get, slice_get_within}
use Rattle.shm_place.specs.Home.{home_of_id}
use Rattle.shm_place.specs.Limits.{segments_of_a_home}
use Rattle.shm_model.specs.declared.event.Event.{Event}
use Rattle.shm_model.specs.Permission.{Segment, destroyed}
use Rattle.shm_model.specs.Kernel.{is_destroyed, with_id}
use Rattle.shm_model.specs.Calls.{Attachment}
use Rattle.shm_model.specs.Site.{Site, is_attached, is_attachment_of, max_attachments}
use Rattle.shm_model.specs.Memory.{segment_of}
use Rattle.shm_model.specs.History.{segments_after}
use Rattle.shm_model.specs.World.{IsOpening, Opening, Run, World, opened_site, run, sites_of}
use Rattle.shm_laws.proofs.Run.Induction.{run-shape}
use Rattle.shm_laws.proofs.Kernel.Lists.{found-holds}
use Rattle.shm_laws.proofs.Kernel.Parts.{finds-id, found-id}
use Rattle.shm_laws.proofs.Call.Turn.{desk_of}
use Rattle.shm_laws.proofs.Call.Names.{id_of}
use Rattle.shm_laws.proofs.Call.Once.{homes-keep}
use Rattle.shm_laws.proofs.Call.Counted.{attachments-counted, run-counted}
use Rattle.shm_progress.proofs.Purge.Tables.{InLimits}
use Rattle.shm_progress.proofs.Purge.Homes.{HomeKeeps, run-keeps}

-- what is known of a segment that a site is missing to have purged
pub record Known (w : World) (home : ℕ) (x : Site) (id site : ℕ) : Type 0 where
  pub limits : id < segments_of_a_home * w.count
  pub at_home : home_of_id w.count id ≡ home
  pub home_is : home < w.count
  pub site_is : site < w.count
  pub segment : Segment
  pub found : with_id id x.table ≡ Some segment
  pub unnamed : (s : ℕ) (y : Site) → slice_get w.sites s ≡ Some y → is_attached y id ≡ false

none-passes : (p : ℕ → Bool) (xs : List ℕ) → ((a : ℕ) → p a ≡ false) → list_any p xs ≡ false
none-passes p [] none = refl
none-passes p (x ∷ xs) none = or_false (p x) (list_any p xs) (none x) (none-passes p xs none)
  where
    or_false : (a b : Bool) → a ≡ false → b ≡ false → (a || b) ≡ false
    or_false a b e f = cc

some-of : (found : Option Segment) → is_destroyed found ≡ true → (g : Segment) × (found ≡ Some g) × (destroyed g ≡ true)
some-of None gone = cc
some-of (Some g) gone = (g, refl, gone)

same-segment : (found : Option Segment) (g x : Segment) → found ≡ Some g → found ≡ Some x → g ≡ x
same-segment found g x p q = cc

module _ (o : Opening) (opening : IsOpening o) (events : List Event) where
  abbrev r : Run
  r = run o events

  -- a segment that an attachment names is alive
  named-alive : (id s : ℕ) (y : Site) (a : ℕ) → slice_get r.world.sites s ≡ Some y → is_destroyed (with_id id (segments_after o r)) ≡ true → is_attachment_of id (y.attachments a) ≡ false
  named-alive id s y a found gone = by-found (y.attachments a) refl
    where
      small : s < sites_of o
      small = let within = slice_get_within r.world.sites s y found in let all = (run-shape o events).sites in omega (arith, within, all)

      name : segment_of o r.account s a ≡ id_of (y.attachments a)
      name = (run-counted o opening events).named.names s a ∙ ap (λ (z : Site). id_of (z.attachments a)) (get_or_from_slice_get r.world.sites s y (opened_site o s) found)

      by-found : (t : Option Attachment) → y.attachments a ≡ t → is_attachment_of id t ≡ false
      by-found None h = refl
      by-found (Some t) h =
          false_from_ne_true _ (λ e. let same : id ≡ t.id = eqb-true id t.id e in
          let alive = (attachments-counted o opening events).named s a id small (name ∙ (ap id_of h ∙ ap Some (sym same))) in
          let dead = some-of (with_id id (segments_after o r)) gone in
          let one : alive.0 ≡ dead.0 = same-segment (with_id id (segments_after o r)) alive.0 dead.0 alive.1 dead.1 in
          let live = alive.2 in let over = dead.2 in cc (ap destroyed one))

  unnamed-of : (id s : ℕ) (y : Site) → slice_get r.world.sites s ≡ Some y → is_destroyed (with_id id (segments_after o r)) ≡ true → is_attached y id ≡ false
  unfolding is_attached
  unnamed-of id s y found gone = none-passes (λ a. is_attachment_of id (y.attachments a)) (range_with_len 0 max_attachments) (λ a. named-alive id s y a found gone)

  known-at : (sites home : ℕ) (x : Site) (id site : ℕ) → sites_of o ≡ sites → r.world.count ≡ sites → home < sites_of o → slice_get r.world.sites home ≡ Some x → HomeKeeps (sites_of o) home (desk_of x)
      → x.missing id site ≡ true → Known r.world home x id site
  known-at sites home x id site is counted small found keeps missing =
      let m = keeps.missing id site missing in
      let one = some-of (with_id id x.table) m.destroyed in
      let same : sites_of o ≡ r.world.count = is ∙ sym counted in
      let whole : with_id id x.table ≡ with_id id (segments_after o r) =
      ap (with_id id) (homes-keep o events home x found) ∙ finds-id (sites_of o) home small (segments_after o r) id m.at_home in
      record {
        limits = subst (λ n. id < segments_of_a_home * n) same
            (subst (λ i. i < segments_of_a_home * sites_of o) (found-id id x.table one.0 one.1) (found-holds (InLimits (sites_of o)) (λ g. id == g.id) x.table one.0 keeps.limited one.1));
        at_home = subst (λ n. home_of_id n id ≡ home) same m.at_home;
        home_is = subst (λ n. home < n) same small;
        site_is = subst (λ n. site < n) same m.site;
        segment = one.0;
        found = one.1;
        unnamed = λ s y at. unnamed-of id s y at (ap is_destroyed (sym whole) ∙ m.destroyed);
      }

  pub known : (home : ℕ) (x : Site) (id site : ℕ) → slice_get r.world.sites home ≡ Some x → x.missing id site ≡ true → Known r.world home x id site
  known home x id site found missing =
      let shape = run-shape o events in
      let within = slice_get_within r.world.sites home x found in
      let all = shape.sites in
      let small : home < sites_of o = omega (arith, within, all) in
      known-at (sites_of o) home x id site refl shape.count small found (run-keeps o opening events home x small found) missing
