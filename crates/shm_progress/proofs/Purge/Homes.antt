-- What is missing at a home: its segment is destroyed in the home's table, and the site exists.
use Rattle.std.proofs.Common.{◌≡◌, ℕ, ◌<◌, ◌≤◌, Bool, true, false, ◌==◌, if◌then◌else◌, List, [], ◌∷◌, Option, Some, None, nat_lt, slice_get, arith, refl, sym, ◌∙◌, ap, subst}
use Rattle.std.proofs.lemmas.Bool.{cond_both, ltb-true}
use Rattle.std.proofs.lemmas.Option.{get_or_from_slice_get}
use Rattle.shm_place.specs.Home.{home_of_id}
use Rattle.shm_model.specs.declared.answer.Answer.{Answer}
use Rattle.shm_model.specs.declared.call.Op.{Op}
use Rattle.shm_model.specs.declared.event.Event.{Event}
use Rattle.shm_model.specs.Basics.{at}
use Rattle.shm_model.specs.Permission.{Segment}
use Rattle.shm_model.specs.Kernel.{call as kernel_call, destroyed_by, is_destroyed, named_by, with_id}
use Rattle.shm_model.specs.Message.{Envelope, Input}
use Rattle.shm_model.specs.Calls.{op_home}
use Rattle.shm_model.specs.Site.{Site}
use Rattle.shm_model.specs.World.{Done, IsOpening, Opening, New, Preset, Framed, opened_site, preset_segment, run, sites_of}
use Rattle.shm_laws.proofs.Call.Turn.{Desk, Turn, again, attached, desk_of, detach_begun, ended, executed, executed_desk, hears_purged, missing_with, old, op_begun, purges_one, quiet}
use Rattle.shm_laws.proofs.Call.Invariant.{at-cases}
use Rattle.shm_laws.proofs.Call.Run.{ByTurns, Honest, run-turns}
use Rattle.shm_laws.proofs.Call.Once.{Once, once-after, once-first, once-stays}
use Rattle.shm_progress.proofs.Purge.Tables.{Limited, call-limited, destroyed-named, destroyed-stays, named-home}

pub record Missing (sites home : ℕ) (table : List Segment) (id s : ℕ) : Type 0 where
  pub destroyed : is_destroyed (with_id id table) ≡ true
  pub at_home : home_of_id sites id ≡ home
  pub site : s < sites

pub record HomeKeeps (sites home : ℕ) (d : Desk) : Type 0 where
  pub limited : Limited sites d.table
  pub missing : (id s : ℕ) → d.missing id s ≡ true → Missing sites home d.table id s

record Keeps (o : Opening) (d : ℕ → Desk) (sent : List Envelope) (account : List Done) : Type 0 where
  pub once : Once o d sent account
  pub homes : (h : ℕ) → h < sites_of o → HomeKeeps (sites_of o) h (d h)

module _ (sites home : ℕ) (small : home < sites) (d : Desk) (keeps : HomeKeeps sites home d) where
  same-keeps : (x : Desk) → x.table ≡ d.table → x.missing ≡ d.missing → HomeKeeps sites home x
  same-keeps x t m = record {
    limited = subst (Limited sites) (sym t) keeps.limited;
    missing = λ id s is. subst (λ table. Missing sites home table id s) (sym t) (keeps.missing id s (ap (λ (f : ℕ → ℕ → Bool). f id s) (sym m) ∙ is));
  }

  module _ (from n : ℕ) (op : Op) (here : op_home sites from op ≡ home) where
    abbrev after : List Segment
    after = (kernel_call sites home op d.table).segments

    stays : (id s : ℕ) → Missing sites home d.table id s → Missing sites home after id s
    stays id s m = record { destroyed = destroyed-stays sites home from small op d.table here id m.destroyed; at_home = m.at_home; site = m.site }

    gone-missing : (gone : Option ℕ) → destroyed_by op d.table after ≡ gone → (id s : ℕ) → missing_with sites gone d.missing id s ≡ true → Missing sites home after id s
    gone-missing None is id s missing = stays id s (keeps.missing id s missing)
    gone-missing (Some j) is id s missing =
        at-cases (λ f. f s ≡ true → Missing sites home after id s) d.missing j (λ r. nat_lt r sites) id
        (λ same low. let named = destroyed-named (named_by op) d.table after j is in
        subst (λ i. Missing sites home after i s) same (record { destroyed = named.1; at_home = named-home sites from op j named.0 ∙ here; site = ltb-true s sites low }))
        (λ other was. stays id s (keeps.missing id s was)) missing

    executed-keeps : HomeKeeps sites home (executed_desk sites from n op (kernel_call sites home op d.table) d)
    executed-keeps = record {
      limited = call-limited sites home small d.table keeps.limited op;
      missing = gone-missing (destroyed_by op d.table after) refl;
    }

  heard-keeps : (from id : ℕ) → HomeKeeps sites home (record d { missing = at d.missing id (at (d.missing id) from false) })
  heard-keeps from id = record {
    limited = keeps.limited;
    missing = λ i s is. at-cases (λ f. f s ≡ true → Missing sites home d.table i s) d.missing id (at (d.missing id) from false) i
        (λ same. at-cases (λ b. b ≡ true → Missing sites home d.table i s) (d.missing id) from false s (λ here is. cc) (λ there is. subst (λ k. Missing sites home d.table k s) same (keeps.missing id s is)))
        (λ other is. keeps.missing i s is) is;
  }

module _ (o : Opening) (d : ℕ → Desk) (sent : List Envelope) (account : List Done) (s : ℕ) (by : Keeps o d sent account) (below : s < sites_of o) where
  turn-keeps : (input : Input) (x : Desk) (answer : Answer) (more : List Envelope) → Honest sent s input → Turn (sites_of o) s (d s) input x answer more → HomeKeeps (sites_of o) s x
  turn-keeps input x answer more fair (quiet i b ms silent plain repeats) = by.homes s below
  turn-keeps input x answer more fair (op_begun op free undetached) = same-keeps (sites_of o) s below (d s) (by.homes s below) _ refl refl
  turn-keeps input x answer more fair (detach_begun a y free stands) = same-keeps (sites_of o) s below (d s) (by.homes s below) _ refl refl
  turn-keeps input x answer more fair (executed e n op is fresh) =
      executed-keeps (sites_of o) s below (d s) (by.homes s below) e.from n op (sym (by.once.call e n op fair.0 is).home ∙ fair.1)
  turn-keeps input x answer more fair (again e n op reply is fresh) = by.homes s below
  turn-keeps input x answer more fair (old e n op is fresh) = by.homes s below
  turn-keeps input x answer more fair (ended e n op reply is outstanding unattached) = same-keeps (sites_of o) s below (d s) (by.homes s below) _ refl refl
  turn-keeps input x answer more fair (attached e n cred id ro y a is outstanding free) = same-keeps (sites_of o) s below (d s) (by.homes s below) _ refl refl
  turn-keeps input x answer more fair (purges_one e id is) = same-keeps (sites_of o) s below (d s) (by.homes s below) _ refl refl
  turn-keeps input x answer more fair (hears_purged e id is) = heard-keeps (sites_of o) s below (d s) (by.homes s below) e.from id

first-limited : (n pages h : ℕ) → 1 ≤ n → Limited n (if h == 0 then preset_segment n pages ∷ [] else [])
first-limited n pages h some = cond_both (h == 0) _ _ (Limited n) (λ e. (omega arith, tt)) (λ e. tt)

first-keeps : (o : Opening) → IsOpening o → (h : ℕ) → HomeKeeps (sites_of o) h (desk_of (opened_site o h))
first-keeps (New n) is h = record { limited = tt; missing = λ id s m. cc }
first-keeps (Preset n pages) is h = record { limited = first-limited n pages h is.0; missing = λ id s m. cc }
first-keeps (Framed n pages frames) is h = record { limited = first-limited n pages h is.0; missing = λ id s m. cc }

keeps-turns : (o : Opening) → IsOpening o → ByTurns o (Keeps o)
keeps-turns o is = record {
  first = record { once = once-first o; homes = λ h small. first-keeps o is h };
  turns = λ d sent account s input x answer more by below fair turn. record {
    once = once-after o d sent account s by.once below input x answer more fair turn;
    homes = λ h small. at-cases (HomeKeeps (sites_of o) h) d s x h
        (λ same. subst (λ k. HomeKeeps (sites_of o) k x) same (turn-keeps o d sent account s by below input x answer more fair turn)) (λ other. by.homes h small);
  };
  stays = λ d sent account s answer by still. record { once = once-stays o d sent account s answer by.once still; homes = by.homes };
}

pub run-keeps : (o : Opening) → IsOpening o → (events : List Event) (h : ℕ) (x : Site) → h < sites_of o → slice_get (run o events).world.sites h ≡ Some x → HomeKeeps (sites_of o) h (desk_of x)
run-keeps o is events h x small found =
    subst (λ y. HomeKeeps (sites_of o) h (desk_of y)) (get_or_from_slice_get (run o events).world.sites h x (opened_site o h) found)
    ((run-turns o (Keeps o) (keeps-turns o is) events).homes h small)
