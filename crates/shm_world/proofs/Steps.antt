-- Steps of the world, as its code makes them.
use Rattle.std.proofs.Common.{◌≡◌, ◌∙◌, ℕ, ◌<◌, ◌≤◌, true, false, List, [], ◌∷◌, ◌++◌, Some, None, ap, append-nil, arith, length, length-append, map, nat_lt, refl, slice_get, slice_set, subst, suc, sym, zero}
use Rattle.std.proofs.lemmas.Bool.{cond-true, cond-false}
use Rattle.std.proofs.lemmas.Bool.Decides.{nat_tests}
use Rattle.std.proofs.lemmas.Option.{same_Some}
use Rattle.shm_model.specs.Basics.{max_sent}
use Rattle.shm_model.specs.declared.answer.Answer.{Answer}
use Rattle.shm_model.specs.declared.answer.Answer.TheVariants.{Refused}
use Rattle.shm_model.specs.Site.{Step, still}
use Rattle.shm_model.specs.Message as message
use Rattle.shm_model.specs.Message.{Input, Load, Store, Begin, Deliver, Tick, Restart}
use Rattle.shm_model.specs.Refusal.{foreign_message, no_such_site, numbers_used_up}
use Rattle.shm_model.specs.Site as model
use Rattle.shm_model.specs.Step.{foreign, on_message, step}
use Rattle.shm_model.specs.World as world
use Rattle.shm_world.specs.Network.{Carries, CarriesOn}
use Rattle.shm_world.specs.Members.{members_of, Made}
use Rattle.shm_parts.specs.Message.{envelope_of}
use Rattle.shm_site.specs.Step.{may_grow}
use Rattle.shm_world.specs.Steps.{Went}
use Rattle.shm_world.specs.World.{StandsFor, input_may_grow}
use Rattle.shm_world.specs.declared.world.World.{World}

-- a site that a list has
pub record Found {X : Type 0} (xs : List X) (s : ℕ) : Type 0 where
  pub site : X
  pub there : slice_get xs s ≡ Some site

pub found : {X Y : Type 0} (f : X → Y) (xs : List X) (s : ℕ) → s < length xs → Found (map f xs) s
found f [] s h = absurd (omega arith)
found f (x ∷ xs) zero h = record { site = f x; there = refl }
found f (x ∷ xs) (suc s) h = let rest = found f xs s (omega arith) in record { site = rest.site; there = rest.there }

pub unfound : {X Y : Type 0} (f : X → Y) (xs : List X) (s : ℕ) → length xs ≤ s → slice_get (map f xs) s ≡ None
unfound f [] s h = refl
unfound f (x ∷ xs) zero h = absurd (omega arith)
unfound f (x ∷ xs) (suc s) h = unfound f xs s (omega arith)

pub set_same : {X : Type 0} (xs : List X) (s : ℕ) (x : X) → slice_get xs s ≡ Some x → slice_set xs s x ≡ xs
set_same [] s x h = refl
set_same (y ∷ ys) zero x h = ap (λ z. z ∷ ys) (sym (same_Some y x h))
set_same (y ∷ ys) (suc s) x h = ap (λ l. y ∷ l) (set_same ys s x h)

-- no step is made at a site that isn't there, or past the numbers
pub no_site : (w : world.World) (s : ℕ) (i : Input) → slice_get w.sites s ≡ None → world.step_at w s i ≡ world.unstepped w s (Refused no_such_site)
no_site w s i none = ap (λ m. world.step_site m w s i) none

pub no_number : (w : world.World) (s : ℕ) (x : model.Site) (i : Input) → slice_get w.sites s ≡ Some x → max_sent < length w.sent → world.step_at w s i ≡ world.unstepped w s (Refused numbers_used_up)
no_number w s x i there full =
    ap (λ m. world.step_site m w s i) there
    ∙ cond-true (nat_lt max_sent (length w.sent)) (world.unstepped w s (Refused numbers_used_up)) (world.stepped w s i (step w.count s x i)) (grind (arith, nat_tests))

-- else the site makes its step
pub steps : (w : world.World) (s : ℕ) (x : model.Site) (i : Input) → slice_get w.sites s ≡ Some x → length w.sent ≤ max_sent → world.step_at w s i ≡ world.stepped w s i (step w.count s x i)
steps w s x i there few =
    ap (λ m. world.step_site m w s i) there
    ∙ cond-false (nat_lt max_sent (length w.sent)) (world.unstepped w s (Refused numbers_used_up)) (world.stepped w s i (step w.count s x i)) (grind (arith, nat_tests))

-- the same world, whose network carries the same
pub still_stands : {A : Type 0} (old new : World A) (w : world.World) → StandsFor old w → new.members.count ≡ old.members.count → members_of new.members ≡ members_of old.members → Carries new.network w.sent w.gone → StandsFor new w
still_stands old new w stands count sites carries = record { count = stands.count ∙ sym count; sites = stands.sites ∙ sym sites; carries = carries; unsent = stands.unsent }

-- and on which nothing was posted
pub stays : {A : Type 0} (old new : World A) (w : world.World) → StandsFor old w → new.members.count ≡ old.members.count → members_of new.members ≡ members_of old.members
    → CarriesOn old.network new.network [] → StandsFor new w
stays old new w stands count sites carries =
    still_stands old new w stands count sites (subst (λ l. Carries new.network l w.gone) (append-nil w.sent) (carries.carries w.sent w.gone stands.carries stands.unsent))

-- where the world stands when a site has made its step and what it sent is on its way
pub went : {A : Type 0} (old new : World A) (w : world.World) (s : ℕ) (x : model.Site) (i : Input) (answer : Answer)
    → StandsFor old w → slice_get w.sites s ≡ Some x → length w.sent ≤ max_sent
    → Made CarriesOn old.members new.members s old.network new.network answer (step old.members.count s x i) → new.members.count ≡ old.members.count
    → Went new (world.step_at w s i) answer
went old new w s x i answer stands there few made count =
    let same : step old.members.count s x i ≡ step w.count s x i = ap (λ n. step n s x i) (sym stands.count) in
    let told = made.sent in
    let sent : map envelope_of told.sent ≡ (step w.count s x i).sent = told.meant ∙ ap (λ (t : Step). t.sent) same in
    subst (λ (n : world.Next). Went new n answer) (sym (steps w s x i there few)) (record {
      stands = record {
        count = stands.count ∙ sym count;
        sites = ap (λ l. slice_set l s (step w.count s x i).site) stands.sites ∙ sym (made.sites ∙ ap (λ (t : Step). slice_set (members_of old.members) s t.site) same);
        carries = subst (λ l. Carries new.network (w.sent ++ l) w.gone) sent (told.behind.carries w.sent w.gone stands.carries stands.unsent);
        unsent = λ k h. stands.unsent k (omega (arith, h, length-append w.sent (step w.count s x i).sent));
      };
      answered = made.answered ∙ ap (λ (t : Step). t.answer) same;
    })

-- a step that leaves its site as it was and sends nothing
pub still_there : {A : Type 0} (world' : World A) (w : world.World) (s : ℕ) (x : model.Site) (i : Input) (answer : Answer)
    → StandsFor world' w → slice_get w.sites s ≡ Some x → length w.sent ≤ max_sent → step w.count s x i ≡ still answer x → Went world' (world.step_at w s i) answer
still_there world' w s x i answer stands there few same =
    subst (λ (n : world.Next). Went world' n answer) (sym (steps w s x i there few ∙ ap (λ t. world.stepped w s i t) same)) (record {
      stands = record {
        count = stands.count;
        sites = set_same w.sites s x there ∙ stands.sites;
        carries = subst (λ l. Carries world'.network l w.gone) (sym (append-nil w.sent)) stands.carries;
        unsent = λ k h. stands.unsent k (omega (arith, h, ap length (append-nil w.sent)));
      };
      answered = refl;
    })

-- an envelope that can't be for its site is refused
pub turned_away : {A : Type 0} (new : World A) (w : world.World) (x : model.Site) (e : message.Envelope) → StandsFor new w → slice_get w.sites e.to ≡ Some x → length w.sent ≤ max_sent
    → foreign w.count e.to e ≡ true → Went new (world.step_at w e.to (Deliver e)) (Refused foreign_message)
turned_away new w x e stands there few is = still_there new w e.to x (Deliver e) (Refused foreign_message) stands there few
    (cond-true (foreign w.count e.to e) (still (Refused foreign_message) x) (on_message w.count e.to e.from e.message x) is)

-- memory may be missing where a step may need some
pub grows : (sites me : ℕ) (x : model.Site) (i : Input) → may_grow sites me x i ≡ true → input_may_grow i (step sites me x i).answer ≡ true
grows sites me x (Deliver e) h = h
grows sites me x (Load a o) h = h
grows sites me x (Store a o b) h = h
grows sites me x (Begin r) h = h
grows sites me x Tick h = refl
grows sites me x Restart h = h

-- the answer of a step that is made
pub answered : (w : world.World) (s : ℕ) (x : model.Site) (i : Input) → slice_get w.sites s ≡ Some x → length w.sent ≤ max_sent → (world.step_at w s i).done.answer ≡ (step w.count s x i).answer
answered w s x i there few = ap (λ (n : world.Next). n.done.answer) (steps w s x i there few)
