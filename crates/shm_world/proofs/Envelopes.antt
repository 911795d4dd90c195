-- What becomes of an envelope that was on its way.
use Rattle.std.proofs.Common.{◌≡◌, ◌∙◌, ℕ, ◌<◌, ◌≤◌, Bool, true, false, List, Option, Some, None, is_some, ⊎_elim, arith, if◌then◌else◌, length, refl, slice_get, subst, sym}
use Rattle.std.proofs.lemmas.Bool.{cases_lt}
use Rattle.std.proofs.lemmas.Option.{none-some, slice_get_past}
use Rattle.shm_model.specs.declared.answer.Answer.{Answer}
use Rattle.shm_model.specs.declared.answer.Answer.TheVariants.{Took, Refused}
use Rattle.shm_model.specs.Basics.{at}
use Rattle.shm_model.specs.Message.{Deliver, Envelope}
use Rattle.shm_model.specs.Refusal.{no_such_message}
use Rattle.shm_model.specs.World as world
use Rattle.shm_laws.proofs.Call.Steps.{at-there}
use Rattle.shm_world.specs.Network.{Carries}
use Rattle.shm_site.specs.Step.{is_refused}
use Rattle.shm_world.specs.Members.{members_of}
use Rattle.shm_world.specs.Steps.{Went}
use Rattle.shm_world.specs.World.{StandsFor}
use Rattle.shm_world.specs.declared.world.World.{World}
use Rattle.shm_world.proofs.Steps.{still_stands}

-- what is on its way was sent
pub live_sent : {X : Type 0} (b : Bool) (xs : List X) (k : ℕ) (e : X) → (if b then None else slice_get xs k) ≡ Some e → k < length xs
live_sent true xs k e h = absurd (none-some e h)
live_sent false xs k e h = ⊎_elim (λ (low : k < length xs). low) (λ (past : length xs ≤ k). absurd (none-some e (sym (slice_get_past xs k past) ∙ h))) (cases_lt k (length xs))

-- it may be taken off its way
pub taken : {A : Type 0} (old new : World A) (w : world.World) (k : ℕ) (e : Envelope) → world.live w k ≡ Some e → StandsFor old w
    → new.members.count ≡ old.members.count → members_of new.members ≡ members_of old.members → Carries new.network w.sent (at w.gone k true) → StandsFor new (world.without w k)
taken old new w k e live stands count sites carries = record {
  count = stands.count ∙ sym count;
  sites = stands.sites ∙ sym sites;
  carries = carries;
  unsent = λ j h. let low = live_sent (w.gone k) w.sent k e live in at-there w.gone k true j (λ same. omega (arith, same, low, h)) ∙ stands.unsent j h;
}

-- an envelope that is on its way is lost
pub lost : {A : Type 0} (old new : World A) (w : world.World) (k : ℕ) (found : Option Envelope) → found ≡ world.live w k → is_some found ≡ true → StandsFor old w
    → new.members.count ≡ old.members.count → members_of new.members ≡ members_of old.members → Carries new.network w.sent (at w.gone k true) → Went new (world.lose (world.live w k) w k) Took
lost old new w k None is some stands count sites carries = absurd (cc)
lost old new w k (Some e) is some stands count sites carries =
    subst (λ (m : Option Envelope). Went new (world.lose m w k) Took) is (record { stands = taken old new w k e (sym is) stands count sites carries; answered = refl })

-- one that isn't can't be lost
pub not_lost : {A : Type 0} (new : World A) (w : world.World) (k : ℕ) (found : Option Envelope) → found ≡ world.live w k → is_some found ≡ false → StandsFor new w → Went new (world.lose (world.live w k) w k) (Refused no_such_message)
not_lost new w k None is none stands = subst (λ (m : Option Envelope). Went new (world.lose m w k) (Refused no_such_message)) is (record { stands = stands; answered = refl })
not_lost new w k (Some e) is none stands = absurd (cc)

-- nor is it handed over
pub missed : {A : Type 0} (new : World A) (w : world.World) (k : ℕ) → None ≡ world.live w k → StandsFor new w → Went new (world.deliver (world.live w k) w k) (Refused no_such_message)
missed new w k is stands = subst (λ (m : Option Envelope). Went new (world.deliver m w k) (Refused no_such_message)) is (record { stands = stands; answered = refl })

pub not_repeated : {A : Type 0} (new : World A) (w : world.World) (k : ℕ) → None ≡ world.live w k → StandsFor new w → Went new (world.hand_over (world.live w k) w) (Refused no_such_message)
not_repeated new w k is stands = subst (λ (m : Option Envelope). Went new (world.hand_over m w) (Refused no_such_message)) is (record { stands = stands; answered = refl })

-- an envelope goes to its site
pub delivered : {A : Type 0} (handed new : World A) (w : world.World) (k : ℕ) (e : Envelope) (answer : Answer) → Some e ≡ world.live w k
    → Went handed (world.step_at (world.without w k) e.to (Deliver e)) answer → new.members.count ≡ handed.members.count → members_of new.members ≡ members_of handed.members
    → ((sent : List Envelope) (gone : ℕ → Bool) → Carries handed.network sent gone → Carries new.network sent gone) → Went new (world.deliver (world.live w k) w k) answer
delivered handed new w k e answer live went count sites swept =
    let next = (world.step_at (world.without w k) e.to (Deliver e)).world in
    subst (λ (m : Option Envelope). Went new (world.deliver m w k) answer) live (record {
      stands = still_stands handed new next went.stands count sites (swept next.sent next.gone went.stands.carries);
      answered = went.answered;
    })

-- what answers it
pub delivers : (w : world.World) (k : ℕ) (e : Envelope) → Some e ≡ world.live w k → is_refused (world.step_at (world.without w k) e.to (Deliver e)).done.answer ≡ false
    → is_refused (world.deliver (world.live w k) w k).done.answer ≡ false
delivers w k e live h = subst (λ (m : Option Envelope). is_refused (world.deliver m w k).done.answer ≡ false) live h

not_gone : {X : Type 0} (b : Bool) (m : Option X) (e : X) → Some e ≡ (if b then None else m) → (b ≡ false) × (m ≡ Some e)
not_gone true m e h = absurd (none-some e (sym h))
not_gone false m e h = (refl, sym h)

-- where it wasn't taken it is on its way again
pub put_back : {A : Type 0} (kept new : World A) (w : world.World) (k : ℕ) (e : Envelope) → Some e ≡ world.live w k → StandsFor kept (world.without w k)
    → new.members.count ≡ kept.members.count → members_of new.members ≡ members_of kept.members
    → ((sent : List Envelope) (gone : ℕ → Bool) → Carries kept.network sent (at gone k true) → gone k ≡ false → slice_get sent k ≡ Some e → Carries new.network sent gone)
    → ((j : ℕ) → length w.sent ≤ j → w.gone j ≡ false) → StandsFor new w
put_back kept new w k e live stands count sites after unsent =
    let here = not_gone (w.gone k) (slice_get w.sent k) e live in
    record {
      count = stands.count ∙ sym count;
      sites = stands.sites ∙ sym sites;
      carries = after w.sent w.gone stands.carries here.0 here.1;
      unsent = unsent;
    }
