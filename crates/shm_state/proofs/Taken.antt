-- Whether a part is taken, by whether it fits and whether it was told before.
use Rattle.std.proofs.Common.{◌≡◌, ◌∙◌, Bool, true, false, not, if◌then◌else◌, Option, None, Result, Ok, Err, OnErr, refl, sym, ap}
use Rattle.shm_state.specs.Part.{Part}
use Rattle.shm_state.specs.Told.{once, takes_memory, told_with, Told as Said}
use Rattle.shm_state.specs.ToldOf.{Takes, Tells}
use Rattle.shm_state.specs.declared.take_fault.TakeFault.{TakeFault}
use Rattle.shm_state.specs.declared.take_fault.TakeFault.TheVariants.{OutOfMemory, Twice, Unfit}
use Rattle.shm_state.specs.declared.told_state.Told.{Told}

pub fit-once : (fits twice : Bool) → fits ≡ true → twice ≡ false → once fits twice ≡ None
fit-once fits twice fit new = λ i. once (fit i) (new i)

module _ {A X : Type 0} (part : Part) (said : Said) (told : Told A) where
  pub taken : (found : Option TakeFault) (x : X) → found ≡ None → Tells told (told_with part said) → Takes part said found (Ok x) told
  taken found x right h = record { right = right; why = tt; taken = h; refused = tt }

  pub no_memory : (found : Option TakeFault) → takes_memory part ≡ true → Tells told said → Takes {X = X} part said found (Err OutOfMemory) told
  no_memory found grows h = record { right = tt; why = grows; taken = tt; refused = h }

  pub unfit : (fits twice : Bool) → fits ≡ false → Tells told said → Takes {X = X} part said (once fits twice) (Err Unfit) told
  unfit fits twice is h = record { right = tt; why = ap (λ f. once f twice) is; taken = tt; refused = h }

  pub twice : (fits again : Bool) → fits ≡ true → again ≡ true → Tells told said → Takes {X = X} part said (once fits again) (Err Twice) told
  twice fits again fit is h = record { right = tt; why = λ i. once (fit i) (is i); taken = tt; refused = h }

-- what a choice gives
pub chosen_first : {X : Type 0} (b : Bool) (x y z : X) → z ≡ (if b then x else y) → b ≡ true → z ≡ x
chosen_first b x y z is sure = is ∙ ap (λ c. if c then x else y) sure

pub chosen_last : {X : Type 0} (b : Bool) (x y z : X) → z ≡ (if b then x else y) → b ≡ false → z ≡ y
chosen_last b x y z is sure = is ∙ ap (λ c. if c then x else y) sure

pub on_err : {X E : Type 0} (r : Result X E) (P : Type 0) → P → OnErr r P
on_err (Ok x) P p = tt
on_err (Err e) P p = p

-- what is not true is false
pub turned : (b c : Bool) → not b ≡ not c → b ≡ c
turned true true h = refl
turned false false h = refl
turned true false h = sym h
turned false true h = sym h
