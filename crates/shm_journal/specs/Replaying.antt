-- Steps that are made again.
use Rattle.std.specs.Prelude.{◌≡◌, Bool, true, false, Option, Some, None}

-- they were made, and it stands where they lead; or they can't be
abbrev pub IsNext : {T : Type 0} → Bool → Option T → (T → Type 0) → Type 0
IsNext {T} true after stands = (state : T) × (after ≡ Some state) × stands state
IsNext false after stands = after ≡ None
