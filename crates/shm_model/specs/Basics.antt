-- What several files of the definitions share: the limits of numbers, and a function with one value changed.
use Rattle.std.specs.Prelude.{ℕ, ◌==◌, if◌then◌else◌}
use Rattle.shm_place.specs.declared.page_id.PageId.{PageId}
use Rattle.shm_place.specs.Page.{same_page}

-- the greatest number of a request, a call or a transaction: 2^64 - 1
abbrev pub greatest : ℕ
greatest = 18446744073709551615

-- envelopes are counted up to 2^63
abbrev pub max_sent : ℕ
max_sent = 9223372036854775808

-- a function with one value changed
abbrev pub at : {X : Type 0} → (ℕ → X) → ℕ → X → ℕ → X
at f k x j = if k == j then x else f j

-- a function of the page with one value changed
abbrev pub at_page : {X : Type 0} → (PageId → X) → PageId → X → PageId → X
at_page f p x q = if same_page p q then x else f q
