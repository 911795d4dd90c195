-- What is seen of a page's state at one site: the greatest transaction number that the site has met, and the bytes that it keeps.
-- Beside them what is seen of a grant: the transaction's number, and the page's bytes.
use Rattle.std.specs.Prelude.{ℕ, List, [], ◌∷◌, Option, None, Some}
use Rattle.shm_model.specs.Site.{blank}

-- no bytes
pub record NilView : Type 0 where
  pub seen : ℕ

-- the page's bytes, to be read or written
pub record PageView : Type 0 where
  pub seen : ℕ
  pub bytes : List ℕ

-- the bytes that were handed to another site
pub record HandedView : Type 0 where
  pub seen : ℕ
  pub to : ℕ
  pub bytes : List ℕ

-- the bytes on their way to another site
pub record GrantView : Type 0 where
  pub number : ℕ
  pub bytes : List ℕ

abbrev pub nil_of : ℕ → NilView
nil_of n = record { seen = n }

abbrev pub page_of : ℕ → List ℕ → PageView
page_of n b = record { seen = n; bytes = b }

abbrev pub handed_of : ℕ → ℕ → List ℕ → HandedView
handed_of n site b = record { seen = n; to = site; bytes = b }

abbrev pub grant_of : ℕ → List ℕ → GrantView
grant_of n b = record { number = n; bytes = b }

-- the bytes of an owner's page: its own, if it has some; else those that it came with, or zeros
abbrev pub owned_bytes : Option (List ℕ) → List ℕ → List ℕ
owned_bytes given (b ∷ own) = b ∷ own
owned_bytes (Some given) [] = given
owned_bytes None [] = blank
