-- What it is that envelopes are posted, one behind the other.
use Rattle.std.specs.Prelude.{◌≡◌, List, [], ◌++◌, Vec}
use Rattle.std.proofs.Common.{append-nil, append_assoc, sym, ◌∙◌, ap}

-- the second list is the first with these envelopes behind
abbrev pub AddedTo : {E A : Type 0} → Vec E A → Vec E A → List E → Type 0
AddedTo old new envelopes = new.items ≡ old.items ++ envelopes

-- who adds nothing changes nothing
pub added_nothing : {E A : Type 0} (list : Vec E A) → AddedTo list list []
added_nothing list = sym (append-nil list.items)

-- and who adds twice has added both lists
pub added_twice : {E A : Type 0} (first then last : Vec E A) (xs ys : List E) → AddedTo first then xs → AddedTo then last ys → AddedTo first last (xs ++ ys)
added_twice first then last xs ys one two = two ∙ ap (λ l. l ++ ys) one ∙ append_assoc first.items xs ys
