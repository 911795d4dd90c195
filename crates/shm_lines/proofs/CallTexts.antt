-- A word before those of a segment call: a blank parts them.
use Rattle.std.proofs.Common.{◌≡◌, ℕ, List, ◌∷◌, ◌++◌, refl}
use Rattle.std.specs.List.{join_with_byte}
use Rattle.shm_model.specs.declared.call.Op.{Op}
use Rattle.shm_model.specs.declared.call.Op.TheVariants.{Get, Attach, Detach, Remove, Set, Stat}
use Rattle.shm_model.specs.declared.call.Request.{Request}
use Rattle.shm_model.specs.declared.call.Request.TheVariants.{Op as OpRequest, DetachAt}
use Rattle.shm_lines.specs.Calls.{words_of_call, words_of_request}

pub before_call : (word : List ℕ) (op : Op) → join_with_byte 32 (word ∷ words_of_call op) ≡ word ++ (32 ∷ join_with_byte 32 (words_of_call op))
before_call word (Get _ _ _ _ _) = refl
before_call word (Attach _ _ _) = refl
before_call word (Detach _) = refl
before_call word (Remove _ _) = refl
before_call word (Set _ _ _ _ _) = refl
before_call word (Stat _ _) = refl

pub before_request : (word : List ℕ) (request : Request) → join_with_byte 32 (word ∷ words_of_request request) ≡ word ++ (32 ∷ join_with_byte 32 (words_of_request request))
before_request word (OpRequest op) = before_call word op
before_request word (DetachAt at) = refl
