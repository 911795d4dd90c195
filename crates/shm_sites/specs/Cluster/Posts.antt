-- Where the posts of a cluster stand.
use Rattle.std.specs.Prelude.{◌≡◌, ℕ, List, Some, slice_get}
use Rattle.shm_sites.specs.declared.cluster.shared_state.Post.{Post}

-- each post stands at its number
abbrev pub AtTheirNumbers : {A : Type 0} → List (Post A) → Type 0
AtTheirNumbers {A} posts = (number : ℕ) (post : Post A) → slice_get posts number ≡ Some post → post.number ≡ number
