-- Posts at their numbers.
use Rattle.std.proofs.Common.{◌≡◌, ℕ, zero, suc, List, [], ◌∷◌, ◌++◌, Option, Some, None, IfSome, Bor, length, refl, sym, ap, ◌∙◌, subst, inl, inr, ◌⊎◌, arith, slice_get}
use Rattle.std.specs.Slice.{IsItemAt}
use Rattle.std.proofs.lemmas.Option.{none-some, slice_get-get_or}
use Rattle.shm_sites.specs.Cluster.Posts.{AtTheirNumbers}
use Rattle.shm_sites.specs.declared.cluster.shared_state.Post.{Post}

-- what a list with one more has at a place: what it had there, or that one
one-more : {X : Type 0} (xs : List X) (x : X) (i : ℕ) (y : X) → slice_get (xs ++ x ∷ []) i ≡ Some y
    → (slice_get xs i ≡ Some y) ⊎ ((i ≡ length xs) × (x ≡ y))
one-more [] x zero y e = inr (refl, cc)
one-more [] x (suc i) y e = absurd (none-some y e)
one-more (z ∷ xs) x zero y e = inl e
one-more (z ∷ xs) x (suc i) y e = elim (one-more xs x i y e) [
  | inl before ↦ inl before
  | inr (last, is) ↦ inr (ap suc last, is)
]

-- one more, which has the number of all before it
pub numbered-more : {A : Type 0} (posts : List (Post A)) (post : Post A) → AtTheirNumbers posts → post.number ≡ length posts
    → AtTheirNumbers (posts ++ post ∷ [])
numbered-more {A} posts post has is number that e = elim (one-more posts post number that e) [
  | inl before ↦ has number that before
  | inr (last, same) ↦ sym (ap (λ (p : Post A). p.number) same) ∙ is ∙ sym last
]

-- the one at a place has the place's number
pub numbered-item : {A : Type 0} (posts : List (Post A)) (number : ℕ) (r : Option (Bor (Post A))) → AtTheirNumbers posts → IsItemAt posts number r
    → IfSome r (λ post. post.now.number ≡ number)
numbered-item posts number None has item = tt
numbered-item posts number (Some r) has item = has number r.now (slice_get-get_or posts number r.now item.3.0 ∙ ap Some (sym item.1))
