-- The machine value of a handle, and the two cases of what it owns. Assumes `Logic`.
use Rattle.std.proofs.Common.{◌≡◌, ℕ, List, [], ◌∷◌, ◌++◌, refl, subst, lit<}
use lib.Dec.{T}
use seplogic.Ra.Ura.{Ura}
use mir.Syntax.{ty_ptr}
use mir.Raw.{raw as bare}
use mir.Val.{Val, vstruct, vcons, vnil, of_list, has_ty, WT}
use base.Logic.{SProp, ent, guard, via, guard_i, snd∗, fst∗, never}
use base.Fml.{Fml}
use base.Fraction.{full_share}
use types.Logic.{Logic, sem}
use types.Kit.{Item, Goal, Seq, Step, step, ‵, given, ◌$◌, drop, fsplit, fjoin, fpick, fpack, feq_i, feq_l, use1, learn}
use contract.Monad.{fact_use}
use denote.RattleType.{RattleType, Valss}
use denote.Builtin.{RawPtr}
use denote.Memory.{lone}
use denote.RawPtr.{Ptr, block_ptr, null_ptr, ptr_val, in_a_block, lies_at, Testable}
use denote.Steps.{nothing}
use denote.Struct.Struct.{within}
use denote.Struct.Owning.{shape}
use Rattle.std.proofs.GlobalToken.{dealloc_token-Testable}
use Rattle.std.specs.Prelude.{Option, None, Some}
use Rattle.std.specs.Box.Ownership.{box_owns}
use Rattle.std.specs.contracts.impls.GlobalAllocator.TheImpl.{ghosts}
use Rattle.shm_c.specs.Held.{held, the_heap, world_row}
use Rattle.shm_c.specs.contracts.world_handle.WorldHandle as the

-- a pointer has its type's layout
pub Ptr-Good : (p : Ptr) → T (has_ty ty_ptr (ptr_val p)) × WT (ptr_val p)
Ptr-Good (block_ptr b o) = (tt, tt)
Ptr-Good null_ptr = (tt, record { fits = lit< tt })

-- a struct of one field
abbrev pub alone : Val → Val
alone v = vstruct (vcons v vnil)

-- what a full handle owns
abbrev pub boxed : (R : RattleType) → Ptr → R.Denot → Fml
boxed R p x = box_owns (ghosts.dealloc_token the_heap) R p x

tested : {M : Type 1} {𝓤 : Ura M} (𝓛 : Logic 𝓤) (R : RattleType) (p : Ptr) (x : R.Denot) → ent 𝓤 (sem 𝓛 (boxed R p x)) (guard 𝓤 (Testable p) (sem 𝓛 (boxed R p x)))
tested {𝓤 = 𝓤} 𝓛 R p x = let B : SProp 𝓤 = sem 𝓛 (boxed R p x) in fact_use 𝓤 (Testable p) (via 𝓤 _ (snd∗ 𝓤 (sem 𝓛 (lies_at R full_share p x)) (sem 𝓛 (ghosts.dealloc_token the_heap (bare (lone R.mir)) p))) (dealloc_token-Testable 𝓛 the_heap (bare (lone R.mir)) p)) (guard_i 𝓤 (Testable p) B)

module _ {M : Type 1} {𝓤 : Ura M} {𝓛 : Logic 𝓤} {K : Type 0} {Γ : List (Item 𝓤)} {G : Goal 𝓤 𝓛.H} where
  -- the handle is empty, and its pointer null; or it has a value in a block
  pub either_held : K → (R : RattleType) (p : Ptr) (v : Option R.Denot) → (p ≡ null_ptr → v ≡ None → Seq K 𝓛 Γ G)
      → ((b o : ℕ) (x : R.Denot) → p ≡ block_ptr b o → v ≡ Some x → Testable (block_ptr b o) → Seq K 𝓛 (‵ (boxed R (block_ptr b o) x) ∷ Γ) G) → Seq K 𝓛 (‵ (held R p v) ∷ Γ) G
  either_held t R p None none one = feq_l t (λ e. none e refl)
  either_held t R p (Some x) none one =
      in_a_block t p (λ q. boxed R q x) (fst∗ 𝓤 (never 𝓤) (sem 𝓛 (ghosts.dealloc_token the_heap (bare (lone R.mir)) null_ptr))) (λ b o e.
      use1 𝓛 (given (Testable (block_ptr b o)) (‵ (boxed R (block_ptr b o) x))) (tested 𝓛 R (block_ptr b o) x) $ learn t (λ ts. one b o x e refl ts))

  -- a handle by value
  pub handle_out : K → (d : the.the_row.Denot) (vs : List Val)
      → (vs ≡ alone (ptr_val d.at) ∷ [] → Seq K 𝓛 (‵ (held world_row d.at d.world) ∷ Γ) G)
      → Seq K 𝓛 (‵ (the.the_row.own_val d vs) ∷ Γ) G
  handle_out t d vs k =
      fsplit t $ fpick t (λ vss. fsplit t $ feq_l t (λ ev. fsplit t $ feq_l t (λ ep. drop t $
      k (subst (λ (ps : List Val). vs ≡ vstruct (of_list (ps ++ [])) ∷ []) ep ev))))

  pub handle_in : K → (p : Ptr) (x : Option world_row.Denot)
      → Step K 𝓛 (‵ (the.the_row.own_val (record { at = p; world = x }) (alone (ptr_val p) ∷ [])) ∷ Γ) G (‵ (held world_row p x) ∷ Γ) G
  handle_in t p x = step (λ s. let v : Val = alone (ptr_val p) in
      nothing t $ feq_i t (List Val) (ptr_val p ∷ []) (ptr_val p ∷ []) refl $ fjoin t $ feq_i t (List Val) (v ∷ []) (v ∷ []) refl $ fjoin t $
      fpack t (Valss (RawPtr ∷ [])) (within (shape the.the_type) (p, tt) (v ∷ [])) (ptr_val p ∷ [], tt) $ fjoin t $ s)
