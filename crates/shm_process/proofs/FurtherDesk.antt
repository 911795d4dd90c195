-- What a desk makes at once is so many steps of the ask that can be made first.
use Rattle.std.proofs.Common.{◌≡◌, ◌≢◌, ℕ, suc, ◌+◌, ◌<◌, ◌≤◌, List, [], ◌∷◌, ◌++◌, Some, length, slice_index, refl, ap, sym, ◌∙◌, arith}
use Rattle.std.proofs.Math.Nat.{max-zero}
use Rattle.shm_model.specs.declared.asked_access.Asked.{Asked}
use Rattle.shm_model.specs.declared.asked_access.Asked.TheVariants.{Load, Store}
use Rattle.shm_model.specs.Basics.{greatest}
use Rattle.shm_process.specs.Desk.{Desk, all_made}
use Rattle.shm_process.specs.Further.{GoesOn, LoadsGoOn, MayLoad, MayStore, StoresGoOn, after_loads, after_stores}
use Rattle.shm_process.specs.Node.{next_clock}
use Rattle.shm_process.specs.Rows.{Loads, Row, Stores, with_accesses}
use Rattle.shm_process.specs.Waiting.{ready}
use Rattle.shm_process.specs.WaitingAsks.{ask_in, next_access, tag_of}
use Rattle.shm_process.proofs.FurtherLoads.{loads_further}
use Rattle.shm_process.proofs.FurtherStores.{stores_further}

-- what is counted isn't none
pub nonempty : (xs : List ℕ) (count : ℕ) → length xs ≡ count → count ≢ 0 → xs ≢ []
nonempty xs count same some e = some (sym same ∙ ap length e)

pub some-one : (xs : List ℕ) (count : ℕ) → length xs ≡ count → count ≢ 0 → 0 < length xs
some-one [] count same some = absurd (some (sym same))
some-one (x ∷ xs) count same some = omega arith

-- fewer accesses than there is room for go on with the row too
goes-fewer : (row : Row) (clock other : ℕ) (tag same : List ℕ) (at here offset there room count : ℕ) → GoesOn row clock tag at offset room → count ≤ room
    → clock ≡ other → tag ≡ same → at ≡ here → offset ≡ there → GoesOn row other same here there count
goes-fewer row clock other tag same at here offset there room count g fewer c t a o =
    let few = g.few in
    record {
      same_tag = g.same_tag ∙ t;
      same_at = g.same_at ∙ a;
      offsets = g.offsets ∙ o;
      clocks = g.clocks ∙ c;
      few = omega (arith, few, fewer);
    }

load-at : (at offset here there : ℕ) → Load at offset ≡ Load here there → at ≡ here
load-at at offset here there e = cc

load-offset : (at offset here there : ℕ) → Load at offset ≡ Load here there → offset ≡ there
load-offset at offset here there e = cc

store-at : (at offset byte here there other : ℕ) → Store at offset byte ≡ Store here there other → at ≡ here
store-at at offset byte here there other e = cc

store-offset : (at offset byte here there other : ℕ) → Store at offset byte ≡ Store here there other → offset ≡ there
store-offset at offset byte here there other e = cc

module _ (d : Desk) (at : ℕ) (tag : List ℕ) (clock room k : ℕ) (row grown : Row) (first : ready d.node ≡ Some at) (has : d.row ≡ Some row)
    (tag-is : tag ≡ tag_of (ask_in d.node.waiting at)) (clock-is : clock ≡ next_clock d.node 0) (few : d.counts.sent ≤ greatest) where
  now-is : clock ≡ d.node.clock + 1
  now-is = clock-is ∙ ap (λ n. n + 1) (max-zero d.node.clock)

  pub made_loads : (asked : Asked) (more : List ℕ) → asked ≡ next_access (ask_in d.node.waiting at) → more ≢ [] → MayLoad d.node at more → length more ≤ room
      → LoadsGoOn row clock tag asked room → ((loads : ℕ) → row.accesses ≡ Loads loads → grown ≡ with_accesses row (Loads (loads + length more)))
      → all_made (length more + k) d ≡ all_made k (record d { node = after_loads d.node at more; row = Some grown })
  made_loads (Store here there byte) more is some may fewer goes grows = absurd goes
  made_loads (Load here there) [] is some may fewer goes grows = absurd (some refl)
  made_loads (Load here there) (byte ∷ rest) is some may fewer goes grows =
      let block = may.0 in
      let l = may.2 in
      let same : Load here there ≡ Load block.at (block.offset + length block.bytes) = is ∙ ap next_access l.is in
      loads_further rest byte k (length (byte ∷ rest) + k) d at block may.1 row goes.0 refl first l has goes.1
      (goes-fewer row clock (d.node.clock + 1) tag block.tag here block.at there (block.offset + length block.bytes) room (suc (length rest)) goes.2 fewer now-is
      (tag-is ∙ ap tag_of l.is) (load-at here there block.at (block.offset + length block.bytes) same) (load-offset here there block.at (block.offset + length block.bytes) same)) few
      ∙ ap (λ r. all_made k (record d { node = after_loads d.node at (byte ∷ rest); row = Some r })) (sym (grows goes.0 goes.1))

  pub made_stores : (asked : Asked) (more : List ℕ) → asked ≡ next_access (ask_in d.node.waiting at) → more ≢ [] → MayStore d.node at more → length more ≤ room
      → StoresGoOn row clock tag asked room → ((before : List ℕ) → row.accesses ≡ Stores before → grown ≡ with_accesses row (Stores (before ++ more)))
      → all_made (length more + k) d ≡ all_made k (record d { node = after_stores d.node at more; row = Some grown })
  made_stores (Load here there) more is some may fewer goes grows = absurd goes
  made_stores (Store here there stored) [] is some may fewer goes grows = absurd (some refl)
  made_stores (Store here there stored) (byte ∷ rest) is some may fewer goes grows =
      let write = may.0 in
      let l = may.2 in
      let next = slice_index write.bytes write.stored in
      let same : Store here there stored ≡ Store write.at (write.offset + write.stored) next = is ∙ ap next_access l.is in
      stores_further rest byte k (length (byte ∷ rest) + k) d at write may.1 row goes.0 refl first l has goes.1
      (goes-fewer row clock (d.node.clock + 1) tag write.tag here write.at there (write.offset + write.stored) room (suc (length rest)) goes.2 fewer now-is
      (tag-is ∙ ap tag_of l.is) (store-at here there stored write.at (write.offset + write.stored) next same)
      (store-offset here there stored write.at (write.offset + write.stored) next same)) few
      ∙ ap (λ r. all_made k (record d { node = after_stores d.node at (byte ∷ rest); row = Some r })) (sym (grows goes.0 goes.1))
