use Rattle.std.proofs.Common.{◌≡◌, ℕ, ◌++◌, ◌∷◌, [], List, map, take, arith, refl, sym, ap, ◌∙◌, slice_index}
use Rattle.std.specs.Prelude.{bit_xor}
use Rattle.std.proofs.lemmas.List.{length-replicate, length-set, map-append, take_all, take_more, take_more_set}
use Rattle.shm_seal.specs.Hmac.{padded}
use Rattle.shm_seal.proofs.hmac.pad.Goals as goal

pub bytes-init : goal.bytes-init
bytes-init c = (length-replicate {A = ℕ} 64 0, refl)

pub bytes-preserved : goal.bytes-preserved
bytes-preserved c =
    let len = c.bytes.invariant.0 in
    let at = c.bytes.at in
    let block = c.args.block.now in
    let byte = slice_index block at in
    let met = bit_xor byte c.args.byte in (
      length-set _ _ _ ∙ len,
      take_more_set c.bytes.pad at met (omega arith) ∙ ap (λ (l : List _). l ++ met ∷ []) c.bytes.invariant.1
          ∙ sym (ap (map (λ b. bit_xor b c.args.byte)) (take_more block at 0 (omega arith)) ∙ map-append (λ b. bit_xor b c.args.byte) (take at block) (byte ∷ [])),
    )

pub returns : goal.returns
unfolding padded
returns c =
    let len = c.bytes.invariant.0 in
    let done = c.bytes.auto.at-end in
    let e : c.bytes.at ≡ 64 = omega arith in
    sym (take_all 64 c.bytes.pad (omega arith)) ∙ rw e at c.bytes.invariant.1 ∙ ap (map (λ b. bit_xor b c.args.byte)) (take_all 64 c.args.block.now (omega arith))
