use Rattle.std.proofs.Common.{◌≡◌, ◌∙◌, ℕ, List, Bool, false, ap, sym, cond, length, take, None, Some}
use Rattle.std.specs.Str.{bytes_eq}
use Rattle.shm_batches.proofs.ChainLemmas.{other-line}
use Rattle.shm_batches.specs.Chain.{mark_front, with_batch}
use Rattle.shm_batches.specs.ChainOf.{chain_of}
use Rattle.shm_batches.proofs.chain.Chain.next.Goals as goal

pub returns-then-not-starts_with : goal.returns-then-not-starts_with
returns-then-not-starts_with g c =
    let chain = chain_of c.args.self.now in
    let begins : List ℕ → Bool = λ front. bytes_eq front (take (length front) c.args.line.now) in
    let other : begins (mark_front chain) ≡ false =
    ap begins (sym (c.as_bytes.ensures.value ∙ c.in-Ok.ensures.front)) ∙ sym c.starts_with.ensures.value ∙ c.if-not-starts_with.true in
    sym (ap (λ b. cond b (Some (with_batch chain c.args.text.now)) None) (other-line chain c.args.text.now c.args.line.now other))
