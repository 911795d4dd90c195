use Rattle.std.proofs.Common.{◌≡◌, ◌∙◌, ◌++◌, ◌-◌, ℕ, List, [], Result, Ok, Err, IsOk, ap, sym, rules, length, replicate, take, vec_len, if◌then◌else◌}
use Rattle.std.specs.Result.{is_ok}
use Rattle.std.proofs.lemmas.Bool.{false≢true}
use Rattle.shm_place.specs.Limits.{page_bytes}
use Rattle.shm_model.specs.Site.{blank}
use Rattle.shm_page.specs.State.{owned_bytes}
use Rattle.shm_page.proofs.own_write_page.fill.Goals as goal

-- resizing no bytes, which succeeds, leaves zeros alone
zeros : {E : Type 0} (r : Result (Unit {0}) E) (len : ℕ) (old new : List ℕ) → IsOk r → old ≡ [] → len ≡ 0
    → new ≡ (if is_ok r then take page_bytes old ++ replicate (page_bytes - len) 0 else old) → new ≡ replicate page_bytes 0
zeros (Ok _) len old new ok empty none is = is ∙ ap (λ xs. take page_bytes xs ++ replicate (page_bytes - len) 0) empty ∙ ap (λ n. replicate (page_bytes - n) 0) none
zeros (Err _) len old new ok empty none is = absurd (false≢true ok)

pub returns-in-None-clause-filled : goal.returns-in-None-clause-filled
unfolding blank
returns-in-None-clause-filled g c =
    let none : vec_len c.args.own.now ≡ 0 = search rules in
    zeros c.resize.result (vec_len c.args.own.now) c.args.own.now.items c.resize.new.self.items (c.resize.ensures.succeeds c.requires.room) c.requires.empty none c.resize.ensures.items
    ∙ sym (ap (λ given. owned_bytes given []) c.in-None.is)
