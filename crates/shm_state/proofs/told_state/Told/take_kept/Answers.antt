use Rattle.std.proofs.Common.{◌≡◌, ◌∙◌, ℕ, ◌&&◌, true, false, nat_lt, Option, is_some, rules, ap, sym}
use Rattle.shm_place.specs.Limits.{max_sites}
use Rattle.shm_model.specs.declared.call.Reply.{Reply}
use Rattle.shm_number.specs.Kept.{kept_at}
use Rattle.shm_state.proofs.Taken.{fit-once, taken, twice}
use Rattle.shm_state.proofs.ToldSteps.{kept-told, says, seen, tells}
use Rattle.shm_state.specs.Part.{Kept}
use Rattle.shm_state.specs.Told.{once}
use Rattle.shm_state.proofs.told_state.Told.take_kept.Goals as goal

pub returns-then-is_some-clause-told : goal.returns-then-is_some-clause-told
returns-then-is_some-clause-told g c = λ said h.
    let a = c.args in
    let fits = nat_lt a.site max_sites && nat_lt 0 a.number in
    let fit : fits ≡ true = search rules in
    let again : is_some (kept_at said.state.kept a.site) ≡ true =
    ap (λ (f : ℕ → Option (ℕ × Reply)). is_some (f a.site)) (sym h.kept) ∙ ap is_some (sym c.last.ensures) ∙ sym c.is_some.ensures ∙ c.if-is_some.true in
    twice (Kept a.site a.number a.reply) said a.self.now fits (is_some (kept_at said.state.kept a.site)) fit again h

pub returns-clause-told : goal.returns-clause-told
returns-clause-told g c = λ said h.
    let a = c.args in
    let fits = nat_lt a.site max_sites && nat_lt 0 a.number in
    let fit : fits ≡ true = search rules in
    let new : is_some (kept_at said.state.kept a.site) ≡ false =
    ap (λ (f : ℕ → Option (ℕ × Reply)). is_some (f a.site)) (sym h.kept) ∙ ap is_some (sym c.last.ensures) ∙ sym c.is_some.ensures ∙ c.if-is_some.false in
    taken (Kept a.site a.number a.reply) said _ (once fits (is_some (kept_at said.state.kept a.site))) _ (fit-once fits (is_some (kept_at said.state.kept a.site)) fit new)
    (tells _ _ (kept-told (seen a.self.now) said (says a.self.now said h) a.site a.number a.reply c.keep.new.self c.keep.ensures))
