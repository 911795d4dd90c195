use Rattle.std.proofs.Common.{◌∙◌, Some, ap, refl, sym}
use Rattle.shm_model.specs.World.{without}
use Rattle.shm_parts.specs.Message.{envelope_of}
use Rattle.shm_world.proofs.Envelopes.{delivered, delivers, missed, put_back, taken}
use Rattle.shm_world.proofs.Steps.{still_stands}
use Rattle.shm_world.proofs.world.World.deliver.Goals as goal

pub returns-in_default-clause-step : goal.returns-in_default-clause-step
returns-in_default-clause-step g c = λ w stands.
    missed _ w c.args.number (sym c.in_default.ensures.none ∙ stands.carries.live c.args.number)
    (still_stands c.args.self.now _ w stands refl refl (c.in_default.ensures.missing w.sent w.gone stands.carries))

pub returns-in-Ok-clause-step : goal.returns-in-Ok-clause-step
returns-in-Ok-clause-step g c = λ w stands.
    let old = c.args.self.now in
    let number = c.args.number in
    let e = envelope_of c.in-Some.envelope in
    let live = sym c.in-Some.ensures.envelope ∙ stands.carries.live number in
    let kept = taken old _ w number e (sym live) stands refl refl (c.in-Some.ensures.after w.sent w.gone stands.carries) in
    delivered c.hand.new.self _ w number e c.in-Ok.answer live (c.in-Ok.ensures.step (without w number) kept) refl refl c.sweep.ensures

pub returns-in-Err-clause-refused : goal.returns-in-Err-clause-refused
returns-in-Err-clause-refused g c = λ w stands.
    let old = c.args.self.now in
    let number = c.args.number in
    let e = envelope_of c.in-Some.envelope in
    let live = sym c.in-Some.ensures.envelope ∙ stands.carries.live number in
    let kept = taken old _ w number e (sym live) stands refl refl (c.in-Some.ensures.after w.sent w.gone stands.carries) in
    put_back c.hand.new.self _ w number e live (c.in-Err.ensures.refused (without w number) kept) refl refl
    (λ sent gone had here is. c.put_back.ensures number sent gone (c.in-Err.ensures.places number c.in-Some.place c.in-Some.ensures.place) had here (is ∙ ap (λ x. Some x) (sym c.in-Err.ensures.back)))
    stands.unsent

pub returns-in-Err-clause-memory : goal.returns-in-Err-clause-memory
returns-in-Err-clause-memory g c = λ w stands.
    let old = c.args.self.now in
    let number = c.args.number in
    let e = envelope_of c.in-Some.envelope in
    let live = sym c.in-Some.ensures.envelope ∙ stands.carries.live number in
    let kept = taken old _ w number e (sym live) stands refl refl (c.in-Some.ensures.after w.sent w.gone stands.carries) in
    delivers w number e live (c.in-Err.ensures.memory (without w number) kept)
