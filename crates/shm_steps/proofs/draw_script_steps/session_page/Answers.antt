use Rattle.std.proofs.Common.{◌≡◌, IfOk, string_bytes, subst}
use Rattle.shm_draw.specs.Captions.{besides_of}
use Rattle.shm_steps.specs.Steps.{page_text}
use Rattle.shm_steps.proofs.draw_script_steps.session_page.Goals as goal

pub returns : goal.returns
returns g c =
    let session = c.args.session.now in
    subst (λ events. IfOk c.page_of.result (λ text. string_bytes text ≡ page_text c.args.page session.opening events (besides_of c.args.captions.now))) c.events.ensures
    (subst (λ opening. IfOk c.page_of.result (λ text. string_bytes text ≡ page_text c.args.page opening c.events.result.now (besides_of c.args.captions.now))) c.opening.ensures c.page_of.ensures)
