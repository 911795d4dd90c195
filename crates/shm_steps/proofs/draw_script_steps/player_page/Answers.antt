use Rattle.std.proofs.Common.{◌≡◌, IfOk, string_bytes, subst}
use Rattle.shm_draw.specs.Captions.{besides_of}
use Rattle.shm_steps.specs.Stepped.{stepping}
use Rattle.shm_steps.proofs.draw_script_steps.player_page.Goals as goal

pub returns-in-Some : goal.returns-in-Some
returns-in-Some g c =
    subst (λ standing. IfOk c.session_page.result (λ text. string_bytes text ≡ stepping c.args.page (besides_of c.args.captions.now) standing)) c.in-Some.ensures c.session_page.ensures
