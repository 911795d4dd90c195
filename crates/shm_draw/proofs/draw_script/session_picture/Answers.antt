use Rattle.std.proofs.Common.{◌≡◌, ◌∙◌, ℕ, List, ap, string_bytes, subst}
use Rattle.std.proofs.lemmas.Result.{IfOk-weaker}
use Rattle.shm_model.specs.World.{opened}
use Rattle.shm_world.specs.World.{StandsFor}
use Rattle.shm_draw.specs.Captions.{besides_of}
use Rattle.shm_draw.specs.Svg.{svg_text}
use Rattle.shm_draw.proofs.draw_script.session_picture.Goals as goal

pub returns : goal.returns
returns g c =
    let w = opened c.args.session.now.opening in
    let stands : StandsFor c.in_ok-world.world (opened c.args.session.now.opening) =
    subst (λ o. StandsFor c.in_ok-world.world (opened o)) c.opening.ensures c.in_ok-world.ensures in
    IfOk-weaker c.picture_of.result (λ picture. string_bytes picture ≡ svg_text c.args.page (opened c.args.session.now.opening) c.events.result.now (besides_of c.args.captions.now))
    (λ picture. string_bytes picture ≡ svg_text c.args.page (opened c.args.session.now.opening) c.args.session.now.events (besides_of c.args.captions.now))
    (λ picture is. is ∙ ap (λ events. svg_text c.args.page (opened c.args.session.now.opening) events (besides_of c.args.captions.now)) c.events.ensures)
    (c.picture_of.ensures (opened c.args.session.now.opening) stands)
