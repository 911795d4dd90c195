use Rattle.std.proofs.Common.{◌∙◌, ap}
use Rattle.shm_draw.specs.Picture.{or_first, touched}
use Rattle.shm_draw.proofs.pages_to_draw.pages_touched.Goals as goal

pub returns : goal.returns
returns g c = λ w stands.
    c.in_ok-put_first.ensures
    ∙ ap or_first (c.in_ok-touch_all.ensures w (c.in_ok-world.ensures w stands) ∙ ap (touched w c.args.events.now) c.new-pages.ensures.items)
