use Rattle.std.proofs.Common.{codes, string_bytes}
use Rattle.shm_model.specs.Opening.{opening_of}
use Rattle.shm_model.specs.World.{opened}
use Rattle.shm_steps.specs.Section.{world_text}
use Rattle.shm_steps.specs.Steps.{opening_text}
use Rattle.shm_steps.proofs.InARow.{four_told}
use Rattle.shm_steps.proofs.step_sections.tell_first.Goals as goal

pub returns : goal.returns
returns g c =
    let opening = opening_of c.args.opening.now in
    four_told c.tell_world.result (string_bytes c.args.out.now) (string_bytes c.push_str.new.self) (string_bytes c.tell_opening.new.out) (string_bytes c.push_str-2.new.self)
    (string_bytes c.tell_world.new.out)
    (codes "</div>\n<section id='step-0'>\n<h2>") (opening_text opening) (codes "</h2>\n<pre>1 ready\n</pre>\n") (world_text c.args.pages.now (opened opening))
    c.in_ok-push_str.ensures.bytes c.in_ok-tell_opening.ensures c.in_ok-push_str-2.ensures.bytes (c.tell_world.ensures (opened opening) c.requires)
