use Rattle.shm_draw.proofs.lifelines.tell_name.Goals as goal

pub returns : goal.returns
returns g c = rw (c.x_of-x.ensures, c.site.view_is) at c.write.ensures.bytes
