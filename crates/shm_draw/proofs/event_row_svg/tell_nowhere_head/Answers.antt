use Rattle.shm_draw.proofs.event_row_svg.tell_nowhere_head.Goals as goal

pub returns : goal.returns
returns g c = rw c.y_of-y.ensures at c.write.ensures.bytes
