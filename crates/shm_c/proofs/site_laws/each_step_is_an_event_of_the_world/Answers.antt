use Rattle.shm_c.proofs.SiteLaws.{begins, own, handed, stays, others}
use Rattle.shm_c.proofs.site_laws.each_step_is_an_event_of_the_world.Goals as goal

pub returns : goal.returns
returns c = record { begin = begins; own = own; handed = handed; stays = stays; others = others }
