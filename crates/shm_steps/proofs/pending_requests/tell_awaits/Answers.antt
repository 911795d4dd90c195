use Rattle.std.proofs.Common.{arith, slice_get, string_bytes}
use Rattle.shm_debug.proofs.TellingLemmas.{told_more}
use Rattle.shm_steps.specs.Section.{site_awaits}
use Rattle.shm_steps.proofs.pending_requests.tell_awaits.Goals as goal

pub sites-preserved : goal.sites-preserved
sites-preserved g c = λ w stands.
    told_more (λ s. site_awaits s (slice_get w.sites s)) 0 c.sites.site (string_bytes c.args.out.now) (string_bytes c.sites.out) (string_bytes c.tell_site.new.out)
    (omega arith) (c.sites.invariant w stands) (c.in_ok-tell_site.ensures w stands)
