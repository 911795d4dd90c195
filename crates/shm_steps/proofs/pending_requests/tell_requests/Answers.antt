use Rattle.std.proofs.Common.{◌∙◌, ◌++◌, ap, string_bytes}
use Rattle.std.specs.List.{flat_map}
use Rattle.shm_site.specs.Site.{site_of}
use Rattle.shm_steps.specs.Section.{call_text, pending_text}
use Rattle.shm_steps.proofs.InARow.{two_told}
use Rattle.shm_steps.proofs.pending_requests.tell_requests.Goals as goal

pub returns : goal.returns
returns g c =
    let site = site_of c.args.site.now in
    two_told c.tell_call.result (string_bytes c.args.out.now) (string_bytes c.tell_pending.new.out) (string_bytes c.tell_call.new.out)
    (flat_map (pending_text c.args.number) site.pending) (call_text c.args.number site.outstanding)
    (c.in_ok-tell_pending.ensures ∙ ap (λ requests. string_bytes c.args.out.now ++ flat_map (pending_text c.args.number) requests) c.pending.ensures)
    (rw c.outstanding.ensures at c.tell_call.ensures)
