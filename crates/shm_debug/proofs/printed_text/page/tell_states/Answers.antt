use Rattle.std.proofs.Common.{◌∙◌, ap, ◌++◌, arith, string_bytes}
use Rattle.shm_world.specs.Showing.{shown}
use Rattle.shm_debug.specs.Page.{state_text}
use Rattle.shm_debug.proofs.TellingLemmas.{told_more}
use Rattle.shm_debug.proofs.printed_text.page.tell_states.Goals as goal

pub sites-preserved : goal.sites-preserved
sites-preserved g c = λ w stands.
    told_more (λ s. state_text s (shown w s c.args.page)) 0 c.sites.site (string_bytes c.args.out.now) (string_bytes c.sites.out) (string_bytes c.tell_state.new.out)
    (omega arith) (c.sites.invariant w stands)
    (c.in_ok-tell_state.ensures ∙ ap (λ o. string_bytes c.sites.out ++ state_text c.sites.site o) (c.shown.ensures w stands))
