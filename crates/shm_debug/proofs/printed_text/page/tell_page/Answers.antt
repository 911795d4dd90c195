use Rattle.std.proofs.Common.{◌∙◌, ap, string_bytes, sym}
use Rattle.shm_place.specs.Page.{in_limits, manager_of}
use Rattle.shm_debug.proofs.Paged.{page_told}
use Rattle.shm_debug.proofs.printed_text.page.tell_page.Goals as goal

pub returns : goal.returns
returns g c = λ w stands.
    page_told c.tell_manager.result w c.args.page c.manager_of-manager.result c.shown.result c.book.result
    (string_bytes c.args.out.now) (string_bytes c.push_str.new.self) (string_bytes c.tell_states.new.out) (string_bytes c.tell_manager.new.out)
    (ap (λ n. in_limits n c.args.page) (sym (c.sites.ensures w stands)) ∙ assumption (c.if-not-in_limits.ensures.limits, sym c.if-not-in_limits.ensures.limits))
    (c.manager_of-manager.ensures.manager ∙ ap (λ n. manager_of n c.args.page) (c.sites-2.ensures w stands))
    (c.shown.ensures w stands)
    (c.book.ensures.found w stands) (λ x there. c.book.ensures.book w x stands there)
    c.in_ok-push_str.ensures.bytes (c.in_ok-tell_states.ensures w stands) c.tell_manager.ensures
