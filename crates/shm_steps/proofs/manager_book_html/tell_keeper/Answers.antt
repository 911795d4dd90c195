use Rattle.std.proofs.Common.{◌∙◌, ap, string_bytes, sym}
use Rattle.shm_place.specs.Page.{in_limits, manager_of}
use Rattle.shm_steps.proofs.Kept.{keeper_told}
use Rattle.shm_steps.proofs.manager_book_html.tell_keeper.Goals as goal

pub returns : goal.returns
returns g c = λ w stands.
    keeper_told c.tell_manager.result w c.args.page c.manager_of-manager.result c.shown.result c.book.result
    (string_bytes c.args.out.now) (string_bytes c.tell_name.new.out) (string_bytes c.tell_manager.new.out)
    (ap (λ n. in_limits n c.args.page) (sym (c.sites.ensures w stands)) ∙ assumption (c.if-not-in_limits.ensures.limits, sym c.if-not-in_limits.ensures.limits))
    (c.manager_of-manager.ensures.manager ∙ ap (λ n. manager_of n c.args.page) (c.sites-2.ensures w stands))
    (c.shown.ensures w stands)
    (c.book.ensures.found w stands) (λ x there. c.book.ensures.book w x stands there)
    c.in_ok-tell_name.ensures c.tell_manager.ensures
