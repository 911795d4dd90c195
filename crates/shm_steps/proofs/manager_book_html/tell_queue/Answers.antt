use Rattle.std.proofs.Common.{◌∙◌, ap, ◌++◌, arith, slice_get, string_bytes}
use Rattle.shm_debug.proofs.TellingLemmas.{told_more}
use Rattle.shm_site.specs.Site.{site_of}
use Rattle.shm_steps.specs.Section.{waiting_text}
use Rattle.shm_steps.proofs.manager_book_html.tell_queue.Goals as goal

pub places-preserved : goal.places-preserved
places-preserved g c =
    told_more (λ k. waiting_text (slice_get ((site_of c.args.site.now).books c.args.page).waiting k)) 0 c.places.place
    (string_bytes c.args.out.now) (string_bytes c.places.out) (string_bytes c.tell_waiting.new.out)
    (omega arith) c.places.invariant
    (c.in_ok-tell_waiting.ensures ∙ ap (λ o. string_bytes c.places.out ++ waiting_text o) c.waiting.ensures)
