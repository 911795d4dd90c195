use Rattle.std.proofs.Common.{slice_get, string_bytes}
use Rattle.shm_debug.proofs.TellingLemmas.{ToldUpTo}
use Rattle.shm_site.specs.Site.{site_of}
use Rattle.shm_steps.specs.Section.{waiting_text}
use Rattle.shm_steps.proofs.manager_book_html.tell_queue.Given as goal

abbrev pub invariant-places : goal.invariant-places
invariant-places g l =
    ToldUpTo (λ k. waiting_text (slice_get ((site_of l.site).books l.fn.page).waiting k)) 0 l.place (string_bytes l.initial.out) (string_bytes l.out)
