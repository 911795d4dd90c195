-- The book of a page's manager, from its parts in a row.
use Rattle.std.proofs.Common.{◌≡◌, ◌∙◌, ℕ, true, ◌&&◌, List, [], ◌++◌, Option, Some, None, Result, IfSome, OnOk, ap, append_assoc, is_some, slice_get, sym}
use Rattle.std.proofs.lemmas.Bool.{cond-true}
use Rattle.shm_place.specs.declared.page_id.PageId.{PageId}
use Rattle.shm_place.specs.Page.{in_limits, manager_of}
use Rattle.shm_model.specs.declared.answer.Shown.{Shown}
use Rattle.shm_model.specs.Site.{Site}
use Rattle.shm_model.specs.World.{World}
use Rattle.shm_site.specs.Showing.{Shows}
use Rattle.shm_site.specs.declared.book_view.BookView.{BookView}
use Rattle.shm_world.specs.Showing.{keeps_book, shown, shown_at}
use Rattle.shm_debug.specs.Page.{manager_text}
use Rattle.shm_debug.proofs.Booked.{on_ok-then}
use Rattle.shm_steps.specs.Section.{keeper_text, manager_name}

pub keeper_told : {X Y : Type 0} (r : Result X Y) (w : World) (page : PageId) (manager : ℕ) (seen : Option Shown) (book : Option BookView) (old first new : List ℕ)
    → in_limits w.count page ≡ true → manager ≡ manager_of w.count page → seen ≡ shown w manager page
    → is_some book ≡ (in_limits w.count page && keeps_book (slice_get w.sites (manager_of w.count page)) page)
    → ((x : Site) → slice_get w.sites (manager_of w.count page) ≡ Some x → IfSome book (λ v. Shows v (x.books page)))
    → first ≡ old ++ manager_name manager
    → ((o : Option Site) → seen ≡ shown_at o page → is_some book ≡ keeps_book o page → ((x : Site) → o ≡ Some x → IfSome book (λ v. Shows v (x.books page))) → OnOk r (new ≡ first ++ manager_text o page))
    → OnOk r (new ≡ old ++ keeper_text w page)
keeper_told r w page manager seen book old first new inside is same found tells f told =
    let o = slice_get w.sites (manager_of w.count page) in
    let whole = manager_name (manager_of w.count page) ++ manager_text o page in
    let here : seen ≡ shown_at o page = same ∙ ap (λ n. shown w n page) is ∙ cond-true (in_limits w.count page) (shown_at o page) None inside in
    let keeps : is_some book ≡ keeps_book o page = found ∙ ap (λ b. b && keeps_book o page) inside in
    on_ok-then r
    (λ e. e
    ∙ ap (λ t. t ++ manager_text o page) (f ∙ ap (λ n. old ++ manager_name n) is)
    ∙ append_assoc old (manager_name (manager_of w.count page)) (manager_text o page)
    ∙ ap (λ t. old ++ t) (sym (cond-true (in_limits w.count page) whole [] inside)))
    (told o here keeps tells)
