-- The text of a page, from its parts in a row.
use Rattle.std.proofs.Common.{◌≡◌, ◌∙◌, ℕ, Bool, true, false, not, ◌&&◌, List, ◌++◌, Option, Some, None, Result, IfSome, OnOk, ap, append_assoc, codes, if◌then◌else◌, is_some, refl, slice_get, subst, sym}
use Rattle.std.proofs.lemmas.Bool.{cond-true, false≢true}
use Rattle.shm_place.specs.declared.page_id.PageId.{PageId}
use Rattle.shm_place.specs.Page.{in_limits, manager_of}
use Rattle.shm_model.specs.declared.answer.Answer.TheVariants as answer
use Rattle.shm_model.specs.declared.answer.Shown.{Shown}
use Rattle.shm_model.specs.Book.{Book}
use Rattle.shm_model.specs.Refusal.{foreign_message}
use Rattle.shm_model.specs.Site.{Site}
use Rattle.shm_model.specs.World.{World}
use Rattle.shm_site.specs.Showing.{Shows}
use Rattle.shm_site.specs.declared.book_view.BookView.{BookView}
use Rattle.shm_world.specs.Showing.{keeps_book, shown, shown_at}
use Rattle.shm_debug.specs.Page.{book_text, manager_text, page_text, states_text}
use Rattle.shm_text.specs.Text.{answer_text}
use Rattle.shm_debug.proofs.Booked.{on_ok-then}

unpurged : (purged : Bool) (x y : List ℕ) → true ≡ not purged → (if purged then x else y) ≡ y
unpurged true x y h = absurd (false≢true (sym h))
unpurged false x y h = refl

-- of a manager that keeps the book the book is told
pub manager_told : {X Y : Type 0} (r : Result X Y) (o : Option Site) (page : PageId) (seen : Option Shown) (book : Option BookView) (view : BookView) (old new : List ℕ)
    → is_some seen ≡ true → book ≡ Some view → seen ≡ shown_at o page → is_some book ≡ keeps_book o page
    → ((x : Site) → o ≡ Some x → IfSome book (λ v. Shows v (x.books page)))
    → ((b : Book) → Shows view b → OnOk r (new ≡ old ++ book_text b))
    → OnOk r (new ≡ old ++ manager_text o page)
manager_told r None page seen book view old new there is same found tells told = absurd (false≢true (sym (ap (λ (s : Option Shown). is_some s) same) ∙ there))
manager_told r (Some x) page seen book view old new there is same found tells told =
    let keeps : true ≡ not (x.purged page.seg) = ap (λ (b : Option BookView). is_some b) (sym is) ∙ found in
    on_ok-then r
    (λ e. e ∙ ap (λ t. old ++ t) (sym (unpurged (x.purged page.seg) (codes " purged") (book_text (x.books page)) keeps)))
    (told (x.books page) (subst (λ (b : Option BookView). IfSome b (λ v. Shows v (x.books page))) is (tells x refl)))

in_a_row : (a b c d : List ℕ) → ((a ++ b) ++ c) ++ d ≡ a ++ (b ++ (c ++ d))
in_a_row a b c d = simp append_assoc refl

pub page_told : {X Y : Type 0} (r : Result X Y) (w : World) (page : PageId) (manager : ℕ) (seen : Option Shown) (book : Option BookView) (old first second new : List ℕ)
    → in_limits w.count page ≡ true → manager ≡ manager_of w.count page → seen ≡ shown w manager page
    → is_some book ≡ (in_limits w.count page && keeps_book (slice_get w.sites (manager_of w.count page)) page)
    → ((x : Site) → slice_get w.sites (manager_of w.count page) ≡ Some x → IfSome book (λ v. Shows v (x.books page)))
    → first ≡ old ++ codes "page" → second ≡ first ++ states_text w page
    → ((o : Option Site) → seen ≡ shown_at o page → is_some book ≡ keeps_book o page → ((x : Site) → o ≡ Some x → IfSome book (λ v. Shows v (x.books page))) → OnOk r (new ≡ second ++ manager_text o page))
    → OnOk r (new ≡ old ++ page_text w page)
page_told r w page manager seen book old first second new inside is same found tells f g told =
    let o = slice_get w.sites (manager_of w.count page) in
    let whole = codes "page" ++ (states_text w page ++ manager_text o page) in
    let here : seen ≡ shown_at o page = same ∙ ap (λ n. shown w n page) is ∙ cond-true (in_limits w.count page) (shown_at o page) None inside in
    let keeps : is_some book ≡ keeps_book o page = found ∙ ap (λ b. b && keeps_book o page) inside in
    on_ok-then r
    (λ e. e
    ∙ ap (λ t. t ++ manager_text o page) (g ∙ ap (λ t. t ++ states_text w page) f)
    ∙ in_a_row old (codes "page") (states_text w page) (manager_text o page)
    ∙ ap (λ t. old ++ t) (sym (cond-true (in_limits w.count page) whole (answer_text (answer.Refused foreign_message)) inside)))
    (told o here keeps tells)
