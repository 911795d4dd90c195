-- Steps of a site, and what they post.
use Rattle.std.proofs.Common.{◌≡◌, ◌∙◌, ℕ, List, [], ◌∷◌, ◌++◌, Option, None, Some, Result, Ok, Err, IfOk, ap, refl}
use Rattle.std.specs.Result.{OnErr}
use Rattle.shm_model.specs.declared.answer.Answer.{Answer}
use Rattle.shm_model.specs.Site.{Step}
use Rattle.shm_model.specs.Book as book
use Rattle.shm_model.specs.Site as model
use Rattle.shm_place.specs.declared.page_id.PageId.{PageId}
use Rattle.shm_parts.specs.Books.{booked_of, books_of, with_books}
use Rattle.shm_parts.specs.Holdings.{turned_step, with_holdings}
use Rattle.shm_parts.specs.Message.{envelope_of}
use Rattle.shm_parts.specs.declared.books.Books.{Books}
use Rattle.shm_parts.specs.declared.entry_change.Change.{Change}
use Rattle.shm_parts.specs.declared.holdings.Holdings.{Holdings}
use Rattle.shm_parts.specs.declared.message.Envelope.{Envelope}
use Rattle.shm_site.specs.Site.{Makes, SameSeat, StepsTo, stepped}
use Rattle.shm_site.specs.declared.site.Site.{Site}

module _ {A O : Type 0} {posted : O → O → List (Envelope A) → Type 0} where
  -- a step that sends nothing
  pub quietly : {old new : Site A} {outbox : O} {answer : Answer} {step : Step} → posted outbox outbox [] → SameSeat old new → step ≡ stepped new answer [] → StepsTo posted old new outbox outbox answer step
  quietly none seat made = record { makes = record { sent = []; behind = none; made = made }; seat = seat }

  -- a step with room made before it
  pub with_room : {before room after : O} {site : model.Site} {answer : Answer} {first then : Step}
      → ((first then last : O) (xs ys : List (Envelope A)) → posted first then xs → posted then last ys → posted first last (xs ++ ys))
      → posted before room [] → first ≡ then → Makes posted room after site answer then → Makes posted before after site answer first
  with_room {before = before} {room = room} {after = after} joined made same makes =
      record { sent = makes.sent; behind = joined before room after [] makes.sent made makes.behind; made = same ∙ makes.made }

  -- one envelope that was posted
  pub one_sent : {before after : O} {site : model.Site} {answer : Answer} {step : Step} (e : Envelope A) (room : O)
      → ((first then last : O) (xs ys : List (Envelope A)) → posted first then xs → posted then last ys → posted first last (xs ++ ys))
      → posted before room [] → posted room after (e ∷ []) → step ≡ record { site = site; answer = answer; sent = envelope_of e ∷ [] } → Makes posted before after site answer step
  one_sent {before = before} {after = after} e room joined made sent is =
      record { sent = e ∷ []; behind = joined before room after [] (e ∷ []) made sent; made = is }

-- a turned entry, at the site with what it holds then
pub turned-held : {A : Type 0} (sites me : ℕ) (page : PageId) (sent : Option (Envelope A × Change)) (held : Holdings A) (site : model.Site)
    → turned_step page sent (with_holdings sites me held) site ≡ turned_step page sent (λ s. s) (with_holdings sites me held site)
turned-held sites me page None held site = refl
turned-held sites me page (Some sent) held site = refl

-- the same step by another name, at a site of the same seat
pub if_steps : {A O X : Type 0} (posted : O → O → List (Envelope A) → Type 0) (old mid new : Site A) (before after : O) (first then : Step) (r : Result Answer X)
    → first ≡ then → IfOk r (λ answer. StepsTo posted mid new before after answer then) → SameSeat old mid → IfOk r (λ answer. StepsTo posted old new before after answer first)
if_steps posted old mid new before after first then (Ok answer) same steps seat = record {
  makes = record { sent = steps.makes.sent; behind = steps.makes.behind; made = same ∙ steps.makes.made };
  seat = (steps.seat.0 ∙ seat.0, steps.seat.1 ∙ seat.1);
}
if_steps posted old mid new before after first then (Err e) same steps seat = tt

-- a site whose books are as they were
pub books_back : {A : Type 0} (me : ℕ) (old new : Books A) (site : model.Site) → ((me : ℕ) → books_of me new ≡ books_of me old) → booked_of new ≡ booked_of old → with_books me new site ≡ with_books me old site
books_back me old new site books booked =
    ap (λ (bs : PageId → book.Book). record site { books = bs; booked = booked_of new }) (books me) ∙ ap (λ (ps : List PageId). record site { books = books_of me old; booked = ps }) booked

-- of a result that is an error, what holds anyway
pub on_err : {T E P : Type 0} (r : Result T E) → P → OnErr r P
on_err (Ok _) p = tt
on_err (Err _) p = p
