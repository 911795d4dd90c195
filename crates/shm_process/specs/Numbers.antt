-- The numbers that messages name: a request's, a transaction's, a segment call's. One step gives at most one of each kind, the first is 1,
-- and each step raises its site's clock. So no site can have got a number above the clock of the step that sends it.
use Rattle.std.specs.Prelude.{◌≤◌, ℕ, Bool, All, IfSome, nat_le}
use Rattle.shm_place.specs.declared.page_id.PageId.{PageId}
use Rattle.shm_model.specs.Book.{Book}
use Rattle.shm_model.specs.Entry.{Note, Ask, Clear, Cleared, Hand, Page, Confirm, seen}
use Rattle.shm_model.specs.Message.{Message, Of, Call, Replies, Purge, Purged}
use Rattle.shm_model.specs.Site.{Site}

abbrev pub number_noted : Note → ℕ
number_noted (Ask request kind) = request
number_noted (Clear number) = number
number_noted (Cleared number) = number
number_noted (Hand number kind to) = number
number_noted (Page number kind bytes) = number
number_noted (Confirm number) = number

-- a purge names a segment alone
abbrev pub number_named : Message → ℕ
number_named (Of page note) = number_noted note
number_named (Call number op) = number
number_named (Replies number reply) = number
number_named (Purge id) = 0
number_named (Purged id) = 0

-- the number that the message names can have been got by this clock
abbrev pub numbers_fit : ℕ → Message → Bool
numbers_fit clock message = nat_le (number_named message) clock

-- ---- what a site holds

pub record BookWithin (clock : ℕ) (book : Book) : Type 0 where
  pub number : book.number ≤ clock
  pub served : (site : ℕ) → book.served site ≤ clock
  pub waiting : All (λ w. w.request ≤ clock) book.waiting

-- no number that the site holds is above the clock
pub record NumbersWithin (clock : ℕ) (site : Site) : Type 0 where
  pub requests : site.requests ≤ clock
  pub pending : All (λ p. p.request ≤ clock) site.pending
  pub entries : (page : PageId) → seen (site.entries page) ≤ clock
  pub books : (page : PageId) → BookWithin clock (site.books page)
  pub calls : site.calls ≤ clock
  pub outstanding : IfSome site.outstanding (λ o. o.number ≤ clock)
  pub kept : (caller : ℕ) → IfSome (site.kept caller) (λ k. k.number ≤ clock)
