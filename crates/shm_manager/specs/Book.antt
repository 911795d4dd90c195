-- What shm_model sees of a book, and of what a call answers.
use Rattle.std.specs.Prelude.{ℕ, Bool, true, false, [], ◌∷◌, ◌++◌, Option, Some, None, Result, Ok, Err}
use Rattle.shm_model.specs.declared.request_kind.Kind.{Kind}
use Rattle.shm_model.specs.Book as model
use Rattle.shm_number.specs.Served.{served_of}
use Rattle.shm_number.specs.declared.counter.UsedUp.{UsedUp}
use Rattle.shm_manager.specs.declared.book.Book.{Book}
use Rattle.shm_manager.specs.declared.request_decision.Due.{Due}
use Rattle.shm_manager.specs.declared.request_decision.Due.TheVariants as due
use Rattle.shm_manager.specs.declared.manager_messages.Orders.{Orders}
use Rattle.shm_manager.specs.Orders.{orders_of}
use Rattle.shm_place.specs.SiteSet.{has}

abbrev pub run_of : Kind → ℕ → model.Running
run_of kind requester = record { kind = kind; requester = requester }

abbrev pub running_of : Option (Kind × ℕ) → Option model.Running
running_of None = None
running_of (Some run) = Some (run_of run.0 run.1)

module _ {A : Type 0} where
  abbrev pub book_of : Book A → model.Book
  book_of b = record {
    owner = b.owner;
    copies = has b.copies;
    number = b.number;
    running = running_of b.running;
    cleared = has b.cleared;
    served = served_of b.served;
    waiting = b.waiting;
  }

-- what runs, as a pair
abbrev pub kind_and_requester : Option model.Running → Option (Kind × ℕ)
kind_and_requester None = None
kind_and_requester (Some run) = Some (run.kind, run.requester)

-- a book with no transaction so far but this number
abbrev pub untouched_at : ℕ → ℕ → model.Book
untouched_at manager number = record (model.untouched_book manager) { number = number }

-- the row that a call took, from its answer and the book after it
abbrev pub row_of : Option Orders → model.Book → model.Outcome
row_of None after = model.Ignored
row_of (Some orders) after = model.Taken after (orders_of orders)

abbrev pub asked_row_of : Result (Option Orders) UsedUp → model.Book → model.Outcome
asked_row_of (Ok answer) after = row_of answer after
asked_row_of (Err _) after = model.UsedUp

-- with a request behind those that wait
abbrev pub behind : ℕ → ℕ → Kind → model.Book → model.Book
behind from request kind b = record b { waiting = b.waiting ++ (record { from = from; request = request; kind = kind } ∷ []) }

-- what becomes of a request, from its row and from what runs: one that is taken waits behind what runs, or starts
abbrev pub due_of : model.Outcome → Option model.Running → Due
due_of model.Ignored _ = due.Ignored
due_of model.UsedUp _ = due.UsedUp
due_of (model.Taken _ _) None = due.Starts
due_of (model.Taken _ _) (Some _) = due.Waits

-- a transaction starts
abbrev pub starts : Due → Bool
starts due.Starts = true
starts _ = false

-- nothing becomes of a message
abbrev pub is_ignored : model.Outcome → Bool
is_ignored model.Ignored = true
is_ignored _ = false
