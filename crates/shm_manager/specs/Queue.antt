-- What shm_model sees of the requests that wait.
use Rattle.std.specs.Prelude.{ℕ, Bool, ◌&&◌, ◌==◌, List, ◌∷◌, Option, Some, None, map}
use Rattle.std.specs.List.{list_any}
use Rattle.shm_model.specs.declared.request_kind.Kind.{Kind}
use Rattle.shm_manager.specs.declared.waiting_request.Ask.{Ask}
use Rattle.shm_model.specs.Book.{Waiting}

-- a request, as its site, its number and what it asks for
abbrev pub waiting_from : ℕ × (ℕ × Kind) → Waiting
waiting_from ask = record { from = ask.0; request = ask.1.0; kind = ask.1.1 }

abbrev pub waiting_of : Ask → Waiting
waiting_of ask = record { from = ask.from; request = ask.request; kind = ask.kind }

abbrev pub all_waiting : List Ask → List Waiting
all_waiting asks = map waiting_of asks

-- the first of the requests, if any, before those that are left
abbrev pub before : Option Ask → List Waiting → List Waiting
before None left = left
before (Some ask) left = waiting_of ask ∷ left

abbrev pub is_among : ℕ → ℕ → List Ask → Bool
is_among from request asks = list_any (λ ask. (ask.from == from) && (ask.request == request)) asks
