use Rattle.std.proofs.Common.{◌≡◌, ◌-◌, length, take}
use Rattle.shm_state.proofs.ServedWords.{behind}
use Rattle.shm_state.specs.BookWords.{next_numbers}
use Rattle.shm_state.proofs.parse_book.served.Given as goal

abbrev pub invariant-sites : goal.invariant-sites
invariant-sites l =
    (length l.numbers ≡ 16) × (next_numbers 16 l.initial.words ≡ behind (take l.site l.numbers) (next_numbers (16 - l.site) l.words))
