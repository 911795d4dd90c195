use Rattle.std.proofs.Common.{◌≡◌, ℕ, ◌+◌}
use Rattle.shm_journal.specs.Found.{found_behind}
use Rattle.shm_journal.specs.LinesOf.{left_of}
use Rattle.shm_journal.specs.Leading.{Leads}
use Rattle.shm_journal.proofs.replay_lines.replay_rest.Given as goal

-- the lines so far lead to where the site stands
abbrev pub invariant-lines : goal.invariant-lines
invariant-lines g l =
    let next = g.T.Replay.next in
    let stands = g.T.Replay.stands in
    (state : g.T.Replay.State) → stands l.fn.site state → (more : ℕ) × (now : g.T.Replay.State) × (l.lines.whole ≡ l.fn.lines.whole + more) × stands l.site now
    × Leads next (λ rest. found_behind next 2 state rest) (left_of l.fn.lines (g.R.Read.remaining l.fn.reader))
    (left_of l.lines (g.R.Read.remaining l.reader)) l.number now more
