-- What a desk did, event by event.
use Rattle.std.specs.Prelude.{◌≡◌, All, List, None, ◌++◌}
use Rattle.shm_process.specs.Desk.{Desk}
use Rattle.shm_process.specs.Recorded.{Entry, Event, IsEntry, after_events, all_steps, entries_of, entries_text}

-- The node of the first desk had these events, and became that of the other. Entries were recorded whose steps are exactly those of the
-- events, and no row is left that may still grow. Where each step has a line, each of these entries has one.
pub record DidEvents (old new : Desk) : Type 0 where
  pub events : List Event
  pub entries : List Entry
  pub node : new.node ≡ after_events old.node events
  pub recorded : new.recorded ≡ old.recorded ++ entries_text entries
  pub steps : all_steps entries ≡ entries_of old.node events
  pub lines : All IsEntry (entries_of old.node events) → All IsEntry entries
  pub row : new.row ≡ None
