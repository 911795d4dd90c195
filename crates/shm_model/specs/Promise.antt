-- The promise. For every opening and every list of events, whatever the network loses, repeats and reorders, and whichever sites restart:
--
--   no page is writable at one site while readable at another, and readable copies are equal (`coherent`);
--   each load gives the last store to its place, or 0 where there is none (`legal`);
--   each segment call is executed once, attachments are counted, and nothing alive was purged.
--
-- Li and Hudak 1989, §2, have the second as what memory is, and §3 the first as how copies keep it.
use Rattle.std.specs.Prelude.{◌≡◌, ℕ, ◌+◌, List, ◌++◌, Some, slice_get, take}
use Rattle.shm_model.specs.declared.answer.Answer.{Answer}
use Rattle.shm_model.specs.declared.answer.Answer.TheVariants.{Byte}
use Rattle.shm_model.specs.declared.event.Event.{Event}
use Rattle.shm_model.specs.declared.event.Event.TheVariants.{Load}
use Rattle.shm_model.specs.History.{Counted, ExecutedOnce, PurgedDead}
use Rattle.shm_model.specs.Memory.{Coherent, Legal, last_store, segment_of}
use Rattle.shm_model.specs.World.{Opening, run}

-- what holds of the run of these events from this opening
pub record Promised (o : Opening) (events : List Event) : Type 0 where
  pub legal : Legal o (run o events).account
  pub coherent : Coherent (run o events).world
  pub calls_once : ExecutedOnce o (run o events)
  pub counted : Counted o (run o events)
  pub purged_dead : PurgedDead o (run o events)

-- A byte that this event loads is the one stored last to its place by the events before it, or 0 where there is none (Li and Hudak 1989, §2);
-- the place is in the segment that the attachment names then.
abbrev pub GivesLast : Opening → List Event → Event → Answer → Type 0
GivesLast o before (Load s a offset) (Byte byte) =
    (id : ℕ) × (segment_of o (run o before).account s a ≡ Some id) × (byte ≡ last_store o (run o before).account id offset)
GivesLast o before _ _ = Unit {0}

-- so it is for each of these events, where the answers from number `first` on are theirs
abbrev pub EachGivesLast : Opening → List Event → List Event → ℕ → List Answer → Type 0
EachGivesLast o before events first told = (k : ℕ) (event : Event) (answer : Answer) → slice_get events k ≡ Some event
    → slice_get told (first + k) ≡ Some answer → GivesLast o (before ++ take k events) event answer
