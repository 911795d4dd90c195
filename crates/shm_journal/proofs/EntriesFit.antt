-- Each entry of what a site did has a line that a journal may have.
use Rattle.std.proofs.Common.{◌≡◌, List, [], ◌∷◌, Option, Some, None, refl}
use Rattle.std.specs.List.{All}
use Rattle.std.proofs.lemmas.List.Elements.{All-cons, All-head, All-nil, All-tail}
use Rattle.shm_process.proofs.Proper as proper
use Rattle.shm_process.proofs.Proper.{IsProper}
use Rattle.shm_process.specs.Node.{Node, Said}
use Rattle.shm_process.specs.Recorded.{Entry, Event, IsEntry, after_event, after_events, entries_of, entry_line, entry_of, kept, recorded, said_at}
use Rattle.shm_journal.proofs.Fits.{Fits, fits-entry}
use Rattle.shm_journal.specs.Found.{max_journal_line, opened}
use Rattle.shm_journal.specs.Lines.{Header}
use Rattle.shm_journal.specs.Lives.{IsOfTaken, after_lives}

abbrev pub IsFit : Entry → Type 0
IsFit entry = IsEntry entry × Fits max_journal_line (entry_line entry)

abbrev pub AreFit : List Entry → Type 0
AreFit [] = Unit {0}
AreFit (entry ∷ entries) = IsFit entry × AreFit entries

pub entries_fit : (entries : List Entry) → All IsEntry entries → All IsOfTaken entries → AreFit entries
entries_fit [] are taken = tt
entries_fit (entry ∷ entries) are taken =
    let is = All-head IsEntry entry entries are in
    let text = All-head IsOfTaken entry entries taken in (
      (is, fits-entry entry is.0 (record { unended = text.0; short = text.1 })),
      entries_fit entries (All-tail IsEntry entry entries are) (All-tail IsOfTaken entry entries taken),
    )

-- ---- the steps of a life

pub with_step : (P : Entry → Type 0) (said : Option Said) (steps : List Entry) → ((s : Said) → said ≡ Some s → P (entry_of s)) → All P steps → All P (recorded said steps)
with_step P None steps is all = all
with_step P (Some said) steps is all = All-cons P (entry_of said) steps (is said refl) all

-- each has a line
pub steps_are : (events : List Event) (node : Node) → proper.Sound node → All IsEntry (entries_of node events)
steps_are [] node sound = All-nil IsEntry
steps_are (event ∷ events) node sound =
    with_step IsEntry (said_at node event) (entries_of (after_event node event) events) (λ said made. proper.event-entry node event said sound made)
    (steps_are events (after_event node event) (proper.event-sound node event sound))

-- ---- life after life

pub kept_sound : (node : Node) → proper.Sound node → proper.Sound (kept node)
kept_sound node sound = record { clock = sound.clock; asks = All-nil (IsProper node.me) }

pub life_sound : (life : List Event) (node : Node) → proper.Sound node → proper.Sound (kept (after_events node life))
life_sound life node sound = kept_sound (after_events node life) (proper.events-sound life node sound)

pub lives_sound : (lives : List (List Event)) (node : Node) → proper.Sound node → proper.Sound (after_lives node lives)
lives_sound [] node sound = sound
lives_sound (life ∷ lives) node sound = lives_sound lives (kept (after_events node life)) (life_sound life node sound)

pub opened_sound : (header : Header) → proper.Sound (opened header)
opened_sound header = proper.new-sound header.sites header.me header.pages
