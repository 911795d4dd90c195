-- A journal with an entry for each step is one of the lives whose steps these are: what made one step stands for that step alone, and has the text
-- of a line that a desk takes.
use Rattle.std.proofs.Common.{◌≡◌, ℕ, Bool, true, false, List, [], ◌∷◌, ◌++◌, Option, Some, None, cond, refl, sym, ap, ap₂, subst, ◌∙◌}
use Rattle.std.specs.List.{All}
use Rattle.std.specs.Prelude.{option_map}
use Rattle.std.proofs.lemmas.List.Elements.{All-head, All-nil, All-tail}
use Rattle.shm_lines.proofs.StepLemmas.{some-is}
use Rattle.shm_wire.proofs.LineWords.{line-is_spelled}
use Rattle.shm_wire.specs.Line as stream
use Rattle.shm_wire.specs.Line.{read_line}
use Rattle.shm_process.proofs.CauseLemmas.{single_step}
use Rattle.shm_process.proofs.Events.{steps_both}
use Rattle.shm_process.proofs.Proper as proper
use Rattle.shm_process.specs.Cause.{IsCause, OfLine, cause_text}
use Rattle.shm_process.specs.Desk.{max_line_bytes}
use Rattle.shm_process.specs.Node.{Heard, Node, Said, heard, is_late, says}
use Rattle.shm_process.specs.Recorded.{Again, Entry, Event, Line, Restarted, TooLong, after_event, after_events, all_steps, entries_of, entries_text, entry_of, kept, recorded, said_at}
use Rattle.shm_process.specs.Waiting.{joins, next_line, ready, said_read, said_restart, says_at}
use Rattle.shm_process.specs.WaitingAsks.{ask_in, next_access, tag_of}
use Rattle.shm_journal.proofs.EntriesFit.{life_sound, opened_sound, steps_are, with_step}
use Rattle.shm_journal.proofs.Fits.{Fits, fits-access, fits-restart}
use Rattle.shm_journal.proofs.Lives.{finds_whole}
use Rattle.shm_journal.specs.Found.{opened}
use Rattle.shm_journal.specs.Lines.{Header, IsHeader}
use Rattle.shm_journal.specs.Lives.{AreTaken, FindsLives, IsJournal, IsLife, IsLives, IsOfTaken, IsTaken, journal_of_steps, steps_text}

-- ---- the text of what made a step

abbrev TextFits : Said → Type 0
TextFits said = Fits max_line_bytes (cause_text said.cause)

line-cause : (node : Node) (line : stream.Line) (o : Option Heard) (said : Said) → option_map (λ h. says node (OfLine line) h (joins node h)) o ≡ Some said
    → OfLine line ≡ said.cause
line-cause node line None said made = absurd (cc)
line-cause node line (Some h) said made = ap (λ (s : Said). s.cause) (some-is (says node (OfLine line) h (joins node h)) said made)

read-text : (node : Node) (bytes : List ℕ) (read : Option stream.Line) (said : Said) → read_line bytes ≡ read → Fits max_line_bytes bytes
    → said_read node read ≡ Some said → TextFits said
read-text node bytes None said e fits made = absurd (cc)
read-text node bytes (Some line) said e fits made =
    subst (λ c. Fits max_line_bytes (cause_text c)) (line-cause node line (heard node line) said made)
    (subst (Fits max_line_bytes) ((line-is_spelled bytes line e).1) fits)

again-text : (node : Node) (p : Option ℕ) (said : Said) → option_map (says_at node) p ≡ Some said → IsCause said.cause → TextFits said
again-text node None said made is = absurd (cc)
again-text node (Some at) said made is =
    let ask = ask_in node.waiting at in
    let cause : OfLine (next_line node.me ask) ≡ said.cause = ap (λ (s : Said). s.cause) (some-is (says_at node at) said made) in
    subst (λ c. Fits max_line_bytes (cause_text c)) cause (fits-access node.me (tag_of ask) (next_access ask) (subst IsCause (sym cause) is))

restart-text : (node : Node) (late : Bool) (said : Said) → cond late None (Some (said_restart node)) ≡ Some said → TextFits said
restart-text node true said made = absurd (cc)
restart-text node false said made =
    subst (λ c. Fits max_line_bytes (cause_text c)) (ap (λ (s : Said). s.cause) (some-is (said_restart node) said made)) fits-restart

text-fits : (node : Node) (event : Event) (said : Said) → IsTaken event → IsCause said.cause → said_at node event ≡ Some said → TextFits said
text-fits node (Line bytes) said taken is made = read-text node bytes (read_line bytes) said refl (record { unended = taken.0; short = taken.1 }) made
text-fits node TooLong said taken is made = absurd (cc)
text-fits node Again said taken is made = again-text node (ready node) said made is
text-fits node Restarted said taken is made = restart-text node (is_late node 0) said made

step-taken : (node : Node) (event : Event) (said : Said) → proper.Sound node → IsTaken event → said_at node event ≡ Some said → IsOfTaken (entry_of said)
step-taken node event said sound taken made =
    let text = text-fits node event said taken (proper.event-entry node event said sound made).1 made in (text.unended, text.short)

steps-taken : (events : List Event) (node : Node) → proper.Sound node → All IsTaken events → All IsOfTaken (entries_of node events)
steps-taken [] node sound taken = All-nil IsOfTaken
steps-taken (event ∷ events) node sound taken =
    with_step IsOfTaken (said_at node event) (entries_of (after_event node event) events)
    (λ said made. step-taken node event said sound (All-head IsTaken event events taken) made)
    (steps-taken events (after_event node event) (proper.event-sound node event sound) (All-tail IsTaken event events taken))

-- ---- the steps of an entry

in-front : (said : Option Said) (steps : List Entry) → recorded said [] ++ steps ≡ recorded said steps
in-front None steps = refl
in-front (Some said) steps = refl

-- each entry stands for its own step
single-steps : (events : List Event) (node : Node) → all_steps (entries_of node events) ≡ entries_of node events
single-steps [] node = refl
single-steps (event ∷ events) node =
    let said = said_at node event in
    let next = after_event node event in
    let rest = entries_of next events in
    ap all_steps (sym (in-front said rest)) ∙ steps_both (recorded said []) rest
    ∙ ap₂ (λ xs ys. xs ++ ys) (single_step node event) (single-steps events next) ∙ in-front said rest

-- ---- life after life

life-of_steps : (node : Node) (life : List Event) → proper.Sound node → All IsTaken life → IsLife node life (entries_text (entries_of node life))
life-of_steps node life sound taken = record {
  entries = entries_of node life;
  are = steps_are life node sound;
  taken = steps-taken life node sound taken;
  is = refl;
  steps = single-steps life node;
}

lives-of_steps : (lives : List (List Event)) (node : Node) → proper.Sound node → AreTaken lives → IsLives node lives (steps_text node lives)
lives-of_steps [] node sound taken = refl
lives-of_steps (life ∷ lives) node sound taken =
    let next = kept (after_events node life) in (
      entries_text (entries_of node life),
      steps_text next lives,
      refl,
      life-of_steps node life sound (All-head (All IsTaken) life lives taken),
      lives-of_steps lives next (life_sound life node sound) (All-tail (All IsTaken) life lives taken),
    )

pub is_journal_of_steps : (header : Header) (lives : List (List Event)) → AreTaken lives → IsJournal header lives (journal_of_steps header lives)
is_journal_of_steps header lives taken = (steps_text (opened header) lives, refl, lives-of_steps lives (opened header) (opened_sound header) taken)

pub finds_steps : (header : Header) (lives : List (List Event)) → IsHeader header → AreTaken lives
    → FindsLives header lives (journal_of_steps header lives) (journal_of_steps header lives)
finds_steps header lives is taken = finds_whole header lives (journal_of_steps header lives) is (is_journal_of_steps header lives taken)
