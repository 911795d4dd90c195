-- What became of an input, and of the site behind the handle.
use Rattle.std.specs.Prelude.{◌≡◌, true, false, List, ℕ, Option, None, Some}
use Rattle.shm_model.specs.Message.{Envelope, Input, Deliver}
use Rattle.shm_model.specs.Site.{Step}
use Rattle.shm_model.specs.Step.{step}
use Rattle.shm_site.specs.Step.{is_foreign, may_grow}
use Rattle.shm_wire.specs.Line as wire
use Rattle.shm_wire.specs.Line.{read_line}
use Rattle.shm_c.specs.declared.numbers.AnswerNumbers.{AnswerNumbers}
use Rattle.shm_c.specs.declared.numbers.ReplyNumbers.{ReplyNumbers}
use Rattle.shm_c.specs.declared.site_outcome.SiteOutcome.{SiteOutcome}
use Rattle.shm_c.specs.declared.site_outcome.SiteOutcome.TheVariants.{Made, Foreign, NoMemory, NoSite, NoLine}
use Rattle.shm_c.specs.Seat.{Seat}
use Rattle.shm_c.specs.SiteNumbers.{site_outcome_numbers, site_outcome_reply}

abbrev pub step_of : Seat → Input → Step
step_of seat input = step seat.sites seat.me seat.site input

-- what a step leaves: what it sent takes the place of what was sent before
abbrev pub seat_after : Seat → Step → Seat
seat_after seat made = record seat { site = made.site; sent = made.sent }

-- The step was made, and the answer is the definitions'. Or nothing changed: the input is foreign, or memory was refused, which may be
-- only where the step takes some.
abbrev pub Stepped : Input → Seat → Seat → SiteOutcome → Type 0
Stepped input old new (Made answer) =
    (is_foreign old.sites old.me input ≡ false) × (new ≡ seat_after old (step_of old input)) × (answer ≡ (step_of old input).answer)
Stepped input old new Foreign = (is_foreign old.sites old.me input ≡ true) × (new ≡ old)
Stepped input old new NoMemory = (may_grow old.sites old.me old.site input ≡ true) × (new ≡ old)
Stepped input old new NoSite = ⊥
Stepped input old new NoLine = ⊥

-- ---- a delivery, by its line

abbrev pub envelope_in : Option wire.Line → Option Envelope
envelope_in None = None
envelope_in (Some (wire.Envelope sent)) = Some sent.envelope
envelope_in (Some (wire.Ask _)) = None
envelope_in (Some (wire.Write _)) = None
envelope_in (Some (wire.Unmap _)) = None

-- The step was made that hands the envelope over, or refused as foreign. Or nothing changed: the line spells no envelope, or memory was
-- refused, which a page's bytes take already as they are read.
abbrev pub Delivers : Option Envelope → Seat → Seat → SiteOutcome → Type 0
Delivers read old new NoMemory = new ≡ old
Delivers None old new outcome = (outcome ≡ NoLine) × (new ≡ old)
Delivers (Some envelope) old new outcome = Stepped (Deliver envelope) old new outcome

abbrev pub Delivered : List ℕ → Seat → Seat → SiteOutcome → Type 0
Delivered line old new outcome = Delivers (envelope_in (read_line line)) old new outcome

-- ---- behind a handle

-- a handle that was empty stays so, and any other has its site after this
abbrev pub Became : (Seat → Seat → SiteOutcome → Type 0) → Option Seat → Option Seat → SiteOutcome → Type 0
Became Makes None new outcome = (new ≡ None) × (outcome ≡ NoSite)
Became Makes (Some old) None outcome = ⊥
Became Makes (Some old) (Some new) outcome = Makes old new outcome

-- the numbers are those of what became of the input
abbrev pub Answered : (Seat → Seat → SiteOutcome → Type 0) → Option Seat → Option Seat → AnswerNumbers → Type 0
Answered Makes old new answer = (outcome : SiteOutcome) × Became Makes old new outcome × (answer ≡ site_outcome_numbers outcome)

-- and so are the reply's
abbrev pub Handed : (Seat → Seat → SiteOutcome → Type 0) → Option Seat → Option Seat → AnswerNumbers → ReplyNumbers → Type 0
Handed Makes old new answer reply =
    (outcome : SiteOutcome) × Became Makes old new outcome × (answer ≡ site_outcome_numbers outcome) × (reply ≡ site_outcome_reply outcome)
