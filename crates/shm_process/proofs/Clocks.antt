-- How far a line raises a node's clock; and that no number of the node is above it, nor one that it sends.
use Rattle.std.proofs.Common.{◌≡◌, ℕ, suc, ◌+◌, ◌*◌, ◌<◌, ◌≤◌, ◌==◌, ◌||◌, not, nat_le, nat_lt, Bool, true, false, List, [], ◌∷◌, Option, Some, None, length, max, cond, refl, subst, arith}
use Rattle.std.specs.List.{All}
use Rattle.std.specs.Prelude.{IfSome, option_map}
use Rattle.std.specs.Option.{option_map_or}
use Rattle.std.proofs.lemmas.Bool.Decides.{nat_tests}
use Rattle.shm_model.specs.Message.{Begin, Deliver, Input, Load, Restart, Store, Tick}
use Rattle.shm_model.specs.Receipt.{access_of}
use Rattle.shm_model.specs.Step.{foreign, step}
use Rattle.shm_model.specs.declared.asked_access.Asked.{Asked}
use Rattle.shm_model.specs.declared.asked_access.Asked.TheVariants as asked
use Rattle.shm_wire.specs.Line as stream
use Rattle.shm_wire.specs.Line.{read_line}
use Rattle.shm_wire.specs.Sent.{Sent}
use Rattle.shm_wire.specs.declared.caller_ask.Question.{Question}
use Rattle.shm_wire.specs.declared.mapping_text.Mapping.{Mapping}
use Rattle.shm_wire.specs.declared.caller_ask.Question.TheVariants as question
use Rattle.shm_process.specs.Cause.{Cause, OfLine, OfRestart}
use Rattle.shm_process.specs.Node.{Node, Heard, Said, handed, heard, input_asked, is_ahead, is_beyond, asked_under, is_late, most_ahead, new_node, next_clock, remapped_by, says, stepped, unmap_input, waits_for}
use Rattle.shm_process.specs.Numbers.{NumbersWithin, number_named, numbers_fit}
use Rattle.shm_process.specs.Mapped.{byte_place, page_at}
use Rattle.shm_process.specs.Remaps.{first_load, is_empty, unmapped_to}
use Rattle.shm_process.specs.Recorded.{Event, Line, TooLong, Again, Restarted, after_event, after_events, said_at}
use Rattle.shm_process.specs.Waiting.{after, after_heard, after_read, after_restart, again_at, heard_again, joining, joins, next_heard, ready, replayed, replayed_heard, restarting, said_read, said_restart, says_at}
use Rattle.shm_process.specs.WaitingAsks.{WaitingAsk, ask_in, next_access}
use Rattle.shm_process.proofs.NumberedRows.{Good}
use Rattle.shm_process.proofs.NumberedSteps.{InputWithin, good-step, opened-within}
use Rattle.shm_process.proofs.Tests.{some_is, unless-some}

-- what a line hands over: no clock out of reach, and no number above the clock
record Heeds (node : Node) (x : Heard) : Type 0 where
  near : x.source ≤ node.clock + most_ahead
  number : InputWithin x.source x.input

-- ---- what is heard

neither : (a b : Bool) → (a || b) ≡ false → (a ≡ false) × (b ≡ false)
neither true b h = absurd (cc)
neither false b h = (refl, h)

near-is : (clock source : ℕ) → nat_lt (clock + most_ahead) source ≡ false → source ≤ clock + most_ahead
near-is clock source h = grind (arith, nat_tests)

number-is : (n c : ℕ) → not (nat_le n c) ≡ false → n ≤ c
number-is n c h = grind (arith, nat_tests)

zero-near : (clock : ℕ) → 0 ≤ clock + most_ahead
zero-near clock = omega arith

envelope-heeds : (node : Node) (sent : Sent) (x : Heard) → handed node sent ≡ Some x → Heeds node x
envelope-heeds node sent x e =
    let lost = foreign node.sites node.me sent.envelope || (is_late node sent.source.at || is_beyond node sent) in
    let made : Heard = record { input = Deliver sent.envelope; source = sent.source.at; tag = None; waits = None; mapped = None } in
    let is = unless-some lost (Some made) x e in
    let own = neither (foreign node.sites node.me sent.envelope) (is_late node sent.source.at || is_beyond node sent) is.0 in
    let early = neither (is_late node sent.source.at) (is_beyond node sent) own.1 in
    let both = neither (is_ahead node sent.source.at) (not (numbers_fit sent.source.at sent.envelope.message)) early.1 in
    subst (Heeds node) (some_is made x is.1)
    (record {
      near = near-is node.clock sent.source.at both.0;
      number = number-is (number_named sent.envelope.message) sent.source.at both.1;
    })

access-number : (c : ℕ) (a : Asked) → InputWithin c (access_of a)
access-number c (asked.Load at offset) = tt
access-number c (asked.Store at offset byte) = tt

asked-number : (q : Question) → IfSome (input_asked q) (InputWithin 0)
asked-number (question.Access a) = access-number 0 a
asked-number (question.Try a) = access-number 0 a
asked-number (question.Read at offset count) = tt
asked-number (question.Begin request) = tt
asked-number question.Tick = tt
asked-number (question.Show page) = tt
asked-number question.Health = tt
asked-number (question.Map at index kind) = tt
asked-number question.Mappings = tt

ask-heeds : (node : Node) (tag : List ℕ) (waits : Option WaitingAsk) (mapped : Option (List Mapping)) (x : Heard) (o : Option Input) (here late : Bool)
    → IfSome o (InputWithin 0) → cond here (cond late None (option_map (asked_under tag waits mapped) o)) None ≡ Some x → Heeds node x
ask-heeds node tag waits mapped x o false late number e = absurd (cc)
ask-heeds node tag waits mapped x o true true number e = absurd (cc)
ask-heeds node tag waits mapped x None true false number e = absurd (cc)
ask-heeds node tag waits mapped x (Some input) true false number e =
    subst (Heeds node) (some_is (asked_under tag waits mapped input) x e) (record { near = zero-near node.clock; number = number })

unmap-number : (empty : Bool) (at index : ℕ) → IfSome (cond empty (Some (first_load at index)) None) (InputWithin 0)
unmap-number true at index = tt
unmap-number false at index = tt

line-heeds : (node : Node) (line : stream.Line) (x : Heard) → heard node line ≡ Some x → Heeds node x
line-heeds node (stream.Envelope sent) x e = envelope-heeds node sent x e
line-heeds node (stream.Write write) x e = absurd (cc)
line-heeds node (stream.Ask ask) x e =
    ask-heeds node ask.tag (waits_for ask.tag ask.asked) (remapped_by node ask.asked) x (input_asked ask.asked) (ask.site == node.me) (is_late node 0)
    (asked-number ask.asked) e
line-heeds node (stream.Unmap unmap) x e =
    ask-heeds node unmap.tag None (unmapped_to node.mapped unmap.keeps (page_at node.site unmap.at (byte_place unmap.index 0))) x (unmap_input unmap)
    (unmap.site == node.me) (is_late node 0) (unmap-number (is_empty unmap.runs) unmap.at unmap.index) e

next-heeds : (node : Node) (ask : WaitingAsk) → Heeds node (next_heard ask)
next-heeds node ask = record { near = zero-near node.clock; number = access-number 0 (next_access ask) }

restart-heeds : (node : Node) → Heeds node restarting
restart-heeds node = record { near = zero-near node.clock; number = tt }

-- ---- how far the clock goes

step-reach : (clock source : ℕ) → source ≤ clock + most_ahead → max clock source + 1 ≤ clock + most_ahead + 1
step-reach clock source near = grind (arith, nat_tests)

still-reach : (clock : ℕ) → clock ≤ clock + most_ahead + 1
still-reach clock = omega arith

abbrev Reach : Node → Node → Type 0
Reach node next = next.clock ≤ node.clock + most_ahead + 1

heard-reach : (node : Node) (block : Option WaitingAsk) (o : Option Heard) → ((x : Heard) → o ≡ Some x → Heeds node x) → Reach node (after_heard node block o)
heard-reach node None None is = still-reach node.clock
heard-reach node (Some block) None is = still-reach node.clock
heard-reach node block (Some x) is = step-reach node.clock x.source (is x refl).near

pub line_reach : (node : Node) (line : stream.Line) → (after node line).clock ≤ node.clock + most_ahead + 1
line_reach node line = heard-reach node (joining node line) (heard node line) (line-heeds node line)

read-reach : (node : Node) (read : Option stream.Line) → Reach node (after_read node read)
read-reach node None = still-reach node.clock
read-reach node (Some line) = line_reach node line

again-reach : (node : Node) (p : Option ℕ) → Reach node (option_map_or (again_at node) p node)
again-reach node None = still-reach node.clock
again-reach node (Some at) = step-reach node.clock 0 (zero-near node.clock)

restart-reach : (node : Node) (late : Bool) → Reach node (cond late node (after_restart node))
restart-reach node true = still-reach node.clock
restart-reach node false = step-reach node.clock 0 (zero-near node.clock)

event-reach : (node : Node) (event : Event) → Reach node (after_event node event)
event-reach node (Line bytes) = read-reach node (read_line bytes)
event-reach node TooLong = still-reach node.clock
event-reach node Again = again-reach node (ready node)
event-reach node Restarted = restart-reach node (is_late node 0)

one-further : (clock next last n : ℕ) → next ≤ clock + most_ahead + 1 → last ≤ next + (most_ahead + 1) * n → last ≤ clock + (most_ahead + 1) * suc n
one-further clock next last n a b = omega (arith, a, b)

no-further : (clock : ℕ) → clock ≤ clock + (most_ahead + 1) * 0
no-further clock = omega arith

events-reach : (events : List Event) (node : Node) → (after_events node events).clock ≤ node.clock + (most_ahead + 1) * length events
events-reach [] node = no-further node.clock
events-reach (event ∷ events) node =
    one-further node.clock (after_event node event).clock (after_events (after_event node event) events).clock (length events)
    (event-reach node event) (events-reach events (after_event node event))

from-zero : (a b : ℕ) → a ≤ 0 + b → a ≤ b
from-zero a b h = omega (arith, h)

pub clock_reach : (sites me pages : ℕ) (events : List Event) → (after_events (new_node sites me pages) events).clock ≤ (most_ahead + 1) * length events
clock_reach sites me pages events =
    from-zero (after_events (new_node sites me pages) events).clock ((most_ahead + 1) * length events) (events-reach events (new_node sites me pages))

-- ---- numbers

abbrev pub Within : Node → Type 0
Within node = NumbersWithin node.clock node.site

input-later : (s c : ℕ) (input : Input) → s ≤ c → InputWithin s input → InputWithin c input
input-later s c (Load at offset) l is = tt
input-later s c (Store at offset byte) l is = tt
input-later s c (Begin request) l is = tt
input-later s c (Deliver e) l is = omega (arith, l, is)
input-later s c Tick l is = tt
input-later s c Restart l is = tt

later-clock : (clock source : ℕ) → clock < max clock source + 1
later-clock clock source = grind (arith, nat_tests)

later-source : (clock source : ℕ) → source ≤ max clock source + 1
later-source clock source = grind (arith, nat_tests)

heard-good : (node : Node) (x : Heard) → Heeds node x → Within node → Good (next_clock node x.source) (step node.sites node.me node.site x.input)
heard-good node x is within =
    good-step node.sites node.me node.clock (next_clock node x.source) node.site (later-clock node.clock x.source) within x.input
    (input-later x.source (next_clock node x.source) x.input (later-source node.clock x.source) is.number)

heard-within : (node : Node) (block : Option WaitingAsk) (o : Option Heard) → ((x : Heard) → o ≡ Some x → Heeds node x) → Within node
    → Within (after_heard node block o)
heard-within node None None is within = within
heard-within node (Some block) None is within = within
heard-within node block (Some x) is within = (heard-good node x (is x refl) within).site

read-within : (node : Node) (read : Option stream.Line) → Within node → Within (after_read node read)
read-within node None within = within
read-within node (Some line) within = heard-within node (joining node line) (heard node line) (line-heeds node line) within

again-within : (node : Node) (p : Option ℕ) → Within node → Within (option_map_or (again_at node) p node)
again-within node None within = within
again-within node (Some at) within = (heard-good node (next_heard (ask_in node.waiting at)) (next-heeds node (ask_in node.waiting at)) within).site

restart-within : (node : Node) (late : Bool) → Within node → Within (cond late node (after_restart node))
restart-within node true within = within
restart-within node false within = (heard-good node restarting (restart-heeds node) within).site

pub event_within : (node : Node) (event : Event) → NumbersWithin node.clock node.site → NumbersWithin (after_event node event).clock (after_event node event).site
event_within node (Line bytes) within = read-within node (read_line bytes) within
event_within node TooLong within = within
event_within node Again within = again-within node (ready node) within
event_within node Restarted within = restart-within node (is_late node 0) within

pub new_within : (sites me pages : ℕ) → NumbersWithin 0 (new_node sites me pages).site
new_within sites me pages = opened-within 0 sites pages me

-- ---- recorded steps

again-heeds : (node : Node) (cause : Cause) (x : Heard) → heard_again node cause ≡ Some x → Heeds node x
again-heeds node (OfLine line) x e = line-heeds node line x e
again-heeds node OfRestart x e =
    subst (Heeds node) (some_is restarting x (unless-some (is_late node 0) (Some restarting) x e).1) (restart-heeds node)

made-within : (node : Node) (x : Heard) (next : Node) (same : Bool) → Heeds node x → Within node → cond same (Some (stepped node x)) None ≡ Some next → Within next
made-within node x next true is within e = subst Within (some_is (stepped node x) next e) (heard-good node x is within).site
made-within node x next false is within e = absurd (cc)

replay-within : (node : Node) (clock : ℕ) (o : Option Heard) (next : Node) → ((x : Heard) → o ≡ Some x → Heeds node x) → Within node
    → replayed_heard node clock o ≡ Some next → Within next
replay-within node clock None next is within e = absurd (cc)
replay-within node clock (Some x) next is within e = made-within node x next (next_clock node x.source == clock) (is x refl) within e

pub replayed_within : (node : Node) (clock : ℕ) (cause : Cause) (next : Node) → replayed node clock cause ≡ Some next
    → NumbersWithin node.clock node.site → NumbersWithin next.clock next.site
replayed_within node clock cause next e within = replay-within node clock (heard_again node cause) next (again-heeds node cause) within e

-- ---- what is sent

abbrev SentFits : Said → Type 0
SentFits said = All (λ e. numbers_fit said.clock e.message ≡ true) said.sent

line-sends : (node : Node) (line : stream.Line) (o : Option Heard) (said : Said) → heard node line ≡ o → Within node
    → option_map (λ h. says node (OfLine line) h (joins node h)) o ≡ Some said → SentFits said
line-sends node line None said e within made = absurd (cc)
line-sends node line (Some x) said e within made =
    subst SentFits (some_is (says node (OfLine line) x (joins node x)) said made) (heard-good node x (line-heeds node line x e) within).sent

read-sends : (node : Node) (read : Option stream.Line) (said : Said) → Within node → said_read node read ≡ Some said → SentFits said
read-sends node None said within made = absurd (cc)
read-sends node (Some line) said within made = line-sends node line (heard node line) said refl within made

again-sends : (node : Node) (p : Option ℕ) (said : Said) → Within node → option_map (says_at node) p ≡ Some said → SentFits said
again-sends node None said within made = absurd (cc)
again-sends node (Some at) said within made =
    subst SentFits (some_is (says_at node at) said made)
    (heard-good node (next_heard (ask_in node.waiting at)) (next-heeds node (ask_in node.waiting at)) within).sent

restart-sends : (node : Node) (late : Bool) (said : Said) → Within node → cond late None (Some (said_restart node)) ≡ Some said → SentFits said
restart-sends node true said within made = absurd (cc)
restart-sends node false said within made =
    subst SentFits (some_is (said_restart node) said made) (heard-good node restarting (restart-heeds node) within).sent

pub sent_fits : (node : Node) (event : Event) (said : Said) → said_at node event ≡ Some said → NumbersWithin node.clock node.site
    → All (λ e. numbers_fit said.clock e.message ≡ true) said.sent
sent_fits node (Line bytes) said made within = read-sends node (read_line bytes) said within made
sent_fits node TooLong said made within = absurd (cc)
sent_fits node Again said made within = again-sends node (ready node) said within made
sent_fits node Restarted said made within = restart-sends node (is_late node 0) said within made
