-- A node's clock never falls, and what it says has the clock that it then has. So no step that it said is later than those that it has.
use Rattle.std.proofs.Common.{◌≡◌, ℕ, ◌+◌, ◌==◌, ◌≤◌, not, nat_lt, ◌&&◌, Bool, true, false, List, [], ◌∷◌, Option, Some, None, max, cond, refl, ap, sym, ◌∙◌, arith}
use Rattle.std.specs.Prelude.{option_map}
use Rattle.std.specs.Option.{option_map_or}
use Rattle.std.proofs.lemmas.Bool.Decides.{nat_tests}
use Rattle.shm_wire.specs.Line as stream
use Rattle.shm_wire.specs.Line.{read_line}
use Rattle.shm_wire.specs.Sent.{Sent}
use Rattle.shm_process.specs.Cause.{OfLine}
use Rattle.shm_process.specs.Desk.{later_sent}
use Rattle.shm_process.specs.Node.{Node, Heard, Said, heard, is_beyond, is_late, says}
use Rattle.shm_process.specs.Recorded.{Event, Line, TooLong, Again, Restarted, after_event, after_events, said_at}
use Rattle.shm_process.specs.Waiting.{after_heard, after_read, after_restart, again_at, joining, joins, ready, said_read, said_restart, says_at}
use Rattle.shm_process.specs.WaitingAsks.{WaitingAsk}
use Rattle.shm_process.proofs.Tests.{some_is}

-- ---- what is said has the clock that the node then has

said-clock : (one said : Said) → Some one ≡ Some said → said.clock ≡ one.clock
said-clock one said e = sym (ap (λ (s : Said). s.clock) (some_is one said e))

line-tells : (node : Node) (line : stream.Line) (block : Option WaitingAsk) (o : Option Heard) (said : Said)
    → option_map (λ h. says node (OfLine line) h (joins node h)) o ≡ Some said → said.clock ≡ (after_heard node block o).clock
line-tells node line block None said e = absurd (cc)
line-tells node line block (Some x) said e = said-clock (says node (OfLine line) x (joins node x)) said e

read-tells : (node : Node) (read : Option stream.Line) (said : Said) → said_read node read ≡ Some said → said.clock ≡ (after_read node read).clock
read-tells node None said e = absurd (cc)
read-tells node (Some line) said e = line-tells node line (joining node line) (heard node line) said e

again-tells : (node : Node) (p : Option ℕ) (said : Said) → option_map (says_at node) p ≡ Some said → said.clock ≡ (option_map_or (again_at node) p node).clock
again-tells node None said e = absurd (cc)
again-tells node (Some at) said e = said-clock (says_at node at) said e

restart-tells : (node : Node) (late : Bool) (said : Said) → cond late None (Some (said_restart node)) ≡ Some said
    → said.clock ≡ (cond late node (after_restart node)).clock
restart-tells node true said e = absurd (cc)
restart-tells node false said e = said-clock (said_restart node) said e

event-tells : (node : Node) (event : Event) (said : Said) → said_at node event ≡ Some said → said.clock ≡ (after_event node event).clock
event-tells node (Line bytes) said e = read-tells node (read_line bytes) said e
event-tells node TooLong said e = absurd (cc)
event-tells node Again said e = again-tells node (ready node) said e
event-tells node Restarted said e = restart-tells node (is_late node 0) said e

-- ---- the clock never falls

abbrev Rises : Node → Node → Type 0
Rises node next = node.clock ≤ next.clock

stays : (clock : ℕ) → clock ≤ clock
stays clock = omega arith

rises : (clock source : ℕ) → clock ≤ max clock source + 1
rises clock source = grind (arith, nat_tests)

heard-rises : (node : Node) (block : Option WaitingAsk) (o : Option Heard) → Rises node (after_heard node block o)
heard-rises node None None = stays node.clock
heard-rises node (Some block) None = stays node.clock
heard-rises node block (Some x) = rises node.clock x.source

read-rises : (node : Node) (read : Option stream.Line) → Rises node (after_read node read)
read-rises node None = stays node.clock
read-rises node (Some line) = heard-rises node (joining node line) (heard node line)

again-rises : (node : Node) (p : Option ℕ) → Rises node (option_map_or (again_at node) p node)
again-rises node None = stays node.clock
again-rises node (Some at) = rises node.clock 0

restart-rises : (node : Node) (late : Bool) → Rises node (cond late node (after_restart node))
restart-rises node true = stays node.clock
restart-rises node false = rises node.clock 0

event-rises : (node : Node) (event : Event) → Rises node (after_event node event)
event-rises node (Line bytes) = read-rises node (read_line bytes)
event-rises node TooLong = stays node.clock
event-rises node Again = again-rises node (ready node)
event-rises node Restarted = restart-rises node (is_late node 0)

higher : (a b c : ℕ) → a ≤ b → b ≤ c → a ≤ c
higher a b c f g = omega (arith, f, g)

events-rise : (events : List Event) (node : Node) → Rises node (after_events node events)
events-rise [] node = stays node.clock
events-rise (event ∷ events) node =
    let next = after_event node event in
    higher node.clock next.clock (after_events next events).clock (event-rises node event) (events-rise events next)

-- ---- so none is later

not-below : (clock at : ℕ) → at ≤ clock → nat_lt clock at ≡ false
not-below clock at h = grind (arith, nat_tests)

none-later : (own near : Bool) (clock at : ℕ) → at ≤ clock → cond (own && (nat_lt clock at && near)) (Some at) None ≡ None
none-later false near clock at h = refl
none-later true near clock at h = ap (λ b. cond (b && near) (Some at) None) (not-below clock at h)

reached : (at told now clock : ℕ) → at ≡ told → told ≡ now → now ≤ clock → at ≤ clock
reached at told now clock a b h = omega (arith, a, b, h)

pub told_never_later : (node : Node) (event : Event) (said : Said) (events : List Event) (sent : Sent) → said_at node event ≡ Some said
    → sent.source.at ≡ said.clock → later_sent (after_events (after_event node event) events) sent ≡ None
told_never_later node event said events sent made at =
    let next = after_event node event in
    let now = after_events next events in
    none-later (sent.envelope.from == now.me) (not (is_beyond now sent)) now.clock sent.source.at
    (reached sent.source.at said.clock next.clock now.clock at (event-tells node event said made) (events-rise events next))
