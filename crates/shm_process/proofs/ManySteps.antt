-- The steps that an entry records are made again one after another, each under the clock after the one before.
use Rattle.std.proofs.Common.{◌≡◌, ℕ, ◌+◌, ◌==◌, ◌||◌, Bool, true, false, List, [], ◌∷◌, Option, Some, None, cond, refl, ap, sym, subst, ◌∙◌, max, arith}
use Rattle.std.specs.Prelude.{IfSome, SomeIff, is_some, option_and_then, option_map, unwrap_or, ◌<◌, ◌≤◌, ◌^◌}
use Rattle.std.proofs.lemmas.Bool.Decides.{nat_tests}
use Rattle.shm_model.specs.Basics.{greatest}
use Rattle.shm_model.specs.Message.{Input, Deliver}
use Rattle.shm_model.specs.Step.{foreign}
use Rattle.shm_wire.specs.Line as stream
use Rattle.shm_wire.specs.declared.mapping_text.Mapping.{Mapping}
use Rattle.shm_process.specs.Cause.{Cause, OfLine, OfRestart}
use Rattle.shm_process.specs.Mapped.{byte_place, page_at}
use Rattle.shm_process.specs.Node.{Node, Heard, asked_under, input_asked, is_beyond, is_late, remapped_by, stepped, unmap_input, waits_for}
use Rattle.shm_process.specs.Recorded.{entries_from, replayed_all}
use Rattle.shm_process.specs.Remaps.{unmapped_to}
use Rattle.shm_process.specs.Waiting.{heard_again, replayed, replayed_heard, restarting}
use Rattle.shm_process.specs.WaitingAsks.{WaitingAsk}

-- ---- no step has a clock above the greatest

-- a step is heard under a clock that there is
abbrev IsEarly : Node → Heard → Type 0
IsEarly node x = is_late node x.source ≡ false

sent-early : (node : Node) (source : ℕ) (input : Input) (lost late beyond : Bool) → is_late node source ≡ late
    → IfSome (cond (lost || (late || beyond)) None (Some (record { input = input; source = source; tag = None; waits = None; mapped = None }))) (IsEarly node)
sent-early node source input true late beyond is = tt
sent-early node source input false true beyond is = tt
sent-early node source input false false true is = tt
sent-early node source input false false false is = is

asked-early : (node : Node) (tag : List ℕ) (waits : Option WaitingAsk) (mapped : Option (List Mapping)) (o : Option Input) (here late : Bool)
    → is_late node 0 ≡ late → IfSome (cond here (cond late None (option_map (asked_under tag waits mapped) o)) None) (IsEarly node)
asked-early node tag waits mapped o false late is = tt
asked-early node tag waits mapped o true true is = tt
asked-early node tag waits mapped None true false is = tt
asked-early node tag waits mapped (Some input) true false is = is

restart-early : (node : Node) (late : Bool) → is_late node 0 ≡ late → IfSome (cond late None (Some restarting)) (IsEarly node)
restart-early node true is = tt
restart-early node false is = is

heard-early : (node : Node) (cause : Cause) → IfSome (heard_again node cause) (IsEarly node)
heard-early node (OfLine (stream.Envelope sent)) =
    sent-early node sent.source.at (Deliver sent.envelope) (foreign node.sites node.me sent.envelope) (is_late node sent.source.at) (is_beyond node sent) refl
heard-early node (OfLine (stream.Ask ask)) =
    asked-early node ask.tag (waits_for ask.tag ask.asked) (remapped_by node ask.asked) (input_asked ask.asked) (ask.site == node.me) (is_late node 0) refl
heard-early node (OfLine (stream.Write write)) = tt
heard-early node (OfLine (stream.Unmap unmap)) =
    asked-early node unmap.tag None (unmapped_to node.mapped unmap.keeps (page_at node.site unmap.at (byte_place unmap.index 0))) (unmap_input unmap)
    (unmap.site == node.me) (is_late node 0) refl
heard-early node OfRestart = restart-early node (is_late node 0) refl

not-next : (clock source : ℕ) → (max clock source == greatest) ≡ false → (max clock source + 1 == greatest + 1) ≡ false
not-next clock source h = grind (arith, nat_tests)

none-replayed : (node : Node) (o : Option Heard) → IfSome o (IsEarly node) → replayed_heard node (greatest + 1) o ≡ None
none-replayed node None early = refl
none-replayed node (Some x) early = ap (λ b. cond b (Some (stepped node x)) None) (not-next node.clock x.source early)

too-late : (node : Node) (cause : Cause) → replayed node (greatest + 1) cause ≡ None
too-late node cause = none-replayed node (heard_again node cause) (heard-early node cause)

-- ---- one step after another

-- the clock of the next step: above the greatest, where there is none
abbrev pub clock_of : Option ℕ → ℕ
clock_of next = unwrap_or next (greatest + 1)

abbrev pub IsClock : Option ℕ → Type 0
IsClock next = IfSome next (λ clock. clock ≤ greatest)

-- the clock after it
pub later_clock : (clock : ℕ) (next : Option ℕ) → clock ≤ greatest → SomeIff next (clock + 1 < 2 ^ 64) (clock + 1) → clock_of next ≡ clock + 1
later_clock clock None within last = omega (arith, last)
later_clock clock (Some later) within more = more.1

later-is : (clock : ℕ) (next : Option ℕ) → SomeIff next (clock + 1 < 2 ^ 64) (clock + 1) → IsClock next
later-is clock None last = tt
later-is clock (Some later) more = omega (arith, more.0, more.1)

pub is_clock : (now : Option ℕ) (clock : ℕ) → now ≡ Some clock → IsClock now → clock ≤ greatest
is_clock now clock is within = subst IsClock is within

abbrev pub leads : Node → ℕ → List Cause → Option Node
leads node clock causes = replayed_all node (entries_from clock causes)

-- the first of these steps, and those behind it
step-first : (node : Node) (clock : ℕ) (left rest : List Cause) (cause : Cause) → left ≡ cause ∷ rest
    → leads node clock left ≡ option_and_then (λ next. leads next (clock + 1) rest) (replayed node clock cause)
unfolding entries_from
step-first node clock left rest cause e = ap (leads node clock) e

made-is : (o : Option Node) (node next : Node) (made : Bool) → made ≡ is_some o → made ≡ true → next ≡ unwrap_or o node → o ≡ Some next
made-is None node next made is did e = absurd (cc)
made-is (Some n) node next made is did e = ap Some (sym e)

-- a step is made
pub one_made : (node next : Node) (now later : Option ℕ) (clock : ℕ) (left rest : List Cause) (cause : Cause) (made : Bool) (all : Option Node)
    → left ≡ cause ∷ rest → now ≡ Some clock → IsClock now → SomeIff later (clock + 1 < 2 ^ 64) (clock + 1)
    → made ≡ is_some (replayed node clock cause) → made ≡ true → next ≡ unwrap_or (replayed node clock cause) node
    → leads node (clock_of now) left ≡ all → IsClock later × (leads next (clock_of later) rest ≡ all)
one_made node next now later clock left rest cause made all e is within more tells did after h = (
  later-is clock later more,
  ap (λ c. leads next c rest) (later_clock clock later (is_clock now clock is within) more)
      ∙ sym (ap (option_and_then (λ n. leads n (clock + 1) rest)) (made-is (replayed node clock cause) node next made tells did after))
      ∙ sym (step-first node clock left rest cause e)
      ∙ sym (ap (λ c. leads node (clock_of c) left) is)
      ∙ h,
)

-- none is
no-more : (node : Node) (clock : ℕ) (left rest : List Cause) (cause : Cause) (all : Option Node) → left ≡ cause ∷ rest
    → replayed node clock cause ≡ None → leads node clock left ≡ all → all ≡ None
no-more node clock left rest cause all e none h =
    sym h ∙ step-first node clock left rest cause e ∙ ap (option_and_then (λ n. leads n (clock + 1) rest)) none

not-made : (o : Option Node) (made : Bool) → made ≡ is_some o → made ≡ false → o ≡ None
not-made None made is failed = refl
not-made (Some n) made is failed = absurd (cc)

pub none_made : (node : Node) (now : Option ℕ) (clock : ℕ) (left rest : List Cause) (cause : Cause) (made : Bool) (all : Option Node) → left ≡ cause ∷ rest
    → now ≡ Some clock → made ≡ is_some (replayed node clock cause) → made ≡ false → leads node (clock_of now) left ≡ all → false ≡ is_some all
none_made node now clock left rest cause made all e is tells failed h =
    sym (ap is_some (no-more node clock left rest cause all e (not-made (replayed node clock cause) made tells failed)
    (sym (ap (λ c. leads node (clock_of c) left) is) ∙ h)))

pub none_later : (node : Node) (next : Option ℕ) (left rest : List Cause) (cause : Cause) (all : Option Node) → left ≡ cause ∷ rest → next ≡ None
    → leads node (clock_of next) left ≡ all → false ≡ is_some all
none_later node next left rest cause all e none h =
    sym (ap is_some (no-more node (greatest + 1) left rest cause all e (too-late node cause) (sym (ap (λ c. leads node (clock_of c) left) none) ∙ h)))

-- all are
pub all_made : (node : Node) (clock : ℕ) (left : List Cause) (all : Option Node) → left ≡ [] → leads node clock left ≡ all → Some node ≡ all
unfolding entries_from
all_made node clock left all e h = sym (ap (leads node clock) e) ∙ h
