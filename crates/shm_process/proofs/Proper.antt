-- The asks that wait at a node are ones that its callers may make of it; so each entry of its steps has a line.
use Rattle.std.proofs.Common.{◌≡◌, ℕ, suc, ◌+◌, ◌<◌, ◌≤◌, ◌==◌, ◌||◌, Bool, true, false, List, [], ◌∷◌, ◌++◌, Option, Some, None, length, set, take, drop, max, cond, refl, sym, subst, ◌∙◌, arith}
use Rattle.std.specs.List.{All, position_from, remove}
use Rattle.std.specs.Prelude.{◌^◌, option_map}
use Rattle.std.specs.Option.{option_map_or}
use Rattle.std.proofs.lemmas.Bool.Decides.{nat_tests}
use Rattle.std.proofs.lemmas.List.{length-append}
use Rattle.std.proofs.lemmas.List.Elements.{All-nil, All-append, All-cons, All-drop, All-get_or, All-push, All-set, All-take}
use Rattle.shm_place.specs.Limits.{page_bytes}
use Rattle.shm_model.specs.Basics.{greatest}
use Rattle.shm_model.specs.Message.{Begin, Deliver, Tick}
use Rattle.shm_model.specs.Receipt.{access_of}
use Rattle.shm_model.specs.Step.{foreign}
use Rattle.shm_model.specs.declared.answer.Answer.{Answer}
use Rattle.shm_model.specs.declared.answer.Answer.TheVariants.{Byte, Stored, Fault, Waiting, Began, Replied, Took, Dropped, Refused}
use Rattle.shm_model.specs.declared.asked_access.Asked.TheVariants.{Load}
use Rattle.shm_lines.specs.Words.{IsWide}
use Rattle.shm_wire.proofs.LineWords.{line-is_spelled}
use Rattle.shm_wire.specs.Asks.{IsAsk, is_block}
use Rattle.shm_wire.specs.Line as stream
use Rattle.shm_wire.specs.Line.{IsLine, read_line}
use Rattle.shm_wire.specs.declared.caller_ask.Question.{Question}
use Rattle.shm_wire.specs.declared.caller_ask.Question.TheVariants as question
use Rattle.shm_wire.specs.Unmaps.{UnmapAsk}
use Rattle.shm_wire.specs.declared.mapping_text.Mapping.{Mapping}
use Rattle.shm_wire.specs.Writes.{WriteAsk, IsWrite}
use Rattle.shm_process.specs.Access.{access_ask}
use Rattle.shm_process.specs.Cause.{OfLine}
use Rattle.shm_process.specs.WaitingAsks.{Access, Reads, Writes, WaitingAsk, after_answer, ask_in, goes_on, waiting_after}
use Rattle.shm_process.specs.Node.{Node, Heard, Said, answer_to, asked_under, heard, input_asked, is_beyond, is_late, new_node, remapped_by, says, under_tag, waits_for}
use Rattle.shm_process.specs.Mapped.{byte_place, page_at}
use Rattle.shm_process.specs.Remaps.{first_load, is_empty, unmapped_to}
use Rattle.shm_process.specs.Recorded.{Entry, Event, Line, TooLong, Again, Restarted, IsEntry, entry_of, after_event, after_events, entries_of, recorded, said_at}
use Rattle.shm_process.specs.Waiting.{after_heard, after_read, after_restart, after_unheard, again_at, block_in, can_be_made, has_room, joining, joins, next_heard, next_line, ready, said_read, said_restart, says_at, unstored, with_ask}
use Rattle.shm_process.proofs.Tests.{below, some_is, unless-some}
use Rattle.shm_process.proofs.Totals.{Found, found_at}
use Rattle.shm_process.proofs.WriteLemmas.{goes-on, more-to-store}

-- an access, or the access of a block of which more is to be loaded or stored
abbrev pub IsProper : ℕ → WaitingAsk → Type 0
IsProper me (Access tag asked) = IsAsk (access_ask me tag asked)
IsProper me (Reads block) =
    IsAsk (record { site = me; tag = block.tag; asked = question.Read block.at block.offset block.count }) × (length block.bytes < block.count)
IsProper me (Writes w) = IsWrite (record { site = me; tag = w.tag; at = w.at; offset = w.offset; bytes = w.bytes }) × (w.stored < length w.bytes)

pub block-size : (offset count : ℕ) → is_block offset count ≡ true → count ≤ page_bytes
block-size offset count h = grind (arith, nat_tests)

block-some : (offset count : ℕ) → is_block offset count ≡ true → 0 < count
block-some offset count h = grind (arith, nat_tests)

block-end : (offset count here : ℕ) → is_block offset count ≡ true → here < count → offset + here < 2 ^ 32
block-end offset count here h more = grind (arith, nat_tests)

-- the line that asks for its next access alone
next-is : (me : ℕ) (ask : WaitingAsk) → IsProper me ask → IsLine (next_line me ask)
next-is me (Access tag asked) is = is
next-is me (Reads block) is = (is.0.0, is.0.1, (is.0.2.0, block-end block.offset block.count (length block.bytes) is.0.2.3 is.1))
next-is me (Writes w) is = (is.0.0, is.0.1, (is.0.2, block-end w.offset (length w.bytes) w.stored is.0.4 is.1, is.0.5 w.stored))

-- what waits, and the clock: no number is too large for a line
pub record Sound (node : Node) : Type 0 where
  pub clock : IsWide node.clock
  pub asks : All (IsProper node.me) node.waiting

-- ---- what becomes of an ask

answered-proper : (me : ℕ) (ask : WaitingAsk) (answer : Answer) → goes_on ask answer ≡ true → IsProper me ask → IsProper me (after_answer ask answer)
answered-proper me (Access tag asked) answer on is = is
answered-proper me (Reads block) (Byte byte) on is =
    let more : length block.bytes + 1 < block.count = below (length block.bytes + 1) block.count on in
    let one : length (block.bytes ++ byte ∷ []) ≡ length block.bytes + 1 = length-append block.bytes (byte ∷ []) in
    (is.0, omega (arith, more, one))
answered-proper me (Reads block) Stored on is = is
answered-proper me (Reads block) Fault on is = is
answered-proper me (Reads block) Waiting on is = is
answered-proper me (Reads block) (Began number) on is = is
answered-proper me (Reads block) (Replied number reply attachment) on is = is
answered-proper me (Reads block) Took on is = is
answered-proper me (Reads block) Dropped on is = is
answered-proper me (Reads block) (Refused refusal) on is = is
answered-proper me (Writes w) answer on is = (is.0, more-to-store w answer is.1 (goes-on w answer on))

cond-all : {X : Type 0} (P : X → Type 0) (b : Bool) (xs ys : List X) → (b ≡ true → All P xs) → All P ys → All P (cond b xs ys)
cond-all P true xs ys p q = p refl
cond-all P false xs ys p q = q

after-proper : (me : ℕ) (waiting : List WaitingAsk) (at : ℕ) (answer : Answer) → at < length waiting → All (IsProper me) waiting
    → All (IsProper me) (waiting_after waiting at answer)
after-proper me waiting at answer within proper =
    let ask = ask_in waiting at in
    let is : IsProper me ask = All-get_or (IsProper me) waiting at (Access [] (Load 0 0)) within proper in
    cond-all (IsProper me) (goes_on ask answer) (set waiting at (after_answer ask answer)) (remove waiting at)
    (λ on. All-set (IsProper me) waiting at (after_answer ask answer) (answered-proper me ask answer on is) proper)
    (All-append (IsProper me) (take at waiting) (drop (suc at) waiting) (All-take (IsProper me) at waiting proper) (All-drop (IsProper me) (suc at) waiting proper))

-- ---- clocks

later : (clock source : ℕ) → IsWide clock → IsWide source → (max clock source == greatest) ≡ false → IsWide (max clock source + 1)
later clock source a b h = grind (arith, nat_tests)

-- ---- a line

-- what it hands over: an ask that waits is proper, and there is a clock for the step
record IsHeard (node : Node) (x : Heard) : Type 0 where
  pub source : IsWide x.source
  pub early : is_late node x.source ≡ false
  pub waits : (ask : WaitingAsk) → x.waits ≡ Some ask → IsProper node.me ask

-- what never waits
idle : (lost late beyond : Bool) (node : Node) (made x : Heard) → IsWide made.source → is_late node made.source ≡ late → made.waits ≡ None
    → cond (lost || (late || beyond)) None (Some made) ≡ Some x → IsHeard node x
idle true late beyond node made x wide is none e = absurd (cc)
idle false true beyond node made x wide is none e = absurd (cc)
idle false false true node made x wide is none e = absurd (cc)
idle false false false node made x wide is none e =
    subst (IsHeard node) (some_is made x e)
    (record { source = wide; early = is; waits = λ ask w. absurd (let never : None ≡ Some ask = sym none ∙ w in cc) })

wide-zero : IsWide 0
wide-zero = omega arith

asks-here : (node : Node) (site : ℕ) (tag : List ℕ) (q : Question) (x : Heard) (here late : Bool) → (here ≡ true → site ≡ node.me) → is_late node 0 ≡ late
    → IsAsk (record { site = site; tag = tag; asked = q })
    → cond here (cond late None (option_map (asked_under tag (waits_for tag q) (remapped_by node q)) (input_asked q))) None ≡ Some x → IsHeard node x
asks-here node site tag q x false late own is h e = absurd (cc)
asks-here node site tag q x true true own is h e = absurd (cc)
asks-here node site tag (question.Access asked) x true false own is h e =
    subst (IsHeard node) (some_is (under_tag tag (Some (Access tag asked)) (access_of asked)) x e)
    (record {
      source = wide-zero;
      early = is;
      waits = λ ask w. subst (IsProper node.me) (some_is (Access tag asked) ask w) (subst (λ s. IsAsk (access_ask s tag asked)) (own refl) h);
    })
asks-here node site tag (question.Try asked) x true false own is h e = idle false false false node (under_tag tag None (access_of asked)) x wide-zero is refl e
asks-here node site tag (question.Begin request) x true false own is h e = idle false false false node (under_tag tag None (Begin request)) x wide-zero is refl e
asks-here node site tag question.Tick x true false own is h e = idle false false false node (under_tag tag None Tick) x wide-zero is refl e
asks-here node site tag (question.Read at offset count) x true false own is h e = absurd (cc)
asks-here node site tag (question.Show page) x true false own is h e = absurd (cc)
asks-here node site tag question.Health x true false own is h e = absurd (cc)
asks-here node site tag question.Mappings x true false own is h e = absurd (cc)
asks-here node site tag (question.Map at index kind) x true false own is h e =
    idle false false false node (asked_under tag None (remapped_by node (question.Map at index kind)) (first_load at index)) x wide-zero is refl e

unmaps-here : (node : Node) (unmap : UnmapAsk) (x : Heard) (mapped : Option (List Mapping)) (here late empty : Bool) → is_late node 0 ≡ late
    → cond here (cond late None (option_map (asked_under unmap.tag None mapped) (cond empty (Some (first_load unmap.at unmap.index)) None))) None ≡ Some x
    → IsHeard node x
unmaps-here node unmap x mapped false late empty is e = absurd (cc)
unmaps-here node unmap x mapped true true empty is e = absurd (cc)
unmaps-here node unmap x mapped true false false is e = absurd (cc)
unmaps-here node unmap x mapped true false true is e =
    idle false false false node (asked_under unmap.tag None mapped (first_load unmap.at unmap.index)) x wide-zero is refl e

same-site : (a b : ℕ) → (a == b) ≡ true → a ≡ b
same-site a b h = grind (arith, nat_tests)

line-heard : (node : Node) (line : stream.Line) (x : Heard) → IsLine line → heard node line ≡ Some x → IsHeard node x
line-heard node (stream.Envelope sent) x is e =
    idle (foreign node.sites node.me sent.envelope) (is_late node sent.source.at) (is_beyond node sent) node
    (record { input = Deliver sent.envelope; source = sent.source.at; tag = None; waits = None; mapped = None }) x is.2.0 refl refl e
line-heard node (stream.Write write) x is e = absurd (cc)
line-heard node (stream.Unmap unmap) x is e =
    unmaps-here node unmap x (unmapped_to node.mapped unmap.keeps (page_at node.site unmap.at (byte_place unmap.index 0))) (unmap.site == node.me)
    (is_late node 0) (is_empty unmap.runs) refl e
line-heard node (stream.Ask ask) x is e = asks-here node ask.site ask.tag ask.asked x (ask.site == node.me) (is_late node 0) (same-site ask.site node.me) refl is e

with-proper : (me : ℕ) (waiting : List WaitingAsk) (ask : Option WaitingAsk) (joins : Bool) → ((a : WaitingAsk) → ask ≡ Some a → IsProper me a)
    → All (IsProper me) waiting → All (IsProper me) (with_ask waiting ask joins)
with-proper me waiting None joins proper all = all
with-proper me waiting (Some ask) true proper all = All-push (IsProper me) waiting ask all (proper ask refl)
with-proper me waiting (Some ask) false proper all = all

blocks-here : (node : Node) (site : ℕ) (tag : List ℕ) (q : Question) (room here late : Bool) → (here ≡ true → site ≡ node.me)
    → IsAsk (record { site = site; tag = tag; asked = q }) → Sound node
    → Sound (after_unheard node (cond room (cond here (cond late None (block_in tag q)) None) None))
blocks-here node site tag q false here late own is sound = record { clock = sound.clock; asks = sound.asks }
blocks-here node site tag q true false late own is sound = record { clock = sound.clock; asks = sound.asks }
blocks-here node site tag q true true true own is sound = record { clock = sound.clock; asks = sound.asks }
blocks-here node site tag (question.Read at offset count) true true false own is sound = record {
  clock = sound.clock;
  asks = All-push (IsProper node.me) node.waiting (Reads (record { tag = tag; at = at; offset = offset; count = count; bytes = [] })) sound.asks
      (subst (λ s. IsAsk (record { site = s; tag = tag; asked = question.Read at offset count })) (own refl) is, block-some offset count is.2.3);
}
blocks-here node site tag (question.Access asked) true true false own is sound = record { clock = sound.clock; asks = sound.asks }
blocks-here node site tag (question.Try asked) true true false own is sound = record { clock = sound.clock; asks = sound.asks }
blocks-here node site tag (question.Begin request) true true false own is sound = record { clock = sound.clock; asks = sound.asks }
blocks-here node site tag question.Tick true true false own is sound = record { clock = sound.clock; asks = sound.asks }
blocks-here node site tag (question.Show page) true true false own is sound = record { clock = sound.clock; asks = sound.asks }
blocks-here node site tag question.Health true true false own is sound = record { clock = sound.clock; asks = sound.asks }
blocks-here node site tag question.Mappings true true false own is sound = record { clock = sound.clock; asks = sound.asks }
blocks-here node site tag (question.Map at index kind) true true false own is sound = record { clock = sound.clock; asks = sound.asks }

writes-here : (node : Node) (write : WriteAsk) (room here late : Bool) → (here ≡ true → write.site ≡ node.me) → IsWrite write → Sound node
    → Sound (after_unheard node (cond room (cond here (cond late None (Some (unstored write))) None) None))
writes-here node write false here late own is sound = record { clock = sound.clock; asks = sound.asks }
writes-here node write true false late own is sound = record { clock = sound.clock; asks = sound.asks }
writes-here node write true true true own is sound = record { clock = sound.clock; asks = sound.asks }
writes-here node write true true false own is sound = record {
  clock = sound.clock;
  asks = All-push (IsProper node.me) node.waiting (unstored write) sound.asks
      (subst (λ s. IsWrite (record write { site = s })) (own refl) is, block-some write.offset (length write.bytes) is.4);
}

unheard-sound : (node : Node) (line : stream.Line) → IsLine line → Sound node → Sound (after_unheard node (joining node line))
unheard-sound node (stream.Envelope sent) is sound = record { clock = sound.clock; asks = sound.asks }
unheard-sound node (stream.Unmap unmap) is sound = record { clock = sound.clock; asks = sound.asks }
unheard-sound node (stream.Write write) is sound =
    writes-here node write (has_room node) (write.site == node.me) (is_late node 0) (same-site write.site node.me) is sound
unheard-sound node (stream.Ask ask) is sound =
    blocks-here node ask.site ask.tag ask.asked (has_room node) (ask.site == node.me) (is_late node 0) (same-site ask.site node.me) is sound

line-sound : (node : Node) (line : stream.Line) (o : Option Heard) → heard node line ≡ o → IsLine line → Sound node
    → Sound (after_heard node (joining node line) o)
line-sound node line None e is sound = unheard-sound node line is sound
line-sound node line (Some x) e is sound =
    let h = line-heard node line x is e in
    record {
      clock = later node.clock x.source sound.clock h.source h.early;
      asks = with-proper node.me node.waiting x.waits (joins node x) h.waits sound.asks;
    }

read-sound : (node : Node) (bytes : List ℕ) (read : Option stream.Line) → read_line bytes ≡ read → Sound node → Sound (after_read node read)
read-sound node bytes None e sound = record { clock = sound.clock; asks = sound.asks }
read-sound node bytes (Some line) e sound = line-sound node line (heard node line) refl (line-is_spelled bytes line e).0 sound

-- ---- any event

-- the ask that is ready is one of those that wait
record IsReady (node : Node) (at : ℕ) : Type 0 where
  pub early : is_late node 0 ≡ false
  pub within : at < length node.waiting

ready-is : (node : Node) (at : ℕ) → ready node ≡ Some at → IsReady node at
ready-is node at is =
    let search = unless-some (is_late node 0) (position_from (can_be_made node) 0 node.waiting) at is in
    let f : Found (can_be_made node) node.waiting (Access [] (Load 0 0)) 0 at = found_at (can_be_made node) node.waiting (Access [] (Load 0 0)) 0 at search.1 in
    let from = f.is in
    let same : f.place ≡ at = omega (arith, from) in
    record { early = search.0; within = subst (λ i. i < length node.waiting) same f.within }

again-sound : (node : Node) (p : Option ℕ) → ready node ≡ p → Sound node → Sound (option_map_or (again_at node) p node)
again-sound node None is sound = sound
again-sound node (Some at) is sound =
    let r = ready-is node at is in
    record {
      clock = later node.clock 0 sound.clock wide-zero r.early;
      asks = after-proper node.me node.waiting at (answer_to node (next_heard (ask_in node.waiting at))) r.within sound.asks;
    }

restart-sound : (node : Node) (late : Bool) → is_late node 0 ≡ late → Sound node → Sound (cond late node (after_restart node))
restart-sound node true is sound = sound
restart-sound node false is sound = record { clock = later node.clock 0 sound.clock wide-zero is; asks = All-nil (IsProper node.me) }

pub event-sound : (node : Node) (event : Event) → Sound node → Sound (after_event node event)
event-sound node (Line bytes) sound = read-sound node bytes (read_line bytes) refl sound
event-sound node TooLong sound = record { clock = sound.clock; asks = sound.asks }
event-sound node Again sound = again-sound node (ready node) refl sound
event-sound node Restarted sound = restart-sound node (is_late node 0) refl sound

pub events-sound : (events : List Event) (node : Node) → Sound node → Sound (after_events node events)
events-sound [] node sound = sound
events-sound (event ∷ events) node sound = events-sound events (after_event node event) (event-sound node event sound)

pub new-sound : (sites me pages : ℕ) → Sound (new_node sites me pages)
new-sound sites me pages = record { clock = wide-zero; asks = All-nil (IsProper me) }

pub proper_asks : (sites me pages : ℕ) (events : List Event)
    → All (IsProper (after_events (new_node sites me pages) events).me) (after_events (new_node sites me pages) events).waiting
proper_asks sites me pages events = (events-sound events (new_node sites me pages) (new-sound sites me pages)).asks

-- ---- what is recorded

line-entry : (node : Node) (line : stream.Line) (o : Option Heard) (said : Said) → heard node line ≡ o → IsLine line → Sound node
    → option_map (λ h. says node (OfLine line) h (joins node h)) o ≡ Some said → IsEntry (entry_of said)
line-entry node line None said e is sound made = absurd (cc)
line-entry node line (Some x) said e is sound made =
    let h = line-heard node line x is e in
    subst (λ (s : Said). IsEntry (entry_of s)) (some_is (says node (OfLine line) x (joins node x)) said made)
    (later node.clock x.source sound.clock h.source h.early, is)

read-entry : (node : Node) (bytes : List ℕ) (read : Option stream.Line) (said : Said) → read_line bytes ≡ read → Sound node
    → said_read node read ≡ Some said → IsEntry (entry_of said)
read-entry node bytes None said e sound made = absurd (cc)
read-entry node bytes (Some line) said e sound made = line-entry node line (heard node line) said refl (line-is_spelled bytes line e).0 sound made

again-entry : (node : Node) (p : Option ℕ) (said : Said) → ready node ≡ p → Sound node → option_map (says_at node) p ≡ Some said → IsEntry (entry_of said)
again-entry node None said is sound made = absurd (cc)
again-entry node (Some at) said is sound made =
    let r = ready-is node at is in
    let proper : IsProper node.me (ask_in node.waiting at) = All-get_or (IsProper node.me) node.waiting at (Access [] (Load 0 0)) r.within sound.asks in
    subst (λ (s : Said). IsEntry (entry_of s)) (some_is (says_at node at) said made)
    (later node.clock 0 sound.clock wide-zero r.early, next-is node.me (ask_in node.waiting at) proper)

restart-entry : (node : Node) (late : Bool) (said : Said) → is_late node 0 ≡ late → Sound node → cond late None (Some (said_restart node)) ≡ Some said → IsEntry (entry_of said)
restart-entry node true said is sound made = absurd (cc)
restart-entry node false said is sound made =
    subst (λ (s : Said). IsEntry (entry_of s)) (some_is (said_restart node) said made) (later node.clock 0 sound.clock wide-zero is, tt)

pub event-entry : (node : Node) (event : Event) (said : Said) → Sound node → said_at node event ≡ Some said → IsEntry (entry_of said)
event-entry node (Line bytes) said sound made = read-entry node bytes (read_line bytes) said refl sound made
event-entry node TooLong said sound made = absurd (cc)
event-entry node Again said sound made = again-entry node (ready node) said refl sound made
event-entry node Restarted said sound made = restart-entry node (is_late node 0) said refl sound made

with-entry : (said : Option Said) (entries : List Entry) → ((s : Said) → said ≡ Some s → IsEntry (entry_of s)) → All IsEntry entries → All IsEntry (recorded said entries)
with-entry None entries is all = all
with-entry (Some said) entries is all = All-cons IsEntry (entry_of said) entries (is said refl) all

entries-are : (events : List Event) (node : Node) → Sound node → All IsEntry (entries_of node events)
entries-are [] node sound = All-nil IsEntry
entries-are (event ∷ events) node sound =
    with-entry (said_at node event) (entries_of (after_event node event) events) (λ said. event-entry node event said sound)
    (entries-are events (after_event node event) (event-sound node event sound))

pub entries_have_lines : (sites me pages : ℕ) (events : List Event) → All IsEntry (entries_of (new_node sites me pages) events)
entries_have_lines sites me pages events = entries-are events (new_node sites me pages) (new-sound sites me pages)
