-- What a block is told with was loaded since it was asked for, by steps that its site's process made, under the tag that is told.
use Rattle.std.proofs.Common.{◌≡◌, ℕ, ◌+◌, ◌<◌, Bool, true, false, List, [], ◌∷◌, ◌++◌, Some, None, length, cond, refl, ap, sym, subst, ◌∙◌, arith}
use Rattle.std.specs.Prelude.{Option, nat_lt, option_map}
use Rattle.std.proofs.lemmas.Bool.Decides.{nat_tests}
use Rattle.std.proofs.lemmas.List.{length-append}
use Rattle.std.proofs.lemmas.List.Elements.{All-nil}
use Rattle.shm_model.specs.declared.answer.Answer.{Answer}
use Rattle.shm_model.specs.declared.answer.Answer.TheVariants.{Byte, Stored, Fault, Waiting, Began, Replied, Took, Dropped, Refused}
use Rattle.shm_wire.specs.Line as stream
use Rattle.shm_wire.specs.Line.{read_line}
use Rattle.shm_wire.specs.declared.caller_ask.Question.TheVariants as question
use Rattle.shm_process.specs.Blocks.{Block, whole_after, goes_on as block_goes_on}
use Rattle.shm_process.specs.Cause.{OfLine}
use Rattle.shm_process.specs.WaitingAsks.{Access, Reads, Writes, WaitingAsk, all_bytes, ask_in, goes_on, tag_of}
use Rattle.shm_process.specs.Node.{Node, Heard, Said, answer_to, heard, is_late, new_node, says, tag_told}
use Rattle.shm_process.specs.Recorded.{Event, Line, TooLong, Again, Restarted, after_events, said_at}
use Rattle.shm_process.specs.Waiting.{joins, next_heard, ready, said_read, said_restart, says_at}
use Rattle.shm_audit.specs.Loads.{IsLoadedBlock, MadeSince, loads, made_by}
use Rattle.shm_audit.proofs.Among.{loads-push}
use Rattle.shm_audit.proofs.LoadedBlocks.{HasLoaded, Holds, ask-loaded, events-hold, step_of}

some-is : {A : Type 0} (a b : A) → Some a ≡ Some b → a ≡ b
some-is a b h = cc

-- a block whose last byte this is has as many as were asked for
count-is : (n count : ℕ) → nat_lt (n + 1) count ≡ false → n < count → count ≡ n + 1
count-is n count last more = grind (arith, nat_tests)

told-by-byte : (me : ℕ) (first : Node) (events : List Event) (block : Block) (byte : ℕ) (asked caller : Option (List ℕ)) (bytes : List ℕ) (on : Bool)
    → HasLoaded me first events (Reads block) → nat_lt (length block.bytes + 1) block.count ≡ on → asked ≡ Some block.tag
    → cond on None (Some (block.bytes ++ byte ∷ [])) ≡ Some bytes
    → IsLoadedBlock me first events (tag_told on asked caller (Byte byte)) (step_of me (Reads block) (Byte byte)) bytes
told-by-byte me first events block byte asked caller bytes true h last tag e = absurd (cc)
told-by-byte me first events block byte asked caller bytes false h last tag e =
    let same : block.bytes ++ byte ∷ [] ≡ bytes = some-is (block.bytes ++ byte ∷ []) bytes e in
    let others = loads me block.tag block.at block.offset block.bytes in
    let count : block.count ≡ length bytes =
    count-is (length block.bytes) block.count last h.1 ∙ sym (length-append block.bytes (byte ∷ [])) ∙ ap length same in
    record {
      tag = block.tag;
      at = block.at;
      offset = block.offset;
      others = others;
      is_told = tag;
      loaded = sym (ap (loads me block.tag block.at block.offset) same) ∙ loads-push me block.tag block.at block.offset block.bytes byte;
      since = subst (λ n. MadeSince first events (stream.Ask (record { site = me; tag = block.tag; asked = question.Read block.at block.offset n })) others) count h.0;
    }

told-by-answer : (me : ℕ) (first : Node) (events : List Event) (block : Block) (answer : Answer) (asked caller : Option (List ℕ)) (bytes : List ℕ)
    → HasLoaded me first events (Reads block) → asked ≡ Some block.tag
    → whole_after block answer ≡ Some bytes
    → IsLoadedBlock me first events (tag_told (block_goes_on block answer) asked caller answer) (step_of me (Reads block) answer) bytes
told-by-answer me first events block (Byte byte) asked caller bytes h tag e =
    told-by-byte me first events block byte asked caller bytes (block_goes_on block (Byte byte)) h refl tag e
told-by-answer me first events block Stored asked caller bytes h tag e = absurd (cc)
told-by-answer me first events block Fault asked caller bytes h tag e = absurd (cc)
told-by-answer me first events block Waiting asked caller bytes h tag e = absurd (cc)
told-by-answer me first events block (Began number) asked caller bytes h tag e = absurd (cc)
told-by-answer me first events block (Replied number reply attachment) asked caller bytes h tag e = absurd (cc)
told-by-answer me first events block Took asked caller bytes h tag e = absurd (cc)
told-by-answer me first events block Dropped asked caller bytes h tag e = absurd (cc)
told-by-answer me first events block (Refused refusal) asked caller bytes h tag e = absurd (cc)

told-by-ask : (me : ℕ) (first : Node) (events : List Event) (ask : WaitingAsk) (answer : Answer) (caller : Option (List ℕ)) (bytes : List ℕ)
    → HasLoaded me first events ask → all_bytes ask answer ≡ Some bytes
    → IsLoadedBlock me first events (tag_told (goes_on ask answer) (Some (tag_of ask)) caller answer) (step_of me ask answer) bytes
told-by-ask me first events (Access tag asked) answer caller bytes has w = absurd (cc)
told-by-ask me first events (Reads block) answer caller bytes has w =
    told-by-answer me first events block answer (Some block.tag) caller bytes has refl w
told-by-ask me first events (Writes write) answer caller bytes has w = absurd (cc)

-- if a step is made, and told with a block, its bytes are what its loads were answered
abbrev SaysLoaded : ℕ → Node → List Event → Option Said → Type 0
SaysLoaded me first events None = Unit {0}
SaysLoaded me first events (Some said) = (bytes : List ℕ) → said.block ≡ Some bytes → IsLoadedBlock me first events said.tag (made_by said) bytes

told-by-line : (me : ℕ) (first : Node) (events : List Event) (node : Node) (line : stream.Line) (o : Option Heard)
    → SaysLoaded me first events (option_map (λ x. says node (OfLine line) x (joins node x)) o)
told-by-line me first events node line None = tt
told-by-line me first events node line (Some x) = λ bytes e. absurd (cc)

told-read : (me : ℕ) (first : Node) (events : List Event) (node : Node) (read : Option stream.Line) → SaysLoaded me first events (said_read node read)
told-read me first events node None = tt
told-read me first events node (Some line) = told-by-line me first events node line (heard node line)

told-again : (me : ℕ) (first : Node) (events : List Event) (node : Node) (p : Option ℕ) → Holds me first events node
    → SaysLoaded me first events (option_map (says_at node) p)
told-again me first events node None h = tt
told-again me first events node (Some at) h = λ bytes w.
    let ask = ask_in node.waiting at in
    let answer = answer_to node (next_heard ask) in
    subst (λ m. IsLoadedBlock me first events (tag_told (goes_on ask answer) (Some (tag_of ask)) node.caller answer) (step_of m ask answer) bytes) (sym h.own)
    (told-by-ask me first events ask answer node.caller bytes (ask-loaded me first events node.waiting at h.all) w)

told-restart : (me : ℕ) (first : Node) (events : List Event) (node : Node) (late : Bool) → SaysLoaded me first events (cond late None (Some (said_restart node)))
told-restart me first events node true = tt
told-restart me first events node false = λ bytes e. absurd (cc)

told-at : (me : ℕ) (first : Node) (events : List Event) (node : Node) (event : Event) → Holds me first events node → SaysLoaded me first events (said_at node event)
told-at me first events node (Line line) h = told-read me first events node (read_line line)
told-at me first events node TooLong h = tt
told-at me first events node Again h = told-again me first events node (ready node) h
told-at me first events node Restarted h = told-restart me first events node (is_late node 0)

-- what holds of any node of these events
pub all_hold : (sites me pages : ℕ) (events : List Event)
    → Holds me (new_node sites me pages) events (after_events (new_node sites me pages) events)
all_hold sites me pages events =
    let first = new_node sites me pages in
    let begun : Holds me first [] first = record { own = refl; here = refl; all = All-nil (HasLoaded me first []) } in
    events-hold me first [] events first begun

pub block_is_loaded : (sites me pages : ℕ) (events : List Event) (event : Event) (said : Said) (bytes : List ℕ)
    → said_at (after_events (new_node sites me pages) events) event ≡ Some said → said.block ≡ Some bytes
    → IsLoadedBlock me (new_node sites me pages) events said.tag (made_by said) bytes
block_is_loaded sites me pages events event said bytes told has =
    let first = new_node sites me pages in
    let now = after_events first events in
    let h : Holds me first events now = all_hold sites me pages events in
    let says_so : SaysLoaded me first events (Some said) = subst (SaysLoaded me first events) told (told-at me first events now event h) in
    says_so bytes has
