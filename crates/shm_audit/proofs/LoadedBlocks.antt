-- What a block that waits has so far was loaded or stored since it was asked for, by steps that its site's process made.
use Rattle.std.proofs.Common.{◌≡◌, ◌⊎◌, inl, inr, ℕ, suc, ◌+◌, ◌<◌, ◌≤◌, ◌==◌, ◌||◌, Bool, true, false, List, [], ◌∷◌, ◌++◌, Some, None, length, set, take, drop, cond, refl, ap, sym, subst, ◌∙◌, append-nil, append_assoc, arith}
use Rattle.std.specs.Prelude.{Option, nat_lt, option_map}
use Rattle.std.specs.Option.{option_map_or}
use Rattle.std.specs.List.{All, remove}
use Rattle.std.proofs.lemmas.Bool.{cases_lt}
use Rattle.std.proofs.lemmas.Bool.Decides.{nat_tests}
use Rattle.std.proofs.lemmas.List.{get_or_past, length-append}
use Rattle.std.proofs.lemmas.List.Elements.{All-nil, All-append, All-drop, All-get_or, All-push, All-set, All-take, All-weaker}
use Rattle.shm_model.specs.declared.answer.Answer.{Answer}
use Rattle.shm_model.specs.declared.answer.Answer.TheVariants.{Byte, Stored, Fault, Waiting, Began, Replied, Took, Dropped, Refused}
use Rattle.shm_model.specs.declared.asked_access.Asked.TheVariants.{Load}
use Rattle.shm_model.specs.Message.{Input, Begin, Deliver, Tick}
use Rattle.shm_model.specs.Receipt.{access_of}
use Rattle.shm_model.specs.Step.{foreign}
use Rattle.shm_lines.proofs.StepLemmas.{lt-true}
use Rattle.shm_wire.proofs.LineWords.{line-is_spelled}
use Rattle.shm_wire.specs.Asks.{Ask, IsAsked, is_block}
use Rattle.shm_wire.specs.Line as stream
use Rattle.shm_wire.specs.Line.{read_line}
use Rattle.shm_wire.specs.declared.caller_ask.Question.{Question}
use Rattle.shm_wire.specs.declared.caller_ask.Question.TheVariants as question
use Rattle.shm_wire.specs.declared.mapping_text.Mapping.{Mapping}
use Rattle.shm_wire.specs.Writes.{WriteAsk, IsWrite}
use Rattle.shm_process.specs.Blocks.{Block}
use Rattle.shm_process.specs.Cause.{OfLine}
use Rattle.shm_process.specs.Writes.{Write}
use Rattle.shm_process.proofs.WriteLemmas.{GoesOn, goes-on}
use Rattle.shm_process.specs.WaitingAsks.{Access, Reads, Writes, WaitingAsk, after_answer, ask_in, goes_on, waiting_after}
use Rattle.shm_process.specs.Mapped.{byte_place, page_at}
use Rattle.shm_process.specs.Node.{Node, Heard, Said, answer_to, asked_under, heard, input_asked, is_beyond, is_late, remapped_by, waits_for}
use Rattle.shm_process.specs.Remaps.{first_load, is_empty, unmapped_to}
use Rattle.shm_process.specs.Recorded.{Event, Line, TooLong, Again, Restarted, after_event, after_events, said_at}
use Rattle.shm_process.specs.Waiting.{after_heard, after_read, after_restart, after_unheard, again_at, block_here, block_in, has_room, joining, joins, next_heard, next_line, ready, says_at, unstored, with_ask, write_here}
use Rattle.shm_audit.proofs.Among.{loads-push}
use Rattle.shm_audit.proofs.Since.{after-both, since-more, since-push}
use Rattle.shm_audit.proofs.StoredBytes.{stores-push}
use Rattle.shm_audit.specs.Loads.{MadeSince, Made, loads, made_by}
use Rattle.shm_audit.specs.Stores.{asked_write, stores}

-- ---- asks that wait

-- what a caller of this site asked for
abbrev pub ask_of : ℕ → Block → stream.Line
ask_of me block = stream.Ask (record { site = me; tag = block.tag; asked = question.Read block.at block.offset block.count })

-- the stores of what a block has stored so far
abbrev pub stored_of : ℕ → Write → List Made
stored_of me write = stores me write.tag write.at write.offset (take write.stored write.bytes)

-- what a block has so far was loaded or stored since it was asked for
abbrev pub HasLoaded : ℕ → Node → List Event → WaitingAsk → Type 0
HasLoaded me first events (Access tag asked) = Unit {0}
HasLoaded me first events (Reads block) =
    MadeSince first events (ask_of me block) (loads me block.tag block.at block.offset block.bytes) × (length block.bytes < block.count)
HasLoaded me first events (Writes write) =
    MadeSince first events (stream.Write (asked_write me write)) (stored_of me write) × (write.stored < length write.bytes)

abbrev AllLoaded : ℕ → Node → List Event → List WaitingAsk → Type 0
AllLoaded me first events waiting = All (HasLoaded me first events) waiting

loaded-more : (me : ℕ) (first : Node) (events : List Event) (event : Event) (ask : WaitingAsk) → HasLoaded me first events ask
    → HasLoaded me first (events ++ event ∷ []) ask
loaded-more me first events event (Access tag asked) h = tt
loaded-more me first events event (Reads block) h =
    (since-more first events event (ask_of me block) (loads me block.tag block.at block.offset block.bytes) h.0, h.1)
loaded-more me first events event (Writes write) h =
    (since-more first events event (stream.Write (asked_write me write)) (stored_of me write) h.0, h.1)

all-more : (me : ℕ) (first : Node) (events : List Event) (event : Event) (waiting : List WaitingAsk) → AllLoaded me first events waiting
    → AllLoaded me first (events ++ event ∷ []) waiting
all-more me first events event waiting h =
    All-weaker (HasLoaded me first events) (HasLoaded me first (events ++ event ∷ [])) (loaded-more me first events event) waiting h

pub ask-loaded : (me : ℕ) (first : Node) (events : List Event) (waiting : List WaitingAsk) (at : ℕ) → AllLoaded me first events waiting
    → HasLoaded me first events (ask_in waiting at)
ask-loaded me first events waiting at h = go (cases_lt at (length waiting))
  where
    go : (at < length waiting) ⊎ (length waiting ≤ at) → HasLoaded me first events (ask_in waiting at)
    go (inl lt) = All-get_or (HasLoaded me first events) waiting at (Access [] (Load 0 0)) lt h
    go (inr ge) = subst (HasLoaded me first events) (sym (get_or_past waiting at (Access [] (Load 0 0)) ge)) tt

-- ---- a step that is made of one of them

abbrev pub step_of : ℕ → WaitingAsk → Answer → Made
step_of me ask answer = record { cause = OfLine (next_line me ask); answer = answer }

-- this event makes this step
abbrev pub Makes : Node → List Event → Event → Made → Type 0
Makes first events event step = (said : Said) × (said_at (after_events first events) event ≡ Some said) × (made_by said ≡ step)

-- a block's next load
block-loads : (me : ℕ) (first : Node) (events : List Event) (event : Event) (block : Block) (byte : ℕ)
    → Makes first events event (step_of me (Reads block) (Byte byte)) → HasLoaded me first events (Reads block)
    → MadeSince first (events ++ event ∷ []) (ask_of me block) (loads me block.tag block.at block.offset (block.bytes ++ byte ∷ []))
block-loads me first events event block byte makes h =
    let others = loads me block.tag block.at block.offset block.bytes in
    subst (MadeSince first (events ++ event ∷ []) (ask_of me block))
    (ap (λ step. others ++ step ∷ []) makes.2 ∙ sym (loads-push me block.tag block.at block.offset block.bytes byte))
    (since-push first events event makes.0 (ask_of me block) others makes.1 h.0)

-- a block that goes on has more to load
more-to-load : (bytes : List ℕ) (byte count : ℕ) → nat_lt (length bytes + 1) count ≡ true → length (bytes ++ byte ∷ []) < count
more-to-load bytes byte count on = subst (λ n. n < count) (sym (length-append bytes (byte ∷ []))) (lt-true (length bytes + 1) count on)

-- a block's next store
pub block-stores : (me : ℕ) (first : Node) (events : List Event) (event : Event) (write : Write)
    → Makes first events event (step_of me (Writes write) Stored) → HasLoaded me first events (Writes write)
    → MadeSince first (events ++ event ∷ []) (stream.Write (asked_write me write)) (stored_of me (record write { stored = write.stored + 1 }))
block-stores me first events event write makes h =
    let others = stored_of me write in
    subst (MadeSince first (events ++ event ∷ []) (stream.Write (asked_write me write)))
    (ap (λ step. others ++ step ∷ []) makes.2 ∙ sym (stores-push me write.tag write.at write.offset write.bytes write.stored h.1))
    (since-push first events event makes.0 (stream.Write (asked_write me write)) others makes.1 h.0)

write-stored : (me : ℕ) (first : Node) (events : List Event) (event : Event) (write : Write) (answer : Answer)
    → Makes first events event (step_of me (Writes write) answer) → HasLoaded me first events (Writes write) → GoesOn write answer
    → HasLoaded me first (events ++ event ∷ []) (after_answer (Writes write) answer)
write-stored me first events event write answer makes h (inl on) =
    let made = subst (λ a. Makes first events event (step_of me (Writes write) a)) on.0 makes in
    subst (λ a. HasLoaded me first (events ++ event ∷ []) (after_answer (Writes write) a)) (sym on.0)
    (block-stores me first events event write made h, on.1)
write-stored me first events event write answer makes h (inr on) =
    subst (λ n. HasLoaded me first (events ++ event ∷ []) (Writes (record write { stored = n }))) (sym on.1)
    (loaded-more me first events event (Writes write) h)

after-loaded : (me : ℕ) (first : Node) (events : List Event) (event : Event) (ask : WaitingAsk) (answer : Answer) → Makes first events event (step_of me ask answer)
    → HasLoaded me first events ask → goes_on ask answer ≡ true → HasLoaded me first (events ++ event ∷ []) (after_answer ask answer)
after-loaded me first events event (Access tag asked) answer makes h on = tt
after-loaded me first events event (Reads block) (Byte byte) makes h on =
    (block-loads me first events event block byte makes h, more-to-load block.bytes byte block.count on)
after-loaded me first events event (Reads block) Stored makes h on = loaded-more me first events event (Reads block) h
after-loaded me first events event (Reads block) Fault makes h on = loaded-more me first events event (Reads block) h
after-loaded me first events event (Reads block) Waiting makes h on = loaded-more me first events event (Reads block) h
after-loaded me first events event (Reads block) (Began number) makes h on = loaded-more me first events event (Reads block) h
after-loaded me first events event (Reads block) (Replied number reply attachment) makes h on = loaded-more me first events event (Reads block) h
after-loaded me first events event (Reads block) Took makes h on = loaded-more me first events event (Reads block) h
after-loaded me first events event (Reads block) Dropped makes h on = loaded-more me first events event (Reads block) h
after-loaded me first events event (Reads block) (Refused refusal) makes h on = loaded-more me first events event (Reads block) h
after-loaded me first events event (Writes write) answer makes h on = write-stored me first events event write answer makes h (goes-on write answer on)

left-case : (me : ℕ) (first : Node) (events : List Event) (ask : WaitingAsk) (answer : Answer) (b : Bool) (xs ys : List WaitingAsk) → goes_on ask answer ≡ b
    → (goes_on ask answer ≡ true → AllLoaded me first events xs) → AllLoaded me first events ys → AllLoaded me first events (cond b xs ys)
left-case me first events ask answer true xs ys e p q = p e
left-case me first events ask answer false xs ys e p q = q

left-loaded : (me : ℕ) (first : Node) (events : List Event) (event : Event) (waiting : List WaitingAsk) (at : ℕ) (answer : Answer)
    → Makes first events event (step_of me (ask_in waiting at) answer) → AllLoaded me first events waiting
    → AllLoaded me first (events ++ event ∷ []) (waiting_after waiting at answer)
left-loaded me first events event waiting at answer makes h =
    let ask = ask_in waiting at in
    let now = events ++ event ∷ [] in
    let all : AllLoaded me first now waiting = all-more me first events event waiting h in
    left-case me first now ask answer (goes_on ask answer) (set waiting at (after_answer ask answer)) (remove waiting at) refl
    (λ on. All-set (HasLoaded me first now) waiting at (after_answer ask answer)
    (after-loaded me first events event ask answer makes (ask-loaded me first events waiting at h) on) all)
    (All-append (HasLoaded me first now) (take at waiting) (drop (suc at) waiting) (All-take (HasLoaded me first now) at waiting all)
    (All-drop (HasLoaded me first now) (suc at) waiting all))

-- ---- one event

-- what holds of the node after these events
pub record Holds (me : ℕ) (first : Node) (events : List Event) (node : Node) : Type 0 where
  pub own : node.me ≡ me
  pub here : node ≡ after_events first events
  pub all : AllLoaded me first events node.waiting

-- and after one more
record Goes (me : ℕ) (first : Node) (events : List Event) (event : Event) (next : Node) : Type 0 where
  pub own : next.me ≡ me
  pub all : AllLoaded me first (events ++ event ∷ []) next.waiting

goes-same : (me : ℕ) (first : Node) (events : List Event) (event : Event) (node next : Node) → next.me ≡ node.me → next.waiting ≡ node.waiting
    → Holds me first events node → Goes me first events event next
goes-same me first events event node next own waiting h = record {
  own = own ∙ h.own;
  all = subst (AllLoaded me first (events ++ event ∷ [])) (sym waiting) (all-more me first events event node.waiting h.all);
}

-- what the test of a block says
block-some : (offset count : ℕ) → is_block offset count ≡ true → 0 < count
block-some offset count h = grind (arith, nat_tests)

-- what is known of a line that asks
abbrev AsksBy : Node → List ℕ → ℕ → List ℕ → Question → Type 0
AsksBy node line site tag q = (has_room node ≡ true) × (read_line line ≡ Some (stream.Ask (record { site = site; tag = tag; asked = q }))) × IsAsked q

block-in : (me : ℕ) (first : Node) (events : List Event) (node : Node) (line : List ℕ) (here late : Bool) (site : ℕ) (tag : List ℕ) (q : Question)
    → Holds me first events node → (here ≡ true → site ≡ me) → AsksBy node line site tag q
    → Goes me first events (Line line) (after_unheard node (cond here (cond late None (block_in tag q)) None))
block-in me first events node line false late site tag q h own is = goes-same me first events (Line line) node (after_unheard node None) refl refl h
block-in me first events node line true true site tag q h own is = goes-same me first events (Line line) node (after_unheard node None) refl refl h
block-in me first events node line true false site tag (question.Read at offset count) h own is =
    let block : Block = record { tag = tag; at = at; offset = offset; count = count; bytes = [] } in
    let now = events ++ Line line ∷ [] in
    let asked : MadeSince first now (ask_of me block) [] = record {
      before = events;
      line = line;
      since = [];
      are = refl;
      room = subst (λ n. has_room n ≡ true) h.here is.0;
      asked = subst (λ s. read_line line ≡ Some (stream.Ask (record { site = s; tag = tag; asked = question.Read at offset count }))) (own refl) is.1;
      made = tt;
    } in
    record {
      own = h.own;
      all = All-push (HasLoaded me first now) node.waiting (Reads block) (all-more me first events (Line line) node.waiting h.all)
          (asked, block-some offset count is.2.3);
    }
block-in me first events node line true false site tag (question.Access asked) h own is = goes-same me first events (Line line) node (after_unheard node None) refl refl h
block-in me first events node line true false site tag (question.Try asked) h own is = goes-same me first events (Line line) node (after_unheard node None) refl refl h
block-in me first events node line true false site tag (question.Begin request) h own is = goes-same me first events (Line line) node (after_unheard node None) refl refl h
block-in me first events node line true false site tag question.Tick h own is = goes-same me first events (Line line) node (after_unheard node None) refl refl h
block-in me first events node line true false site tag (question.Show page) h own is = goes-same me first events (Line line) node (after_unheard node None) refl refl h
block-in me first events node line true false site tag question.Health h own is = goes-same me first events (Line line) node (after_unheard node None) refl refl h
block-in me first events node line true false site tag (question.Map at index kind) h own is = goes-same me first events (Line line) node (after_unheard node None) refl refl h
block-in me first events node line true false site tag question.Mappings h own is = goes-same me first events (Line line) node (after_unheard node None) refl refl h

site-is : (a b me : ℕ) → b ≡ me → (a == b) ≡ true → a ≡ me
site-is a b me own same = grind (arith, nat_tests)

ask-goes : (me : ℕ) (first : Node) (events : List Event) (node : Node) (line : List ℕ) (room : Bool) (ask : Ask) → Holds me first events node
    → has_room node ≡ room → read_line line ≡ Some (stream.Ask ask)
    → Goes me first events (Line line) (after_unheard node (cond room (block_here node ask) None))
ask-goes me first events node line false ask h room read = goes-same me first events (Line line) node (after_unheard node None) refl refl h
ask-goes me first events node line true ask h room read =
    block-in me first events node line (ask.site == node.me) (is_late node 0) ask.site ask.tag ask.asked h (site-is ask.site node.me me h.own)
    (room, read, (line-is_spelled line (stream.Ask ask) read).0.2)

-- what is known of a line that asks for bytes to be stored
abbrev AsksWrite : Node → List ℕ → WriteAsk → Type 0
AsksWrite node line write = (has_room node ≡ true) × (read_line line ≡ Some (stream.Write write)) × IsWrite write

write-in : (me : ℕ) (first : Node) (events : List Event) (node : Node) (line : List ℕ) (here late : Bool) (write : WriteAsk)
    → Holds me first events node → (here ≡ true → write.site ≡ me) → AsksWrite node line write
    → Goes me first events (Line line) (after_unheard node (cond here (cond late None (Some (unstored write))) None))
write-in me first events node line false late write h own is = goes-same me first events (Line line) node (after_unheard node None) refl refl h
write-in me first events node line true true write h own is = goes-same me first events (Line line) node (after_unheard node None) refl refl h
write-in me first events node line true false write h own is =
    let now = events ++ Line line ∷ [] in
    let asked : MadeSince first now (stream.Write (record write { site = me })) [] = record {
      before = events;
      line = line;
      since = [];
      are = refl;
      room = subst (λ n. has_room n ≡ true) h.here is.0;
      asked = subst (λ s. read_line line ≡ Some (stream.Write (record write { site = s }))) (own refl) is.1;
      made = tt;
    } in
    record {
      own = h.own;
      all = All-push (HasLoaded me first now) node.waiting (unstored write) (all-more me first events (Line line) node.waiting h.all)
          (asked, block-some write.offset (length write.bytes) is.2.4);
    }

write-goes : (me : ℕ) (first : Node) (events : List Event) (node : Node) (line : List ℕ) (room : Bool) (write : WriteAsk) → Holds me first events node
    → has_room node ≡ room → read_line line ≡ Some (stream.Write write)
    → Goes me first events (Line line) (after_unheard node (cond room (write_here node write) None))
write-goes me first events node line false write h room read = goes-same me first events (Line line) node (after_unheard node None) refl refl h
write-goes me first events node line true write h room read =
    write-in me first events node line (write.site == node.me) (is_late node 0) write h (site-is write.site node.me me h.own)
    (room, read, (line-is_spelled line (stream.Write write) read).0)

unheard-goes : (me : ℕ) (first : Node) (events : List Event) (node : Node) (line : List ℕ) (is : stream.Line) → Holds me first events node
    → read_line line ≡ Some is → Goes me first events (Line line) (after_unheard node (joining node is))
unheard-goes me first events node line (stream.Envelope sent) h read = goes-same me first events (Line line) node (after_unheard node None) refl refl h
unheard-goes me first events node line (stream.Write write) h read =
    write-goes me first events node line (has_room node) write h refl read
unheard-goes me first events node line (stream.Unmap unmap) h read = goes-same me first events (Line line) node (after_unheard node None) refl refl h
unheard-goes me first events node line (stream.Ask ask) h read = ask-goes me first events node line (has_room node) ask h refl read

-- what joins is an access
abbrev IsAccess : Option WaitingAsk → Type 0
IsAccess None = Unit {0}
IsAccess (Some (Access tag asked)) = Unit {0}
IsAccess (Some (Reads block)) = ⊥
IsAccess (Some (Writes write)) = ⊥

with-loaded : (me : ℕ) (first : Node) (events : List Event) (waiting : List WaitingAsk) (ask : Option WaitingAsk) (joins : Bool) → IsAccess ask
    → AllLoaded me first events waiting → AllLoaded me first events (with_ask waiting ask joins)
with-loaded me first events waiting None joins is h = h
with-loaded me first events waiting (Some (Access tag asked)) true is h = All-push (HasLoaded me first events) waiting (Access tag asked) h tt
with-loaded me first events waiting (Some (Access tag asked)) false is h = h
with-loaded me first events waiting (Some (Reads block)) joins is h = absurd is
with-loaded me first events waiting (Some (Writes write)) joins is h = absurd is

some-is : {A : Type 0} (a b : A) → Some a ≡ Some b → a ≡ b
some-is a b h = cc

made-access : (lost : Bool) (made x : Heard) → IsAccess made.waits → cond lost None (Some made) ≡ Some x → IsAccess x.waits
made-access true made x is e = absurd (cc)
made-access false made x is e = subst (λ (h : Heard). IsAccess h.waits) (some-is made x e) is

asked-access : (tag : List ℕ) (q : Question) (mapped : Option (List Mapping)) (x : Heard) (here late : Bool)
    → cond here (cond late None (option_map (asked_under tag (waits_for tag q) mapped) (input_asked q))) None ≡ Some x → IsAccess x.waits
asked-access tag q mapped x false late e = absurd (cc)
asked-access tag q mapped x true true e = absurd (cc)
asked-access tag (question.Access asked) mapped x true false e = made-access false (asked_under tag (Some (Access tag asked)) mapped (access_of asked)) x tt e
asked-access tag (question.Try asked) mapped x true false e = made-access false (asked_under tag None mapped (access_of asked)) x tt e
asked-access tag (question.Read at offset count) mapped x true false e = absurd (cc)
asked-access tag (question.Begin request) mapped x true false e = made-access false (asked_under tag None mapped (Begin request)) x tt e
asked-access tag question.Tick mapped x true false e = made-access false (asked_under tag None mapped Tick) x tt e
asked-access tag (question.Show page) mapped x true false e = absurd (cc)
asked-access tag question.Health mapped x true false e = absurd (cc)
asked-access tag (question.Map at index kind) mapped x true false e = made-access false (asked_under tag None mapped (first_load at index)) x tt e
asked-access tag question.Mappings mapped x true false e = absurd (cc)

-- nor does a page that is given up join
unmap-access : (tag : List ℕ) (input : Input) (mapped : Option (List Mapping)) (x : Heard) (here late empty : Bool)
    → cond here (cond late None (option_map (asked_under tag None mapped) (cond empty (Some input) None))) None ≡ Some x → IsAccess x.waits
unmap-access tag input mapped x false late empty e = absurd (cc)
unmap-access tag input mapped x true true empty e = absurd (cc)
unmap-access tag input mapped x true false false e = absurd (cc)
unmap-access tag input mapped x true false true e = made-access false (asked_under tag None mapped input) x tt e

heard-access : (node : Node) (is : stream.Line) (x : Heard) → heard node is ≡ Some x → IsAccess x.waits
heard-access node (stream.Envelope sent) x e =
    made-access (foreign node.sites node.me sent.envelope || (is_late node sent.source.at || is_beyond node sent))
    (record { input = Deliver sent.envelope; source = sent.source.at; tag = None; waits = None; mapped = None }) x tt e
heard-access node (stream.Write write) x e = absurd (cc)
heard-access node (stream.Ask ask) x e = asked-access ask.tag ask.asked (remapped_by node ask.asked) x (ask.site == node.me) (is_late node 0) e
heard-access node (stream.Unmap unmap) x e =
    unmap-access unmap.tag (first_load unmap.at unmap.index) (unmapped_to node.mapped unmap.keeps (page_at node.site unmap.at (byte_place unmap.index 0))) x
    (unmap.site == node.me) (is_late node 0) (is_empty unmap.runs) e

line-goes : (me : ℕ) (first : Node) (events : List Event) (node : Node) (line : List ℕ) (is : stream.Line) (o : Option Heard) → Holds me first events node
    → read_line line ≡ Some is → heard node is ≡ o → Goes me first events (Line line) (after_heard node (joining node is) o)
line-goes me first events node line is None h read e = unheard-goes me first events node line is h read
line-goes me first events node line is (Some x) h read e =
    let now = events ++ Line line ∷ [] in
    record {
      own = h.own;
      all = with-loaded me first now node.waiting x.waits (joins node x) (heard-access node is x e) (all-more me first events (Line line) node.waiting h.all);
    }

read-goes : (me : ℕ) (first : Node) (events : List Event) (node : Node) (line : List ℕ) (read : Option stream.Line) → Holds me first events node
    → read_line line ≡ read → Goes me first events (Line line) (after_read node read)
read-goes me first events node line None h e = goes-same me first events (Line line) node (after_unheard node None) refl refl h
read-goes me first events node line (Some is) h e = line-goes me first events node line is (heard node is) h e refl

again-goes : (me : ℕ) (first : Node) (events : List Event) (node : Node) (p : Option ℕ) → Holds me first events node → ready node ≡ p
    → Goes me first events Again (option_map_or (again_at node) p node)
again-goes me first events node None h e = goes-same me first events Again node node refl refl h
again-goes me first events node (Some at) h e =
    let ask = ask_in node.waiting at in
    let answer = answer_to node (next_heard ask) in
    let makes : Makes first events Again (step_of node.me ask answer) =
    (says_at node at, subst (λ n. said_at n Again ≡ Some (says_at node at)) h.here (ap (option_map (says_at node)) e), refl) in
    record {
      own = h.own;
      all = left-loaded me first events Again node.waiting at answer (subst (λ m. Makes first events Again (step_of m ask answer)) h.own makes) h.all;
    }

restart-goes : (me : ℕ) (first : Node) (events : List Event) (node : Node) (late : Bool) → Holds me first events node
    → Goes me first events Restarted (cond late node (after_restart node))
restart-goes me first events node true h = goes-same me first events Restarted node node refl refl h
restart-goes me first events node false h = record { own = h.own; all = All-nil (HasLoaded me first (events ++ Restarted ∷ [])) }

event-goes : (me : ℕ) (first : Node) (events : List Event) (node : Node) (event : Event) → Holds me first events node → Goes me first events event (after_event node event)
event-goes me first events node (Line line) h = read-goes me first events node line (read_line line) h refl
event-goes me first events node TooLong h = goes-same me first events TooLong node (after_event node TooLong) refl refl h
event-goes me first events node Again h = again-goes me first events node (ready node) h refl
event-goes me first events node Restarted h = restart-goes me first events node (is_late node 0) h

event-holds : (me : ℕ) (first : Node) (events : List Event) (node : Node) (event : Event) → Holds me first events node
    → Holds me first (events ++ event ∷ []) (after_event node event)
event-holds me first events node event h =
    let goes = event-goes me first events node event h in
    record {
      own = goes.own;
      here = ap (λ n. after_event n event) h.here ∙ sym (after-both events (event ∷ []) first);
      all = goes.all;
    }

-- ---- one event after another

pub events-hold : (me : ℕ) (first : Node) (done events : List Event) (node : Node) → Holds me first done node
    → Holds me first (done ++ events) (after_events node events)
events-hold me first done [] node h = subst (λ l. Holds me first l node) (sym (append-nil done)) h
events-hold me first done (event ∷ events) node h =
    subst (λ l. Holds me first l (after_events (after_event node event) events)) (append_assoc done (event ∷ []) events)
    (events-hold me first (done ++ event ∷ []) events (after_event node event) (event-holds me first done node event h))
