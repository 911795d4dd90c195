-- After a line so many steps are enough: each that an ask makes leaves it fewer, and no other ask more.
use Rattle.std.proofs.Common.{◌≡◌, ℕ, zero, suc, ◌+◌, ◌-◌, ◌*◌, ◌<◌, ◌≤◌, ◌||◌, not, Bool, true, false, List, [], ◌∷◌, ◌++◌, Option, Some, None, length, set, get_or, cond, nat_lt, refl, ap, sym, subst, ◌∙◌, arith}
use Rattle.std.specs.List.{position_from, remove}
use Rattle.std.specs.Prelude.{is_some, option_and_then, option_map}
use Rattle.std.specs.Option.{option_map_or}
use Rattle.std.proofs.lemmas.List.{length-append}
use Rattle.shm_place.specs.Limits.{page_bytes}
use Rattle.shm_model.specs.declared.answer.Answer.{Answer}
use Rattle.shm_model.specs.declared.answer.Answer.TheVariants.{Byte, Stored, Fault, Waiting, Began, Replied, Took, Dropped, Refused}
use Rattle.shm_model.specs.declared.asked_access.Asked.{Asked}
use Rattle.shm_model.specs.declared.asked_access.Asked.TheVariants.{Load, Store}
use Rattle.shm_model.specs.Access.{right}
use Rattle.shm_model.specs.Receipt.{access_of}
use Rattle.shm_model.specs.Site.{Site}
use Rattle.shm_model.specs.Step.{step}
use Rattle.shm_parts.specs.Reached.{page_reached}
use Rattle.shm_wire.specs.declared.mapping_text.Mapping.{Mapping}
use Rattle.shm_process.specs.Access.{is_access, is_waiting}
use Rattle.shm_process.specs.Blocks.{Block}
use Rattle.shm_process.specs.Desk.{Desk, all_made, made_again as desk_made_again, settled}
use Rattle.shm_process.proofs.RowRuns.{closed-node, made_again-node}
use Rattle.shm_process.specs.WaitingAsks.{Access, Reads, Writes, WaitingAsk, after_answer, ask_in, goes_on, next_access}
use Rattle.shm_process.specs.Node.{Node, Heard, Said, answer_to, is_late, new_node}
use Rattle.shm_process.specs.Mapped.{mapped_at, passed_by, passing}
use Rattle.shm_process.specs.Recorded.{Event, after_events}
use Rattle.shm_process.specs.Writes.{Write}
use Rattle.shm_process.specs.Waiting.{after_again, again_at, can_be_made, is_held, most_steps, most_waiting, next_heard, ready, said_again, says_at}
use Rattle.shm_process.proofs.Few.{few_wait}
use Rattle.shm_process.proofs.Lasting.{access_keeps, is_fault, lasts, waits_next}
use Rattle.shm_process.proofs.Proper.{IsProper, block-size, proper_asks}
use Rattle.shm_process.proofs.Tests.{below, unless-some}
use Rattle.shm_process.proofs.Totals.{Found, found_at, total, total-most, total-remove, total-set}

-- ---- what is left to be made

-- how many steps an ask can still make
abbrev weight : WaitingAsk → ℕ
weight (Access tag asked) = 1
weight (Reads block) = (block.count - (length block.bytes + 1)) + 1
weight (Writes w) = (length w.bytes - (w.stored + 1)) + 1

some-weight : (ask : WaitingAsk) → 0 < weight ask
some-weight (Access tag asked) = omega arith
some-weight (Reads block) = omega arith
some-weight (Writes w) = omega arith

-- none, as long as it only waits
abbrev left : Node → WaitingAsk → ℕ
left node ask = cond (can_be_made node ask) (weight ask) 0

abbrev pub all_left : Node → ℕ
all_left node = total (left node) node.waiting

left-most : (b : Bool) (w : ℕ) → cond b w 0 ≤ w
left-most true w = omega arith
left-most false w = omega arith

left-all : (b : Bool) (w : ℕ) → b ≡ true → cond b w 0 ≡ w
left-all true w h = refl
left-all false w h = absurd (cc)

left-none : (b : Bool) (w : ℕ) → b ≡ false → cond b w 0 ≡ 0
left-none true w h = absurd (cc)
left-none false w h = refl

left-less : (old new : Bool) (w : ℕ) → (new ≡ true → old ≡ true) → cond new w 0 ≤ cond old w 0
left-less true new w h = left-most new w
left-less false true w h = absurd (let e = h refl in cc)
left-less false false w h = omega arith

-- ---- a node after others of its steps

-- what waits there waits on
pub record Later (old new : Node) : Type 0 where
  pub waits : (x : Heard) → is_access x.input ≡ true → is_waiting (answer_to old x) ≡ true → is_waiting (answer_to new x) ≡ true
  pub held : (asked : Asked) → passing new.mapped new.site asked ≡ passing old.mapped old.site asked

pub access-of : (asked : Asked) → is_access (access_of asked) ≡ true
access-of (Load at offset) = refl
access-of (Store at offset byte) = refl

not-yes : (a b : Bool) → (b ≡ true → a ≡ true) → not a ≡ true → not b ≡ true
not-yes a true more h = absurd (let e = more refl in cc)
not-yes a false more h = refl

either-yes : (h k a b : Bool) → k ≡ h → (b ≡ true → a ≡ true) → not (k || a) ≡ true → not (h || b) ≡ true
either-yes h true a b same more e = absurd (cc)
either-yes true false a b same more e = absurd (cc)
either-yes false false a b same more e = not-yes a b more e

left-later : (old new : Node) → Later old new → (ask : WaitingAsk) → left new ask ≤ left old ask
left-later old new later ask =
    left-less (can_be_made old ask) (can_be_made new ask) (weight ask)
    (either-yes (is_held old ask) (is_held new ask) (is_waiting (answer_to new (next_heard ask))) (is_waiting (answer_to old (next_heard ask)))
    (ap is_some (later.held (next_access ask))) (later.waits (next_heard ask) (access-of (next_access ask))))

-- what is passed by hangs on the attachments alone
held-same : (mapped : List Mapping) (old new : Site) (asked : Asked) → new.attachments ≡ old.attachments → passing mapped new asked ≡ passing mapped old asked
held-same mapped old new (Load at offset) e = ap (λ a. passed_by false (option_and_then (λ p. mapped_at p mapped) (page_reached (right a at offset false)))) e
held-same mapped old new (Store at offset byte) e = ap (λ a. passed_by true (option_and_then (λ p. mapped_at p mapped) (page_reached (right a at offset false)))) e

or-waits : (h w : Bool) → w ≡ true → not (h || w) ≡ false
or-waits true w e = refl
or-waits false w e = ap not e

or-not : (h w : Bool) → not (h || w) ≡ true → not w ≡ true
or-not true w e = absurd (cc)
or-not false w e = e

-- ---- one step

-- the node after a step of the ask at this place
module _ (node : Node) (at : ℕ) (can : can_be_made node (ask_in node.waiting at) ≡ true) where
  abbrev x : Heard
  x = next_heard (ask_in node.waiting at)

  access-is : is_access x.input ≡ true
  access-is = access-of (next_access (ask_in node.waiting at))

  step-later : Later node (again_at node at)
  step-later = record {
    waits = λ y is h. lasts node.sites node.me node.site x.input y.input access-is is h;
    held = λ asked. held-same node.mapped node.site (step node.sites node.me node.site x.input).site asked
        (access_keeps node.sites node.me node.site x.input access-is).attachments;
  }

  -- who faults waits
  fault-left : (ask : WaitingAsk) → next_heard ask ≡ x → is_fault (answer_to node x) ≡ true → left (again_at node at) ask ≡ 0
  fault-left ask same fault =
      left-none (can_be_made (again_at node at) ask) (weight ask)
      (or-waits (is_held (again_at node at) ask) (is_waiting (answer_to (again_at node at) (next_heard ask)))
      (ap (λ h. is_waiting (answer_to (again_at node at) h)) same ∙ waits_next node.sites node.me node.site x.input access-is fault))

  fault-less : (ask : WaitingAsk) → next_heard ask ≡ x → is_fault (answer_to node x) ≡ true → left (again_at node at) ask < weight ask
  fault-less ask same fault = subst (λ n. n < weight ask) (sym (fault-left ask same fault)) (some-weight ask)

  waits-not : (answer : Answer) → answer_to node x ≡ answer → not (is_waiting answer) ≡ true
  waits-not answer is = ap (λ a. not (is_waiting a)) (sym is) ∙ or-not (is_held node (ask_in node.waiting at)) (is_waiting (answer_to node x)) can

  -- a byte more is loaded
  byte-less : (block : Block) (byte : ℕ) → nat_lt (length block.bytes + 1) block.count ≡ true
      → left (again_at node at) (after_answer (Reads block) (Byte byte)) < weight (Reads block)
  byte-less block byte on =
      let next = Reads (record block { bytes = block.bytes ++ byte ∷ [] }) in
      let most : left (again_at node at) next ≤ (block.count - (length (block.bytes ++ byte ∷ []) + 1)) + 1 =
      left-most (can_be_made (again_at node at) next) (weight next) in
      let more : length (block.bytes ++ byte ∷ []) ≡ length block.bytes + 1 = length-append block.bytes (byte ∷ []) in
      let room : length block.bytes + 1 < block.count = below (length block.bytes + 1) block.count on in
      omega (arith, most, more, room)

  -- a byte more is stored
  stored-less : (w : Write) → nat_lt (w.stored + 1) (length w.bytes) ≡ true → left (again_at node at) (after_answer (Writes w) Stored) < weight (Writes w)
  stored-less w on =
      let next = Writes (record w { stored = w.stored + 1 }) in
      let most : left (again_at node at) next ≤ (length w.bytes - ((w.stored + 1) + 1)) + 1 =
      left-most (can_be_made (again_at node at) next) (weight next) in
      let room : w.stored + 1 < length w.bytes = below (w.stored + 1) (length w.bytes) on in
      omega (arith, most, room)

  own-less : (ask : WaitingAsk) (answer : Answer) → next_heard ask ≡ x → answer_to node x ≡ answer → goes_on ask answer ≡ true
      → left (again_at node at) (after_answer ask answer) < weight ask
  own-less (Access tag asked) (Byte byte) same is on = absurd (cc)
  own-less (Access tag asked) Stored same is on = absurd (cc)
  own-less (Access tag asked) Fault same is on = fault-less (Access tag asked) same (ap is_fault is)
  own-less (Access tag asked) Waiting same is on = absurd (let no_wait = waits-not Waiting is in cc)
  own-less (Access tag asked) (Began number) same is on = absurd (cc)
  own-less (Access tag asked) (Replied number reply attachment) same is on = absurd (cc)
  own-less (Access tag asked) Took same is on = absurd (cc)
  own-less (Access tag asked) Dropped same is on = absurd (cc)
  own-less (Access tag asked) (Refused refusal) same is on = absurd (cc)
  own-less (Reads block) (Byte byte) same is on = byte-less block byte on
  own-less (Reads block) Stored same is on = absurd (cc)
  own-less (Reads block) Fault same is on = fault-less (Reads block) same (ap is_fault is)
  own-less (Reads block) Waiting same is on = absurd (let no_wait = waits-not Waiting is in cc)
  own-less (Reads block) (Began number) same is on = absurd (cc)
  own-less (Reads block) (Replied number reply attachment) same is on = absurd (cc)
  own-less (Reads block) Took same is on = absurd (cc)
  own-less (Reads block) Dropped same is on = absurd (cc)
  own-less (Reads block) (Refused refusal) same is on = absurd (cc)
  own-less (Writes w) (Byte byte) same is on = absurd (cc)
  own-less (Writes w) Stored same is on = stored-less w on
  own-less (Writes w) Fault same is on = fault-less (Writes w) same (ap is_fault is)
  own-less (Writes w) Waiting same is on = absurd (let no_wait = waits-not Waiting is in cc)
  own-less (Writes w) (Began number) same is on = absurd (cc)
  own-less (Writes w) (Replied number reply attachment) same is on = absurd (cc)
  own-less (Writes w) Took same is on = absurd (cc)
  own-less (Writes w) Dropped same is on = absurd (cc)
  own-less (Writes w) (Refused refusal) same is on = absurd (cc)

  own-left : left node (ask_in node.waiting at) ≡ weight (ask_in node.waiting at)
  own-left =
      left-all (can_be_made node (ask_in node.waiting at)) (weight (ask_in node.waiting at)) can

  case-less : (on : Bool) → at < length node.waiting → goes_on (ask_in node.waiting at) (answer_to node x) ≡ on
      → total (left (again_at node at)) (cond on (set node.waiting at (after_answer (ask_in node.waiting at) (answer_to node x))) (remove node.waiting at)) < all_left node
  case-less true within on =
      let ask = ask_in node.waiting at in
      total-set (left node) (left (again_at node at)) (left-later node (again_at node at) step-later) node.waiting at
      (after_answer ask (answer_to node x)) (Access [] (Load 0 0)) within
      (subst (λ n. left (again_at node at) (after_answer ask (answer_to node x)) < n) (sym own-left) (own-less ask (answer_to node x) refl refl on))
  case-less false within on =
      total-remove (left node) (left (again_at node at)) (left-later node (again_at node at) step-later) node.waiting at (Access [] (Load 0 0)) within
      (subst (λ n. 0 < n) (sym own-left) (some-weight (ask_in node.waiting at)))

  step-less : at < length node.waiting → all_left (again_at node at) < all_left node
  step-less within = case-less (goes_on (ask_in node.waiting at) (answer_to node x)) within refl

ready-less : (node : Node) (p : Option ℕ) → ready node ≡ p → is_some (option_map (says_at node) p) ≡ true
    → all_left (option_map_or (again_at node) p node) < all_left node
ready-less node None is some = absurd (cc)
ready-less node (Some at) is some =
    let search = (unless-some (is_late node 0) (position_from (can_be_made node) 0 node.waiting) at is).1 in
    let f : Found (can_be_made node) node.waiting (Access [] (Load 0 0)) 0 at = found_at (can_be_made node) node.waiting (Access [] (Load 0 0)) 0 at search in
    let from = f.is in
    let same : f.place ≡ at = omega (arith, from) in
    step-less node at (subst (λ i. can_be_made node (get_or node.waiting i (Access [] (Load 0 0))) ≡ true) same f.passes)
    (subst (λ i. i < length node.waiting) same f.within)

again-less : (node : Node) → is_some (said_again node) ≡ true → all_left (after_again node) < all_left node
again-less node some = ready-less node (ready node) refl some

-- ---- all of them

none-said : (o : Option Said) → is_some o ≡ false → o ≡ None
none-said None h = refl
none-said (Some said) h = absurd (cc)

quiet-case : (n : ℕ) (d : Desk) (more : Bool) → is_some (said_again d.node) ≡ more
    → (is_some (said_again d.node) ≡ true → said_again (all_made n (desk_made_again d)).node ≡ None)
    → said_again (cond more (all_made n (desk_made_again d)) d).node ≡ None
quiet-case n d true is later = later is
quiet-case n d false is later = none-said (said_again d.node) is

none-left : (node : Node) (more : Bool) → is_some (said_again node) ≡ more → all_left node ≤ 0 → said_again node ≡ None
none-left node true is few = absurd (let less = again-less node is in omega (arith, less, few))
none-left node false is few = none-said (said_again node) is

quiet : (n : ℕ) (d : Desk) → all_left d.node ≤ n → said_again (all_made n d).node ≡ None
unfolding all_made
quiet zero d few = none-left d.node (is_some (said_again d.node)) refl few
quiet (suc n) d few =
    quiet-case n d (is_some (said_again d.node)) refl
    (λ some.
    quiet n (desk_made_again d)
    (subst (λ node. all_left node ≤ n) (sym (made_again-node d)) (let less = again-less d.node some in omega (arith, less, few))))

small-left : (node : Node) (ask : WaitingAsk) → IsProper node.me ask → left node ask ≤ page_bytes
small-left node (Access tag asked) proper =
    let most = left-most (can_be_made node (Access tag asked)) 1 in omega (arith, most)
small-left node (Reads block) proper =
    let most : left node (Reads block) ≤ (block.count - (length block.bytes + 1)) + 1 =
    left-most (can_be_made node (Reads block)) (weight (Reads block)) in
    let small : block.count ≤ page_bytes = block-size block.offset block.count proper.0.2.3 in
    omega (arith, most, small)
small-left node (Writes w) proper =
    let most : left node (Writes w) ≤ (length w.bytes - (w.stored + 1)) + 1 =
    left-most (can_be_made node (Writes w)) (weight (Writes w)) in
    let small : length w.bytes ≤ page_bytes = block-size w.offset (length w.bytes) proper.0.4 in
    let more = proper.1 in
    omega (arith, most, small, more)

bounded : (sites me pages : ℕ) (events : List Event) → all_left (after_events (new_node sites me pages) events) ≤ most_steps
bounded sites me pages events =
    let node = after_events (new_node sites me pages) events in
    let most : all_left node ≤ length node.waiting * page_bytes =
    total-most (left node) page_bytes (IsProper node.me) (small-left node) node.waiting (proper_asks sites me pages events) in
    let few : length node.waiting ≤ most_waiting = few_wait sites me pages events in
    omega (arith, most, few)

pub enough_steps : (sites me pages : ℕ) (events : List Event) (desk : Desk) → desk.node ≡ after_events (new_node sites me pages) events
    → said_again (settled most_steps desk).node ≡ None
unfolding settled
enough_steps sites me pages events desk reached =
    let made = all_made most_steps desk in
    ap said_again (closed-node made made.row)
    ∙ quiet most_steps desk (subst (λ n. all_left n ≤ most_steps) (sym reached) (bounded sites me pages events))
