-- A step by what the site answered: of an ask that waits, and of what a line handed over.
use Rattle.std.proofs.Common.{◌≡◌, ℕ, ◌+◌, ◌&&◌, Bool, List, Option, Some, None, cond, ap, sym, ◌∙◌}
use Rattle.std.specs.Prelude.{is_some, unwrap_or}
use Rattle.shm_model.specs.declared.answer.Answer.{Answer}
use Rattle.shm_model.specs.declared.asked_access.Asked.{Asked}
use Rattle.shm_model.specs.Message.{Envelope, Input}
use Rattle.shm_model.specs.Receipt.{access_of}
use Rattle.shm_model.specs.Site.{Site, Step}
use Rattle.shm_model.specs.Step.{step}
use Rattle.shm_wire.specs.Line as stream
use Rattle.shm_wire.specs.declared.mapping_text.Mapping.{Mapping}
use Rattle.shm_process.specs.Access.{access_ask, is_open}
use Rattle.shm_process.specs.Cause.{Cause, OfLine}
use Rattle.shm_process.specs.Node.{Node, Heard, Said, caller_after, next_clock, says, tag_told}
use Rattle.shm_process.specs.Waiting.{again_at, counted, has_room, joins, next_heard, next_line, says_at, taken, with_ask}
use Rattle.shm_process.specs.WaitingAsks.{WaitingAsk, all_bytes, ask_in, goes_on, next_access, tag_of, waiting_after}
use Rattle.shm_process.proofs.Callers.{goes_on_caller, joins_caller, stays_told}

-- the ask at this place made its next access, and the site answered so
pub record IsMade (node : Node) (at : ℕ) (asked : Asked) (input : Input) (site : Site) (answer : Answer) (sent : List Envelope) : Type 0 where
  pub asks : asked ≡ next_access (ask_in node.waiting at)
  pub hands : input ≡ access_of asked
  pub made : step node.sites node.me node.site input ≡ record { site = site; answer = answer; sent = sent }

module _ (node : Node) (at : ℕ) (asked : Asked) (input : Input) (site : Site) (answer : Answer) (sent : List Envelope) (m : IsMade node at asked input site answer sent) where
  abbrev ask : WaitingAsk
  ask = ask_in node.waiting at

  done-is : step node.sites node.me node.site (next_heard ask).input ≡ record { site = site; answer = answer; sent = sent }
  done-is = ap (step node.sites node.me node.site) (sym (m.hands ∙ ap access_of m.asks)) ∙ m.made

  says-made : says_at node at ≡ record {
    site = node.me;
    clock = next_clock node 0;
    index = node.steps;
    sent = sent;
    tag = tag_told (goes_on ask answer) (Some (tag_of ask)) node.caller answer;
    answer = answer;
    block = all_bytes ask answer;
    cause = OfLine (next_line node.me ask);
  }
  says-made = ap (λ (s : Step). record {
    site = node.me;
    clock = next_clock node 0;
    index = node.steps;
    sent = s.sent;
    tag = tag_told (goes_on ask s.answer) (Some (tag_of ask)) node.caller s.answer;
    answer = s.answer;
    block = all_bytes ask s.answer;
    cause = OfLine (next_line node.me ask);
  }) done-is

  -- what is said of it
  pub said_made : (said : Said) (stays : Bool) (told block : Option (List ℕ)) (clock : ℕ) (tag : List ℕ) → tag ≡ tag_of ask → stays ≡ goes_on ask answer
      → told ≡ cond stays None (Some (tag_of ask)) → block ≡ all_bytes ask answer → clock ≡ next_clock node 0
      → said ≡ record {
        site = node.me;
        clock = clock;
        index = node.steps;
        sent = sent;
        tag = tag_told stays told node.caller answer;
        answer = answer;
        block = block;
        cause = OfLine (stream.Ask (access_ask node.me tag asked));
      }
      → said ≡ says_at node at
  said_made said stays told block clock tag et es eo eb ec e =
      let shape : ℕ → Option (List ℕ) → Option (List ℕ) → Cause → Said = λ c t b k. record {
        site = node.me;
        clock = c;
        index = node.steps;
        sent = sent;
        tag = t;
        answer = answer;
        block = b;
        cause = k;
      } in
      let cause : List ℕ → Asked → Cause = λ t a. OfLine (stream.Ask (access_ask node.me t a)) in
      let told_is : tag_told stays told node.caller answer ≡ tag_told (goes_on ask answer) (Some (tag_of ask)) node.caller answer =
      stays_told stays told (Some (tag_of ask)) node.caller answer eo ∙ ap (λ s. tag_told s (Some (tag_of ask)) node.caller answer) es in
      e
      ∙ ap (λ c. shape c (tag_told stays told node.caller answer) block (cause tag asked)) ec
      ∙ ap (λ t. shape (next_clock node 0) t block (cause tag asked)) told_is
      ∙ ap (λ b. shape (next_clock node 0) (tag_told (goes_on ask answer) (Some (tag_of ask)) node.caller answer) b (cause tag asked)) eb
      ∙ ap (λ t. shape (next_clock node 0) (tag_told (goes_on ask answer) (Some (tag_of ask)) node.caller answer) (all_bytes ask answer) (cause t asked)) et
      ∙ ap (λ a. shape (next_clock node 0) (tag_told (goes_on ask answer) (Some (tag_of ask)) node.caller answer) (all_bytes ask answer) (cause (tag_of ask) a)) m.asks
      ∙ sym says-made

  again-made : again_at node at ≡ record node {
    site = site;
    clock = next_clock node 0;
    steps = node.steps + 1;
    caller = caller_after (Some (tag_of ask)) node.caller answer;
    waiting = waiting_after node.waiting at answer;
  }
  again-made = ap (λ (s : Step). record node {
    site = s.site;
    clock = next_clock node 0;
    steps = node.steps + 1;
    caller = caller_after (Some (tag_of ask)) node.caller s.answer;
    waiting = waiting_after node.waiting at s.answer;
  }) done-is

  -- and the node after it
  pub node_made : (next : Node) (stays : Bool) (told : Option (List ℕ)) (waiting : List WaitingAsk) (clock : ℕ) → stays ≡ goes_on ask answer
      → told ≡ cond stays None (Some (tag_of ask)) → waiting ≡ waiting_after node.waiting at answer → clock ≡ next_clock node 0
      → next ≡ record node { site = site; clock = clock; steps = node.steps + 1; caller = caller_after told node.caller answer; waiting = waiting }
      → next ≡ again_at node at
  node_made next stays told waiting clock es eo ew ec e =
      let shape : ℕ → Option (List ℕ) → List WaitingAsk → Node = λ c t w. record node { site = site; clock = c; steps = node.steps + 1; caller = t; waiting = w } in
      e
      ∙ ap (λ c. shape c (caller_after told node.caller answer) waiting) ec
      ∙ ap (λ t. shape (next_clock node 0) t waiting) (goes_on_caller ask stays told (Some (tag_of ask)) node.caller answer eo es)
      ∙ ap (λ w. shape (next_clock node 0) (caller_after (Some (tag_of ask)) node.caller answer) w) ew
      ∙ sym again-made

-- ---- a line

pub says_made : (node : Node) (h : Heard) (cause : Cause) (stays : Bool) (site : Site) (answer : Answer) (sent : List Envelope)
    → step node.sites node.me node.site h.input ≡ record { site = site; answer = answer; sent = sent }
    → says node cause h stays ≡ record {
      site = node.me;
      clock = next_clock node h.source;
      index = node.steps;
      sent = sent;
      tag = tag_told stays h.tag node.caller answer;
      answer = answer;
      block = None;
      cause = cause;
    }
says_made node h cause stays site answer sent made = ap (λ (s : Step). record {
  site = node.me;
  clock = next_clock node h.source;
  index = node.steps;
  sent = s.sent;
  tag = tag_told stays h.tag node.caller s.answer;
  answer = s.answer;
  block = None;
  cause = cause;
}) made

-- a step of what a line handed over
module _ (node : Node) (h : Heard) (site : Site) (answer : Answer) (sent : List Envelope)
    (made : step node.sites node.me node.site h.input ≡ record { site = site; answer = answer; sent = sent }) where
  abbrev stays_so : Bool
  stays_so = (is_some h.waits && has_room node) && is_open answer

  says-taken : (cause : Cause) → says node cause h (joins node h) ≡ record {
    site = node.me;
    clock = next_clock node h.source;
    index = node.steps;
    sent = sent;
    tag = tag_told stays_so h.tag node.caller answer;
    answer = answer;
    block = None;
    cause = cause;
  }
  says-taken cause = ap (λ (s : Step). record {
    site = node.me;
    clock = next_clock node h.source;
    index = node.steps;
    sent = s.sent;
    tag = tag_told ((is_some h.waits && has_room node) && is_open s.answer) h.tag node.caller s.answer;
    answer = s.answer;
    block = None;
    cause = cause;
  }) made

  pub said_taken : (cause : Cause) (said : Said) (stays : Bool) (told : Option (List ℕ)) (clock : ℕ) → stays ≡ stays_so → told ≡ cond stays None h.tag
      → clock ≡ next_clock node h.source
      → said ≡ record {
        site = node.me;
        clock = clock;
        index = node.steps;
        sent = sent;
        tag = tag_told stays told node.caller answer;
        answer = answer;
        block = None;
        cause = cause;
      }
      → said ≡ says node cause h (joins node h)
  said_taken cause said stays told clock es eo ec e =
      let shape : ℕ → Option (List ℕ) → Said = λ c t. record {
        site = node.me;
        clock = c;
        index = node.steps;
        sent = sent;
        tag = t;
        answer = answer;
        block = None;
        cause = cause;
      } in
      e
      ∙ ap (λ c. shape c (tag_told stays told node.caller answer)) ec
      ∙ ap (shape (next_clock node h.source)) (stays_told stays told h.tag node.caller answer eo ∙ ap (λ s. tag_told s h.tag node.caller answer) es)
      ∙ sym (says-taken cause)

  taken-made : taken node h ≡ record node {
    site = site;
    clock = next_clock node h.source;
    steps = node.steps + 1;
    taken = counted node.taken;
    caller = caller_after h.tag node.caller answer;
    waiting = with_ask node.waiting h.waits stays_so;
    mapped = unwrap_or h.mapped node.mapped;
  }
  taken-made = ap (λ (s : Step). record node {
    site = s.site;
    clock = next_clock node h.source;
    steps = node.steps + 1;
    taken = counted node.taken;
    caller = caller_after h.tag node.caller s.answer;
    waiting = with_ask node.waiting h.waits ((is_some h.waits && has_room node) && is_open s.answer);
    mapped = unwrap_or h.mapped node.mapped;
  }) made

  pub node_taken : (next : Node) (stays : Bool) (told : Option (List ℕ)) (waiting : List WaitingAsk) (clock lines : ℕ) (mapped : List Mapping) → stays ≡ stays_so
      → told ≡ cond stays None h.tag → waiting ≡ with_ask node.waiting h.waits stays → clock ≡ next_clock node h.source → lines ≡ counted node.taken
      → mapped ≡ unwrap_or h.mapped node.mapped
      → next ≡ record node {
        site = site;
        clock = clock;
        steps = node.steps + 1;
        taken = lines;
        caller = caller_after told node.caller answer;
        waiting = waiting;
        mapped = mapped;
      }
      → next ≡ taken node h
  node_taken next stays told waiting clock lines mapped es eo ew ec el em e =
      let shape : ℕ → ℕ → Option (List ℕ) → List WaitingAsk → List Mapping → Node = λ c l t w m.
      record node { site = site; clock = c; steps = node.steps + 1; taken = l; caller = t; waiting = w; mapped = m } in
      let now = unwrap_or h.mapped node.mapped in
      e
      ∙ ap (λ c. shape c lines (caller_after told node.caller answer) waiting mapped) ec
      ∙ ap (λ l. shape (next_clock node h.source) l (caller_after told node.caller answer) waiting mapped) el
      ∙ ap (λ t. shape (next_clock node h.source) (counted node.taken) t waiting mapped)
      (joins_caller (is_some h.waits) (has_room node) stays told h.tag node.caller answer eo es)
      ∙ ap (λ w. shape (next_clock node h.source) (counted node.taken) (caller_after h.tag node.caller answer) w mapped) (ew ∙ ap (with_ask node.waiting h.waits) es)
      ∙ ap (shape (next_clock node h.source) (counted node.taken) (caller_after h.tag node.caller answer) (with_ask node.waiting h.waits stays_so)) em
      ∙ sym taken-made
