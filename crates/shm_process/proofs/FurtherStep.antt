-- A step of a block that goes on: it joins the row, and nobody is told of it.
use Rattle.std.proofs.Common.{◌≡◌, ℕ, suc, ◌+◌, ◌≤◌, true, [], ◌++◌, Some, None, cond, min, set, refl, ap, ap₂, sym, ◌∙◌, append-nil, arith}
use Rattle.std.specs.List.{remove}
use Rattle.std.specs.Option.{option_map_or}
use Rattle.std.specs.Prelude.{is_some, option_and_then, option_map}
use Rattle.std.proofs.Math.Nat.{min-eq_left}
use Rattle.shm_model.specs.declared.answer.Answer.{Answer}
use Rattle.shm_model.specs.declared.asked_access.Asked.{Asked}
use Rattle.shm_model.specs.Basics.{greatest}
use Rattle.shm_model.specs.Receipt.{access_of}
use Rattle.shm_model.specs.Site.{Site}
use Rattle.shm_wire.specs.Line as stream
use Rattle.shm_process.specs.Access.{access_ask}
use Rattle.shm_process.specs.Cause.{OfLine}
use Rattle.shm_process.specs.Counts.{counted_on, with_said}
use Rattle.shm_process.specs.Desk.{Desk, all_made, grown_by, made_again, step_text, with_again, with_told}
use Rattle.shm_process.specs.Node.{Node, Said, caller_after, next_clock, tag_told}
use Rattle.shm_process.specs.Rows.{Row, joined, row_of}
use Rattle.shm_process.specs.Waiting.{after_again, again_at, ready, said_again, says_at}
use Rattle.shm_process.specs.WaitingAsks.{WaitingAsk, after_answer, all_bytes, ask_in, goes_on, tag_of}
use Rattle.shm_process.proofs.Made.{IsMade, node_made, said_made}

pub none_sent : (sent : ℕ) → sent ≤ greatest → counted_on sent 0 ≡ sent
none_sent sent few = let same : sent + 0 ≡ sent = omega arith in ap (λ n. min n greatest) same ∙ min-eq_left few

module _ (d : Desk) (at : ℕ) (asked : Asked) (site : Site) (answer : Answer) (row grown : Row)
    (first : ready d.node ≡ Some at)
    (m : IsMade d.node at asked (access_of asked) site answer [])
    (stays : goes_on (ask_in d.node.waiting at) answer ≡ true)
    (caller : caller_after None d.node.caller answer ≡ d.node.caller)
    (unheard : tag_told true None d.node.caller answer ≡ None)
    (has : d.row ≡ Some row)
    (joins : joined row (row_of (next_clock d.node 0) (tag_of (ask_in d.node.waiting at)) asked) ≡ Some grown)
    (few : d.counts.sent ≤ greatest) where
  abbrev ask : WaitingAsk
  ask = ask_in d.node.waiting at

  -- the node after it
  abbrev pub next : Node
  next = record d.node { site = site; clock = next_clock d.node 0; steps = d.node.steps + 1; waiting = set d.node.waiting at (after_answer ask answer) }

  abbrev told : Said
  told = record {
    site = d.node.me;
    clock = next_clock d.node 0;
    index = d.node.steps;
    sent = [];
    tag = None;
    answer = answer;
    block = all_bytes ask answer;
    cause = OfLine (stream.Ask (access_ask d.node.me (tag_of ask) asked));
  }

  told-is : says_at d.node at ≡ told
  told-is =
      sym (said_made d.node at asked (access_of asked) site answer [] m told true None (all_bytes ask answer) (next_clock d.node 0) (tag_of ask) refl (sym stays) refl refl refl
      (ap (λ t. record told { tag = t }) (sym unheard)))

  next-is : again_at d.node at ≡ next
  next-is =
      sym (node_made d.node at asked (access_of asked) site answer [] m next true None (set d.node.waiting at (after_answer ask answer)) (next_clock d.node 0) (sym stays) refl
      (sym (ap (λ b. cond b (set d.node.waiting at (after_answer ask answer)) (remove d.node.waiting at)) stays)) refl
      (ap (λ c. record next { caller = c }) (sym caller)))

  after-is : after_again d.node ≡ next
  after-is = ap (λ p. option_map_or (again_at d.node) p d.node) first ∙ next-is

  said-is : said_again d.node ≡ Some told
  said-is = ap (option_map (says_at d.node)) first ∙ ap Some told-is

  counts-are : with_said told d.counts ≡ d.counts
  counts-are = ap (λ sent. record d.counts { sent = sent }) (none_sent d.counts.sent few)

  text-is : step_text d.seal (Some told) ≡ []
  unfolding step_text
  text-is = refl

  -- the desk after it
  pub made_further : made_again d ≡ record d { node = next; row = Some grown }
  made_further =
      ap₂ (λ node said. with_again (record d { node = node }) said) after-is said-is
      ∙ ap (λ o. grown_by (with_told (record d { node = next }) told) (row_of (next_clock d.node 0) (tag_of ask) asked) o)
      (ap (option_and_then (λ row. joined row (row_of (next_clock d.node 0) (tag_of ask) asked))) has ∙ joins)
      ∙ ap₂ (λ text counts. record d { node = next; row = Some grown; told = text; counts = counts })
      (ap (λ t. d.told ++ t) text-is ∙ append-nil d.told) counts-are

  -- and all that it makes then
  pub all_further : (k : ℕ) → all_made (suc k) d ≡ all_made k (record d { node = next; row = Some grown })
  unfolding all_made
  all_further k = ap (λ s. cond (is_some s) (all_made k (made_again d)) d) said-is ∙ ap (all_made k) made_further
