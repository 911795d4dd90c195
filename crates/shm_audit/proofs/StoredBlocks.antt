-- A block whose caller is told that it is stored was, since it was asked for, by steps that its site's process made.
use Rattle.std.proofs.Common.{◌≡◌, ℕ, ◌+◌, ◌≤◌, Bool, true, false, List, Some, length, refl, ap, sym, subst, ◌∙◌, arith}
use Rattle.std.specs.Prelude.{Option, nat_lt}
use Rattle.std.proofs.lemmas.Bool.Decides.{nat_tests}
use Rattle.std.proofs.lemmas.List.{take_all}
use Rattle.shm_model.specs.declared.answer.Answer.TheVariants.{Stored}
use Rattle.shm_process.specs.Node.{Node, answer_to, new_node, tag_told}
use Rattle.shm_process.specs.Recorded.{Event, after_events}
use Rattle.shm_process.specs.WaitingAsks.{Writes, ask_in, goes_on, tag_of}
use Rattle.shm_process.specs.Waiting.{next_heard, says_at}
use Rattle.shm_process.specs.Writes.{Write}
use Rattle.shm_audit.specs.Loads.{made_by}
use Rattle.shm_audit.specs.Stores.{IsStoredBlock, stores}
use Rattle.shm_audit.proofs.LoadedBlocks.{HasLoaded, Holds, ask-loaded, step_of, stored_of}
use Rattle.shm_audit.proofs.StoredBytes.{stores-push}
use Rattle.shm_audit.proofs.ToldBlocks.{all_hold}

last-is : (n count : ℕ) → nat_lt (n + 1) count ≡ false → count ≤ n + 1
last-is n count last = grind (arith, nat_tests)

-- the ask is told of its last store, or it goes on
told-by-write : (me : ℕ) (first : Node) (events : List Event) (write : Write) (caller : Option (List ℕ)) (tag : List ℕ) (on : Bool)
    → HasLoaded me first events (Writes write) → nat_lt (write.stored + 1) (length write.bytes) ≡ on
    → tag_told on (Some write.tag) caller Stored ≡ Some tag
    → IsStoredBlock me first events (tag_told on (Some write.tag) caller Stored) (step_of me (Writes write) Stored) write
told-by-write me first events write caller tag true h last told = absurd (cc)
told-by-write me first events write caller tag false h last told = record {
  others = stored_of me write;
  is_told = refl;
  stored = ap (stores me write.tag write.at write.offset) (sym (take_all (write.stored + 1) write.bytes (last-is write.stored (length write.bytes) last)))
      ∙ stores-push me write.tag write.at write.offset write.bytes write.stored h.1;
  since = h.0;
}

pub block_is_stored : (sites me pages : ℕ) (events : List Event) (at : ℕ) (write : Write) (tag : List ℕ)
    → ask_in (after_events (new_node sites me pages) events).waiting at ≡ Writes write
    → (says_at (after_events (new_node sites me pages) events) at).answer ≡ Stored
    → (says_at (after_events (new_node sites me pages) events) at).tag ≡ Some tag
    → IsStoredBlock me (new_node sites me pages) events (says_at (after_events (new_node sites me pages) events) at).tag
    (made_by (says_at (after_events (new_node sites me pages) events) at)) write
block_is_stored sites me pages events at write tag asked stored told =
    let first = new_node sites me pages in
    let node = after_events first events in
    let ask = ask_in node.waiting at in
    let answer = answer_to node (next_heard ask) in
    let h : Holds me first events node = all_hold sites me pages events in
    let has : HasLoaded me first events (Writes write) = subst (HasLoaded me first events) asked (ask-loaded me first events node.waiting at h.all) in
    let says : tag_told (goes_on ask answer) (Some (tag_of ask)) node.caller answer ≡ tag_told (goes_on (Writes write) Stored) (Some write.tag) node.caller Stored =
    ap (λ a. tag_told (goes_on ask a) (Some (tag_of ask)) node.caller a) stored
    ∙ ap (λ q. tag_told (goes_on q Stored) (Some (tag_of q)) node.caller Stored) asked in
    let step : step_of node.me ask answer ≡ step_of me (Writes write) Stored =
    ap (λ a. step_of node.me ask a) stored ∙ ap (λ q. step_of node.me q Stored) asked ∙ ap (λ m. step_of m (Writes write) Stored) h.own in
    subst (λ t. IsStoredBlock me first events t (step_of node.me ask answer) write) (sym says)
    (subst (λ s. IsStoredBlock me first events (tag_told (goes_on (Writes write) Stored) (Some write.tag) node.caller Stored) s write) (sym step)
    (told-by-write me first events write node.caller tag (goes_on (Writes write) Stored) has refl (sym says ∙ told)))
