-- Attachments are counted: each segment counts who holds it, after every list of events.
use Rattle.std.proofs.Common.{◌≡◌, ℕ, ◌+◌, ◌<◌, true, List, [], ◌∷◌, append-nil, Option, Some, None, refl, sym, ◌∙◌, subst, arith, Contains}
use Rattle.shm_model.specs.declared.answer.Answer.{Answer}
use Rattle.shm_model.specs.declared.event.Event.{Event}
use Rattle.shm_model.specs.Message.{Envelope}
use Rattle.shm_model.specs.Calls.{Attachment}
use Rattle.shm_model.specs.Memory.{segment_of}
use Rattle.shm_model.specs.Site.{max_attachments}
use Rattle.shm_model.specs.World.{Done, IsOpening, Opening, run, sites_of}
use Rattle.shm_model.specs.History.{Counted, calls_of, held, kernel, naming}
use Rattle.shm_laws.proofs.Run.Induction.{IsStill, still_took, still_refused}
use Rattle.shm_laws.proofs.Kernel.Held.{held-alive}
use Rattle.shm_laws.proofs.Call.Turn.{Desk, is_plain}
use Rattle.shm_laws.proofs.Call.Run.{ByTurns, desks, run-turns}
use Rattle.shm_laws.proofs.Call.Once.{once-after, once-first, once-stays}
use Rattle.shm_laws.proofs.Call.Counting.{named-counted}
use Rattle.shm_laws.proofs.Call.Held.{plain-reply}
use Rattle.shm_laws.proofs.Call.Names.{id_of, plain-named, plain-names, plain-replied}
use Rattle.shm_laws.proofs.Call.Balance.{Balance, same-held, unmoved-balance}
use Rattle.shm_laws.proofs.Call.Opened.{CountedBy, NamedBy, first-balance, first-named}
use Rattle.shm_laws.proofs.Call.Balanced.{counted-after}
use Rattle.shm_laws.proofs.Kernel.Lists.{every-contains}

still-plain : (answer : Answer) → IsStill answer → is_plain answer ≡ true
still-plain answer still_took = refl
still-plain answer (still_refused n) = refl

counted-stays : (o : Opening) (d : ℕ → Desk) (sent : List Envelope) (account : List Done) (s : ℕ) (answer : Answer) → CountedBy o d sent account → IsStill answer
    → CountedBy o d sent (record { site = s; input = None; answer = answer } ∷ account)
counted-stays o d sent account s answer counted still =
    let plain = still-plain answer still in
    let done : Done = record { site = s; input = None; answer = answer } in
    record {
      once = once-stays o d sent account s answer counted.once still;
      named = subst (λ es. NamedBy o d es (done ∷ account)) (append-nil sent)
          (plain-named o _ _ _ sent account counted.named s None answer [] plain (λ e n p found is. subst (λ es. Contains es e) (append-nil sent) found));
      balance = subst (λ es. Balance o es (done ∷ account) (calls_of account)) (append-nil sent)
          (unmoved-balance o sent account (calls_of account) counted.balance [] done
          (same-held o sent account (calls_of account) counted.balance done (plain-names o _ _ _ sent account counted.named s None answer plain)
          (plain-replied o _ _ _ sent account counted.named s None answer (λ m. plain-reply s m answer plain)) (λ i. refl)));
    }

counted-turns : (o : Opening) → IsOpening o → ByTurns o (CountedBy o)
counted-turns o opening = record {
  first = record { once = once-first o; named = first-named o; balance = first-balance o opening };
  turns = λ d sent account s input x answer more counted below fair turn.
      counted-after o d sent account s counted below input x answer more fair (once-after o d sent account s counted.once below input x answer more fair turn) turn;
  stays = counted-stays o;
}

pub run-counted : (o : Opening) → IsOpening o → (events : List Event) → CountedBy o (desks o (run o events).world.sites) (run o events).world.sent (run o events).account
run-counted o opening events = run-turns o (CountedBy o) (counted-turns o opening) events

-- an attachment that names a segment holds it
id-some : (found : Option Attachment) (id : ℕ) → id_of found ≡ Some id → (x : Attachment) × (found ≡ Some x)
id-some None id is = cc
id-some (Some x) id is = (x, refl)

pub names-small : (o : Opening) (d : ℕ → Desk) (sent : List Envelope) (account : List Done) → CountedBy o d sent account → (s a id : ℕ) → segment_of o account s a ≡ Some id → a < max_attachments
names-small o d sent account counted s a id is =
    let x = id-some ((d s).attachments a) id (sym (counted.named.names s a) ∙ is) in
    counted.named.small s a x.0 x.1

pub names-held : (o : Opening) (d : ℕ → Desk) (sent : List Envelope) (account : List Done) → CountedBy o d sent account → (s a id : ℕ) → s < sites_of o → segment_of o account s a ≡ Some id
    → 0 < held o account id
names-held o d sent account counted s a id below is =
    let within : a < max_attachments = names-small o d sent account counted s a id is in
    let some : 0 < naming o account id = named-counted (segment_of o account) (sites_of o) max_attachments s a id below within is in
    more-held (naming o account id) _ some
  where
    more-held : (n m : ℕ) → 0 < n → 0 < n + m
    more-held n m some = omega arith

pub attachments-counted : (o : Opening) → IsOpening o → (events : List Event) → Counted o (run o events)
attachments-counted o opening events =
    let r = run o events in
    let counted = run-counted o opening events in
    record {
      count = λ g found alive. every-contains (λ x. x.nattch ≡ held o r.account x.id) (kernel o (calls_of r.account)) g counted.balance.balanced.count found;
      named = λ s a id below is.
          let stands = held-alive (held o r.account) (kernel o (calls_of r.account)) id counted.balance.balanced (names-held o _ _ r.account counted s a id below is) in
          (stands.0, stands.1, stands.2);
      small = λ s a id is. names-small o _ _ r.account counted s a id is;
    }
