-- What holds of the segment calls after every list of events, over every Call and every reply that was ever sent.
use Rattle.std.proofs.Common.{◌≡◌, ◌≢◌, ℕ, ◌<◌, ◌≤◌, Bool, true, false, List, [], ◌∷◌, Option, Some, None, if◌then◌else◌, refl, ap, subst, arith, ◌==◌, ◌||◌, Contains}
use Rattle.std.specs.List.{AllByRecursion}
use Rattle.std.proofs.lemmas.Bool.{eqb-true, eqb-false}
use Rattle.std.proofs.lemmas.Bool.Decides.{nat_tests}
use Rattle.std.proofs.lemmas.Option.{same_Some}
use Rattle.shm_model.specs.declared.answer.Answer.TheVariants.{Replied}
use Rattle.shm_model.specs.declared.call.Op.{Op}
use Rattle.shm_model.specs.declared.call.Reply.{Reply}
use Rattle.shm_model.specs.Basics.{at}
use Rattle.shm_model.specs.Permission.{Segment}
use Rattle.shm_model.specs.Message.{Call, Replies, Envelope}
use Rattle.shm_model.specs.Calls.{Kept, Outstanding, op_home}
use Rattle.shm_model.specs.SegmentCalls.{call_envelope}
use Rattle.shm_model.specs.World.{Done, Opening, sites_of}
use Rattle.shm_model.specs.History.{Numbered, called_on, has_call, is_call, kernel, reply_to}
use Rattle.shm_laws.proofs.Kernel.Parts.{HasKeyAtHome, part}
use Rattle.shm_laws.proofs.Call.Turn.{Desk}

-- what the sites keep for calls, each thing by the site
pub record View : Type 0 where
  pub calls : ℕ → ℕ
  pub outstanding : ℕ → Option Outstanding
  pub kept : ℕ → ℕ → Option Kept
  pub table : ℕ → List Segment

abbrev pub view_of : (ℕ → Desk) → View
view_of d = record {
  calls = λ s. (d s).calls;
  outstanding = λ s. (d s).outstanding;
  kept = λ s. (d s).kept;
  table = λ s. (d s).table;
}

abbrev pub kept_number : Option Kept → ℕ
kept_number None = 0
kept_number (Some k) = k.number

-- an outstanding call
abbrev pub awaits : ℕ → Op → Option Outstanding
awaits n op = Some (record { number = n; op = op })

pub same-call : (n m : ℕ) (op p : Op) → awaits n op ≡ awaits m p → (n ≡ m) × (op ≡ p)
same-call n m op p h = let same = same_Some {A = Outstanding} (record { number = n; op = op }) (record { number = m; op = p }) h in (ap (λ x. x.number) same, ap (λ x. x.op) same)

-- a Call that was sent: above the number kept for its site it is the outstanding one, and else it was handed over
pub record Sent (sites : ℕ) (v : View) (calls : List Numbered) (e : Envelope) (n : ℕ) (op : Op) : Type 0 where
  pub home : e.to ≡ op_home sites e.from op
  pub least : 0 < n
  pub most : n ≤ v.calls e.from
  pub above : kept_number (v.kept e.to e.from) < n → v.outstanding e.from ≡ awaits n op
  pub listed : n ≤ kept_number (v.kept e.to e.from) → has_call e.from n calls ≡ true

-- a call that was handed over
pub record Listed (sites : ℕ) (v : View) (envelopes : List Envelope) (s n : ℕ) : Type 0 where
  pub op : Op
  pub sent : Contains envelopes (call_envelope sites s n op)
  pub kept : n ≤ kept_number (v.kept (op_home sites s op) s)

abbrev pub Answered : Opening → List Numbered → Done → Type 0
Answered o calls d = (n : ℕ) (reply : Reply) (a : Option ℕ) → d.answer ≡ Replied n reply a → reply_to o calls d.site n ≡ Some reply

pub record Holds (o : Opening) (v : View) (sent : List Envelope) (calls : List Numbered) (account : List Done) : Type 0 where
  pub call : (e : Envelope) (n : ℕ) (op : Op) → Contains sent e → e.message ≡ Call n op → Sent (sites_of o) v calls e n op
  pub one : (e f : Envelope) (n : ℕ) (op other : Op) → Contains sent e → Contains sent f → e.from ≡ f.from → e.message ≡ Call n op → f.message ≡ Call n other → op ≡ other
  pub last : (s n : ℕ) (op : Op) → v.outstanding s ≡ awaits n op → (n ≡ v.calls s) × Contains sent (call_envelope (sites_of o) s n op)
  pub kept : (h s : ℕ) (k : Kept) → v.kept h s ≡ Some k → reply_to o calls s k.number ≡ Some k.reply
  pub bound : (h s : ℕ) → kept_number (v.kept h s) ≤ v.calls s
  pub listed : (s n : ℕ) → has_call s n calls ≡ true → Listed (sites_of o) v sent s n
  pub table : (h : ℕ) → h < sites_of o → v.table h ≡ part (sites_of o) h (kernel o calls)
  pub keys : AllByRecursion (HasKeyAtHome (sites_of o)) (kernel o calls)
  pub replies : (e : Envelope) (n : ℕ) (reply : Reply) → Contains sent e → e.message ≡ Replies n reply → reply_to o calls e.to n ≡ Some reply
  pub answered : AllByRecursion (Answered o calls) account

at-cases-if : {X : Type 0} (P : X → Type 0) (b : Bool) (x y : X) → (b ≡ true → P x) → (b ≡ false → P y) → P (if b then x else y)
at-cases-if P true x y here there = here refl
at-cases-if P false x y here there = there refl

-- a function with one value changed
pub at-cases : {X : Type 0} (P : X → Type 0) (f : ℕ → X) (k : ℕ) (x : X) (j : ℕ) → (k ≡ j → P x) → (k ≢ j → P (f j)) → P (at f k x j)
at-cases P f k x j here there = at-cases-if P (k == j) x (f j) (λ is. here (eqb-true k j is)) (λ is. there (eqb-false k j is))

-- a call in the list has a reply
reply-listed-step : (o : Opening) (c : Numbered) (calls : List Numbered) (s n : ℕ) (reply : Reply) (b : Bool) → is_call s n c ≡ b
    → (if b then Some (called_on o c (kernel o calls)).reply else reply_to o calls s n) ≡ Some reply
    → (reply_to o calls s n ≡ Some reply → has_call s n calls ≡ true) → (b || has_call s n calls) ≡ true
reply-listed-step o c calls s n reply true is found rest = refl
reply-listed-step o c calls s n reply false is found rest = rest found

pub reply-listed : (o : Opening) (calls : List Numbered) (s n : ℕ) (reply : Reply) → reply_to o calls s n ≡ Some reply → has_call s n calls ≡ true
reply-listed o [] s n reply found = cc
reply-listed o (c ∷ cs) s n reply found = reply-listed-step o c cs s n reply (is_call s n c) refl found (reply-listed o cs s n reply)

-- a call that is new in the list changes no earlier reply
pub is-call-same : (s n : ℕ) (c : Numbered) → is_call s n c ≡ true → (c.site ≡ s) × (c.number ≡ n)
is-call-same s n c h = grind (arith, nat_tests)

reply-stays-step : (o : Opening) (c : Numbered) (calls : List Numbered) (s n : ℕ) (reply : Reply) (b : Bool) → is_call s n c ≡ b
    → has_call c.site c.number calls ≡ false → reply_to o calls s n ≡ Some reply
    → (if b then Some (called_on o c (kernel o calls)).reply else reply_to o calls s n) ≡ Some reply
reply-stays-step o c calls s n reply false is new found = found
reply-stays-step o c calls s n reply true is new found =
    let same : (c.site ≡ s) × (c.number ≡ n) = is-call-same s n c is in
    let listed : has_call s n calls ≡ true = reply-listed o calls s n reply found in
    let unlisted : has_call s n calls ≡ false = subst (λ a. has_call a n calls ≡ false) same.0 (subst (λ b. has_call c.site b calls ≡ false) same.1 new) in
    cc

pub reply-stays : (o : Opening) (c : Numbered) (calls : List Numbered) (s n : ℕ) (reply : Reply) → has_call c.site c.number calls ≡ false
    → reply_to o calls s n ≡ Some reply → reply_to o (c ∷ calls) s n ≡ Some reply
reply-stays o c calls s n reply new found = reply-stays-step o c calls s n reply (is_call s n c) refl new found

pub every-weaker-answered : (o : Opening) (calls more : List Numbered) → ((s n : ℕ) (reply : Reply) → reply_to o calls s n ≡ Some reply → reply_to o more s n ≡ Some reply)
    → (account : List Done) → AllByRecursion (Answered o calls) account → AllByRecursion (Answered o more) account
every-weaker-answered o calls more stays [] all = tt
every-weaker-answered o calls more stays (d ∷ ds) all =
    (λ n reply a is. stays d.site n reply (all.0 n reply a is), every-weaker-answered o calls more stays ds all.1)
