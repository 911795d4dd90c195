-- Who holds a segment, as the account grows by one event.
use Rattle.std.proofs.Common.{◌≡◌, ℕ, ◌+◌, Bool, true, false, ◌&&◌, ◌||◌, not, List, [], ◌∷◌, Option, Some, if◌then◌else◌, ◌==◌, refl, sym, ap, ◌∙◌, subst, arith, inl, inr}
use Rattle.std.specs.List.{AllByRecursion}
use Rattle.std.proofs.lemmas.Bool.{cases_Bool}
use Rattle.std.proofs.lemmas.Bool.Decides.{nat_tests}
use Rattle.shm_model.specs.declared.answer.Answer.{Answer}
use Rattle.shm_model.specs.declared.answer.Answer.TheVariants.{Began, Replied}
use Rattle.shm_model.specs.declared.call.Op.{Op}
use Rattle.shm_model.specs.declared.call.Reply.{Reply}
use Rattle.shm_model.specs.declared.call.Request.TheVariants.{Op as OpRequest, DetachAt}
use Rattle.shm_model.specs.Message.{Message, Call, Input, Begin, Deliver}
use Rattle.shm_model.specs.Memory.{is_segment, op_after, segment_after, segment_of}
use Rattle.shm_model.specs.World.{Done, Opening}
use Rattle.shm_model.specs.History.{Numbered, attaching, calls_of, detaching, handed_over, has_call, has_replied, is_refused, with_done, is_attach, is_attached, is_call, is_detach_begun, is_reply, reply_to}
use Rattle.shm_laws.proofs.Kernel.Effect.{gained}
use Rattle.shm_laws.proofs.Call.Turn.{is_plain}
use Rattle.shm_laws.proofs.Call.Invariant.{Answered, is-call-same, reply-listed}
use Rattle.shm_laws.proofs.Call.Counting.{Distinct, bit, count-cons, count-agree, count-removed, none-hit}
use Rattle.shm_laws.proofs.Kernel.Lists.{every}

-- this event began the detach of call x from the segment
abbrev pub begun_one : Option Input → Answer → ℕ → (ℕ → Option ℕ) → Numbered → ℕ → Bool
begun_one (Some (Begin (DetachAt a))) (Began m) site named x id = is_segment (named a) id && is_call site m x
begun_one _ _ site named x id = false

abbrev pub begun_in : Opening → List Done → Numbered → ℕ → ℕ
begun_in o [] x id = 0
begun_in o (d ∷ ds) x id = bit (begun_one d.input d.answer d.site (segment_of o ds d.site) x id) + begun_in o ds x id

-- an answer of no call begins and names nothing
pub plain-renamed : (input : Option Input) (answer : Answer) (ops : ℕ → Option Op) (a : ℕ) (earlier : Option ℕ) → is_plain answer ≡ true → segment_after input answer ops a earlier ≡ earlier
plain-renamed (Some (Deliver e)) (Replied n reply (Some b)) ops a earlier plain = cc
plain-renamed (Some (Begin (DetachAt b))) (Began n) ops a earlier plain = cc
plain-renamed input answer ops a earlier plain = refl

pub plain-begun : (input : Option Input) (answer : Answer) (n : ℕ) (earlier : Option Op) → is_plain answer ≡ true → op_after input answer n earlier ≡ earlier
plain-begun (Some (Begin (OpRequest op))) (Began m) n earlier plain = cc
plain-begun input answer n earlier plain = refl

pub plain-reply : (d n : ℕ) (answer : Answer) → is_plain answer ≡ true → is_reply d n answer ≡ false
plain-reply d n (Replied m reply a) plain = cc
plain-reply d n answer plain = refl

pub plain-begun_one : (input : Option Input) (answer : Answer) (s : ℕ) (named : ℕ → Option ℕ) (x : Numbered) (id : ℕ) → is_plain answer ≡ true → begun_one input answer s named x id ≡ false
plain-begun_one (Some (Begin (DetachAt a))) (Began m) s named x id plain = cc
plain-begun_one input answer s named x id plain = refl

pub plain-detach : (input : Option Input) (answer : Answer) (s : ℕ) (named : ℕ → Option ℕ) (calls : List Numbered) (id : ℕ) → is_plain answer ≡ true
    → is_detach_begun input answer s named calls id ≡ false
plain-detach (Some (Begin (DetachAt a))) (Began m) s named calls id plain = cc
plain-detach input answer s named calls id plain = refl

-- a detach that is heard of is on its way no longer
heard-tests : (named hit listed : Bool) → (hit ≡ true → listed ≡ false)
    → (if named && not (hit || listed) then 1 else 0) + bit (named && hit) ≡ (if named && not listed then 1 else 0)
heard-tests true true true new = cc (new refl)
heard-tests true true false new = refl
heard-tests true false true new = refl
heard-tests true false false new = refl
heard-tests false hit listed new = refl

heard-one : (input : Option Input) (answer : Answer) (s : ℕ) (named : ℕ → Option ℕ) (x : Numbered) (calls : List Numbered) (id : ℕ) → has_call x.site x.number calls ≡ false
    → (if is_detach_begun input answer s named (x ∷ calls) id then 1 else 0) + bit (begun_one input answer s named x id)
    ≡ (if is_detach_begun input answer s named calls id then 1 else 0)
heard-one (Some (Begin (DetachAt a))) (Began n) s named x calls id new =
    heard-tests (is_segment (named a) id) (is_call s n x) (has_call s n calls) (λ hit. let same = is-call-same s n x hit in
    subst (λ y. has_call y n calls ≡ false) same.0 (subst (λ y. has_call x.site y calls ≡ false) same.1 new))
heard-one input answer s named x calls id new = refl

pub detach-heard : (o : Opening) (x : Numbered) (calls : List Numbered) (account : List Done) (id : ℕ) → has_call x.site x.number calls ≡ false
    → detaching o (x ∷ calls) account id + begun_in o account x id ≡ detaching o calls account id
detach-heard o x calls [] id new = refl
detach-heard o x calls (d ∷ ds) id new =
    let here = heard-one d.input d.answer d.site (segment_of o ds d.site) x calls id new in
    let rest = detach-heard o x calls ds id new in
    omega arith

-- who has a reply is in the list of calls
replied-listed-step : (site s n : ℕ) (answer : Answer) (replied listed : Bool)
    → ((reply : Reply) (a : Option ℕ) → site ≡ s → answer ≡ Replied n reply a → listed ≡ true) → (replied ≡ true → listed ≡ true)
    → (((site == s) && is_reply site n answer) || replied) ≡ true → listed ≡ true
replied-listed-step site s n (Replied m reply a) replied listed here rest hit = elim (cases_Bool ((site == s) && (m == n))) [
  | inl both ↦ (let same : (site ≡ s) × (m ≡ n) = grind (arith, nat_tests) in here reply a same.0 (ap (λ k. Replied k reply a) same.1))
  | inr none ↦ rest (subst (λ b. (b || replied) ≡ true) none hit)
]
replied-listed-step site s n answer replied listed here rest hit = rest (none-and (site == s) replied hit)
  where
    none-and : (b c : Bool) → ((b && false) || c) ≡ true → c ≡ true
    none-and true c h = h
    none-and false c h = h

pub replied-listed : (o : Opening) (calls : List Numbered) (account : List Done) (s n : ℕ) → AllByRecursion (Answered o calls) account
    → has_replied account s n ≡ true → has_call s n calls ≡ true
replied-listed o calls [] s n all replied = cc
replied-listed o calls (d ∷ ds) s n all replied =
    replied-listed-step d.site s n d.answer (has_replied ds s n) (has_call s n calls)
    (λ reply a same is. reply-listed o calls s n reply (subst (λ x. reply_to o calls x n ≡ Some reply) same (all.0 n reply a is)))
    (λ later. replied-listed o calls ds s n all.1 later) replied

-- the calls are distinct
distinct-with : (c : Numbered) (calls : List Numbered) (b : Bool) → has_call c.site c.number calls ≡ b → Distinct calls → Distinct (if b then calls else c ∷ calls)
distinct-with c calls true is distinct = distinct
distinct-with c calls false is distinct = (is, distinct)

distinct-handed : (from : ℕ) (m : Message) (calls : List Numbered) → Distinct calls → Distinct (handed_over from m calls)
distinct-handed from (Call n op) calls distinct = distinct-with (record { site = from; number = n; op = op }) calls (has_call from n calls) refl distinct
distinct-handed from m calls distinct = distinct

distinct-if : (b : Bool) (calls more : List Numbered) → Distinct calls → Distinct more → Distinct (if b then calls else more)
distinct-if true calls more here there = here
distinct-if false calls more here there = there

distinct-done : (input : Option Input) (answer : Answer) (calls : List Numbered) → Distinct calls → Distinct (with_done input answer calls)
distinct-done (Some (Deliver e)) answer calls distinct =
    distinct-if (is_refused answer) calls (handed_over e.from e.message calls) distinct (distinct-handed e.from e.message calls distinct)
distinct-done input answer calls distinct = distinct

pub distinct-calls : (account : List Done) → Distinct (calls_of account)
distinct-calls [] = tt
distinct-calls (d ∷ ds) = distinct-done d.input d.answer (calls_of ds) (distinct-calls ds)

-- an attach that succeeded and has no answer yet
abbrev pub is_open : Op → ℕ → Option Reply → Bool → Bool
is_open op id reply replied = is_attach op id && is_attached reply && not replied

pub attach-same : (o : Opening) (before after : List Done) (calls : List Numbered) (id : ℕ) → ((s n : ℕ) → has_replied after s n ≡ has_replied before s n)
    → attaching o after calls id ≡ attaching o before calls id
attach-same o before after calls id silent =
    count-agree _ _ calls (every _ (λ c. ap (λ b. is_open c.op id (reply_to o calls c.site c.number) b) (silent c.site c.number)) calls)

-- a call that is executed
call-turned : (s n : ℕ) (c x : Numbered) → is_call x.site x.number c ≡ false → is_call c.site c.number x ≡ false
call-turned s n c x h = grind (arith, nat_tests)

reply-kept : (o : Opening) (x : Numbered) (calls : List Numbered) (s n : ℕ) → is_call s n x ≡ false → reply_to o (x ∷ calls) s n ≡ reply_to o calls s n
reply-kept o x calls s n other = rw other

others-kept : (o : Opening) (account : List Done) (x : Numbered) (all calls : List Numbered) (id : ℕ) → has_call x.site x.number calls ≡ false
    → AllByRecursion (λ c. is_open c.op id (reply_to o (x ∷ all) c.site c.number) (has_replied account c.site c.number)
    ≡ is_open c.op id (reply_to o all c.site c.number) (has_replied account c.site c.number)) calls
others-kept o account x all [] id new = tt
others-kept o account x all (c ∷ cs) id new =
    let h = none-hit (is_call x.site x.number c) (has_call x.site x.number cs) new in (
      ap (λ r. is_open c.op id r (has_replied account c.site c.number)) (reply-kept o x all c.site c.number (call-turned c.site c.number c x h.0)),
      others-kept o account x all cs id h.1,
    )

open-test : (a b : Bool) → bit (a && b && true) ≡ (if a && b then 1 else 0)
open-test true true = refl
open-test true false = refl
open-test false b = refl

open-first : (op : Op) (id : ℕ) (found : Option Reply) (reply : Reply) (replied : Bool) → found ≡ Some reply → replied ≡ false → bit (is_open op id found replied) ≡ gained op reply id
open-first op id found reply replied is none = rw (is, none) (open-test (is_attach op id) (is_attached (Some reply)))

pub attach-executed : (o : Opening) (account : List Done) (x : Numbered) (calls : List Numbered) (reply : Reply) (id : ℕ) → has_call x.site x.number calls ≡ false
    → has_replied account x.site x.number ≡ false → reply_to o (x ∷ calls) x.site x.number ≡ Some reply
    → attaching o account (x ∷ calls) id ≡ gained x.op reply id + attaching o account calls id
attach-executed o account x calls reply id new silent known =
    let split = count-cons (λ c. is_open c.op id (reply_to o (x ∷ calls) c.site c.number) (has_replied account c.site c.number)) x calls in
    let first = open-first x.op id (reply_to o (x ∷ calls) x.site x.number) reply (has_replied account x.site x.number) known silent in
    let rest = count-agree _ _ calls (others-kept o account x calls calls id new) in
    omega arith

-- a call that has its reply
replied-other : (s n : ℕ) (c : Numbered) (replied : Bool) → is_call s n c ≡ false → (((s == c.site) && (n == c.number)) || replied) ≡ replied
replied-other s n c replied other = grind (arith, nat_tests)

replied-here : (s n : ℕ) (c : Numbered) (replied : Bool) → is_call s n c ≡ true → (((s == c.site) && (n == c.number)) || replied) ≡ true
replied-here s n c replied hit = grind (arith, nat_tests)

open-false : (a b : Bool) → (a && b && not true) ≡ false
open-false true true = refl
open-false true false = refl
open-false false b = refl

open-true : (a b : Bool) → (a && b && not false) ≡ (a && b)
open-true true true = refl
open-true true false = refl
open-true false b = refl

module _ (o : Opening) (account : List Done) (calls : List Numbered) (s n : ℕ) (op : Op) (reply : Reply) (input : Option Input) (a : Option ℕ) (id : ℕ)
    (silent : has_replied account s n ≡ false) (known : reply_to o calls s n ≡ Some reply) where
  abbrev answered : Done
  answered = record { site = s; input = input; answer = Replied n reply a }

  attach-here : (c : Numbered) → c.op ≡ op → is_call s n c ≡ true
      → (is_open c.op id (reply_to o calls c.site c.number) (has_replied (answered ∷ account) c.site c.number) ≡ false)
      × (is_open c.op id (reply_to o calls c.site c.number) (has_replied account c.site c.number) ≡ (is_attach op id && is_attached (Some reply)))
  attach-here c same hit =
      let at = is-call-same s n c hit in
      let found : reply_to o calls c.site c.number ≡ Some reply = subst (λ x. reply_to o calls x c.number ≡ Some reply) (sym at.0) (subst (λ x. reply_to o calls s x ≡ Some reply) (sym at.1) known) in
      let none : has_replied account c.site c.number ≡ false = subst (λ x. has_replied account x c.number ≡ false) (sym at.0) (subst (λ x. has_replied account s x ≡ false) (sym at.1) silent) in (
        ap (λ b. is_open c.op id (reply_to o calls c.site c.number) b) (replied-here s n c (has_replied account c.site c.number) hit)
            ∙ open-false (is_attach c.op id) (is_attached (reply_to o calls c.site c.number)),
        ap (λ b. is_open c.op id (reply_to o calls c.site c.number) b) none ∙ (open-true (is_attach c.op id) (is_attached (reply_to o calls c.site c.number))
            ∙ (ap (λ r. is_attach c.op id && is_attached r) found ∙ ap (λ p. is_attach p id && is_attached (Some reply)) same)),
      )

  pub attach-replied : Distinct calls → AllByRecursion (λ c. is_call s n c ≡ true → c.op ≡ op) calls
      → attaching o (answered ∷ account) calls id + gained op reply id ≡ attaching o account calls id
  attach-replied distinct ops =
      count-removed (λ c. is_open c.op id (reply_to o calls c.site c.number) (has_replied account c.site c.number))
      (λ c. is_open c.op id (reply_to o calls c.site c.number) (has_replied (answered ∷ account) c.site c.number)) s n (is_attach op id && is_attached (Some reply)) calls
      distinct (reply-listed o calls s n reply known)
      (every _ (λ c other. ap (λ b. is_open c.op id (reply_to o calls c.site c.number) b) (replied-other s n c (has_replied account c.site c.number) other)) calls)
      (every-here calls ops)
    where
      every-here : (cs : List Numbered) → AllByRecursion (λ c. is_call s n c ≡ true → c.op ≡ op) cs → AllByRecursion (λ c. is_call s n c ≡ true
          → (is_open c.op id (reply_to o calls c.site c.number) (has_replied (answered ∷ account) c.site c.number) ≡ false)
          × (is_open c.op id (reply_to o calls c.site c.number) (has_replied account c.site c.number) ≡ (is_attach op id && is_attached (Some reply)))) cs
      every-here [] all = tt
      every-here (c ∷ cs) all = ((λ hit. attach-here c (all.0 hit) hit), every-here cs all.1)
