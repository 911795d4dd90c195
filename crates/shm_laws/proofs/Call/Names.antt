-- What the attachments of sites are by the account, which calls await their answer, and which detaches began.
use Rattle.std.proofs.Common.{◌≡◌, ◌≢◌, ℕ, ◌+◌, ◌<◌, ◌≤◌, Bool, true, false, ◌&&◌, ◌||◌, List, [], ◌∷◌, ◌++◌, Option, Some, None, if◌then◌else◌, ◌==◌, ◌⊎◌, refl, sym, ap, ◌∙◌, subst, arith, inl, inr, Contains}
use Rattle.std.proofs.lemmas.Bool.{cases_Bool, cases_eq}
use Rattle.std.proofs.lemmas.Bool.Decides.{nat_tests}
use Rattle.std.proofs.lemmas.List.Elements.{Contains-append_cases}
use Rattle.shm_model.specs.declared.answer.Answer.{Answer}
use Rattle.shm_model.specs.declared.answer.Answer.TheVariants.{Began}
use Rattle.shm_model.specs.declared.call.Cred.{Cred}
use Rattle.shm_model.specs.declared.call.Op.{Op}
use Rattle.shm_model.specs.declared.call.Op.TheVariants.{Attach}
use Rattle.shm_model.specs.declared.call.Request.TheVariants.{Op as OpRequest}
use Rattle.shm_model.specs.Basics.{at}
use Rattle.shm_model.specs.Message.{Call, Envelope, Input, Begin}
use Rattle.shm_model.specs.Calls.{Attachment, Outstanding}
use Rattle.shm_model.specs.Memory.{attach_id, op_of, segment_of}
use Rattle.shm_model.specs.SegmentCalls.{call_envelope}
use Rattle.shm_model.specs.World.{Done, Opening, sites_of}
use Rattle.shm_model.specs.History.{Numbered, has_replied, is_call, is_reply}
use Rattle.shm_laws.proofs.Kernel.Effect.{is_detach, lost}
use Rattle.shm_laws.proofs.Call.Turn.{is_plain}
use Rattle.shm_laws.proofs.Call.Invariant.{awaits, same-call}
use Rattle.shm_laws.proofs.Call.Steps.{at-here, at-there, only}
use Rattle.shm_laws.proofs.Call.Counting.{bit}
use Rattle.shm_laws.proofs.Call.Held.{begun_in, plain-begun, plain-begun_one, plain-renamed, plain-reply}

abbrev pub id_of : Option Attachment → Option ℕ
id_of None = None
id_of (Some x) = Some x.id

pub record Named (o : Opening) (attachments : ℕ → ℕ → Option Attachment) (outstanding : ℕ → Option Outstanding) (numbers : ℕ → ℕ) (sent : List Envelope) (account : List Done) : Type 0 where
  pub names : (s a : ℕ) → segment_of o account s a ≡ id_of (attachments s a)
  pub small : (s a : ℕ) (x : Attachment) → attachments s a ≡ Some x → a < 64
  pub asked : (s n : ℕ) (cred : Cred) (id : ℕ) (ro : Bool) → outstanding s ≡ awaits n (Attach cred id ro) → attach_id (op_of account s n) ≡ Some id
  pub unheard : (s n : ℕ) (op : Op) → outstanding s ≡ awaits n op → has_replied account s n ≡ false
  pub begun : (e : Envelope) (n : ℕ) (op : Op) → Contains sent e → e.message ≡ Call n op → (id : ℕ) → begun_in o account (record { site = e.from; number = n; op = op }) id ≡ lost op id
  pub later : (x : Numbered) (id : ℕ) → numbers x.site < x.number → begun_in o account x id ≡ 0

pub cond-same : {X : Type 0} (b : Bool) (x y : X) → x ≡ y → (if b then x else y) ≡ y
cond-same true x y same = same
cond-same false x y same = refl

pub or-none : (a b c : Bool) → b ≡ false → ((a && b) || c) ≡ c
or-none true b c none = rw none
or-none false b c none = refl

add-none : (b : Bool) (n : ℕ) → b ≡ false → bit b + n ≡ n
add-none b n none = rw none (omega arith)

same-message : (n m : ℕ) (op p : Op) → Call n op ≡ Call m p → (n ≡ m) × (op ≡ p)
same-message n m op p h = (cc, cc)

called-here : (s t m n : ℕ) (op : Op) (earlier : Option Op) → s ≡ t → m ≡ n → (if s == t then (if m == n then Some op else earlier) else earlier) ≡ Some op
called-here s t m n op earlier same number = grind (arith, nat_tests)

called-there : (s t m n : ℕ) (op : Op) (earlier : Option Op) → (s ≡ t → ⊥) → (if s == t then (if m == n then Some op else earlier) else earlier) ≡ earlier
called-there s t m n op earlier other = grind (arith, nat_tests)

module _ (o : Opening) (attachments : ℕ → ℕ → Option Attachment) (outstanding : ℕ → Option Outstanding) (numbers : ℕ → ℕ) (sent : List Envelope) (account : List Done)
    (named : Named o attachments outstanding numbers sent account) (s : ℕ) where
  -- an answer of no call changes nothing
  pub plain-names : (input : Option Input) (answer : Answer) → is_plain answer ≡ true → (t a : ℕ) → segment_of o (record { site = s; input = input; answer = answer } ∷ account) t a ≡ segment_of o account t a
  plain-names input answer plain t a = cond-same (s == t) _ _ (plain-renamed input answer (op_of account t) a (segment_of o account t a) plain)

  pub plain-replied : (input : Option Input) (answer : Answer) → ((n : ℕ) → is_reply s n answer ≡ false) → (t n : ℕ)
      → has_replied (record { site = s; input = input; answer = answer } ∷ account) t n ≡ has_replied account t n
  plain-replied input answer none t n = or-none (s == t) (is_reply s n answer) (has_replied account t n) (none n)

  pub plain-named : (input : Option Input) (answer : Answer) (more : List Envelope) → is_plain answer ≡ true
      → ((e : Envelope) (n : ℕ) (op : Op) → Contains (sent ++ more) e → e.message ≡ Call n op → Contains sent e)
      → Named o attachments outstanding numbers (sent ++ more) (record { site = s; input = input; answer = answer } ∷ account)
  plain-named input answer more plain known = record {
    names = λ t a. plain-names input answer plain t a ∙ named.names t a;
    small = named.small;
    asked = λ t n cred id ro is. ap attach_id (cond-same (s == t) _ _ (plain-begun input answer n (op_of account t n) plain)) ∙ named.asked t n cred id ro is;
    unheard = λ t n op is. plain-replied input answer (λ m. plain-reply s m answer plain) t n ∙ named.unheard t n op is;
    begun = λ e n op found is id. add-none _ _ (plain-begun_one input answer s (segment_of o account s) (record { site = e.from; number = n; op = op }) id plain)
        ∙ named.begun e n op (known e n op found is) is id;
    later = λ x id high. add-none _ _ (plain-begun_one input answer s (segment_of o account s) x id plain) ∙ named.later x id high;
  }

  -- a call begins
  module _ (op : Op) (most : (e : Envelope) (n : ℕ) (p : Op) → Contains sent e → e.message ≡ Call n p → n ≤ numbers e.from)
      (fresh : has_replied account s (numbers s + 1) ≡ false) where
    abbrev pub next : ℕ
    next = numbers s + 1

    abbrev begun_done : Input → Done
    begun_done input = record { site = s; input = Some input; answer = Began next }

    pub begun-unheard : (input : Input) (t n : ℕ) (p : Op) → (s ≡ t) ⊎ (s ≡ t → ⊥) → at outstanding s (awaits next op) t ≡ awaits n p → has_replied (begun_done input ∷ account) t n ≡ false
    begun-unheard input t n p (inl same) is =
        let number : next ≡ n = (same-call next n op p (sym (at-here outstanding s (awaits next op) t same) ∙ is)).0 in
        plain-replied (Some input) (Began next) (λ m. refl) t n
        ∙ subst (λ x. has_replied account x n ≡ false) same (subst (λ x. has_replied account s x ≡ false) number fresh)
    begun-unheard input t n p (inr other) is =
        plain-replied (Some input) (Began next) (λ m. refl) t n ∙ named.unheard t n p (sym (at-there outstanding s (awaits next op) t other) ∙ is)

    pub above-numbers : (t n : ℕ) → at numbers s next t < n → (numbers t < n) × ((s ≡ t) → next ≢ n)
    above-numbers t n high = elim (cases_eq s t) [
      | inl same ↦ (let h = at-here numbers s next t same in let k = ap numbers same in ((omega arith), λ p q. omega arith))
      | inr other ↦ (let h = at-there numbers s next t other in ((omega arith), λ p q. absurd (other p)))
    ]

    pub not-this : (x : Numbered) → ((s ≡ x.site) → next ≢ x.number) → is_call s next x ≡ false
    not-this x other = elim (cases_Bool (is_call s next x)) [
      | inl hit ↦ (let same : (x.site ≡ s) × (x.number ≡ next) = grind (arith, nat_tests) in absurd (other (sym same.0) (sym same.1)))
      | inr none ↦ none
    ]

    pub sent-before : (e : Envelope) (n : ℕ) (p : Op) → Contains sent e → e.message ≡ Call n p → (s ≡ e.from) → next ≢ n
    sent-before e n p found is same number = let h = most e n p found is in let k = ap numbers same in omega arith

    -- the new call, and those before
    pub begun-cases : (input : Input) (e : Envelope) (n : ℕ) (p : Op) → Contains sent e ⊎ Contains (call_envelope (sites_of o) s next op ∷ []) e → e.message ≡ Call n p → (id : ℕ)
        → (begun_in o (begun_done input ∷ account) (record { site = s; number = next; op = op }) id ≡ lost op id)
        → (Contains sent e → begun_in o (begun_done input ∷ account) (record { site = e.from; number = n; op = p }) id ≡ lost p id)
        → begun_in o (begun_done input ∷ account) (record { site = e.from; number = n; op = p }) id ≡ lost p id
    begun-cases input e n p (inl old) is id here before = before old
    begun-cases input e n p (inr new) is id here before =
        let same = only (call_envelope (sites_of o) s next op) e new in
        let both = same-message next n op p (ap (λ x. x.message) same ∙ is) in
        subst (λ q. begun_in o (begun_done input ∷ account) (record { site = e.from; number = n; op = q }) id ≡ lost q id) both.1
        (subst (λ m. begun_in o (begun_done input ∷ account) (record { site = e.from; number = m; op = op }) id ≡ lost op id) both.0
        (subst (λ f. begun_in o (begun_done input ∷ account) (record { site = f; number = next; op = op }) id ≡ lost op id) (ap (λ x. x.from) same) here))

    -- not a detach
    pub op-named : ((id : ℕ) → is_detach op id ≡ false)
        → Named o attachments (at outstanding s (awaits next op)) (at numbers s next) (sent ++ (call_envelope (sites_of o) s next op ∷ [])) (begun_done (Begin (OpRequest op)) ∷ account)
    op-named undetached = record {
      names = λ t a. cond-same (s == t) _ _ refl ∙ named.names t a;
      small = named.small;
      asked = λ t n cred id ro is. op-asked t n cred id ro (cases_eq s t) is;
      unheard = λ t n p is. begun-unheard (Begin (OpRequest op)) t n p (cases_eq s t) is;
      begun = λ e n p found is id. begun-cases (Begin (OpRequest op)) e n p (Contains-append_cases sent (call_envelope (sites_of o) s next op ∷ []) e found) is id
          (let h = named.later (record { site = s; number = next; op = op }) id (omega arith) in let l : lost op id ≡ 0 = rw (undetached id) in omega arith)
          (λ old. let h = named.begun e n p old is id in omega arith);
      later = λ x id high. let h = named.later x id (above-numbers x.site x.number high).0 in omega arith;
    }
      where
        op-asked : (t n : ℕ) (cred : Cred) (id : ℕ) (ro : Bool) → (s ≡ t) ⊎ (s ≡ t → ⊥) → at outstanding s (awaits next op) t ≡ awaits n (Attach cred id ro)
            → attach_id (op_of (begun_done (Begin (OpRequest op)) ∷ account) t n) ≡ Some id
        op-asked t n cred id ro (inl same) is =
            let both = same-call next n op (Attach cred id ro) (sym (at-here outstanding s (awaits next op) t same) ∙ is) in
            ap attach_id (called-here s t next n op (op_of account t n) same both.0) ∙ ap (λ p. attach_id (Some p)) both.1
        op-asked t n cred id ro (inr other) is =
            ap attach_id (called-there s t next n op (op_of account t n) other) ∙ named.asked t n cred id ro (sym (at-there outstanding s (awaits next op) t other) ∙ is)
