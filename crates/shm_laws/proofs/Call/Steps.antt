-- The invariant of segment calls is kept by each kind of turn: nothing new is sent, a call begins, a call ends.
use Rattle.std.proofs.Common.{◌≡◌, ◌≢◌, ℕ, zero, ◌+◌, ◌<◌, ◌≤◌, suc, List, [], ◌∷◌, ◌++◌, Some, None, refl, sym, ap, ◌∙◌, subst, arith, Contains, inl, inr, ◌⊎◌}
use Rattle.std.proofs.lemmas.Bool.{cases_eq}
use Rattle.std.proofs.lemmas.List.Elements.{Contains-append_cases, Contains-append_left, Contains-push}
use Rattle.shm_model.specs.declared.call.Op.{Op}
use Rattle.shm_model.specs.declared.call.Reply.{Reply}
use Rattle.shm_model.specs.Basics.{at}
use Rattle.shm_model.specs.Message.{Call, Replies, Envelope}
use Rattle.shm_model.specs.Calls.{op_home}
use Rattle.shm_model.specs.SegmentCalls.{call_envelope}
use Rattle.shm_model.specs.World.{Done, Opening, sites_of}
use Rattle.shm_model.specs.History.{Numbered, reply_to}
use Rattle.shm_laws.proofs.Call.Invariant.{Answered, Holds, Sent, View, at-cases, awaits, same-call, kept_number, reply-listed}

-- envelopes that bring nothing new of calls, and replies of the kernel alone
pub record Known (o : Opening) (calls : List Numbered) (before more : List Envelope) : Type 0 where
  pub call : (e : Envelope) (n : ℕ) (op : Op) → Contains more e → e.message ≡ Call n op → Contains before e
  pub reply : (e : Envelope) (n : ℕ) (reply : Reply) → Contains more e → e.message ≡ Replies n reply → reply_to o calls e.to n ≡ Some reply

pub only : {X : Type 0} (x y : X) → Contains (x ∷ []) y → x ≡ y
only x y (zero, within, is) = is
only x y (suc k, within, is) = absurd (omega arith)

pub at-here : {X : Type 0} (f : ℕ → X) (k : ℕ) (x : X) (j : ℕ) → k ≡ j → at f k x j ≡ x
at-here f k x j same = at-cases (λ y. y ≡ x) f k x j (λ h. refl) (λ h. absurd (h same))

pub at-there : {X : Type 0} (f : ℕ → X) (k : ℕ) (x : X) (j : ℕ) → k ≢ j → at f k x j ≡ f j
at-there f k x j other = at-cases (λ y. y ≡ f j) f k x j (λ h. absurd (other h)) (λ h. refl)

module _ (o : Opening) (v : View) (sent : List Envelope) (calls : List Numbered) (account : List Done) (holds : Holds o v sent calls account) where
  -- nothing new is sent
  pub grown : (more : List Envelope) (d : Done) → Known o calls sent more → Answered o calls d → Holds o v (sent ++ more) calls (d ∷ account)
  grown more d known told = record {
    call = λ e n op found is. holds.call e n op (old e n op found is) is;
    one = λ e f n op other p q same is was. holds.one e f n op other (old e n op p is) (old f n other q was) same is was;
    last = λ s n op is. ((holds.last s n op is).0, Contains-append_left sent more _ (holds.last s n op is).1);
    kept = holds.kept;
    bound = holds.bound;
    listed = λ s n h. let l = holds.listed s n h in record { op = l.op; sent = Contains-append_left sent more _ l.sent; kept = l.kept };
    table = holds.table;
    keys = holds.keys;
    replies = λ e n reply found is. replied e n reply (Contains-append_cases sent more e found) is;
    answered = (told, holds.answered);
  }
    where
      old : (e : Envelope) (n : ℕ) (op : Op) → Contains (sent ++ more) e → e.message ≡ Call n op → Contains sent e
      old e n op found is = elim (Contains-append_cases sent more e found) [ inl h ↦ h | inr h ↦ known.call e n op h is ]

      replied : (e : Envelope) (n : ℕ) (reply : Reply) → Contains sent e ⊎ Contains more e → e.message ≡ Replies n reply → reply_to o calls e.to n ≡ Some reply
      replied e n reply (inl h) is = holds.replies e n reply h is
      replied e n reply (inr h) is = known.reply e n reply h is

  -- an answer that is no reply, or the kernel's
  pub told : (d : Done) → Answered o calls d → Holds o v sent calls (d ∷ account)
  told d answer = record {
    call = holds.call;
    one = holds.one;
    last = holds.last;
    kept = holds.kept;
    bound = holds.bound;
    listed = holds.listed;
    table = holds.table;
    keys = holds.keys;
    replies = holds.replies;
    answered = (answer, holds.answered);
  }

  -- a call begins
  module _ (s : ℕ) (op : Op) (free : v.outstanding s ≡ None) where
    abbrev pub begun_call : Envelope
    begun_call = call_envelope (sites_of o) s (v.calls s + 1) op

    abbrev pub begun_view : View
    begun_view = record v {
      calls = at v.calls s (v.calls s + 1);
      outstanding = at v.outstanding s (awaits (v.calls s + 1) op);
    }

    calls-grow : (t : ℕ) → v.calls t ≤ at v.calls s (v.calls s + 1) t
    calls-grow t = at-cases (λ x. v.calls t ≤ x) v.calls s (v.calls s + 1) t (λ same. let h = ap v.calls same in omega arith) (λ other. omega arith)

    old-sent : (e : Envelope) (n : ℕ) (p : Op) → Contains sent e → e.message ≡ Call n p → Sent (sites_of o) begun_view calls e n p
    old-sent e n p found is = let q = holds.call e n p found is in record {
      home = q.home;
      least = q.least;
      most = let h = q.most in omega (arith, calls-grow e.from);
      above = λ low. at-cases (λ x. x ≡ awaits n p) v.outstanding s _ e.from
          (λ same. let h = q.above low in let k = ap v.outstanding same in cc) (λ other. q.above low);
      listed = q.listed;
    }

    new-sent : Sent (sites_of o) begun_view calls begun_call (v.calls s + 1) op
    new-sent = record {
      home = refl;
      least = omega arith;
      most = let h = at-here v.calls s (v.calls s + 1) s refl in omega arith;
      above = λ low. at-here v.outstanding s _ s refl;
      listed = λ high. let h = holds.bound (op_home (sites_of o) s op) s in absurd (omega arith);
    }

    same-sent : (e : Envelope) (n : ℕ) (p : Op) → begun_call ≡ e → v.calls s + 1 ≡ n → op ≡ p → Sent (sites_of o) begun_view calls e n p
    same-sent e n p is number same =
        subst (λ x. Sent (sites_of o) begun_view calls x n p) is
        (subst (λ x. Sent (sites_of o) begun_view calls begun_call x p) number
        (subst (λ x. Sent (sites_of o) begun_view calls begun_call (v.calls s + 1) x) same new-sent))

    begun-number : (e : Envelope) (n : ℕ) (p : Op) → begun_call ≡ e → e.message ≡ Call n p → (v.calls s + 1 ≡ n) × (op ≡ p)
    begun-number e n p same is = let h : Call (v.calls s + 1) op ≡ Call n p = ap (λ x. x.message) same ∙ is in (cc, cc)

    begun-sent : (e : Envelope) (n : ℕ) (p : Op) → Contains sent e ⊎ Contains (begun_call ∷ []) e → e.message ≡ Call n p → Sent (sites_of o) begun_view calls e n p
    begun-sent e n p (inl h) is = old-sent e n p h is
    begun-sent e n p (inr h) is = let k = begun-number e n p (only begun_call e h) is in same-sent e n p (only begun_call e h) k.0 k.1

    -- an earlier call has a lesser number
    not-new : (e f : Envelope) (n : ℕ) (p q : Op) → begun_call ≡ e → Contains sent f → e.from ≡ f.from → e.message ≡ Call n p → f.message ≡ Call n q → ⊥
    not-new e f n p q new old same is was =
        let number = (begun-number e n p new is).0 in
        let most = (holds.call f n q old was).most in
        let from : s ≡ f.from = ap (λ x. x.from) new ∙ same in
        let calls' = ap v.calls from in
        omega arith

    begun-one : (e f : Envelope) (n : ℕ) (p q : Op) → Contains sent e ⊎ Contains (begun_call ∷ []) e → Contains sent f ⊎ Contains (begun_call ∷ []) f
        → e.from ≡ f.from → e.message ≡ Call n p → f.message ≡ Call n q → p ≡ q
    begun-one e f n p q (inl x) (inl y) same is was = holds.one e f n p q x y same is was
    begun-one e f n p q (inl x) (inr y) same is was = absurd (not-new f e n q p (only begun_call f y) x (sym same) was is)
    begun-one e f n p q (inr x) (inl y) same is was = absurd (not-new e f n p q (only begun_call e x) y same is was)
    begun-one e f n p q (inr x) (inr y) same is was = sym (begun-number e n p (only begun_call e x) is).1 ∙ (begun-number f n q (only begun_call f y) was).1

    begun-last : (t n : ℕ) (p : Op) → (s ≡ t) ⊎ (s ≡ t → ⊥) → begun_view.outstanding t ≡ awaits n p
        → (n ≡ begun_view.calls t) × Contains (sent ++ (begun_call ∷ [])) (call_envelope (sites_of o) t n p)
    begun-last t n p (inl same) is =
        let h : awaits (v.calls s + 1) op ≡ awaits n p = sym (at-here v.outstanding s _ t same) ∙ is in
        let both = same-call (v.calls s + 1) n op p h in
        let number : v.calls s + 1 ≡ n = both.0 in
        let ops : op ≡ p = both.1 in (
          sym number ∙ sym (at-here v.calls s (v.calls s + 1) t same),
          subst (λ x. Contains (sent ++ (begun_call ∷ [])) (call_envelope (sites_of o) x n p)) same
              (subst (λ x. Contains (sent ++ (begun_call ∷ [])) (call_envelope (sites_of o) s x p)) number
              (subst (λ x. Contains (sent ++ (begun_call ∷ [])) (call_envelope (sites_of o) s (v.calls s + 1) x)) ops
              (Contains-push sent begun_call))),
        )
    begun-last t n p (inr other) is =
        let h = holds.last t n p (sym (at-there v.outstanding s _ t other) ∙ is) in
        (h.0 ∙ sym (at-there v.calls s (v.calls s + 1) t other), Contains-append_left sent (begun_call ∷ []) _ h.1)

    begun-replies : (e : Envelope) (n : ℕ) (reply : Reply) → Contains sent e ⊎ Contains (begun_call ∷ []) e → e.message ≡ Replies n reply → reply_to o calls e.to n ≡ Some reply
    begun-replies e n reply (inl h) is = holds.replies e n reply h is
    begun-replies e n reply (inr h) is = let k = ap (λ x. x.message) (only begun_call e h) in cc

    pub begins : Holds o begun_view (sent ++ (begun_call ∷ [])) calls account
    begins = record {
      call = λ e n p found is. begun-sent e n p (Contains-append_cases sent (begun_call ∷ []) e found) is;
      one = λ e f n p q x y same is was. begun-one e f n p q (Contains-append_cases sent (begun_call ∷ []) e x) (Contains-append_cases sent (begun_call ∷ []) f y) same is was;
      last = λ t n p is. begun-last t n p (cases_eq s t) is;
      kept = holds.kept;
      bound = λ h t. let k = holds.bound h t in omega (arith, calls-grow t);
      listed = λ t n h. let l = holds.listed t n h in record { op = l.op; sent = Contains-append_left sent (begun_call ∷ []) _ l.sent; kept = l.kept };
      table = holds.table;
      keys = holds.keys;
      replies = λ e n reply found is. begun-replies e n reply (Contains-append_cases sent (begun_call ∷ []) e found) is;
      answered = holds.answered;
    }

  -- a call whose reply was sent ends
  module _ (s n : ℕ) (op : Op) (reply : Reply) (outstanding : v.outstanding s ≡ awaits n op) (known : reply_to o calls s n ≡ Some reply) where
    abbrev pub ended_view : View
    ended_view = record v { outstanding = at v.outstanding s None }

    -- no call of the site is above the number that is kept for it
    not-above : (e : Envelope) (m : ℕ) (p : Op) → Contains sent e → e.message ≡ Call m p → s ≡ e.from → kept_number (v.kept e.to e.from) < m → ⊥
    not-above e m p found is same low =
        let q = holds.call e m p found is in
        let awaited : awaits n op ≡ awaits m p = sym outstanding ∙ (ap v.outstanding same ∙ q.above low) in
        let number : n ≡ m = (same-call n m op p awaited).0 in
        let listed = holds.listed s n (reply-listed o calls s n reply known) in
        let ops : p ≡ listed.op = holds.one e (call_envelope (sites_of o) s n listed.op) m p listed.op found listed.sent (sym same) is (ap (λ x. Call x listed.op) number) in
        let home : op_home (sites_of o) s listed.op ≡ e.to = ap (λ x. op_home (sites_of o) s x) (sym ops) ∙ (ap (λ x. op_home (sites_of o) x p) same ∙ sym q.home) in
        let kept : n ≤ kept_number (v.kept e.to e.from) =
        subst (λ x. n ≤ kept_number (v.kept e.to x)) same (subst (λ x. n ≤ kept_number (v.kept x s)) home listed.kept) in
        omega arith

    ended-sent : (e : Envelope) (m : ℕ) (p : Op) → Contains sent e → e.message ≡ Call m p → Sent (sites_of o) ended_view calls e m p
    ended-sent e m p found is = let q = holds.call e m p found is in record {
      home = q.home;
      least = q.least;
      most = q.most;
      above = λ low. at-cases (λ x. x ≡ awaits m p) v.outstanding s None e.from
          (λ same. absurd (not-above e m p found is same low)) (λ other. q.above low);
      listed = q.listed;
    }

    ended-last : (t m : ℕ) (p : Op) → (s ≡ t) ⊎ (s ≡ t → ⊥) → ended_view.outstanding t ≡ awaits m p
        → (m ≡ v.calls t) × Contains sent (call_envelope (sites_of o) t m p)
    ended-last t m p (inl same) is = let h = at-here v.outstanding s None t same in cc
    ended-last t m p (inr other) is = holds.last t m p (sym (at-there v.outstanding s None t other) ∙ is)

    pub ends : Holds o ended_view sent calls account
    ends = record {
      call = ended-sent;
      one = holds.one;
      last = λ t m p is. ended-last t m p (cases_eq s t) is;
      kept = holds.kept;
      bound = holds.bound;
      listed = λ t m h. let l = holds.listed t m h in record { op = l.op; sent = l.sent; kept = l.kept };
      table = holds.table;
      keys = holds.keys;
      replies = holds.replies;
      answered = holds.answered;
    }
