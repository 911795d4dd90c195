-- Each turn keeps the count of who holds a segment.
use Rattle.std.proofs.Common.{◌≡◌, ℕ, zero, suc, ◌+◌, ◌<◌, ◌≤◌, Bool, true, false, ◌&&◌, List, [], ◌∷◌, ◌++◌, find, map, append-nil, Option, Some, None, if◌then◌else◌, ◌==◌, refl, sym, ap, ◌∙◌, subst, arith, inl, inr, Contains, is_none}
use Rattle.std.specs.List.{AllByRecursion, range_with_len}
use Rattle.std.proofs.lemmas.Bool.{cases_Bool}
use Rattle.std.proofs.lemmas.List.Elements.{Contains-append_cases}
use Rattle.shm_model.specs.declared.answer.Answer.{Answer}
use Rattle.shm_model.specs.declared.answer.Answer.TheVariants.{Began, Replied, Took, Dropped}
use Rattle.shm_model.specs.declared.call.Attached.{Attached}
use Rattle.shm_model.specs.declared.call.Cred.{Cred}
use Rattle.shm_model.specs.declared.call.Op.{Op}
use Rattle.shm_model.specs.declared.call.Op.TheVariants.{Attach, Detach}
use Rattle.shm_model.specs.declared.call.Reply.{Reply}
use Rattle.shm_model.specs.declared.call.Reply.TheVariants.{Attached as AttachedReply}
use Rattle.shm_model.specs.declared.call.Request.TheVariants.{Op as OpRequest, DetachAt}
use Rattle.shm_model.specs.Basics.{at}
use Rattle.shm_model.specs.Message.{Call, Replies, Envelope, Input, Begin, Deliver}
use Rattle.shm_model.specs.Calls.{Again, Attachment, Fresh, Kept, Outstanding, freshness, op_home}
use Rattle.shm_model.specs.Memory.{segment_of}
use Rattle.shm_model.specs.SegmentCalls.{call_envelope, purge_envelope, purges, reply_envelope}
use Rattle.shm_model.specs.Site.{least_free}
use Rattle.shm_model.specs.World.{Done, Opening, sites_of}
use Rattle.shm_model.specs.History.{is_attach, is_attached, Numbered, calls_of, has_call, has_replied, is_call, reply_to, with_done}
use Rattle.shm_laws.proofs.Kernel.Effect.{gained, is_detach}
use Rattle.shm_laws.proofs.Call.Turn.{Desk, Repeats, Turn, attachment_of, begun_desk, is_plain, again, attached, detach_begun, ended, executed, hears_purged, old, op_begun, purges_one, quiet}
use Rattle.shm_laws.proofs.Call.Invariant.{awaits, kept_number, view_of}
use Rattle.shm_laws.proofs.Call.Views.{again-kept, at-field, field-same, fresh-above, old-below}
use Rattle.shm_laws.proofs.Call.Executed.{envelope-is, unlisted}
use Rattle.shm_laws.proofs.Call.Run.{Honest}
use Rattle.shm_laws.proofs.Call.Once.{Once, heard, repeat-known, repeated, unheard}
use Rattle.shm_laws.proofs.Call.Counting.{bit}
use Rattle.shm_laws.proofs.Call.Held.{distinct-calls, plain-detach, plain-reply, replied-listed}
use Rattle.shm_laws.proofs.Call.Names.{Named, cond-same, id_of, op-named, or-none, plain-named, plain-names, plain-replied}
use Rattle.shm_laws.proofs.Call.Named.{attach-ended, detach-named, plain-ended}
use Rattle.shm_laws.proofs.Call.Balance.{Balance, attached-held, detach-held, ended-held, entry-op, executed-balance, same-held, unmoved-balance}
use Rattle.shm_laws.proofs.Call.Opened.{CountedBy, NamedBy}
use Rattle.shm_laws.proofs.Kernel.Lists.{every-contains, every-weaker, find-passes, found-holds}

named-by : (o : Opening) (d e : ℕ → Desk) (sent : List Envelope) (account : List Done) (a : ℕ → ℕ → Option Attachment) (out : ℕ → Option Outstanding) (num : ℕ → ℕ)
    → (λ t. (e t).attachments) ≡ a → (λ t. (e t).outstanding) ≡ out → (λ t. (e t).calls) ≡ num → Named o a out num sent account → NamedBy o e sent account
named-by o d e sent account a out num p q r named =
    subst (λ x. Named o x (λ t. (e t).outstanding) (λ t. (e t).calls) sent account) (sym p)
    (subst (λ x. Named o a x (λ t. (e t).calls) sent account) (sym q) (subst (λ x. Named o a out x sent account) (sym r) named))

-- the least free number is free
range-below : (from n : ℕ) → AllByRecursion (λ a. a < from + n) (range_with_len from n)
range-below from zero = tt
range-below from (suc n) = (omega arith, every-weaker (λ a. a < (from + 1) + n) (λ a. a < from + suc n) (λ a low. omega arith) (range_with_len (from + 1) n) (range-below (from + 1) n))

none-is : (x : Option Attachment) → is_none x ≡ true → x ≡ None
none-is None h = refl
none-is (Some x) h = cc

free-found : (attachments : ℕ → Option Attachment) (n a : ℕ) → find (λ b. is_none (attachments b)) (range_with_len 0 n) ≡ Some a → (attachments a ≡ None) × (a < n)
free-found attachments n a found = (
  none-is (attachments a) (find-passes (λ b. is_none (attachments b)) (range_with_len 0 n) a found),
  (let h = found-holds (λ b. b < 0 + n) (λ b. is_none (attachments b)) (range_with_len 0 n) a (range-below 0 n) found in omega arith),
)

least-free : (attachments : ℕ → Option Attachment) (a : ℕ) → least_free attachments ≡ Some a → (attachments a ≡ None) × (a < 64)
unfolding least_free
least-free attachments a found = free-found attachments 64 a found

pub again-low : (kept : ℕ → Option Kept) (from n : ℕ) (reply : Reply) → freshness (kept from) n ≡ Again reply → n ≤ kept_number (kept from)
again-low kept from n reply fresh =
    let k = again-kept (kept from) n reply fresh in
    let same : kept_number (kept from) ≡ n = ap kept_number k.1 ∙ k.2 in
    omega arith

one-gain : (b : Bool) → (if b && true then 1 else 0) ≡ bit b
one-gain true = refl
one-gain false = refl

-- an envelope that is no call
abbrev NoCall : Envelope → Type 0
NoCall e = (n : ℕ) (p : Op) → e.message ≡ Call n p → ⊥

all-purges : (me id : ℕ) (xs : List ℕ) → AllByRecursion NoCall (map (purge_envelope me id) xs)
all-purges me id [] = tt
all-purges me id (x ∷ xs) = ((λ n p is. cc), all-purges me id xs)

no-call-purges : (sites me : ℕ) (gone : Option ℕ) → AllByRecursion NoCall (purges sites me gone)
no-call-purges sites me None = tt
no-call-purges sites me (Some id) = all-purges me id (range_with_len 0 sites)

no-call-reply : (me to n : ℕ) (reply : Reply) → NoCall (reply_envelope me to n reply)
no-call-reply me to n reply m p is = cc

module _ (o : Opening) (d : ℕ → Desk) (sent : List Envelope) (account : List Done) (s : ℕ) (counted : CountedBy o d sent account) (below : s < sites_of o) where
  abbrev calls : List Numbered
  calls = calls_of account

  abbrev Next : Input → Desk → Answer → List Envelope → Type 0
  Next input x answer more = CountedBy o (at d s x) (sent ++ more) (record { site = s; input = Some input; answer = answer } ∷ account)

  abbrev tell : Input → Answer → Done
  tell input answer = record { site = s; input = Some input; answer = answer }

  unreplied : (t n : ℕ) → has_call t n calls ≡ false → has_replied account t n ≡ false
  unreplied t n new = elim (cases_Bool (has_replied account t n)) [
    | inl replied ↦ (let h = replied-listed o calls account t n counted.once.answered replied in cc)
    | inr none ↦ none
  ]

  below-calls : (e : Envelope) (n : ℕ) (p : Op) → Contains sent e → e.message ≡ Call n p → n ≤ (d e.from).calls
  below-calls e n p found is = (counted.once.call e n p found is).most

  -- the next number has no call yet
  next-new : has_call s ((d s).calls + 1) calls ≡ false
  next-new = elim (cases_Bool (has_call s ((d s).calls + 1) calls)) [
    | inl listed ↦ (let l = counted.once.listed s ((d s).calls + 1) listed in
        let h = below-calls (call_envelope (sites_of o) s ((d s).calls + 1) l.op) ((d s).calls + 1) l.op l.sent refl in absurd (omega arith))
    | inr none ↦ none
  ]

  -- an answer of no call, and no new call
  silent-next : (input : Input) (x : Desk) (answer : Answer) (more : List Envelope) → Once o (at d s x) (sent ++ more) (tell input answer ∷ account)
      → is_plain answer ≡ true → with_done (Some input) answer calls ≡ calls → x.attachments ≡ (d s).attachments → x.outstanding ≡ (d s).outstanding → x.calls ≡ (d s).calls
      → ((e : Envelope) (n : ℕ) (p : Op) → Contains (sent ++ more) e → e.message ≡ Call n p → Contains sent e) → Next input x answer more
  silent-next input x answer more once plain same a q n known = record {
    once = once;
    named = named-by o d (at d s x) (sent ++ more) (tell input answer ∷ account) _ _ _
        (field-same (λ y. y.attachments) d s x a) (field-same (λ y. y.outstanding) d s x q) (field-same (λ y. y.calls) d s x n)
        (plain-named o _ _ _ sent account counted.named s (Some input) answer more plain known);
    balance = subst (Balance o (sent ++ more) (tell input answer ∷ account)) (sym same)
        (unmoved-balance o sent account calls counted.balance more (tell input answer)
        (same-held o sent account calls counted.balance (tell input answer) (plain-names o _ _ _ sent account counted.named s (Some input) answer plain)
        (plain-replied o _ _ _ sent account counted.named s (Some input) answer (λ m. plain-reply s m answer plain))
        (λ i. plain-detach (Some input) answer s (segment_of o account s) calls i plain)));
  }

  no-new : (more : List Envelope) → AllByRecursion NoCall more → (e : Envelope) (n : ℕ) (p : Op) → Contains (sent ++ more) e → e.message ≡ Call n p → Contains sent e
  no-new more none e n p found is = elim (Contains-append_cases sent more e found) [
    | inl before ↦ before
    | inr now ↦ absurd (every-contains NoCall more e none now n p is)
  ]

  repeats-old : (more : List Envelope) → AllByRecursion (Repeats (sites_of o) s (d s)) more → (e : Envelope) (n : ℕ) (p : Op) → Contains (sent ++ more) e → e.message ≡ Call n p → Contains sent e
  repeats-old more repeats e n p found is = elim (Contains-append_cases sent more e found) [
    | inl before ↦ before
    | inr now ↦ (repeat-known o d sent account s counted.once below e (every-contains (Repeats (sites_of o) s (d s)) more e repeats now)).call n p is
  ]

  op-next : (op : Op) (x : Desk) (more : List Envelope) → more ≡ call_envelope (sites_of o) s ((d s).calls + 1) op ∷ [] → x ≡ begun_desk op (d s) → ((id : ℕ) → is_detach op id ≡ false)
      → Once o (at d s x) (sent ++ more) (tell (Begin (OpRequest op)) (Began ((d s).calls + 1)) ∷ account) → Next (Begin (OpRequest op)) x (Began ((d s).calls + 1)) more
  op-next op x more is desk undetached once =
      let done = tell (Begin (OpRequest op)) (Began ((d s).calls + 1)) in
      record {
        once = once;
        named = subst (λ y. NamedBy o (at d s y) (sent ++ more) (done ∷ account)) (sym desk)
            (subst (λ ms. NamedBy o (at d s (begun_desk op (d s))) (sent ++ ms) (done ∷ account)) (sym is)
            (named-by o d (at d s (begun_desk op (d s))) _ (done ∷ account) _ _ _
            (field-same (λ y. y.attachments) d s (begun_desk op (d s)) refl) (at-field (λ y. y.outstanding) d s (begun_desk op (d s))) (at-field (λ y. y.calls) d s (begun_desk op (d s)))
            (op-named o _ _ _ sent account counted.named s op below-calls (unreplied s ((d s).calls + 1) next-new) undetached)));
        balance = unmoved-balance o sent account calls counted.balance more done
            (same-held o sent account calls counted.balance done (λ t a. cond-same (s == t) _ _ refl) (λ t n. or-none (s == t) false (has_replied account t n) refl) (λ i. refl));
      }

  detach-next : (a : ℕ) (y : Attachment) (x : Desk) (more : List Envelope) → more ≡ call_envelope (sites_of o) s ((d s).calls + 1) (Detach y.id) ∷ []
      → x ≡ begun_desk (Detach y.id) (record (d s) { attachments = at (d s).attachments a None }) → (d s).attachments a ≡ Some y
      → Once o (at d s x) (sent ++ more) (tell (Begin (DetachAt a)) (Began ((d s).calls + 1)) ∷ account) → Next (Begin (DetachAt a)) x (Began ((d s).calls + 1)) more
  detach-next a y x more is desk stands once =
      let done = tell (Begin (DetachAt a)) (Began ((d s).calls + 1)) in
      let now = begun_desk (Detach y.id) (record (d s) { attachments = at (d s).attachments a None }) in
      record {
        once = once;
        named = subst (λ z. NamedBy o (at d s z) (sent ++ more) (done ∷ account)) (sym desk)
            (subst (λ ms. NamedBy o (at d s now) (sent ++ ms) (done ∷ account)) (sym is)
            (named-by o d (at d s now) _ (done ∷ account) _ _ _
            (at-field (λ z. z.attachments) d s now) (at-field (λ z. z.outstanding) d s now) (at-field (λ z. z.calls) d s now)
            (detach-named o _ _ _ sent account counted.named s a y stands below-calls (unreplied s ((d s).calls + 1) next-new))));
        balance = unmoved-balance o sent account calls counted.balance more done
            (λ i. detach-held o account calls s a i ((d s).calls + 1) below (counted.named.small s a y stands) next-new);
      }

  executed-next : (e : Envelope) (n : ℕ) (op : Op) (x : Desk) (more : List Envelope) → Contains sent e → e.to ≡ s → e.message ≡ Call n op → freshness ((d s).kept e.from) n ≡ Fresh
      → x.attachments ≡ (d s).attachments → x.outstanding ≡ (d s).outstanding → x.calls ≡ (d s).calls
      → ((f : Envelope) (m : ℕ) (p : Op) → Contains (sent ++ more) f → f.message ≡ Call m p → Contains sent f)
      → Once o (at d s x) (sent ++ more) (tell (Deliver e) Took ∷ account) → Next (Deliver e) x Took more
  executed-next e n op x more found to is fresh a q k known once =
      let above : kept_number ((d s).kept e.from) < n = fresh-above ((d s).kept e.from) n (counted.once.call e n op found is).least fresh in
      let new = unlisted o (view_of d) sent calls account counted.once s below e n op to found is above in
      let home : op_home (sites_of o) e.from op ≡ s = sym (counted.once.call e n op found is).home ∙ to in
      let done = tell (Deliver e) Took in
      record {
        once = once;
        named = named-by o d (at d s x) (sent ++ more) (done ∷ account) _ _ _
            (field-same (λ y. y.attachments) d s x a) (field-same (λ y. y.outstanding) d s x q) (field-same (λ y. y.calls) d s x k)
            (plain-named o _ _ _ sent account counted.named s (Some (Deliver e)) Took more refl known);
        balance = subst (Balance o (sent ++ more) (done ∷ account)) (sym (heard e n op Took calls false is refl new))
            (executed-balance o sent account calls counted.balance (record { site = e.from; number = n; op = op }) new (unreplied e.from n new)
            (subst (λ h. h < sites_of o) (sym home) below)
            (subst (Contains sent) (envelope-is o (view_of d) sent calls account counted.once s below e n op to found is above) found)
            (counted.named.begun e n op found is) more done
            (plain-names o _ _ _ sent account counted.named s (Some (Deliver e)) Took refl)
            (plain-replied o _ _ _ sent account counted.named s (Some (Deliver e)) Took (λ m. refl)) (λ i. refl));
      }

  -- the entries of a call have its op
  ops-of : (n : ℕ) (op : Op) → (d s).outstanding ≡ awaits n op → AllByRecursion (λ c. is_call s n c ≡ true → c.op ≡ op) calls
  ops-of n op outstanding = every-weaker _ _ (λ c listed hit. entry-op o sent account calls counted.balance counted.once.one s n op (counted.once.last s n op outstanding).1 c listed hit)
      calls counted.balance.entries

  known-of : (e : Envelope) (n : ℕ) (reply : Reply) → Contains sent e → e.to ≡ s → e.message ≡ Replies n reply → reply_to o calls s n ≡ Some reply
  known-of e n reply found to is = subst (λ t. reply_to o calls t n ≡ Some reply) to (counted.once.replies e n reply found is)

  no-gain : (op : Op) (reply : Reply) (i : ℕ) → (is_attach op i && is_attached (Some reply)) ≡ false → gained op reply i ≡ 0
  no-gain op reply i none = rw none

  ended-next : (e : Envelope) (n : ℕ) (op : Op) (reply : Reply) → Contains sent e → e.to ≡ s → e.message ≡ Replies n reply → (d s).outstanding ≡ awaits n op
      → ((i : ℕ) → (is_attach op i && is_attached (Some reply)) ≡ false)
      → Once o (at d s (record (d s) { outstanding = None })) (sent ++ []) (tell (Deliver e) (Replied n reply None) ∷ account)
      → Next (Deliver e) (record (d s) { outstanding = None }) (Replied n reply None) []
  ended-next e n op reply found to is outstanding unattached once =
      let done = tell (Deliver e) (Replied n reply None) in
      let x = record (d s) { outstanding = None } in
      record {
        once = once;
        named = subst (λ es. NamedBy o (at d s x) es (done ∷ account)) (sym (append-nil sent))
            (named-by o d (at d s x) sent (done ∷ account) _ _ _
            (field-same (λ y. y.attachments) d s x refl) (at-field (λ y. y.outstanding) d s x) (field-same (λ y. y.calls) d s x refl)
            (plain-ended o _ _ _ sent account counted.named s e n reply));
        balance = subst (Balance o (sent ++ []) (done ∷ account)) (sym (unheard e _ (Replied n reply None) calls is refl refl))
            (unmoved-balance o sent account calls counted.balance [] done
            (λ i. ended-held o account calls s e n op reply i (counted.named.unheard s n op outstanding) (known-of e n reply found to is) (distinct-calls account)
            (ops-of n op outstanding) (no-gain op reply i (unattached i))));
      }

  attached-next : (e : Envelope) (n : ℕ) (cred : Cred) (id : ℕ) (ro : Bool) (y : Attached) (a : ℕ) → Contains sent e → e.to ≡ s → e.message ≡ Replies n (AttachedReply y)
      → (d s).outstanding ≡ awaits n (Attach cred id ro) → least_free (d s).attachments ≡ Some a
      → Once o (at d s (record (d s) { outstanding = None; attachments = at (d s).attachments a (Some (attachment_of id y)) })) (sent ++ []) (tell (Deliver e) (Replied n (AttachedReply y) (Some a)) ∷ account)
      → Next (Deliver e) (record (d s) { outstanding = None; attachments = at (d s).attachments a (Some (attachment_of id y)) }) (Replied n (AttachedReply y) (Some a)) []
  attached-next e n cred id ro y a found to is outstanding free once =
      let reply = AttachedReply y in
      let op = Attach cred id ro in
      let done = tell (Deliver e) (Replied n reply (Some a)) in
      let x = record (d s) { outstanding = None; attachments = at (d s).attachments a (Some (attachment_of id y)) } in
      let open' = least-free (d s).attachments a free in
      let asked = counted.named.asked s n cred id ro outstanding in
      record {
        once = once;
        named = subst (λ es. NamedBy o (at d s x) es (done ∷ account)) (sym (append-nil sent))
            (named-by o d (at d s x) sent (done ∷ account) _ _ _
            (at-field (λ z. z.attachments) d s x) (at-field (λ z. z.outstanding) d s x) (field-same (λ z. z.calls) d s x refl)
            (attach-ended o _ _ _ sent account counted.named s e n reply a (attachment_of id y) open'.1 asked));
        balance = subst (Balance o (sent ++ []) (done ∷ account)) (sym (unheard e _ (Replied n reply (Some a)) calls is refl refl))
            (unmoved-balance o sent account calls counted.balance [] done
            (λ i. attached-held o account calls s e n op reply a id i below open'.1 (counted.named.unheard s n op outstanding) (known-of e n reply found to is) (distinct-calls account)
            (ops-of n op outstanding) (one-gain (id == i)) (counted.named.names s a ∙ ap id_of open'.0) asked));
      }

  pub counted-after : (input : Input) (x : Desk) (answer : Answer) (more : List Envelope) → Honest sent s input → Once o (at d s x) (sent ++ more) (tell input answer ∷ account)
      → Turn (sites_of o) s (d s) input x answer more → Next input x answer more
  counted-after input x answer more fair once (quiet i b ms silent plain repeats) =
      silent-next i (d s) b ms once plain (silent calls) refl refl refl (repeats-old ms repeats)
  counted-after input x answer more fair once (op_begun op free undetached) = op-next op _ _ refl refl undetached once
  counted-after input x answer more fair once (detach_begun a y free stands) = detach-next a y _ _ refl refl stands once
  counted-after input x answer more fair once (executed e n op is fresh) =
      executed-next e n op _ _ fair.0 fair.1 is fresh refl refl refl (no-new _ (no-call-reply s e.from n _, no-call-purges (sites_of o) s _)) once
  counted-after input x answer more fair once (again e n op reply is fresh) =
      silent-next (Deliver e) (d s) Took _ once refl (repeated o d sent account s counted.once below e n op Took fair.0 fair.1 is refl (again-low (d s).kept e.from n reply fresh))
      refl refl refl (no-new _ (no-call-reply s e.from n reply, tt))
  counted-after input x answer more fair once (old e n op is fresh) =
      silent-next (Deliver e) (d s) Dropped [] once refl
      (repeated o d sent account s counted.once below e n op Dropped fair.0 fair.1 is refl (old-below ((d s).kept e.from) n (counted.once.call e n op fair.0 is).least fresh))
      refl refl refl (no-new [] tt)
  counted-after input x answer more fair once (ended e n op reply is outstanding unattached) = ended-next e n op reply fair.0 fair.1 is outstanding unattached once
  counted-after input x answer more fair once (attached e n cred id ro y a is outstanding free) = attached-next e n cred id ro y a fair.0 fair.1 is outstanding free once
  counted-after input x answer more fair once (purges_one e id is) =
      silent-next (Deliver e) _ Took _ once refl (unheard e _ Took calls is refl refl) refl refl refl (no-new _ ((λ n p h. cc), tt))
  counted-after input x answer more fair once (hears_purged e id is) =
      silent-next (Deliver e) _ Took [] once refl (unheard e _ Took calls is refl refl) refl refl refl (no-new [] tt)
