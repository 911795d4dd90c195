-- What attachments name, where a detach begins and where a call ends: goes on from Names.
use Rattle.std.proofs.Common.{◌≡◌, ℕ, ◌+◌, ◌<◌, ◌≤◌, Bool, true, false, ◌&&◌, ◌||◌, List, [], ◌∷◌, ◌++◌, Option, Some, None, if◌then◌else◌, ◌==◌, ◌⊎◌, refl, sym, ap, ◌∙◌, subst, arith, inl, inr, Contains}
use Rattle.std.proofs.lemmas.Bool.{cases_eq, eqb-true}
use Rattle.std.proofs.lemmas.Bool.Decides.{nat_tests}
use Rattle.std.proofs.lemmas.List.Elements.{Contains-append_cases}
use Rattle.shm_model.specs.declared.answer.Answer.TheVariants.{Began, Replied}
use Rattle.shm_model.specs.declared.call.Cred.{Cred}
use Rattle.shm_model.specs.declared.call.Op.{Op}
use Rattle.shm_model.specs.declared.call.Op.TheVariants.{Attach, Detach}
use Rattle.shm_model.specs.declared.call.Reply.{Reply}
use Rattle.shm_model.specs.declared.call.Request.TheVariants.{DetachAt}
use Rattle.shm_model.specs.Basics.{at}
use Rattle.shm_model.specs.Message.{Call, Envelope, Begin, Deliver}
use Rattle.shm_model.specs.Calls.{Attachment, Outstanding}
use Rattle.shm_model.specs.Memory.{attach_id, is_segment, op_of, segment_of}
use Rattle.shm_model.specs.SegmentCalls.{call_envelope}
use Rattle.shm_model.specs.World.{Done, Opening, sites_of}
use Rattle.shm_model.specs.History.{has_replied, is_call}
use Rattle.shm_laws.proofs.Kernel.Effect.{lost}
use Rattle.shm_laws.proofs.Call.Invariant.{at-cases, awaits, same-call}
use Rattle.shm_laws.proofs.Call.Steps.{at-here, at-there}
use Rattle.shm_laws.proofs.Call.Counting.{bit}
use Rattle.shm_laws.proofs.Call.Names.{Named, above-numbers, begun-cases, begun-unheard, cond-same, id_of, not-this, sent-before}

-- one attachment of one site with another value
abbrev pub moved : (ℕ → ℕ → Option Attachment) → ℕ → ℕ → Option Attachment → ℕ → ℕ → Option Attachment
moved attachments s a value = at attachments s (at (attachments s) a value)

moved-inner : (q : Bool) (value x : Option Attachment) (now earlier : Option ℕ) → now ≡ id_of value → earlier ≡ id_of x → (if q then now else earlier) ≡ id_of (if q then value else x)
moved-inner true value x now earlier new old = new
moved-inner false value x now earlier new old = old

moved-outer : (p : Bool) (attachments : ℕ → ℕ → Option Attachment) (s a t b : ℕ) (value : Option Attachment) (now earlier : Option ℕ) → (s == t) ≡ p → (s ≡ t → now ≡ id_of value)
    → earlier ≡ id_of (attachments t b)
    → (if p then (if a == b then now else earlier) else earlier) ≡ id_of ((if p then at (attachments s) a value else attachments t) b)
moved-outer true attachments s a t b value now earlier is new old =
    let same : s ≡ t = eqb-true s t is in
    moved-inner (a == b) value (attachments s b) now earlier (new same) (old ∙ ap (λ x. id_of (attachments x b)) (sym same))
moved-outer false attachments s a t b value now earlier is new old = old

pub moved-name : (attachments : ℕ → ℕ → Option Attachment) (s a t b : ℕ) (value : Option Attachment) (now earlier : Option ℕ) → (s ≡ t → now ≡ id_of value)
    → earlier ≡ id_of (attachments t b) → (if s == t then (if a == b then now else earlier) else earlier) ≡ id_of (moved attachments s a value t b)
moved-name attachments s a t b value now earlier new old = moved-outer (s == t) attachments s a t b value now earlier refl new old

moved-small : (attachments : ℕ → ℕ → Option Attachment) (s a : ℕ) (value : Option Attachment) → ((x : Attachment) → value ≡ Some x → a < 64)
    → ((t b : ℕ) (x : Attachment) → attachments t b ≡ Some x → b < 64) → (t b : ℕ) (x : Attachment) → moved attachments s a value t b ≡ Some x → b < 64
moved-small attachments s a value new old t b =
    at-cases (λ f. (x : Attachment) → f b ≡ Some x → b < 64) attachments s (at (attachments s) a value) t
    (λ here. at-cases (λ y. (x : Attachment) → y ≡ Some x → b < 64) (attachments s) a value b
    (λ same x is. subst (λ k. k < 64) same (new x is)) (λ other x is. old s b x is))
    (λ there x is. old t b x is)

hit-test : (a b : Bool) → b ≡ true → bit (a && b) ≡ (if a then 1 else 0)
hit-test true b is = rw is
hit-test false b is = refl

elsewhere : (s t : ℕ) (b c : Bool) → (s ≡ t → ⊥) → (((s == t) && b) || c) ≡ c
elsewhere s t b c other = grind (arith, nat_tests)

hit-named : (found : Option ℕ) (i id s n : ℕ) (op : Op) → found ≡ Some i → bit (is_segment found id && is_call s n (record { site = s; number = n; op = op })) ≡ lost (Detach i) id
hit-named found i id s n op is = rw is (hit-test (i == id) ((s == s) && (n == n)) (grind (arith, nat_tests)))

miss-named : (named hit : Bool) (n : ℕ) → hit ≡ false → bit (named && hit) + n ≡ n
miss-named true hit n none = rw none (omega arith)
miss-named false hit n none = omega arith

module _ (o : Opening) (attachments : ℕ → ℕ → Option Attachment) (outstanding : ℕ → Option Outstanding) (numbers : ℕ → ℕ) (sent : List Envelope) (account : List Done)
    (named : Named o attachments outstanding numbers sent account) (s : ℕ) where
  -- a detach begins
  pub detach-named : (a : ℕ) (y : Attachment) → attachments s a ≡ Some y
      → ((e : Envelope) (n : ℕ) (p : Op) → Contains sent e → e.message ≡ Call n p → n ≤ numbers e.from) → has_replied account s (numbers s + 1) ≡ false
      → Named o (moved attachments s a None) (at outstanding s (awaits (numbers s + 1) (Detach y.id))) (at numbers s (numbers s + 1))
      (sent ++ (call_envelope (sites_of o) s (numbers s + 1) (Detach y.id) ∷ [])) (record { site = s; input = Some (Begin (DetachAt a)); answer = Began (numbers s + 1) } ∷ account)
  detach-named a y stands most fresh =
      let op = Detach y.id in
      let input = Begin (DetachAt a) in
      let now = numbers s + 1 in
      record {
        names = λ t b. moved-name attachments s a t b None None (segment_of o account t b) (λ same. refl) (named.names t b);
        small = moved-small attachments s a None (λ x is. cc) named.small;
        asked = λ t n cred id ro is. detach-asked a y t n cred id ro (cases_eq s t) is;
        unheard = λ t n p is. begun-unheard o attachments outstanding numbers sent account named s op most fresh input t n p (cases_eq s t) is;
        begun = λ e n p found is id. begun-cases o attachments outstanding numbers sent account named s op most fresh input e n p
            (Contains-append_cases sent (call_envelope (sites_of o) s now op ∷ []) e found) is id
            (let h = named.later (record { site = s; number = now; op = op }) id (omega arith) in
            let k = hit-named (segment_of o account s a) y.id id s now op (named.names s a ∙ ap id_of stands) in omega arith)
            (λ old. miss-named (is_segment (segment_of o account s a) id) (is_call s now (record { site = e.from; number = n; op = p })) _
            (not-this o attachments outstanding numbers sent account named s op most fresh (record { site = e.from; number = n; op = p })
            (sent-before o attachments outstanding numbers sent account named s op most fresh e n p old is))
            ∙ named.begun e n p old is id);
        later = λ x id high. let above = above-numbers o attachments outstanding numbers sent account named s op most fresh x.site x.number high in
            miss-named (is_segment (segment_of o account s a) id) (is_call s now x) _ (not-this o attachments outstanding numbers sent account named s op most fresh x above.1)
            ∙ named.later x id above.0;
      }
    where
      detach-asked : (a : ℕ) (y : Attachment) (t n : ℕ) (cred : Cred) (id : ℕ) (ro : Bool) → (s ≡ t) ⊎ (s ≡ t → ⊥) → at outstanding s (awaits (numbers s + 1) (Detach y.id)) t ≡ awaits n (Attach cred id ro)
          → attach_id (op_of (record { site = s; input = Some (Begin (DetachAt a)); answer = Began (numbers s + 1) } ∷ account) t n) ≡ Some id
      detach-asked a y t n cred id ro (inl same) is =
          let both = same-call (numbers s + 1) n (Detach y.id) (Attach cred id ro) (sym (at-here outstanding s _ t same) ∙ is) in
          let ops = both.1 in cc
      detach-asked a y t n cred id ro (inr other) is =
          ap attach_id (cond-same (s == t) _ _ refl) ∙ named.asked t n cred id ro (sym (at-there outstanding s _ t other) ∙ is)

  -- a call ends
  module _ (e : Envelope) (n : ℕ) (reply : Reply) (given : Option ℕ) where
    abbrev ended_done : Done
    ended_done = record { site = s; input = Some (Deliver e); answer = Replied n reply given }

    ended-asked : (t m : ℕ) (cred : Cred) (id : ℕ) (ro : Bool) → (s ≡ t) ⊎ (s ≡ t → ⊥) → at outstanding s None t ≡ awaits m (Attach cred id ro) → attach_id (op_of (ended_done ∷ account) t m) ≡ Some id
    ended-asked t m cred id ro (inl same) is = let h = at-here outstanding s None t same in cc
    ended-asked t m cred id ro (inr other) is = ap attach_id (cond-same (s == t) _ _ refl) ∙ named.asked t m cred id ro (sym (at-there outstanding s None t other) ∙ is)

    ended-unheard : (t m : ℕ) (p : Op) → (s ≡ t) ⊎ (s ≡ t → ⊥) → at outstanding s None t ≡ awaits m p → has_replied (ended_done ∷ account) t m ≡ false
    ended-unheard t m p (inl same) is = let h = at-here outstanding s None t same in cc
    ended-unheard t m p (inr other) is = elsewhere s t (n == m) (has_replied account t m) other ∙ named.unheard t m p (sym (at-there outstanding s None t other) ∙ is)

    -- with the attachment that it gave, if any
    pub ended-named : (now : ℕ → ℕ → Option Attachment) → ((t b : ℕ) → segment_of o (ended_done ∷ account) t b ≡ id_of (now t b)) → ((t b : ℕ) (x : Attachment) → now t b ≡ Some x → b < 64)
        → Named o now (at outstanding s None) numbers sent (ended_done ∷ account)
    ended-named now names' small' = record {
      names = names';
      small = small';
      asked = λ t m cred id ro is. ended-asked t m cred id ro (cases_eq s t) is;
      unheard = λ t m p is. ended-unheard t m p (cases_eq s t) is;
      begun = λ f m p found is id. let h = named.begun f m p found is id in omega arith;
      later = λ x id high. let h = named.later x id high in omega arith;
    }

  pub plain-ended : (e : Envelope) (n : ℕ) (reply : Reply)
      → Named o attachments (at outstanding s None) numbers sent (record { site = s; input = Some (Deliver e); answer = Replied n reply None } ∷ account)
  plain-ended e n reply = ended-named e n reply None attachments (λ t b. cond-same (s == t) _ _ refl ∙ named.names t b) named.small

  pub attach-ended : (e : Envelope) (n : ℕ) (reply : Reply) (a : ℕ) (x : Attachment) → a < 64 → attach_id (op_of account s n) ≡ Some x.id
      → Named o (moved attachments s a (Some x)) (at outstanding s None) numbers sent (record { site = s; input = Some (Deliver e); answer = Replied n reply (Some a) } ∷ account)
  attach-ended e n reply a x within asked = ended-named e n reply (Some a) (moved attachments s a (Some x))
      (λ t b. moved-name attachments s a t b (Some x) (attach_id (op_of account t n)) (segment_of o account t b)
      (λ same. subst (λ k. attach_id (op_of account k n) ≡ Some x.id) same asked) (named.names t b))
      (moved-small attachments s a (Some x) (λ y is. within) named.small)
