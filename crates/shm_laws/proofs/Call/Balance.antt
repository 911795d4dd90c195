-- The segments count who holds them, as the account grows: nothing of calls happens, a call begins, is executed, or ends.
use Rattle.std.proofs.Common.{◌≡◌, ◌≢◌, ℕ, ◌+◌, ◌<◌, Bool, true, false, ◌&&◌, not, List, ◌∷◌, ◌++◌, Option, Some, None, if◌then◌else◌, ◌==◌, refl, sym, ap, ◌∙◌, subst, arith, Contains}
use Rattle.std.specs.List.{AllByRecursion}
use Rattle.std.proofs.Math.Path.{fun_ext}
use Rattle.std.proofs.lemmas.Bool.Decides.{nat_tests}
use Rattle.std.proofs.lemmas.List.Elements.{Contains-append_left}
use Rattle.shm_model.specs.declared.answer.Answer.TheVariants.{Began, Replied}
use Rattle.shm_model.specs.declared.call.Op.{Op}
use Rattle.shm_model.specs.declared.call.Reply.{Reply}
use Rattle.shm_model.specs.declared.call.Request.TheVariants.{DetachAt}
use Rattle.shm_model.specs.Message.{Call, Envelope, Begin, Deliver}
use Rattle.shm_model.specs.Calls.{op_home}
use Rattle.shm_model.specs.Memory.{attach_id, is_segment, op_of, segment_of}
use Rattle.shm_model.specs.SegmentCalls.{call_envelope}
use Rattle.shm_model.specs.Site.{max_attachments}
use Rattle.shm_model.specs.World.{Done, Opening, sites_of}
use Rattle.shm_model.specs.History.{Numbered, attaching, called_on, detaching, has_call, has_replied, is_call, is_detach_begun, kernel, naming, reply_to}
use Rattle.shm_laws.proofs.Kernel.Effect.{effect-call, gained, lost}
use Rattle.shm_laws.proofs.Kernel.Count.{IsGiven, given-after}
use Rattle.shm_laws.proofs.Kernel.Held.{Balanced, Moved, balanced-after}
use Rattle.shm_laws.proofs.Call.Invariant.{is-call-same}
use Rattle.shm_laws.proofs.Call.Executed.{reply-first}
use Rattle.shm_laws.proofs.Call.Names.{cond-same, or-none}
use Rattle.shm_laws.proofs.Call.Counting.{Distinct, bit, named-changed, named-same, one}
use Rattle.shm_laws.proofs.Call.Held.{attach-executed, attach-replied, attach-same, begun_in, detach-heard}
use Rattle.shm_laws.proofs.Kernel.Lists.{every-weaker}

-- what holds a segment, by an account and a list of calls
abbrev pub held_by : Opening → List Done → List Numbered → ℕ → ℕ
held_by o account calls id = naming o account id + (attaching o account calls id + detaching o calls account id)

pub record Balance (o : Opening) (sent : List Envelope) (account : List Done) (calls : List Numbered) : Type 0 where
  pub entries : AllByRecursion (λ c. Contains sent (call_envelope (sites_of o) c.site c.number c.op)) calls
  pub given : AllByRecursion (IsGiven (sites_of o) (kernel o calls)) (kernel o calls)
  pub balanced : Balanced (held_by o account calls) (kernel o calls)

same-sum : (n m a b c d : ℕ) → n ≡ m → a ≡ b → c ≡ d → n + (a + c) ≡ m + (b + d)
same-sum n m a b c d p q r = omega arith

no-detach : (b : Bool) (n : ℕ) → b ≡ false → (if b then 1 else 0) + n ≡ n
no-detach b n none = rw none (omega arith)

module _ (o : Opening) (sent : List Envelope) (account : List Done) (calls : List Numbered) (balance : Balance o sent account calls) where
  -- who holds stays the same
  pub unmoved-balance : (more : List Envelope) (d : Done) → ((i : ℕ) → held_by o (d ∷ account) calls i ≡ held_by o account calls i) → Balance o (sent ++ more) (d ∷ account) calls
  unmoved-balance more d same = record {
    entries = every-weaker _ _ (λ c found. Contains-append_left sent more _ found) calls balance.entries;
    given = balance.given;
    balanced = subst (λ h. Balanced h (kernel o calls)) (sym (fun_ext same)) balance.balanced;
  }

  -- no attachment, reply or detach changes
  pub same-held : (d : Done) → ((t a : ℕ) → segment_of o (d ∷ account) t a ≡ segment_of o account t a) → ((t n : ℕ) → has_replied (d ∷ account) t n ≡ has_replied account t n)
      → ((i : ℕ) → is_detach_begun d.input d.answer d.site (segment_of o account d.site) calls i ≡ false) → (i : ℕ) → held_by o (d ∷ account) calls i ≡ held_by o account calls i
  same-held d names' replied none i = same-sum _ _ _ _ _ _
      (named-same (segment_of o (d ∷ account)) (segment_of o account) (sites_of o) max_attachments i names')
      (attach-same o account (d ∷ account) calls i replied)
      (no-detach (is_detach_begun d.input d.answer d.site (segment_of o account d.site) calls i) (detaching o calls account i) (none i))

  -- an entry of the list has the op that was sent
  pub entry-op : ((e f : Envelope) (n : ℕ) (op other : Op) → Contains sent e → Contains sent f → e.from ≡ f.from → e.message ≡ Call n op → f.message ≡ Call n other → op ≡ other)
      → (s n : ℕ) (op : Op) → Contains sent (call_envelope (sites_of o) s n op) → (c : Numbered) → Contains sent (call_envelope (sites_of o) c.site c.number c.op)
      → is_call s n c ≡ true → c.op ≡ op
  entry-op one' s n op found c listed hit =
      let same = is-call-same s n c hit in
      one' (call_envelope (sites_of o) c.site c.number c.op) (call_envelope (sites_of o) s n op) n c.op op listed found same.0 (ap (λ k. Call k c.op) same.1) refl

executed-sum : (n m a b c t u g l : ℕ) → n ≡ m → a ≡ b → b ≡ g + c → t + l ≡ u → (n + (a + t)) + l ≡ (m + (c + u)) + g
executed-sum n m a b c t u g l p q r w = omega arith

-- a call is executed
module _ (o : Opening) (sent : List Envelope) (account : List Done) (calls : List Numbered) (balance : Balance o sent account calls) (x : Numbered)
    (new : has_call x.site x.number calls ≡ false) (silent : has_replied account x.site x.number ≡ false) (below : op_home (sites_of o) x.site x.op < sites_of o)
    (found : Contains sent (call_envelope (sites_of o) x.site x.number x.op)) (begun : (i : ℕ) → begun_in o account x i ≡ lost x.op i) where
  executed-held : (d : Done) → ((t a : ℕ) → segment_of o (d ∷ account) t a ≡ segment_of o account t a) → ((t n : ℕ) → has_replied (d ∷ account) t n ≡ has_replied account t n)
      → ((i : ℕ) → is_detach_begun d.input d.answer d.site (segment_of o account d.site) (x ∷ calls) i ≡ false)
      → Moved (held_by o account calls) (held_by o (d ∷ account) (x ∷ calls)) x.op (called_on o x (kernel o calls)).reply
  executed-held d names' replied none i =
      executed-sum (naming o (d ∷ account) i) (naming o account i) (attaching o (d ∷ account) (x ∷ calls) i) (attaching o account (x ∷ calls) i) (attaching o account calls i)
      (detaching o (x ∷ calls) (d ∷ account) i) (detaching o calls account i) (gained x.op (called_on o x (kernel o calls)).reply i) (lost x.op i)
      (named-same (segment_of o (d ∷ account)) (segment_of o account) (sites_of o) max_attachments i names')
      (attach-same o account (d ∷ account) (x ∷ calls) i replied)
      (attach-executed o account x calls (called_on o x (kernel o calls)).reply i new silent (reply-first o x calls))
      (ap (λ n. n + lost x.op i) (no-detach (is_detach_begun d.input d.answer d.site (segment_of o account d.site) (x ∷ calls) i) (detaching o (x ∷ calls) account i) (none i))
      ∙ (ap (λ n. detaching o (x ∷ calls) account i + n) (sym (begun i)) ∙ detach-heard o x calls account i new))

  pub executed-balance : (more : List Envelope) (d : Done) → ((t a : ℕ) → segment_of o (d ∷ account) t a ≡ segment_of o account t a) → ((t n : ℕ) → has_replied (d ∷ account) t n ≡ has_replied account t n)
      → ((i : ℕ) → is_detach_begun d.input d.answer d.site (segment_of o account d.site) (x ∷ calls) i ≡ false) → Balance o (sent ++ more) (d ∷ account) (x ∷ calls)
  executed-balance more d names' replied none =
      let effect = effect-call (sites_of o) (op_home (sites_of o) x.site x.op) x.site below x.op (kernel o calls) refl in
      record {
        entries = (Contains-append_left sent more _ found, every-weaker _ _ (λ c f. Contains-append_left sent more _ f) calls balance.entries);
        given = given-after (sites_of o) (op_home (sites_of o) x.site x.op) below x.op (kernel o calls) (called_on o x (kernel o calls)) effect balance.given;
        balanced = balanced-after (sites_of o) (op_home (sites_of o) x.site x.op) below x.op (kernel o calls) (called_on o x (kernel o calls)) effect
            (held_by o account calls) (held_by o (d ∷ account) (x ∷ calls)) balance.given balance.balanced (executed-held d names' replied none);
      }

-- a detach begins: an attachment less, a detach on its way more
detach-sum : (n m a b t u p : ℕ) → n + p ≡ m + 0 → a ≡ b → t ≡ p + u → n + (a + t) ≡ m + (b + u)
detach-sum n m a b t u p h k w = omega arith

on-its-way : (named listed : Bool) (u : ℕ) → listed ≡ false → (if named && not listed then 1 else 0) + u ≡ bit named + u
on-its-way true listed u none = rw none
on-its-way false listed u none = refl

-- a call ends: an attachment more, where it gave one, and an attach less that waits
attach-sum : (n m a b t u g : ℕ) → n + 0 ≡ m + g → a + g ≡ b → t ≡ u → n + (a + t) ≡ m + (b + u)
attach-sum n m a b t u g h k w = omega arith

name-off : (s t : ℕ) (now earlier : Option ℕ) → t ≢ s → (if s == t then now else earlier) ≡ earlier
name-off s t now earlier other = grind (arith, nat_tests)

name-beside : (s a b : ℕ) (now earlier : Option ℕ) → b ≢ a → (if s == s then (if a == b then now else earlier) else earlier) ≡ earlier
name-beside s a b now earlier other = grind (arith, nat_tests)

name-at : (s a : ℕ) (now earlier : Option ℕ) → (if s == s then (if a == a then now else earlier) else earlier) ≡ now
name-at s a now earlier = grind (arith, nat_tests)

module _ (o : Opening) (account : List Done) (calls : List Numbered) (s : ℕ) where
  pub detach-held : (a i n : ℕ) → s < sites_of o → a < 64 → has_call s n calls ≡ false
      → held_by o (record { site = s; input = Some (Begin (DetachAt a)); answer = Began n } ∷ account) calls i ≡ held_by o account calls i
  detach-held a i n below within new =
      let d : Done = record { site = s; input = Some (Begin (DetachAt a)); answer = Began n } in
      detach-sum (naming o (d ∷ account) i) (naming o account i) (attaching o (d ∷ account) calls i) (attaching o account calls i)
      (detaching o calls (d ∷ account) i) (detaching o calls account i) (one (segment_of o account s a) i)
      (named-changed (segment_of o (d ∷ account)) (segment_of o account) (sites_of o) max_attachments s a i below within
      (λ t b other. name-off s t _ (segment_of o account t b) other) (λ b other. name-beside s a b None (segment_of o account s b) other)
      ∙ ap (λ x. naming o account i + one x i) (name-at s a None (segment_of o account s a)))
      (attach-same o account (d ∷ account) calls i (λ t m. or-none (s == t) false (has_replied account t m) refl))
      (on-its-way (is_segment (segment_of o account s a) i) (has_call s n calls) (detaching o calls account i) new)

  pub ended-held : (e : Envelope) (n : ℕ) (op : Op) (reply : Reply) (i : ℕ) → has_replied account s n ≡ false → reply_to o calls s n ≡ Some reply → Distinct calls
      → AllByRecursion (λ c. is_call s n c ≡ true → c.op ≡ op) calls → gained op reply i ≡ 0
      → held_by o (record { site = s; input = Some (Deliver e); answer = Replied n reply None } ∷ account) calls i ≡ held_by o account calls i
  ended-held e n op reply i silent known distinct ops none =
      let d : Done = record { site = s; input = Some (Deliver e); answer = Replied n reply None } in
      attach-sum (naming o (d ∷ account) i) (naming o account i) (attaching o (d ∷ account) calls i) (attaching o account calls i)
      (detaching o calls (d ∷ account) i) (detaching o calls account i) (gained op reply i)
      (let h : naming o (d ∷ account) i ≡ naming o account i = named-same (segment_of o (d ∷ account)) (segment_of o account) (sites_of o) max_attachments i (λ t b. cond-same (s == t) _ _ refl) in
      ap (λ x. x + 0) h ∙ ap (λ x. naming o account i + x) (sym none))
      (attach-replied o account calls s n op reply (Some (Deliver e)) None i silent known distinct ops)
      (no-detach false (detaching o calls account i) refl)

  pub attached-held : (e : Envelope) (n : ℕ) (op : Op) (reply : Reply) (a id i : ℕ) → s < sites_of o → a < 64 → has_replied account s n ≡ false → reply_to o calls s n ≡ Some reply → Distinct calls
      → AllByRecursion (λ c. is_call s n c ≡ true → c.op ≡ op) calls → gained op reply i ≡ one (Some id) i → segment_of o account s a ≡ None → attach_id (op_of account s n) ≡ Some id
      → held_by o (record { site = s; input = Some (Deliver e); answer = Replied n reply (Some a) } ∷ account) calls i ≡ held_by o account calls i
  attached-held e n op reply a id i below within silent known distinct ops gain free asked =
      let d : Done = record { site = s; input = Some (Deliver e); answer = Replied n reply (Some a) } in
      let before : one (segment_of o account s a) i ≡ 0 = ap (λ x. one x i) free in
      let after : one (segment_of o (d ∷ account) s a) i ≡ gained op reply i =
      ap (λ x. one x i) (name-at s a (attach_id (op_of account s n)) (segment_of o account s a) ∙ asked) ∙ sym gain in
      attach-sum (naming o (d ∷ account) i) (naming o account i) (attaching o (d ∷ account) calls i) (attaching o account calls i)
      (detaching o calls (d ∷ account) i) (detaching o calls account i) (gained op reply i)
      (ap (λ x. naming o (d ∷ account) i + x) (sym before)
      ∙ (named-changed (segment_of o (d ∷ account)) (segment_of o account) (sites_of o) max_attachments s a i below within
      (λ t b other. name-off s t _ (segment_of o account t b) other) (λ b other. name-beside s a b (attach_id (op_of account s n)) (segment_of o account s b) other)
      ∙ ap (λ x. naming o account i + x) after))
      (attach-replied o account calls s n op reply (Some (Deliver e)) (Some a) i silent known distinct ops)
      (no-detach false (detaching o calls account i) refl)
