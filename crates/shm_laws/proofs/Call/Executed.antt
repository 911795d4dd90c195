-- The invariant of segment calls is kept where a home executes a call.
use Rattle.std.proofs.Common.{◌≡◌, ℕ, ◌<◌, ◌≤◌, true, false, List, ◌∷◌, Option, Some, refl, sym, ap, ◌∙◌, subst, arith, Contains, inl, inr, ◌⊎◌}
use Rattle.std.specs.List.{AllByRecursion}
use Rattle.std.proofs.lemmas.Bool.{cases_Bool, cases_lt, or_cases, or_left, or_right}
use Rattle.std.proofs.lemmas.Bool.Decides.{nat_tests}
use Rattle.shm_model.specs.declared.call.Op.{Op}
use Rattle.shm_model.specs.declared.call.Reply.{Reply}
use Rattle.shm_model.specs.Basics.{at}
use Rattle.shm_model.specs.Permission.{Segment}
use Rattle.shm_model.specs.Kernel.{Called, call as kernel_call}
use Rattle.shm_model.specs.Message.{Call, Envelope}
use Rattle.shm_model.specs.Calls.{Kept, op_home}
use Rattle.shm_model.specs.SegmentCalls.{call_envelope}
use Rattle.shm_model.specs.World.{Done, Opening, sites_of}
use Rattle.shm_model.specs.History.{Numbered, called_on, has_call, is_call, kernel, reply_to}
use Rattle.shm_laws.proofs.Kernel.Parts.{HasKeyAtHome, Parts, fits-call, part}
use Rattle.shm_laws.proofs.Kernel.Effect.{effect-call, keys-after}
use Rattle.shm_laws.proofs.Call.Invariant.{Holds, Listed, Sent, View, at-cases, awaits, same-call, every-weaker-answered, is-call-same, kept_number, reply-stays}

is-call-true : (c : Numbered) (s n : ℕ) → c.site ≡ s → c.number ≡ n → is_call s n c ≡ true
is-call-true c s n site number = grind (arith, nat_tests)

pub reply-first : (o : Opening) (c : Numbered) (calls : List Numbered) → reply_to o (c ∷ calls) c.site c.number ≡ Some (called_on o c (kernel o calls)).reply
reply-first o c calls = rw (is-call-true c c.site c.number refl refl)

module _ (o : Opening) (v : View) (sent : List Envelope) (calls : List Numbered) (account : List Done) (holds : Holds o v sent calls account)
    (h : ℕ) (below : h < sites_of o) (e : Envelope) (n : ℕ) (op : Op) (to : e.to ≡ h) (found : Contains sent e) (is : e.message ≡ Call n op)
    (fresh : kept_number (v.kept h e.from) < n) where
  abbrev pub done : Called
  done = kernel_call (sites_of o) h op (v.table h)

  abbrev pub numbered : Numbered
  numbered = record { site = e.from; number = n; op = op }

  abbrev pub kept_now : Kept
  kept_now = record { number = n; reply = done.reply }

  abbrev pub executed_view : View
  executed_view = record v { kept = at v.kept h (at (v.kept h) e.from (Some kept_now)); table = at v.table h done.segments }

  abbrev before : List Segment
  before = kernel o calls

  fact : Sent (sites_of o) v calls e n op
  fact = holds.call e n op found is

  home : op_home (sites_of o) e.from op ≡ h
  home = sym fact.home ∙ to

  awaited : v.outstanding e.from ≡ awaits n op
  awaited = fact.above (subst (λ x. kept_number (v.kept x e.from) < n) (sym to) fresh)

  pub envelope-is : e ≡ call_envelope (sites_of o) e.from n op
  envelope-is = ap (λ x. record { from = e.from; to = x; message = e.message }) fact.home
      ∙ ap (λ m. record { from = e.from; to = op_home (sites_of o) e.from op; message = m }) is

  -- the call is new in the list
  not-listed : has_call e.from n calls ≡ true → ⊥
  not-listed listed =
      let l = holds.listed e.from n listed in
      let same : op ≡ l.op = holds.one e (call_envelope (sites_of o) e.from n l.op) n op l.op found l.sent refl is refl in
      let there : op_home (sites_of o) e.from l.op ≡ h = ap (op_home (sites_of o) e.from) (sym same) ∙ home in
      let kept : n ≤ kept_number (v.kept h e.from) = subst (λ x. n ≤ kept_number (v.kept x e.from)) there l.kept in
      omega arith

  pub unlisted : has_call e.from n calls ≡ false
  unlisted = elim (cases_Bool (has_call e.from n calls)) [ inl listed ↦ absurd (not-listed listed) | inr new ↦ new ]

  -- the kernel
  parts : Parts (sites_of o) h before (kernel_call (sites_of o) h op (part (sites_of o) h before)) (kernel_call (sites_of o) h op before)
  parts = fits-call (sites_of o) h below before e.from op home holds.keys

  on-part : done ≡ kernel_call (sites_of o) h op (part (sites_of o) h before)
  on-part = ap (kernel_call (sites_of o) h op) (holds.table h below)

  on-home : called_on o numbered before ≡ kernel_call (sites_of o) h op before
  on-home = ap (λ x. kernel_call (sites_of o) x op before) home

  pub reply-is : done.reply ≡ (called_on o numbered before).reply
  reply-is = ap (λ x. x.reply) on-part ∙ (parts.reply ∙ ap (λ x. x.reply) (sym on-home))

  executed-table : (k : ℕ) → k < sites_of o → executed_view.table k ≡ part (sites_of o) k (kernel o (numbered ∷ calls))
  executed-table k within = at-cases (λ x. x ≡ part (sites_of o) k (kernel o (numbered ∷ calls))) v.table h done.segments k
      (λ same. ap (λ x. x.segments) on-part ∙ (parts.own ∙ (ap (λ x. part (sites_of o) h x.segments) (sym on-home)
      ∙ ap (λ x. part (sites_of o) x (kernel o (numbered ∷ calls))) same)))
      (λ other. holds.table k within ∙ (sym (parts.others k (λ p. other (sym p))) ∙ ap (λ x. part (sites_of o) k x.segments) (sym on-home)))

  executed-keys : AllByRecursion (HasKeyAtHome (sites_of o)) (kernel o (numbered ∷ calls))
  executed-keys = subst (λ x. AllByRecursion (HasKeyAtHome (sites_of o)) x.segments) (sym on-home)
      (keys-after (sites_of o) h op before (kernel_call (sites_of o) h op before) (effect-call (sites_of o) h e.from below op before home) holds.keys)

  -- what is kept
  kept-cases : (P : Option Kept → Type 0) (a s : ℕ) → (h ≡ a → e.from ≡ s → P (Some kept_now)) → (((h ≡ a) × (e.from ≡ s) → ⊥) → P (v.kept a s)) → P (executed_view.kept a s)
  kept-cases P a s here there = at-cases (λ f. P (f s)) v.kept h (at (v.kept h) e.from (Some kept_now)) a
      (λ same. at-cases P (v.kept h) e.from (Some kept_now) s (λ from. here same from)
      (λ other. subst (λ x. P (v.kept x s)) (sym same) (there (λ p. other p.1))))
      (λ other. there (λ p. other p.0))

  fresh-at : (a s : ℕ) → h ≡ a → e.from ≡ s → kept_number (v.kept a s) < n
  fresh-at a s same from = subst (λ x. kept_number (v.kept a x) < n) from (subst (λ x. kept_number (v.kept x e.from) < n) same fresh)

  kept-grow : (a s : ℕ) → kept_number (v.kept a s) ≤ kept_number (executed_view.kept a s)
  kept-grow a s = kept-cases (λ k. kept_number (v.kept a s) ≤ kept_number k) a s
      (λ same from. let p = fresh-at a s same from in omega arith) (λ other. omega arith)

  -- a Call not above the new number
  listed-now : (f : Envelope) (m : ℕ) (p : Op) → Contains sent f → f.message ≡ Call m p → h ≡ f.to → e.from ≡ f.from → m ≤ n → has_call f.from m (numbered ∷ calls) ≡ true
  listed-now f m p at' was same from most = elim (cases_lt (kept_number (v.kept f.to f.from)) m) [
    | inl low ↦
        let now : awaits n op ≡ awaits m p =
        sym awaited ∙ (ap v.outstanding from ∙ (holds.call f m p at' was).above low) in
        let number : n ≡ m = (same-call n m op p now).0 in
        or_left (is_call f.from m numbered) (has_call f.from m calls) (is-call-true numbered f.from m from number)
    | inr high ↦ or_right (is_call f.from m numbered) (has_call f.from m calls) ((holds.call f m p at' was).listed high)
  ]

  executed-sent : (f : Envelope) (m : ℕ) (p : Op) → Contains sent f → f.message ≡ Call m p → Sent (sites_of o) executed_view (numbered ∷ calls) f m p
  executed-sent f m p at' was = let q = holds.call f m p at' was in record {
    home = q.home;
    least = q.least;
    most = q.most;
    above = λ low. let k = kept-grow f.to f.from in q.above (omega arith);
    listed = kept-cases (λ k. m ≤ kept_number k → has_call f.from m (numbered ∷ calls) ≡ true) f.to f.from
        (λ same from most. listed-now f m p at' was same from most)
        (λ other most. or_right (is_call f.from m numbered) (has_call f.from m calls) (q.listed most));
  }

  stays : (s m : ℕ) (reply : Reply) → reply_to o calls s m ≡ Some reply → reply_to o (numbered ∷ calls) s m ≡ Some reply
  stays s m reply known = reply-stays o numbered calls s m reply unlisted known

  pub replies-now : reply_to o (numbered ∷ calls) e.from n ≡ Some done.reply
  replies-now = reply-first o numbered calls ∙ ap Some (sym reply-is)

  executed-kept : (a s : ℕ) (k : Kept) → executed_view.kept a s ≡ Some k → reply_to o (numbered ∷ calls) s k.number ≡ Some k.reply
  executed-kept a s = kept-cases (λ x. (k : Kept) → x ≡ Some k → reply_to o (numbered ∷ calls) s k.number ≡ Some k.reply) a s
      (λ same from k kept. let now : kept_now ≡ k = cc in
      subst (λ x. reply_to o (numbered ∷ calls) s x.number ≡ Some x.reply) now (subst (λ x. reply_to o (numbered ∷ calls) x n ≡ Some done.reply) from replies-now))
      (λ other k kept. stays s k.number k.reply (holds.kept a s k kept))

  executed-bound : (a s : ℕ) → kept_number (executed_view.kept a s) ≤ v.calls s
  executed-bound a s = kept-cases (λ k. kept_number k ≤ v.calls s) a s
      (λ same from. subst (λ x. n ≤ v.calls x) from fact.most) (λ other. holds.bound a s)

  first-listed : Listed (sites_of o) executed_view sent e.from n
  first-listed = record {
    op = op;
    sent = subst (Contains sent) envelope-is found;
    kept = kept-cases (λ k. n ≤ kept_number k) (op_home (sites_of o) e.from op) e.from (λ same from. omega arith) (λ other. absurd (other (sym home, refl)));
  }

  executed-listed : (s m : ℕ) → (is_call s m numbered ≡ true) ⊎ (has_call s m calls ≡ true) → Listed (sites_of o) executed_view sent s m
  executed-listed s m (inl first) =
      let same = is-call-same s m numbered first in
      subst (λ x. Listed (sites_of o) executed_view sent x m) same.0 (subst (λ x. Listed (sites_of o) executed_view sent e.from x) same.1 first-listed)
  executed-listed s m (inr later) =
      let l = holds.listed s m later in
      record { op = l.op; sent = l.sent; kept = let p = l.kept in let q = kept-grow (op_home (sites_of o) s l.op) s in omega arith }

  pub executes : Holds o executed_view sent (numbered ∷ calls) account
  executes = record {
    call = executed-sent;
    one = holds.one;
    last = holds.last;
    kept = executed-kept;
    bound = executed-bound;
    listed = λ s m listed. executed-listed s m (or_cases (is_call s m numbered) (has_call s m calls) listed);
    table = executed-table;
    keys = executed-keys;
    replies = λ f m reply at' was. stays f.to m reply (holds.replies f m reply at' was);
    answered = every-weaker-answered o calls (numbered ∷ calls) stays account holds.answered;
  }
