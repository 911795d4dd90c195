-- What a Call does at its home, and a reply at the site that waits for it.
use Rattle.std.proofs.Common.{◌≡◌, ℕ, ◌+◌, ◌<◌, ◌≤◌, ◌⊎◌, inl, inr, Bool, true, false, ◌==◌, ◌&&◌, if◌then◌else◌, List, [], ◌∷◌, Option, Some, None, is_none, map, nat_lt, arith, refl, sym, ◌∙◌, subst, Contains}
use Rattle.std.specs.List.{flat_map}
use Rattle.std.proofs.lemmas.Bool.{and_from, cond_both, eq-eqb, eqb-true, lt-ltb, ltb-true}
use Rattle.std.proofs.lemmas.List.Elements.{Contains-append_left, Contains-append_right}
use Rattle.shm_model.specs.declared.answer.Answer.{Answer}
use Rattle.shm_model.specs.declared.call.Cred.{Cred}
use Rattle.shm_model.specs.declared.call.Attached.{Attached}
use Rattle.shm_model.specs.declared.call.Op.{Op}
use Rattle.shm_model.specs.declared.call.Op.TheVariants.{Get, Attach, Detach, Remove, Set, Stat}
use Rattle.shm_model.specs.declared.call.Reply.{Reply}
use Rattle.shm_model.specs.declared.call.Reply.TheVariants.{Id, Attached as AttachedReply, Ok as OkReply, Stat as StatReply, Refused as RefusedReply}
use Rattle.shm_model.specs.Calls.{Again, Attachment, Fresh, Freshness, Kept, Old, Outstanding, fits, freshness, op_home}
use Rattle.shm_model.specs.Kernel.{call as kernel_call}
use Rattle.shm_model.specs.Message.{Call, Envelope, Input}
use Rattle.shm_model.specs.SegmentCalls.{attached_at, call_envelope, on_call_as, on_reply_to, reply_counts, reply_envelope}
use Rattle.shm_model.specs.Site.{Site, least_free, Step}
use Rattle.shm_model.specs.Step.{ask_again, call_again, deliver, foreign, is_proper, orders_again, tick_envelopes}
use Rattle.shm_laws.proofs.Call.Invariant.{kept_number}
use Rattle.shm_laws.proofs.Call.Turn.{Desk, Turn, again, attached, detach_begun, ended, executed, hears_purged, old, op_begun, purges_one, quiet}
use Rattle.shm_progress.proofs.Purge.Answers.{contains-first, three}
use Rattle.shm_progress.proofs.Serve.Replies.{Counts}

pub home-small : (sites s : ℕ) (op : Op) → s < sites → op_home sites s op < sites
home-small sites s (Get cred key size mode flags) l = cond_both (key == 0) s _ (λ h. h < sites) (λ e. l) (λ e. omega arith)
home-small sites s (Attach cred id ro) l = omega arith
home-small sites s (Detach id) l = omega arith
home-small sites s (Remove cred id) l = omega arith
home-small sites s (Set cred id uid gid mode) l = omega arith
home-small sites s (Stat cred id) l = omega arith

-- a call that isn't below the kept one is not old
not-old : (k : Option Kept) (n : ℕ) → 0 < n → kept_number k ≤ n → freshness k n ≡ Old → ⊥
not-old None n some low e = by-test (n == 0) refl e
  where
    by-test : (b : Bool) → (n == 0) ≡ b → (if b then Old else Fresh) ≡ Old → ⊥
    by-test true h e = let zero_is = eqb-true n 0 h in absurd (omega (arith, zero_is, some))
    by-test false h e = cc
not-old (Some k) n some low e = by-test (nat_lt n k.number) (n == k.number) refl e
  where
    by-test : (b c : Bool) → nat_lt n k.number ≡ b → (if b then Old else if c then Again k.reply else Fresh) ≡ Old → ⊥
    by-test true c h e = let less = ltb-true n k.number h in absurd (omega (arith, less, low))
    by-test false true h e = cc
    by-test false false h e = cc

-- a Call at its home is answered
pub call-answered : (sites h s n : ℕ) (op : Op) (x : Site) → op_home sites s op ≡ h → s < sites → 0 < n → kept_number (x.kept s) ≤ n
    → (reply : Reply) × Contains (deliver sites h (call_envelope sites s n op) x).sent (reply_envelope h s n reply)
call-answered sites h s n op x here small some low =
    cond_both (foreign sites h (call_envelope sites s n op)) _ _ Answers
    (λ f. absurd (three (op_home sites s op == h) (nat_lt s sites) (is_proper sites h s (Call n op)) (eq-eqb (op_home sites s op) h here) (lt-ltb s sites small) (eq-eqb (op_home sites s op) h here) f))
    (λ f. fresh (freshness (x.kept s) n) (not-old (x.kept s) n some low))
  where
    Answers : Step → Type 0
    Answers st = (reply : Reply) × Contains st.sent (reply_envelope h s n reply)

    fresh : (f : Freshness) → (f ≡ Old → ⊥) → (reply : Reply) × Contains (on_call_as f sites h s n op x).sent (reply_envelope h s n reply)
    fresh Fresh never = ((kernel_call sites h op x.table).reply, contains-first _ _)
    fresh (Again reply) never = (reply, contains-first _ [])
    fresh Old never = absurd (never refl)

-- a reply that counts ends the call
pub reply-heard : (sites s h : ℕ) (c : Outstanding) (reply : Reply) (x : Site) → h < sites → x.outstanding ≡ Some c → Counts x c reply
    → ((cred : Cred) (id : ℕ) (ro : Bool) → c.op ≡ Attach cred id ro → is_none (least_free x.attachments) ≡ false)
    → (deliver sites s (reply_envelope h s c.number reply) x).site.outstanding ≡ None
reply-heard sites s h c reply x small is counts free =
    cond_both (foreign sites s (reply_envelope h s c.number reply)) _ _ Ended
    (λ f. absurd (three (s == s) (nat_lt h sites) true (eq-eqb s s refl) (lt-ltb h sites small) refl f))
    (λ f. subst (λ o. (on_reply_to o c.number reply x).site.outstanding ≡ None) (sym is)
    (cond_both ((c.number == c.number) && fits c.op reply) _ _ Ended (λ e. counted c.op reply counts.unpurged free)
    (λ e. let both : true ≡ false = sym (and_from (c.number == c.number) (fits c.op reply) (eq-eqb c.number c.number refl) counts.form) ∙ e in cc)))
  where
    Ended : Step → Type 0
    Ended st = st.site.outstanding ≡ None

    found : (a : Option ℕ) (r : Reply) (t : Attachment) → is_none a ≡ false → (attached_at a c.number r t x).site.outstanding ≡ None
    found None r t some = cc
    found (Some a) r t some = refl

    counted : (op : Op) (r : Reply) → ((cred : Cred) (id : ℕ) (ro : Bool) (a : Attached) → op ≡ Attach cred id ro → r ≡ AttachedReply a → x.purged id ≡ false)
        → ((cred : Cred) (id : ℕ) (ro : Bool) → op ≡ Attach cred id ro → is_none (least_free x.attachments) ≡ false) → (reply_counts c.number op r x).site.outstanding ≡ None
    counted (Attach cred id ro) (AttachedReply a) unpurged some =
        cond_both (x.purged id) _ _ Ended (λ e. let both : true ≡ false = sym e ∙ unpurged cred id ro a refl refl in cc) (λ e. found (least_free x.attachments) (AttachedReply a) _ (some cred id ro refl))
    counted (Attach cred id ro) (Id i) unpurged some = refl
    counted (Attach cred id ro) OkReply unpurged some = refl
    counted (Attach cred id ro) (StatReply t) unpurged some = refl
    counted (Attach cred id ro) (RefusedReply e) unpurged some = refl
    counted (Get cred key size mode flags) r unpurged some = refl
    counted (Detach id) r unpurged some = refl
    counted (Remove cred id) r unpurged some = refl
    counted (Set cred id uid gid mode) r unpurged some = refl
    counted (Stat cred id) r unpurged some = refl

-- a tick sends the outstanding call again
pub tick-calls : (sites me : ℕ) (x : Site) (c : Outstanding) → x.outstanding ≡ Some c → Contains (tick_envelopes sites me x) (call_envelope sites me c.number c.op)
tick-calls sites me x c is =
    Contains-append_right (map (ask_again sites me) x.pending) _ (call_envelope sites me c.number c.op)
    (Contains-append_right (flat_map (orders_again me x) x.booked) _ (call_envelope sites me c.number c.op)
    (Contains-append_left (call_again sites me x.outstanding) _ (call_envelope sites me c.number c.op)
    (subst (λ o. Contains (call_again sites me o) (call_envelope sites me c.number c.op)) (sym is) (contains-first (call_envelope sites me c.number c.op) []))))

begun-sent : (sites s n : ℕ) (op : Op) (c : Outstanding) → ◌≡◌ {A = Option Outstanding} (Some (record { number = n; op = op })) (Some c) → Contains (call_envelope sites s n op ∷ []) (call_envelope sites s c.number c.op)
begun-sent sites s n op c h =
    let same : ◌≡◌ {A = Outstanding} (record { number = n; op = op }) c = some-same (record { number = n; op = op }) c h in
    subst (λ (k : Outstanding). Contains (call_envelope sites s n op ∷ []) (call_envelope sites s k.number k.op)) same (contains-first (call_envelope sites s n op) [])
  where
    some-same : (x y : Outstanding) → Some x ≡ Some y → x ≡ y
    some-same x y e = cc

-- what is outstanding was so before, or is begun now
pub outstanding-before : (sites s : ℕ) (d : Desk) (input : Input) (y : Desk) (answer : Answer) (sent : List Envelope) (c : Outstanding) → Turn sites s d input y answer sent → y.outstanding ≡ Some c
    → (d.outstanding ≡ Some c) ⊎ Contains sent (call_envelope sites s c.number c.op)
outstanding-before sites s d input y answer sent c (quiet i b ms silent plain repeats) m = inl m
outstanding-before sites s d input y answer sent c (op_begun op free undetached) m = inr (begun-sent sites s (d.calls + 1) op c m)
outstanding-before sites s d input y answer sent c (detach_begun a z free stands) m = inr (begun-sent sites s (d.calls + 1) (Detach z.id) c m)
outstanding-before sites s d input y answer sent c (executed e n op is fresh) m = inl m
outstanding-before sites s d input y answer sent c (again e n op reply is fresh) m = inl m
outstanding-before sites s d input y answer sent c (old e n op is fresh) m = inl m
outstanding-before sites s d input y answer sent c (ended e n op reply is outstanding unattached) m = cc
outstanding-before sites s d input y answer sent c (attached e n cred i ro z a is outstanding free) m = cc
outstanding-before sites s d input y answer sent c (purges_one e i is) m = inl m
outstanding-before sites s d input y answer sent c (hears_purged e i is) m = inl m
