-- Each call is executed once: the invariant of segment calls holds at the opening and is kept by every turn.
use Rattle.std.proofs.Common.{◌≡◌, ℕ, ◌+◌, ◌<◌, ◌≤◌, ◌%◌, Bool, true, false, List, [], ◌∷◌, ◌++◌, map, Option, Some, None, if◌then◌else◌, refl, sym, ap, ◌∙◌, subst, arith, Contains, ◌==◌, mod-eq_of_lt}
use Rattle.std.specs.List.{AllByRecursion, range_with_len}
use Rattle.std.proofs.lemmas.Bool.Decides.{nat_tests}
use Rattle.std.proofs.lemmas.Option.{slice_get_within, get_or_from_slice_get}
use Rattle.shm_model.specs.declared.answer.Answer.{Answer}
use Rattle.shm_model.specs.declared.answer.Answer.TheVariants.{Replied, Began, Took, Dropped}
use Rattle.shm_model.specs.declared.call.Op.{Op}
use Rattle.shm_model.specs.declared.call.Op.TheVariants.{Attach, Detach}
use Rattle.shm_model.specs.declared.call.Reply.{Reply}
use Rattle.shm_model.specs.declared.event.Event.{Event}
use Rattle.shm_model.specs.Basics.{at}
use Rattle.shm_model.specs.Kernel.{call as kernel_call, destroyed_by}
use Rattle.shm_model.specs.Message.{Message, Call, Replies, Envelope, Input, Deliver}
use Rattle.shm_model.specs.Calls.{Fresh, Again, freshness}
use Rattle.shm_model.specs.SegmentCalls.{call_envelope, purge_envelope, purges, reply_envelope}
use Rattle.shm_model.specs.World.{Done, Opening, New, Preset, Framed, opened_site, preset_segment, run, sites_of}
use Rattle.shm_model.specs.History.{ExecutedOnce, HomesKeepTheirPart, Numbered, calls_of, handed_over, has_call, is_refused, reply_to, segments_at_first, with_done}
use Rattle.shm_laws.proofs.Run.Induction.{IsStill, run-shape, still_took, still_refused}
use Rattle.shm_laws.proofs.Kernel.Parts.{HasKeyAtHome, part}
use Rattle.shm_laws.proofs.Call.Turn.{Desk, Repeats, Turn, desk_of, executed_desk, is_plain, again, attached, detach_begun, ended, executed, hears_purged, old, op_begun, purges_one, quiet}
use Rattle.shm_laws.proofs.Call.Invariant.{Answered, Holds, awaits, kept_number, view_of}
use Rattle.shm_laws.proofs.Call.Views.{again-kept, fresh-above, old-below, view-begun, view-ended, view-executed, view-same}
use Rattle.shm_laws.proofs.Call.Steps.{Known, begins, begun_view, ended_view, ends, grown, told}
use Rattle.shm_laws.proofs.Call.Executed.{executed_view, executes, replies-now, unlisted}
use Rattle.shm_laws.proofs.Call.Run.{ByTurns, Honest, desks, run-turns}
use Rattle.shm_laws.proofs.Kernel.Lists.{every-contains}

-- what a run has come to
abbrev pub Once : Opening → (ℕ → Desk) → List Envelope → List Done → Type 0
Once o d sent account = Holds o (view_of d) sent (calls_of account) account

-- an answer of no call tells no reply
plain-answered : (o : Opening) (calls : List Numbered) (d : Done) → is_plain d.answer ≡ true → Answered o calls d
plain-answered o calls d plain n reply a is = let h : is_plain (Replied n reply a) ≡ true = subst (λ x. is_plain x ≡ true) is plain in cc

-- one envelope that brings nothing new
pub record KnownOne (o : Opening) (calls : List Numbered) (before : List Envelope) (e : Envelope) : Type 0 where
  pub call : (n : ℕ) (op : Op) → e.message ≡ Call n op → Contains before e
  pub reply : (n : ℕ) (reply : Reply) → e.message ≡ Replies n reply → reply_to o calls e.to n ≡ Some reply

known-all : (o : Opening) (calls : List Numbered) (before more : List Envelope) → AllByRecursion (KnownOne o calls before) more → Known o calls before more
known-all o calls before more all = record {
  call = λ e n op found is. (every-contains (KnownOne o calls before) more e all found).call n op is;
  reply = λ e n reply found is. (every-contains (KnownOne o calls before) more e all found).reply n reply is;
}

known-reply : (o : Opening) (calls : List Numbered) (before : List Envelope) (me to n : ℕ) (reply : Reply) → reply_to o calls to n ≡ Some reply
    → KnownOne o calls before (reply_envelope me to n reply)
known-reply o calls before me to n reply known = record {
  call = λ m op is. cc;
  reply = λ m other is. let number : n ≡ m = cc in let same : reply ≡ other = cc in
      subst (λ x. reply_to o calls to x ≡ Some other) number (subst (λ x. reply_to o calls to n ≡ Some x) same known);
}

known-purge : (o : Opening) (calls : List Numbered) (before : List Envelope) (me id to : ℕ) → KnownOne o calls before (purge_envelope me id to)
known-purge o calls before me id to = record { call = λ n op is. cc; reply = λ n reply is. cc }

all-purges : (o : Opening) (calls : List Numbered) (before : List Envelope) (me id : ℕ) (xs : List ℕ)
    → AllByRecursion (KnownOne o calls before) (map (purge_envelope me id) xs)
all-purges o calls before me id [] = tt
all-purges o calls before me id (x ∷ xs) = (known-purge o calls before me id x, all-purges o calls before me id xs)

known-purges : (o : Opening) (calls : List Numbered) (before : List Envelope) (sites me : ℕ) (gone : Option ℕ)
    → AllByRecursion (KnownOne o calls before) (purges sites me gone)
known-purges o calls before sites me None = tt
known-purges o calls before sites me (Some id) = all-purges o calls before me id (range_with_len 0 sites)

-- the list of calls after a delivery
pub unheard : (e : Envelope) (m : Message) (answer : Answer) (calls : List Numbered) → e.message ≡ m → is_refused answer ≡ false → handed_over e.from m calls ≡ calls
    → with_done (Some (Deliver e)) answer calls ≡ calls
unheard e m answer calls is taken same = rw (taken, is) same

pub heard : (e : Envelope) (n : ℕ) (op : Op) (answer : Answer) (calls : List Numbered) (b : Bool) → e.message ≡ Call n op → is_refused answer ≡ false → has_call e.from n calls ≡ b
    → with_done (Some (Deliver e)) answer calls ≡ (if b then calls else record { site = e.from; number = n; op = op } ∷ calls)
heard e n op answer calls b is taken listed = rw (taken, is, listed)

module _ (o : Opening) (d : ℕ → Desk) (sent : List Envelope) (account : List Done) (s : ℕ) (holds : Once o d sent account) (below : s < sites_of o) where
  -- nothing new, with a desk that looks the same
  same-after : (input : Input) (x : Desk) (answer : Answer) (more : List Envelope) → view_of (at d s x) ≡ view_of d
      → with_done (Some input) answer (calls_of account) ≡ calls_of account → is_plain answer ≡ true → AllByRecursion (KnownOne o (calls_of account) sent) more
      → Once o (at d s x) (sent ++ more) (record { site = s; input = Some input; answer = answer } ∷ account)
  same-after input x answer more view calls plain known =
      subst (λ v. Holds o v (sent ++ more) (with_done (Some input) answer (calls_of account)) (record { site = s; input = Some input; answer = answer } ∷ account)) (sym view)
      (subst (λ c. Holds o (view_of d) (sent ++ more) c (record { site = s; input = Some input; answer = answer } ∷ account)) (sym calls)
      (grown o (view_of d) sent (calls_of account) account holds more (record { site = s; input = Some input; answer = answer })
      (known-all o (calls_of account) sent more known) (plain-answered o (calls_of account) (record { site = s; input = Some input; answer = answer }) plain)))

  pub repeat-known : (e : Envelope) → Repeats (sites_of o) s (d s) e → KnownOne o (calls_of account) sent e
  repeat-known e repeats = record {
    call = λ n op is. let r = repeats.call n op is in subst (Contains sent) (sym r.1) (holds.last s n op r.0).1;
    reply = λ n reply is. absurd (repeats.reply n reply is);
  }

  repeats-known : (more : List Envelope) → AllByRecursion (Repeats (sites_of o) s (d s)) more → AllByRecursion (KnownOne o (calls_of account) sent) more
  repeats-known [] all = tt
  repeats-known (e ∷ es) all = (repeat-known e all.0, repeats-known es all.1)

  begun-after : (input : Input) (op : Op) (x : Desk) → (d s).outstanding ≡ None → with_done (Some input) (Began ((d s).calls + 1)) (calls_of account) ≡ calls_of account
      → x.kept ≡ (d s).kept → x.table ≡ (d s).table → x.calls ≡ (d s).calls + 1 → x.outstanding ≡ awaits ((d s).calls + 1) op
      → Once o (at d s x) (sent ++ (call_envelope (sites_of o) s ((d s).calls + 1) op ∷ [])) (record { site = s; input = Some input; answer = Began ((d s).calls + 1) } ∷ account)
  begun-after input op x free calls kept table number outstanding =
      let more = sent ++ (call_envelope (sites_of o) s ((d s).calls + 1) op ∷ []) in
      let done : Done = record { site = s; input = Some input; answer = Began ((d s).calls + 1) } in
      let view : begun_view o (view_of d) sent (calls_of account) account holds s op free ≡ view_of (at d s x) =
      ap (λ k. record (view_of d) { calls = at (view_of d).calls s k; outstanding = at (view_of d).outstanding s (awaits ((d s).calls + 1) op) }) (sym number)
      ∙ (ap (λ k. record (view_of d) { calls = at (view_of d).calls s x.calls; outstanding = at (view_of d).outstanding s k }) (sym outstanding) ∙ sym (view-begun d s x kept table)) in
      subst (λ v. Holds o v more (with_done (Some input) (Began ((d s).calls + 1)) (calls_of account)) (done ∷ account)) view
      (subst (λ c. Holds o (begun_view o (view_of d) sent (calls_of account) account holds s op free) more c (done ∷ account)) (sym calls)
      (told o _ more (calls_of account) account (begins o (view_of d) sent (calls_of account) account holds s op free) done
      (λ n reply a is. cc)))

  replied-after : (e : Envelope) (n : ℕ) (op : Op) (reply : Reply) (a : Option ℕ) (x : Desk) → Contains sent e → e.to ≡ s → e.message ≡ Replies n reply
      → (d s).outstanding ≡ awaits n op → x.calls ≡ (d s).calls → x.kept ≡ (d s).kept → x.table ≡ (d s).table → x.outstanding ≡ None
      → Once o (at d s x) (sent ++ []) (record { site = s; input = Some (Deliver e); answer = Replied n reply a } ∷ account)
  replied-after e n op reply a x found to is outstanding calls kept table none =
      let done : Done = record { site = s; input = Some (Deliver e); answer = Replied n reply a } in
      let known : reply_to o (calls_of account) s n ≡ Some reply = subst (λ t. reply_to o (calls_of account) t n ≡ Some reply) to (holds.replies e n reply found is) in
      let view : ended_view o (view_of d) sent (calls_of account) account holds s n op reply outstanding known ≡ view_of (at d s x) =
      ap (λ k. record (view_of d) { outstanding = at (view_of d).outstanding s k }) (sym none) ∙ sym (view-ended d s x calls kept table) in
      subst (λ v. Holds o v (sent ++ []) (with_done (Some (Deliver e)) (Replied n reply a) (calls_of account)) (done ∷ account)) view
      (subst (λ c. Holds o (ended_view o (view_of d) sent (calls_of account) account holds s n op reply outstanding known) (sent ++ []) c (done ∷ account))
      (sym (unheard e _ (Replied n reply a) (calls_of account) is refl refl))
      (grown o _ sent (calls_of account) account (ends o (view_of d) sent (calls_of account) account holds s n op reply outstanding known) [] done
      (known-all o (calls_of account) sent [] tt)
      (λ m other b told'. let number : n ≡ m = cc in let same : reply ≡ other = cc in
      subst (λ y. reply_to o (calls_of account) s y ≡ Some other) number (subst (λ y. reply_to o (calls_of account) s n ≡ Some y) same known))))

  executed-after : (e : Envelope) (n : ℕ) (op : Op) → Contains sent e → e.to ≡ s → e.message ≡ Call n op → freshness ((d s).kept e.from) n ≡ Fresh
      → (let done = kernel_call (sites_of o) s op (d s).table in
      Once o (at d s (executed_desk (sites_of o) e.from n op done (d s)))
      (sent ++ (reply_envelope s e.from n done.reply ∷ purges (sites_of o) s (destroyed_by op (d s).table done.segments)))
      (record { site = s; input = Some (Deliver e); answer = Took } ∷ account))
  executed-after e n op found to is fresh =
      let calls = calls_of account in
      let v = view_of d in
      let done = kernel_call (sites_of o) s op (d s).table in
      let told' : Done = record { site = s; input = Some (Deliver e); answer = Took } in
      let above : kept_number (v.kept s e.from) < n = fresh-above ((d s).kept e.from) n (holds.call e n op found is).least fresh in
      let more = reply_envelope s e.from n done.reply ∷ purges (sites_of o) s (destroyed_by op (d s).table done.segments) in
      let after : List Numbered = record { site = e.from; number = n; op = op } ∷ calls in
      subst (λ w. Holds o w (sent ++ more) (with_done (Some (Deliver e)) Took calls) (told' ∷ account))
      (sym (view-executed d s (executed_desk (sites_of o) e.from n op done (d s)) refl refl))
      (subst (λ c. Holds o (executed_view o v sent calls account holds s below e n op to found is above) (sent ++ more) c (told' ∷ account))
      (sym (heard e n op Took calls false is refl (unlisted o v sent calls account holds s below e n op to found is above)))
      (grown o _ sent after account (executes o v sent calls account holds s below e n op to found is above) more told'
      (known-all o after sent more (
        known-reply o after sent s e.from n done.reply (replies-now o v sent calls account holds s below e n op to found is above),
        known-purges o after sent (sites_of o) s (destroyed_by op (d s).table done.segments),
      ))
      (plain-answered o after told' refl)))

  -- a call that was executed before
  pub repeated : (e : Envelope) (n : ℕ) (op : Op) (answer : Answer) → Contains sent e → e.to ≡ s → e.message ≡ Call n op → is_refused answer ≡ false
      → n ≤ kept_number ((d s).kept e.from) → with_done (Some (Deliver e)) answer (calls_of account) ≡ calls_of account
  repeated e n op answer found to is taken below' =
      heard e n op answer (calls_of account) true is taken
      ((holds.call e n op found is).listed (subst (λ x. n ≤ kept_number ((d x).kept e.from)) (sym to) below'))

  again-after : (e : Envelope) (n : ℕ) (op : Op) (reply : Reply) → Contains sent e → e.to ≡ s → e.message ≡ Call n op → freshness ((d s).kept e.from) n ≡ Again reply
      → Once o (at d s (d s)) (sent ++ (reply_envelope s e.from n reply ∷ [])) (record { site = s; input = Some (Deliver e); answer = Took } ∷ account)
  again-after e n op reply found to is fresh =
      let k = again-kept ((d s).kept e.from) n reply fresh in
      let kept : kept_number ((d s).kept e.from) ≡ n = ap kept_number k.1 ∙ k.2 in
      let known : reply_to o (calls_of account) e.from n ≡ Some reply =
      subst (λ y. reply_to o (calls_of account) e.from y ≡ Some reply) k.2
      (subst (λ y. reply_to o (calls_of account) e.from k.0.number ≡ Some y) k.3 (holds.kept s e.from k.0 k.1)) in
      same-after (Deliver e) (d s) Took _ (view-same d s (d s) refl refl refl refl)
      (repeated e n op Took found to is refl (omega arith)) refl (known-reply o (calls_of account) sent s e.from n reply known, tt)

  pub once-after : (input : Input) (x : Desk) (answer : Answer) (more : List Envelope) → Honest sent s input → Turn (sites_of o) s (d s) input x answer more
      → Once o (at d s x) (sent ++ more) (record { site = s; input = Some input; answer = answer } ∷ account)
  once-after input x answer more fair (quiet i b ms silent plain repeats) =
      same-after i (d s) b ms (view-same d s (d s) refl refl refl refl) (silent (calls_of account)) plain (repeats-known ms repeats)
  once-after input x answer more fair (op_begun op free undetached) = begun-after _ op _ free refl refl refl refl refl
  once-after input x answer more fair (detach_begun a y free stands) = begun-after _ (Detach y.id) _ free refl refl refl refl refl
  once-after input x answer more fair (executed e n op is fresh) = executed-after e n op fair.0 fair.1 is fresh
  once-after input x answer more fair (again e n op reply is fresh) = again-after e n op reply fair.0 fair.1 is fresh
  once-after input x answer more fair (old e n op is fresh) =
      same-after (Deliver e) (d s) Dropped [] (view-same d s (d s) refl refl refl refl)
      (repeated e n op Dropped fair.0 fair.1 is refl (old-below ((d s).kept e.from) n (holds.call e n op fair.0 is).least fresh)) refl tt
  once-after input x answer more fair (ended e n op reply is outstanding unattached) =
      replied-after e n op reply None _ fair.0 fair.1 is outstanding refl refl refl refl
  once-after input x answer more fair (attached e n cred id ro y a is outstanding free) =
      replied-after e n (Attach cred id ro) _ (Some a) _ fair.0 fair.1 is outstanding refl refl refl refl
  once-after input x answer more fair (purges_one e id is) =
      same-after (Deliver e) _ Took _ (view-same d s _ refl refl refl refl) (unheard e _ Took (calls_of account) is refl refl) refl
      (record { call = λ n op h. cc; reply = λ n reply h. cc }, tt)
  once-after input x answer more fair (hears_purged e id is) =
      same-after (Deliver e) _ Took [] (view-same d s _ refl refl refl refl) (unheard e _ Took (calls_of account) is refl refl) refl tt

-- the opening
pub none-sent : {X : Type 0} (x : X) → Contains [] x → ⊥
none-sent x (k, within, is) = omega arith

same-home-zero : (n h : ℕ) → h < n → (h == 0) ≡ (0 % n == h)
same-home-zero n h below = let zero' : 0 % n ≡ 0 = mod-eq_of_lt (omega arith) in grind (arith, nat_tests)

first-table : (o : Opening) (h : ℕ) → h < sites_of o → (opened_site o h).table ≡ part (sites_of o) h (segments_at_first o)
first-table (New n) h below = refl
first-table (Preset n pages) h below = ap (λ b. if b then preset_segment n pages ∷ [] else []) (same-home-zero n h below)
first-table (Framed n pages frames) h below = ap (λ b. if b then preset_segment n pages ∷ [] else []) (same-home-zero n h below)

first-keys : (o : Opening) → AllByRecursion (HasKeyAtHome (sites_of o)) (segments_at_first o)
first-keys (New n) = tt
first-keys (Preset n pages) = (λ keyed. absurd (keyed refl), tt)
first-keys (Framed n pages frames) = (λ keyed. absurd (keyed refl), tt)

pub idle : (o : Opening) (s : ℕ) → ((opened_site o s).outstanding ≡ None) × ((opened_site o s).kept ≡ (λ t. None))
idle (New n) s = (refl, refl)
idle (Preset n pages) s = (refl, refl)
idle (Framed n pages frames) s = (refl, refl)

pub once-first : (o : Opening) → Once o (λ s. desk_of (opened_site o s)) [] []
once-first o = record {
  call = λ e n op found is. absurd (none-sent e found);
  one = λ e f n op p x y same is was. absurd (none-sent e x);
  last = λ s n op is. let h = (idle o s).0 in cc;
  kept = λ h s k is. let none = ap (λ f. f s) (idle o h).1 in cc;
  bound = λ h s. let none = ap (λ f. kept_number (f s)) (idle o h).1 in omega arith;
  listed = λ s n h. cc;
  table = first-table o;
  keys = first-keys o;
  replies = λ e n reply found is. absurd (none-sent e found);
  answered = tt;
}

still-answered : (o : Opening) (calls : List Numbered) (s : ℕ) (answer : Answer) → IsStill answer
    → Answered o calls (record { site = s; input = None; answer = answer })
still-answered o calls s answer still_took n reply a is = cc
still-answered o calls s answer (still_refused k) n reply a is = cc

pub once-stays : (o : Opening) (d : ℕ → Desk) (sent : List Envelope) (account : List Done) (s : ℕ) (answer : Answer) → Once o d sent account → IsStill answer
    → Once o d sent (record { site = s; input = None; answer = answer } ∷ account)
once-stays o d sent account s answer holds still =
    told o (view_of d) sent (calls_of account) account holds (record { site = s; input = None; answer = answer }) (still-answered o (calls_of account) s answer still)

once-turns : (o : Opening) → ByTurns o (Once o)
once-turns o = record {
  first = once-first o;
  turns = λ d sent account s input x answer more holds below fair turn. once-after o d sent account s holds below input x answer more fair turn;
  stays = once-stays o;
}

pub run-once : (o : Opening) (events : List Event) → Once o (desks o (run o events).world.sites) (run o events).world.sent (run o events).account
run-once o events = run-turns o (Once o) (once-turns o) events

pub executed-once : (o : Opening) (events : List Event) → ExecutedOnce o (run o events)
executed-once o events = let holds = run-once o events in record {
  sent = λ e n reply found is. holds.replies e n reply found is;
  answered = λ d n reply a found is. every-contains (Answered o (calls_of (run o events).account)) (run o events).account d holds.answered found n reply a is;
}

pub homes-keep : (o : Opening) (events : List Event) → HomesKeepTheirPart o (run o events)
homes-keep o events h home found =
    let sites = (run o events).world.sites in
    let within : h < sites_of o = subst (λ n. h < n) (run-shape o events).sites (slice_get_within sites h home found) in
    sym (ap (λ x. x.table) (get_or_from_slice_get sites h home (opened_site o h) found)) ∙ (run-once o events).table h within
