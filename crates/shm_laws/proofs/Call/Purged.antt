-- Nothing alive is purged: what a site has purged, what is missing at a home, and what a purge names is destroyed.
use Rattle.std.proofs.Common.{◌≡◌, ℕ, ◌<◌, Bool, true, false, ◌&&◌, not, List, [], ◌∷◌, ◌++◌, map, Option, Some, None, if◌then◌else◌, refl, sym, ap, ◌∙◌, subst, inl, inr, Contains, slice_get, nat_lt}
use Rattle.std.specs.List.{AllByRecursion, range_with_len}
use Rattle.std.proofs.lemmas.List.Elements.{Contains-append_cases}
use Rattle.std.proofs.lemmas.Option.{get_or_from_slice_get}
use Rattle.shm_place.specs.Home.{home_of_id}
use Rattle.shm_model.specs.declared.answer.Answer.{Answer}
use Rattle.shm_model.specs.declared.answer.Answer.TheVariants.{Dropped, Replied, Took}
use Rattle.shm_model.specs.declared.call.Op.{Op}
use Rattle.shm_model.specs.declared.call.Op.TheVariants.{Get, Attach, Detach, Remove, Set, Stat}
use Rattle.shm_model.specs.declared.call.Reply.TheVariants.{Attached as AttachedReply}
use Rattle.shm_model.specs.declared.event.Event.{Event}
use Rattle.shm_model.specs.Basics.{at}
use Rattle.shm_model.specs.Permission.{Segment, destroyed}
use Rattle.shm_model.specs.Kernel.{call as kernel_call, destroyed_by, destroyed_in, is_destroyed, named_by, with_id}
use Rattle.shm_model.specs.Message.{Call, Purge, Envelope, Input, Deliver}
use Rattle.shm_model.specs.Calls.{op_home}
use Rattle.shm_model.specs.SegmentCalls.{purge_envelope, purges, reply_envelope}
use Rattle.shm_model.specs.Site.{Site}
use Rattle.shm_model.specs.World.{Done, IsOpening, Opening, New, Preset, Framed, opened_site, run, sites_of}
use Rattle.shm_model.specs.History.{Numbered, PurgedDead, called_on, calls_of, held, kernel, with_done}
use Rattle.shm_laws.proofs.Kernel.Parts.{finds-id, part}
use Rattle.shm_laws.proofs.Kernel.Effect.{effect-call}
use Rattle.shm_laws.proofs.Kernel.Count.{found-after}
use Rattle.shm_laws.proofs.Kernel.Held.{held-alive}
use Rattle.shm_laws.proofs.Call.Turn.{Desk, Repeats, Turn, executed_desk, missing_with, again, attached, detach_begun, ended, executed, hears_purged, old, op_begun, purges_one, quiet}
use Rattle.shm_laws.proofs.Call.Invariant.{at-cases, kept_number}
use Rattle.shm_laws.proofs.Call.Steps.{at-here}
use Rattle.shm_laws.proofs.Call.Views.{fresh-above, old-below}
use Rattle.shm_laws.proofs.Call.Executed.{unlisted}
use Rattle.shm_laws.proofs.Call.Run.{ByTurns, Honest, run-turns}
use Rattle.shm_laws.proofs.Call.Once.{Once, heard, none-sent, once-after, once-first, once-stays, repeated, unheard}
use Rattle.shm_laws.proofs.Call.Counted.{names-held, run-counted}
use Rattle.shm_laws.proofs.Call.Balanced.{again-low}
use Rattle.shm_laws.proofs.Kernel.Lists.{every-contains, left-true}

-- the segment is destroyed
pub record Dead (segments : List Segment) (id : ℕ) : Type 0 where
  pub segment : Segment
  pub found : with_id id segments ≡ Some segment
  pub gone : destroyed segment ≡ true

pub record PurgedBy (o : Opening) (d : ℕ → Desk) (envelopes : List Envelope) (account : List Done) : Type 0 where
  pub once : Once o d envelopes account
  pub purged : (s id : ℕ) → (d s).purged id ≡ true → Dead (kernel o (calls_of account)) id
  pub missing : (h id s : ℕ) → (d h).missing id s ≡ true → Dead (kernel o (calls_of account)) id
  pub sent : (e : Envelope) (id : ℕ) → Contains envelopes e → e.message ≡ Purge id → Dead (kernel o (calls_of account)) id

-- what an envelope that asks to purge must name
abbrev pub Buries : List Segment → Envelope → Type 0
Buries segments e = (id : ℕ) → e.message ≡ Purge id → Dead segments id

module _ (o : Opening) (d : ℕ → Desk) (sent : List Envelope) (account : List Done) (s : ℕ) (by : PurgedBy o d sent account) (below : s < sites_of o) where
  abbrev tell : Input → Answer → Done
  tell input answer = record { site = s; input = Some input; answer = answer }

  -- what was dead stays dead, and what is new is dead
  buried : (input : Input) (x : Desk) (answer : Answer) (more : List Envelope) → Once o (at d s x) (sent ++ more) (tell input answer ∷ account)
      → ((id : ℕ) → Dead (kernel o (calls_of account)) id → Dead (kernel o (calls_of (tell input answer ∷ account))) id)
      → ((id : ℕ) → x.purged id ≡ true → Dead (kernel o (calls_of (tell input answer ∷ account))) id)
      → ((id t : ℕ) → x.missing id t ≡ true → Dead (kernel o (calls_of (tell input answer ∷ account))) id)
      → AllByRecursion (Buries (kernel o (calls_of (tell input answer ∷ account)))) more
      → PurgedBy o (at d s x) (sent ++ more) (tell input answer ∷ account)
  buried input x answer more once stays purged' missing' more' = record {
    once = once;
    purged = λ t id is. at-cases (λ y. y.purged id ≡ true → Dead (kernel o (calls_of (tell input answer ∷ account))) id) d s x t
        (λ here gone. purged' id gone) (λ there gone. stays id (by.purged t id gone)) is;
    missing = λ h id t is. at-cases (λ y. y.missing id t ≡ true → Dead (kernel o (calls_of (tell input answer ∷ account))) id) d s x h
        (λ here gone. missing' id t gone) (λ there gone. stays id (by.missing h id t gone)) is;
    sent = λ e id found is. elim (Contains-append_cases sent more e found) [
      | inl before ↦ stays id (by.sent e id before is)
      | inr now ↦ every-contains (Buries (kernel o (calls_of (tell input answer ∷ account)))) more e more' now id is
    ];
  }

  same-stays : (input : Input) (answer : Answer) → with_done (Some input) answer (calls_of account) ≡ calls_of account
      → (id : ℕ) → Dead (kernel o (calls_of account)) id → Dead (kernel o (calls_of (tell input answer ∷ account))) id
  same-stays input answer same id dead = subst (λ c. Dead (kernel o c) id) (sym same) dead

  -- the calls stay the same
  still-buried : (input : Input) (x : Desk) (answer : Answer) (more : List Envelope) → Once o (at d s x) (sent ++ more) (tell input answer ∷ account)
      → with_done (Some input) answer (calls_of account) ≡ calls_of account
      → ((id : ℕ) → x.purged id ≡ true → Dead (kernel o (calls_of account)) id) → ((id t : ℕ) → x.missing id t ≡ true → Dead (kernel o (calls_of account)) id)
      → AllByRecursion (Buries (kernel o (calls_of account))) more → PurgedBy o (at d s x) (sent ++ more) (tell input answer ∷ account)
  still-buried input x answer more once same purged' missing' more' =
      buried input x answer more once (same-stays input answer same) (λ id is. same-stays input answer same id (purged' id is)) (λ id t is. same-stays input answer same id (missing' id t is))
      (subst (λ c. AllByRecursion (Buries (kernel o c)) more) (sym same) more')

  repeats-buried : (more : List Envelope) → AllByRecursion (Repeats (sites_of o) s (d s)) more → AllByRecursion (Buries (kernel o (calls_of account))) more
  repeats-buried [] all = tt
  repeats-buried (e ∷ es) all = ((λ id is. by.missing s id e.to (all.0.purge id is)), repeats-buried es all.1)

-- what a call destroyed
if-some : (b : Bool) (j i : ℕ) → (if b then Some j else None) ≡ Some i → (b ≡ true) × (j ≡ i)
if-some true j i is = (refl, cc)
if-some false j i is = cc

destroyed-named : (found : Option ℕ) (before after : List Segment) (i : ℕ) → destroyed_in found before after ≡ Some i → (found ≡ Some i) × (is_destroyed (with_id i after) ≡ true)
destroyed-named None before after i is = cc
destroyed-named (Some j) before after i is =
    let h = if-some (is_destroyed (with_id j after) && not (is_destroyed (with_id j before))) j i is in
    (ap Some h.1, subst (λ k. is_destroyed (with_id k after) ≡ true) h.1 (left-true (is_destroyed (with_id j after)) (not (is_destroyed (with_id j before))) h.0))

named-home : (sites caller : ℕ) (op : Op) (i : ℕ) → named_by op ≡ Some i → home_of_id sites i ≡ op_home sites caller op
named-home sites caller (Get cred key size mode flags) i is = cc
named-home sites caller (Attach cred id ro) i is = let same : id ≡ i = cc in ap (home_of_id sites) (sym same)
named-home sites caller (Detach id) i is = let same : id ≡ i = cc in ap (home_of_id sites) (sym same)
named-home sites caller (Remove cred id) i is = let same : id ≡ i = cc in ap (home_of_id sites) (sym same)
named-home sites caller (Set cred id uid gid mode) i is = let same : id ≡ i = cc in ap (home_of_id sites) (sym same)
named-home sites caller (Stat cred id) i is = let same : id ≡ i = cc in ap (home_of_id sites) (sym same)

dead-found : (segments : List Segment) (i : ℕ) (found : Option Segment) → with_id i segments ≡ found → is_destroyed found ≡ true → Dead segments i
dead-found segments i None is gone = cc
dead-found segments i (Some g) is gone = record { segment = g; found = is; gone = gone }

gone-dead : (sites h caller : ℕ) → h < sites → (op : Op) (before after all : List Segment) (i : ℕ) → op_home sites caller op ≡ h → after ≡ part sites h all
    → destroyed_by op before after ≡ Some i → Dead all i
gone-dead sites h caller below op before after all i home whole is =
    let n = destroyed-named (named_by op) before after i is in
    let at-home : home_of_id sites i ≡ h = named-home sites caller op i n.0 ∙ home in
    dead-found all i (with_id i all) refl
    (subst (λ f. is_destroyed f ≡ true) (ap (with_id i) whole ∙ finds-id sites h below all i at-home) n.1)

missing-dead : (sites : ℕ) (gone : Option ℕ) (missing : ℕ → ℕ → Bool) (segments : List Segment) → ((i : ℕ) → gone ≡ Some i → Dead segments i)
    → ((i t : ℕ) → missing i t ≡ true → Dead segments i) → (i t : ℕ) → missing_with sites gone missing i t ≡ true → Dead segments i
missing-dead sites None missing segments new before i t = before i t
missing-dead sites (Some j) missing segments new before i t =
    at-cases (λ f. f t ≡ true → Dead segments i) missing j (λ r. nat_lt r sites) i (λ same is. new i (ap Some same)) (λ other is. before i t is)

purges-dead : (me j : ℕ) (segments : List Segment) (xs : List ℕ) → Dead segments j → AllByRecursion (Buries segments) (map (purge_envelope me j) xs)
purges-dead me j segments [] dead = tt
purges-dead me j segments (x ∷ xs) dead = ((λ i is. let same : j ≡ i = cc in subst (Dead segments) same dead), purges-dead me j segments xs dead)

all-dead : (sites me : ℕ) (gone : Option ℕ) (segments : List Segment) → ((i : ℕ) → gone ≡ Some i → Dead segments i) → AllByRecursion (Buries segments) (purges sites me gone)
all-dead sites me None segments new = tt
all-dead sites me (Some j) segments new = purges-dead me j segments (range_with_len 0 sites) (new j refl)

-- what was dead stays dead where a call is executed
dead-stays : (o : Opening) (x : Numbered) (calls : List Numbered) → op_home (sites_of o) x.site x.op < sites_of o → (i : ℕ) → Dead (kernel o calls) i → Dead (kernel o (x ∷ calls)) i
dead-stays o x calls below i dead =
    let stays = found-after (sites_of o) (op_home (sites_of o) x.site x.op) x.op (kernel o calls) (called_on o x (kernel o calls))
    (effect-call (sites_of o) (op_home (sites_of o) x.site x.op) x.site below x.op (kernel o calls) refl) i dead.segment dead.found in
    record { segment = stays.new; found = stays.found; gone = stays.dead dead.gone }

module _ (o : Opening) (d : ℕ → Desk) (sent : List Envelope) (account : List Done) (s : ℕ) (by : PurgedBy o d sent account) (below : s < sites_of o) where
  executed-buried : (e : Envelope) (n : ℕ) (op : Op) → Contains sent e → e.to ≡ s → e.message ≡ Call n op → with_done (Some (Deliver e)) Took (calls_of account) ≡ record { site = e.from; number = n; op = op } ∷ calls_of account
      → (let done = kernel_call (sites_of o) s op (d s).table in let x = executed_desk (sites_of o) e.from n op done (d s) in
      let more = reply_envelope s e.from n done.reply ∷ purges (sites_of o) s (destroyed_by op (d s).table done.segments) in
      Once o (at d s x) (sent ++ more) (tell o d sent account s by below (Deliver e) Took ∷ account)
      → PurgedBy o (at d s x) (sent ++ more) (tell o d sent account s by below (Deliver e) Took ∷ account))
  executed-buried e n op found to is listed once =
      let done = kernel_call (sites_of o) s op (d s).table in
      let gone = destroyed_by op (d s).table done.segments in
      let x = executed_desk (sites_of o) e.from n op done (d s) in
      let call : Numbered = record { site = e.from; number = n; op = op } in
      let after = kernel o (calls_of (tell o d sent account s by below (Deliver e) Took ∷ account)) in
      let is-after : after ≡ kernel o (call ∷ calls_of account) = ap (kernel o) listed in
      let home : op_home (sites_of o) e.from op ≡ s = sym (by.once.call e n op found is).home ∙ to in
      let stays : (i : ℕ) → Dead (kernel o (calls_of account)) i → Dead after i = λ i dead.
      subst (λ k. Dead k i) (sym is-after) (dead-stays o call (calls_of account) (subst (λ h. h < sites_of o) (sym home) below) i dead) in
      let whole : done.segments ≡ part (sites_of o) s after = ap (λ y. y.table) (sym (at-here d s x s refl)) ∙ once.table s below in
      let new : (i : ℕ) → gone ≡ Some i → Dead after i = λ i g. gone-dead (sites_of o) s e.from below op (d s).table done.segments after i home whole g in
      buried o d sent account s by below (Deliver e) x Took _ once stays (λ i h. stays i (by.purged s i h))
      (missing-dead (sites_of o) gone (d s).missing after new (λ i t h. stays i (by.missing s i t h)))
      ((λ i h. cc), all-dead (sites_of o) s gone after new)

  heard-missing : (from id : ℕ) (missing : ℕ → ℕ → Bool) (segments : List Segment) → ((i t : ℕ) → missing i t ≡ true → Dead segments i)
      → (i t : ℕ) → at missing id (at (missing id) from false) i t ≡ true → Dead segments i
  heard-missing from id missing segments before i t =
      at-cases (λ f. f t ≡ true → Dead segments i) missing id (at (missing id) from false) i
      (λ same. at-cases (λ b. b ≡ true → Dead segments i) (missing id) from false t (λ here is. cc) (λ there is. subst (Dead segments) same (before id t is)))
      (λ other is. before i t is)

  purged-one : (id : ℕ) (purged : ℕ → Bool) (segments : List Segment) → Dead segments id → ((i : ℕ) → purged i ≡ true → Dead segments i)
      → (i : ℕ) → at purged id true i ≡ true → Dead segments i
  purged-one id purged segments dead before i =
      at-cases (λ b. b ≡ true → Dead segments i) purged id true i (λ same is. subst (Dead segments) same dead) (λ other is. before i is)

  purged-after : (input : Input) (x : Desk) (answer : Answer) (more : List Envelope) → Honest sent s input
      → Once o (at d s x) (sent ++ more) (tell o d sent account s by below input answer ∷ account)
      → Turn (sites_of o) s (d s) input x answer more → PurgedBy o (at d s x) (sent ++ more) (tell o d sent account s by below input answer ∷ account)
  purged-after input x answer more fair once (quiet i b ms silent plain repeats) =
      still-buried o d sent account s by below i (d s) b ms once (silent (calls_of account)) (by.purged s) (by.missing s) (repeats-buried o d sent account s by below ms repeats)
  purged-after input x answer more fair once (op_begun op free undetached) =
      still-buried o d sent account s by below _ _ _ _ once refl (by.purged s) (by.missing s) ((λ i is. cc), tt)
  purged-after input x answer more fair once (detach_begun a y free stands) =
      still-buried o d sent account s by below _ _ _ _ once refl (by.purged s) (by.missing s) ((λ i is. cc), tt)
  purged-after input x answer more fair once (executed e n op is fresh) =
      let above : kept_number ((d s).kept e.from) < n = fresh-above ((d s).kept e.from) n (by.once.call e n op fair.0 is).least fresh in
      executed-buried e n op fair.0 fair.1 is
      (heard e n op Took (calls_of account) false is refl (unlisted o _ sent (calls_of account) account by.once s below e n op fair.1 fair.0 is above)) once
  purged-after input x answer more fair once (again e n op reply is fresh) =
      still-buried o d sent account s by below (Deliver e) (d s) _ _ once
      (repeated o d sent account s by.once below e n op Took fair.0 fair.1 is refl (again-low (d s).kept e.from n reply fresh)) (by.purged s) (by.missing s) ((λ i h. cc), tt)
  purged-after input x answer more fair once (old e n op is fresh) =
      still-buried o d sent account s by below (Deliver e) (d s) _ [] once
      (repeated o d sent account s by.once below e n op Dropped fair.0 fair.1 is refl (old-below ((d s).kept e.from) n (by.once.call e n op fair.0 is).least fresh)) (by.purged s) (by.missing s) tt
  purged-after input x answer more fair once (ended e n op reply is outstanding unattached) =
      still-buried o d sent account s by below (Deliver e) _ _ [] once (unheard e _ (Replied n reply None) (calls_of account) is refl refl) (by.purged s) (by.missing s) tt
  purged-after input x answer more fair once (attached e n cred id ro y a is outstanding free) =
      still-buried o d sent account s by below (Deliver e) _ _ [] once (unheard e _ (Replied n (AttachedReply y) (Some a)) (calls_of account) is refl refl) (by.purged s) (by.missing s) tt
  purged-after input x answer more fair once (purges_one e id is) =
      still-buried o d sent account s by below (Deliver e) _ _ _ once (unheard e _ Took (calls_of account) is refl refl)
      (purged-one id (d s).purged (kernel o (calls_of account)) (by.sent e id fair.0 is) (by.purged s)) (by.missing s) ((λ i h. cc), tt)
  purged-after input x answer more fair once (hears_purged e id is) =
      still-buried o d sent account s by below (Deliver e) _ _ [] once (unheard e _ Took (calls_of account) is refl refl)
      (by.purged s) (heard-missing e.from id (d s).missing (kernel o (calls_of account)) (by.missing s)) tt

first-clean : (o : Opening) (s : ℕ) → ((opened_site o s).purged ≡ (λ i. false)) × ((opened_site o s).missing ≡ (λ i t. false))
first-clean (New n) s = (refl, refl)
first-clean (Preset n pages) s = (refl, refl)
first-clean (Framed n pages frames) s = (refl, refl)

purged-turns : (o : Opening) → ByTurns o (PurgedBy o)
purged-turns o = record {
  first = record {
    once = once-first o;
    purged = λ s id is. let h = ap (λ f. f id) (first-clean o s).0 in cc;
    missing = λ h id s is. let k = ap (λ f. f id s) (first-clean o h).1 in cc;
    sent = λ e id found is. absurd (none-sent e found);
  };
  turns = λ d sent account s input x answer more by below fair turn.
      purged-after o d sent account s by below input x answer more fair (once-after o d sent account s by.once below input x answer more fair turn) turn;
  stays = λ d sent account s answer by still. record {
    once = once-stays o d sent account s answer by.once still;
    purged = by.purged;
    missing = by.missing;
    sent = by.sent;
  };
}

same-segment : (found : Option Segment) (g x : Segment) → found ≡ Some g → found ≡ Some x → g ≡ x
same-segment found g x p q = cc

pub purged-dead : (o : Opening) → IsOpening o → (events : List Event) → PurgedDead o (run o events)
purged-dead o opening events =
    let r = run o events in
    let by = run-turns o (PurgedBy o) (purged-turns o) events in
    let counted = run-counted o opening events in
    let dead : (s id : ℕ) (site : Site) → slice_get r.world.sites s ≡ Some site → site.purged id ≡ true → Dead (kernel o (calls_of r.account)) id = λ s id site found is.
    by.purged s id (ap (λ y. y.purged id) (get_or_from_slice_get r.world.sites s site (opened_site o s) found) ∙ is) in
    record {
      dead = λ s id site found is. ((dead s id site found is).segment, (dead s id site found is).found, (dead s id site found is).gone);
      unnamed = λ s t a id site found is low named.
          let stands = held-alive (held o r.account) (kernel o (calls_of r.account)) id counted.balance.balanced (names-held o _ _ r.account counted t a id low named) in
          let gone = dead s id site found is in
          let same : stands.0 ≡ gone.segment = same-segment (with_id id (kernel o (calls_of r.account))) stands.0 gone.segment stands.1 gone.found in
          let alive = stands.2 in let over = gone.gone in cc (ap destroyed same);
    }
