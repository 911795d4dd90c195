-- What one site has purged every site purges: each has done it, or its home misses its answer.
use Rattle.std.proofs.Common.{◌≡◌, ◌≢◌, ℕ, ◌<◌, ◌⊎◌, inl, inr, Bool, true, false, nat_lt, List, [], ◌∷◌, ◌++◌, Option, Some, None, map, refl, sym, ◌∙◌, ap, subst, Contains, slice_get}
use Rattle.std.specs.List.{AllByRecursion, range_with_len}
use Rattle.std.proofs.lemmas.Bool.{lt-ltb}
use Rattle.std.proofs.lemmas.List.Elements.{Contains-append_cases}
use Rattle.std.proofs.lemmas.Option.{get_or_from_slice_get}
use Rattle.shm_place.specs.Home.{home_of_id}
use Rattle.shm_model.specs.declared.answer.Answer.{Answer}
use Rattle.shm_model.specs.declared.call.Op.{Op}
use Rattle.shm_model.specs.declared.event.Event.{Event}
use Rattle.shm_model.specs.Basics.{at}
use Rattle.shm_model.specs.Kernel.{call as kernel_call, destroyed_by, named_by}
use Rattle.shm_model.specs.Calls.{op_home}
use Rattle.shm_model.specs.Message.{Deliver, Envelope, Input, Purge, Purged}
use Rattle.shm_model.specs.SegmentCalls.{purge_envelope, purges, reply_envelope}
use Rattle.shm_model.specs.Site.{Site}
use Rattle.shm_model.specs.World.{Done, Framed, New, Opening, Preset, opened_site, run, sites_of}
use Rattle.shm_laws.proofs.Call.Turn.{Desk, Repeats, Turn, again, attached, detach_begun, ended, executed, hears_purged, missing_with, old, op_begun, purges_one, quiet}
use Rattle.shm_laws.proofs.Call.Invariant.{at-cases}
use Rattle.shm_laws.proofs.Call.Steps.{at-here}
use Rattle.shm_laws.proofs.Call.Run.{ByTurns, Honest, desks, run-turns}
use Rattle.shm_laws.proofs.Call.Once.{Once, none-sent, once-after, once-first, once-stays}
use Rattle.shm_laws.proofs.Kernel.Lists.{every-contains}
use Rattle.shm_progress.proofs.Purge.Tables.{destroyed-named, named-home}

-- each site has purged the segment, or its home misses its answer
abbrev pub Heard : ℕ → (ℕ → Desk) → ℕ → Type 0
Heard sites d id = (t : ℕ) → t < sites → ((d (home_of_id sites id)).missing id t ≡ true) ⊎ ((d t).purged id ≡ true)

pub record Everyone (o : Opening) (d : ℕ → Desk) (envelopes : List Envelope) (account : List Done) : Type 0 where
  pub once : Once o d envelopes account
  pub asked : (e : Envelope) (id : ℕ) → Contains envelopes e → e.message ≡ Purge id → Heard (sites_of o) d id
  pub answered : (e : Envelope) (id : ℕ) → Contains envelopes e → e.message ≡ Purged id → (d e.from).purged id ≡ true
  pub missing : (h id t : ℕ) → (d h).missing id t ≡ true → Heard (sites_of o) d id
  pub purged : (s id : ℕ) → (d s).purged id ≡ true → Heard (sites_of o) d id

-- what a new envelope says
pub record Says (sites : ℕ) (d : ℕ → Desk) (e : Envelope) : Type 0 where
  pub asks : (id : ℕ) → e.message ≡ Purge id → Heard sites d id
  pub answers : (id : ℕ) → e.message ≡ Purged id → (d e.from).purged id ≡ true

module _ (o : Opening) (d : ℕ → Desk) (sent : List Envelope) (account : List Done) (s : ℕ) (by : Everyone o d sent account) (x : Desk)
    (misses : (id t : ℕ) → t < sites_of o → (d s).missing id t ≡ true → (x.missing id t ≡ true) ⊎ ((at d s x t).purged id ≡ true)) (purges : (id : ℕ) → (d s).purged id ≡ true → x.purged id ≡ true) where
  purged-on : (id t : ℕ) → (d t).purged id ≡ true → (at d s x t).purged id ≡ true
  purged-on id t is = at-cases (λ (y : Desk). y.purged id ≡ true) d s x t (λ here. purges id (subst (λ k. (d k).purged id ≡ true) (sym here) is)) (λ there. is)

  pub heard-on : (id : ℕ) → Heard (sites_of o) d id → Heard (sites_of o) (at d s x) id
  heard-on id heard t small = by-way (heard t small)
    where
      by-way : ((d (home_of_id (sites_of o) id)).missing id t ≡ true) ⊎ ((d t).purged id ≡ true) → ((at d s x (home_of_id (sites_of o) id)).missing id t ≡ true) ⊎ ((at d s x t).purged id ≡ true)
      by-way (inl missed) =
          at-cases (λ (y : Desk). (y.missing id t ≡ true) ⊎ ((at d s x t).purged id ≡ true)) d s x (home_of_id (sites_of o) id)
          (λ here. misses id t small (subst (λ k. (d k).missing id t ≡ true) (sym here) missed)) (λ there. inl missed)
      by-way (inr purged) = inr (purged-on id t purged)

  pub next : (input : Input) (answer : Answer) (more : List Envelope) → Once o (at d s x) (sent ++ more) (record { site = s; input = Some input; answer = answer } ∷ account)
      → ((id t : ℕ) → x.missing id t ≡ true → Heard (sites_of o) (at d s x) id) → ((id : ℕ) → x.purged id ≡ true → Heard (sites_of o) (at d s x) id) → AllByRecursion (Says (sites_of o) (at d s x)) more
      → Everyone o (at d s x) (sent ++ more) (record { site = s; input = Some input; answer = answer } ∷ account)
  next input answer more once missing' purged' says = record {
    once = once;
    asked = λ e id found is. elim (Contains-append_cases sent more e found) [
      | inl before ↦ heard-on id (by.asked e id before is)
      | inr now ↦ (every-contains (Says (sites_of o) (at d s x)) more e says now).asks id is
    ];
    answered = λ e id found is. elim (Contains-append_cases sent more e found) [
      | inl before ↦ purged-on id e.from (by.answered e id before is)
      | inr now ↦ (every-contains (Says (sites_of o) (at d s x)) more e says now).answers id is
    ];
    missing = λ h id t is. at-cases (λ (y : Desk). y.missing id t ≡ true → Heard (sites_of o) (at d s x) id) d s x h (λ here is. missing' id t is) (λ there is. heard-on id (by.missing h id t is)) is;
    purged = λ t id is. at-cases (λ (y : Desk). y.purged id ≡ true → Heard (sites_of o) (at d s x) id) d s x t (λ here is. purged' id is) (λ there is. heard-on id (by.purged t id is)) is;
  }

module _ (o : Opening) (d : ℕ → Desk) (sent : List Envelope) (account : List Done) (s : ℕ) (by : Everyone o d sent account) (below : s < sites_of o) where
  -- where nothing of a purge changes
  same-next : (input : Input) (x : Desk) (answer : Answer) (more : List Envelope) → Once o (at d s x) (sent ++ more) (record { site = s; input = Some input; answer = answer } ∷ account)
      → x.missing ≡ (d s).missing → x.purged ≡ (d s).purged → AllByRecursion (λ (e : Envelope). ((id : ℕ) → e.message ≡ Purge id → (d s).missing id e.to ≡ true) × ((id : ℕ) → e.message ≢ Purged id)) more
      → Everyone o (at d s x) (sent ++ more) (record { site = s; input = Some input; answer = answer } ∷ account)
  same-next input x answer more once m p plain =
      next o d sent account s by x misses purges input answer more once
      (λ id t is. heard-on o d sent account s by x misses purges id (by.missing s id t (ap (λ (f : ℕ → ℕ → Bool). f id t) (sym m) ∙ is)))
      (λ id is. heard-on o d sent account s by x misses purges id (by.purged s id (ap (λ (f : ℕ → Bool). f id) (sym p) ∙ is)))
      (all more plain)
    where
      misses : (id t : ℕ) → t < sites_of o → (d s).missing id t ≡ true → (x.missing id t ≡ true) ⊎ ((at d s x t).purged id ≡ true)
      misses id t small is = inl (ap (λ (f : ℕ → ℕ → Bool). f id t) m ∙ is)

      purges : (id : ℕ) → (d s).purged id ≡ true → x.purged id ≡ true
      purges id is = ap (λ (f : ℕ → Bool). f id) p ∙ is

      all : (es : List Envelope) → AllByRecursion (λ (e : Envelope). ((id : ℕ) → e.message ≡ Purge id → (d s).missing id e.to ≡ true) × ((id : ℕ) → e.message ≢ Purged id)) es
          → AllByRecursion (Says (sites_of o) (at d s x)) es
      all [] plain = tt
      all (e ∷ es) plain = (record { asks = λ id is. heard-on o d sent account s by x misses purges id (by.missing s id e.to (plain.0.0 id is)); answers = λ id is. absurd (plain.0.1 id is) }, all es plain.1)

  repeats : (more : List Envelope) → AllByRecursion (Repeats (sites_of o) s (d s)) more
      → AllByRecursion (λ (e : Envelope). ((id : ℕ) → e.message ≡ Purge id → (d s).missing id e.to ≡ true) × ((id : ℕ) → e.message ≢ Purged id)) more
  repeats [] all = tt
  repeats (e ∷ es) all = ((all.0.purge, all.0.purged), repeats es all.1)

  -- a call is executed, and may destroy a segment of this home
  module _ (e : Envelope) (n : ℕ) (op : Op) (here : op_home (sites_of o) e.from op ≡ s) (x : Desk) (gone : Option ℕ) (named : (j : ℕ) → gone ≡ Some j → home_of_id (sites_of o) j ≡ s)
      (missing-is : x.missing ≡ missing_with (sites_of o) gone (d s).missing) (purged-is : x.purged ≡ (d s).purged) where
    misses : (id t : ℕ) → t < sites_of o → (d s).missing id t ≡ true → (x.missing id t ≡ true) ⊎ ((at d s x t).purged id ≡ true)
    misses id t small is = inl (ap (λ (f : ℕ → ℕ → Bool). f id t) missing-is ∙ by-gone gone)
      where
        by-gone : (g : Option ℕ) → missing_with (sites_of o) g (d s).missing id t ≡ true
        by-gone None = is
        by-gone (Some j) = at-cases (λ (f : ℕ → Bool). f t ≡ true) (d s).missing j (λ r. nat_lt r (sites_of o)) id (λ same. lt-ltb t (sites_of o) small) (λ other. is)

    kept : (id : ℕ) → (d s).purged id ≡ true → x.purged id ≡ true
    kept id is = ap (λ (f : ℕ → Bool). f id) purged-is ∙ is

    on : (id : ℕ) → Heard (sites_of o) d id → Heard (sites_of o) (at d s x) id
    on id heard = heard-on o d sent account s by x misses kept id heard

    now : (j : ℕ) → gone ≡ Some j → Heard (sites_of o) (at d s x) j
    now j is t small =
        inl (ap (λ (y : Desk). y.missing j t) (at-here d s x (home_of_id (sites_of o) j) (sym (named j is)))
        ∙ (ap (λ (f : ℕ → ℕ → Bool). f j t) (missing-is ∙ ap (λ g. missing_with (sites_of o) g (d s).missing) is)
        ∙ (ap (λ (f : ℕ → Bool). f t) (at-here (d s).missing j (λ r. nat_lt r (sites_of o)) j refl) ∙ lt-ltb t (sites_of o) small)))

    missing-now : (g : Option ℕ) → gone ≡ g → (id t : ℕ) → missing_with (sites_of o) g (d s).missing id t ≡ true → Heard (sites_of o) (at d s x) id
    missing-now None is id t m = on id (by.missing s id t m)
    missing-now (Some j) is id t m =
        at-cases (λ (f : ℕ → Bool). f t ≡ true → Heard (sites_of o) (at d s x) id) (d s).missing j (λ r. nat_lt r (sites_of o)) id (λ same m. subst (Heard (sites_of o) (at d s x)) same (now j is))
        (λ other m. on id (by.missing s id t m)) m

    purges-say : (j : ℕ) → gone ≡ Some j → (ts : List ℕ) → AllByRecursion (Says (sites_of o) (at d s x)) (map (purge_envelope s j) ts)
    purges-say j is [] = tt
    purges-say j is (t ∷ ts) =
        (record { asks = λ id same. let one : j ≡ id = cc in subst (Heard (sites_of o) (at d s x)) one (now j is); answers = λ id same. cc }, purges-say j is ts)

    all-say : (g : Option ℕ) → gone ≡ g → AllByRecursion (Says (sites_of o) (at d s x)) (purges (sites_of o) s g)
    all-say None is = tt
    all-say (Some j) is = purges-say j is (range_with_len 0 (sites_of o))

    executed-next : (answer : Answer) (reply : Envelope) → ((id : ℕ) → reply.message ≢ Purge id) → ((id : ℕ) → reply.message ≢ Purged id)
        → Once o (at d s x) (sent ++ (reply ∷ purges (sites_of o) s gone)) (record { site = s; input = Some (Deliver e); answer = answer } ∷ account)
        → Everyone o (at d s x) (sent ++ (reply ∷ purges (sites_of o) s gone)) (record { site = s; input = Some (Deliver e); answer = answer } ∷ account)
    executed-next answer reply unasked unanswered once =
        next o d sent account s by x misses kept (Deliver e) answer (reply ∷ purges (sites_of o) s gone) once
        (λ id t is. missing-now gone refl id t (ap (λ (f : ℕ → ℕ → Bool). f id t) (sym missing-is) ∙ is))
        (λ id is. on id (by.purged s id (ap (λ (f : ℕ → Bool). f id) (sym purged-is) ∙ is)))
        (record { asks = λ id is. absurd (unasked id is); answers = λ id is. absurd (unanswered id is) }, all-say gone refl)

  -- the site purges a segment
  purged-one : (e : Envelope) (i : ℕ) → Contains sent e → e.message ≡ Purge i → (x : Desk) → x.missing ≡ (d s).missing → x.purged ≡ at (d s).purged i true → (answer : Answer) (f : Envelope)
      → f.message ≡ Purged i → f.from ≡ s → Once o (at d s x) (sent ++ (f ∷ [])) (record { site = s; input = Some (Deliver e); answer = answer } ∷ account)
      → Everyone o (at d s x) (sent ++ (f ∷ [])) (record { site = s; input = Some (Deliver e); answer = answer } ∷ account)
  purged-one e i was is x m p answer f says from once =
      next o d sent account s by x misses purges (Deliver e) answer (f ∷ []) once
      (λ id t h. on id (by.missing s id t (ap (λ (g : ℕ → ℕ → Bool). g id t) (sym m) ∙ h)))
      (λ id h. at-cases (λ b. b ≡ true → Heard (sites_of o) (at d s x) id) (d s).purged i true id (λ same k. subst (Heard (sites_of o) (at d s x)) same (on i (by.asked e i was is))) (λ other k. on id (by.purged s id k))
      (ap (λ (g : ℕ → Bool). g id) (sym p) ∙ h)) (
        record {
          asks = λ id same. let both : Purged i ≡ Purge id = sym says ∙ same in cc;
          answers = λ id same. let both : Purged i ≡ Purged id = sym says ∙ same in let one : i ≡ id = cc in
              ap (λ (y : Desk). y.purged id) (at-here d s x f.from (sym from)) ∙ (ap (λ (g : ℕ → Bool). g id) p ∙ at-here (d s).purged i true id one);
        },
        tt,
      )
    where
      misses : (id t : ℕ) → t < sites_of o → (d s).missing id t ≡ true → (x.missing id t ≡ true) ⊎ ((at d s x t).purged id ≡ true)
      misses id t small h = inl (ap (λ (g : ℕ → ℕ → Bool). g id t) m ∙ h)

      purges : (id : ℕ) → (d s).purged id ≡ true → x.purged id ≡ true
      purges id h = ap (λ (g : ℕ → Bool). g id) p ∙ at-cases (λ b. b ≡ true) (d s).purged i true id (λ same. refl) (λ other. h)

      on : (id : ℕ) → Heard (sites_of o) d id → Heard (sites_of o) (at d s x) id
      on id heard = heard-on o d sent account s by x misses purges id heard

  -- the home hears that a site has purged
  heard-one : (e : Envelope) (i : ℕ) → Contains sent e → e.message ≡ Purged i → (x : Desk) → x.missing ≡ at (d s).missing i (at ((d s).missing i) e.from false) → x.purged ≡ (d s).purged → (answer : Answer)
      → Once o (at d s x) (sent ++ []) (record { site = s; input = Some (Deliver e); answer = answer } ∷ account)
      → Everyone o (at d s x) (sent ++ []) (record { site = s; input = Some (Deliver e); answer = answer } ∷ account)
  heard-one e i was is x m p answer once =
      next o d sent account s by x misses purges (Deliver e) answer [] once
      (λ id t h. on id (by.missing s id t (before id t (ap (λ (g : ℕ → ℕ → Bool). g id t) (sym m) ∙ h))))
      (λ id h. on id (by.purged s id (ap (λ (g : ℕ → Bool). g id) (sym p) ∙ h))) tt
    where
      purges : (id : ℕ) → (d s).purged id ≡ true → x.purged id ≡ true
      purges id h = ap (λ (g : ℕ → Bool). g id) p ∙ h

      done-there : (d e.from).purged i ≡ true → (at d s x e.from).purged i ≡ true
      done-there h = at-cases (λ (y : Desk). y.purged i ≡ true) d s x e.from (λ here. purges i (subst (λ k. (d k).purged i ≡ true) (sym here) h)) (λ there. h)

      misses : (id t : ℕ) → t < sites_of o → (d s).missing id t ≡ true → (x.missing id t ≡ true) ⊎ ((at d s x t).purged id ≡ true)
      misses id t small h =
          subst (λ (g : ℕ → ℕ → Bool). (g id t ≡ true) ⊎ ((at d s x t).purged id ≡ true)) (sym m)
          (at-cases (λ (g : ℕ → Bool). (g t ≡ true) ⊎ ((at d s x t).purged id ≡ true)) (d s).missing i (at ((d s).missing i) e.from false) id
          (λ same. at-cases (λ b. (b ≡ true) ⊎ ((at d s x t).purged id ≡ true)) ((d s).missing i) e.from false t
          (λ it. inr (subst (λ k. (at d s x k).purged id ≡ true) it (subst (λ k. (at d s x e.from).purged k ≡ true) same (done-there (by.answered e i was is)))))
          (λ other. inl (subst (λ k. (d s).missing k t ≡ true) (sym same) h)))
          (λ other. inl h))

      before : (id t : ℕ) → at (d s).missing i (at ((d s).missing i) e.from false) id t ≡ true → (d s).missing id t ≡ true
      before id t =
          at-cases (λ (g : ℕ → Bool). g t ≡ true → (d s).missing id t ≡ true) (d s).missing i (at ((d s).missing i) e.from false) id
          (λ same. at-cases (λ b. b ≡ true → (d s).missing id t ≡ true) ((d s).missing i) e.from false t (λ it k. cc) (λ other k. subst (λ j. (d s).missing j t ≡ true) same k))
          (λ other k. k)

      on : (id : ℕ) → Heard (sites_of o) d id → Heard (sites_of o) (at d s x) id
      on id heard = heard-on o d sent account s by x misses purges id heard

  everyone-after : (input : Input) (x : Desk) (answer : Answer) (more : List Envelope) → Honest sent s input
      → Once o (at d s x) (sent ++ more) (record { site = s; input = Some input; answer = answer } ∷ account) → Turn (sites_of o) s (d s) input x answer more
      → Everyone o (at d s x) (sent ++ more) (record { site = s; input = Some input; answer = answer } ∷ account)
  everyone-after input x answer more fair once (quiet i b ms silent plain again-said) = same-next input (d s) b ms once refl refl (repeats ms again-said)
  everyone-after input x answer more fair once (op_begun op free undetached) = same-next input _ _ _ once refl refl ((λ id h. cc, λ id h. cc), tt)
  everyone-after input x answer more fair once (detach_begun a y free stands) = same-next input _ _ _ once refl refl ((λ id h. cc, λ id h. cc), tt)
  everyone-after input x answer more fair once (executed e n op is fresh) =
      let here : op_home (sites_of o) e.from op ≡ s = sym (by.once.call e n op fair.0 is).home ∙ fair.1 in
      executed-next e n op here x (destroyed_by op (d s).table (kernel_call (sites_of o) s op (d s).table).segments)
      (λ j gone. named-home (sites_of o) e.from op j (destroyed-named (named_by op) (d s).table (kernel_call (sites_of o) s op (d s).table).segments j gone).0 ∙ here) refl refl
      answer (reply_envelope s e.from n (kernel_call (sites_of o) s op (d s).table).reply) (λ id h. cc) (λ id h. cc) once
  everyone-after input x answer more fair once (again e n op reply is fresh) = same-next input _ _ _ once refl refl ((λ id h. cc, λ id h. cc), tt)
  everyone-after input x answer more fair once (old e n op is fresh) = same-next input _ _ _ once refl refl tt
  everyone-after input x answer more fair once (ended e n op reply is outstanding unattached) = same-next input _ _ _ once refl refl tt
  everyone-after input x answer more fair once (attached e n cred id ro y a is outstanding free) = same-next input _ _ _ once refl refl tt
  everyone-after input x answer more fair once (purges_one e id is) = purged-one e id fair.0 is x refl refl answer (record { from = s; to = home_of_id (sites_of o) id; message = Purged id }) refl refl once
  everyone-after input x answer more fair once (hears_purged e id is) = heard-one e id fair.0 is x refl refl answer once

first-clean : (o : Opening) (s : ℕ) → ((opened_site o s).purged ≡ (λ i. false)) × ((opened_site o s).missing ≡ (λ i t. false))
first-clean (New n) s = (refl, refl)
first-clean (Preset n pages) s = (refl, refl)
first-clean (Framed n pages frames) s = (refl, refl)

everyone-turns : (o : Opening) → ByTurns o (Everyone o)
everyone-turns o = record {
  first = record {
    once = once-first o;
    asked = λ e id found is. absurd (none-sent e found);
    answered = λ e id found is. absurd (none-sent e found);
    missing = λ h id t is. let k = ap (λ f. f id t) (first-clean o h).1 in cc;
    purged = λ s id is. let k = ap (λ f. f id) (first-clean o s).0 in cc;
  };
  turns = λ d sent account s input x answer more by below fair turn. everyone-after o d sent account s by below input x answer more fair (once-after o d sent account s by.once below input x answer more fair turn) turn;
  stays = λ d sent account s answer by still. record {
    once = once-stays o d sent account s answer by.once still;
    asked = by.asked;
    answered = by.answered;
    missing = by.missing;
    purged = by.purged;
  };
}

pub everyone-purges : (o : Opening) (events : List Event) (s id : ℕ) (x : Site) → slice_get (run o events).world.sites s ≡ Some x → x.purged id ≡ true → Heard (sites_of o) (desks o (run o events).world.sites) id
everyone-purges o events s id x found is =
    (run-turns o (Everyone o) (everyone-turns o) events).purged s id (ap (λ (y : Site). y.purged id) (get_or_from_slice_get (run o events).world.sites s x (opened_site o s) found) ∙ is)
