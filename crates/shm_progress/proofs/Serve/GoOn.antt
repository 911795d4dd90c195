-- A call goes on until it is answered, whatever else happens, as long as nothing is lost.
use Rattle.std.proofs.Common.{◌≡◌, ◌≢◌, ℕ, ◌<◌, ◌≤◌, ◌⊎◌, inl, inr, Bool, true, false, List, ◌∷◌, ◌++◌, Option, Some, None, is_none, length, slice_get, slice_set, arith, refl, sym, ◌∙◌, ap, subst, Contains}
use Rattle.std.proofs.lemmas.Bool.{cases_eq, cond_both}
use Rattle.std.proofs.lemmas.Option.{slice_get_within}
use Rattle.shm_model.specs.declared.call.Cred.{Cred}
use Rattle.shm_model.specs.declared.call.Op.TheVariants.{Attach}
use Rattle.shm_model.specs.declared.call.Reply.{Reply}
use Rattle.shm_model.specs.declared.event.Event.{Event}
use Rattle.shm_model.specs.declared.event.Event.TheVariants.{Tick as TickEvent}
use Rattle.shm_model.specs.Calls.{Outstanding, op_home}
use Rattle.shm_model.specs.Message.{Envelope, Input, Deliver, Tick, Replies}
use Rattle.shm_model.specs.SegmentCalls.{call_envelope, reply_envelope}
use Rattle.shm_model.specs.Site.{Site, least_free, Step}
use Rattle.shm_model.specs.Step.{deliver, step}
use Rattle.shm_model.specs.World.{IsOpening, Next, Opening, World, is_full, live, next, run, step_site, stepped, without}
use Rattle.shm_laws.proofs.Run.Induction.{run-shape}
use Rattle.shm_laws.proofs.Sound.{set-here, set-there}
use Rattle.shm_laws.proofs.Call.Invariant.{kept_number}
use Rattle.shm_laws.proofs.Call.Turn.{desk_of}
use Rattle.shm_laws.proofs.Call.Turns.{turn-step}
use Rattle.shm_progress.specs.Deliveries.{IsAtRest}
use Rattle.shm_progress.specs.OnTheWay.{IsOnItsWay, NothingLost, is_loss}
use Rattle.shm_progress.specs.Serving.{CallGoesOn, IsBeingServed}
use Rattle.shm_progress.proofs.Along.{each-kept, since}
use Rattle.shm_progress.proofs.OnTheWay.{Fresh, Moved, same, drops, steps, OnlySent, Takes, joins, live-sent, moved, others-stay, run-fresh, stays}
use Rattle.shm_progress.proofs.Serve.Answers.{call-answered, home-small, outstanding-before, reply-heard, tick-calls}
use Rattle.shm_progress.proofs.Serve.Free.{attaches, is_attaching, run-free}
use Rattle.shm_progress.proofs.Serve.Replies.{Counts, kept-below, reply-counts, some-number}

same-site : (found : Option Site) (x y : Site) → found ≡ Some x → found ≡ Some y → x ≡ y
same-site found x y p q = cc

-- what is known of the outstanding call of a site
record Known (w : World) (me : ℕ) (x : Site) (c : Outstanding) : Type 0 where
  pub small : me < w.count
  pub number : 0 < c.number
  pub kept : (h : ℕ) (y : Site) → slice_get w.sites h ≡ Some y → kept_number (y.kept me) ≤ c.number
  pub counts : (e : Envelope) (reply : Reply) → Contains w.sent e → e.to ≡ me → e.message ≡ Replies c.number reply → Counts x c reply
  pub free : (cred : Cred) (id : ℕ) (ro : Bool) → c.op ≡ Attach cred id ro → is_none (least_free x.attachments) ≡ false

known : (o : Opening) → IsOpening o → (events : List Event) (me : ℕ) (x : Site) (c : Outstanding) → slice_get (run o events).world.sites me ≡ Some x → x.outstanding ≡ Some c
    → Known (run o events).world me x c
known o opening events me x c found is =
    let shape = run-shape o events in
    let within = slice_get_within (run o events).world.sites me x found in
    let all = shape.sites in
    let counted = shape.count in
    record {
      small = omega (arith, within, all, counted);
      number = some-number o opening events me x found c is;
      kept = kept-below o opening events me x found c is;
      counts = reply-counts o opening events me x found c is;
      free = λ cred id ro h. (run-free o events me x found).free (ap is_attaching is ∙ ap attaches h);
    }

module _ (w : World) (all : length w.sites ≡ w.count) (me : ℕ) (known-here : (x : Site) (c : Outstanding) → slice_get w.sites me ≡ Some x → x.outstanding ≡ Some c → Known w me x c)
    (goes : CallGoesOn w me) where
  module _ (k : ℕ) (e : Envelope) (gone : live w k ≡ Some e) (nowhere : slice_get w.sites e.to ≡ None) where
    dropped-goes : CallGoesOn (without w k) me
    dropped-goes x c found is = by-way (goes x c found is)
      where
        small : me < w.count
        small = (known-here x c found is).small

        by-way : IsBeingServed w me c → IsBeingServed (without w k) me c
        by-way (inl asked) = inl (others-stay w all k e gone nowhere (call_envelope w.count me c.number c.op) x (home-small w.count me c.op small) asked)
        by-way (inr (reply, answer)) = inr (reply, others-stay w all k e gone nowhere (reply_envelope (op_home w.count me c.op) me c.number reply) x small answer)

  -- a site steps
  module _ (fresh : Fresh w) (gone : ℕ → Bool) (s : ℕ) (x : Site) (input : Input) (found : slice_get w.sites s ≡ Some x) (takes : Takes w gone s input) (only : OnlySent w gone) where
    abbrev st : Step
    st = step w.count s x input

    abbrev u : World
    u = (stepped (record w { gone = gone }) s input st).world

    -- a Call that is handed over is answered
    asked-on : (y : Site) (c : Outstanding) → slice_get w.sites me ≡ Some y → y.outstanding ≡ Some c → IsOnItsWay w (call_envelope w.count me c.number c.op) → IsBeingServed u me c
    asked-on y c at_me is (j, h) = by-gone (takes j (call_envelope w.count me c.number c.op) h)
      where
        k : Known w me y c
        k = known-here y c at_me is

        by-gone : (gone j ≡ false) ⊎ ((input ≡ Deliver (call_envelope w.count me c.number c.op)) × (op_home w.count me c.op ≡ s)) → IsBeingServed u me c
        by-gone (inl free) = inl (stays w fresh gone s x input only j (call_envelope w.count me c.number c.op) h free)
        by-gone (inr handed) =
            let answer = call-answered w.count s me c.number c.op x handed.1 k.small k.number (k.kept s x found) in
            inr (
              answer.0,
              joins w fresh gone s x input only (reply_envelope (op_home w.count me c.op) me c.number answer.0)
                  (subst (λ i. Contains (step w.count s x i).sent (reply_envelope (op_home w.count me c.op) me c.number answer.0)) (sym handed.0)
                  (subst (λ h. Contains (deliver w.count s (call_envelope w.count me c.number c.op) x).sent (reply_envelope h me c.number answer.0)) (sym handed.1) answer.1)),
            )

    -- a reply that is handed over leaves no call outstanding
    answer-on : (y z : Site) (c : Outstanding) → slice_get w.sites me ≡ Some y → y.outstanding ≡ Some c → slice_get u.sites me ≡ Some z → z.outstanding ≡ Some c
        → (reply : Reply) → IsOnItsWay w (reply_envelope (op_home w.count me c.op) me c.number reply) → IsBeingServed u me c
    answer-on y z c at_me is now still reply (j, h) = by-gone (takes j (reply_envelope (op_home w.count me c.op) me c.number reply) h)
      where
        k : Known w me y c
        k = known-here y c at_me is

        none-some : (found : Option Outstanding) → found ≡ None → found ≡ Some c → ⊥
        none-some found p q = cc

        heard : input ≡ Deliver (reply_envelope (op_home w.count me c.op) me c.number reply) → me ≡ s → ⊥
        heard handed here =
            let mine : y ≡ x = same-site (slice_get w.sites s) y x (ap (slice_get w.sites) (sym here) ∙ at_me) found in
            let now_st : st.site ≡ z = same-site (slice_get u.sites s) st.site z (set-here w.sites s x st.site found) (ap (slice_get u.sites) (sym here) ∙ now) in
            let counts : Counts y c reply = k.counts (reply_envelope (op_home w.count me c.op) me c.number reply) reply (live-sent w j (reply_envelope (op_home w.count me c.op) me c.number reply) h) refl refl in
            let over : (deliver w.count me (reply_envelope (op_home w.count me c.op) me c.number reply) y).site.outstanding ≡ None =
            reply-heard w.count me (op_home w.count me c.op) c reply y (home-small w.count me c.op k.small) is counts k.free in
            let step_is : st.site ≡ (deliver w.count me (reply_envelope (op_home w.count me c.op) me c.number reply) y).site =
            ap (λ i. (step w.count s x i).site) handed
            ∙ (ap (λ v. (deliver w.count v (reply_envelope (op_home w.count me c.op) me c.number reply) x).site) (sym here)
            ∙ ap (λ v. (deliver w.count me (reply_envelope (op_home w.count me c.op) me c.number reply) v).site) (sym mine)) in
            none-some z.outstanding (ap (λ (v : Site). v.outstanding) (sym now_st ∙ step_is) ∙ over) still

        by-gone : (gone j ≡ false) ⊎ ((input ≡ Deliver (reply_envelope (op_home w.count me c.op) me c.number reply)) × (me ≡ s)) → IsBeingServed u me c
        by-gone (inl free) = inr (reply, stays w fresh gone s x input only j (reply_envelope (op_home w.count me c.op) me c.number reply) h free)
        by-gone (inr handed) = absurd (heard handed.0 handed.1)

    was-on : (y z : Site) (c : Outstanding) → slice_get w.sites me ≡ Some y → y.outstanding ≡ Some c → slice_get u.sites me ≡ Some z → z.outstanding ≡ Some c → IsBeingServed u me c
    was-on y z c at_me is now still = elim (goes y c at_me is) [
      | inl asked ↦ asked-on y c at_me is asked
      | inr answer ↦ answer-on y z c at_me is now still answer.0 answer.1
    ]

    stepped-goes : CallGoesOn u me
    stepped-goes z c now still = by-site (cases_eq me s)
      where
        new-here : me ≡ s → (x.outstanding ≡ Some c) ⊎ Contains st.sent (call_envelope w.count s c.number c.op) → IsBeingServed u me c
        new-here here (inl was) = was-on x z c (ap (slice_get w.sites) here ∙ found) was now still
        new-here here (inr asked) =
            inl (joins w fresh gone s x input only (call_envelope w.count me c.number c.op) (subst (λ v. Contains st.sent (call_envelope w.count v c.number c.op)) (sym here) asked))

        by-site : (me ≡ s) ⊎ (me ≢ s) → IsBeingServed u me c
        by-site (inl here) =
            let now_st : z ≡ st.site = same-site (slice_get u.sites s) z st.site (ap (slice_get u.sites) (sym here) ∙ now) (set-here w.sites s x st.site found) in
            new-here here (outstanding-before w.count s (desk_of x) input (desk_of st.site) st.answer st.sent c (turn-step w.count s x input) (ap (λ (v : Site). v.outstanding) (sym now_st) ∙ still))
        by-site (inr there) = was-on z z c (sym (set-there w.sites s me st.site there) ∙ now) still now still

  moved-goes : (v : Event) (u : World) → Fresh w → is_loss v ≡ false → is_full w ≡ false → Moved w v u → CallGoesOn u me
  moved-goes v u fresh kept free same = goes
  moved-goes v u fresh kept free (drops k e h why) = dropped-goes k e h (why kept free)
  moved-goes v u fresh kept free (steps gone s x input found honest takes only restarts) = stepped-goes fresh gone s x input found takes only

-- the site's tick sends its call again
tick-goes : (w : World) (fresh : Fresh w) (me : ℕ) → is_full w ≡ false → (found : Option Site) → slice_get w.sites me ≡ found → CallGoesOn (step_site found w me Tick).world me
tick-goes w fresh me free None none = λ x c found is. absurd (some-none (slice_get w.sites me) x found none)
  where
    some-none : (found : Option Site) (y : Site) → found ≡ Some y → found ≡ None → ⊥
    some-none found y p q = cc
tick-goes w fresh me free (Some x) found =
    cond_both (is_full w) _ _ (λ (n : Next). CallGoesOn n.world me) (λ full. let both : true ≡ false = sym full ∙ free in cc)
    (λ e. λ z c now is.
    let mine : z ≡ x = same-site (slice_get (slice_set w.sites me x) me) z x now (set-here w.sites me x x found) in
    let was : x.outstanding ≡ Some c = ap (λ (v : Site). v.outstanding) (sym mine) ∙ is in
    inl (joins w fresh w.gone me x Tick (λ j past only. only) (call_envelope w.count me c.number c.op) (tick-calls w.count me x c was)))

pub calls-go-on : (o : Opening) → IsOpening o → (me : ℕ) (earlier later : List Event) → NothingLost later → is_full (run o (earlier ++ (TickEvent me ∷ later))).world ≡ false
    → CallGoesOn (run o (earlier ++ (TickEvent me ∷ later))).world me
calls-go-on o opening me earlier later kept free =
    since o (λ e. is_loss e ≡ false) (λ w. CallGoesOn w me)
    (λ es e k not_full goes. let shape = run-shape o es in
    moved-goes (run o es).world (shape.sites ∙ sym shape.count) me (λ x c found is. known o opening es me x c found is) goes e (next (run o es).world e).world (run-fresh o es) k not_full (moved (run o es).world e))
    (TickEvent me) (λ es not_full. tick-goes (run o es).world (run-fresh o es) me not_full (slice_get (run o es).world.sites me) refl)
    earlier later (each-kept later kept) free

-- where nothing is on its way no call is outstanding
pub answered-at-rest : (w : World) (me : ℕ) (x : Site) → CallGoesOn w me → IsAtRest w → slice_get w.sites me ≡ Some x → x.outstanding ≡ None
answered-at-rest w me x goes rest found = by-call x.outstanding refl
  where
    nothing : (f : Envelope) → IsOnItsWay w f → ⊥
    nothing f (k, h) = let none = rest k in cc

    by-way : (c : Outstanding) → IsBeingServed w me c → ⊥
    by-way c (inl asked) = nothing _ asked
    by-way c (inr (reply, answer)) = nothing _ answer

    by-call : (call : Option Outstanding) → x.outstanding ≡ call → call ≡ None
    by-call None is = refl
    by-call (Some c) is = absurd (by-way c (goes x c found is))
