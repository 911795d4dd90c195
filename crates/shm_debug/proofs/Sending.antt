-- What an event sends: behind all that was sent before, and nothing of it is gone.
use Rattle.std.proofs.Common.{◌≡◌, ◌∙◌, sym, ℕ, zero, suc, ◌+◌, ◌-◌, ◌<◌, ◌≤◌, Bool, true, false, if◌then◌else◌, List, [], ◌∷◌, ◌++◌, Option, None, Some, length, length-append, slice_get, refl, ap, append-nil, arith}
use Rattle.std.proofs.lemmas.Option.{none-some, slice_get_within}
use Rattle.std.specs.List.{flat_map, range_with_len}
use Rattle.shm_model.specs.declared.answer.Answer.TheVariants.{Refused}
use Rattle.shm_model.specs.declared.event.Event.{Event}
use Rattle.shm_model.specs.declared.event.Event.TheVariants.{Load as LoadEvent, Store as StoreEvent, Begin as BeginEvent, Tick as TickEvent, Restart as RestartEvent, Deliver as DeliverEvent, Repeat, Lose}
use Rattle.shm_model.specs.Basics.{at}
use Rattle.shm_model.specs.Message.{Envelope, Input, Load, Store, Begin, Deliver, Tick, Restart}
use Rattle.shm_model.specs.Refusal.{numbers_used_up}
use Rattle.shm_model.specs.Site.{Site}
use Rattle.shm_model.specs.Step.{step}
use Rattle.shm_model.specs.World.{World, Next, deliver, hand_over, is_full, live, lose, next, step_at, step_site, stepped, unstepped, without}
use Rattle.shm_debug.specs.Tell.{EachEventTells, envelopes_text}
use Rattle.shm_debug.specs.Sent.{live_text, sent_text}

abbrev NoneGone : World → Type 0
NoneGone w = (k : ℕ) → length w.sent ≤ k → w.gone k ≡ false

-- v was sent what w was, and this; and of it nothing is gone
record Sends (w v : World) : Type 0 where
  out : List Envelope
  sent : v.sent ≡ w.sent ++ out
  unsent : (k : ℕ) → length w.sent ≤ k → v.gone k ≡ false

either : {X : Type 0} (P : X → Type 0) (b : Bool) (x y : X) → P x → P y → P (if b then x else y)
either P true x y p q = p
either P false x y p q = q

sends-nothing : (w v : World) → v.sent ≡ w.sent → ((k : ℕ) → length w.sent ≤ k → v.gone k ≡ false) → Sends w v
sends-nothing w v e h = record { out = []; sent = e ∙ sym (append-nil w.sent); unsent = h }

sends-step : (w v : World) → v.sent ≡ w.sent → ((k : ℕ) → length w.sent ≤ k → v.gone k ≡ false) → (o : Option Site) (s : ℕ) (i : Input) → Sends w (step_site o v s i).world
sends-step w v e h None s i = sends-nothing w v e h
sends-step w v e h (Some site) s i =
    let done = step v.count s site i in
    either (λ (n : Next). Sends w n.world) (is_full v) (unstepped v s (Refused numbers_used_up)) (stepped v s i done)
    (sends-nothing w v e h) (record { out = done.sent; sent = ap (λ t. t ++ done.sent) e; unsent = h })

sends-step_at : (w : World) → NoneGone w → (s : ℕ) (i : Input) → Sends w (step_at w s i).world
sends-step_at w h s i = sends-step w w refl h (slice_get w.sites s) s i

if-some : (gone : Bool) (o : Option Envelope) (e : Envelope) → (if gone then None else o) ≡ Some e → o ≡ Some e
if-some true o e h = absurd (none-some e h)
if-some false o e h = h

live-below : (w : World) (k : ℕ) (e : Envelope) → live w k ≡ Some e → k < length w.sent
live-below w k e h = slice_get_within w.sent k e (if-some (w.gone k) (slice_get w.sent k) e h)

at-other : (f : ℕ → Bool) (k j : ℕ) → k < j → at f k true j ≡ f j
at-other f k j h = grind (arith)

none_gone-without : (w : World) (k : ℕ) → k < length w.sent → NoneGone w → (j : ℕ) → length w.sent ≤ j → (without w k).gone j ≡ false
none_gone-without w k h g j l = at-other w.gone k j (omega arith) ∙ g j l

sends-deliver : (w : World) (k : ℕ) → NoneGone w → (o : Option Envelope) → live w k ≡ o → Sends w (deliver o w k).world
sends-deliver w k h None e = sends-nothing w w refl h
sends-deliver w k h (Some envelope) e =
    sends-step w (without w k) refl (none_gone-without w k (live-below w k envelope e) h) (slice_get w.sites envelope.to) envelope.to (Deliver envelope)

sends-hand_over : (w : World) → NoneGone w → (o : Option Envelope) → Sends w (hand_over o w).world
sends-hand_over w h None = sends-nothing w w refl h
sends-hand_over w h (Some envelope) = sends-step_at w h envelope.to (Deliver envelope)

sends-lose : (w : World) (k : ℕ) → NoneGone w → (o : Option Envelope) → live w k ≡ o → Sends w (lose o w k).world
sends-lose w k h None e = sends-nothing w w refl h
sends-lose w k h (Some envelope) e = sends-nothing w (without w k) refl (none_gone-without w k (live-below w k envelope e) h)

sends : (w : World) (e : Event) → NoneGone w → Sends w (next w e).world
sends w (LoadEvent s a offset) h = sends-step_at w h s (Load a offset)
sends w (StoreEvent s a offset byte) h = sends-step_at w h s (Store a offset byte)
sends w (BeginEvent s request) h = sends-step_at w h s (Begin request)
sends w (TickEvent s) h = sends-step_at w h s Tick
sends w (RestartEvent s) h = sends-step_at w h s Restart
sends w (DeliverEvent k) h = sends-deliver w k h (live w k) refl
sends w (Repeat k) h = sends-hand_over w h (live w k)
sends w (Lose k) h = sends-lose w k h (live w k) refl

-- ---- what is told of it

after-append : (xs ys : List Envelope) (k : ℕ) → length xs ≤ k → slice_get (xs ++ ys) k ≡ slice_get ys (k - length xs)
after-append [] ys k h = let e : k ≡ k - 0 = omega arith in ap (slice_get ys) e
after-append (x ∷ xs) ys zero h = absurd (omega arith)
after-append (x ∷ xs) ys (suc k) h =
    let e : k - length xs ≡ suc k - length (x ∷ xs) = omega arith in
    after-append xs ys k (omega arith) ∙ ap (slice_get ys) e

told-live : (v : World) (a : ℕ) (out : List Envelope) → ((k : ℕ) → a ≤ k → live v k ≡ slice_get out (k - a)) → flat_map (λ k. live_text k (live v k)) (range_with_len a (length out)) ≡ envelopes_text a out
told-live v a [] h = refl
told-live v a (e ∷ es) h =
    let z : a - a ≡ 0 = omega arith in
    let first : live v a ≡ Some e = h a (omega arith) ∙ ap (slice_get (e ∷ es)) z in
    let rest : (k : ℕ) → a + 1 ≤ k → live v k ≡ slice_get es (k - (a + 1)) = λ k l.
    let s : k - a ≡ suc (k - (a + 1)) = omega arith in h k (omega arith) ∙ ap (slice_get (e ∷ es)) s in
    ap (λ o. live_text a o ++ flat_map (λ k. live_text k (live v k)) (range_with_len (a + 1) (length es))) first
    ∙ ap (λ t. live_text a (Some e) ++ t) (told-live v (a + 1) es rest)

told : (w v : World) (s : Sends w v) → sent_text v (length w.sent) ≡ envelopes_text (length w.sent) s.out
told w v s =
    let f : ℕ → List ℕ = λ k. live_text k (live v k) in
    let n : length v.sent - length w.sent ≡ length s.out = omega (arith, ap length s.sent, length-append w.sent s.out) in
    ap (λ m. flat_map f (range_with_len (length w.sent) m)) n
    ∙ told-live v (length w.sent) s.out (λ k l.
    ap (λ b. if b then None else slice_get v.sent k) (s.unsent k l)
    ∙ ap (λ xs. slice_get xs k) s.sent ∙ after-append w.sent s.out k l)

pub each_event_tells : EachEventTells
each_event_tells w e h =
    let s = sends w e h in
    record { out = s.out; sent = s.sent; told = told w (next w e).world s }
