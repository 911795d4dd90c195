-- While an attach is outstanding its site has an attachment number free.
use Rattle.std.proofs.Common.{◌≡◌, ◌≢◌, ℕ, ◌⊎◌, inl, inr, Bool, true, false, ◌==◌, List, Option, Some, None, is_none, is_some, map, slice_get, slice_set, arith, refl, sym, ◌∙◌, ap, subst}
use Rattle.std.specs.List.{range_with_len}
use Rattle.std.proofs.lemmas.Bool.{cases_eq, cond_both}
use Rattle.std.proofs.lemmas.Option.{slice_get_within}
use Rattle.std.proofs.lemmas.List.FromFn.{length-map-range_with_len}
use Rattle.shm_model.specs.declared.answer.Answer.{Answer}
use Rattle.shm_model.specs.declared.call.Op.{Op}
use Rattle.shm_model.specs.declared.call.Op.TheVariants.{Get, Attach, Detach, Remove, Set, Stat}
use Rattle.shm_model.specs.declared.call.Request.{Request}
use Rattle.shm_model.specs.declared.call.Request.TheVariants.{Op as OpRequest, DetachAt}
use Rattle.shm_model.specs.declared.event.Event.{Event}
use Rattle.shm_model.specs.Basics.{greatest}
use Rattle.shm_model.specs.Calls.{Attachment, Outstanding}
use Rattle.shm_model.specs.Message.{Envelope, Input, Load, Store, Begin, Deliver, Tick, Restart}
use Rattle.shm_model.specs.Site.{Site, least_free, Step}
use Rattle.shm_model.specs.SegmentCalls.{begin_detach, begin_op, begin_request, call_begun, numbered}
use Rattle.shm_model.specs.Step.{step}
use Rattle.shm_model.specs.World.{New, Preset, Framed, Opening, World, begun, opened_site, run, sites_of}
use Rattle.shm_laws.proofs.Run.Induction.{Kept, run-good}
use Rattle.shm_laws.proofs.Run.GoesOn.{slice_get-range}
use Rattle.shm_laws.proofs.Sound.{set-here, set-there}
use Rattle.shm_laws.proofs.Call.Turn.{Desk, Turn, again, attached, desk_of, detach_begun, ended, executed, hears_purged, old, op_begun, purges_one, quiet}
use Rattle.shm_laws.proofs.Call.Turns.{turn-step}

abbrev pub attaches : Op → Bool
attaches (Attach _ _ _) = true
attaches _ = false

abbrev pub is_attaching : Option Outstanding → Bool
is_attaching None = false
is_attaching (Some o) = attaches o.op

-- an attach that is outstanding finds a number free
pub record FreeFor (d : Desk) : Type 0 where
  pub free : is_attaching d.outstanding ≡ true → is_none (least_free d.attachments) ≡ false

free-same : (d y : Desk) → y.outstanding ≡ d.outstanding → y.attachments ≡ d.attachments → FreeFor d → FreeFor y
free-same d y o a f = record { free = λ h. ap (λ x. is_none (least_free x)) a ∙ f.free (ap is_attaching (sym o) ∙ h) }

turn-free : (sites s : ℕ) (d : Desk) (input : Input) (y : Desk) (answer : Answer) (sent : List Envelope) → ((request : Request) → input ≡ Begin request → ⊥) → FreeFor d
    → Turn sites s d input y answer sent → FreeFor y
turn-free sites s d input y answer sent other f (quiet i b ms silent plain repeats) = f
turn-free sites s d input y answer sent other f (op_begun op free undetached) = absurd (other (OpRequest op) refl)
turn-free sites s d input y answer sent other f (detach_begun a z free stands) = absurd (other (DetachAt a) refl)
turn-free sites s d input y answer sent other f (executed e n op is fresh) = free-same d _ refl refl f
turn-free sites s d input y answer sent other f (again e n op reply is fresh) = f
turn-free sites s d input y answer sent other f (old e n op is fresh) = f
turn-free sites s d input y answer sent other f (ended e n op reply is outstanding unattached) = record { free = λ h. cc }
turn-free sites s d input y answer sent other f (attached e n cred id ro x a is outstanding free) = record { free = λ h. cc }
turn-free sites s d input y answer sent other f (purges_one e id is) = free-same d _ refl refl f
turn-free sites s d input y answer sent other f (hears_purged e id is) = free-same d _ refl refl f

module _ (sites s : ℕ) (x : Site) (f : FreeFor (desk_of x)) where
  numbered-free : (st : Step) → FreeFor (desk_of st.site) → FreeFor (desk_of (numbered x st).site)
  numbered-free st g = cond_both (x.calls == greatest) _ _ (λ (u : Step). FreeFor (desk_of u.site)) (λ e. f) (λ e. g)

  other-free : (op : Op) → attaches op ≡ false → FreeFor (desk_of (call_begun sites s op x).site)
  other-free op none = record { free = λ h. let both : true ≡ false = sym h ∙ none in cc }

  op-free : (op : Op) → FreeFor (desk_of (begin_op sites s op x).site)
  op-free (Detach id) = f
  op-free (Attach cred id ro) =
      cond_both (is_none (least_free x.attachments)) _ _ (λ (u : Step). FreeFor (desk_of u.site)) (λ e. f)
      (λ e. numbered-free (call_begun sites s (Attach cred id ro) x) (record { free = λ h. e }))
  op-free (Get cred key size mode flags) = numbered-free (call_begun sites s (Get cred key size mode flags) x) (other-free (Get cred key size mode flags) refl)
  op-free (Remove cred id) = numbered-free (call_begun sites s (Remove cred id) x) (other-free (Remove cred id) refl)
  op-free (Set cred id uid gid mode) = numbered-free (call_begun sites s (Set cred id uid gid mode) x) (other-free (Set cred id uid gid mode) refl)
  op-free (Stat cred id) = numbered-free (call_begun sites s (Stat cred id) x) (other-free (Stat cred id) refl)

  detach-free : (a : ℕ) (found : Option Attachment) → FreeFor (desk_of (begin_detach sites s a found x).site)
  detach-free a None = f
  detach-free a (Some t) = numbered-free _ (record { free = λ h. cc })

  request-free : (request : Request) → FreeFor (desk_of (begin_request sites s request x).site)
  request-free (OpRequest op) = op-free op
  request-free (DetachAt a) = detach-free a (x.attachments a)

  by-turn : (input : Input) → ((request : Request) → input ≡ Begin request → ⊥) → FreeFor (desk_of (step sites s x input).site)
  by-turn input other =
      turn-free sites s (desk_of x) input (desk_of (step sites s x input).site) (step sites s x input).answer (step sites s x input).sent other f (turn-step sites s x input)

  step-free : (input : Input) → FreeFor (desk_of (step sites s x input).site)
  step-free (Begin request) = cond_both (is_some x.outstanding) _ _ (λ (u : Step). FreeFor (desk_of u.site)) (λ e. f) (λ e. request-free request)
  step-free (Load a offset) = by-turn (Load a offset) (λ r e. cc)
  step-free (Store a offset byte) = by-turn (Store a offset byte) (λ r e. cc)
  step-free (Deliver e) = by-turn (Deliver e) (λ r h. cc)
  step-free Tick = by-turn Tick (λ r e. cc)
  step-free Restart = by-turn Restart (λ r e. cc)

record AllFree (w : World) : Type 0 where
  pub free : (t : ℕ) (y : Site) → slice_get w.sites t ≡ Some y → FreeFor (desk_of y)

some-same : (x y : Site) → Some x ≡ Some y → x ≡ y
some-same x y e = cc

opened-free : (o : Opening) (t : ℕ) → FreeFor (desk_of (opened_site o t))
opened-free (New n) t = record { free = λ h. cc }
opened-free (Preset n pages) t = record { free = λ h. cc }
opened-free (Framed n pages frames) t = record { free = λ h. cc }

first-free : (o : Opening) → AllFree (begun o).world
first-free o = record {
  free = λ t y found. let within = slice_get_within (map (opened_site o) (range_with_len 0 (sites_of o))) t y found in
      let all = length-map-range_with_len (opened_site o) 0 (sites_of o) in
      subst (λ z. FreeFor (desk_of z)) (some-same (opened_site o t) y (sym (slice_get-range (opened_site o) (sites_of o) t (omega (arith, within, all))) ∙ found)) (opened-free o t);
}

after-free : (w : World) (sites s : ℕ) (x : Site) (input : Input) → AllFree w → slice_get w.sites s ≡ Some x → (t : ℕ) (y : Site) → (t ≡ s) ⊎ (t ≢ s)
    → slice_get (slice_set w.sites s (step sites s x input).site) t ≡ Some y → FreeFor (desk_of y)
after-free w sites s x input free found t y (inl here) at =
    let same = some-same (step sites s x input).site y
    (sym (set-here w.sites s x (step sites s x input).site found) ∙ subst (λ u. slice_get (slice_set w.sites s (step sites s x input).site) u ≡ Some y) here at) in
    subst (λ z. FreeFor (desk_of z)) same (step-free sites s x (free.free s x found) input)
after-free w sites s x input free found t y (inr there) at = free.free t y (sym (set-there w.sites s t (step sites s x input).site there) ∙ at)

free-kept : (o : Opening) → Kept o (λ r. AllFree r.world)
free-kept o = record {
  first = first-free o;
  steps = λ r gone s site input free shape small found honest. record { free = λ t y at. after-free r.world (sites_of o) s site input free found t y (cases_eq t s) at };
  stays = λ r gone s answer free shape still. record { free = free.free };
}

pub run-free : (o : Opening) (events : List Event) (s : ℕ) (x : Site) → slice_get (run o events).world.sites s ≡ Some x → FreeFor (desk_of x)
run-free o events s x found = (run-good o (λ r. AllFree r.world) (free-kept o) events).holds.free s x found
