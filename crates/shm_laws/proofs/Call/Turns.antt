-- Each step of a site is a turn: see Turn.
use Rattle.std.proofs.Common.{◌≡◌, ℕ, Bool, true, false, List, [], ◌∷◌, ◌++◌, map, filter, flat_map, Option, Some, None, ◌&&◌, if◌then◌else◌, refl, sym, ap, ap₂, ◌∙◌, subst, arith, ◌==◌, is_some, is_none}
use Rattle.std.specs.List.{AllByRecursion, range_with_len}
use Rattle.std.proofs.lemmas.Bool.Decides.{nat_tests}
use Rattle.std.proofs.lemmas.List.Elements.{filter_passes, recursion_from_All}
use Rattle.shm_model.specs.declared.answer.Answer.{Answer}
use Rattle.shm_model.specs.declared.answer.Answer.TheVariants.{Took, Dropped, Refused}
use Rattle.shm_model.specs.declared.call.Attached.{Attached}
use Rattle.shm_model.specs.declared.call.Cred.{Cred}
use Rattle.shm_model.specs.declared.call.Op.{Op}
use Rattle.shm_model.specs.declared.call.Op.TheVariants.{Get, Attach, Detach, Remove, Set, Stat}
use Rattle.shm_model.specs.declared.call.Reply.{Reply}
use Rattle.shm_model.specs.declared.call.Reply.TheVariants.{Attached as AttachedReply}
use Rattle.shm_model.specs.declared.call.Request.{Request}
use Rattle.shm_model.specs.declared.call.Request.TheVariants.{Op as OpRequest, DetachAt}
use Rattle.shm_model.specs.Refusal.{busy}
use Rattle.shm_model.specs.Basics.{greatest}
use Rattle.shm_model.specs.Permission.{Segment}
use Rattle.shm_model.specs.Kernel.{call, destroyed_by}
use Rattle.shm_model.specs.Message.{Message, Of, Call, Replies, Purge, Purged, Envelope, Input, Load, Store, Begin, Deliver, Tick, Restart}
use Rattle.shm_model.specs.Calls.{Attachment, Freshness, Fresh, Again, Old, Outstanding, fits, freshness}
use Rattle.shm_model.specs.Site.{Site, Pending, is_attached as names_segment, least_free, Step, dropped, still}
use Rattle.shm_model.specs.SegmentCalls.{attached_at, begin_detach, begin_op, begin_request, call_envelope, execute, numbered, on_call_as, on_reply_to, purge_envelope, reply_counts, with_missing}
use Rattle.shm_model.specs.Step.{ask_again, call_again, foreign, on_message, orders_again, purges_again, step, tick}
use Rattle.shm_model.specs.History.{Numbered, handed_over, is_refused, with_done}
use Rattle.shm_laws.proofs.Call.Turn.{Desk, Repeats, Turn, TurnOf, attachment_of, desk_of, is_plain, missing_with, again, attached, detach_begun, ended, executed, hears_purged, old, op_begun, purges_one, quiet}
use Rattle.shm_laws.proofs.Call.Quiet.{IsNote, Quiet, order-notes, quiet-load, quiet-on_note_of, quiet-restart, quiet-still, quiet-store}
use Rattle.shm_laws.proofs.Kernel.Lists.{every-map, every-weaker}

note-repeats : (sites me : ℕ) (d : Desk) (e : Envelope) → IsNote e → Repeats sites me d e
note-repeats sites me d e note = record {
  call = λ n op h. let k = note.is in cc;
  reply = λ n reply h. let k = note.is in cc;
  purge = λ id h. let k = note.is in cc;
  purged = λ id h. let k = note.is in cc;
}

turn-quiet : (sites me : ℕ) (site : Site) (input : Input) (done : Step) → ((calls : List Numbered) → with_done (Some input) done.answer calls ≡ calls)
    → Quiet site done → TurnOf sites me site input done
turn-quiet sites me site input done unheard q =
    subst (λ d. Turn sites me (desk_of site) input d done.answer done.sent) (sym q.desk)
    (quiet input done.answer done.sent unheard q.plain (every-weaker IsNote (Repeats sites me (desk_of site)) (note-repeats sites me (desk_of site)) done.sent q.sent))

turn-still : (sites me : ℕ) (site : Site) (input : Input) (answer : Answer) → ((calls : List Numbered) → with_done (Some input) answer calls ≡ calls)
    → is_plain answer ≡ true → TurnOf sites me site input (still answer site)
turn-still sites me site input answer unheard plain = turn-quiet sites me site input (still answer site) unheard (quiet-still site answer plain)

turn-if : (sites me : ℕ) (site : Site) (input : Input) (b : Bool) (x y : Step) → (b ≡ true → TurnOf sites me site input x)
    → (b ≡ false → TurnOf sites me site input y) → TurnOf sites me site input (if b then x else y)
turn-if sites me site input true x y yes' no' = yes' refl
turn-if sites me site input false x y yes' no' = no' refl

-- a message that is no call is none that was handed over
if-same : {X : Type 0} (b : Bool) (x y : X) → y ≡ x → (if b then x else y) ≡ x
if-same true x y same = refl
if-same false x y same = same

unheard-message : (e : Envelope) (m : Message) (answer : Answer) → e.message ≡ m → ((calls : List Numbered) → handed_over e.from m calls ≡ calls)
    → (calls : List Numbered) → with_done (Some (Deliver e)) answer calls ≡ calls
unheard-message e m answer is unheard calls =
    if-same (is_refused answer) calls (handed_over e.from e.message calls) (ap (λ x. handed_over e.from x calls) is ∙ unheard calls)

module _ (sites me : ℕ) (site : Site) where
  -- what a tick sends
  append-repeated : (xs ys : List Envelope) → AllByRecursion (Repeats sites me (desk_of site)) xs → AllByRecursion (Repeats sites me (desk_of site)) ys
      → AllByRecursion (Repeats sites me (desk_of site)) (xs ++ ys)
  append-repeated [] ys all more = more
  append-repeated (x ∷ xs) ys all more = (all.0, append-repeated xs ys all.1 more)

  many-repeated : {X : Type 0} (f : X → List Envelope) → ((x : X) → AllByRecursion (Repeats sites me (desk_of site)) (f x)) → (xs : List X)
      → AllByRecursion (Repeats sites me (desk_of site)) (flat_map f xs)
  many-repeated f each [] = tt
  many-repeated f each (x ∷ xs) = append-repeated (f x) (flat_map f xs) (each x) (many-repeated f each xs)

  asks-repeated : (pending : List Pending) → AllByRecursion (Repeats sites me (desk_of site)) (map (ask_again sites me) pending)
  asks-repeated [] = tt
  asks-repeated (p ∷ ps) = (note-repeats sites me (desk_of site) (ask_again sites me p) (record { page = p.page; note = _; is = refl }), asks-repeated ps)

  call-repeated : (found : Option Outstanding) → site.outstanding ≡ found → AllByRecursion (Repeats sites me (desk_of site)) (call_again sites me found)
  call-repeated None is = tt
  call-repeated (Some o) is = (
    record {
      call = λ n op h. let p : o.number ≡ n = cc in let q : o.op ≡ op = cc in
          (is ∙ ap₂ (λ a b. Some (record { number = a; op = b })) p q, ap₂ (λ a b. call_envelope sites me a b) p q);
      reply = λ n reply h. cc;
      purge = λ id h. cc;
      purged = λ id h. cc;
    },
    tt,
  )

  purge-repeated : (id to : ℕ) → site.missing id to ≡ true → Repeats sites me (desk_of site) (purge_envelope me id to)
  purge-repeated id to missing = record {
    call = λ n op h. cc;
    reply = λ n reply h. cc;
    purge = λ i h. let same : id ≡ i = cc in subst (λ x. site.missing x to ≡ true) same missing;
    purged = λ i h. cc;
  }

  purges-repeated : (g : Segment) → AllByRecursion (Repeats sites me (desk_of site)) (purges_again sites me site g)
  purges-repeated g = every-map (Repeats sites me (desk_of site)) (purge_envelope me g.id) (filter (site.missing g.id) (range_with_len 0 sites))
      (every-weaker _ _ (purge-repeated g.id) _ (recursion_from_All _ _ (filter_passes (site.missing g.id) (range_with_len 0 sites))))

  turn-tick : TurnOf sites me site Tick (tick sites me site)
  turn-tick = quiet Tick Took _ (λ calls. refl) refl
      (append-repeated _ _ (asks-repeated site.pending)
      (append-repeated _ _ (many-repeated (orders_again me site) (λ page. every-weaker IsNote _ (note-repeats sites me (desk_of site)) _ (order-notes me page (site.books page) _)) site.booked)
      (append-repeated _ _ (call-repeated site.outstanding refl)
      (many-repeated (purges_again sites me site) purges-repeated site.table))))

  -- a call begins
  turn-numbered : (request : Request) (done : Step) → (TurnOf sites me site (Begin request) done) → TurnOf sites me site (Begin request) (numbered site done)
  turn-numbered request done turn =
      turn-if sites me site (Begin request) (site.calls == greatest) _ _ (λ is. turn-still sites me site _ _ (λ calls. refl) refl) (λ is. turn)

  turn-begin_op : (op : Op) → site.outstanding ≡ None → TurnOf sites me site (Begin (OpRequest op)) (begin_op sites me op site)
  turn-begin_op (Detach id) free = turn-still sites me site _ _ (λ calls. refl) refl
  turn-begin_op (Attach cred id ro) free =
      turn-if sites me site _ (is_none (least_free site.attachments)) _ _ (λ is. turn-still sites me site _ _ (λ calls. refl) refl)
      (λ is. turn-numbered _ _ (op_begun (Attach cred id ro) free (λ i. refl)))
  turn-begin_op (Get cred key size mode flags) free = turn-numbered _ _ (op_begun (Get cred key size mode flags) free (λ i. refl))
  turn-begin_op (Remove cred id) free = turn-numbered _ _ (op_begun (Remove cred id) free (λ i. refl))
  turn-begin_op (Set cred id uid gid mode) free = turn-numbered _ _ (op_begun (Set cred id uid gid mode) free (λ i. refl))
  turn-begin_op (Stat cred id) free = turn-numbered _ _ (op_begun (Stat cred id) free (λ i. refl))

  turn-begin_detach : (a : ℕ) (found : Option Attachment) → site.outstanding ≡ None → site.attachments a ≡ found
      → TurnOf sites me site (Begin (DetachAt a)) (begin_detach sites me a found site)
  turn-begin_detach a None free is = turn-still sites me site _ _ (λ calls. refl) refl
  turn-begin_detach a (Some x) free is = turn-numbered _ _ (detach_begun a x free is)

  turn-request : (request : Request) → site.outstanding ≡ None → TurnOf sites me site (Begin request) (begin_request sites me request site)
  turn-request (OpRequest op) free = turn-begin_op op free
  turn-request (DetachAt a) free = turn-begin_detach a (site.attachments a) free refl

  turn-begin : (request : Request) (found : Option Outstanding) → site.outstanding ≡ found
      → TurnOf sites me site (Begin request) (if is_some found then still (Refused busy) site else begin_request sites me request site)
  turn-begin request None is = turn-request request is
  turn-begin request (Some o) is = turn-still sites me site _ _ (λ calls. refl) refl

  -- a call at its home
  desk-missing : (gone : Option ℕ) (x : Site) → desk_of (with_missing sites gone x) ≡ record (desk_of x) { missing = missing_with sites gone x.missing }
  desk-missing None x = refl
  desk-missing (Some id) x = refl

  turn-call : (e : Envelope) (n : ℕ) (op : Op) (fresh : Freshness) → e.message ≡ Call n op → freshness (site.kept e.from) n ≡ fresh
      → TurnOf sites me site (Deliver e) (on_call_as fresh sites me e.from n op site)
  turn-call e n op Fresh is fresh =
      subst (λ d. Turn sites me (desk_of site) (Deliver e) d Took (execute sites me e.from n op site).sent)
      (sym (desk-missing (destroyed_by op site.table (call sites me op site.table).segments) _)) (executed e n op is fresh)
  turn-call e n op (Again reply) is fresh = again e n op reply is fresh
  turn-call e n op Old is fresh = old e n op is fresh

  -- a reply
  and-false : (b : Bool) → (b && false) ≡ false
  and-false true = refl
  and-false false = refl

  turn-dropped : (e : Envelope) (m : Message) → e.message ≡ m → ((calls : List Numbered) → handed_over e.from m calls ≡ calls)
      → TurnOf sites me site (Deliver e) (dropped site)
  turn-dropped e m is unheard = turn-still sites me site (Deliver e) Dropped (unheard-message e m Dropped is unheard) refl

  turn-attached_at : (e : Envelope) (n : ℕ) (cred : Cred) (id : ℕ) (ro : Bool) (x : Attached) (found : Option ℕ) → e.message ≡ Replies n (AttachedReply x)
      → site.outstanding ≡ Some (record { number = n; op = Attach cred id ro }) → least_free site.attachments ≡ found
      → TurnOf sites me site (Deliver e) (attached_at found n (AttachedReply x) (attachment_of id x) site)
  turn-attached_at e n cred id ro x None is awaited free = turn-dropped e _ is (λ calls. refl)
  turn-attached_at e n cred id ro x (Some a) is awaited free = attached e n cred id ro x a is awaited free

  turn-counts : (e : Envelope) (n : ℕ) (op : Op) (reply : Reply) → e.message ≡ Replies n reply → site.outstanding ≡ Some (record { number = n; op = op })
      → TurnOf sites me site (Deliver e) (reply_counts n op reply site)
  turn-counts e n (Attach cred id ro) (AttachedReply x) is awaited =
      turn-if sites me site (Deliver e) (site.purged id) _ _ (λ gone. turn-dropped e _ is (λ calls. refl))
      (λ stands. turn-attached_at e n cred id ro x (least_free site.attachments) is awaited refl)
  turn-counts e n (Attach cred id ro) reply is awaited = ended e n (Attach cred id ro) reply is awaited (λ i. and-false (id == i))
  turn-counts e n op reply is awaited = ended e n op reply is awaited (λ i. refl)

  same-number : (n : ℕ) (o : Outstanding) (b : Bool) → ((n == o.number) && b) ≡ true → o ≡ record { number = n; op = o.op }
  same-number n o b h = let p : o.number ≡ n = grind (arith, nat_tests) in ap (λ k. record { number = k; op = o.op }) p

  turn-reply_to : (e : Envelope) (n : ℕ) (reply : Reply) (found : Option Outstanding) → e.message ≡ Replies n reply → site.outstanding ≡ found
      → TurnOf sites me site (Deliver e) (on_reply_to found n reply site)
  turn-reply_to e n reply None is awaited = turn-dropped e _ is (λ calls. refl)
  turn-reply_to e n reply (Some o) is awaited =
      turn-if sites me site (Deliver e) ((n == o.number) && fits o.op reply) _ _
      (λ fit. turn-counts e n o.op reply is (awaited ∙ ap Some (same-number n o (fits o.op reply) fit)))
      (λ unfit. turn-dropped e _ is (λ calls. refl))

  -- any envelope
  turn-message : (e : Envelope) (m : Message) → e.message ≡ m → TurnOf sites me site (Deliver e) (on_message sites me e.from m site)
  turn-message e (Of page note) is =
      turn-quiet sites me site (Deliver e) _ (unheard-message e _ _ is (λ calls. refl)) (quiet-on_note_of sites me e.from page note site)
  turn-message e (Call n op) is = turn-call e n op (freshness (site.kept e.from) n) is refl
  turn-message e (Replies n reply) is = turn-reply_to e n reply site.outstanding is refl
  turn-message e (Purge id) is =
      turn-if sites me site (Deliver e) (names_segment site id) _ _ (λ named. turn-dropped e _ is (λ calls. refl)) (λ unnamed. purges_one e id is)
  turn-message e (Purged id) is =
      turn-if sites me site (Deliver e) (site.missing id e.from) _ _ (λ missing. hears_purged e id is) (λ known. turn-dropped e _ is (λ calls. refl))

  pub turn-step : (input : Input) → TurnOf sites me site input (step sites me site input)
  turn-step (Load a offset) = turn-quiet sites me site _ _ (λ calls. refl) (quiet-load sites me a offset site)
  turn-step (Store a offset byte) = turn-quiet sites me site _ _ (λ calls. refl) (quiet-store sites me a offset byte site)
  turn-step (Begin request) = turn-begin request site.outstanding refl
  turn-step (Deliver e) =
      turn-if sites me site (Deliver e) (foreign sites me e) _ _ (λ is. turn-still sites me site _ _ (λ calls. refl) refl) (λ is. turn-message e e.message refl)
  turn-step Tick = turn-tick
  turn-step Restart = turn-quiet sites me site _ _ (λ calls. refl) (quiet-restart site)
