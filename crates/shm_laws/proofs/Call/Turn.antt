-- What a step of a site means for its segment calls: what it keeps for them, what it answers, and what it sends. A step that has to do
-- with pages alone is quiet.
use Rattle.std.proofs.Common.{◌≡◌, ◌≢◌, ℕ, ◌+◌, Bool, true, false, List, [], ◌∷◌, Option, Some, None, ◌&&◌, nat_lt}
use Rattle.std.specs.List.{AllByRecursion}
use Rattle.shm_place.specs.Home.{home_of_id}
use Rattle.shm_model.specs.declared.answer.Answer.{Answer}
use Rattle.shm_model.specs.declared.answer.Answer.TheVariants.{Began, Replied, Took, Dropped}
use Rattle.shm_model.specs.declared.call.Attached.{Attached}
use Rattle.shm_model.specs.declared.call.Cred.{Cred}
use Rattle.shm_model.specs.declared.call.Op.{Op}
use Rattle.shm_model.specs.declared.call.Op.TheVariants.{Attach, Detach}
use Rattle.shm_model.specs.declared.call.Reply.{Reply}
use Rattle.shm_model.specs.declared.call.Reply.TheVariants.{Attached as AttachedReply}
use Rattle.shm_model.specs.declared.call.Request.TheVariants.{Op as OpRequest, DetachAt}
use Rattle.shm_model.specs.Basics.{at}
use Rattle.shm_model.specs.Permission.{Segment}
use Rattle.shm_model.specs.Kernel.{Called, call, destroyed_by}
use Rattle.shm_model.specs.Message.{Call, Replies, Purge, Purged, Envelope, Input, Begin, Deliver}
use Rattle.shm_model.specs.Calls.{Attachment, Kept, Outstanding, Fresh, Again, Old, freshness}
use Rattle.shm_model.specs.Site.{Site, least_free, Step}
use Rattle.shm_model.specs.SegmentCalls.{call_envelope, purges, reply_envelope}
use Rattle.shm_model.specs.History.{Numbered, is_attach, is_attached, with_done}
use Rattle.shm_laws.proofs.Kernel.Effect.{is_detach}

-- what a site keeps for segment calls
pub record Desk : Type 0 where
  pub calls : ℕ
  pub outstanding : Option Outstanding
  pub attachments : ℕ → Option Attachment
  pub table : List Segment
  pub kept : ℕ → Option Kept
  pub missing : ℕ → ℕ → Bool
  pub purged : ℕ → Bool

abbrev pub desk_of : Site → Desk
desk_of site = record {
  calls = site.calls;
  outstanding = site.outstanding;
  attachments = site.attachments;
  table = site.table;
  kept = site.kept;
  missing = site.missing;
  purged = site.purged;
}

-- an answer of no call
abbrev pub is_plain : Answer → Bool
is_plain (Began _) = false
is_plain (Replied _ _ _) = false
is_plain _ = true

-- an envelope that says nothing new of calls: the outstanding call once more, or the purge of a segment that is missing
pub record Repeats (sites me : ℕ) (d : Desk) (e : Envelope) : Type 0 where
  pub call : (n : ℕ) (op : Op) → e.message ≡ Call n op → (d.outstanding ≡ Some (record { number = n; op = op })) × (e ≡ call_envelope sites me n op)
  pub reply : (n : ℕ) (reply : Reply) → e.message ≢ Replies n reply
  pub purge : (id : ℕ) → e.message ≡ Purge id → d.missing id e.to ≡ true
  pub purged : (id : ℕ) → e.message ≢ Purged id

-- the sites that are asked to purge what a call destroyed
abbrev pub missing_with : ℕ → Option ℕ → (ℕ → ℕ → Bool) → ℕ → ℕ → Bool
missing_with sites None missing = missing
missing_with sites (Some id) missing = at missing id (λ s. nat_lt s sites)

abbrev pub begun_desk : Op → Desk → Desk
begun_desk op d = record d { calls = d.calls + 1; outstanding = Some (record { number = d.calls + 1; op = op }) }

abbrev pub executed_desk : ℕ → ℕ → ℕ → Op → Called → Desk → Desk
executed_desk sites from n op done d = record d {
  table = done.segments;
  kept = at d.kept from (Some (record { number = n; reply = done.reply }));
  missing = missing_with sites (destroyed_by op d.table done.segments) d.missing;
}

abbrev pub attachment_of : ℕ → Attached → Attachment
attachment_of id x = record { id = id; size = x.size; ro = x.ro }

pub data Turn (sites me : ℕ) (d : Desk) : Input → Desk → Answer → List Envelope → Type 0 where
  quiet : (input : Input) (answer : Answer) (sent : List Envelope) → ((calls : List Numbered) → with_done (Some input) answer calls ≡ calls)
      → is_plain answer ≡ true → AllByRecursion (Repeats sites me d) sent → Turn sites me d input d answer sent
  op_begun : (op : Op) → d.outstanding ≡ None → ((id : ℕ) → is_detach op id ≡ false)
      → Turn sites me d (Begin (OpRequest op)) (begun_desk op d) (Began (d.calls + 1)) (call_envelope sites me (d.calls + 1) op ∷ [])
  detach_begun : (a : ℕ) (x : Attachment) → d.outstanding ≡ None → d.attachments a ≡ Some x
      → Turn sites me d (Begin (DetachAt a)) (begun_desk (Detach x.id) (record d { attachments = at d.attachments a None })) (Began (d.calls + 1))
      (call_envelope sites me (d.calls + 1) (Detach x.id) ∷ [])
  executed : (e : Envelope) (n : ℕ) (op : Op) → e.message ≡ Call n op → freshness (d.kept e.from) n ≡ Fresh
      → Turn sites me d (Deliver e) (executed_desk sites e.from n op (call sites me op d.table) d) Took
      (reply_envelope me e.from n (call sites me op d.table).reply ∷ purges sites me (destroyed_by op d.table (call sites me op d.table).segments))
  again : (e : Envelope) (n : ℕ) (op : Op) (reply : Reply) → e.message ≡ Call n op → freshness (d.kept e.from) n ≡ Again reply
      → Turn sites me d (Deliver e) d Took (reply_envelope me e.from n reply ∷ [])
  old : (e : Envelope) (n : ℕ) (op : Op) → e.message ≡ Call n op → freshness (d.kept e.from) n ≡ Old → Turn sites me d (Deliver e) d Dropped []
  ended : (e : Envelope) (n : ℕ) (op : Op) (reply : Reply) → e.message ≡ Replies n reply → d.outstanding ≡ Some (record { number = n; op = op })
      → ((id : ℕ) → (is_attach op id && is_attached (Some reply)) ≡ false)
      → Turn sites me d (Deliver e) (record d { outstanding = None }) (Replied n reply None) []
  attached : (e : Envelope) (n : ℕ) (cred : Cred) (id : ℕ) (ro : Bool) (x : Attached) (a : ℕ) → e.message ≡ Replies n (AttachedReply x)
      → d.outstanding ≡ Some (record { number = n; op = Attach cred id ro }) → least_free d.attachments ≡ Some a
      → Turn sites me d (Deliver e) (record d { outstanding = None; attachments = at d.attachments a (Some (attachment_of id x)) }) (Replied n (AttachedReply x) (Some a)) []
  purges_one : (e : Envelope) (id : ℕ) → e.message ≡ Purge id
      → Turn sites me d (Deliver e) (record d { purged = at d.purged id true }) Took (record { from = me; to = home_of_id sites id; message = Purged id } ∷ [])
  hears_purged : (e : Envelope) (id : ℕ) → e.message ≡ Purged id
      → Turn sites me d (Deliver e) (record d { missing = at d.missing id (at (d.missing id) e.from false) }) Took []

-- the step of a site is such a turn
abbrev pub TurnOf : ℕ → ℕ → Site → Input → Step → Type 0
TurnOf sites me site input done = Turn sites me (desk_of site) input (desk_of done.site) done.answer done.sent
