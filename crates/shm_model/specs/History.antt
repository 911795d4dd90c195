-- Segment calls over a whole run: the calls in the order in which they were first handed over, what one kernel gives for them, and what
-- each segment is held by. So "executed once" and "attachments counted" are said without homes, tables or kept replies.
use Rattle.std.specs.Prelude.{◌≡◌, ◌≢◌, ℕ, ◌<◌, ◌+◌, Bool, true, false, List, [], ◌∷◌, Option, Some, None, ◌&&◌, not, ◌==◌, if◌then◌else◌, IsTrue, Contains, slice_get, filter, sum_by, count_by}
use Rattle.std.specs.List.{list_any, range_with_len}
use Rattle.shm_model.specs.declared.answer.Answer.{Answer}
use Rattle.shm_model.specs.declared.answer.Answer.TheVariants.{Began, Replied, Refused}
use Rattle.shm_model.specs.declared.call.Op.{Op}
use Rattle.shm_model.specs.declared.call.Op.TheVariants.{Attach}
use Rattle.shm_model.specs.declared.call.Reply.{Reply}
use Rattle.shm_model.specs.declared.call.Reply.TheVariants.{Attached as AttachedReply}
use Rattle.shm_model.specs.declared.call.Request.TheVariants.{DetachAt}
use Rattle.shm_model.specs.Permission.{Segment, destroyed}
use Rattle.shm_model.specs.Kernel.{Called, call, is_at, with_id}
use Rattle.shm_model.specs.Message.{Message, Call, Replies, Envelope, Input, Begin, Deliver}
use Rattle.shm_model.specs.Calls.{op_home}
use Rattle.shm_model.specs.Site.{Site, max_attachments}
use Rattle.shm_model.specs.World.{Done, Opening, New, Preset, Framed, Run, preset_segment, sites_of}
use Rattle.shm_model.specs.Memory.{is_segment, segment_of}

-- a segment call, by its site and the site's number for it
pub record Numbered : Type 0 where
  pub site : ℕ
  pub number : ℕ
  pub op : Op

abbrev pub is_call : ℕ → ℕ → Numbered → Bool
is_call s n c = (c.site == s) && (c.number == n)

abbrev pub has_call : ℕ → ℕ → List Numbered → Bool
has_call s n calls = list_any (is_call s n) calls

abbrev pub is_refused : Answer → Bool
is_refused (Refused _) = true
is_refused _ = false

abbrev pub with_call : Numbered → List Numbered → List Numbered
with_call c calls = if has_call c.site c.number calls then calls else c ∷ calls

abbrev pub handed_over : ℕ → Message → List Numbered → List Numbered
handed_over from (Call n op) calls = with_call (record { site = from; number = n; op = op }) calls
handed_over from _ calls = calls

abbrev pub with_done : Option Input → Answer → List Numbered → List Numbered
with_done (Some (Deliver e)) answer calls = if is_refused answer then calls else handed_over e.from e.message calls
with_done _ answer calls = calls

-- the calls that were handed over, each once, the newest first
abbrev pub calls_of : List Done → List Numbered
calls_of [] = []
calls_of (d ∷ ds) = with_done d.input d.answer (calls_of ds)

abbrev pub segments_at_first : Opening → List Segment
segments_at_first (New _) = []
segments_at_first (Preset n pages) = preset_segment n pages ∷ []
segments_at_first (Framed n pages _) = preset_segment n pages ∷ []

abbrev pub called_on : Opening → Numbered → List Segment → Called
called_on o c segments = call (sites_of o) (op_home (sites_of o) c.site c.op) c.op segments

-- all segments ever made, as one kernel has them after these calls
abbrev pub kernel : Opening → List Numbered → List Segment
kernel o [] = segments_at_first o
kernel o (c ∷ cs) = (called_on o c (kernel o cs)).segments

-- the kernel's reply to a call, at its place among the calls
abbrev pub reply_to : Opening → List Numbered → ℕ → ℕ → Option Reply
reply_to o [] s n = None
reply_to o (c ∷ cs) s n = if is_call s n c then Some (called_on o c (kernel o cs)).reply else reply_to o cs s n

abbrev pub segments_after : Opening → Run → List Segment
segments_after o r = kernel o (calls_of r.account)

-- Each call is executed once: every reply that was sent, and every one that was answered, is the kernel's at that call's place.
pub record ExecutedOnce (o : Opening) (r : Run) : Type 0 where
  pub sent : (e : Envelope) (n : ℕ) (reply : Reply) → Contains r.world.sent e → e.message ≡ Replies n reply
      → reply_to o (calls_of r.account) e.to n ≡ Some reply
  pub answered : (d : Done) (n : ℕ) (reply : Reply) (a : Option ℕ) → Contains r.account d → d.answer ≡ Replied n reply a
      → reply_to o (calls_of r.account) d.site n ≡ Some reply

abbrev pub is_reply : ℕ → ℕ → Answer → Bool
is_reply d n (Replied m _ _) = m == n
is_reply d n _ = false

abbrev pub has_replied : List Done → ℕ → ℕ → Bool
has_replied account s n = list_any (λ d. (d.site == s) && is_reply d.site n d.answer) account

abbrev pub is_attach : Op → ℕ → Bool
is_attach (Attach _ i _) id = i == id
is_attach _ id = false

abbrev pub is_attached : Option Reply → Bool
is_attached (Some (AttachedReply _)) = true
is_attached _ = false

-- an attachment of some site names the segment
abbrev pub naming : Opening → List Done → ℕ → ℕ
naming o account id = sum_by (λ s. count_by (λ a. is_segment (segment_of o account s a) id) (range_with_len 0 max_attachments)) (range_with_len 0 (sites_of o))

-- an attach to the segment succeeded at its home, and its site doesn't know yet
abbrev pub attaching : Opening → List Done → List Numbered → ℕ → ℕ
attaching o account calls id =
    count_by (λ c. is_attach c.op id && is_attached (reply_to o calls c.site c.number) && not (has_replied account c.site c.number)) calls

abbrev pub is_detach_begun : Option Input → Answer → ℕ → (ℕ → Option ℕ) → List Numbered → ℕ → Bool
is_detach_begun (Some (Begin (DetachAt a))) (Began n) s named calls id = is_segment (named a) id && not (has_call s n calls)
is_detach_begun _ _ s named calls id = false

-- a detach from the segment began, and its home doesn't know yet
abbrev pub detaching : Opening → List Numbered → List Done → ℕ → ℕ
detaching o calls [] id = 0
detaching o calls (d ∷ ds) id = (if is_detach_begun d.input d.answer d.site (segment_of o ds d.site) calls id then 1 else 0) + detaching o calls ds id

-- what holds a segment: who is attached, who is about to learn that it is, and whose detach is on its way
abbrev pub held : Opening → List Done → ℕ → ℕ
held o account id = naming o account id + (attaching o account (calls_of account) id + detaching o (calls_of account) account id)

-- Attachments are counted, all of them, and none names a destroyed segment.
pub record Counted (o : Opening) (r : Run) : Type 0 where
  pub count : (g : Segment) → Contains (segments_after o r) g → destroyed g ≡ false → g.nattch ≡ held o r.account g.id
  pub named : (s a id : ℕ) → s < sites_of o → segment_of o r.account s a ≡ Some id
      → (g : Segment) × (with_id id (segments_after o r) ≡ Some g) × (destroyed g ≡ false)
  pub small : (s a id : ℕ) → segment_of o r.account s a ≡ Some id → a < max_attachments

-- Each home's table is its part of the one kernel's list.
abbrev pub HomesKeepTheirPart : Opening → Run → Type 0
HomesKeepTheirPart o r = (h : ℕ) (home : Site) → slice_get r.world.sites h ≡ Some home → home.table ≡ filter (is_at (sites_of o) h) (segments_after o r)

-- Nothing alive is purged: what a site has purged is destroyed, and no attachment names it.
pub record PurgedDead (o : Opening) (r : Run) : Type 0 where
  pub dead : (s id : ℕ) (site : Site) → slice_get r.world.sites s ≡ Some site → IsTrue (site.purged id)
      → (g : Segment) × (with_id id (segments_after o r) ≡ Some g) × IsTrue (destroyed g)
  pub unnamed : (s t a id : ℕ) (site : Site) → slice_get r.world.sites s ≡ Some site → IsTrue (site.purged id)
      → t < sites_of o → segment_of o r.account t a ≢ Some id
