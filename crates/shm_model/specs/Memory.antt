-- What shared memory is: one plain memory, as Li and Hudak 1989, §2, want it: a load gives the value of the most recent store to the same
-- place. It is read off the account alone, which is a list of what was asked and answered, the newest first; it knows of no copies,
-- owners or messages. An attachment names a segment as shmop(2) says.
use Rattle.std.specs.Prelude.{◌≡◌, ◌≢◌, ℕ, ◌<◌, Bool, false, List, [], ◌∷◌, Option, Some, None, ◌&&◌, ◌==◌, if◌then◌else◌, IsTrue, slice_get, slice_index}
use Rattle.shm_place.specs.declared.page_id.PageId.{PageId}
use Rattle.shm_place.specs.Limits.{page_bytes}
use Rattle.shm_place.specs.Page.{in_limits}
use Rattle.shm_model.specs.declared.answer.Answer.{Answer}
use Rattle.shm_model.specs.declared.answer.Answer.TheVariants.{Byte, Stored, Began, Replied}
use Rattle.shm_model.specs.declared.call.Op.{Op}
use Rattle.shm_model.specs.declared.call.Op.TheVariants.{Attach}
use Rattle.shm_model.specs.declared.call.Request.TheVariants.{Op as OpRequest, DetachAt}
use Rattle.shm_model.specs.Entry.{Entry, bytes, readable, writable}
use Rattle.shm_model.specs.Message.{Input, Load, Store, Begin, Deliver}
use Rattle.shm_model.specs.Site.{Site}
use Rattle.shm_model.specs.World.{Done, Opening, New, Preset, Framed, World}

-- the call that began under this number, by what was asked and answered
abbrev pub op_after : Option Input → Answer → ℕ → Option Op → Option Op
op_after (Some (Begin (OpRequest op))) (Began m) n earlier = if m == n then Some op else earlier
op_after _ _ n earlier = earlier

abbrev pub op_of : List Done → ℕ → ℕ → Option Op
op_of [] s n = None
op_of (d ∷ ds) s n = if d.site == s then op_after d.input d.answer n (op_of ds s n) else op_of ds s n

abbrev pub attach_id : Option Op → Option ℕ
attach_id (Some (Attach _ id _)) = Some id
attach_id _ = None

-- at the opening attachment 0 names segment 0, where there is one
abbrev pub segment_at_first : Opening → ℕ → Option ℕ
segment_at_first (New _) a = None
segment_at_first (Preset _ _) a = if a == 0 then Some 0 else None
segment_at_first (Framed _ _ _) a = if a == 0 then Some 0 else None

-- a reply that gives the attachment lets it name what its attach named; a detach that began ends that
abbrev pub segment_after : Option Input → Answer → (ℕ → Option Op) → ℕ → Option ℕ → Option ℕ
segment_after (Some (Deliver _)) (Replied n _ (Some b)) ops a earlier = if b == a then attach_id (ops n) else earlier
segment_after (Some (Begin (DetachAt b))) (Began _) ops a earlier = if b == a then None else earlier
segment_after _ _ ops a earlier = earlier

-- the segment that attachment a of site s names after this account
abbrev pub segment_of : Opening → List Done → ℕ → ℕ → Option ℕ
segment_of o [] s a = segment_at_first o a
segment_of o (d ∷ ds) s a = if d.site == s then segment_after d.input d.answer (op_of ds s) a (segment_of o ds s a) else segment_of o ds s a

abbrev pub is_segment : Option ℕ → ℕ → Bool
is_segment None id = false
is_segment (Some i) id = i == id

abbrev pub stored_last : Option Input → Answer → (ℕ → Option ℕ) → ℕ → ℕ → ℕ → ℕ
stored_last (Some (Store a at byte)) Stored named id offset earlier = if is_segment (named a) id && (at == offset) then byte else earlier
stored_last _ _ named id offset earlier = earlier

-- the byte of the last completed store to this offset of this segment, or 0 where there is none
abbrev pub last_store : Opening → List Done → ℕ → ℕ → ℕ
last_store o [] id offset = 0
last_store o (d ∷ ds) id offset = stored_last d.input d.answer (segment_of o ds d.site) id offset (last_store o ds id offset)

abbrev pub LoadsLast : Option Input → Answer → (ℕ → Option ℕ) → (ℕ → ℕ → ℕ) → Type 0
LoadsLast (Some (Load a offset)) (Byte byte) named last = (id : ℕ) × (named a ≡ Some id) × (byte ≡ last id offset)
LoadsLast _ _ named last = Unit {0}

-- each completed load gives the last store to its place before it
abbrev pub Legal : Opening → List Done → Type 0
Legal o [] = Unit {0}
Legal o (d ∷ ds) = LoadsLast d.input d.answer (segment_of o ds d.site) (last_store o ds) × Legal o ds

abbrev pub SameBytes : List ℕ → List ℕ → Type 0
SameBytes xs ys = (k : ℕ) → k < page_bytes → slice_index xs k ≡ slice_index ys k

-- what two sites hold of one page: where one may write the other may not even read, and where both may read the bytes are the same
pub record Agree (e f : Entry) : Type 0 where
  pub alone : IsTrue (writable e) → readable f ≡ false
  pub equal : IsTrue (readable e) → IsTrue (readable f) → SameBytes (bytes e) (bytes f)

-- any two sites agree on every page (Li and Hudak 1989, §3: many readers or one writer)
abbrev pub Coherent : World → Type 0
Coherent w = (page : PageId) (s t : ℕ) (x y : Site) → IsTrue (in_limits w.count page)
    → slice_get w.sites s ≡ Some x → slice_get w.sites t ≡ Some y → s ≢ t → Agree (x.entries page) (y.entries page)
