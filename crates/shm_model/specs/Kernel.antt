-- Segments and the calls on them, as one kernel knows them: shmget(2), shmop(2), shmctl(2). There is one list of all segments ever
-- made, in the order of making; a call gives its reply and the list after it. A home's table is that list with its own segments alone.
use Rattle.std.specs.Prelude.{ℕ, Bool, true, false, List, [], ◌∷◌, ◌++◌, Option, Some, None, ◌+◌, ◌*◌, ◌-◌, ◌&&◌, ◌||◌, not, nat_lt, nat_le, ◌==◌, if◌then◌else◌, map, count_by}
use Rattle.std.specs.List.{find}
use Rattle.shm_place.specs.Home.{home_of_id}
use Rattle.shm_place.specs.Limits.{max_segment_bytes, segments_of_a_home}
use Rattle.shm_model.specs.Basics.{greatest}
use Rattle.shm_model.specs.Permission.{Segment, destroyed, is_owner, may_attach, may_get, may_stat, has_creat, has_excl}
use Rattle.shm_model.specs.declared.call.Cred.{Cred}
use Rattle.shm_model.specs.declared.call.Errno.{Errno}
use Rattle.shm_model.specs.declared.call.Errno.TheVariants.{Eacces, Eexist, Eidrm, Einval, Enoent, Enospc, Eperm}
use Rattle.shm_model.specs.declared.call.Op.{Op}
use Rattle.shm_model.specs.declared.call.Op.TheVariants.{Get, Attach, Detach, Remove, Set, Stat}
use Rattle.shm_model.specs.declared.call.Reply.{Reply}
use Rattle.shm_model.specs.declared.call.Reply.TheVariants.{Id, Attached as AttachedReply, Ok as OkReply, Stat as StatReply, Refused}

-- what a call answers, and the segments after it
pub record Called : Type 0 where
  pub reply : Reply
  pub segments : List Segment

abbrev pub refuse : Errno → List Segment → Called
refuse errno segments = record { reply = Refused errno; segments = segments }

-- at a home at most this many segments are not destroyed
abbrev pub max_live : ℕ
max_live = 64

abbrev pub is_at : ℕ → ℕ → Segment → Bool
is_at sites home g = home_of_id sites g.id == home

abbrev pub made_at : ℕ → ℕ → List Segment → ℕ
made_at sites home segments = count_by (is_at sites home) segments

abbrev pub live_at : ℕ → ℕ → List Segment → ℕ
live_at sites home segments = count_by (λ g. is_at sites home g && not (destroyed g)) segments

-- A new segment belongs to its caller. The c-th one of home h has the identifier c * sites + h, which is never given again.
abbrev pub new_segment : ℕ → Cred → ℕ → ℕ → ℕ → Segment
new_segment id cred key size mode = record {
  id = id;
  key = key;
  uid = cred.uid;
  gid = cred.gid;
  cuid = cred.uid;
  cgid = cred.gid;
  mode = mode;
  size = size;
  nattch = 0;
  marked = false;
}

abbrev pub next_id : ℕ → ℕ → List Segment → ℕ
next_id sites home segments = made_at sites home segments * sites + home

abbrev pub make : ℕ → ℕ → Cred → ℕ → ℕ → ℕ → List Segment → Called
make sites home cred key size mode segments =
    if (size == 0) || nat_lt max_segment_bytes size then refuse Einval segments
    else if nat_le max_live (live_at sites home segments) || nat_le segments_of_a_home (made_at sites home segments) then refuse Enospc segments
    else record { reply = Id (next_id sites home segments); segments = segments ++ (new_segment (next_id sites home segments) cred key size mode ∷ []) }

-- the key has no segment: one is made where the caller asks for that
abbrev pub get_absent : Bool → ℕ → ℕ → Cred → ℕ → ℕ → ℕ → List Segment → Called
get_absent creat sites home cred key size mode segments =
    if creat then make sites home cred key size mode segments else refuse Enoent segments

-- the key has a segment: the asked sizes are compared, and only then the permission
abbrev pub get_present : Segment → Bool → Cred → ℕ → ℕ → List Segment → Called
get_present g exclusive cred size mode segments =
    if exclusive then refuse Eexist segments
    else if nat_lt g.size size then refuse Einval segments
    else if may_get cred mode g then record { reply = Id g.id; segments = segments }
    else refuse Eacces segments

abbrev pub with_key : ℕ → List Segment → Option Segment
with_key key segments = find (λ g. key == g.key) segments

abbrev pub get_found : Option Segment → ℕ → ℕ → Cred → ℕ → ℕ → ℕ → ℕ → List Segment → Called
get_found None sites home cred key size mode flags segments = get_absent (has_creat flags) sites home cred key size mode segments
get_found (Some g) sites home cred key size mode flags segments = get_present g (has_creat flags && has_excl flags) cred size mode segments

-- key 0 (IPC_PRIVATE) always makes a segment
abbrev pub get : ℕ → ℕ → Cred → ℕ → ℕ → ℕ → ℕ → List Segment → Called
get sites home cred key size mode flags segments =
    if key == 0 then make sites home cred key size mode segments
    else get_found (with_key key segments) sites home cred key size mode flags segments

abbrev pub with_id : ℕ → List Segment → Option Segment
with_id id segments = find (λ g. id == g.id) segments

-- an identifier that was never given, or whose segment was destroyed, is refused before anything else
abbrev pub on_live : Option Segment → (Segment → Called) → List Segment → Called
on_live None call segments = refuse Einval segments
on_live (Some g) call segments = if destroyed g then refuse Eidrm segments else call g

-- the segment of this identifier, changed
abbrev pub replaced : ℕ → Segment → List Segment → List Segment
replaced id new segments = map (λ g. if id == g.id then new else g) segments

abbrev pub attach : Cred → ℕ → Bool → Segment → List Segment → Called
attach cred id ro g segments =
    if not (may_attach cred ro g) then refuse Eacces segments
    else if g.nattch == greatest then refuse Enospc segments
    else record { reply = AttachedReply (record { size = g.size; ro = ro }); segments = replaced id (record g { nattch = g.nattch + 1 }) segments }

-- the last detach from a marked segment destroys it
abbrev pub detach : ℕ → Segment → List Segment → Called
detach id g segments =
    if g.nattch == 0 then refuse Einval segments
    else record { reply = OkReply; segments = replaced id (record g { nattch = g.nattch - 1 }) segments }

-- a removed segment is marked and its key is free; one that nobody is attached to is destroyed thereby
abbrev pub remove : Cred → ℕ → Segment → List Segment → Called
remove cred id g segments =
    if not (is_owner cred g) then refuse Eperm segments
    else record { reply = OkReply; segments = replaced id (record g { key = 0; marked = true }) segments }

abbrev pub set : Cred → ℕ → ℕ → ℕ → ℕ → Segment → List Segment → Called
set cred id uid gid mode g segments =
    if not (is_owner cred g) then refuse Eperm segments
    else record { reply = OkReply; segments = replaced id (record g { uid = uid; gid = gid; mode = mode }) segments }

abbrev pub stat : Cred → Segment → List Segment → Called
stat cred g segments =
    if not (may_stat cred g) then refuse Eacces segments
    else record {
      reply = StatReply (record {
        key = g.key;
        uid = g.uid;
        gid = g.gid;
        cuid = g.cuid;
        cgid = g.cgid;
        mode = g.mode;
        size = g.size;
        nattch = g.nattch;
        marked = g.marked;
      });
      segments = segments;
    }

-- One call at its home. The home counts in `get` alone: in what is full there, and in a new identifier.
abbrev pub call : ℕ → ℕ → Op → List Segment → Called
call sites home (Get cred key size mode flags) segments = get sites home cred key size mode flags.0 segments
call sites home (Attach cred id ro) segments = on_live (with_id id segments) (λ g. attach cred id ro g segments) segments
call sites home (Detach id) segments = on_live (with_id id segments) (λ g. detach id g segments) segments
call sites home (Remove cred id) segments = on_live (with_id id segments) (λ g. remove cred id g segments) segments
call sites home (Set cred id uid gid mode) segments = on_live (with_id id segments) (λ g. set cred id uid gid mode g segments) segments
call sites home (Stat cred id) segments = on_live (with_id id segments) (λ g. stat cred g segments) segments

-- the segment that a call is about, where it names one
abbrev pub named_by : Op → Option ℕ
named_by (Get _ _ _ _ _) = None
named_by (Attach _ id _) = Some id
named_by (Detach id) = Some id
named_by (Remove _ id) = Some id
named_by (Set _ id _ _ _) = Some id
named_by (Stat _ id) = Some id

abbrev pub is_destroyed : Option Segment → Bool
is_destroyed None = false
is_destroyed (Some g) = destroyed g

abbrev pub destroyed_in : Option ℕ → List Segment → List Segment → Option ℕ
destroyed_in None before after = None
destroyed_in (Some id) before after =
    if is_destroyed (with_id id after) && not (is_destroyed (with_id id before)) then Some id else None

-- the segment that this call destroyed
abbrev pub destroyed_by : Op → List Segment → List Segment → Option ℕ
destroyed_by op before after = destroyed_in (named_by op) before after
