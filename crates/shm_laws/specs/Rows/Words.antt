-- The words in which scripts are written, one for each kind of line and of answer. Offsets and sizes are in bytes, attachments and
-- envelopes are numbered from 0.
use Rattle.std.specs.Prelude.{ℕ, Bool, false, true, List, [], ◌∷◌, ◌++◌, Option, Some, None}
use Rattle.shm_model.specs.declared.answer.Answer.{Answer}
use Rattle.shm_model.specs.declared.answer.Answer.TheVariants.{Byte, Stored, Fault, Waiting, Began, Replied, Took, Dropped, Refused}
use Rattle.shm_model.specs.declared.answer.State.TheVariants.{Nil, Copy, OwnRead, OwnWrite, Handed, Purged}
use Rattle.shm_model.specs.declared.answer.Shown.{Shown}
use Rattle.shm_model.specs.declared.call.Cred.{Cred}
use Rattle.shm_model.specs.declared.call.Errno.{Errno}
use Rattle.shm_model.specs.declared.call.Op.TheVariants.{Get, Attach, Remove, Set, Stat}
use Rattle.shm_model.specs.declared.call.Reply.{Reply}
use Rattle.shm_model.specs.declared.call.Reply.TheVariants.{Id, Attached, Ok, Stat as StatReply, Refused as RefusedReply}
use Rattle.shm_model.specs.declared.call.Request.TheVariants.{Op, DetachAt}
use Rattle.shm_model.specs.declared.event.Event.{Event}
use Rattle.shm_model.specs.declared.event.Event.TheVariants.{Load, Store, Begin, Tick, Restart, Deliver, Repeat, Lose}
use Rattle.shm_model.specs.declared.request_kind.Kind.TheVariants.{Read, Write}
use Rattle.shm_model.specs.Book.{Running}
use Rattle.shm_laws.specs.Rows.Script.{Sort, Sent, Booked, Line, Does, Shows}

infixl 70 ◌▸◌ ◌⟫◌
infixl 71 ◌&◌
-- an event that is answered so, and at which nothing is sent
abbrev pub ◌▸◌ : Event → Answer → Line
event ▸ answer = Does event answer []

-- an event's line, and what is sent at it
abbrev pub ◌⟫◌ : Line → List Sent → Line
Does event answer _ ⟫ sent = Does event answer sent
line ⟫ sent = line

abbrev pub to : ℕ → Sort → List Sent
to site sort = record { site = site; sort = sort } ∷ []

abbrev pub ◌&◌ : List Sent → List Sent → List Sent
xs & ys = xs ++ ys

-- site, attachment, offset
abbrev pub load : ℕ → ℕ → ℕ → Event
load site at offset = Load site at offset

-- site, attachment, offset, byte
abbrev pub store : ℕ → ℕ → ℕ → ℕ → Event
store site at offset b = Store site at offset b

abbrev pub deliver : ℕ → Event
deliver envelope = Deliver envelope

abbrev pub repeat : ℕ → Event
repeat envelope = Repeat envelope

abbrev pub lose : ℕ → Event
lose envelope = Lose envelope

abbrev pub tick : ℕ → Event
tick site = Tick site

abbrev pub restart : ℕ → Event
restart site = Restart site

abbrev pub cred : ℕ → ℕ → Cred
cred user group = record { uid = user; gid = group }

-- site, user, group, key, size, mode, flags
abbrev pub get : ℕ → ℕ → ℕ → ℕ → ℕ → ℕ → ℕ → Event
get site user group key size mode flags = Begin site (Op (Get (cred user group) key size mode (record { 0 = flags })))

abbrev pub creat : ℕ
creat = 0o1000

abbrev pub excl : ℕ
excl = 0o2000

-- site, user, group, segment, ro or rw
abbrev pub attach : ℕ → ℕ → ℕ → ℕ → Bool → Event
attach site user group segment only = Begin site (Op (Attach (cred user group) segment only))

abbrev pub ro : Bool
ro = true

abbrev pub rw : Bool
rw = false

-- site, attachment
abbrev pub detach : ℕ → ℕ → Event
detach site at = Begin site (DetachAt at)

-- site, user, group, segment
abbrev pub remove : ℕ → ℕ → ℕ → ℕ → Event
remove site user group segment = Begin site (Op (Remove (cred user group) segment))

-- site, user, group, segment, new user, new group, mode
abbrev pub set : ℕ → ℕ → ℕ → ℕ → ℕ → ℕ → ℕ → Event
set site user group segment owner owners mode = Begin site (Op (Set (cred user group) segment owner owners mode))

-- site, user, group, segment
abbrev pub stat : ℕ → ℕ → ℕ → ℕ → Event
stat site user group segment = Begin site (Op (Stat (cred user group) segment))

abbrev pub byte : ℕ → Answer
byte b = Byte b

abbrev pub stored : Answer
stored = Stored

abbrev pub fault : Answer
fault = Fault

abbrev pub waiting : Answer
waiting = Waiting

abbrev pub took : Answer
took = Took

abbrev pub dropped : Answer
dropped = Dropped

abbrev pub refused : ℕ → Answer
refused n = Refused n

abbrev pub began : ℕ → Answer
began n = Began n

-- the call's number, its reply
abbrev pub replied : ℕ → Reply → Answer
replied n r = Replied n r None

-- the call's number, the attachment, the segment's size, ro or rw
abbrev pub attached : ℕ → ℕ → ℕ → Bool → Answer
attached n at size only = Replied n (Attached (record { size = size; ro = only })) (Some at)

abbrev pub id : ℕ → Reply
id segment = Id segment

abbrev pub ok : Reply
ok = Ok

abbrev pub error : Errno → Reply
error e = RefusedReply e

-- key, user, group, creator, creator's group, mode, size, attachments, marked or live
abbrev pub state : ℕ → ℕ → ℕ → ℕ → ℕ → ℕ → ℕ → ℕ → Bool → Reply
state key uid gid cuid cgid mode size nattch is_marked =
    StatReply (record { key = key; uid = uid; gid = gid; cuid = cuid; cgid = cgid; mode = mode; size = size; nattch = nattch; marked = is_marked })

abbrev pub marked : Bool
marked = true

abbrev pub live : Bool
live = false

-- segment, page index, how the sites hold the page, its book
abbrev pub show : ℕ → ℕ → List Shown → Option Booked → Line
show segment index held booked = Shows segment index (record { held = held; booked = booked })

-- each with the number met last
abbrev pub nil : ℕ → Shown
nil n = record { state = Nil; seen = n }

abbrev pub copy : ℕ → Shown
copy n = record { state = Copy; seen = n }

abbrev pub own_read : ℕ → Shown
own_read n = record { state = OwnRead; seen = n }

abbrev pub own_write : ℕ → Shown
own_write n = record { state = OwnWrite; seen = n }

abbrev pub handed : ℕ → Shown
handed n = record { state = Handed; seen = n }

abbrev pub gone : Shown
gone = record { state = Purged; seen = 0 }

-- owner, sites with copies, the last transaction's number, what runs
abbrev pub book : ℕ → List ℕ → ℕ → Option Running → Option Booked
book owner copies number running = Some (record { owned_by = owner; copied_at = copies; transaction = number; runs = running })

abbrev pub no_book : Option Booked
no_book = None

abbrev pub idle : Option Running
idle = None

abbrev pub reading : ℕ → Option Running
reading site = Some (record { kind = Read; requester = site })

abbrev pub writing : ℕ → Option Running
writing site = Some (record { kind = Write; requester = site })
