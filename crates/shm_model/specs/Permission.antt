-- A segment's record, and who may do what with it: shmget(2), shmop(2), shmctl(2). One class of three bits counts, alone.
use Rattle.std.specs.Prelude.{ℕ, Bool, true, false, ◌/◌, ◌%◌, ◌&&◌, ◌||◌, not, ◌==◌, if◌then◌else◌}
use Rattle.shm_model.specs.declared.call.Cred.{Cred}

-- `size` is the size asked; `nattch` counts the attachments; a marked segment has key 0, and goes with its last attachment
pub record Segment : Type 0 where
  pub id : ℕ
  pub key : ℕ
  pub uid : ℕ
  pub gid : ℕ
  pub cuid : ℕ
  pub cgid : ℕ
  pub mode : ℕ
  pub size : ℕ
  pub nattch : ℕ
  pub marked : Bool

-- a marked segment is destroyed as soon as nobody is attached
abbrev pub destroyed : Segment → Bool
destroyed g = g.marked && (g.nattch == 0)

abbrev pub is_owner : Cred → Segment → Bool
is_owner c g = (c.uid == g.uid) || (c.uid == g.cuid)

abbrev pub is_in_group : Cred → Segment → Bool
is_in_group c g = (c.gid == g.gid) || (c.gid == g.cgid)

-- the bits of the class that counts are the last three: the owner's, else the group's, else the others'
abbrev pub class_of : Cred → Segment → ℕ
class_of c g = if is_owner c g then g.mode / 64 else if is_in_group c g then g.mode / 8 else g.mode

abbrev pub may_read : ℕ → Bool
may_read bits = bits / 4 % 2 == 1

abbrev pub may_write : ℕ → Bool
may_write bits = bits / 2 % 2 == 1

-- a mode of octal 444 asks to read, one of octal 222 to write, with any of their bits; execute bits ask for nothing
abbrev pub asks_to_read : ℕ → Bool
asks_to_read mode = may_read (mode / 64) || may_read (mode / 8) || may_read mode

abbrev pub asks_to_write : ℕ → Bool
asks_to_write mode = may_write (mode / 64) || may_write (mode / 8) || may_write mode

abbrev pub permits : Bool → Bool → ℕ → Bool
permits reads writes bits = (not reads || may_read bits) && (not writes || may_write bits)

abbrev pub may_get : Cred → ℕ → Segment → Bool
may_get c mode g = permits (asks_to_read mode) (asks_to_write mode) (class_of c g)

-- to attach is to read, and to write too unless it is read-only
abbrev pub may_attach : Cred → Bool → Segment → Bool
may_attach c ro g = permits true (not ro) (class_of c g)

abbrev pub may_stat : Cred → Segment → Bool
may_stat c g = permits true false (class_of c g)

-- the flags of `get`: IPC_CREAT is octal 1000, IPC_EXCL octal 2000
abbrev pub has_creat : ℕ → Bool
has_creat flags = flags / 512 % 2 == 1

abbrev pub has_excl : ℕ → Bool
has_excl flags = flags / 1024 % 2 == 1
