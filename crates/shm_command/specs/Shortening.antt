-- How a journal is made shorter, and what is told of it.
use Rattle.std.specs.Prelude.{⊤, ◌≡◌, ◌≢◌, ◌⊎◌, ◌&&◌, ◌*◌, ◌-◌, ◌^◌, ℕ, Bool, List, [], ◌∷◌, ◌++◌, codes, IfSome, Err, None, Option, Some, max, min, nat_lt, not, string_bytes, take}
use Rattle.std.specs.Fmt.{decimal}
use Rattle.std.specs.Io.KnownBytes.{Appends}
use Rattle.shm_process.specs.Desk.{Desk, restarted}
use Rattle.shm_process.specs.Node.{Node}
use Rattle.shm_journal.specs.Found.{Sound, found}
use Rattle.shm_journal.specs.Lines.{Header}
use Rattle.shm_journal.specs.Shortened.{Shortens}
use Rattle.shm_command.specs.declared.shortened_notice.Shorter.{Shorter}
use Rattle.shm_command.specs.declared.shortening_error.ShorteningFault.{ShorteningFault}
use Rattle.shm_command.specs.declared.shortening_error.ShorteningFault.TheVariants as fault
use Rattle.shm_command.specs.Served.{site_status}

-- these are the lines of a journal of this header that goes on from where the lines lead that were left to be read, where the reader tells its
-- bytes
pub record IsShortenedText (header : Header) (remaining : Option (List ℕ)) (text : List ℕ) : Type 0 where
  pub file : List ℕ
  pub known : IfSome remaining (λ known. file ≡ known)
  pub node : Node
  pub sound : found header file ≡ Sound node
  pub shortens : Shortens header node text

-- lines go on from where others lead: the first so many bytes are those of the journal that begins with their state
abbrev pub GoesOnFrom : List ℕ → List ℕ → ℕ → Type 0
GoesOnFrom before next n = (header : Header) × (node : Node) × (found header before ≡ Sound node) × Shortens header node (take n next)

-- A journal that may be made shorter at so many bytes, unless they are none, and that waits until it has so many: it is due where so many are
-- durable.
abbrev pub is_due : ℕ → ℕ → ℕ → Bool
is_due shorten_at due_at durable = nat_lt 0 shorten_at && not (nat_lt durable due_at)

-- so many it waits for that begins with so many bytes
abbrev pub due_behind : ℕ → ℕ → ℕ
due_behind shorten_at bytes = max (min (2 * bytes) (2 ^ 64 - 1)) shorten_at

-- ---- while the site runs

-- a journal of these lines took the place of the last one, where it is known which did
abbrev pub TookPlace : Option (List (List ℕ)) → Option (List (List ℕ)) → List ℕ → Type 0
TookPlace None after text = ⊤
TookPlace (Some before) None text = ⊥
TookPlace (Some before) (Some after) text = after ≡ text ∷ before

-- one that begins with this node's state
abbrev pub IsRenewed : Header → Node → Option (List (List ℕ)) → Option (List (List ℕ)) → Type 0
IsRenewed header node before after = (text : List ℕ) × Shortens header node text × TookPlace before after text

-- The site restarts behind a shorter journal, which begins with its state. Or no journal took the place, and it goes on as it is.
abbrev pub GoesOnWith : Header → Desk → Desk → Option (List (List ℕ)) → Option (List (List ℕ)) → Type 0
GoesOnWith header old new before after =
    (IsRenewed header old.node before after × (new ≡ restarted old)) ⊎ ((after ≡ before) × (new ≡ old))

-- ---- what is told

-- under what name the whole journal is kept, and how many bytes there were and are
abbrev pub shorter_text : Shorter → List ℕ
shorter_text shorter =
    codes "kept " ++ (string_bytes shorter.kept ++ (codes "\nwas " ++ (decimal shorter.was ++ (codes "\nis " ++ (decimal shorter.is ++ 10 ∷ [])))))

-- the journal isn't as it was asked for, or something failed
abbrev pub shortening_status : ShorteningFault → ℕ
shortening_status (fault.Unread why) = site_status (Err why)
shortening_status fault.OutOfMemory = 3
shortening_status fault.Untold = 3
shortening_status fault.Unwritten = 3
shortening_status fault.Unkept = 3
shortening_status fault.Unnamed = 3
shortening_status fault.Unlisted = 3
shortening_status fault.WriteFault = 3

-- a journal was made shorter, and that was told; or it wasn't, or not told
pub record Shortened (status : ℕ) (old new : Option (List ℕ)) : Type 0 where
  pub told : status ≡ 0 → (shorter : Shorter) × Appends old new (shorter_text shorter)
  pub failed : status ≢ 0 → (why : ShorteningFault) × (status ≡ shortening_status why)
  pub quiet : status ≡ 1 → new ≡ old
