-- The desk that a site's process begins with.
use Rattle.std.specs.Prelude.{⊤, ◌≡◌, ◌⊎◌, ℕ, Bool, false, true, List, Option, Some, None, IfSome}
use Rattle.shm_journal.specs.Found.{Sound, bytes_of_lines, found, is_empty, lines_of}
use Rattle.shm_journal.specs.Lines.{Header}
use Rattle.shm_journal.specs.DeskFrom.{desk_from, opening_of}
use Rattle.shm_journal.specs.Recovers.{IsFaultOf, ReadsAll, ReadsUpTo}
use Rattle.shm_journal.specs.declared.process_start.OpeningFault.TheVariants as opening
use Rattle.shm_process.specs.Desk.{Desk, greeting_at}
use Rattle.shm_process.specs.Node.{Node, is_late, new_node}
use Rattle.shm_process.specs.declared.process_counts.Start.{Start}
use Rattle.shm_seal.specs.Seal.{Seal}
use Rattle.shm_command.specs.declared.site_error.SiteFault.{SiteFault}
use Rattle.shm_command.specs.declared.site_error.SiteFault.TheVariants as fault

-- whose journal it is
abbrev pub header_at : ℕ → ℕ → ℕ → Option (List ℕ) → Header
header_at sites me pages cluster = record { sites = sites; me = me; pages = pages; cluster = cluster }

-- it starts at this time, with so many bytes of a journal
abbrev pub start_at : ℕ → ℕ → Start
start_at since bytes = record { journal = bytes; since = since }

-- It begins its journal, whose file, of these bytes, has no whole line yet; or it goes on from what the whole lines lead to, where there is one.
pub record BeginsKept (begins : Bool) (seal : Seal) (header : Header) (since : ℕ) (file : List ℕ) (desk : Desk) : Type 0 where
  pub asked : is_empty (lines_of file).whole ≡ begins
  pub node : Node
  pub sound : found header file ≡ Sound node
  pub begun : desk ≡ desk_from header seal begins node (start_at since (bytes_of_lines (lines_of file).whole))

-- Without a journal nothing has happened; else it begins with its journal, in the way that was asked for. When that is, nobody knows here.
abbrev pub BeginsWith : Option Bool → Seal → Header → Desk → Type 0
BeginsWith None seal header desk =
    (since : ℕ) × (desk ≡ greeting_at seal (new_node header.sites header.me header.pages) (opening_of header) (start_at since 0))
BeginsWith (Some begins) seal header desk = (since : ℕ) × (file : List ℕ) × BeginsKept begins seal header since file desk

-- ---- why it can't

-- the file leads to this site, and has no whole line yet, or has one
pub record Leads (is_new : Bool) (header : Header) (file : List ℕ) (node : Node) : Type 0 where
  pub sound : found header file ≡ Sound node
  pub new : is_empty (lines_of file).whole ≡ is_new

-- The file isn't as it was asked for: it leads to no site, as its fault says; or it was to be begun, and has a whole line; or it was to be
-- gone on with, and has none.
abbrev pub Differs : Bool → Header → List ℕ → SiteFault → Type 0
Differs begins header file (fault.Unrecovered why) = IsFaultOf header file why
Differs begins header file fault.Existing = (begins ≡ true) × ((node : Node) × Leads false header file node)
Differs begins header file fault.Blank = (begins ≡ false) × ((node : Node) × Leads true header file node)
Differs begins header file _ = ⊥

-- what may fail once it is: a new file has to be listed, and only one that is gone on with may lead to the clock's end
abbrev pub FailsBehind : Bool → Node → SiteFault → Type 0
FailsBehind is_new node fault.Uncut = ⊤
FailsBehind is_new node fault.Unlisted = is_new ≡ true
FailsBehind is_new node (fault.Unopenable opening.OutOfMemory) = ⊤
FailsBehind is_new node (fault.Unopenable opening.ClockEnd) = (is_new ≡ false) × (is_late node 0 ≡ true)
FailsBehind is_new node _ = ⊥

-- a file of which this was left to be read, where the reader tells its bytes, isn't as it was asked for
abbrev pub IsNotAsked : Bool → Header → Option (List ℕ) → SiteFault → Type 0
IsNotAsked begins header remaining fault = (file : List ℕ) × IfSome remaining (λ known. file ≡ known) × Differs begins header file fault

-- or it is, and something fails behind it
abbrev pub IsRefused : Bool → Header → Option (List ℕ) → SiteFault → Type 0
IsRefused begins header remaining fault =
    IsNotAsked begins header remaining fault
    ⊎ ((file : List ℕ) × IfSome remaining (λ known. file ≡ known) × ((node : Node) × Leads begins header file node × FailsBehind begins node fault))

-- what was read of the journal where its site can't begin: up to the journal's fault, or all of it
abbrev pub ReadsUnbegun : Header → Option (List ℕ) → Option (List ℕ) → SiteFault → Type 0
ReadsUnbegun header old new (fault.Unrecovered why) = ReadsUpTo header old new why
ReadsUnbegun header old new fault.OutOfMemory = ReadsAll old new
ReadsUnbegun header old new fault.Unopened = ReadsAll old new
ReadsUnbegun header old new fault.Missing = ReadsAll old new
ReadsUnbegun header old new fault.NoFile = ReadsAll old new
ReadsUnbegun header old new fault.Existing = ReadsAll old new
ReadsUnbegun header old new fault.Blank = ReadsAll old new
ReadsUnbegun header old new (fault.Damaged bytes) = ReadsAll old new
ReadsUnbegun header old new fault.Unmarked = ReadsAll old new
ReadsUnbegun header old new fault.Taken = ReadsAll old new
ReadsUnbegun header old new fault.Uncut = ReadsAll old new
ReadsUnbegun header old new fault.Unlisted = ReadsAll old new
ReadsUnbegun header old new (fault.Unopenable why) = ReadsAll old new
ReadsUnbegun header old new (fault.Ended why) = ReadsAll old new
ReadsUnbegun header old new (fault.Loose durable) = ReadsAll old new
