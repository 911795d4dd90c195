-- What a journal has, whichever site's it is: its site, how many steps its lines record, where they lead, and how many bytes.
use Rattle.std.specs.Prelude.{⊤, ◌≡◌, ◌<◌, ◌⊎◌, ℕ, ◌+◌, ◌&&◌, Bool, true, false, List, [], ◌∷◌, ◌++◌, Option, Some, None, Result, Ok, Err, IfSome, codes, drop, if◌then◌else◌, length, nat_lt, option_and_then, option_map}
use Rattle.std.specs.Fmt.{decimal}
use Rattle.std.specs.List.{sum_by}
use Rattle.std.specs.Option.{option_map_or}
use Rattle.shm_place.specs.Limits.{max_sites}
use Rattle.shm_place.specs.Limits as limit
use Rattle.shm_process.specs.Node.{Node}
use Rattle.shm_process.specs.Recorded.{steps_of}
use Rattle.shm_journal.specs.Found.{Found, Sound, Bad, Partial, Kind, found, found_of, is_empty, lines_of, reached, rest_found, site_in}
use Rattle.shm_journal.specs.Leading.{Leads}
use Rattle.shm_journal.specs.Lines.{Header, read_entry, read_header}
use Rattle.shm_journal.specs.LinesOf.{line_in}
use Rattle.shm_journal.specs.ReadUpTo.{BreaksAt, EndsInState, LacksLine, ReadsWhole, StopsAt}
use Rattle.shm_journal.specs.Recovers.{ReadsAll}
use Rattle.shm_journal.specs.Stages.{Stage, begun, next_stage}
use Rattle.shm_journal.specs.StateLines.{StateLine, OfPart, OfMapping, OfEnding, read_state}
use Rattle.shm_journal.specs.declared.journal_error.JournalFault.{JournalFault}
use Rattle.shm_journal.specs.declared.journal_error.JournalFault.TheVariants as fault
use Rattle.shm_journal.specs.declared.journal_summary.Summary.{Summary}
use Rattle.shm_journal.specs.declared.line_reader.Lines.{Lines}
use Rattle.shm_seal.specs.NameOf.{name_of}
use Rattle.shm_seal.specs.declared.cluster_name.ClusterName.{ClusterName}

-- ---- whose it is

-- a process may have so many sites and pages
abbrev pub in_limits : Header → Bool
in_limits header =
    nat_lt 0 header.sites && nat_lt header.sites (max_sites + 1) && nat_lt header.me header.sites
    && nat_lt 0 header.pages && nat_lt header.pages (limit.pages + 1)

abbrev pub begun_if : Header → Option Stage
begun_if header = if in_limits header then Some (begun header) else None

-- the site that a first line names, at which nothing has happened
abbrev pub stage_named : List ℕ → Option Stage
stage_named line = option_and_then begun_if (read_header line)

abbrev pub first_found : Option Stage → Found Stage
first_found None = Bad 1
first_found (Some stage) = Sound stage

-- any site's journal
abbrev pub any : Kind Stage
any = record { first = λ line. first_found (stage_named line); alone = λ torn. Bad 1; next = next_stage }

abbrev pub reached_any : List ℕ → Found Stage
reached_any file = found_of any file

abbrev pub found_any : List ℕ → Found Node
found_any file = site_in (reached_any file)

-- ---- what it has

-- the whole lines behind the first
abbrev pub entries_in : List ℕ → List (List ℕ)
entries_in file = drop 1 (lines_of file).whole

-- the end of a state records the steps before it
abbrev pub steps_before : Option StateLine → ℕ
steps_before (Some (OfEnding ending)) = ending.steps
steps_before (Some (OfPart part)) = 0
steps_before (Some (OfMapping m)) = 0
steps_before None = 0

-- how many steps a line records
abbrev pub steps_in : List ℕ → ℕ
steps_in line = option_map_or (λ entry. length (steps_of entry)) (read_entry line) (steps_before (read_state line))

-- of a file with this header, of a cluster of this name, whose entries lead to this node: the clock is that of the last step, or 0
abbrev pub summary_of : Header → Option ClusterName → List ℕ → Node → Summary
summary_of header cluster file node = record {
  site = header.me;
  sites = header.sites;
  pages = header.pages;
  cluster = cluster;
  steps = sum_by steps_in (entries_in file);
  clock = node.clock;
  bytes = length file;
  torn = length (lines_of file).torn;
}

-- There is a whole first line; it is the header of a site that a process may be; and what that site finds in the file is summed up.
pub record IsSummary (file : List ℕ) (summary : Summary) : Type 0 where
  pub header : Header
  pub node : Node
  pub limits : in_limits header ≡ true
  pub begun : is_empty (lines_of file).whole ≡ false
  pub sound : found header file ≡ Sound node
  pub named : option_map name_of summary.cluster ≡ header.cluster
  pub summed : summary ≡ summary_of header summary.cluster file node

-- a fault of memory or of the reader says nothing
abbrev pub SumsUp : List ℕ → Result Summary JournalFault → Type 0
SumsUp file (Ok summary) = IsSummary file summary
SumsUp file (Err (fault.BadLine number)) = found_any file ≡ Bad number
SumsUp file (Err fault.OutOfMemory) = ⊤
SumsUp file (Err fault.ReadFault) = ⊤
SumsUp file (Err fault.UnendedState) = found_any file ≡ Partial
SumsUp file (Err fault.BeginsWithState) = ⊥

-- there is a file of which the result says what it has: what was left to be read, where the reader tells its bytes
abbrev pub SumsUpKnown : Option (List ℕ) → Result Summary JournalFault → Type 0
SumsUpKnown remaining result = (file : List ℕ) × IfSome remaining (λ known. file ≡ known) × SumsUp file result

-- the line of the cluster's name, if it has one
abbrev pub cluster_text : Option ClusterName → List ℕ
cluster_text None = []
cluster_text (Some name) = codes "cluster " ++ (name_of name ++ 10 ∷ [])

-- a line for each
abbrev pub summary_text : Summary → List ℕ
summary_text summary =
    codes "site " ++ (decimal summary.site ++ (codes "\nsites " ++ (decimal summary.sites ++ (codes "\npages " ++ (decimal summary.pages
    ++ 10 ∷ (cluster_text summary.cluster ++ (codes "steps " ++ (decimal summary.steps ++ (codes "\nclock " ++ (decimal summary.clock
    ++ (codes "\nbytes " ++ (decimal summary.bytes ++ (codes "\ntorn " ++ (decimal summary.torn ++ 10 ∷ []))))))))))))))

-- ---- what was read

-- Where memory is missing: lines that lead on, and what may be the front of one. Where the reader fails: the same; or all was read, and has
-- more bytes than there are numbers for. Else the line that is bad is the last that was taken, or the first is missing; or all was read, and
-- ends within a state.
abbrev pub SummaryReadsUpTo : Option (List ℕ) → Option (List ℕ) → JournalFault → Type 0
SummaryReadsUpTo old new fault.OutOfMemory = BreaksAt reached_any old new
SummaryReadsUpTo old new fault.ReadFault = BreaksAt reached_any old new ⊎ ReadsAll old new
SummaryReadsUpTo old new (fault.BadLine number) = StopsAt reached_any old new (Bad number) ⊎ LacksLine reached_any old new (Bad number)
SummaryReadsUpTo old new fault.UnendedState = EndsInState reached_any old new
SummaryReadsUpTo old new fault.BeginsWithState = ⊥

-- the first line is this header, and what follows leads on from the site that it names
pub record NamesFirst (before left : Option (List ℕ)) (header : Header) (whole : ℕ) : Type 0 where
  pub limits : in_limits header ≡ true
  pub some : 0 < whole
  pub as_own : Leads next_stage (reached header) before left 2 (begun header) whole
  pub as_any : Leads next_stage reached_any before left 2 (begun header) whole

-- all that was left behind the first line leads from this stage to this node; what is torn is the line that was taken last
pub record LeadsBehind {A : Type 0} (stage : Stage) (old new : Option (List ℕ)) (before after : Lines A) (node : Node) : Type 0 where
  pub last : Stage
  pub more : ℕ
  pub rest : ReadsWhole (rest_found stage) old new last more
  pub led : site_in (Sound last) ≡ Sound node
  pub whole : after.whole ≡ before.whole + more
  pub torn : line_in after ≡ (lines_of rest.bytes).torn

-- what is summed up of this node, of whose journal these lines were taken
pub record SumsUpNode {A : Type 0} (header : Header) (node : Node) (lines : Lines A) (summary : Summary) : Type 0 where
  pub site : summary.site ≡ header.me
  pub sites : summary.sites ≡ header.sites
  pub pages : summary.pages ≡ header.pages
  pub cluster : option_map name_of summary.cluster ≡ header.cluster
  pub steps : summary.steps ≡ node.steps
  pub clock : summary.clock ≡ node.clock
  pub torn : summary.torn ≡ length (line_in lines)
  pub bytes : summary.bytes ≡ lines.whole + summary.torn

-- all that was left behind the first line, which is this header and has so many bytes, is summed up
pub record SumsRest (header : Header) (old new : Option (List ℕ)) (first : ℕ) (summary : Summary) : Type 0 where
  pub last : Stage
  pub after : Node
  pub more : ℕ
  pub rest : ReadsWhole (rest_found (begun header)) old new last more
  pub led : site_in (Sound last) ≡ Sound after
  pub site : summary.site ≡ header.me
  pub sites : summary.sites ≡ header.sites
  pub pages : summary.pages ≡ header.pages
  pub cluster : option_map name_of summary.cluster ≡ header.cluster
  pub steps : summary.steps ≡ after.steps
  pub clock : summary.clock ≡ after.clock
  pub torn : summary.torn ≡ length (lines_of rest.bytes).torn
  pub bytes : summary.bytes ≡ first + more + summary.torn

-- what was read behind this header where it isn't: up to a fault, or all of it
abbrev pub RestReadsUpTo : Header → Option (List ℕ) → Option (List ℕ) → JournalFault → Type 0
RestReadsUpTo header old new fault.OutOfMemory = BreaksAt (rest_found (begun header)) old new
RestReadsUpTo header old new fault.ReadFault = BreaksAt (rest_found (begun header)) old new ⊎ ReadsAll old new
RestReadsUpTo header old new (fault.BadLine number) = StopsAt (rest_found (begun header)) old new (Bad number)
RestReadsUpTo header old new fault.UnendedState = EndsInState (rest_found (begun header)) old new
RestReadsUpTo header old new fault.BeginsWithState = ⊥
