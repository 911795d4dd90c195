-- What the words ask for, as clap reads them, and what is wrong with them.
use Rattle.std.specs.Prelude.{⊤, ◌≡◌, ◌≤◌, ◌<◌, ◌==◌, ◌&&◌, ◌||◌, ℕ, Bool, true, false, not, if◌then◌else◌, List, [], ◌∷◌, length, drop, map, slice_index, nat_lt, is_some, IsSomeAnd, Option, Some, None, codes, option_and_then, option_map}
use Rattle.std.specs.List.{list_all, list_any}
use Rattle.std.specs.Char.{is_ascii_digit}
use Rattle.std.specs.Option.{option_map_or}
use Rattle.std.specs.Str.{bytes_eq}
use Rattle.std.specs.Str.Parse.{digits_value, without_leading_plus}
use Rattle.clap.specs.Words.{Kinds, Row, Text, fault_of, first_of, one_of, subcommand_of}
use Rattle.clap.specs.Walk.{all_of}
use Rattle.clap.specs.Kinds.{or_else}
use Rattle.clap.specs.declared.error.kind.ErrorKind.TheVariants.{MissingRequiredArgument, UnknownArgument, ValueValidation}
use Rattle.shm_place.specs.Limits.{pages as most_pages}
use Rattle.shm_place.specs.declared.page_id.PageId.{PageId}
use Rattle.shm_command.specs.Commands.{app}
use Rattle.shm_command.specs.declared.args.shortening_words.Shortening.{Shortening}
use Rattle.shm_command.specs.declared.args.task.Task.{Task}
use Rattle.shm_command.specs.declared.args.task.Task.TheVariants.{Replay, Run, Simulate, Prompt, Draw, Site, Audit, Journal, Shorten}
use Rattle.shm_simulate.specs.declared.odds.Odds.{Odds}

-- the name of the subcommand that the words ask for, where the program takes them; the first word is the program's name
abbrev pub asked_for : List Text → Option Text
asked_for words = option_map (λ named. named.0) (subcommand_of app words)

-- the name of the subcommand that has this task
abbrev pub name_of : Task → Text
name_of (Replay file) = codes "replay"
name_of (Run sites seed summary log) = codes "run"
name_of (Simulate asked) = codes "simulate"
name_of Prompt = codes "prompt"
name_of (Draw page steps notes file) = codes "draw"
name_of (Site sites me pages journal begins seal shortening) = codes "site"
name_of (Audit sites journals) = codes "audit"
name_of (Journal file) = codes "journal"
name_of (Shorten file) = codes "shorten"

-- ---- what is given for an option

-- the number that decimal digits write, behind a plus or none
abbrev pub number_of : Text → ℕ
number_of text = digits_value 10 (without_leading_plus text)

-- digits, of which the first isn't a 0 before others: so no sign stands before them
abbrev pub is_plain : Text → Bool
is_plain text = nat_lt 0 (length text) && not (nat_lt 1 (length text) && (slice_index text 0 == 48)) && list_all is_ascii_digit text

-- what was written for an option is spelled so
abbrev pub is_plain_at : Text → List Row → Bool
is_plain_at option rows = option_map_or (list_all is_plain) (all_of option rows) true

-- the number that was written for an option, if it is spelled so
abbrev pub number_at : Text → List Row → Option ℕ
number_at option rows = if is_plain_at option rows then option_map number_of (one_of option rows) else None

-- the hundredths that were written for an option, or 0 where nothing was
abbrev pub percent_at : Text → List Row → Option ℕ
percent_at option rows = option_map_or (λ texts. number_at option rows) (all_of option rows) (Some 0)

-- the number that was written for an option, or this one where nothing was
abbrev pub number_or : ℕ → Text → List Row → Option ℕ
number_or other option rows = option_map_or (λ texts. number_at option rows) (all_of option rows) (Some other)

-- how often things are to go wrong
pub record HasOdds (rows : List Row) (odds : Odds) : Type 0 where
  pub lose : percent_at (codes "lose") rows ≡ Some odds.lose
  pub repeat : percent_at (codes "repeat") rows ≡ Some odds.repeat
  pub restart : percent_at (codes "restart") rows ≡ Some odds.restart

-- the page that two numbers name
abbrev pub page_named : List Text → Option PageId
page_named (seg ∷ index ∷ []) = Some (record { seg = number_of seg; index = number_of index })
page_named _ = None

-- the page that was written for `--page`, if one was
abbrev pub page_at : List Row → Option PageId
page_at rows = option_and_then page_named (all_of (codes "page") rows)

-- an option that has no value is there
abbrev pub is_set_at : Text → List Row → Bool
is_set_at option rows = option_map_or (λ text. bytes_eq text (codes "true")) (first_of option rows) false

-- something was written for an option
abbrev pub is_given_at : Text → List Row → Bool
is_given_at option rows = is_some (all_of option rows)

-- when a running site's journal is to be made shorter, 64 MiB where nothing was written, and what is to become of the whole one
pub record HasShortening (rows : List Row) (shortening : Shortening) : Type 0 where
  pub bytes : number_or 67108864 (codes "shorten-at") rows ≡ Some shortening.at
  pub forgets : is_set_at (codes "forget") rows ≡ shortening.forgets

-- segment 0 may have so many pages
abbrev pub HasPages : ℕ → Type 0
HasPages pages = (1 ≤ pages) × (pages ≤ most_pages)

-- the task has what is written for its options
abbrev pub HasOptions : List Row → Task → Type 0
HasOptions rows (Replay file) = first_of (codes "file") rows ≡ option_map (λ script. script.now) file
HasOptions rows (Run sites seed summary log) =
    (number_at (codes "sites") rows ≡ Some sites) × (number_at (codes "seed") rows ≡ Some seed) × (is_set_at (codes "summary") rows ≡ summary)
    × (first_of (codes "log") rows ≡ option_map (λ folder. folder.now) log)
HasOptions rows (Simulate asked) =
    (number_at (codes "sites") rows ≡ Some asked.sites) × (number_at (codes "seed") rows ≡ Some asked.seed)
    × (number_at (codes "runs") rows ≡ Some asked.runs) × HasOdds rows asked.odds
    × (first_of (codes "keep") rows ≡ option_map (λ folder. folder.now) asked.keep)
HasOptions rows Prompt = Unit {0}
HasOptions rows (Draw page steps notes file) =
    (page ≡ page_at rows) × (is_set_at (codes "steps") rows ≡ steps) × (first_of (codes "notes") rows ≡ option_map (λ texts. texts.now) notes)
    × (first_of (codes "file") rows ≡ option_map (λ script. script.now) file)
HasOptions rows (Site sites me pages journal begins seal shortening) =
    (number_at (codes "sites") rows ≡ Some sites) × (number_at (codes "me") rows ≡ Some me) × (number_at (codes "preset") rows ≡ Some pages)
    × HasPages pages × (first_of (codes "journal") rows ≡ option_map (λ file. file.now) journal) × (is_set_at (codes "new") rows ≡ begins)
    × (first_of (codes "cluster") rows ≡ option_map (λ name. name.now) seal.cluster) × (first_of (codes "key") rows ≡ option_map (λ file. file.now) seal.key)
    × HasShortening rows shortening
HasOptions rows (Audit sites journals) =
    (number_at (codes "sites") rows ≡ Some sites) × (all_of (codes "journals") rows ≡ Some (map (λ file. file.now) journals.items))
HasOptions rows (Journal file) = first_of (codes "file") rows ≡ Some file.now
HasOptions rows (Shorten file) = first_of (codes "file") rows ≡ Some file.now

-- a subcommand's name, and what stands behind it, ask for the task
pub record IsAsked (name : Text) (rows : List Row) (task : Task) : Type 0 where
  pub called : name ≡ name_of task
  pub options : HasOptions rows task

-- the words ask for the task, where the program takes them
abbrev pub AskFor : List Text → Task → Type 0
AskFor words task = IsSomeAnd (subcommand_of app words) (λ named. IsAsked named.0 named.1 task)

-- ---- what is wrong with the words

-- the numbers of a subcommand's options
abbrev pub numbers : List Text
numbers =
    codes "sites" ∷ codes "seed" ∷ codes "page" ∷ codes "me" ∷ codes "preset" ∷ codes "runs" ∷ codes "lose" ∷ codes "repeat" ∷ codes "restart" ∷ codes "shorten-at" ∷ []

abbrev pub are_plain : List Row → Bool
are_plain rows = list_all (λ option. is_plain_at option rows) numbers

abbrev pub has_plain_rows : Option (List Row) → Bool
has_plain_rows rows = option_map_or are_plain rows true

abbrev pub has_plain_numbers : List Text → Bool
has_plain_numbers words = has_plain_rows (option_map (λ named. named.1) (subcommand_of app words))

-- The site that a process is to be is one of those that there are; of other tasks this isn't asked.
abbrev pub is_among : Task → Bool
is_among (Site sites me pages journal begins seal shortening) = nat_lt me sites
is_among _ = true

-- the same, and segment 0 may have so many pages
abbrev pub IsOneOfSites : Task → Type 0
IsOneOfSites (Site sites me pages journal begins seal shortening) = (me < sites) × HasPages pages
IsOneOfSites _ = ⊤

-- so of what is written for the options
abbrev pub is_below_at : List Row → Bool
is_below_at rows = option_map_or (λ sites. option_map_or (λ me. nat_lt me sites) (number_at (codes "me") rows) true) (number_at (codes "sites") rows) true

abbrev pub names_one : Text × List Row → Bool
names_one named = if bytes_eq named.0 (codes "site") then is_below_at named.1 else true

-- Something is said of a journal: it is to be begun, whole ones are to go, or it is written when it is made shorter, whichever number.
abbrev pub needs_file : List Row → Bool → Bool → Bool
needs_file rows begins forgets = begins || (forgets || is_given_at (codes "shorten-at") rows)

-- A journal of which something is said has a file; of other tasks this isn't asked. The rows are what is written for the task's options.
abbrev pub has_file : List Row → Task → Bool
has_file rows (Site sites me pages journal begins seal shortening) = not (needs_file rows begins shortening.forgets) || is_some journal
has_file rows _ = true

-- so of what is written for the options
abbrev pub has_file_at : List Row → Bool
has_file_at rows = not (needs_file rows (is_set_at (codes "new") rows) (is_set_at (codes "forget") rows)) || is_some (first_of (codes "journal") rows)

abbrev pub names_file : Text × List Row → Bool
names_file named = if bytes_eq named.0 (codes "site") then has_file_at named.1 else true

-- A word is longer than any that is told whole.
abbrev pub is_long : Text → Bool
is_long word = nat_lt 80 (length word)

-- the program's own name may be as long as it likes
abbrev pub has_long_word : List Text → Bool
has_long_word words = list_any is_long (drop 1 words)

-- where clap refuses the words, and one of them is long, that is told alone
abbrev pub clap_fault : Bool → Kinds → Kinds
clap_fault long [] = []
clap_fault long (kind ∷ kinds) = if long then UnknownArgument ∷ [] else kind ∷ kinds

abbrev pub spelling_fault : List Text → Kinds
spelling_fault words = if has_plain_numbers words then [] else ValueValidation ∷ []

abbrev pub among_fault : Bool → Kinds
among_fault true = []
among_fault false = ValueValidation ∷ []

abbrev pub file_fault : Bool → Kinds
file_fault true = []
file_fault false = MissingRequiredArgument ∷ []

abbrev pub task_fault : List Row → Task → Kinds
task_fault rows task = or_else (among_fault (is_among task)) (file_fault (has_file rows task))

abbrev pub site_fault : List Text → Kinds
site_fault words =
    let named = subcommand_of app words in
    or_else (among_fault (option_map_or names_one named true)) (file_fault (option_map_or names_file named true))

-- the kinds of error that the words may give; none where the program takes them
abbrev pub fault_in : List Text → Kinds
fault_in words = or_else (clap_fault (has_long_word words) (fault_of app words)) (or_else (spelling_fault words) (site_fault words))
