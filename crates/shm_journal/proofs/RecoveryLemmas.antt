-- What is answered of a site's own journal.
use Rattle.std.proofs.Common.{◌≡◌, ◌≤◌, ◌<◌, inl, inr, ℕ, ◌+◌, ◌==◌, Bool, true, false, List, [], ◌∷◌, ◌++◌, Option, None, Some, Ok, Err, cond, length, take, refl, sym, ap, ap₂, subst, ◌∙◌, append_assoc, arith}
use Rattle.std.specs.Prelude.{Result, IfErr, IfOk, OnOk}
use Rattle.std.specs.Str.{bytes_eq}
use Rattle.std.specs.Io.KnownBytes.{Consumes, IsAtEnd}
use Rattle.std.proofs.KnownBytes.{Consumes-nil}
use Rattle.std.proofs.lemmas.Bool.Decides.{nat_tests}
use Rattle.std.proofs.lemmas.List.Elements.{All-nil}
use Rattle.shm_process.specs.NodeOf.{node_of}
use Rattle.shm_journal.proofs.Leading.{first_alone, first_breaks, first_lacks, first_leads, first_stops, joined_fault, joined_whole}
use Rattle.shm_journal.proofs.Fronts.{IsFile, any_file, of_all, whole_of}
use Rattle.shm_journal.specs.Found.{Found, Sound, Foreign, Bad, Partial, bytes_of_lines, found, is_empty, lines_of, max_journal_line, not_own, own, reached, rest_found, site_in}
use Rattle.shm_journal.specs.Leading.{Leads}
use Rattle.shm_journal.specs.LinesOf.{Unended}
use Rattle.shm_journal.specs.Lines.{Header, header_line, read_header}
use Rattle.shm_journal.specs.ReadUpTo.{BreaksAt, EndsInState, LacksLine, ReadsSite, ReadsToLine, ReadsWhole, StopsAt}
use Rattle.shm_journal.specs.Recovers.{EntriesReadUpTo, ReadsAll, ReadsUpTo, Recovers, as_recovery, front_checked, header_checked, other_header}
use Rattle.shm_journal.specs.Stages.{Stage, InState, Telling, begun, next_stage}
use Rattle.shm_journal.specs.Taking.{BreaksOff, most_at_once}
use Rattle.shm_journal.specs.declared.journal_error.JournalFault.{JournalFault}
use Rattle.shm_journal.specs.declared.journal_error.JournalFault.TheVariants as journal
use Rattle.shm_journal.specs.declared.recovered_site.Recovered.{Recovered}
use Rattle.shm_journal.specs.declared.recovery_error.RecoveryFault.{RecoveryFault}
use Rattle.shm_journal.specs.declared.recovery_error.RecoveryFault.TheVariants as fault

-- ---- a whole journal

pub reads_all : {T : Type 0} → (says : List ℕ → Found T) (old new : Option (List ℕ)) (state : T) (whole : ℕ) → ReadsWhole says old new state whole → ReadsAll old new
reads_all says old new state whole r = (r.bytes, r.taken, r.end)

none-counted : (lines : List (List ℕ)) → (bytes_of_lines lines == 0) ≡ is_empty lines
none-counted [] = refl
none-counted (line ∷ lines) = some (length line) (bytes_of_lines lines)
  where
    some : (a b : ℕ) → (a + 1 + b == 0) ≡ false
    some a b = grind (arith, nat_tests)

pub recovers : {A : Type 0} → (header : Header) (old new : Option (List ℕ)) (r : Recovered A) → ReadsSite (reached header) old new (node_of r.node) r.whole → r.is_new ≡ (r.whole == 0)
    → Recovers header old (Ok r)
recovers header old new r (stage, w, site) empty = (
  w.bytes,
  of_all old new w.bytes (λ known. w.bytes ≡ known) w.taken w.end refl,
  (ap site_in w.sound ∙ site, w.counted, empty ∙ ap (λ n. n == 0) w.counted ∙ none-counted (lines_of w.bytes).whole),
)

-- ---- a fault

-- a file that begins with these bytes says so
stopped : (header : Header) (old new : Option (List ℕ)) (what : Found Stage) → StopsAt (reached header) old new what → (file : List ℕ) × IsFile old file × (found header file ≡ site_in what)
stopped header old new what s =
    let w = whole_of old new (s.before ++ (s.line ++ s.over)) s.taken in (
      (s.before ++ (s.line ++ s.over)) ++ w.0,
      w.1,
      ap (found header) (append_assoc s.before (s.line ++ s.over) w.0 ∙ ap (λ l. s.before ++ l) (append_assoc s.line s.over w.0)) ∙ ap site_in (s.bad (s.over ++ w.0)),
    )

lacking : (header : Header) (old new : Option (List ℕ)) (what : Found Stage) → LacksLine (reached header) old new what → (file : List ℕ) × IsFile old file × (found header file ≡ site_in what)
lacking header old new what l = (l.bytes, of_all old new l.bytes (λ known. l.bytes ≡ known) l.taken l.end refl, ap site_in l.bad)

within : (header : Header) (old new : Option (List ℕ)) → EndsInState (reached header) old new → (file : List ℕ) × IsFile old file × (found header file ≡ Partial)
within header old new (telling, whole, w) = (w.bytes, of_all old new w.bytes (λ known. w.bytes ≡ known) w.taken w.end refl, ap site_in w.sound)

pub fails : (A : Type 0) (header : Header) (old new : Option (List ℕ)) (f : RecoveryFault) → ReadsUpTo header old new f → Recovers {A = A} header old (Err f)
fails A header old new fault.OutOfMemory h = let any = any_file old in (any.0, any.1, tt)
fails A header old new fault.ReadFault h = let any = any_file old in (any.0, any.1, tt)
fails A header old new fault.Foreign s = stopped header old new Foreign s
fails A header old new (fault.BadLine number) (inl s) = stopped header old new (Bad number) s
fails A header old new (fault.BadLine number) (inr l) = lacking header old new (Bad number) l
fails A header old new fault.UnendedState h = within header old new h

pub as_start : (header : Header) (old new : Option (List ℕ)) (why : JournalFault) → ReadsToLine (reached header) old new why → ReadsUpTo header old new (as_recovery why)
as_start header old new journal.OutOfMemory h = h
as_start header old new journal.ReadFault h = h
as_start header old new (journal.BadLine number) h = inl h
as_start header old new journal.UnendedState h = absurd h
as_start header old new journal.BeginsWithState h = absurd h

-- ---- the first line

abbrev pub HeaderFault : RecoveryFault → Found Stage → Type 0
HeaderFault fault.Foreign says = says ≡ Foreign
HeaderFault (fault.BadLine number) says = says ≡ Bad number
HeaderFault fault.OutOfMemory says = ⊥
HeaderFault fault.ReadFault says = ⊥
HeaderFault fault.UnendedState says = ⊥

-- what is answered of a whole first line
pub record Checked (header : Header) (line : List ℕ) (r : Result Bool RecoveryFault) : Type 0 where
  pub is_own : IfOk r (λ whole. (own header).first line ≡ Sound (begun header))
  pub whole : IfOk r (λ whole. whole ≡ true)
  pub other : IfErr r (λ f. HeaderFault f ((own header).first line))

checked-so : (header : Header) (line : List ℕ) (same : Bool) (read : Option Header) → bytes_eq line (header_line header) ≡ same → read_header line ≡ read
    → Checked header line (cond same (Ok true) (other_header read))
checked-so header line true read e h = record { is_own = ap (λ b. cond b (Sound (begun header)) (not_own (read_header line))) e; whole = refl; other = tt }
checked-so header line false None e h =
    record { is_own = tt; whole = tt; other = ap (λ b. cond b (Sound (begun header)) (not_own (read_header line))) e ∙ ap not_own h }
checked-so header line false (Some x) e h =
    record { is_own = tt; whole = tt; other = ap (λ b. cond b (Sound (begun header)) (not_own (read_header line))) e ∙ ap not_own h }

pub checked : (header : Header) (own line seen : List ℕ) (r : Result Bool RecoveryFault) → own ≡ header_line header → seen ≡ line → r ≡ header_checked own seen → Checked header line r
checked header own line seen r is same e =
    subst (Checked header line) (sym (e ∙ ap₂ header_checked is same)) (checked-so header line (bytes_eq line (header_line header)) (read_header line) refl refl)

-- a header that isn't the own one
pub header_stops : (header : Header) (before now : Option (List ℕ)) (line over : List ℕ) (f : RecoveryFault) → Consumes before now ((line ++ 10 ∷ []) ++ over) → Unended line
    → length line ≤ max_journal_line → length over < most_at_once → HeaderFault f ((own header).first line) → ReadsUpTo header before now f
header_stops header before now line over fault.OutOfMemory taken h short once e = absurd e
header_stops header before now line over fault.ReadFault taken h short once e = absurd e
header_stops header before now line over fault.UnendedState taken h short once e = absurd e
header_stops header before now line over fault.Foreign taken h short once e = first_stops (own header) before now line over Foreign taken h short once e (λ onward. refl)
header_stops header before now line over (fault.BadLine number) taken h short once e =
    inl (first_stops (own header) before now line over (Bad number) taken h short once e (λ onward. refl))

-- there is no whole line
pub record Fronted (header : Header) (before now : Option (List ℕ)) (r : Result Bool RecoveryFault) : Type 0 where
  pub none : IfOk r (λ whole. ReadsWhole (reached header) before now (begun header) 0)
  pub new : IfOk r (λ whole. whole ≡ false)
  pub left : IfErr r (ReadsUpTo header before now)

fronted : (header : Header) (before now : Option (List ℕ)) (torn : List ℕ) (same : Bool) → bytes_eq torn (take (length torn) (header_line header)) ≡ same
    → Consumes before now torn → Unended torn → length torn ≤ max_journal_line → IsAtEnd now → Fronted header before now (cond same (Ok false) (Err (fault.BadLine 1)))
fronted header before now torn true e taken h short end = record {
  none = first_alone (own header) before now torn (begun header) taken h short end (ap (λ b. cond b (Sound (begun header)) (Bad 1)) e);
  new = refl;
  left = tt;
}
fronted header before now torn false e taken h short end = record {
  none = tt;
  new = tt;
  left = inr (first_lacks (own header) before now torn (Bad 1) taken h short end (ap (λ b. cond b (Sound (begun header)) (Bad 1)) e));
}

pub front_known : (header : Header) (before now : Option (List ℕ)) (torn seen mine : List ℕ) (r : Result Bool RecoveryFault) → mine ≡ header_line header → seen ≡ torn
    → r ≡ front_checked mine seen → Consumes before now torn → Unended torn → length torn ≤ max_journal_line → IsAtEnd now → Fronted header before now r
front_known header before now torn seen mine r is same e taken h short end =
    subst (Fronted header before now) (sym (e ∙ ap₂ front_checked is same))
    (fronted header before now torn (bytes_eq torn (take (length torn) (header_line header))) refl taken h short end)

-- ---- the clauses of the first line

true-false : {P : Type 0} → (b : Bool) → b ≡ true → b ≡ false → P
true-false b p q = absurd (cc)

pub checked_leads : (header : Header) (before left : Option (List ℕ)) (line : List ℕ) (r : Result Bool RecoveryFault) (count : ℕ) → Checked header line r → Consumes before left (line ++ 10 ∷ [])
    → Unended line → length line ≤ max_journal_line → count ≡ length line + 1
    → IfOk r (λ whole. whole ≡ true → Leads next_stage (reached header) before left 2 (begun header) count)
checked_leads header before left line (Ok b) count k taken h short e = λ _.
    subst (λ n. Leads next_stage (reached header) before left 2 (begun header) n) (sym e) (first_leads (own header) before left (begun header) line taken h short k.is_own)
checked_leads header before left line (Err f) count k taken h short e = tt

pub checked_some : (r : Result Bool RecoveryFault) (line : List ℕ) (count : ℕ) → count ≡ length line + 1 → IfOk r (λ whole. whole ≡ true → 0 < count)
checked_some (Ok b) line count e = λ _. omega (arith, e)
checked_some (Err f) line count e = tt

pub checked_none : (header : Header) (line : List ℕ) (r : Result Bool RecoveryFault) (P : Type 0) → Checked header line r → IfOk r (λ whole. whole ≡ false → P)
checked_none header line (Ok b) P k = λ e. true-false b k.whole e
checked_none header line (Err f) P k = tt

pub checked_stops : (header : Header) (before now : Option (List ℕ)) (line over : List ℕ) (r : Result Bool RecoveryFault) → Checked header line r
    → Consumes before now ((line ++ 10 ∷ []) ++ over) → Unended line → length line ≤ max_journal_line → length over < most_at_once → IfErr r (ReadsUpTo header before now)
checked_stops header before now line over (Ok b) k taken h short once = tt
checked_stops header before now line over (Err f) k taken h short once = header_stops header before now line over f taken h short once k.other

pub fronted_whole : (header : Header) (before now : Option (List ℕ)) (r : Result Bool RecoveryFault) (P : Type 0) → Fronted header before now r → IfOk r (λ whole. whole ≡ true → P)
fronted_whole header before now (Ok b) P k = λ e. true-false b e k.new
fronted_whole header before now (Err f) P k = tt

pub fronted_none : (header : Header) (before now : Option (List ℕ)) (r : Result Bool RecoveryFault) → Fronted header before now r
    → IfOk r (λ whole. whole ≡ false → ReadsWhole (reached header) before now (begun header) 0)
fronted_none header before now (Ok b) k = λ _. k.none
fronted_none header before now (Err f) k = tt

-- the reader fails, or memory is missing
pub breaks_first : (header : Header) (before now : Option (List ℕ)) (why : JournalFault) → BreaksOff before now why → ReadsUpTo header before now (as_recovery why)
breaks_first header before now journal.OutOfMemory b = first_breaks (own header) before now journal.OutOfMemory b
breaks_first header before now journal.ReadFault b = first_breaks (own header) before now journal.ReadFault b
breaks_first header before now (journal.BadLine number) b = absurd b.other
breaks_first header before now journal.UnendedState b = absurd b.other
breaks_first header before now journal.BeginsWithState b = absurd b.other

-- ---- the header, and what stands behind it

pub read_on : {A : Type 0} → (header : Header) (all before left now : Option (List ℕ)) (count : ℕ) (r : Result (Recovered A) RecoveryFault) → before ≡ all
    → Leads next_stage (reached header) before left 2 (begun header) count
    → IfOk r (λ r. (more : ℕ) × (r.whole ≡ count + more) × ReadsSite (rest_found (begun header)) left now (node_of r.node) more)
    → IfOk r (λ r. ReadsSite (reached header) all now (node_of r.node) r.whole)
read_on header all before left now count (Ok x) same l (more, counted, (last, w, site)) = (
  last,
  subst (λ a. ReadsWhole (reached header) a now last x.whole) same
      (subst (λ n. ReadsWhole (reached header) before now last n) (sym counted)
      (joined_whole next_stage (reached header) before left now (begun header) last count more l w)),
  site,
)
read_on header all before left now count (Err f) same l w = tt

some-bytes : (n count more : ℕ) → 0 < count → n ≡ count + more → false ≡ (n == 0)
some-bytes n count more some e = grind (arith, nat_tests)

-- there is a header
pub not_new : {A : Type 0} → (says : List ℕ → Found Stage) (left now : Option (List ℕ)) (count : ℕ) (r : Result (Recovered A) RecoveryFault) → 0 < count → IfOk r (λ r. r.is_new ≡ false)
    → IfOk r (λ r. (more : ℕ) × (r.whole ≡ count + more) × ReadsSite says left now (node_of r.node) more)
    → IfOk r (λ r. r.is_new ≡ (r.whole == 0))
not_new says left now count (Ok x) some old w = old ∙ some-bytes x.whole count w.0 some w.1
not_new says left now count (Err f) some old w = tt

joined-within : (header : Header) (before left now : Option (List ℕ)) (count : ℕ) → Leads next_stage (reached header) before left 2 (begun header) count
    → EndsInState (rest_found (begun header)) left now → EndsInState (reached header) before now
joined-within header before left now count l (telling, more, w) =
    (telling, count + more, joined_whole next_stage (reached header) before left now (begun header) (InState telling) count more l w)

joined-up : (header : Header) (before left now : Option (List ℕ)) (count : ℕ) (why : JournalFault) → Leads next_stage (reached header) before left 2 (begun header) count
    → EntriesReadUpTo (begun header) left now why → ReadsUpTo header before now (as_recovery why)
joined-up header before left now count journal.UnendedState l h = joined-within header before left now count l h
joined-up header before left now count journal.OutOfMemory l h =
    as_start header before now journal.OutOfMemory (joined_fault next_stage (reached header) before left now (begun header) count journal.OutOfMemory l h)
joined-up header before left now count journal.ReadFault l h =
    as_start header before now journal.ReadFault (joined_fault next_stage (reached header) before left now (begun header) count journal.ReadFault l h)
joined-up header before left now count (journal.BadLine number) l h =
    as_start header before now (journal.BadLine number) (joined_fault next_stage (reached header) before left now (begun header) count (journal.BadLine number) l h)
joined-up header before left now count journal.BeginsWithState l h = absurd h

pub left_on : {A : Type 0} → (header : Header) (all before left now : Option (List ℕ)) (count : ℕ) (r : Result (Recovered A) RecoveryFault) → before ≡ all
    → Leads next_stage (reached header) before left 2 (begun header) count
    → IfErr r (λ f. (why : JournalFault) × (f ≡ as_recovery why) × EntriesReadUpTo (begun header) left now why)
    → IfErr r (ReadsUpTo header all now)
left_on header all before left now count (Ok x) same l h = tt
left_on header all before left now count (Err f) same l (why, is, h) =
    subst (ReadsUpTo header all now) (sym is) (subst (λ a. ReadsUpTo header a now (as_recovery why)) same (joined-up header before left now count why l h))

pub whole_is : {A : Type 0} {n m : ℕ} → (r : Result (Recovered A) RecoveryFault) → n ≡ m → IfOk r (λ r. r.whole ≡ n) → IfOk r (λ r. r.whole ≡ m)
whole_is (Ok x) e h = h ∙ e
whole_is (Err f) e h = tt

-- what a site that was read leads to
pub site_read : {A : Type 0} → (says : List ℕ → Found Stage) (left now : Option (List ℕ)) (stage : Stage) (more : ℕ) (r : Result (Recovered A) RecoveryFault) (before : ℕ)
    → ReadsWhole says left now stage more → IfOk r (λ r. site_in (Sound stage) ≡ Sound (node_of r.node)) → IfOk r (λ r. r.whole ≡ before + more)
    → IfOk r (λ r. (more : ℕ) × (r.whole ≡ before + more) × ReadsSite says left now (node_of r.node) more)
site_read says left now stage more (Ok x) before w site counted = (more, counted, (stage, w, site))
site_read says left now stage more (Err f) before w site counted = tt

-- all was read, and the state hasn't ended
pub ends_within : (says : List ℕ → Found Stage) (old new : Option (List ℕ)) (last : Stage) (more : ℕ) → ReadsWhole says old new last more
    → (telling : Telling) × (last ≡ InState telling) → EndsInState says old new
ends_within says old new last more w (telling, is) = (telling, more, subst (λ s. ReadsWhole says old new s more) is w)

pub unended_read : {A : Type 0} → (stage : Stage) (left now : Option (List ℕ)) (last : Stage) (more : ℕ) (r : Result (Recovered A) RecoveryFault)
    → ReadsWhole (rest_found stage) left now last more → IfErr r (λ f. f ≡ fault.UnendedState) → IfErr r (λ f. (telling : Telling) × (last ≡ InState telling))
    → IfErr r (λ f. (why : JournalFault) × (f ≡ as_recovery why) × EntriesReadUpTo stage left now why)
unended_read stage left now last more (Ok x) w is t = tt
unended_read stage left now last more (Err f) w is t = (journal.UnendedState, is, ends_within (rest_found stage) left now last more w t)

pub entries_left : (stage : Stage) (left now : Option (List ℕ)) (why : JournalFault) → ReadsToLine (rest_found stage) left now why → EntriesReadUpTo stage left now why
entries_left stage left now journal.OutOfMemory h = h
entries_left stage left now journal.ReadFault h = h
entries_left stage left now (journal.BadLine number) h = h
entries_left stage left now journal.UnendedState h = absurd h
entries_left stage left now journal.BeginsWithState h = h

-- ---- the clauses of a start

pub whole_end : {A : Type 0} → (header : Header) (old new : Option (List ℕ)) (r : Result (Recovered A) RecoveryFault)
    → IfOk r (λ r. ReadsSite (reached header) old new (node_of r.node) r.whole) → OnOk r (IsAtEnd new)
whole_end header old new (Ok x) (stage, w, site) = w.end
whole_end header old new (Err f) w = tt

pub whole_all : {A : Type 0} → (header : Header) (old new : Option (List ℕ)) (r : Result (Recovered A) RecoveryFault)
    → IfOk r (λ r. ReadsSite (reached header) old new (node_of r.node) r.whole) → OnOk r (ReadsAll old new)
whole_all header old new (Ok x) (stage, w, site) = reads_all (reached header) old new stage x.whole w
whole_all header old new (Err f) w = tt

pub whole_found : (A : Type 0) (header : Header) (old new : Option (List ℕ)) (r : Result (Recovered A) RecoveryFault)
    → IfOk r (λ r. ReadsSite (reached header) old new (node_of r.node) r.whole) → IfOk r (λ r. r.is_new ≡ (r.whole == 0)) → IfErr r (ReadsUpTo header old new)
    → Recovers header old r
whole_found A header old new (Ok x) w empty left = recovers header old new x w empty
whole_found A header old new (Err f) w empty left = fails A header old new f left

abbrev pub of_numbers : ℕ → ℕ → ℕ → Option (List ℕ) → Header
of_numbers sites me pages cluster = record { sites = sites; me = me; pages = pages; cluster = cluster }

-- memory is missing before anything is read
pub nothing_read : (header : Header) (old : Option (List ℕ)) → BreaksAt (reached header) old old
nothing_read header old = record {
  before = [];
  line = [];
  over = [];
  taken = Consumes-nil old;
  sound = inl refl;
  unended = All-nil (λ byte. (byte == 10) ≡ false);
  short = omega arith;
  once = omega arith;
}
