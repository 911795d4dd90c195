-- What is found in the journal of a site's lives, by an audit and by who sums it up: the same as by the site itself.
use Rattle.std.proofs.Common.{◌≡◌, ◌≤◌, ℕ, ◌+◌, Bool, true, false, List, [], ◌∷◌, ◌++◌, Option, Some, None, cond, length, nat_lt, refl, sym, ap, ◌∙◌, append_assoc, arith}
use Rattle.std.specs.Prelude.{option_and_then, option_map}
use Rattle.std.proofs.lemmas.Bool.Decides.{nat_tests}
use Rattle.shm_lines.proofs.StepLemmas.{some-is, step}
use Rattle.shm_process.specs.Node.{Node}
use Rattle.shm_process.specs.Recorded.{Entry, Event, entries_text, entry_line}
use Rattle.shm_journal.proofs.EntriesFit.{AreFit, IsFit}
use Rattle.shm_journal.proofs.EntryWords.{entry-is_read}
use Rattle.shm_journal.proofs.Fits.{Fits, fits-header}
use Rattle.shm_journal.proofs.HeaderWords.{header-is_read}
use Rattle.shm_journal.proofs.Leading.{ended-says, line_is_torn, one-first, one_line}
use Rattle.shm_journal.proofs.Lives.{finds_lives, finds_whole}
use Rattle.shm_journal.proofs.Beginnings.{own-header}
use Rattle.shm_journal.specs.Found.{Found, Sound, Foreign, Bad, Partial, Kind, Lines, found, found_behind, found_from, found_of, is_long, max_journal_line, next_found, opened, own, site_in, then_found}
use Rattle.shm_journal.specs.Stages.{Stage, begun, next_stage}
use Rattle.shm_journal.specs.Lines.{Header, IsHeader, header_line}
use Rattle.shm_journal.specs.LinesOf.{Unended}
use Rattle.shm_journal.specs.Lives.{FindsLives, IsJournal, after_lives, header_text}
use Rattle.shm_journal.specs.Summed as summed
use Rattle.shm_journal.specs.Summed.{found_any}
use Rattle.shm_logs.specs.Boxes.Box.{Box}
use Rattle.shm_audit.proofs.Lived.{lives_follow, lives_recorded}
use Rattle.shm_audit.proofs.Tellings.{box_at, entries-are}
use Rattle.shm_audit.specs.Entered.{box_after_all, box_after_entries, box_after_entry}
use Rattle.shm_audit.specs.Found as audit
use Rattle.shm_audit.specs.Found.{Log, entered_or_cut, in_limits, next_reading, whole_log}
use Rattle.shm_audit.specs.Lived.{FindsLog, first_box}

-- ---- the first line

pub header-leads : {T : Type 0} → (kind : Kind T) (header : Header) (state : T) (more : List ℕ) → IsHeader header → kind.first (header_line header) ≡ Sound state
    → found_of kind (header_text header ++ more) ≡ found_behind kind.next 2 state more
header-leads kind header state more is first =
    let line = fits-header header is in
    one-first kind (header_line header) more line.unended line.short ∙ ap (λ f. then_found f (λ state. found_behind kind.next 2 state more)) first

pub any-header : (header : Header) → IsHeader header → in_limits header ≡ true → summed.any.first (header_line header) ≡ Sound (begun header)
any-header header is limits =
    ap (λ o. summed.first_found (option_and_then summed.begun_if o)) (header-is_read header is)
    ∙ ap (λ b. summed.first_found (cond b (Some (begun header)) None)) limits

pub box-header : (header : Header) → IsHeader header → in_limits header ≡ true → audit.any.first (header_line header) ≡ Sound (Log (first_box header))
box-header header is limits =
    ap (λ o. audit.first_found (option_and_then audit.box_if o)) (header-is_read header is)
    ∙ ap (λ b. audit.first_found (cond b (Some (first_box header)) None)) limits

-- ---- the entries

shape : (line rest more : List ℕ) → (line ++ 10 ∷ rest) ++ more ≡ (line ++ 10 ∷ []) ++ (rest ++ more)
shape line rest more = append_assoc line (10 ∷ rest) more ∙ sym (append_assoc line (10 ∷ []) (rest ++ more))

-- one entry, and what follows it
one-entry : {T : Type 0} → (next : T → List ℕ → Option T) (number : ℕ) (state : T) (entry : Entry) (rest more : List ℕ) → IsFit entry
    → found_behind next number state ((entry_line entry ++ 10 ∷ rest) ++ more)
    ≡ next_found number (next state (entry_line entry)) (λ after. found_behind next (number + 1) after (rest ++ more))
one-entry next number state entry rest more fit =
    let line = entry_line entry in
    ap (found_behind next number state) (shape line rest more) ∙ one_line next number state line (rest ++ more) fit.1.unended fit.1.short

-- they lead a box where their steps do, and on from there, at a further line's number
abbrev LeadsOn : ℕ → Box → Box → List ℕ → List ℕ → Type 0
LeadsOn number box final bytes more =
    (later : ℕ) × (found_behind next_reading number (Log box) (bytes ++ more) ≡ found_behind next_reading later (Log final) more)

entries-lead : (entries : List Entry) (number : ℕ) (box final : Box) (more : List ℕ) → AreFit entries → box_after_entries box entries ≡ Some final
    → LeadsOn number box final (entries_text entries) more
entries-lead [] number box final more fit made = (number, ap (λ b. found_behind next_reading number (Log b) more) (some-is box final made))
entries-lead (entry ∷ entries) number box final more fit made =
    let s = step (box_after_entry box entry) (λ next. box_after_entries next entries) final made in
    let taken : next_reading (Log box) (entry_line entry) ≡ Some (Log s.value) =
    ap (entered_or_cut box (entry_line entry)) (entry-is_read entry fit.0.0) ∙ ap (option_map Log) s.gave in
    let later = entries-lead entries (number + 1) s.value final more fit.1 s.gives in (
      later.0,
      one-entry next_reading number (Log box) entry (entries_text entries) more fit.0
          ∙ ap (λ o. next_found number o (λ after. found_behind next_reading (number + 1) after (entries_text entries ++ more))) taken
          ∙ later.1,
    )

-- ---- what is torn

pub led-on : {T : Type 0} → (number : ℕ) (next : Option T) (onward : T → Found T) (final : T) → next_found number next onward ≡ Sound final
    → (after : T) × (onward after ≡ Sound final)
led-on number None onward final e = absurd (cc)
led-on number (Some after) onward final e = (after, e)

not-long : {T : Type 0} → (number : ℕ) (state final : T) (long : Bool) → cond long (Bad number) (Sound state) ≡ Sound final → long ≡ false
not-long number state final true e = absurd (cc)
not-long number state final false e = refl

-- behind entries that are found sound it isn't too long for a line
torn-short : {T : Type 0} → (next : T → List ℕ → Option T) (entries : List Entry) (number : ℕ) (state final : T) (torn : List ℕ) → AreFit entries → Unended torn
    → found_behind next number state (entries_text entries ++ torn) ≡ Sound final → is_long torn ≡ false
unfolding found_from
torn-short next [] number state final torn fit unended e =
    not-long number state final (is_long torn)
    (sym (ap (λ (l : Lines). found_from next number state l.whole l.torn) (line_is_torn torn unended)) ∙ e)
torn-short next (entry ∷ entries) number state final torn fit unended e =
    let on = led-on number (next state (entry_line entry)) (λ after. found_behind next (number + 1) after (entries_text entries ++ torn)) final
    (sym (one-entry next number state entry (entries_text entries) torn fit.0) ∙ e) in
    torn-short next entries (number + 1) on.0 final torn fit.1 unended on.1

-- where a site is found, the lines lead on
pub site-from : (x : Found Stage) (node : Node) → site_in x ≡ Sound node → (stage : Stage) × (x ≡ Sound stage)
site-from (Sound stage) node e = (stage, refl)
site-from Foreign node e = absurd (cc)
site-from (Bad number) node e = absurd (cc)
site-from Partial node e = absurd (cc)

few : (n : ℕ) → nat_lt 8218 n ≡ false → n ≤ 8218
few n h = grind (arith, nat_tests)

-- ---- a file that the site finds sound

behind-header : (header : Header) (lives : List (List Event)) (journal file : List ℕ) (f : FindsLives header lives journal file)
    → file ≡ header_text header ++ (f.is.0 ++ f.torn)
behind-header header lives journal file f = f.text ∙ ap (λ t. t ++ f.torn) f.is.1 ∙ append_assoc (header_text header) f.is.0 f.torn

-- behind its header it leads to the site after these lives
leads-site : (header : Header) (lives : List (List Event)) (journal file : List ℕ) → IsHeader header → (f : FindsLives header lives journal file)
    → site_in (found_behind next_stage 2 (begun header) (f.is.0 ++ f.torn)) ≡ Sound (after_lives (opened header) lives)
leads-site header lives journal file is f =
    sym (ap site_in (header-leads (own header) header (begun header) (f.is.0 ++ f.torn) is (own-header header)))
    ∙ sym (ap (found header) (behind-header header lives journal file f)) ∙ f.sound

torn-fits : (header : Header) (lives : List (List Event)) (journal file : List ℕ) → IsHeader header → (f : FindsLives header lives journal file)
    → Fits max_journal_line f.torn
torn-fits header lives journal file is f =
    let r = lives_recorded lives (opened header) f.is.0 f.is.2 in
    let on = site-from (found_behind next_stage 2 (begun header) (f.is.0 ++ f.torn)) (after_lives (opened header) lives) (leads-site header lives journal file is f) in
    let led = sym (ap (λ t. found_behind next_stage 2 (begun header) (t ++ f.torn)) r.is) ∙ on.1 in
    record {
      unended = f.unended;
      short = few (length f.torn) (torn-short next_stage r.entries 2 (begun header) on.0 f.torn r.fit f.unended led);
    }

pub log_found : (header : Header) (lives : List (List Event)) (journal file : List ℕ) → IsHeader header → in_limits header ≡ true
    → FindsLives header lives journal file → FindsLog header lives file
log_found header lives journal file is limits f =
    let first = first_box header in
    let r = lives_recorded lives (opened header) f.is.0 f.is.2 in
    let went = lives_follow lives (opened header) header.pages [] in
    let box = box_at (after_lives (opened header) lives) header.pages went.logged in
    let made : box_after_entries first r.entries ≡ Some box = entries-are r.entries first ∙ ap (box_after_all first) r.steps ∙ went.goes in
    let led = entries-lead r.entries 2 first box f.torn r.fit made in
    let fits = torn-fits header lives journal file is f in
    record {
      box = box;
      sound =
          ap audit.found (behind-header header lives journal file f)
          ∙ ap whole_log (header-leads audit.any header (Log first) (f.is.0 ++ f.torn) is (box-header header is limits)
          ∙ ap (λ t. found_behind next_reading 2 (Log first) (t ++ f.torn)) r.is ∙ led.1 ∙ ended-says next_reading led.0 (Log box) f.torn fits.unended fits.short);
      steps = went.goes;
      site = refl;
      clock = refl;
      told = went.tells;
    }

pub site_found : (header : Header) (lives : List (List Event)) (journal file : List ℕ) → IsHeader header → in_limits header ≡ true
    → FindsLives header lives journal file → found_any file ≡ Sound (after_lives (opened header) lives)
site_found header lives journal file is limits f =
    ap found_any (behind-header header lives journal file f)
    ∙ ap site_in (header-leads summed.any header (begun header) (f.is.0 ++ f.torn) is (any-header header is limits)) ∙ leads-site header lives journal file is f

-- ---- a journal, and what is torn behind it

pub log_whole : (header : Header) (lives : List (List Event)) (journal : List ℕ) → IsHeader header → in_limits header ≡ true → IsJournal header lives journal
    → FindsLog header lives journal
log_whole header lives journal is limits are = log_found header lives journal journal is limits (finds_whole header lives journal is are)

pub log_torn : (header : Header) (lives : List (List Event)) (journal torn : List ℕ) → IsHeader header → in_limits header ≡ true → IsJournal header lives journal
    → Unended torn → length torn ≤ max_journal_line → FindsLog header lives (journal ++ torn)
log_torn header lives journal torn is limits are unended short =
    log_found header lives journal (journal ++ torn) is limits (finds_lives header lives journal torn is are (record { unended = unended; short = short }))

pub site_whole : (header : Header) (lives : List (List Event)) (journal : List ℕ) → IsHeader header → in_limits header ≡ true → IsJournal header lives journal
    → found_any journal ≡ Sound (after_lives (opened header) lives)
site_whole header lives journal is limits are = site_found header lives journal journal is limits (finds_whole header lives journal is are)

pub site_torn : (header : Header) (lives : List (List Event)) (journal torn : List ℕ) → IsHeader header → in_limits header ≡ true → IsJournal header lives journal
    → Unended torn → length torn ≤ max_journal_line → found_any (journal ++ torn) ≡ Sound (after_lives (opened header) lives)
site_torn header lives journal torn is limits are unended short =
    site_found header lives journal (journal ++ torn) is limits (finds_lives header lives journal torn is are (record { unended = unended; short = short }))
