-- What a site's journal leads to, through the entries of its lives, and where it is cut.
use Rattle.std.proofs.Common.{◌≡◌, ◌≤◌, ◌<◌, ◌⊎◌, inl, inr, ℕ, suc, ◌+◌, ◌-◌, ◌==◌, false, List, [], ◌∷◌, ◌++◌, Option, Some, None, cond, drop, length, take, refl, sym, ap, subst, ◌∙◌, append-nil, append_assoc, arith}
use Rattle.std.specs.List.{All}
use Rattle.std.specs.Prelude.{option_and_then, option_map}
use Rattle.std.proofs.lemmas.Bool.{cases_lt}
use Rattle.std.proofs.lemmas.List.{length-append, length-take, take-append-drop, take-append-le}
use Rattle.std.proofs.Math.Seq.{take-append-add, take-append_seam, take-nil}
use Rattle.std.proofs.lemmas.List.Elements.{All-append, All-nil, All-take}
use Rattle.shm_lines.proofs.StepLemmas.{some-is, step}
use Rattle.shm_process.proofs.Events.{entries-both, steps_both, text-both}
use Rattle.shm_process.proofs.FirstEvents.{first_events}
use Rattle.shm_process.proofs.Replays.{replays}
use Rattle.shm_process.specs.Node.{Node}
use Rattle.shm_process.specs.Recorded as process
use Rattle.shm_process.specs.Recorded.{Entry, Event, IsEntry, after_events, all_steps, entries_of, entries_text, entry_line, kept, replayed_all, steps_of}
use Rattle.shm_process.specs.Waiting.{replayed}
use Rattle.shm_journal.proofs.Beginnings.{Begins, IsAt, at-site, begins, begins_anew}
use Rattle.shm_journal.proofs.EntriesFit.{AreFit, IsFit, entries_fit}
use Rattle.shm_journal.proofs.EntryWords.{entry-is_read}
use Rattle.shm_journal.proofs.Fits.{Fits}
use Rattle.shm_journal.proofs.Leading.{counts-line, ended-says, line_is_torn, one_line}
use Rattle.shm_journal.specs.Begun.{Beginning, IsBeginning, IsKeptSite, KeptSite, anew, from_state, header_text, state_text}
use Rattle.shm_journal.specs.Found.{Lines, Sound, bytes_of_lines, found, found_behind, lines_of, max_journal_line, next_found, site_in}
use Rattle.shm_journal.specs.Lines.{Header, IsHeader}
use Rattle.shm_journal.specs.LinesOf.{Unended}
use Rattle.shm_journal.specs.Lives.{FindsLives, FindsLivesFrom, IsJournal, IsJournalFrom, IsLife, IsLives, IsOfTaken, IsTaken, after_lives}
use Rattle.shm_journal.specs.Stages.{Stage, Opened, InState, Open, first_taken, next_stage, replayed_entry}

-- ---- the entries of one life

pub shape : (line rest more : List ℕ) → (line ++ 10 ∷ rest) ++ more ≡ (line ++ 10 ∷ []) ++ (rest ++ more)
shape line rest more = append_assoc line (10 ∷ rest) more ∙ sym (append_assoc line (10 ∷ []) (rest ++ more))

entry-leads : (stage : Stage) (node next : Node) (entry : Entry) → IsAt stage node → IsFit entry → process.replayed_entry node entry ≡ Some next
    → next_stage stage (entry_line entry) ≡ Some (Open next)
unfolding replayed_entry
entry-leads (Opened first telling) node next entry at fit made =
    ap (first_taken first telling (entry_line entry)) (entry-is_read entry fit.0) ∙ ap (option_map Open) (ap (λ n. process.replayed_entry n entry) at ∙ made)
entry-leads (InState telling) node next entry at fit made = absurd at
entry-leads (Open first) node next entry at fit made =
    ap (option_map Open) (ap (replayed_entry first) (entry-is_read entry fit.0) ∙ ap (λ n. process.replayed_entry n entry) at ∙ made)

-- steps that were recorded, and others behind them
behind-step : (o : Option Node) (xs ys : List Entry)
    → ((n : Node) → replayed_all n (xs ++ ys) ≡ option_and_then (λ m. replayed_all m ys) (replayed_all n xs))
    → option_and_then (λ n. replayed_all n (xs ++ ys)) o ≡ option_and_then (λ m. replayed_all m ys) (option_and_then (λ n. replayed_all n xs) o)
behind-step None xs ys more = refl
behind-step (Some n) xs ys more = more n

replayed-both : (xs ys : List Entry) (node : Node) → replayed_all node (xs ++ ys) ≡ option_and_then (λ m. replayed_all m ys) (replayed_all node xs)
replayed-both [] ys node = refl
replayed-both (x ∷ xs) ys node = behind-step (replayed node x.clock x.cause) xs ys (λ n. replayed-both xs ys n)

-- they lead from where the first node stands to where the last does, and on from there, at a further line's number
record LeadsOn (number : ℕ) (stage : Stage) (final : Node) (bytes more : List ℕ) : Type 0 where
  pub later : ℕ
  pub after : Stage
  pub at : IsAt after final
  pub onward : found_behind next_stage number stage (bytes ++ more) ≡ found_behind next_stage later after more

no-more : (number : ℕ) (stage : Stage) (node final : Node) (more : List ℕ) → IsAt stage node → node ≡ final → LeadsOn number stage final [] more
no-more number stage node final more at same = record { later = number; after = stage; at = subst (IsAt stage) same at; onward = refl }

entries-lead : (entries : List Entry) (number : ℕ) (stage : Stage) (node final : Node) (more : List ℕ) → IsAt stage node → AreFit entries
    → replayed_all node (all_steps entries) ≡ Some final → LeadsOn number stage final (entries_text entries) more
entries-lead [] number stage node final more at fit made = no-more number stage node final more at (some-is node final made)
entries-lead (entry ∷ entries) number stage node final more at fit made =
    let steps = sym (replayed-both (steps_of entry) (all_steps entries) node) ∙ made in
    let s = step (process.replayed_entry node entry) (λ next. replayed_all next (all_steps entries)) final steps in
    let line = entry_line entry in
    let rest = entries_text entries in
    let on = entries-lead entries (number + 1) (Open s.value) s.value final more refl fit.1 s.gives in record {
      later = on.later;
      after = on.after;
      at = on.at;
      onward =
          ap (found_behind next_stage number stage) (shape line rest more)
          ∙ one_line next_stage number stage line (rest ++ more) fit.0.1.unended fit.0.1.short
          ∙ ap (λ o. next_found number o (λ after. found_behind next_stage (number + 1) after (rest ++ more))) (entry-leads stage node s.value entry at fit.0 s.gave)
          ∙ on.onward;
    }

-- ---- all lives

life-leads : (life : List Event) (text : List ℕ) (number : ℕ) (stage : Stage) (node : Node) (more : List ℕ) → kept node ≡ node → IsAt stage node → IsLife node life text
    → LeadsOn number stage (kept (after_events node life)) text more
life-leads life text number stage node more same at is =
    let next = kept (after_events node life) in
    let steps = ap (replayed_all node) is.steps ∙ ap (λ n. replayed_all n (entries_of node life)) (sym same) ∙ replays node life in
    let led = entries-lead is.entries number stage node next more at (entries_fit is.entries is.are is.taken) steps in
    subst (λ t. LeadsOn number stage next t more) (sym is.is) led

lives-lead : (lives : List (List Event)) (text : List ℕ) (number : ℕ) (stage : Stage) (node : Node) (more : List ℕ) → kept node ≡ node → IsAt stage node
    → IsLives node lives text → LeadsOn number stage (after_lives node lives) text more
lives-lead [] text number stage node more same at is =
    subst (λ t. LeadsOn number stage node t more) (sym is) (no-more number stage node node more at refl)
lives-lead (life ∷ lives) text number stage node more same at is =
    let next = kept (after_events node life) in
    let first = life-leads life is.0 number stage node (is.1 ++ more) same at is.3 in
    let others = lives-lead lives is.1 first.later first.after next more refl first.at is.4 in record {
      later = others.later;
      after = others.after;
      at = others.at;
      onward =
          ap (λ t. found_behind next_stage number stage (t ++ more)) is.2 ∙ ap (found_behind next_stage number stage) (append_assoc is.0 is.1 more)
          ∙ first.onward ∙ others.onward;
    }

-- entries of steps that lead from where a journal stands that begins so
pub steps_found : (b : Beginning) (entries : List Entry) (final : Node) (torn : List ℕ) → Begins b → AreFit entries
    → replayed_all b.node (all_steps entries) ≡ Some final → Fits max_journal_line torn
    → found b.header (b.text ++ (entries_text entries ++ torn)) ≡ Sound final
steps_found b entries final torn begins are made fits =
    let on = entries-lead entries begins.number begins.stage b.node final torn begins.at are made in
    ap site_in (begins.onward (entries_text entries ++ torn) ∙ on.onward ∙ ended-says next_stage on.later on.after torn fits.unended fits.short)
    ∙ at-site on.after final on.at

-- what it begins with, what stands behind that, and what is torn
with-torn : (first journal rest torn : List ℕ) → journal ≡ first ++ rest → journal ++ torn ≡ first ++ (rest ++ torn)
with-torn first journal rest torn e = ap (λ t. t ++ torn) e ∙ append_assoc first rest torn

journal-found : (b : Beginning) (lives : List (List Event)) (journal torn : List ℕ) → Begins b → IsJournalFrom b lives journal → Fits max_journal_line torn
    → found b.header (journal ++ torn) ≡ Sound (after_lives b.node lives)
journal-found b lives journal torn begins are fits =
    let text = are.0 in
    let on = lives-lead lives text begins.number begins.stage b.node torn begins.same begins.at are.2 in
    ap (found b.header) (with-torn b.text journal text torn are.1)
    ∙ ap site_in (begins.onward (text ++ torn) ∙ on.onward ∙ ended-says next_stage on.later on.after torn fits.unended fits.short)
    ∙ at-site on.after (after_lives b.node lives) on.at

-- ---- how many bytes are whole

abbrev counted : List ℕ → ℕ
counted bytes = bytes_of_lines (lines_of bytes).whole

none-before : (n : ℕ) → n ≡ 0 + n
none-before n = omega arith

with-line : (line rest : List ℕ) (n : ℕ) → length line + 1 + (length rest + n) ≡ length (line ++ 10 ∷ rest) + n
with-line line rest n = omega (arith, length-append line (10 ∷ rest))

with-text : (text rest : List ℕ) (n : ℕ) → length text + (length rest + n) ≡ length (text ++ rest) + n
with-text text rest n = omega (arith, length-append text rest)

entries-counted : (entries : List Entry) (more : List ℕ) → AreFit entries → counted (entries_text entries ++ more) ≡ length (entries_text entries) + counted more
entries-counted [] more fit = none-before (counted more)
entries-counted (entry ∷ entries) more fit =
    let line = entry_line entry in
    let rest = entries_text entries in
    ap counted (shape line rest more) ∙ counts-line line (rest ++ more) fit.0.1.unended
    ∙ ap (λ n. length line + 1 + n) (entries-counted entries more fit.1) ∙ with-line line rest (counted more)

life-counted : (life : List Event) (text : List ℕ) (node : Node) (more : List ℕ) → IsLife node life text → counted (text ++ more) ≡ length text + counted more
life-counted life text node more is =
    ap (λ t. counted (t ++ more)) is.is ∙ entries-counted is.entries more (entries_fit is.entries is.are is.taken)
    ∙ ap (λ t. length t + counted more) (sym is.is)

lives-counted : (lives : List (List Event)) (text : List ℕ) (node : Node) (more : List ℕ) → IsLives node lives text → counted (text ++ more) ≡ length text + counted more
lives-counted [] text node more is = ap (λ t. counted (t ++ more)) is ∙ none-before (counted more) ∙ ap (λ (t : List ℕ). length t + counted more) (sym is)
lives-counted (life ∷ lives) text node more is =
    ap (λ t. counted (t ++ more)) is.2 ∙ ap counted (append_assoc is.0 is.1 more) ∙ life-counted life is.0 node (is.1 ++ more) is.3
    ∙ ap (λ n. length is.0 + n) (lives-counted lives is.1 (kept (after_events node life)) more is.4)
    ∙ with-text is.0 is.1 (counted more) ∙ ap (λ (t : List ℕ). length t + counted more) (sym is.2)

with-first : (first text : List ℕ) → length first + (length text + 0) ≡ length (first ++ text)
with-first first text = omega (arith, length-append first text)

journal-counted : (b : Beginning) (lives : List (List Event)) (journal torn : List ℕ) → Begins b → IsJournalFrom b lives journal → Unended torn
    → counted (journal ++ torn) ≡ length journal
journal-counted b lives journal torn begins are unended =
    let text = are.0 in
    let none : counted torn ≡ 0 = ap (λ (l : Lines). bytes_of_lines l.whole) (line_is_torn torn unended) in
    ap counted (with-torn b.text journal text torn are.1) ∙ begins.counted (text ++ torn)
    ∙ ap (λ n. length b.text + n) (lives-counted lives text b.node torn are.2 ∙ ap (λ n. length text + n) none)
    ∙ with-first b.text text ∙ ap (λ (t : List ℕ). length t) (sym are.1)

pub finds_lives_from : (b : Beginning) (lives : List (List Event)) (journal torn : List ℕ) → Begins b → IsJournalFrom b lives journal → Fits max_journal_line torn
    → FindsLivesFrom b lives journal (journal ++ torn)
finds_lives_from b lives journal torn begins are fits = record {
  is = are;
  torn = torn;
  text = refl;
  unended = fits.unended;
  sound = journal-found b lives journal torn begins are fits;
  whole =
      ap (λ n. take n (journal ++ torn)) (journal-counted b lives journal torn begins are fits.unended) ∙ take-append_seam journal torn;
}

pub finds_lives : (header : Header) (lives : List (List Event)) (journal torn : List ℕ) → IsHeader header → IsJournal header lives journal → Fits max_journal_line torn
    → FindsLives header lives journal (journal ++ torn)
finds_lives header lives journal torn is are fits = finds_lives_from (anew header) lives journal torn (begins_anew header is) are fits

-- ---- a journal that is whole

pub nothing-torn : Fits max_journal_line []
nothing-torn = record { unended = All-nil (λ byte. (byte == 10) ≡ false); short = omega arith }

pub finds_whole_from : (b : Beginning) (lives : List (List Event)) (journal : List ℕ) → IsBeginning b → IsJournalFrom b lives journal → FindsLivesFrom b lives journal journal
finds_whole_from b lives journal is are =
    subst (FindsLivesFrom b lives journal) (append-nil journal) (finds_lives_from b lives journal [] (begins b is) are nothing-torn)

pub finds_whole : (header : Header) (lives : List (List Event)) (journal : List ℕ) → IsHeader header → IsJournal header lives journal → FindsLives header lives journal journal
finds_whole header lives journal is are = finds_whole_from (anew header) lives journal (is, inl refl) are

-- a state alone is a journal of no life
pub state_found : (header : Header) (site : KeptSite) (node : Node) → IsHeader header → IsKeptSite header site node
    → found header (header_text header ++ state_text site) ≡ Sound node
state_found header site node is kept =
    let b = from_state header site node in
    let whole : IsJournalFrom b [] b.text = ([], sym (append-nil b.text), refl) in
    (finds_whole_from b [] b.text (is, inr (site, kept, refl)) whole).sound

-- ---- a life that goes on

pub life_begins : (node : Node) → IsLife node [] []
life_begins node = record { entries = []; are = All-nil IsEntry; taken = All-nil IsOfTaken; is = refl; steps = refl }

pub life_both : (node : Node) (life next : List Event) (text more : List ℕ) → IsLife node life text → IsLife (after_events node life) next more
    → IsLife node (life ++ next) (text ++ more)
life_both node life next text more a b = record {
  entries = a.entries ++ b.entries;
  are = All-append IsEntry a.entries b.entries a.are b.are;
  taken = All-append IsOfTaken a.entries b.entries a.taken b.taken;
  is = ap (λ t. t ++ more) a.is ∙ ap (λ t. entries_text a.entries ++ t) b.is ∙ sym (text-both a.entries b.entries);
  steps =
      steps_both a.entries b.entries ∙ ap (λ s. s ++ all_steps b.entries) a.steps ∙ ap (λ s. entries_of node life ++ s) b.steps
      ∙ sym (entries-both life next node);
}

-- one life more
lives-last : (lives : List (List Event)) (node : Node) (life : List Event) (text more : List ℕ) → IsLives node lives text → IsLife (after_lives node lives) life more
    → IsLives node (lives ++ life ∷ []) (text ++ more)
lives-last [] node life text more is last = (more, [], ap (λ t. t ++ more) is ∙ sym (append-nil more), last, refl)
lives-last (first ∷ lives) node life text more is last =
    let next = kept (after_events node first) in
    (is.0, is.1 ++ more, ap (λ t. t ++ more) is.2 ∙ append_assoc is.0 is.1 more, is.3, lives-last lives next life is.1 more is.4 last)

pub journal_last : (b : Beginning) (lives : List (List Event)) (life : List Event) (journal more : List ℕ) → IsJournalFrom b lives journal
    → IsLife (after_lives b.node lives) life more → IsJournalFrom b (lives ++ life ∷ []) (journal ++ more)
journal_last b lives life journal more is last =
    (is.0 ++ more, with-torn b.text journal is.0 more is.1, lives-last lives b.node life is.0 more is.2 last)

-- ---- a front of the entries of one life

-- the entries of the first events, and what may be the front of one more
pub record Cut (node : Node) (events : List Event) (bytes : List ℕ) : Type 0 where
  pub front : List Event
  pub taken : All IsTaken front
  pub whole : List ℕ
  pub is : IsLife node front whole
  pub torn : List ℕ
  pub text : bytes ≡ whole ++ torn
  pub fits : Fits max_journal_line torn

pub fits-front : (n : ℕ) (line : List ℕ) → Fits max_journal_line line → Fits max_journal_line (take n line)
fits-front n line fits = record {
  unended = All-take (λ byte. (byte == 10) ≡ false) n line fits.unended;
  short = omega (arith, length-take n line, fits.short);
}

-- so many bytes are within the first line, or so many more are behind it
pub within-line : (n : ℕ) (line rest : List ℕ)
    → (take n (line ++ 10 ∷ rest) ≡ take n line) ⊎ ((m : ℕ) × (take n (line ++ 10 ∷ rest) ≡ line ++ 10 ∷ take m rest))
within-line n line rest = go (cases_lt (length line) n)
  where
    behind : (length line < n) → length line + suc (n - (length line + 1)) ≡ n
    behind h = omega (arith, h)

    go : (length line < n) ⊎ (n ≤ length line) → (take n (line ++ 10 ∷ rest) ≡ take n line) ⊎ ((m : ℕ) × (take n (line ++ 10 ∷ rest) ≡ line ++ 10 ∷ take m rest))
    go (inl h) = inr (n - (length line + 1), ap (λ k. take k (line ++ 10 ∷ rest)) (sym (behind h)) ∙ take-append-add line (10 ∷ rest) (suc (n - (length line + 1))))
    go (inr h) = inl (take-append-le n line (10 ∷ rest) h)

-- whole entries, and what may be the front of one more
record CutAt (entries : List Entry) (bytes : List ℕ) : Type 0 where
  count : ℕ
  torn : List ℕ
  text : bytes ≡ entries_text (take count entries) ++ torn
  fits : Fits max_journal_line torn

cut-line : (entry : Entry) (entries : List Entry) (n : ℕ) → IsFit entry → ((m : ℕ) → CutAt entries (take m (entries_text entries)))
    → CutAt (entry ∷ entries) (take n (entries_text (entry ∷ entries)))
cut-line entry entries n fit more =
    let line = entry_line entry in
    elim (within-line n line (entries_text entries)) [
      | inl h ↦ record { count = 0; torn = take n line; text = h; fits = fits-front n line fit.1 }
      | inr h ↦
          let c = more h.0 in
          record {
            count = suc c.count;
            torn = c.torn;
            text = h.1 ∙ ap (λ t. line ++ 10 ∷ t) c.text ∙ sym (append_assoc line (10 ∷ entries_text (take c.count entries)) c.torn);
            fits = c.fits;
          }
    ]

cut-entries : (entries : List Entry) (n : ℕ) → AreFit entries → CutAt entries (take n (entries_text entries))
cut-entries [] n fit = record { count = 0; torn = []; text = take-nil n; fits = nothing-torn }
cut-entries (entry ∷ entries) n fit = cut-line entry entries n fit.0 (λ m. cut-entries entries m fit.1)

-- a whole entry brings all its steps
pub cut_life : (node : Node) (events : List Event) (text : List ℕ) (n : ℕ) → All IsTaken events → IsLife node events text → Cut node events (take n text)
cut_life node events text n taken is =
    let c = cut-entries is.entries n (entries_fit is.entries is.are is.taken) in
    let front = take c.count is.entries in
    let rest = drop c.count is.entries in
    let parts : entries_of node events ≡ all_steps front ++ all_steps rest =
    sym is.steps ∙ ap all_steps (sym (take-append-drop c.count is.entries)) ∙ steps_both front rest in
    let f = first_events events node (all_steps front) (all_steps rest) parts in
    record {
      front = take f.0 events;
      taken = All-take IsTaken f.0 events taken;
      whole = entries_text front;
      is = record {
        entries = front;
        are = All-take IsEntry c.count is.entries is.are;
        taken = All-take IsOfTaken c.count is.entries is.taken;
        is = refl;
        steps = sym f.1;
      };
      torn = c.torn;
      text = ap (take n) is.is ∙ c.text;
      fits = c.fits;
    }
