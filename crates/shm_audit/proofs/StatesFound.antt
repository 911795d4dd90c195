-- What is found in a journal that begins with a state: by an audit no whole log, and by who sums it up the same as by the site itself.
use Rattle.std.proofs.Common.{◌≡◌, ◌⊎◌, inl, inr, ℕ, ◌+◌, Bool, true, false, List, [], ◌∷◌, ◌++◌, Option, Some, None, cond, refl, sym, ap, subst, ◌∙◌, append-nil, append_assoc}
use Rattle.std.specs.List.{All}
use Rattle.std.proofs.lemmas.List.Elements.{All-head}
use Rattle.shm_process.specs.Node.{Node}
use Rattle.shm_process.specs.Recorded.{Entry, Event}
use Rattle.shm_state.specs.Part.{Part, Requests, Calls, Outstanding, Segment, Missing, Kept, Entry as EntryPart, Purged, Attachment, Book}
use Rattle.shm_journal.proofs.Beginnings.{own-header}
use Rattle.shm_journal.proofs.Leading.{one_line}
use Rattle.shm_journal.proofs.StateFits.{state_fits}
use Rattle.shm_journal.proofs.StateLeads.{first_lines, lines_are, lines_end}
use Rattle.shm_journal.proofs.StateWords.{state-is_read, state-no_entry}
use Rattle.shm_journal.specs.Begun.{Beginning, BeginsWithState, IsBeginning, IsKeptSite, KeptSite, anew, header_text, lines_text, state_text}
use Rattle.shm_journal.specs.Found.{Found, Sound, Bad, Partial, found, found_behind, found_from, is_long, lines_of, next_found, own, site_in}
use Rattle.shm_journal.specs.Lines.{Header, IsHeader, read_entry}
use Rattle.shm_journal.specs.Lives.{FindsLivesFrom, after_lives}
use Rattle.shm_journal.specs.Stages.{Stage, begun, next_stage}
use Rattle.shm_journal.specs.StateLines.{StateLine, OfPart, OfMapping, OfEnding, IsStateLine, state_line}
use Rattle.shm_journal.specs.Summed as summed
use Rattle.shm_journal.specs.Summed.{found_any}
use Rattle.shm_audit.proofs.LivesFound.{any-header, box-header, header-leads, led-on, site-from}
use Rattle.shm_audit.specs.Found as audit
use Rattle.shm_audit.specs.Found.{Reading, Log, Cut, begins_as_state, entered_or_cut, in_limits, next_reading, whole_log}
use Rattle.shm_audit.specs.Lived.{first_box}

-- ---- who sums it up

-- a header that an audit reads is any site's
any-own : (header : Header) (more : List ℕ) → IsHeader header → in_limits header ≡ true → found_any (header_text header ++ more) ≡ found header (header_text header ++ more)
any-own header more is limits =
    ap site_in (header-leads summed.any header (begun header) more is (any-header header is limits))
    ∙ sym (ap site_in (header-leads (own header) header (begun header) more is (own-header header)))

-- each beginning begins with its header
begins-so : (b : Beginning) → IsBeginning b → (rest : List ℕ) × (b.text ≡ header_text b.header ++ rest)
begins-so b is = go is.1
  where
    go : (b ≡ anew b.header) ⊎ BeginsWithState b → (rest : List ℕ) × (b.text ≡ header_text b.header ++ rest)
    go (inl same) = ([], ap (λ (x : Beginning). x.text) same ∙ sym (append-nil (header_text b.header)))
    go (inr state) = (state_text state.0, ap (λ (x : Beginning). x.text) state.2)

behind-header : (b : Beginning) (lives : List (List Event)) (journal file : List ℕ) (rest : List ℕ) → b.text ≡ header_text b.header ++ rest → (f : FindsLivesFrom b lives journal file)
    → file ≡ header_text b.header ++ (rest ++ (f.is.0 ++ f.torn))
behind-header b lives journal file rest begins f =
    f.text ∙ ap (λ t. t ++ f.torn) f.is.1 ∙ append_assoc b.text f.is.0 f.torn ∙ ap (λ t. t ++ (f.is.0 ++ f.torn)) begins
    ∙ append_assoc (header_text b.header) rest (f.is.0 ++ f.torn)

pub site_found_from : (b : Beginning) (lives : List (List Event)) (journal file : List ℕ) → IsBeginning b → in_limits b.header ≡ true
    → FindsLivesFrom b lives journal file → found_any file ≡ Sound (after_lives b.node lives)
site_found_from b lives journal file is limits f =
    let begins = begins-so b is in
    let more = begins.0 ++ (f.is.0 ++ f.torn) in
    let same = behind-header b lives journal file begins.0 begins.1 f in
    ap found_any same ∙ any-own b.header more is.0 limits ∙ sym (ap (found b.header) same) ∙ f.sound

-- ---- an audit

-- each line of a state begins so
begins_part : (part : Part) → begins_as_state (state_line (OfPart part)) ≡ true
begins_part (Requests number) = refl
begins_part (Calls number) = refl
begins_part (Outstanding number op) = refl
begins_part (Segment g) = refl
begins_part (Missing purge) = refl
begins_part (Kept site number reply) = refl
begins_part (EntryPart page entry) = refl
begins_part (Purged id) = refl
begins_part (Attachment number a) = refl
begins_part (Book page book) = refl

begins_line : (line : StateLine) → begins_as_state (state_line line) ≡ true
begins_line (OfPart part) = begins_part part
begins_line (OfMapping m) = refl
begins_line (OfEnding ending) = refl

-- it is none that a log goes on with
cut-read : (header : Header) (line : StateLine) (read : Option Entry) → read ≡ None → entered_or_cut (first_box header) (state_line line) read ≡ Some Cut
cut-read header line (Some entry) none = absurd (cc)
cut-read header line None none = ap (λ b. cond b (Some Cut) None) (begins_line line)

cut-line : (header : Header) (line : StateLine) → IsStateLine line → next_reading (Log (first_box header)) (state_line line) ≡ Some Cut
cut-line header line is =
    cut-read header line (read_entry (state_line line)) (state-no_entry (state_line line) line (state-is_read line is))

-- where lines lead on, an audit passes over them behind a state
torn-passes : {T : Type 0} → (number later : ℕ) (state final : T) (long : Bool) → cond long (Bad number) (Sound state) ≡ Sound final
    → cond long (Bad later) (Sound Cut) ≡ Sound Cut
torn-passes number later state final true h = absurd (cc)
torn-passes number later state final false h = refl

line-passes : {T : Type 0} → (number later : ℕ) (final : T) (long : Bool) (next : Option T) (onward : T → Found T) (passed : Found Reading)
    → cond long (Bad number) (next_found number next onward) ≡ Sound final → ((after : T) → onward after ≡ Sound final → passed ≡ Sound Cut)
    → cond long (Bad later) passed ≡ Sound Cut
line-passes number later final true next onward passed h more = absurd (cc)
line-passes number later final false None onward passed h more = absurd (cc)
line-passes number later final false (Some after) onward passed h more = more after h

passes : {T : Type 0} → (next : T → List ℕ → Option T) (number later : ℕ) (state final : T) (lines : List (List ℕ)) (torn : List ℕ)
    → found_from next number state lines torn ≡ Sound final → found_from next_reading later Cut lines torn ≡ Sound Cut
unfolding found_from
passes next number later state final [] torn h = torn-passes number later state final (is_long torn) h
passes next number later state final (line ∷ lines) torn h =
    line-passes number later final (is_long line) (next state line) (λ after. found_from next (number + 1) after lines torn)
    (found_from next_reading (later + 1) Cut lines torn) h
    (λ after on. passes next (number + 1) (later + 1) after final lines torn on)

shape : (line rest more : List ℕ) → (line ++ 10 ∷ rest) ++ more ≡ (line ++ 10 ∷ []) ++ (rest ++ more)
shape line rest more = append_assoc line (10 ∷ rest) more ∙ sym (append_assoc line (10 ∷ []) (rest ++ more))

-- a state's first line, and what follows it
cut-first : (header : Header) (line : StateLine) (rest more : List ℕ) (stage : Stage) → IsStateLine line
    → found_behind next_stage 2 (begun header) ((state_line line ++ 10 ∷ rest) ++ more) ≡ Sound stage
    → found_behind next_reading 2 (Log (first_box header)) ((state_line line ++ 10 ∷ rest) ++ more) ≡ Sound Cut
cut-first header line rest more stage is led =
    let text = state_line line in
    let fits = state_fits line is in
    let behind = rest ++ more in
    let on = led-on 2 (next_stage (begun header) text) (λ after. found_behind next_stage 3 after behind) stage
    (sym (ap (found_behind next_stage 2 (begun header)) (shape text rest more) ∙ one_line next_stage 2 (begun header) text behind fits.unended fits.short) ∙ led) in
    ap (found_behind next_reading 2 (Log (first_box header))) (shape text rest more)
    ∙ one_line next_reading 2 (Log (first_box header)) text behind fits.unended fits.short
    ∙ ap (λ o. next_found 2 o (λ after. found_behind next_reading 3 after behind)) (cut-line header line is)
    ∙ passes next_stage 3 3 on.0 stage (lines_of behind).whole (lines_of behind).torn on.1

cut-state : (header : Header) (lines : List StateLine) (last : StateLine) (more : List ℕ) (stage : Stage) → All IsStateLine (lines ++ last ∷ [])
    → found_behind next_stage 2 (begun header) (lines_text (lines ++ last ∷ []) ++ more) ≡ Sound stage
    → found_behind next_reading 2 (Log (first_box header)) (lines_text (lines ++ last ∷ []) ++ more) ≡ Sound Cut
cut-state header [] last more stage are led = cut-first header last [] more stage (All-head IsStateLine last [] are) led
cut-state header (line ∷ lines) last more stage are led =
    cut-first header line (lines_text (lines ++ last ∷ [])) more stage (All-head IsStateLine line (lines ++ last ∷ []) are) led

-- so where the site itself finds it sound
cut-found : (header : Header) (site : KeptSite) (node : Node) (more : List ℕ) (found_there : Node) → IsHeader header → in_limits header ≡ true → IsKeptSite header site node
    → found header (header_text header ++ (state_text site ++ more)) ≡ Sound found_there → audit.found (header_text header ++ (state_text site ++ more)) ≡ Partial
cut-found header site node more found_there is limits kept sound =
    let rest = state_text site ++ more in
    let last = OfEnding site.ending in
    let led : site_in (found_behind next_stage 2 (begun header) rest) ≡ Sound found_there =
    sym (ap site_in (header-leads (own header) header (begun header) rest is (own-header header))) ∙ sound in
    let on = site-from (found_behind next_stage 2 (begun header) rest) found_there led in
    let text : state_text site ≡ lines_text (first_lines site ++ last ∷ []) = ap lines_text (lines_end site) in
    let cut = cut-state header (first_lines site) last more on.0 (subst (All IsStateLine) (lines_end site) (lines_are header site node kept))
    (sym (ap (λ t. found_behind next_stage 2 (begun header) (t ++ more)) text) ∙ on.1) in
    ap whole_log
    (
    header-leads audit.any header (Log (first_box header)) rest is (box-header header is limits)
    ∙ ap (λ t. found_behind next_reading 2 (Log (first_box header)) (t ++ more)) text ∙ cut
    )

pub no_whole_log : (b : Beginning) (lives : List (List Event)) (journal file : List ℕ) → IsBeginning b → BeginsWithState b → in_limits b.header ≡ true
    → FindsLivesFrom b lives journal file → audit.found file ≡ Partial
no_whole_log b lives journal file is state limits f =
    let more = f.is.0 ++ f.torn in
    let same = behind-header b lives journal file (state_text state.0) (ap (λ (x : Beginning). x.text) state.2) f in
    ap audit.found same
    ∙ cut-found b.header state.0 b.node more (after_lives b.node lives) is.0 limits state.1 (sym (ap (found b.header) same) ∙ f.sound)
