-- What a crash leaves of a journal, at each moment of a life.
use Rattle.std.proofs.Common.{◌≡◌, ◌≤◌, ◌<◌, ◌⊎◌, inl, inr, ℕ, zero, suc, false, List, [], ◌∷◌, ◌++◌, Ok, Err, cond, length, take, refl, sym, ap, subst, ◌∙◌, append-nil, append_assoc, arith}
use Rattle.std.specs.List.{All}
use Rattle.std.specs.Prelude.{None, Result}
use Rattle.std.proofs.lemmas.Bool.{cases_lt}
use Rattle.std.proofs.lemmas.List.{length-append, length-take-le, take-append-le, take_all}
use Rattle.std.proofs.Math.Seq.{take-nil}
use Rattle.std.proofs.lemmas.List.Elements.{All-append, All-nil, All-take}
use Rattle.std.proofs.lemmas.Slice.Eq.{bytes_eq-Decides}
use Rattle.shm_process.proofs.Events.{after-both}
use Rattle.shm_process.proofs.Proper as proper
use Rattle.shm_process.specs.Desk.{Desk, cleared, on_bytes, restarted}
use Rattle.shm_process.specs.declared.process_counts.Start.{Start}
use Rattle.shm_process.specs.Node.{Node, is_late}
use Rattle.shm_process.specs.Recorded.{Event, after_events}
use Rattle.shm_seal.specs.Seal.{Seal}
use Rattle.shm_journal.proofs.Beginnings.{Begins, begins, begins_anew}
use Rattle.shm_journal.proofs.CrashLemmas.{head-of, kept-disk, published-disk, tail-of}
use Rattle.shm_journal.proofs.DeskLives.{KeepsTaken, Took, keeps_none, line_bytes, line_restart, took_bytes, took_life, took_restart}
use Rattle.shm_journal.proofs.EntriesFit.{lives_sound, opened_sound}
use Rattle.shm_journal.proofs.Fits.{Fits, IsNoFeed, fits-header}
use Rattle.shm_journal.proofs.Leading.{alone-says, line_is_torn}
use Rattle.shm_journal.proofs.Lives.{Cut, cut_life, finds_lives_from, finds_whole, journal_last, life_begins, life_both}
use Rattle.shm_journal.specs.Begun.{Beginning, IsBeginning, anew}
use Rattle.shm_journal.specs.Acts.{Act, Append, IsRun, Read, Tell, keeping, publishing, run, serving, telling}
use Rattle.shm_journal.specs.Crash.{Disk, MayLeave, after_act, after_acts, disk_of}
use Rattle.shm_journal.specs.DeskFrom.{greeting_from, with_header}
use Rattle.shm_journal.specs.Found.{Bad, Lines, Sound, bytes_of_lines, max_journal_line, opened, own, site_in}
use Rattle.shm_journal.specs.Lines.{Header, IsHeader, header_line}
use Rattle.shm_journal.specs.LinesOf.{Unended}
use Rattle.shm_journal.specs.declared.process_error.ProcessFault.{ProcessFault}
use Rattle.shm_journal.specs.declared.service_stop.Stop.{Stop}
use Rattle.shm_journal.specs.declared.process_error.ProcessFault.TheVariants.{JournalFault, OutOfMemory, ReadFault, TooOld, WriteFault}
use Rattle.shm_journal.specs.Lives.{FindsLivesFrom, IsJournal, IsJournalFrom, IsLife, IsTaken, LeavesFront, LeavesLife, LeavesLifeFrom, LeavesNewSound, LeavesSound, LeavesSoundFrom, after_lives, header_text}
use Rattle.shm_journal.specs.Stages.{begun}

-- ---- at each moment

-- of the disk before each of these acts, and after the last
pub AtAll : (Disk → Type 0) → Disk → List Act → Type 0
AtAll P disk [] = P disk
AtAll P disk (act ∷ acts) = P disk × AtAll P (after_act disk act) acts

at-first : (P : Disk → Type 0) (disk : Disk) (acts : List Act) → AtAll P disk acts → P disk
unfolding AtAll
at-first P disk [] all = all
at-first P disk (act ∷ acts) all = all.0

no-act : (act : Act) (acts : List Act) → [] ≡ act ∷ acts → ⊥
no-act act acts e = cc

pub at-front : (P : Disk → Type 0) (before : List Act) (disk : Disk) (acts after : List Act) → acts ≡ before ++ after → AtAll P disk acts → P (after_acts disk before)
unfolding AtAll after_acts
at-front P [] disk acts after e all = at-first P disk acts all
at-front P (act ∷ before) disk [] after e all = absurd (no-act act (before ++ after) e)
at-front P (act ∷ before) disk (first ∷ acts) after e all =
    at-front P before (after_act disk act) acts after (tail-of e) (subst (λ a. AtAll P (after_act disk a) acts) (head-of e) all.1)

pub at-both : (P : Disk → Type 0) (xs ys : List Act) (disk : Disk) → AtAll P disk xs → AtAll P (after_acts disk xs) ys → AtAll P disk (xs ++ ys)
unfolding AtAll after_acts
at-both P [] ys disk first then = then
at-both P (x ∷ xs) ys disk first then = (first.0, at-both P xs ys (after_act disk x) first.1 then)

pub at-weaker : (P Q : Disk → Type 0) (acts : List Act) (disk : Disk) → ((d : Disk) → P d → Q d) → AtAll P disk acts → AtAll Q disk acts
unfolding AtAll
at-weaker P Q [] disk w all = w disk all
at-weaker P Q (act ∷ acts) disk w all = (w disk all.0, at-weaker P Q acts (after_act disk act) w all.1)

-- what is kept is appended, and then made durable
abbrev pub appended : List ℕ → List ℕ → Disk
appended durable text = record { durable = durable; loose = text }

at-keeping : (P : Disk → Type 0) (durable text : List ℕ) → P (disk_of durable) → P (appended durable text) → P (disk_of (durable ++ text))
    → AtAll P (disk_of durable) (keeping text)
unfolding AtAll
at-keeping P durable [] before loose after = before
at-keeping P durable (byte ∷ bytes) before loose after = (before, (loose, after))

at-telling : (P : Disk → Type 0) (text : List ℕ) (disk : Disk) → P disk → AtAll P disk (telling text)
unfolding AtAll
at-telling P [] disk is = is
at-telling P (byte ∷ bytes) disk is = (is, is)

pub at-publishing : (P : Disk → Type 0) (desk : Desk) (durable : List ℕ) → P (disk_of durable) → P (appended durable desk.recorded) → P (disk_of (durable ++ desk.recorded))
    → AtAll P (disk_of durable) (publishing desk)
at-publishing P desk durable before loose after =
    at-both P (keeping desk.recorded) (telling desk.told) (disk_of durable) (at-keeping P durable desk.recorded before loose after)
    (subst (λ d. AtAll P d (telling desk.told)) (sym (kept-disk desk.recorded durable)) (at-telling P desk.told (disk_of (durable ++ desk.recorded)) after))

-- ---- however a process ends

abbrev pub Leaves : (List ℕ → List ℕ → Type 0) → Disk → Type 0
Leaves R disk = (left : List ℕ) → MayLeave disk left → R disk.durable left

taken-twice : (j n : ℕ) (xs : List ℕ) → (k : ℕ) × (take j (take n xs) ≡ take k xs)
taken-twice zero n xs = (zero, refl)
taken-twice (suc j) zero xs = (zero, refl)
taken-twice (suc j) (suc n) [] = (zero, refl)
taken-twice (suc j) (suc n) (x ∷ xs) = let r = taken-twice j n xs in (suc r.0, ap (λ l. x ∷ l) r.1)

-- a front of what is there and a front of the rest is a front of all
front-of_both : (j n : ℕ) (xs ys : List ℕ) → (k : ℕ) × (take j (xs ++ take n ys) ≡ take k (xs ++ ys))
front-of_both zero n xs ys = (zero, refl)
front-of_both (suc j) n [] ys = taken-twice (suc j) n ys
front-of_both (suc j) n (x ∷ xs) ys = let r = front-of_both j n xs ys in (suc r.0, ap (λ l. x ∷ l) r.1)

-- less was appended
leaves-less : (R : List ℕ → List ℕ → Type 0) (disk : Disk) (text : List ℕ) (n : ℕ) → Leaves R (after_act disk (Append text)) → Leaves R (after_act disk (Append (take n text)))
leaves-less R disk text n all left may =
    let f = front-of_both may.0 n disk.loose text in all left (f.0, may.1 ∙ ap (λ t. disk.durable ++ t) f.1)

at-parts : (P : Disk → Type 0) (xs ys : List Act) (disk : Disk) → AtAll P disk (xs ++ ys) → AtAll P disk xs × AtAll P (after_acts disk xs) ys
unfolding AtAll after_acts
at-parts P [] ys disk all = (at-first P disk ys all, all)
at-parts P (x ∷ xs) ys disk all = let p = at-parts P xs ys (after_act disk x) all.1 in ((all.0, p.0), p.1)

at-last : (P : Disk → Type 0) (disk : Disk) (acts : List Act) → AtAll P disk acts → P (after_acts disk acts)
at-last P disk acts all = at-front P acts disk acts [] (sym (append-nil acts)) all

pub at-acts : (R : List ℕ → List ℕ → Type 0) (desk : Desk) (disk : Disk) → ((reads : List (List ℕ)) → AtAll (Leaves R) disk (run desk reads))
    → (result : Result Stop ProcessFault) (acts : List Act) → IsRun desk result acts → AtAll (Leaves R) disk acts
unfolding AtAll
at-acts R desk disk all (Ok end) acts (reads, sound, same) = subst (AtAll (Leaves R) disk) (sym same) (all reads)
at-acts R desk disk all (Err ReadFault) acts (reads, sound, same) = subst (AtAll (Leaves R) disk) (sym same) (all reads)
at-acts R desk disk all (Err OutOfMemory) acts (reads, bytes, sound, same) =
    let last = at-last (Leaves R) disk (run desk reads) (all reads) in
    subst (AtAll (Leaves R) disk) (sym same) (at-both (Leaves R) (run desk reads) (Read bytes ∷ []) disk (all reads) (last, last))
at-acts R desk disk all (Err (TooOld clock)) acts (reads, bytes, sound, same, later) =
    let last = at-last (Leaves R) disk (run desk reads) (all reads) in
    subst (AtAll (Leaves R) disk) (sym same) (at-both (Leaves R) (run desk reads) (Read bytes ∷ []) disk (all reads) (last, last))
at-acts R desk disk all (Err JournalFault) acts (reads, before, after, text, n, sound, is, same) =
    let p = at-parts (Leaves R) before (Append text ∷ after) disk (subst (AtAll (Leaves R) disk) is (all reads)) in
    let now = after_acts disk before in
    subst (AtAll (Leaves R) disk) (sym same)
    (
    at-both (Leaves R) before (Append (take n text) ∷ []) disk p.0
    (p.1.0, leaves-less R now text n (at-first (Leaves R) (after_act now (Append text)) after p.1.1))
    )
at-acts R desk disk all (Err WriteFault) acts (reads, before, text, n, sound, is, same) =
    let p = at-parts (Leaves R) before (Tell text ∷ []) disk (subst (AtAll (Leaves R) disk) is (all reads)) in
    subst (AtAll (Leaves R) disk) (sym same) (at-both (Leaves R) before (Tell (take n text) ∷ []) disk p.0 (p.1.0, p.1.0))

-- ---- a life

-- the entries of the first events are durable behind what the life began with, and those of the next are appended
pub record OnDisk (node : Node) (file : List ℕ) (disk : Disk) : Type 0 where
  pub life : List Event
  pub next : List Event
  pub life_taken : All IsTaken life
  pub next_taken : All IsTaken next
  pub text : List ℕ
  pub durable : disk.durable ≡ file ++ text
  pub is : IsLife node life text
  pub later : IsLife (after_events node life) next disk.loose

pub on-disk : (node : Node) (file text : List ℕ) (life : List Event) → All IsTaken life → IsLife node life text → OnDisk node file (disk_of (file ++ text))
on-disk node file text life taken is = record {
  life = life;
  next = [];
  life_taken = taken;
  next_taken = All-nil IsTaken;
  text = text;
  durable = refl;
  is = is;
  later = life_begins (after_events node life);
}

-- what a desk has recorded of further events is published
at-published : (node : Node) (file text : List ℕ) (life next : List Event) (desk : Desk) → All IsTaken life → All IsTaken next → IsLife node life text
    → IsLife (after_events node life) next desk.recorded → AtAll (OnDisk node file) (disk_of (file ++ text)) (publishing desk)
at-published node file text life next desk taken more is later =
    at-publishing (OnDisk node file) desk (file ++ text) (on-disk node file text life taken is)
    (record { life = life; next = next; life_taken = taken; next_taken = more; text = text; durable = refl; is = is; later = later })
    (
    subst (λ t. OnDisk node file (disk_of t)) (sym (append_assoc file text desk.recorded))
    (on-disk node file (text ++ desk.recorded) (life ++ next) (All-append IsTaken life next taken more) (life_both node life next text desk.recorded is later))
    )

published-text : (file text : List ℕ) (desk : Desk) → after_acts (disk_of (file ++ text)) (publishing desk) ≡ disk_of (file ++ (text ++ desk.recorded))
published-text file text desk = published-disk desk (file ++ text) ∙ ap disk_of (append_assoc file text desk.recorded)

-- a desk that has published what its node did since the life began
pub record Stands (node : Node) (life : List Event) (text : List ℕ) (desk : Desk) : Type 0 where
  pub taken : All IsTaken life
  pub is : IsLife node life text
  pub same : desk.node ≡ after_events node life
  pub none : desk.recorded ≡ []
  pub row : desk.row ≡ None
  pub unended : Unended desk.line
  pub held : KeepsTaken desk.kept

pub at-serving : (reads : List (List ℕ)) (node : Node) (file text : List ℕ) (life : List Event) (desk : Desk) → proper.Sound node → Stands node life text desk
    → AtAll (OnDisk node file) (disk_of (file ++ text)) (serving desk reads)
unfolding AtAll serving
at-serving [] node file text life desk sound s = on-disk node file text life s.taken s.is
at-serving (bytes ∷ reads) node file text life desk sound s =
    let next = on_bytes desk bytes in
    let t = took_bytes bytes desk s.unended s.held s.row in
    let now : proper.Sound desk.node = subst proper.Sound (sym s.same) (proper.events-sound life node sound) in
    let later : IsLife (after_events node life) t.events next.recorded = subst (λ n. IsLife n t.events next.recorded) s.same (took_life desk next t s.none now) in
    let on : next.node ≡ after_events node (life ++ t.events) = t.node ∙ ap (λ n. after_events n t.events) s.same ∙ sym (after-both life t.events node) in
    let both : Stands node (life ++ t.events) (text ++ next.recorded) (cleared next) = record {
      taken = All-append IsTaken life t.events s.taken t.are;
      is = life_both node life t.events text next.recorded s.is later;
      same = on;
      none = refl;
      row = t.tidy.1;
      unended = line_bytes bytes desk s.unended;
      held = t.tidy.0;
    } in (
      on-disk node file text life s.taken s.is,
      at-both (OnDisk node file) (publishing next) (serving (cleared next) reads) (disk_of (file ++ text))
          (at-published node file text life t.events next s.taken t.are s.is later)
          (
          subst (λ d. AtAll (OnDisk node file) d (serving (cleared next) reads)) (sym (published-text file text next))
          (at-serving reads node file (text ++ next.recorded) (life ++ t.events) (cleared next) sound both)
          ),
    )

at-run : (reads : List (List ℕ)) (header : Header) (seal : Seal) (node : Node) (start : Start) (file : List ℕ) (first : Desk) → proper.Sound node
    → Took (greeting_from header seal node start) first → Unended first.line
    → AtAll (OnDisk node file) (disk_of file) (run first reads)
at-run reads header seal node start file first sound t unended =
    let whole : file ++ [] ≡ file = append-nil file in
    let life : IsLife node t.events first.recorded = took_life (greeting_from header seal node start) first t refl sound in
    let stands : Stands node t.events first.recorded (cleared first) =
    record { taken = t.are; is = life; same = t.node; none = refl; row = t.tidy.1; unended = unended; held = t.tidy.0 } in
    subst (λ f. AtAll (OnDisk node file) (disk_of f) (run first reads)) whole
    (
    at-both (OnDisk node file) (publishing first) (serving (cleared first) reads) (disk_of (file ++ []))
    (at-published node file [] [] t.events first (All-nil IsTaken) t.are (life_begins node) life)
    (
    subst (λ d. AtAll (OnDisk node file) d (serving (cleared first) reads)) (sym (published-text file [] first))
    (at-serving reads node file first.recorded t.events (cleared first) sound stands)
    )
    )

-- ---- what is left

left-life : (b : Beginning) (lives : List (List Event)) (journal : List ℕ) (disk : Disk) (left : List ℕ) → Begins b → IsJournalFrom b lives journal
    → OnDisk (after_lives b.node lives) journal disk → MayLeave disk left → LeavesLifeFrom b lives disk.durable left
left-life b lives journal disk left begins are on may =
    let node = after_lives b.node lives in
    let cut : Cut (after_events node on.life) on.next (take may.0 disk.loose) = cut_life (after_events node on.life) on.next disk.loose may.0 on.next_taken on.later in
    let both = life_both node on.life cut.front on.text cut.whole on.is cut.is in
    let grown : disk.durable ++ cut.whole ≡ journal ++ (on.text ++ cut.whole) = ap (λ d. d ++ cut.whole) on.durable ∙ append_assoc journal on.text cut.whole in
    let found_journal : IsJournalFrom b (lives ++ (on.life ++ cut.front) ∷ []) (disk.durable ++ cut.whole) =
    subst (IsJournalFrom b (lives ++ (on.life ++ cut.front) ∷ [])) (sym grown)
    (journal_last b lives (on.life ++ cut.front) journal (on.text ++ cut.whole) are both) in
    let text : left ≡ (disk.durable ++ cut.whole) ++ cut.torn =
    may.1 ∙ ap (λ t. disk.durable ++ t) cut.text ∙ sym (append_assoc disk.durable cut.whole cut.torn) in
    record {
      life = on.life;
      more = cut.front;
      taken = All-append IsTaken on.life cut.front on.life_taken cut.taken;
      kept = subst (IsJournalFrom b (lives ++ on.life ∷ [])) (sym on.durable) (journal_last b lives on.life journal on.text are on.is);
      behind = cut.whole;
      finds = subst (FindsLivesFrom b (lives ++ (on.life ++ cut.front) ∷ []) (disk.durable ++ cut.whole)) (sym text)
          (finds_lives_from b (lives ++ (on.life ++ cut.front) ∷ []) (disk.durable ++ cut.whole) cut.torn begins found_journal cut.fits);
    }

pub leaves_sound_from : (b : Beginning) (lives : List (List Event)) (journal : List ℕ) → IsBeginning b → IsJournalFrom b lives journal
    → is_late (after_lives b.node lives) 0 ≡ false → LeavesSoundFrom b lives journal
leaves_sound_from b lives journal is are early seal start result acts before after left ran e may =
    let first = begins b is in
    let node = after_lives b.node lives in
    let sound = lives_sound lives b.node first.sound in
    let P = Leaves (LeavesLifeFrom b lives) in
    let desk = restarted (greeting_from b.header seal node start) in
    at-front P before (disk_of journal) acts after e
    (
    at-acts (LeavesLifeFrom b lives) desk (disk_of journal)
    (λ reads.
    at-weaker (OnDisk node journal) P (run desk reads) (disk_of journal)
    (λ disk on left may. left-life b lives journal disk left first are on may)
    (at-run reads b.header seal node start journal desk sound (took_restart b.header seal node start early)
    (line_restart b.header seal node start)))
    result acts ran
    )
    left may

pub leaves_sound : (header : Header) (lives : List (List Event)) (journal : List ℕ) → IsHeader header → IsJournal header lives journal
    → is_late (after_lives (opened header) lives) 0 ≡ false → LeavesSound header lives journal
leaves_sound header lives journal is are early = leaves_sound_from (anew header) lives journal (is, inl refl) are early

-- ---- a journal that is begun

-- nothing is durable yet
record IsBlank (header : Header) (disk : Disk) : Type 0 where
  pub durable : disk.durable ≡ []
  pub loose : (disk.loose ≡ []) ⊎ (disk.loose ≡ header_text header)

abbrev NewDisk : Header → Disk → Type 0
NewDisk header disk = IsBlank header disk ⊎ OnDisk (opened header) (header_text header) disk

at-new : (reads : List (List ℕ)) (seal : Seal) (header : Header) (start : Start)
    → AtAll (NewDisk header) (disk_of []) (run (with_header header (greeting_from header seal (opened header) start)) reads)
at-new reads seal header start =
    let node = opened header in
    let line = header_text header in
    let first = with_header header (greeting_from header seal node start) in
    let whole : line ++ [] ≡ line = append-nil line in
    let stands : Stands node [] [] (cleared first) = record {
      taken = All-nil IsTaken;
      is = life_begins node;
      same = refl;
      none = refl;
      row = refl;
      unended = All-nil IsNoFeed;
      held = keeps_none;
    } in
    let all : AtAll (OnDisk node line) (disk_of line) (serving (cleared first) reads) =
    subst (λ t. AtAll (OnDisk node line) (disk_of t) (serving (cleared first) reads)) whole
    (at-serving reads node line [] [] (cleared first) (opened_sound header) stands) in
    at-both (NewDisk header) (publishing first) (serving (cleared first) reads) (disk_of [])
    (
    at-publishing (NewDisk header) first [] (inl (record { durable = refl; loose = inl refl })) (inl (record { durable = refl; loose = inr refl }))
    (inr (subst (λ t. OnDisk node line (disk_of t)) whole (on-disk node line [] [] (All-nil IsTaken) (life_begins node))))
    )
    (
    subst (λ d. AtAll (NewDisk header) d (serving (cleared first) reads)) (sym (published-disk first []))
    (at-weaker (OnDisk node line) (NewDisk header) (serving (cleared first) reads) (disk_of line) (λ d on. inr on) all)
    )

-- a front of the header says that nothing has happened
front-alone : (header : Header) (n : ℕ) → n ≤ length (header_line header) → (own header).alone (take n (header_line header)) ≡ Sound (begun header)
front-alone header n h =
    let line = header_line header in
    let same : take (length (take n line)) line ≡ take n line = ap (λ k. take k line) (length-take-le n line h) in
    ap (λ b. cond b (Sound (begun header)) (Bad 1)) ((bytes_eq-Decides (take n line) (take (length (take n line)) line)).1 (sym same))

front-fits : (n : ℕ) (line : List ℕ) → Fits max_journal_line line → n ≤ length line → Fits max_journal_line (take n line)
front-fits n line fits h = record {
  unended = All-take IsNoFeed n line fits.unended;
  short = omega (arith, length-take-le n line h, fits.short, h);
}

front-left : (header : Header) (n : ℕ) → IsHeader header → n ≤ length (header_line header) → LeavesFront header [] (take n (header_line header))
front-left header n is h =
    let fits = front-fits n (header_line header) (fits-header header is) h in
    record {
      none = refl;
      finds = ap site_in (alone-says (own header) (take n (header_line header)) fits.unended fits.short ∙ front-alone header n h);
      whole = inl (ap (λ (l : Lines). bytes_of_lines l.whole) (line_is_torn (take n (header_line header)) fits.unended));
    }

-- the header alone is a journal
alone : (header : Header) → IsJournal header [] (header_text header)
alone header = ([], sym (append-nil (header_text header)), refl)

whole-left : (header : Header) → IsHeader header → LeavesFront header [] (header_text header)
whole-left header is =
    let f = finds_whole header [] (header_text header) is (alone header) in
    record { none = refl; finds = f.sound; whole = inr (alone header) }

long-line : (n : ℕ) (line : List ℕ) → length line < n → length (line ++ 10 ∷ []) ≤ n
long-line n line h = omega (arith, length-append line (10 ∷ []), h)

line-left : (header : Header) (n : ℕ) → IsHeader header → LeavesFront header [] (take n (header_text header))
line-left header n is = go (cases_lt (length (header_line header)) n)
  where
    go : (length (header_line header) < n) ⊎ (n ≤ length (header_line header)) → LeavesFront header [] (take n (header_text header))
    go (inl h) = subst (LeavesFront header []) (sym (take_all n (header_text header) (long-line n (header_line header) h))) (whole-left header is)
    go (inr h) = subst (LeavesFront header []) (sym (take-append-le n (header_line header) (10 ∷ []) h)) (front-left header n is h)

none-left : (header : Header) (n : ℕ) → IsHeader header → LeavesFront header [] (take n [])
none-left header n is = subst (LeavesFront header []) (sym (take-nil n)) (front-left header 0 is (omega arith))

loose-left : (header : Header) (n : ℕ) (loose : List ℕ) → IsHeader header → (loose ≡ []) ⊎ (loose ≡ header_text header) → LeavesFront header [] (take n loose)
loose-left header n loose is (inl e) = subst (λ l. LeavesFront header [] (take n l)) (sym e) (none-left header n is)
loose-left header n loose is (inr e) = subst (λ l. LeavesFront header [] (take n l)) (sym e) (line-left header n is)

abbrev LeavesNew : Header → List ℕ → List ℕ → Type 0
LeavesNew header durable left = LeavesFront header durable left ⊎ LeavesLife header [] durable left

left-new : (header : Header) (disk : Disk) (left : List ℕ) → IsHeader header → NewDisk header disk → MayLeave disk left → LeavesNew header disk.durable left
left-new header disk left is (inl blank) may =
    let text : left ≡ take may.0 disk.loose = may.1 ∙ ap (λ d. d ++ take may.0 disk.loose) blank.durable in
    inl (
    subst (λ d. LeavesFront header d left) (sym blank.durable)
    (subst (LeavesFront header []) (sym text) (loose-left header may.0 disk.loose is blank.loose))
    )
left-new header disk left is (inr on) may =
    inr (left-life (anew header) [] (header_text header) disk left (begins_anew header is) (alone header) on may)

pub leaves_new_sound : (header : Header) → IsHeader header → LeavesNewSound header
leaves_new_sound header is seal start result acts before after left ran e may =
    let R = LeavesNew header in
    at-front (Leaves R) before (disk_of []) acts after e
    (
    at-acts R (with_header header (greeting_from header seal (opened header) start)) (disk_of [])
    (λ reads.
    at-weaker (NewDisk header) (Leaves R) (run (with_header header (greeting_from header seal (opened header) start)) reads) (disk_of []) (λ disk on left may. left-new header disk left is on may)
    (at-new reads seal header start))
    result acts ran
    )
    left may
