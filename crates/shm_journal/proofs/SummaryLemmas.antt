-- What a journal has, by what was read of it.
use Rattle.std.proofs.Common.{◌≡◌, ◌≤◌, ◌<◌, ◌⊎◌, inl, inr, ℕ, ◌+◌, ◌==◌, Bool, true, false, List, [], ◌∷◌, ◌++◌, Option, None, Some, Ok, Err, cond, length, refl, sym, ap, subst, ◌∙◌, append_assoc, arith}
use Rattle.std.specs.Prelude.{Result, IfErr, IfOk, OnOk, drop, option_and_then}
use Rattle.std.specs.List.{sum_by}
use Rattle.std.specs.Str.{bytes_eq}
use Rattle.std.specs.Io.KnownBytes.{Consumes, IsAtEnd}
use Rattle.std.proofs.KnownBytes.{Consumes-trans}
use Rattle.std.proofs.lemmas.List.{length-append}
use Rattle.std.proofs.lemmas.Slice.Eq.{bytes_eq-Decides}
use Rattle.shm_process.specs.Node.{Node}
use Rattle.shm_process.specs.NodeOf.{node_of}
use Rattle.shm_process.specs.declared.node.Node.{Node as Site}
use Rattle.shm_journal.specs.Found.{Found, Sound, Bad, Lines, bytes_of_lines, found_from, found_in, is_empty, is_long, lines_behind, lines_of, max_journal_line, not_own, own, reached, rest_found, site_in, then_found, with_line}
use Rattle.shm_journal.specs.HeaderOf.{header_of}
use Rattle.shm_journal.specs.Lines.{Header, header_line, read_header}
use Rattle.shm_journal.specs.LinesOf.{Unended, line_in}
use Rattle.shm_journal.specs.ReadUpTo.{ReadsWhole}
use Rattle.shm_journal.specs.Recovers.{EntriesReadUpTo, ReadsAll}
use Rattle.shm_journal.specs.Stages.{Stage, Opened, InState, Open, Telling, begun, next_stage}
use Rattle.shm_journal.specs.Summed.{IsSummary, LeadsBehind, NamesFirst, RestReadsUpTo, SummaryReadsUpTo, SumsRest, SumsUpKnown, SumsUpNode, any, begun_if, entries_in, first_found, found_any, in_limits, reached_any, stage_named, steps_in}
use Rattle.shm_journal.specs.Taking.{BreaksOff, most_at_once}
use Rattle.shm_journal.specs.declared.journal_error.JournalFault.{JournalFault}
use Rattle.shm_journal.specs.declared.journal_error.JournalFault.TheVariants as fault
use Rattle.shm_journal.specs.declared.journal_summary.Summary.{Summary}
use Rattle.shm_journal.specs.declared.line_reader.Lines.{Lines as Code}
use Rattle.shm_journal.specs.declared.summary_reader.Named.{Named}
use Rattle.shm_seal.specs.declared.cluster_name.ClusterName.{ClusterName}
use Rattle.shm_journal.proofs.Fronts.{any_file, of_all, whole_of}
use Rattle.shm_journal.proofs.HeaderWords.{header-is_spelled}
use Rattle.shm_journal.proofs.Leading.{first_breaks, first_leads, first_stops, joined_fault, joined_whole}
use Rattle.shm_journal.proofs.RecoveryLemmas.{ends_within}
use Rattle.shm_journal.proofs.StepCounts.{from-steps, steps_at}

-- ---- each byte is in a whole line, or torn

either-length : (seen rest : ℕ) (line : List ℕ) (b : Bool) (x y : Lines) → length line ≡ seen → bytes_of_lines x.whole + length x.torn ≡ rest
    → bytes_of_lines y.whole + length y.torn ≡ seen + 1 + rest
    → bytes_of_lines (cond b (with_line line x) y).whole + length (cond b (with_line line x) y).torn ≡ seen + (rest + 1)
either-length seen rest line true x y is p q = omega (arith, is, p)
either-length seen rest line false x y is p q = omega (arith, q)

behind-length : (seen rest : List ℕ) → bytes_of_lines (lines_behind seen rest).whole + length (lines_behind seen rest).torn ≡ length seen + length rest
unfolding lines_behind
behind-length seen [] = omega arith
behind-length seen (byte ∷ rest) =
    let x : bytes_of_lines (lines_behind [] rest).whole + length (lines_behind [] rest).torn ≡ length rest = omega (arith, behind-length [] rest) in
    let y : bytes_of_lines (lines_behind (seen ++ byte ∷ []) rest).whole + length (lines_behind (seen ++ byte ∷ []) rest).torn ≡ length seen + 1 + length rest =
    omega (arith, behind-length (seen ++ byte ∷ []) rest, length-append seen (byte ∷ [])) in
    let e = either-length (length seen) (length rest) seen (byte == 10) (lines_behind [] rest) (lines_behind (seen ++ byte ∷ []) rest) refl x y in
    omega (arith, e)

pub file_length : (file : List ℕ) → bytes_of_lines (lines_of file).whole + length (lines_of file).torn ≡ length file
file_length file = omega (arith, behind-length [] file)

some-lines : (lines : List (List ℕ)) → 0 < bytes_of_lines lines → is_empty lines ≡ false
some-lines [] some = absurd (omega (arith, some))
some-lines (line ∷ lines) some = refl

-- ---- the first line

bytes_eq-same : (xs : List ℕ) → bytes_eq xs xs ≡ true
bytes_eq-same xs = (bytes_eq-Decides xs xs).1 refl

own-first : (header : Header) (line : List ℕ) → read_header line ≡ Some header → (own header).first line ≡ Sound (begun header)
own-first header line h =
    let same : bytes_eq line (header_line header) ≡ true = ap (λ l. bytes_eq l (header_line header)) (header-is_spelled line header h).1 ∙ bytes_eq-same (header_line header) in
    ap (λ b. cond b (Sound (begun header)) (not_own (read_header line))) same

any-first : (header : Header) (line : List ℕ) → read_header line ≡ Some header → in_limits header ≡ true → any.first line ≡ Sound (begun header)
any-first header line h limits =
    ap (λ o. first_found (option_and_then begun_if o)) h ∙ ap (λ b. first_found (cond b (Some (begun header)) None)) limits

named-first : (before left : Option (List ℕ)) (line : List ℕ) (count : ℕ) (header : Header) → Consumes before left (line ++ 10 ∷ []) → Unended line
    → length line ≤ max_journal_line → count ≡ length line + 1 → read_header line ≡ Some header → in_limits header ≡ true → NamesFirst before left header count
named-first before left line count header taken h short e read limits =
    subst (λ c. NamesFirst before left header c) (sym e)
    (record {
      limits = limits;
      some = omega arith;
      as_own = first_leads (own header) before left (begun header) line taken h short (own-first header line read);
      as_any = first_leads any before left (begun header) line taken h short (any-first header line read limits);
    })

pub names_first : {A : Type 0} → (before left : Option (List ℕ)) (line seen : List ℕ) (count : ℕ) (r : Result (Named A) JournalFault) → Consumes before left (line ++ 10 ∷ []) → Unended line
    → length line ≤ max_journal_line → seen ≡ line → count ≡ length line + 1 → IfOk r (λ n. read_header seen ≡ Some (header_of n.header)) → IfOk r (λ n. in_limits (header_of n.header) ≡ true)
    → IfOk r (λ n. NamesFirst before left (header_of n.header) count)
names_first before left line seen count (Ok n) taken h short same e read limits =
    named-first before left line count (header_of n.header) taken h short e (ap read_header (sym same) ∙ read) limits
names_first before left line seen count (Err f) taken h short same e read limits = tt

opens-not : (before now : Option (List ℕ)) (line over : List ℕ) (f : JournalFault) → Consumes before now ((line ++ 10 ∷ []) ++ over) → Unended line → length line ≤ max_journal_line
    → length over < most_at_once → (f ≡ fault.OutOfMemory) ⊎ ((f ≡ fault.BadLine 1) × (stage_named line ≡ None)) → SummaryReadsUpTo before now f
opens-not before now line over f taken h short once (inl e) =
    subst (SummaryReadsUpTo before now) (sym e)
    (record {
      before = [];
      line = line;
      over = 10 ∷ over;
      taken = subst (Consumes before now) (append_assoc line (10 ∷ []) over) taken;
      sound = inl refl;
      unended = h;
      short = short;
      once = omega (arith, once);
    })
opens-not before now line over f taken h short once (inr e) =
    subst (SummaryReadsUpTo before now) (sym e.0) (inl (first_stops any before now line over (Bad 1) taken h short once (ap first_found e.1) (λ onward. refl)))

pub first_not : {A : Type 0} → (before now : Option (List ℕ)) (line seen over : List ℕ) (r : Result (Named A) JournalFault) → Consumes before now ((line ++ 10 ∷ []) ++ over) → Unended line
    → length line ≤ max_journal_line → length over < most_at_once → seen ≡ line → IfErr r (λ f. (f ≡ fault.OutOfMemory) ⊎ ((f ≡ fault.BadLine 1) × (stage_named seen ≡ None)))
    → IfErr r (SummaryReadsUpTo before now)
first_not before now line seen over (Ok n) taken h short once same e = tt
first_not before now line seen over (Err f) taken h short once same e =
    opens-not before now line over f taken h short once (subst (λ l. (f ≡ fault.OutOfMemory) ⊎ ((f ≡ fault.BadLine 1) × (stage_named l ≡ None))) same e)

-- the reader fails, or memory is missing
pub breaks_first : (before now : Option (List ℕ)) (why : JournalFault) → BreaksOff before now why → SummaryReadsUpTo before now why
breaks_first before now fault.OutOfMemory b = first_breaks any before now fault.OutOfMemory b
breaks_first before now fault.ReadFault b = inl (first_breaks any before now fault.ReadFault b)
breaks_first before now (fault.BadLine number) b = absurd b.other
breaks_first before now fault.UnendedState b = absurd b.other
breaks_first before now fault.BeginsWithState b = absurd b.other

-- ---- the rest

pub as_rest : (header : Header) (old new : Option (List ℕ)) (why : JournalFault) → EntriesReadUpTo (begun header) old new why → RestReadsUpTo header old new why
as_rest header old new fault.OutOfMemory h = h
as_rest header old new fault.ReadFault h = inl h
as_rest header old new (fault.BadLine number) h = h
as_rest header old new fault.UnendedState h = h
as_rest header old new fault.BeginsWithState h = absurd h

pub leads_behind : {A B : Type 0} → (stage : Stage) (old new : Option (List ℕ)) (before after : Code A) (last : Stage) (more : ℕ) (r : Result (Site B) JournalFault)
    → (read : ReadsWhole (rest_found stage) old new last more) → after.whole ≡ before.whole + more → line_in after ≡ (lines_of read.bytes).torn
    → IfOk r (λ node. site_in (Sound last) ≡ Sound (node_of node)) → IfOk r (λ node. LeadsBehind stage old new before after (node_of node))
leads_behind stage old new before after last more (Ok node) read whole torn led =
    record { last = last; more = more; rest = read; led = led; whole = whole; torn = torn }
leads_behind stage old new before after last more (Err f) read whole torn led = tt

pub unended_behind : {A : Type 0} → (stage : Stage) (old new : Option (List ℕ)) (last : Stage) (more : ℕ) (r : Result (Site A) JournalFault)
    → ReadsWhole (rest_found stage) old new last more → IfErr r (λ f. f ≡ fault.UnendedState) → IfErr r (λ f. (telling : Telling) × (last ≡ InState telling))
    → IfErr r (EntriesReadUpTo stage old new)
unended_behind stage old new last more (Ok node) read is telling = tt
unended_behind stage old new last more (Err f) read is telling =
    subst (EntriesReadUpTo stage old new) (sym is) (ends_within (rest_found stage) old new last more read telling)

pub rest_summed : {A : Type 0} → (header : Header) (old new : Option (List ℕ)) (before after : Code A) (node : Node) (r : Result Summary JournalFault)
    → LeadsBehind (begun header) old new before after node → IfOk r (SumsUpNode header node after) → IfOk r (SumsRest header old new before.whole)
rest_summed header old new before after node (Ok s) leads sums =
    let w = leads.whole in
    let b = sums.bytes in
    let bytes : s.bytes ≡ before.whole + leads.more + s.torn = omega (arith, w, b) in record {
      last = leads.last;
      after = node;
      more = leads.more;
      rest = leads.rest;
      led = leads.led;
      site = sums.site;
      sites = sums.sites;
      pages = sums.pages;
      cluster = sums.cluster;
      steps = sums.steps;
      clock = sums.clock;
      torn = sums.torn ∙ ap length leads.torn;
      bytes = bytes;
    }
rest_summed header old new before after node (Err f) leads sums = tt

-- there are more bytes than numbers
pub rest_uncounted : {A : Type 0} → (header : Header) (old new : Option (List ℕ)) (before after : Code A) (node : Node) (r : Result Summary JournalFault)
    → LeadsBehind (begun header) old new before after node → IfErr r (λ f. f ≡ fault.ReadFault) → IfErr r (RestReadsUpTo header old new)
rest_uncounted header old new before after node (Ok s) leads is = tt
rest_uncounted header old new before after node (Err f) leads is =
    subst (RestReadsUpTo header old new) (sym is) (inr (leads.rest.bytes, leads.rest.taken, leads.rest.end))

rest-not : (before left now : Option (List ℕ)) (header : Header) (count : ℕ) (f : JournalFault) → NamesFirst before left header count → RestReadsUpTo header left now f
    → SummaryReadsUpTo before now f
rest-not before left now header count fault.OutOfMemory n h = joined_fault next_stage reached_any before left now (begun header) count fault.OutOfMemory n.as_any h
rest-not before left now header count fault.ReadFault n (inl h) = inl (joined_fault next_stage reached_any before left now (begun header) count fault.ReadFault n.as_any h)
rest-not before left now header count fault.ReadFault n (inr all) =
    inr (n.as_any.bytes ++ all.0, Consumes-trans before left now n.as_any.bytes all.0 n.as_any.taken all.1, all.2)
rest-not before left now header count (fault.BadLine number) n h =
    inl (joined_fault next_stage reached_any before left now (begun header) count (fault.BadLine number) n.as_any h)
rest-not before left now header count fault.UnendedState n (telling, more, w) =
    (telling, count + more, joined_whole next_stage reached_any before left now (begun header) (InState telling) count more n.as_any w)
rest-not before left now header count fault.BeginsWithState n h = absurd h

pub fault_led : (all before left now : Option (List ℕ)) (header : Header) (count : ℕ) (r : Result Summary JournalFault) → before ≡ all → NamesFirst before left header count
    → IfErr r (RestReadsUpTo header left now) → IfErr r (SummaryReadsUpTo all now)
fault_led all before left now header count (Ok s) same n h = tt
fault_led all before left now header count (Err f) same n h = subst (λ a. SummaryReadsUpTo a now f) same (rest-not before left now header count f n h)

-- ---- a whole journal

-- all that there was is summed up
pub record SumsAll (old new : Option (List ℕ)) (summary : Summary) : Type 0 where
  pub bytes : List ℕ
  pub taken : Consumes old new bytes
  pub end : IsAtEnd new
  pub is : IsSummary bytes summary

abbrev made : Option ClusterName → ℕ → ℕ → ℕ → ℕ → ℕ → ℕ → ℕ → Summary
made cluster site sites pages steps clock bytes torn =
    record { site = site; sites = sites; pages = pages; cluster = cluster; steps = steps; clock = clock; bytes = bytes; torn = torn }

same-summary : (s : Summary) (site sites pages steps clock bytes torn : ℕ) → s.site ≡ site → s.sites ≡ sites → s.pages ≡ pages → s.steps ≡ steps → s.clock ≡ clock → s.bytes ≡ bytes
    → s.torn ≡ torn → s ≡ made s.cluster site sites pages steps clock bytes torn
same-summary s site sites pages steps clock bytes torn a b c d e f g =
    ap (λ x. made s.cluster x s.sites s.pages s.steps s.clock s.bytes s.torn) a ∙ ap (λ x. made s.cluster site x s.pages s.steps s.clock s.bytes s.torn) b
    ∙ ap (λ x. made s.cluster site sites x s.steps s.clock s.bytes s.torn) c ∙ ap (λ x. made s.cluster site sites pages x s.clock s.bytes s.torn) d
    ∙ ap (λ x. made s.cluster site sites pages steps x s.bytes s.torn) e ∙ ap (λ x. made s.cluster site sites pages steps clock x s.torn) f
    ∙ ap (λ x. made s.cluster site sites pages steps clock bytes x) g

-- the first line is the header, and the others lead on
pub own-leads : (header : Header) (final : Stage) (onward : Stage → Found Stage) (long same : Bool) (read : Option Header)
    → cond long (Bad 1) (then_found (cond same (Sound (begun header)) (not_own read)) onward) ≡ Sound final → onward (begun header) ≡ Sound final
own-leads header final onward true same read h = absurd (cc)
own-leads header final onward false true read h = h
own-leads header final onward false false None h = absurd (cc)
own-leads header final onward false false (Some x) h = absurd (cc)

own-steps : (header : Header) (final : Stage) (lines : List (List ℕ)) (torn : List ℕ) → found_in (own header) lines torn ≡ Sound final → is_empty lines ≡ false
    → steps_at final ≡ sum_by steps_in (drop 1 lines)
own-steps header final [] torn h some = absurd (cc)
own-steps header final (line ∷ lines) torn h some =
    from-steps 2 (begun header) final lines torn refl
    (own-leads header final (λ state. found_from next_stage 2 state lines torn) (is_long line) (bytes_eq line (header_line header)) (read_header line) h)

site-steps : (stage : Stage) (node : Node) → site_in (Sound stage) ≡ Sound node → node.steps ≡ steps_at stage
site-steps (Opened first telling) node h = let same : first ≡ node = cc in sym (ap (λ (n : Node). n.steps) same)
site-steps (InState telling) node h = absurd (cc)
site-steps (Open first) node h = let same : first ≡ node = cc in sym (ap (λ (n : Node). n.steps) same)

sums-all : (before left now : Option (List ℕ)) (header : Header) (count : ℕ) (summary : Summary) → NamesFirst before left header count
    → SumsRest header left now count summary → SumsAll before now summary
sums-all before left now header count summary n s =
    let l = n.as_own in
    let r = s.rest in
    let file = l.bytes ++ r.bytes in
    let led : reached header file ≡ Sound s.last = l.onward r.bytes ∙ r.sound in
    let counted : bytes_of_lines (lines_of file).whole ≡ count + bytes_of_lines (lines_of r.bytes).whole = l.counted r.bytes in
    let torn : length (lines_of file).torn ≡ length (lines_of r.bytes).torn = ap length (l.torn r.bytes) in
    let begun : is_empty (lines_of file).whole ≡ false = some-lines (lines_of file).whole (omega (arith, n.some, counted)) in
    let steps : s.after.steps ≡ sum_by steps_in (entries_in file) =
    site-steps s.last s.after s.led ∙ own-steps header s.last (lines_of file).whole (lines_of file).torn led begun in
    let bytes : summary.bytes ≡ length file = omega (arith, s.bytes, s.torn, r.counted, counted, torn, file_length file) in record {
      bytes = file;
      taken = Consumes-trans before left now l.bytes r.bytes l.taken r.taken;
      end = r.end;
      is = record {
        header = header;
        node = s.after;
        limits = n.limits;
        begun = begun;
        sound = ap site_in led ∙ s.led;
        named = s.cluster;
        summed =
            same-summary summary header.me header.sites header.pages (sum_by steps_in (entries_in file)) s.after.clock (length file) (length (lines_of file).torn) s.site s.sites
            s.pages (s.steps ∙ steps) s.clock bytes (s.torn ∙ sym torn);
      };
    }

pub summary_led : (all before left now : Option (List ℕ)) (header : Header) (count : ℕ) (r : Result Summary JournalFault) → before ≡ all → NamesFirst before left header count
    → IfOk r (SumsRest header left now count) → IfOk r (SumsAll all now)
summary_led all before left now header count (Ok s) same n h = subst (λ a. SumsAll a now s) same (sums-all before left now header count s n h)
summary_led all before left now header count (Err f) same n h = tt

pub summary_end : (old new : Option (List ℕ)) (r : Result Summary JournalFault) → IfOk r (SumsAll old new) → OnOk r (IsAtEnd new)
summary_end old new (Ok s) h = h.end
summary_end old new (Err f) h = tt

pub summary_all : (old new : Option (List ℕ)) (r : Result Summary JournalFault) → IfOk r (SumsAll old new) → OnOk r (ReadsAll old new)
summary_all old new (Ok s) h = (h.bytes, h.taken, h.end)
summary_all old new (Err f) h = tt

-- ---- what the whole file says

pub fault_known : (old new : Option (List ℕ)) (f : JournalFault) → SummaryReadsUpTo old new f → SumsUpKnown old (Err f)
fault_known old new fault.OutOfMemory h = let file = any_file old in (file.0, file.1, tt)
fault_known old new fault.ReadFault h = let file = any_file old in (file.0, file.1, tt)
fault_known old new (fault.BadLine number) (inl s) =
    let w = whole_of old new (s.before ++ (s.line ++ s.over)) s.taken in (
      (s.before ++ (s.line ++ s.over)) ++ w.0,
      w.1,
      ap found_any (append_assoc s.before (s.line ++ s.over) w.0 ∙ ap (λ l. s.before ++ l) (append_assoc s.line s.over w.0)) ∙ ap site_in (s.bad (s.over ++ w.0)),
    )
fault_known old new (fault.BadLine number) (inr l) = (l.bytes, of_all old new l.bytes (λ known. l.bytes ≡ known) l.taken l.end refl, ap site_in l.bad)
fault_known old new fault.UnendedState (telling, whole, w) = (w.bytes, of_all old new w.bytes (λ known. w.bytes ≡ known) w.taken w.end refl, ap site_in w.sound)
fault_known old new fault.BeginsWithState h = absurd h

pub summary_known : (old new : Option (List ℕ)) (r : Result Summary JournalFault) → IfOk r (SumsAll old new) → IfErr r (SummaryReadsUpTo old new) → SumsUpKnown old r
summary_known old new (Ok s) h e = (h.bytes, of_all old new h.bytes (λ known. h.bytes ≡ known) h.taken h.end refl, h.is)
summary_known old new (Err f) h e = fault_known old new f e
