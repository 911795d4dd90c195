-- Each line of a state is one that a journal may have.
use Rattle.std.proofs.Common.{◌≡◌, ◌≤◌, ℕ, suc, ◌+◌, ◌*◌, ◌/◌, ◌%◌, ◌==◌, Bool, true, false, List, [], ◌∷◌, ◌++◌, Option, None, Some, cond, length, map, refl, arith}
use Rattle.std.specs.List.{All, join_with_byte}
use Rattle.std.specs.Prelude.{⊤, codes, IfSome}
use Rattle.std.specs.Fmt.{decimal}
use Rattle.std.proofs.lemmas.List.{length-map}
use Rattle.std.proofs.lemmas.List.Elements.{All-head, All-nil, All-tail}
use Rattle.shm_model.specs.Book.{Running}
use Rattle.shm_model.specs.Entry.{Entry, Nil, Copy, OwnRead, OwnWrite, Handed}
use Rattle.shm_model.specs.Mode.{mode_word}
use Rattle.shm_model.specs.declared.call.Errno.{Errno}
use Rattle.shm_model.specs.declared.call.Errno.TheVariants.{Eacces, Eexist, Eidrm, Einval, Enoent, Enospc, Eperm}
use Rattle.shm_model.specs.declared.call.Op.{Op}
use Rattle.shm_model.specs.declared.call.Op.TheVariants.{Get, Attach, Detach, Remove, Set, Stat as StatOp}
use Rattle.shm_model.specs.declared.call.Reply.{Reply}
use Rattle.shm_model.specs.declared.call.Reply.TheVariants.{Id, Attached, Ok, Stat, Refused}
use Rattle.shm_model.specs.declared.mode_and_get_flags.GetFlags.{GetFlags}
use Rattle.shm_model.specs.declared.request_kind.Kind.{Kind}
use Rattle.shm_model.specs.declared.request_kind.Kind.TheVariants.{Read, Write}
use Rattle.shm_place.specs.declared.page_id.PageId.{PageId}
use Rattle.shm_lines.specs.Calls.{IsCall, call_words}
use Rattle.shm_lines.specs.Words.{IsMode, IsNumber, IsWide, access_word, flags_word}
use Rattle.shm_wire.specs.BytesWord.{bytes_word}
use Rattle.shm_wire.specs.Messages.{IsPageId}
use Rattle.shm_wire.specs.PageWord.{IsPage}
use Rattle.shm_wire.specs.Replies.{IsReply, reply_words}
use Rattle.shm_wire.specs.Tag.{IsTag}
use Rattle.shm_wire.specs.Words.{errno_word, kind_word, standing_word}
use Rattle.shm_state.specs.BookWords.{IsRunning, book_words, running_words}
use Rattle.shm_state.specs.EntryWords.{IsEntry}
use Rattle.shm_state.specs.Part as state
use Rattle.shm_state.specs.Part.{Part, Requests, Calls, Outstanding, Segment, Missing, Kept, Purged, Attachment, Book}
use Rattle.shm_state.specs.PartWords.{IsPart, part_line, told_words}
use Rattle.shm_state.specs.SetWord.{IsSet, set_word}
use Rattle.shm_journal.proofs.BytesFit.{fits_few_bytes}
use Rattle.shm_journal.proofs.Fits.{Fits, IsNoFeed, fits-both, fits-more, fits-number, fits-tag, fits-text, fits-wide, fits-word, has_no_feed}
use Rattle.shm_journal.specs.Found.{max_journal_line}
use Rattle.shm_journal.specs.StateLines.{StateLine, OfPart, OfMapping, OfEnding, IsStateLine, caller_words, mapped_words, state_line}

-- ---- words of few bytes

abbrev IsShort : List ℕ → Type 0
IsShort word = Fits 64 word

abbrev AreShort : List (List ℕ) → Type 0
AreShort [] = ⊤
AreShort (word ∷ words) = IsShort word × AreShort words

short-line : (word : List ℕ) (words : List (List ℕ)) → IsShort word → AreShort words → Fits (64 + 65 * length words) (join_with_byte 32 (word ∷ words))
short-line word [] first others = first
short-line word (next ∷ words) first others =
    fits-more (64 + (64 + 65 * length words + 1)) (64 + 65 * suc (length words)) _ (omega arith)
    (fits-word 64 (64 + 65 * length words) word (join_with_byte 32 (next ∷ words)) first (short-line next words others.0 others.1))

short : (word : List ℕ) → has_no_feed word ≡ true → length word ≤ 64 → IsShort word
short word feed few = fits-more (length word) 64 word few (fits-text word feed)

short-wide : (n : ℕ) → IsWide n → IsShort (decimal n)
short-wide n h = fits-more 20 64 (decimal n) (omega arith) (fits-wide n h)

short-number : (n : ℕ) → IsNumber n → IsShort (decimal n)
short-number n h = fits-more 20 64 (decimal n) (omega arith) (fits-number n h)

few-words : (words : List (List ℕ)) → length words ≤ 100 → AreShort words → Fits max_journal_line (join_with_byte 32 (codes "state" ∷ words))
few-words words count are =
    fits-more (64 + 65 * length words) max_journal_line _ (omega (arith, count)) (short-line (codes "state") words (short (codes "state") refl (omega arith)) are)

-- ---- the words that there are

short-mode : (mode : ℕ) → IsMode mode → IsShort (mode_word mode)
short-mode mode h =
    let high : IsWide (mode / 64) = omega (arith, h) in
    let middle : IsWide (mode / 8 % 8) = omega arith in
    let low : IsWide (mode % 8) = omega arith in
    fits-more 60 64 (mode_word mode) (omega arith)
    (
    fits-both 20 40 (decimal (mode / 64)) _ (fits-wide (mode / 64) high)
    (fits-both 20 20 (decimal (mode / 8 % 8)) (decimal (mode % 8)) (fits-wide (mode / 8 % 8) middle) (fits-wide (mode % 8) low))
    )

short-either : (b : Bool) (x y : List ℕ) → IsShort x → IsShort y → IsShort (cond b x y)
short-either true x y f g = f
short-either false x y f g = g

short-access : (ro : Bool) → IsShort (access_word ro)
short-access ro = short-either ro (codes "ro") (codes "rw") (short (codes "ro") refl (omega arith)) (short (codes "rw") refl (omega arith))

short-flags : (flags : GetFlags) → IsShort (flags_word flags)
short-flags flags =
    short-either (flags.0 == 0) (codes "-") _ (short (codes "-") refl (omega arith))
    (
    short-either (flags.0 == 512) (codes "c") _ (short (codes "c") refl (omega arith))
    (short-either (flags.0 == 1024) (codes "x") (codes "cx") (short (codes "x") refl (omega arith)) (short (codes "cx") refl (omega arith)))
    )

short-standing : (marked : Bool) → IsShort (standing_word marked)
short-standing true = short (codes "marked") refl (omega arith)
short-standing false = short (codes "live") refl (omega arith)

short-kind : (kind : Kind) → IsShort (kind_word kind)
short-kind Read = short (codes "read") refl (omega arith)
short-kind Write = short (codes "write") refl (omega arith)

short-errno : (errno : Errno) → IsShort (errno_word errno)
short-errno Eacces = short (codes "eacces") refl (omega arith)
short-errno Eexist = short (codes "eexist") refl (omega arith)
short-errno Eidrm = short (codes "eidrm") refl (omega arith)
short-errno Einval = short (codes "einval") refl (omega arith)
short-errno Enoent = short (codes "enoent") refl (omega arith)
short-errno Enospc = short (codes "enospc") refl (omega arith)
short-errno Eperm = short (codes "eperm") refl (omega arith)

fits-members : (members : List Bool) → Fits (length members) (set_word members)
fits-members [] = record { unended = All-nil IsNoFeed; short = omega arith }
fits-members (true ∷ members) =
    fits-more (1 + length members) (suc (length members)) _ (omega arith)
    (fits-both 1 (length members) (codes "1") (set_word members) (fits-text (codes "1") refl) (fits-members members))
fits-members (false ∷ members) =
    fits-more (1 + length members) (suc (length members)) _ (omega arith)
    (fits-both 1 (length members) (codes "0") (set_word members) (fits-text (codes "0") refl) (fits-members members))

short-set : (members : List Bool) → IsSet members → IsShort (set_word members)
short-set members h = fits-more (length members) 64 (set_word members) (omega (arith, h)) (fits-members members)

short-wides : (ns : List ℕ) → All IsWide ns → AreShort (map decimal ns)
short-wides [] h = tt
short-wides (n ∷ ns) h = (short-wide n (All-head IsWide n ns h), short-wides ns (All-tail IsWide n ns h))

-- ---- a call, a reply, and a book

abbrev FewWords : ℕ → List (List ℕ) → Type 0
FewWords most words = (length words ≤ most) × AreShort words

few-call : (op : Op) → IsCall op → FewWords 8 (call_words op)
few-call (Get cred key size mode flags) h = (omega arith, (short (codes "get") refl (omega arith), (short-number cred.uid h.0.0, (short-number cred.gid h.0.1, (short-number key h.1, (short-number size h.2, (short-mode mode h.3, (short-flags flags, tt))))))))
few-call (Attach cred id ro) h = (omega arith, (short (codes "attach") refl (omega arith), (short-number cred.uid h.0.0, (short-number cred.gid h.0.1, (short-number id h.1, (short-access ro, tt))))))
few-call (Detach id) h = (omega arith, (short (codes "detach") refl (omega arith), (short (codes "id") refl (omega arith), (short-number id h, tt))))
few-call (Remove cred id) h =
    (omega arith, (short (codes "remove") refl (omega arith), (short-number cred.uid h.0.0, (short-number cred.gid h.0.1, (short-number id h.1, tt)))))
few-call (Set cred id uid gid mode) h = (omega arith, (short (codes "set") refl (omega arith), (short-number cred.uid h.0.0, (short-number cred.gid h.0.1, (short-number id h.1, (short-number uid h.2, (short-number gid h.3, (short-mode mode h.4, tt))))))))
few-call (StatOp cred id) h =
    (omega arith, (short (codes "stat") refl (omega arith), (short-number cred.uid h.0.0, (short-number cred.gid h.0.1, (short-number id h.1, tt)))))

few-reply : (reply : Reply) → IsReply reply → FewWords 10 (reply_words reply)
few-reply (Id id) h = (omega arith, (short (codes "id") refl (omega arith), (short-number id h, tt)))
few-reply (Attached a) h = (omega arith, (short (codes "attached") refl (omega arith), (short-number a.size h, (short-access a.ro, tt))))
few-reply Ok h = (omega arith, (short (codes "ok") refl (omega arith), tt))
few-reply (Stat s) h = (omega arith, (short (codes "stat") refl (omega arith), (short-number s.key h.0, (short-number s.uid h.1, (short-number s.gid h.2, (short-number s.cuid h.3, (short-number s.cgid h.4, (short-mode s.mode h.5, (short-number s.size h.6, (short-wide s.nattch h.7, (short-standing s.marked, tt)))))))))))
few-reply (Refused error) h = (omega arith, (short (codes "refused") refl (omega arith), (short-errno error, tt)))

few-running : (running : Option Running) (n : ℕ) (words : List (List ℕ)) → IsRunning running → FewWords n words → FewWords (n + 2) (running_words running words)
few-running None n words h few = (omega (arith, few.0), (short (codes "idle") refl (omega arith), few.1))
few-running (Some run) n words h few = (omega (arith, few.0), (short-kind run.kind, (short-number run.requester h, few.1)))

-- ---- parts

line-of_page : (page : PageId) (most : ℕ) (rest : List ℕ) → IsPageId page → most ≤ 8000 → Fits most rest
    → Fits max_journal_line (codes "state" ++ 32 ∷ (codes "entry" ++ 32 ∷ (decimal page.seg ++ 32 ∷ (decimal page.index ++ 32 ∷ rest))))
line-of_page page most rest is few fits =
    fits-more (5 + (5 + (20 + (20 + (most + 1) + 1) + 1) + 1)) max_journal_line _ (omega (arith, few))
    (
    fits-word 5 (5 + (20 + (20 + (most + 1) + 1) + 1)) (codes "state") _ (fits-text (codes "state") refl)
    (fits-word 5 (20 + (20 + (most + 1) + 1)) (codes "entry") _ (fits-text (codes "entry") refl)
    (fits-word 20 (20 + (most + 1)) (decimal page.seg) _ (fits-number page.seg is.0) (fits-word 20 most (decimal page.index) rest (fits-number page.index is.1) fits)))
    )

full-page : (bytes : List ℕ) → IsPage bytes → Fits 5464 (bytes_word bytes)
full-page bytes h = fits_few_bytes bytes (omega (arith, h.0))

filled : (verb : List ℕ) (number : ℕ) (bytes : List ℕ) → IsShort verb → IsWide number → IsPage bytes → Fits 5550 (verb ++ 32 ∷ (decimal number ++ 32 ∷ bytes_word bytes))
filled verb number bytes v n b = fits-word 64 5485 verb _ v (fits-word 20 5464 (decimal number) (bytes_word bytes) (fits-wide number n) (full-page bytes b))

entry-fits : (page : PageId) (entry : Entry) → IsPageId page → IsEntry entry → Fits max_journal_line (part_line (state.Entry page entry))
entry-fits page (Nil number) p h =
    few-words (told_words (state.Entry page (Nil number))) (omega arith) (short (codes "entry") refl (omega arith), (short-number page.seg p.0, (short-number page.index p.1, (short (codes "gone") refl (omega arith), (short-wide number h, tt)))))
entry-fits page (Copy number bytes) p h = line-of_page page 5550 _ p (omega arith) (filled (codes "copy") number bytes (short (codes "copy") refl (omega arith)) h.0 h.1)
entry-fits page (OwnRead number bytes) p h =
    line-of_page page 5550 _ p (omega arith) (filled (codes "own-read") number bytes (short (codes "own-read") refl (omega arith)) h.0 h.1)
entry-fits page (OwnWrite number bytes) p h =
    line-of_page page 5550 _ p (omega arith) (filled (codes "own-write") number bytes (short (codes "own-write") refl (omega arith)) h.0 h.1)
entry-fits page (Handed number to bytes) p h =
    line-of_page page 5571 _ p (omega arith)
    (
    fits-word 64 5506 (codes "handed") _ (short (codes "handed") refl (omega arith))
    (fits-word 20 5485 (decimal number) _ (fits-wide number h.0) (fits-word 20 5464 (decimal to) (bytes_word bytes) (fits-number to h.1) (full-page bytes h.2)))
    )

part-fits : (part : Part) → IsPart part → Fits max_journal_line (part_line part)
part-fits (Requests number) h = few-words (told_words (Requests number)) (omega arith) (short (codes "requests") refl (omega arith), (short-wide number h, tt))
part-fits (Calls number) h = few-words (told_words (Calls number)) (omega arith) (short (codes "calls") refl (omega arith), (short-wide number h, tt))
part-fits (Outstanding number op) h =
    let call = few-call op h.1 in
    few-words (codes "outstanding" ∷ decimal number ∷ call_words op) (omega (arith, call.0))
    (short (codes "outstanding") refl (omega arith), (short-wide number h.0, call.1))
part-fits (Segment g) h =
    few-words (told_words (Segment g)) (omega arith) (short (codes "segment") refl (omega arith), (short-number g.id h.0, (short-number g.key h.1, (short-number g.size h.2, (short-mode g.mode h.3, (short-number g.uid h.4, (short-number g.gid h.5, (short-number g.cuid h.6, (short-number g.cgid h.7, (short-wide g.nattch h.8, (short-standing g.marked, tt)))))))))))
part-fits (Missing purge) h =
    few-words (told_words (Missing purge)) (omega arith) (short (codes "missing") refl (omega arith), (short-number purge.id h.0, (short-set purge.missing h.1, tt)))
part-fits (Kept site number reply) h =
    let r = few-reply reply h.2 in
    few-words (codes "kept" ∷ decimal site ∷ decimal number ∷ reply_words reply) (omega (arith, r.0))
    (short (codes "kept") refl (omega arith), (short-number site h.0, (short-wide number h.1, r.1)))
part-fits (state.Entry page entry) h = entry-fits page entry h.0 h.1
part-fits (Purged id) h = few-words (told_words (Purged id)) (omega arith) (short (codes "purged") refl (omega arith), (short-number id h, tt))
part-fits (Attachment number a) h =
    few-words (told_words (Attachment number a)) (omega arith)
    (short (codes "attachment") refl (omega arith), (short-number number h.0, (short-number a.id h.1, (short-number a.size h.2, (short-access a.ro, tt)))))
part-fits (Book page book) h =
    let served : FewWords 16 (map decimal book.served) = (omega (arith, length-map book.served decimal, h.1.4.0), short-wides book.served h.1.4.1) in
    let running = few-running book.running 16 (map decimal book.served) h.1.3 served in
    few-words (codes "book" ∷ decimal page.seg ∷ decimal page.index ∷ book_words book) (omega (arith, running.0)) (short (codes "book") refl (omega arith), (short-number page.seg h.0.0, (short-number page.index h.0.1, (short-number book.owner h.1.0, (short-set book.copies h.1.1, (short-wide book.number h.1.2, running.1))))))

-- ---- the other lines

few-steps : (clock steps : ℕ) → IsWide clock → steps ≤ clock → IsWide steps
few-steps clock steps w h = omega (arith, w, h)

few-caller : (caller : Option (List ℕ)) → IfSome caller IsTag → FewWords 1 (caller_words caller)
few-caller None h = (omega arith, tt)
few-caller (Some tag) h = (omega arith, (fits-more 32 64 tag (omega arith) (fits-tag tag h), tt))

pub state_fits : (line : StateLine) → IsStateLine line → Fits max_journal_line (state_line line)
state_fits (OfPart part) h = part-fits part h
state_fits (OfMapping m) h =
    few-words (mapped_words m) (omega arith)
    (short (codes "mapped") refl (omega arith), (short-number m.at h.0, (short-number m.page.seg h.1.0, (short-number m.page.index h.1.1, (short-kind m.kind, tt)))))
state_fits (OfEnding ending) h =
    let caller = few-caller ending.caller h.2 in
    few-words (codes "clock" ∷ decimal ending.clock ∷ decimal ending.steps ∷ caller_words ending.caller) (omega (arith, caller.0))
    (short (codes "clock") refl (omega arith), (short-wide ending.clock h.0, (short-wide ending.steps (few-steps ending.clock ending.steps h.0 h.1), caller.1)))
