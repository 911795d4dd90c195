-- Parts: what is read is spelled so.
use Rattle.std.proofs.Common.{◌≡◌, ℕ, List, [], ◌∷◌, Option, None, Some, sym, ap, subst, ◌∙◌}
use Rattle.std.specs.Prelude.{codes, IfSome, option_map}
use Rattle.std.specs.List.{join_with_byte}
use Rattle.std.proofs.lemmas.List.Splits.{join_with_byte-slice_split}
use Rattle.shm_model.specs.Permission as tables
use Rattle.shm_lines.proofs.CallLemmas.{call-is}
use Rattle.shm_lines.proofs.NumberWords.{number, wide}
use Rattle.shm_lines.proofs.OneWord.{access, mode}
use Rattle.shm_lines.proofs.ReadLemmas.{onto, onto2}
use Rattle.shm_lines.proofs.StepLemmas.{some-is, step}
use Rattle.shm_lines.specs.Calls.{call_of}
use Rattle.shm_lines.specs.Words.{words_of}
use Rattle.shm_wire.proofs.MessageWords.{took_page}
use Rattle.shm_wire.proofs.NameWords.{standing}
use Rattle.shm_wire.proofs.Reading.{Reads, Sound, SoundReader, by_verb-is, ended-is, nothing-is, took, took_cred, took_verb, verb-is}
use Rattle.shm_wire.proofs.ReplyWords.{reply-is}
use Rattle.shm_wire.specs.Answers.{read_tell_line, tell_line_of_words}
use Rattle.shm_wire.specs.Line.{line_of_words, read_line}
use Rattle.shm_wire.specs.Replies.{reply_of}
use Rattle.shm_wire.specs.Words.{by_verb, nothing}
use Rattle.shm_state.proofs.BookWords.{book-is}
use Rattle.shm_state.proofs.EntryWords.{entry-is}
use Rattle.shm_state.proofs.SetWords.{set}
use Rattle.shm_state.specs.BookWords as books
use Rattle.shm_state.specs.EntryWords as entries
use Rattle.shm_state.specs.Part.{Part, Requests, Calls, Outstanding, Segment, Missing, Kept, Entry, Purged, Attachment, Book}
use Rattle.shm_state.specs.PartWords.{IsPart, attachment_of, book_of, counted_of, entry_of, kept_of, missing_of, outstanding_of, part_line, part_of, part_words, of_calls, of_pages, pages_of, plain_of, purged_of, read_part, segment_of, told_of, told_words}

abbrev ReadsTold : List (List ℕ) → Part → Type 0
ReadsTold words part = Reads IsPart told_words words part

module _ (words : List (List ℕ)) (part : Part) where
  requests-is : counted_of Requests words ≡ Some part → ReadsTold (codes "requests" ∷ words) part
  requests-is h =
      let n = took wide words _ part h in
      let e = ended-is (Requests n.value) part n.others n.gives in
      subst (ReadsTold (codes "requests" ∷ words)) e.1 (n.is, ap (λ l. codes "requests" ∷ l) (onto n.are e.0))

  calls-is : counted_of Calls words ≡ Some part → ReadsTold (codes "calls" ∷ words) part
  calls-is h =
      let n = took wide words _ part h in
      let e = ended-is (Calls n.value) part n.others n.gives in
      subst (ReadsTold (codes "calls" ∷ words)) e.1 (n.is, ap (λ l. codes "calls" ∷ l) (onto n.are e.0))

  outstanding-is : outstanding_of words ≡ Some part → ReadsTold (codes "outstanding" ∷ words) part
  outstanding-is h =
      let n = took wide words _ part h in
      let s = step (call_of n.others) _ part n.gives in
      let r = call-is n.others s.value s.gave in
      subst (ReadsTold (codes "outstanding" ∷ words)) (some-is (Outstanding n.value s.value) part s.gives)
      ((n.is, r.0), ap (λ l. codes "outstanding" ∷ l) (onto n.are r.1))

  segment-is : segment_of words ≡ Some part → ReadsTold (codes "segment" ∷ words) part
  segment-is h =
      let i = took number words _ part h in
      let k = took number i.others _ part i.gives in
      let z = took number k.others _ part k.gives in
      let m = took mode z.others _ part z.gives in
      let o = took_cred m.others _ part m.gives in
      let c = took_cred o.others _ part o.gives in
      let n = took wide c.others _ part c.gives in
      let s = took standing n.others _ part n.gives in
      let made : tables.Segment = record {
        id = i.value;
        key = k.value;
        uid = o.value.uid;
        gid = o.value.gid;
        cuid = c.value.uid;
        cgid = c.value.gid;
        mode = m.value;
        size = z.value;
        nattch = n.value;
        marked = s.value;
      } in
      let e = ended-is (Segment made) part s.others s.gives in
      subst (ReadsTold (codes "segment" ∷ words)) e.1 (
        (i.is, k.is, z.is, m.is, o.is.0, o.is.1, c.is.0, c.is.1, n.is),
        ap (λ l. codes "segment" ∷ l) (onto i.are (onto k.are (onto z.are (onto m.are (onto2 o.are (onto2 c.are (onto n.are (onto s.are e.0)))))))),
      )

  missing-is : missing_of words ≡ Some part → ReadsTold (codes "missing" ∷ words) part
  missing-is h =
      let i = took number words _ part h in
      let s = took set i.others _ part i.gives in
      let e = ended-is (Missing (record { id = i.value; missing = s.value })) part s.others s.gives in
      subst (ReadsTold (codes "missing" ∷ words)) e.1 ((i.is, s.is), ap (λ l. codes "missing" ∷ l) (onto i.are (onto s.are e.0)))

  kept-is : kept_of words ≡ Some part → ReadsTold (codes "kept" ∷ words) part
  kept-is h =
      let t = took number words _ part h in
      let n = took wide t.others _ part t.gives in
      let s = step (reply_of n.others) _ part n.gives in
      let r = reply-is n.others s.value s.gave in
      subst (ReadsTold (codes "kept" ∷ words)) (some-is (Kept t.value n.value s.value) part s.gives)
      ((t.is, n.is, r.0), ap (λ l. codes "kept" ∷ l) (onto t.are (onto n.are r.1)))

  purged-is : purged_of words ≡ Some part → ReadsTold (codes "purged" ∷ words) part
  purged-is h =
      let i = took number words _ part h in
      let e = ended-is (Purged i.value) part i.others i.gives in
      subst (ReadsTold (codes "purged" ∷ words)) e.1 (i.is, ap (λ l. codes "purged" ∷ l) (onto i.are e.0))

  attachment-is : attachment_of words ≡ Some part → ReadsTold (codes "attachment" ∷ words) part
  attachment-is h =
      let n = took number words _ part h in
      let i = took number n.others _ part n.gives in
      let z = took number i.others _ part i.gives in
      let r = took access z.others _ part z.gives in
      let e = ended-is (Attachment n.value (record { id = i.value; size = z.value; ro = r.value })) part r.others r.gives in
      subst (ReadsTold (codes "attachment" ∷ words)) e.1
      ((n.is, i.is, z.is), ap (λ l. codes "attachment" ∷ l) (onto n.are (onto i.are (onto z.are (onto r.are e.0)))))

  entry-part-is : entry_of words ≡ Some part → ReadsTold (codes "entry" ∷ words) part
  entry-part-is h =
      let p = took_page words _ part h in
      let s = step (entries.entry_of p.others) _ part p.gives in
      let r = entry-is p.others s.value s.gave in
      subst (ReadsTold (codes "entry" ∷ words)) (some-is (Entry p.value s.value) part s.gives) ((p.is, r.0), ap (λ l. codes "entry" ∷ l) (onto2 p.are r.1))

  book-part-is : book_of words ≡ Some part → ReadsTold (codes "book" ∷ words) part
  book-part-is h =
      let p = took_page words _ part h in
      let s = step (books.book_of p.others) _ part p.gives in
      let r = book-is p.others s.value s.gave in
      subst (ReadsTold (codes "book" ∷ words)) (some-is (Book p.value s.value) part s.gives) ((p.is, r.0), ap (λ l. codes "book" ∷ l) (onto2 p.are r.1))

sound_calls : Sound IsPart told_words of_calls
sound_calls = (requests-is, (calls-is, (outstanding-is, (segment-is, (missing-is, (kept-is, tt))))))

sound_pages : Sound IsPart told_words of_pages
sound_pages = (purged-is, (attachment-is, (book-part-is, tt)))

pages-is : SoundReader IsPart told_words pages_of
pages-is = by_verb-is IsPart told_words of_pages nothing sound_pages (nothing-is IsPart told_words)

plain-is : SoundReader IsPart told_words plain_of
plain-is = by_verb-is IsPart told_words of_calls pages_of sound_calls pages-is

told-is : (words : List (List ℕ)) (part : Part) → told_of words ≡ Some part → ReadsTold words part
told-is words part h =
    verb-is IsPart told_words (by_verb ((codes "entry", entry_of) ∷ []) plain_of)
    (by_verb-is IsPart told_words ((codes "entry", entry_of) ∷ []) plain_of (entry-part-is, tt) plain-is) words part h

part-is : (words : List (List ℕ)) (part : Part) → part_of words ≡ Some part → Reads IsPart part_words words part
part-is words part h =
    let v = took_verb (codes "state") told_of words part h in
    let r = told-is v.others part v.gives in
    (r.0, v.are ∙ ap (λ l. codes "state" ∷ l) r.1)

pub part-is_spelled : (bytes : List ℕ) (part : Part) → read_part bytes ≡ Some part → IsPart part × (bytes ≡ part_line part)
part-is_spelled bytes part h =
    let r = part-is (words_of bytes) part h in
    (r.0, sym (join_with_byte-slice_split 32 bytes) ∙ ap (join_with_byte 32) r.1)

-- what was read, as the code has it
pub read_proper : {X : Type 0} (view : X → Part) (bytes : List ℕ) (read : Option X) → option_map view read ≡ read_part bytes
    → IfSome read (λ x. IsPart (view x) × (bytes ≡ part_line (view x)))
read_proper view bytes None h = tt
read_proper view bytes (Some x) h = part-is_spelled bytes (view x) (sym h)

-- ---- apart from the stream

pub part-no_line : (bytes : List ℕ) (part : Part) → read_part bytes ≡ Some part → read_line bytes ≡ None
part-no_line bytes part h = ap line_of_words (took_verb (codes "state") told_of (words_of bytes) part h).are

pub part-no_answer : (bytes : List ℕ) (part : Part) → read_part bytes ≡ Some part → read_tell_line bytes ≡ None
part-no_answer bytes part h = ap tell_line_of_words (took_verb (codes "state") told_of (words_of bytes) part h).are
