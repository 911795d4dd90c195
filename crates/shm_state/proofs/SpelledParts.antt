-- Parts: what is spelled so is read.
use Rattle.std.proofs.Common.{◌≡◌, ℕ, List, [], ◌∷◌, Some, refl, ap, ◌∙◌}
use Rattle.std.specs.Prelude.{codes}
use Rattle.std.specs.Fmt.{decimal}
use Rattle.shm_model.specs.Mode.{mode_word}
use Rattle.shm_place.specs.declared.page_id.PageId.{PageId}
use Rattle.shm_lines.proofs.CallLemmas.{call-spelled}
use Rattle.shm_lines.proofs.NumberWords.{number, wide}
use Rattle.shm_lines.proofs.OneWord.{access, mode}
use Rattle.shm_lines.proofs.StepLemmas.{NoBlank-test, NoBlanks, words_of-join}
use Rattle.shm_lines.specs.Calls.{call_words}
use Rattle.shm_lines.specs.Spelling.{access_word}
use Rattle.shm_wire.proofs.NameWords.{standing}
use Rattle.shm_wire.proofs.Reading.{Spelled, prints, prints_cred}
use Rattle.shm_wire.proofs.ReplyWords.{reply-spelled}
use Rattle.shm_wire.proofs.SpelledMessages.{prints_page}
use Rattle.shm_wire.specs.Messages.{IsPageId}
use Rattle.shm_wire.specs.Replies.{reply_words}
use Rattle.shm_wire.specs.Words.{standing_word}
use Rattle.shm_state.proofs.BookWords.{book-spelled}
use Rattle.shm_state.proofs.EntryWords.{entry-spelled}
use Rattle.shm_state.proofs.SetWords.{set}
use Rattle.shm_state.specs.BookWords.{book_words}
use Rattle.shm_state.specs.EntryWords.{entry_words}
use Rattle.shm_state.specs.Part.{Part, Requests, Calls, Outstanding, Segment, Missing, Kept, Entry, Purged, Attachment, Book}
use Rattle.shm_state.specs.PartWords.{IsPart, of_page, part_line, part_of, read_part, told_of, told_words}
use Rattle.shm_state.specs.SetWord.{set_word}

unparted_page : (p : PageId) (words : List (List ℕ)) → IsPageId p → NoBlanks words → NoBlanks (of_page p words)
unparted_page p words h others = (number.unparted p.seg h.0, (number.unparted p.index h.1, others))

told-spelled : (part : Part) → IsPart part → Spelled told_of (told_words part) part
told-spelled (Requests n) h = record { unparted = (NoBlank-test (codes "requests") refl, (wide.unparted n h, tt)); back = rw (prints wide n [] h) refl }
told-spelled (Calls n) h = record { unparted = (NoBlank-test (codes "calls") refl, (wide.unparted n h, tt)); back = rw (prints wide n [] h) refl }
told-spelled (Outstanding n op) h =
    let s = call-spelled op h.1 in
    record {
      unparted = (NoBlank-test (codes "outstanding") refl, (wide.unparted n h.0, s.unparted));
      back = rw (prints wide n (call_words op) h.0, s.back) refl;
    }
told-spelled (Segment g) h =
    let last = decimal g.cuid ∷ decimal g.cgid ∷ decimal g.nattch ∷ standing_word g.marked ∷ [] in
    let more = mode_word g.mode ∷ decimal g.uid ∷ decimal g.gid ∷ last in
    record {
      unparted = (
        NoBlank-test (codes "segment") refl,
        (
          number.unparted g.id h.0,
          (
            number.unparted g.key h.1,
            (
              number.unparted g.size h.2,
              (
                mode.unparted g.mode h.3,
                (
                  number.unparted g.uid h.4,
                  (
                    number.unparted g.gid h.5,
                    (
                      number.unparted g.cuid h.6,
                      (number.unparted g.cgid h.7, (wide.unparted g.nattch h.8, (standing.unparted g.marked tt, tt))),
                    ),
                  ),
                ),
              ),
            ),
          ),
        ),
      );
      back = rw (
        prints number g.id (decimal g.key ∷ decimal g.size ∷ more) h.0,
        prints number g.key (decimal g.size ∷ more) h.1,
        prints number g.size more h.2,
        prints mode g.mode (decimal g.uid ∷ decimal g.gid ∷ last) h.3,
        prints_cred (record { uid = g.uid; gid = g.gid }) last (h.4, h.5),
        prints_cred (record { uid = g.cuid; gid = g.cgid }) (decimal g.nattch ∷ standing_word g.marked ∷ []) (h.6, h.7),
        prints wide g.nattch (standing_word g.marked ∷ []) h.8,
        prints standing g.marked [] tt,
      ) refl;
    }
told-spelled (Missing purge) h = record {
  unparted = (NoBlank-test (codes "missing") refl, (number.unparted purge.id h.0, (set.unparted purge.missing h.1, tt)));
  back = rw (prints number purge.id (set_word purge.missing ∷ []) h.0, prints set purge.missing [] h.1) refl;
}
told-spelled (Kept site n reply) h =
    let s = reply-spelled reply h.2 in
    record {
      unparted = (NoBlank-test (codes "kept") refl, (number.unparted site h.0, (wide.unparted n h.1, s.unparted)));
      back = rw (prints number site (decimal n ∷ reply_words reply) h.0, prints wide n (reply_words reply) h.1, s.back) refl;
    }
told-spelled (Entry page entry) h =
    let s = entry-spelled entry h.1 in
    record {
      unparted = (NoBlank-test (codes "entry") refl, unparted_page page (entry_words entry) h.0 s.unparted);
      back = rw (prints_page page (entry_words entry) h.0, s.back) refl;
    }
told-spelled (Purged id) h = record { unparted = (NoBlank-test (codes "purged") refl, (number.unparted id h, tt)); back = rw (prints number id [] h) refl }
told-spelled (Attachment n a) h = record {
  unparted = (NoBlank-test (codes "attachment") refl, (number.unparted n h.0, (number.unparted a.id h.1, (number.unparted a.size h.2, (access.unparted a.ro tt, tt)))));
  back = rw (
    prints number n (decimal a.id ∷ decimal a.size ∷ access_word a.ro ∷ []) h.0,
    prints number a.id (decimal a.size ∷ access_word a.ro ∷ []) h.1,
    prints number a.size (access_word a.ro ∷ []) h.2,
    prints access a.ro [] tt,
  ) refl;
}
told-spelled (Book page book) h =
    let s = book-spelled book h.1 in
    record {
      unparted = (NoBlank-test (codes "book") refl, unparted_page page (book_words book) h.0 s.unparted);
      back = rw (prints_page page (book_words book) h.0, s.back) refl;
    }

pub part-is_read : (part : Part) → IsPart part → read_part (part_line part) ≡ Some part
part-is_read part h =
    let s = told-spelled part h in
    ap part_of (words_of-join (codes "state") (told_words part) (NoBlank-test (codes "state") refl) s.unparted) ∙ s.back
