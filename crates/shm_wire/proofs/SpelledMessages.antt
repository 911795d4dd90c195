-- Messages: what is spelled so is read.
use Rattle.std.proofs.Common.{◌≡◌, ℕ, List, [], ◌∷◌, Some, refl}
use Rattle.std.specs.Prelude.{codes}
use Rattle.std.specs.Fmt.{decimal}
use Rattle.shm_place.specs.declared.page_id.PageId.{PageId}
use Rattle.shm_model.specs.Entry.{Note, Ask, Clear, Cleared, Hand, Page, Confirm}
use Rattle.shm_model.specs.Message.{Message, Of, Call, Replies, Purge, Purged}
use Rattle.shm_lines.proofs.NumberWords.{number, wide}
use Rattle.shm_lines.proofs.StepLemmas.{NoBlanks, NoBlank-test, lt-test}
use Rattle.shm_lines.proofs.CallLemmas.{call-spelled}
use Rattle.shm_wire.proofs.NameWords.{kind}
use Rattle.shm_wire.proofs.PageWords.{page}
use Rattle.shm_wire.proofs.Reading.{prints, Spelled}
use Rattle.shm_wire.proofs.ReplyWords.{reply-spelled}
use Rattle.shm_lines.specs.Calls.{call_words}
use Rattle.shm_wire.specs.Messages.{IsPageId, IsNote, IsMessage, message_words, message_of, next_page, note_words, of_page}
use Rattle.shm_wire.specs.BytesWord.{bytes_word}
use Rattle.shm_wire.specs.Replies.{reply_words}
use Rattle.shm_lines.specs.Words.{IsWide}
use Rattle.shm_wire.specs.Words.{kind_word}

pub prints_page : (p : PageId) (words : List (List ℕ)) → IsPageId p → next_page (decimal p.seg ∷ decimal p.index ∷ words) ≡ Some (p, words)
prints_page p words h = rw (prints number p.seg (decimal p.index ∷ words) h.0, prints number p.index words h.1) refl

unparted_page : (p : PageId) (n : ℕ) (words : List (List ℕ)) → IsPageId p → IsWide n → NoBlanks words → NoBlanks (of_page p n words)
unparted_page p n words h w others = (number.unparted p.seg h.0, (number.unparted p.index h.1, (wide.unparted n w, others)))

module _ (p : PageId) (i : IsPageId p) where
  note-spelled : (note : Note) → IsNote note → Spelled message_of (note_words p note) (Of p note)
  note-spelled (Ask request k) h = record {
    unparted = (NoBlank-test (codes "ask") refl, unparted_page p request (kind_word k ∷ []) i h (kind.unparted k tt, tt));
    back = rw (prints_page p (decimal request ∷ kind_word k ∷ []) i, prints wide request (kind_word k ∷ []) h, prints kind k [] tt) refl;
  }
  note-spelled (Clear n) h = record {
    unparted = (NoBlank-test (codes "clear") refl, unparted_page p n [] i h tt);
    back = rw (prints_page p (decimal n ∷ []) i, prints wide n [] h) refl;
  }
  note-spelled (Cleared n) h = record {
    unparted = (NoBlank-test (codes "cleared") refl, unparted_page p n [] i h tt);
    back = rw (prints_page p (decimal n ∷ []) i, prints wide n [] h) refl;
  }
  note-spelled (Hand n k to) h = record {
    unparted = (NoBlank-test (codes "hand") refl, unparted_page p n (kind_word k ∷ decimal to ∷ []) i h.0 (kind.unparted k tt, (number.unparted to h.1, tt)));
    back = rw (
      prints_page p (decimal n ∷ kind_word k ∷ decimal to ∷ []) i,
      prints wide n (kind_word k ∷ decimal to ∷ []) h.0,
      prints kind k (decimal to ∷ []) tt,
      prints number to [] h.1,
    ) refl;
  }
  note-spelled (Page n k bytes) h = record {
    unparted = (NoBlank-test (codes "page") refl, unparted_page p n (kind_word k ∷ bytes_word bytes ∷ []) i h.0 (kind.unparted k tt, (page.unparted bytes h.2, tt)));
    back = rw (
      prints_page p (decimal n ∷ kind_word k ∷ bytes_word bytes ∷ []) i,
      prints wide n (kind_word k ∷ bytes_word bytes ∷ []) h.0,
      prints kind k (bytes_word bytes ∷ []) tt,
      prints page bytes [] h.2,
      lt-test 0 n h.1,
    ) refl;
  }
  note-spelled (Confirm n) h = record {
    unparted = (NoBlank-test (codes "confirm") refl, unparted_page p n [] i h tt);
    back = rw (prints_page p (decimal n ∷ []) i, prints wide n [] h) refl;
  }

pub message-spelled : (message : Message) → IsMessage message → Spelled message_of (message_words message) message
message-spelled (Of p note) h = note-spelled p h.0 note h.1
message-spelled (Call n op) h =
    let s = call-spelled op h.1 in
    record {
      unparted = (NoBlank-test (codes "call") refl, (wide.unparted n h.0, s.unparted));
      back = rw (prints wide n (call_words op) h.0, s.back) refl;
    }
message-spelled (Replies n reply) h =
    let s = reply-spelled reply h.1 in
    record {
      unparted = (NoBlank-test (codes "reply") refl, (wide.unparted n h.0, s.unparted));
      back = rw (prints wide n (reply_words reply) h.0, s.back) refl;
    }
message-spelled (Purge id) h = record {
  unparted = (NoBlank-test (codes "purge") refl, (number.unparted id h, tt));
  back = rw (prints number id [] h) refl;
}
message-spelled (Purged id) h = record {
  unparted = (NoBlank-test (codes "purged") refl, (number.unparted id h, tt));
  back = rw (prints number id [] h) refl;
}
