-- Messages: what is read is spelled so.
use Rattle.std.proofs.Common.{◌≡◌, ℕ, List, [], ◌∷◌, Option, Some, nat_lt, ap, subst, ◌∙◌}
use Rattle.std.specs.Prelude.{codes}
use Rattle.std.specs.Fmt.{decimal}
use Rattle.shm_place.specs.declared.page_id.PageId.{PageId}
use Rattle.shm_model.specs.Entry.{Ask, Clear, Cleared, Hand, Page, Confirm}
use Rattle.shm_model.specs.Message.{Message, Of, Call, Replies, Purge, Purged}
use Rattle.shm_lines.proofs.NumberWords.{number, wide}
use Rattle.shm_lines.proofs.ReadLemmas.{onto, onto2}
use Rattle.shm_lines.proofs.StepLemmas.{step, some-is, lt-true}
use Rattle.shm_lines.specs.Words.{◌>>=◌}
use Rattle.shm_lines.proofs.CallLemmas.{call-is}
use Rattle.shm_wire.proofs.NameWords.{kind}
use Rattle.shm_wire.proofs.PageWords.{page}
use Rattle.shm_wire.proofs.Reading.{took, ended-is, cond-of, Reads, Sound, SoundReader, by_verb-is, nothing-is, verb-is}
use Rattle.shm_wire.proofs.ReplyWords.{reply-is}
use Rattle.shm_lines.specs.Calls.{call_of}
use Rattle.shm_wire.specs.Messages.{IsPageId, IsMessage, message_words, next_page, ask_of, numbered_of, hand_of, page_of, called_of, replied_of, of_segment, plain, plain_of, message_of}
use Rattle.shm_wire.specs.Replies.{reply_of}
use Rattle.shm_wire.specs.Words.{by_verb, ended, nothing}

-- a page that was read
pub record TookPage {B : Type 0} (words : List (List ℕ)) (f : PageId × List (List ℕ) → Option B) (y : B) : Type 0 where
  pub value : PageId
  pub others : List (List ℕ)
  pub are : words ≡ decimal value.seg ∷ decimal value.index ∷ others
  pub is : IsPageId value
  pub gives : f (value, others) ≡ Some y

pub took_page : {B : Type 0} (words : List (List ℕ)) (f : PageId × List (List ℕ) → Option B) (y : B) → (next_page words >>= f) ≡ Some y → TookPage words f y
took_page words f y h =
    let s = step (next_page words) f y h in
    let a = took number words _ s.value s.gave in
    let b = took number a.others _ s.value a.gives in
    let pair = some-is (record { seg = a.value; index = b.value }, b.others) s.value b.gives in
    record {
      value = record { seg = a.value; index = b.value };
      others = b.others;
      are = onto a.are b.are;
      is = (a.is, b.is);
      gives = ap f pair ∙ s.gives;
    }

abbrev ReadsMessage : List (List ℕ) → Message → Type 0
ReadsMessage words message = Reads IsMessage message_words words message

module _ (words : List (List ℕ)) (message : Message) where
  ask-is : ask_of words ≡ Some message → ReadsMessage (codes "ask" ∷ words) message
  ask-is h =
      let p = took_page words _ message h in
      let n = took wide p.others _ message p.gives in
      let k = took kind n.others _ message n.gives in
      let e = ended-is (Of p.value (Ask n.value k.value)) message k.others k.gives in
      subst (ReadsMessage (codes "ask" ∷ words)) e.1 ((p.is, n.is), ap (λ l. codes "ask" ∷ l) (onto2 p.are (onto n.are (onto k.are e.0))))

  hand-is : hand_of words ≡ Some message → ReadsMessage (codes "hand" ∷ words) message
  hand-is h =
      let p = took_page words _ message h in
      let n = took wide p.others _ message p.gives in
      let k = took kind n.others _ message n.gives in
      let t = took number k.others _ message k.gives in
      let e = ended-is (Of p.value (Hand n.value k.value t.value)) message t.others t.gives in
      subst (ReadsMessage (codes "hand" ∷ words)) e.1 ((p.is, (n.is, t.is)), ap (λ l. codes "hand" ∷ l) (onto2 p.are (onto n.are (onto k.are (onto t.are e.0)))))

  page-is : page_of words ≡ Some message → ReadsMessage (codes "page" ∷ words) message
  page-is h =
      let p = took_page words _ message h in
      let n = took wide p.others _ message p.gives in
      let k = took kind n.others _ message n.gives in
      let b = took page k.others _ message k.gives in
      let c = cond-of (nat_lt 0 n.value) (ended (Of p.value (Page n.value k.value b.value)) b.others) message b.gives in
      let e = ended-is (Of p.value (Page n.value k.value b.value)) message b.others c.1 in
      subst (ReadsMessage (codes "page" ∷ words)) e.1 (
        (p.is, (n.is, lt-true 0 n.value c.0, b.is)),
        ap (λ l. codes "page" ∷ l) (onto2 p.are (onto n.are (onto k.are (onto b.are e.0)))),
      )

  called-is : called_of words ≡ Some message → ReadsMessage (codes "call" ∷ words) message
  called-is h =
      let n = took wide words _ message h in
      let s = step (call_of n.others) _ message n.gives in
      let r = call-is n.others s.value s.gave in
      subst (ReadsMessage (codes "call" ∷ words)) (some-is (Call n.value s.value) message s.gives) ((n.is, r.0), ap (λ l. codes "call" ∷ l) (onto n.are r.1))

  replied-is : replied_of words ≡ Some message → ReadsMessage (codes "reply" ∷ words) message
  replied-is h =
      let n = took wide words _ message h in
      let s = step (reply_of n.others) _ message n.gives in
      let r = reply-is n.others s.value s.gave in
      subst (ReadsMessage (codes "reply" ∷ words)) (some-is (Replies n.value s.value) message s.gives) ((n.is, r.0), ap (λ l. codes "reply" ∷ l) (onto n.are r.1))

  clear-is : numbered_of Clear words ≡ Some message → ReadsMessage (codes "clear" ∷ words) message
  clear-is h =
      let p = took_page words _ message h in
      let n = took wide p.others _ message p.gives in
      let e = ended-is (Of p.value (Clear n.value)) message n.others n.gives in
      subst (ReadsMessage (codes "clear" ∷ words)) e.1 ((p.is, n.is), ap (λ l. codes "clear" ∷ l) (onto2 p.are (onto n.are e.0)))

  cleared-is : numbered_of Cleared words ≡ Some message → ReadsMessage (codes "cleared" ∷ words) message
  cleared-is h =
      let p = took_page words _ message h in
      let n = took wide p.others _ message p.gives in
      let e = ended-is (Of p.value (Cleared n.value)) message n.others n.gives in
      subst (ReadsMessage (codes "cleared" ∷ words)) e.1 ((p.is, n.is), ap (λ l. codes "cleared" ∷ l) (onto2 p.are (onto n.are e.0)))

  confirm-is : numbered_of Confirm words ≡ Some message → ReadsMessage (codes "confirm" ∷ words) message
  confirm-is h =
      let p = took_page words _ message h in
      let n = took wide p.others _ message p.gives in
      let e = ended-is (Of p.value (Confirm n.value)) message n.others n.gives in
      subst (ReadsMessage (codes "confirm" ∷ words)) e.1 ((p.is, n.is), ap (λ l. codes "confirm" ∷ l) (onto2 p.are (onto n.are e.0)))

  purge-is : of_segment Purge words ≡ Some message → ReadsMessage (codes "purge" ∷ words) message
  purge-is h =
      let i = took number words _ message h in
      let e = ended-is (Purge i.value) message i.others i.gives in
      subst (ReadsMessage (codes "purge" ∷ words)) e.1 (i.is, ap (λ l. codes "purge" ∷ l) (onto i.are e.0))

  purged-is : of_segment Purged words ≡ Some message → ReadsMessage (codes "purged" ∷ words) message
  purged-is h =
      let i = took number words _ message h in
      let e = ended-is (Purged i.value) message i.others i.gives in
      subst (ReadsMessage (codes "purged" ∷ words)) e.1 (i.is, ap (λ l. codes "purged" ∷ l) (onto i.are e.0))

sound_plain : Sound IsMessage message_words plain
sound_plain = (
  ask-is,
  (clear-is, (cleared-is, (hand-is, (confirm-is, (called-is, (replied-is, (purge-is, (purged-is, tt)))))))),
)

plain-is : SoundReader IsMessage message_words plain_of
plain-is = by_verb-is IsMessage message_words plain nothing sound_plain (nothing-is IsMessage message_words)

pub message-is : (words : List (List ℕ)) (message : Message) → message_of words ≡ Some message → ReadsMessage words message
message-is words message h =
    verb-is IsMessage message_words (by_verb ((codes "page", page_of) ∷ []) plain_of)
    (by_verb-is IsMessage message_words ((codes "page", page_of) ∷ []) plain_of (page-is, tt) plain-is) words message h
