-- Envelopes: what is read is spelled so, and what is spelled so is read.
use Rattle.std.proofs.Common.{◌≡◌, ℕ, List, ◌∷◌, Option, Some, refl, ap, subst, ◌∙◌}
use Rattle.std.specs.Prelude.{codes}
use Rattle.std.specs.Fmt.{decimal}
use Rattle.shm_model.specs.Log.{Stamp}
use Rattle.shm_lines.proofs.NumberWords.{number, wide}
use Rattle.shm_lines.proofs.ReadLemmas.{onto}
use Rattle.shm_lines.proofs.StepLemmas.{step, some-is}
use Rattle.shm_lines.specs.Words.{◌>>=◌}
use Rattle.shm_wire.proofs.MessageWords.{message-is}
use Rattle.shm_wire.proofs.Reading.{took, prints, Reads, SoundWords, Spelled}
use Rattle.shm_wire.proofs.SpelledMessages.{message-spelled}
use Rattle.shm_wire.specs.Messages.{message_of, message_words}
use Rattle.shm_wire.specs.Sent.{Sent, IsSent, IsStamp, envelope_words, next_stamp, sent_of}

-- where an envelope was sent, as it was read
record TookStamp {B : Type 0} (words : List (List ℕ)) (f : Stamp × List (List ℕ) → Option B) (y : B) : Type 0 where
  pub value : Stamp
  pub others : List (List ℕ)
  pub are : words ≡ decimal value.at ∷ decimal value.index ∷ decimal value.place ∷ others
  pub is : IsStamp value
  pub gives : f (value, others) ≡ Some y

took_stamp : {B : Type 0} (words : List (List ℕ)) (f : Stamp × List (List ℕ) → Option B) (y : B) → (next_stamp words >>= f) ≡ Some y → TookStamp words f y
took_stamp words f y h =
    let s = step (next_stamp words) f y h in
    let a = took wide words _ s.value s.gave in
    let i = took wide a.others _ s.value a.gives in
    let p = took wide i.others _ s.value i.gives in
    let stamp : Stamp = record { at = a.value; index = i.value; place = p.value } in
    record {
      value = stamp;
      others = p.others;
      are = onto a.are (onto i.are p.are);
      is = (a.is, i.is, p.is);
      gives = ap f (some-is (stamp, p.others) s.value p.gives) ∙ s.gives;
    }

onto3 : {one two three : List ℕ} {words first others : List (List ℕ)} → first ≡ one ∷ two ∷ three ∷ words → words ≡ others → first ≡ one ∷ two ∷ three ∷ others
onto3 {one} {two} {three} e h = e ∙ ap (λ l. one ∷ two ∷ three ∷ l) h

pub sent-is : SoundWords IsSent envelope_words (codes "env") sent_of
sent-is words sent h =
    let f = took number words _ sent h in
    let t = took number f.others _ sent f.gives in
    let a = took_stamp t.others _ sent t.gives in
    let m = step (message_of a.others) _ sent a.gives in
    let r = message-is a.others m.value m.gave in
    let made : Sent = record { source = a.value; envelope = record { from = f.value; to = t.value; message = m.value } } in
    subst (Reads IsSent envelope_words (codes "env" ∷ words)) (some-is made sent m.gives)
    ((f.is, t.is, a.is, r.0), ap (λ l. codes "env" ∷ l) (onto f.are (onto t.are (onto3 a.are r.1))))

prints_stamp : (stamp : Stamp) (words : List (List ℕ)) → IsStamp stamp → next_stamp (decimal stamp.at ∷ decimal stamp.index ∷ decimal stamp.place ∷ words) ≡ Some (stamp, words)
prints_stamp stamp words h =
    rw (
      prints wide stamp.at (decimal stamp.index ∷ decimal stamp.place ∷ words) h.0,
      prints wide stamp.index (decimal stamp.place ∷ words) h.1,
      prints wide stamp.place words h.2,
    ) refl

-- the words after the first
abbrev pub sent_words : Sent → List (List ℕ)
sent_words sent =
    decimal sent.envelope.from ∷ decimal sent.envelope.to ∷ decimal sent.source.at ∷ decimal sent.source.index ∷ decimal sent.source.place
    ∷ message_words sent.envelope.message

pub sent-spelled : (sent : Sent) → IsSent sent → Spelled sent_of (sent_words sent) sent
sent-spelled sent h =
    let e = sent.envelope in
    let s = sent.source in
    let m = message-spelled e.message h.3 in
    let stamp = decimal s.at ∷ decimal s.index ∷ decimal s.place ∷ message_words e.message in
    record {
      unparted = (
        number.unparted e.from h.0,
        (number.unparted e.to h.1, (wide.unparted s.at h.2.0, (wide.unparted s.index h.2.1, (wide.unparted s.place h.2.2, m.unparted)))),
      );
      back = rw (prints number e.from (decimal e.to ∷ stamp) h.0, prints number e.to stamp h.1, prints_stamp s (message_words e.message) h.2, m.back) refl;
    }
