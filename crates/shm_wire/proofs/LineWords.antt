-- Lines that tell a site something: each that is read is spelled so, and each that is spelled so is read. None is also an answer.
use Rattle.std.proofs.Common.{◌≡◌, ℕ, Bool, true, false, List, [], ◌∷◌, Option, None, Some, cond, length, refl, sym, ap, subst, ◌∙◌}
use Rattle.std.specs.Prelude.{codes, IfSome, option_map}
use Rattle.std.specs.Fmt.{decimal}
use Rattle.std.specs.List.{join_with_byte}
use Rattle.std.specs.Str.{bytes_eq}
use Rattle.std.proofs.lemmas.List.Splits.{join_with_byte-slice_split}
use Rattle.std.proofs.lemmas.Slice.Eq.{bytes_eq-Decides}
use Rattle.shm_lines.proofs.NumberWords.{number}
use Rattle.shm_lines.proofs.ReadLemmas.{onto}
use Rattle.shm_lines.proofs.StepLemmas.{some-is, step, NoBlank-test, words_of-join}
use Rattle.shm_lines.specs.Spelling.{IsNumber}
use Rattle.shm_lines.specs.Words.{words_of}
use Rattle.shm_wire.proofs.AskWords.{asked-is}
use Rattle.shm_wire.proofs.BytesWords.{base64}
use Rattle.shm_wire.proofs.Reading.{Reads, Sound, SoundWords, by_verb-is, cond-of, ended-is, nothing-is, prints, took, took_verb, verb-is}
use Rattle.shm_wire.proofs.SentWords.{sent-is, sent-spelled, sent_words}
use Rattle.shm_wire.proofs.SpelledAsks.{asked-spelled, behind}
use Rattle.shm_wire.proofs.TagWords.{tag}
use Rattle.shm_wire.proofs.UnmapWords.{mapping-spelled, sync-is, unmap-is}
use Rattle.shm_wire.specs.Answers.{TellLine, tell_line_after, tell_line_of_words, read_tell_line}
use Rattle.shm_wire.specs.Asks as asks
use Rattle.shm_wire.specs.Asks.{ask_under, asked_by, asked_words, is_block}
use Rattle.shm_wire.specs.BytesWord.{bytes_word}
use Rattle.shm_wire.specs.Line.{Line, Envelope, Ask, Write, Unmap, IsLine, asked_of, line_of_words, line_text, line_words, lines, read_line}
use Rattle.shm_wire.specs.Sent.{sent_of}
use Rattle.shm_wire.specs.Tag.{IsTag}
use Rattle.shm_wire.specs.Unmaps.{mapping_words, run_words, sync_of, unmap_of}
use Rattle.shm_wire.specs.Words.{by_verb, ended, nothing}
use Rattle.shm_wire.specs.Writes.{WriteAsk, stores_of}

-- what an option that was mapped held
record Mapped {A B : Type 0} (f : A → B) (o : Option A) (y : B) : Type 0 where
  pub value : A
  pub gave : o ≡ Some value
  pub gives : f value ≡ y

mapped : {A B : Type 0} (f : A → B) (o : Option A) (y : B) → option_map f o ≡ Some y → Mapped f o y
mapped f None y h = absurd (cc)
mapped f (Some x) y h = record { value = x; gave = refl; gives = some-is (f x) y h }

envelope-is : SoundWords IsLine line_words (codes "env") (λ words. option_map Envelope (sent_of words))
envelope-is words line h =
    let m = mapped Envelope (sent_of words) line h in
    subst (Reads IsLine line_words (codes "env" ∷ words)) m.gives (sent-is words m.value m.gave)

-- the words behind a site and a tag
module _ (site : ℕ) (name : List ℕ) (is_site : IsNumber site) (is_name : IsTag name) where
  abbrev Behind : List (List ℕ) → Line → Type 0
  Behind words line = Reads IsLine line_words (codes "ask" ∷ decimal site ∷ name ∷ words) line

  under : {words others : List (List ℕ)} → words ≡ others → codes "ask" ∷ decimal site ∷ name ∷ words ≡ codes "ask" ∷ decimal site ∷ name ∷ others
  under e = ap (λ l. codes "ask" ∷ decimal site ∷ name ∷ l) e

  write-is : (words : List (List ℕ)) (line : Line) → option_map Write (stores_of site name words) ≡ Some line → Behind (codes "write" ∷ words) line
  write-is words line h =
      let m = mapped Write (stores_of site name words) line h in
      let a = took number words _ m.value m.gave in
      let o = took number a.others _ m.value a.gives in
      let b = took base64 o.others _ m.value o.gives in
      let made : WriteAsk = record { site = site; tag = name; at = a.value; offset = o.value; bytes = b.value } in
      let c = cond-of (is_block o.value (length b.value)) (ended made b.others) m.value b.gives in
      let e = ended-is made m.value b.others c.1 in
      subst (Behind (codes "write" ∷ words)) (ap Write e.1 ∙ m.gives)
      ((is_site, is_name, a.is, o.is, c.0, b.is), under (ap (λ l. codes "write" ∷ l) (onto a.are (onto o.are (onto b.are e.0)))))

  given-is : (words : List (List ℕ)) (line : Line) → option_map Unmap (unmap_of site name words) ≡ Some line → Behind (codes "unmap" ∷ words) line
  given-is words line h =
      let m = mapped Unmap (unmap_of site name words) line h in
      subst (Behind (codes "unmap" ∷ words)) m.gives (unmap-is site name is_site is_name words m.value m.gave)

  brought-is : (words : List (List ℕ)) (line : Line) → option_map Unmap (sync_of site name words) ≡ Some line → Behind (codes "sync" ∷ words) line
  brought-is words line h =
      let m = mapped Unmap (sync_of site name words) line h in
      subst (Behind (codes "sync" ∷ words)) m.gives (sync-is site name is_site is_name words m.value m.gave)

  other-is : (verb : List ℕ) (words : List (List ℕ)) (line : Line) → option_map Ask (ask_under site name verb words) ≡ Some line → Behind (verb ∷ words) line
  other-is verb words line h =
      let m = mapped Ask (ask_under site name verb words) line h in
      let s = step (asked_by verb words) _ m.value m.gave in
      let r = asked-is verb words s.value s.gave in
      let made : asks.Ask = record { site = site; tag = name; asked = s.value } in
      subst (Behind (verb ∷ words)) (ap Ask (some-is made m.value s.gives) ∙ m.gives) ((is_site, is_name, r.0), under r.1)

  -- a word that isn't one of these verbs is looked for among the others
  verb-cases : (b : Bool) (name : List ℕ) (mine rest : Option Line) (verb : List ℕ) (words : List (List ℕ)) (line : Line) → bytes_eq verb name ≡ b
      → (mine ≡ Some line → Behind (name ∷ words) line) → (rest ≡ Some line → Behind (verb ∷ words) line) → cond b mine rest ≡ Some line
      → Behind (verb ∷ words) line
  verb-cases true name mine rest verb words line e is others h = subst (λ v. Behind (v ∷ words) line) (sym ((bytes_eq-Decides verb name).0 e)) (is h)
  verb-cases false name mine rest verb words line e is others h = others h

  behind-is : (words : List (List ℕ)) (line : Line) → behind site name words ≡ Some line → Behind words line
  behind-is [] line h = absurd (cc)
  behind-is (verb ∷ words) line h =
      let others : Option Line = option_map Ask (ask_under site name verb words) in
      let syncs : Option Line = option_map Unmap (sync_of site name words) in
      let unmaps : Option Line = option_map Unmap (unmap_of site name words) in
      let writes : Option Line = option_map Write (stores_of site name words) in
      let after_sync : Option Line = cond (bytes_eq verb (codes "sync")) syncs others in
      let after_unmap : Option Line = cond (bytes_eq verb (codes "unmap")) unmaps after_sync in
      verb-cases (bytes_eq verb (codes "write")) (codes "write") writes after_unmap verb words line refl (write-is words line)
      (verb-cases (bytes_eq verb (codes "unmap")) (codes "unmap") unmaps after_sync verb words line refl (given-is words line)
      (verb-cases (bytes_eq verb (codes "sync")) (codes "sync") syncs others verb words line refl (brought-is words line) (other-is verb words line))) h

asked-are : SoundWords IsLine line_words (codes "ask") asked_of
asked-are words line h =
    let s = took number words _ line h in
    let t = took tag s.others _ line s.gives in
    subst (λ l. Reads IsLine line_words (codes "ask" ∷ l) line) (sym (onto s.are t.are)) (behind-is s.value t.value s.is t.is t.others line t.gives)

sound : Sound IsLine line_words lines
sound = (envelope-is, (asked-are, tt))

words-are : (words : List (List ℕ)) (line : Line) → line_of_words words ≡ Some line → Reads IsLine line_words words line
words-are words line h =
    verb-is IsLine line_words (by_verb lines nothing) (by_verb-is IsLine line_words lines nothing sound (nothing-is IsLine line_words)) words line h

pub line-is_spelled : (bytes : List ℕ) (line : Line) → read_line bytes ≡ Some line → IsLine line × (bytes ≡ line_text line)
line-is_spelled bytes line h =
    let r = words-are (words_of bytes) line h in
    (r.0, sym (join_with_byte-slice_split 32 bytes) ∙ ap (join_with_byte 32) r.1)

-- what was read, as the code has it
pub read_proper : {X : Type 0} (view : X → Line) (bytes : List ℕ) (read : Option X) → option_map view read ≡ read_line bytes
    → IfSome read (λ x. IsLine (view x) × (bytes ≡ line_text (view x)))
read_proper view bytes None h = tt
read_proper view bytes (Some x) h = line-is_spelled bytes (view x) (sym h)

pub line-is_read : (line : Line) → IsLine line → read_line (line_text line) ≡ Some line
line-is_read (Envelope e) h =
    let s = sent-spelled e h in
    ap line_of_words (words_of-join (codes "env") (sent_words e) (NoBlank-test (codes "env") refl) s.unparted) ∙ ap (option_map Envelope) s.back
line-is_read (Ask ask) h =
    let s = asked-spelled ask.site ask.tag ask.asked h.2 in
    let words = decimal ask.site ∷ ask.tag ∷ asked_words ask.asked in
    ap line_of_words (words_of-join (codes "ask") words (NoBlank-test (codes "ask") refl) (number.unparted ask.site h.0, (tag.unparted ask.tag h.1, s.unparted)))
    ∙ rw (prints number ask.site (ask.tag ∷ asked_words ask.asked) h.0, prints tag ask.tag (asked_words ask.asked) h.1, s.back) refl
line-is_read (Write w) h =
    let bytes_are = bytes_word w.bytes ∷ [] in
    let where_are = decimal w.at ∷ decimal w.offset ∷ bytes_are in
    let words = decimal w.site ∷ w.tag ∷ codes "write" ∷ where_are in
    ap line_of_words (words_of-join (codes "ask") words (NoBlank-test (codes "ask") refl) (
      number.unparted w.site h.0,
      (
        tag.unparted w.tag h.1,
        (
          NoBlank-test (codes "write") refl,
          (number.unparted w.at h.2, (number.unparted w.offset h.3, (base64.unparted w.bytes h.5, tt))),
        ),
      ),
    ))
    ∙ rw (
      prints number w.site (w.tag ∷ codes "write" ∷ where_are) h.0,
      prints tag w.tag (codes "write" ∷ where_are) h.1,
      prints number w.at (decimal w.offset ∷ bytes_are) h.2,
      prints number w.offset bytes_are h.3,
      prints base64 w.bytes [] h.5,
      h.4,
    ) refl
line-is_read (Unmap u) h =
    let given = mapping_words u.at u.index u.keeps (run_words u.runs) in
    let s = mapping-spelled u.site u.tag u.at u.index u.keeps u.runs h.2 h.3 h.4 in
    let words = decimal u.site ∷ u.tag ∷ given in
    ap line_of_words (words_of-join (codes "ask") words (NoBlank-test (codes "ask") refl) (number.unparted u.site h.0, (tag.unparted u.tag h.1, s.unparted)))
    ∙ rw (prints number u.site (u.tag ∷ given) h.0, prints tag u.tag given h.1, s.back) refl

-- ---- apart from answers

pub line-alone : (bytes : List ℕ) (line : Line) → read_line bytes ≡ Some line → read_tell_line bytes ≡ None
line-alone bytes (Envelope e) h = ap tell_line_of_words (words-are (words_of bytes) (Envelope e) h).1
line-alone bytes (Ask ask) h = ap tell_line_of_words (words-are (words_of bytes) (Ask ask) h).1
line-alone bytes (Write w) h = ap tell_line_of_words (words-are (words_of bytes) (Write w) h).1
line-alone bytes (Unmap u) h = ap tell_line_of_words (words-are (words_of bytes) (Unmap u) h).1

pub answer-alone : (bytes : List ℕ) (answer : TellLine) → read_tell_line bytes ≡ Some answer → read_line bytes ≡ None
answer-alone bytes answer h = ap line_of_words (took_verb (codes "tell") tell_line_after (words_of bytes) answer h).are
