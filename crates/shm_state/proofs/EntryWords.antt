-- What a site has of a page: what is read is spelled so, and what is spelled so is read.
use Rattle.std.proofs.Common.{◌≡◌, ℕ, List, [], ◌∷◌, Some, refl, ap, subst, ◌∙◌}
use Rattle.std.specs.Prelude.{codes}
use Rattle.std.specs.Fmt.{decimal}
use Rattle.shm_model.specs.Entry.{Entry, Nil, Copy, OwnRead, OwnWrite, Handed}
use Rattle.shm_lines.proofs.NumberWords.{number, wide}
use Rattle.shm_lines.proofs.ReadLemmas.{onto}
use Rattle.shm_lines.proofs.StepLemmas.{NoBlank-test, some-is, step}
use Rattle.shm_lines.specs.Words.{IsWide}
use Rattle.shm_wire.proofs.PageWords.{page}
use Rattle.shm_wire.proofs.Reading.{Reads, Sound, Spelled, by_verb-is, ended-is, nothing-is, prints, took, verb-is}
use Rattle.shm_wire.specs.BytesWord.{bytes_word}
use Rattle.shm_wire.specs.PageWord.{IsPage}
use Rattle.shm_wire.specs.Words.{by_verb, nothing}
use Rattle.shm_state.specs.EntryWords.{IsEntry, entry_of, entry_words, filled_of, gone_of, handed_of, numbered_bytes_of, standings}

-- a number and a page's bytes, as they were read, and the entry that they made
record TookBytes (make : ℕ → List ℕ → Entry) (words : List (List ℕ)) (entry : Entry) : Type 0 where
  pub number : ℕ
  pub bytes : List ℕ
  pub is : IsWide number × IsPage bytes
  pub are : words ≡ decimal number ∷ bytes_word bytes ∷ []
  pub made : make number bytes ≡ entry

took_bytes : (make : ℕ → List ℕ → Entry) (words : List (List ℕ)) (entry : Entry) → filled_of make words ≡ Some entry → TookBytes make words entry
took_bytes make words entry h =
    let s = step (numbered_bytes_of words) _ entry h in
    let n = took wide words _ s.value s.gave in
    let b = took page n.others _ s.value n.gives in
    let e = ended-is (n.value, b.value) s.value b.others b.gives in
    record {
      number = n.value;
      bytes = b.value;
      is = (n.is, b.is);
      are = onto n.are (onto b.are e.0);
      made = ap (λ (q : ℕ × List ℕ). make q.0 q.1) e.1 ∙ some-is (make s.value.0 s.value.1) entry s.gives;
    }

module _ (words : List (List ℕ)) (entry : Entry) where
  gone-is : gone_of words ≡ Some entry → Reads IsEntry entry_words (codes "gone" ∷ words) entry
  gone-is h =
      let n = took wide words _ entry h in
      let e = ended-is (Nil n.value) entry n.others n.gives in
      subst (Reads IsEntry entry_words (codes "gone" ∷ words)) e.1 (n.is, ap (λ l. codes "gone" ∷ l) (onto n.are e.0))

  copy-is : filled_of Copy words ≡ Some entry → Reads IsEntry entry_words (codes "copy" ∷ words) entry
  copy-is h = let t = took_bytes Copy words entry h in subst (Reads IsEntry entry_words (codes "copy" ∷ words)) t.made (t.is, ap (λ l. codes "copy" ∷ l) t.are)

  own_read-is : filled_of OwnRead words ≡ Some entry → Reads IsEntry entry_words (codes "own-read" ∷ words) entry
  own_read-is h =
      let t = took_bytes OwnRead words entry h in
      subst (Reads IsEntry entry_words (codes "own-read" ∷ words)) t.made (t.is, ap (λ l. codes "own-read" ∷ l) t.are)

  own_write-is : filled_of OwnWrite words ≡ Some entry → Reads IsEntry entry_words (codes "own-write" ∷ words) entry
  own_write-is h =
      let t = took_bytes OwnWrite words entry h in
      subst (Reads IsEntry entry_words (codes "own-write" ∷ words)) t.made (t.is, ap (λ l. codes "own-write" ∷ l) t.are)

  handed-is : handed_of words ≡ Some entry → Reads IsEntry entry_words (codes "handed" ∷ words) entry
  handed-is h =
      let n = took wide words _ entry h in
      let t = took number n.others _ entry n.gives in
      let b = took page t.others _ entry t.gives in
      let e = ended-is (Handed n.value t.value b.value) entry b.others b.gives in
      subst (Reads IsEntry entry_words (codes "handed" ∷ words)) e.1 ((n.is, t.is, b.is), ap (λ l. codes "handed" ∷ l) (onto n.are (onto t.are (onto b.are e.0))))

sound : Sound IsEntry entry_words standings
sound = (gone-is, (copy-is, (own_read-is, (own_write-is, (handed-is, tt)))))

pub entry-is : (words : List (List ℕ)) (entry : Entry) → entry_of words ≡ Some entry → Reads IsEntry entry_words words entry
entry-is words entry h =
    verb-is IsEntry entry_words (by_verb standings nothing) (by_verb-is IsEntry entry_words standings nothing sound (nothing-is IsEntry entry_words)) words entry h

pub entry-spelled : (entry : Entry) → IsEntry entry → Spelled entry_of (entry_words entry) entry
entry-spelled (Nil n) h = record { unparted = (NoBlank-test (codes "gone") refl, (wide.unparted n h, tt)); back = rw (prints wide n [] h) refl }
entry-spelled (Copy n b) h = record {
  unparted = (NoBlank-test (codes "copy") refl, (wide.unparted n h.0, (page.unparted b h.1, tt)));
  back = rw (prints wide n (bytes_word b ∷ []) h.0, prints page b [] h.1) refl;
}
entry-spelled (OwnRead n b) h = record {
  unparted = (NoBlank-test (codes "own-read") refl, (wide.unparted n h.0, (page.unparted b h.1, tt)));
  back = rw (prints wide n (bytes_word b ∷ []) h.0, prints page b [] h.1) refl;
}
entry-spelled (OwnWrite n b) h = record {
  unparted = (NoBlank-test (codes "own-write") refl, (wide.unparted n h.0, (page.unparted b h.1, tt)));
  back = rw (prints wide n (bytes_word b ∷ []) h.0, prints page b [] h.1) refl;
}
entry-spelled (Handed n to b) h = record {
  unparted = (NoBlank-test (codes "handed") refl, (wide.unparted n h.0, (number.unparted to h.1, (page.unparted b h.2, tt))));
  back = rw (prints wide n (decimal to ∷ bytes_word b ∷ []) h.0, prints number to (bytes_word b ∷ []) h.1, prints page b [] h.2) refl;
}
