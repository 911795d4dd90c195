-- The lines of a state: what is read is spelled so, what is spelled so is read, and none is an entry.
use Rattle.std.proofs.Common.{◌≡◌, ◌≤◌, ℕ, Bool, true, false, List, [], ◌∷◌, Option, None, Some, cond, nat_lt, refl, sym, ap, subst, ◌∙◌, arith}
use Rattle.std.specs.Prelude.{codes, IfSome, option_and_then, option_map}
use Rattle.std.specs.Fmt.{decimal}
use Rattle.std.specs.List.{join_with_byte}
use Rattle.std.proofs.lemmas.Bool.Decides.{nat_tests}
use Rattle.std.proofs.lemmas.List.Splits.{join_with_byte-slice_split}
use Rattle.shm_lines.proofs.NumberWords.{number, wide}
use Rattle.shm_lines.proofs.ReadLemmas.{onto, onto2}
use Rattle.shm_lines.proofs.StepLemmas.{NoBlanks, NoBlank-test, some-is, step, words_of-join}
use Rattle.shm_lines.specs.Words.{◌>>=◌, IsWide, words_of}
use Rattle.shm_wire.proofs.MessageWords.{took_page}
use Rattle.shm_wire.proofs.NameWords.{kind}
use Rattle.shm_wire.proofs.Reading.{Reads, after_verb, by_verb-is, ended-is, nothing-is, prints, took, took_verb, verb-is}
use Rattle.shm_wire.proofs.SpelledMessages.{prints_page}
use Rattle.shm_wire.proofs.TagWords.{tag}
use Rattle.shm_wire.specs.Tag.{IsTag, tag_of}
use Rattle.shm_wire.specs.Words.{Verbs, by_verb, kind_word, nothing}
use Rattle.shm_wire.specs.declared.mapping_text.Mapping.{Mapping}
use Rattle.shm_state.proofs.PartWords.{part-is_spelled}
use Rattle.shm_state.proofs.SpelledParts.{part-is_read}
use Rattle.shm_state.specs.Part.{Part}
use Rattle.shm_state.specs.PartWords as parts
use Rattle.shm_state.specs.PartWords.{part_line, part_of, read_part, told_words}
use Rattle.shm_process.specs.Recorded.{Entry}
use Rattle.shm_journal.specs.Lines.{Written, read_cause, read_entry, written_after}
use Rattle.shm_journal.specs.StateLines.{Ending, StateLine, OfPart, OfMapping, OfEnding, IsEnding, IsMapping, IsStateLine, caller_after, caller_words, ending_of, ending_words, mapped_words, mapping_of, or_further, read_further, read_state, state_line, told_of}

-- ---- the words behind `state`

abbrev further_words : StateLine → List (List ℕ)
further_words (OfPart part) = told_words part
further_words (OfMapping m) = mapped_words m
further_words (OfEnding ending) = ending_words ending

state_line-is : (s : StateLine) → state_line s ≡ join_with_byte 32 (codes "state" ∷ further_words s)
state_line-is (OfPart part) = refl
state_line-is (OfMapping m) = refl
state_line-is (OfEnding ending) = refl

abbrev ReadsFurther : List (List ℕ) → StateLine → Type 0
ReadsFurther words s = Reads IsStateLine further_words words s

mapping-is : (words : List (List ℕ)) (s : StateLine) → mapping_of words ≡ Some s → ReadsFurther (codes "mapped" ∷ words) s
mapping-is words s h =
    let a = took number words _ s h in
    let p = took_page a.others _ s a.gives in
    let k = took kind p.others _ s p.gives in
    let made : Mapping = record { at = a.value; page = p.value; kind = k.value } in
    let e = ended-is (OfMapping made) s k.others k.gives in
    subst (ReadsFurther (codes "mapped" ∷ words)) e.1 ((a.is, p.is), ap (λ l. codes "mapped" ∷ l) (onto a.are (onto2 p.are (onto k.are e.0))))

-- ---- the end of a state

one-tag : (word : List ℕ) (read : Option (List ℕ)) (caller : Option (List ℕ)) → tag_of word ≡ read → option_map Some read ≡ Some caller
    → (word ∷ [] ≡ caller_words caller) × IfSome caller IsTag
one-tag word None caller is h = absurd (cc)
one-tag word (Some t) caller is h =
    let r = tag.reads word t is in
    let same : Some t ≡ caller = cc in
    subst (λ c. (word ∷ [] ≡ caller_words c) × IfSome c IsTag) same (ap (λ w. w ∷ []) r.0, r.1)

caller-is : (words : List (List ℕ)) (caller : Option (List ℕ)) → caller_after words ≡ Some caller → (words ≡ caller_words caller) × IfSome caller IsTag
caller-is [] caller h =
    let none : Option (List ℕ) = None in
    let same : none ≡ caller = cc in
    subst (λ c. ([] ≡ caller_words c) × IfSome c IsTag) same (refl, tt)
caller-is (word ∷ []) caller h = one-tag word (tag_of word) caller refl h
caller-is (word ∷ other ∷ words) caller h = absurd (cc)

not-less : (a b : ℕ) → nat_lt a b ≡ false → b ≤ a
not-less a b h = grind (arith, nat_tests)

less-not : (a b : ℕ) → b ≤ a → nat_lt a b ≡ false
less-not a b h = grind (arith, nat_tests)

unless-some : (b : Bool) (made s : StateLine) → cond b None (Some made) ≡ Some s → (b ≡ false) × (made ≡ s)
unless-some true made s h = absurd (cc)
unless-some false made s h = (refl, cc)

ending-is : (words : List (List ℕ)) (s : StateLine) → ending_of words ≡ Some s → ReadsFurther (codes "clock" ∷ words) s
ending-is words s h =
    let c = took wide words _ s h in
    let n = took wide c.others _ s c.gives in
    let t = step (caller_after n.others) _ s n.gives in
    let made : Ending = record { clock = c.value; steps = n.value; caller = t.value } in
    let u = caller-is n.others t.value t.gave in
    let e = unless-some (nat_lt c.value n.value) (OfEnding made) s t.gives in
    subst (ReadsFurther (codes "clock" ∷ words)) e.1
    ((c.is, not-less c.value n.value e.0, u.1), ap (λ l. codes "clock" ∷ l) (onto c.are (onto n.are u.0)))

-- ---- what is read is spelled so

abbrev further_verbs : Verbs StateLine
further_verbs = (codes "mapped", mapping_of) ∷ (codes "clock", ending_of) ∷ []

told-is : (words : List (List ℕ)) (s : StateLine) → told_of words ≡ Some s → ReadsFurther words s
told-is words s h =
    verb-is IsStateLine further_words (by_verb further_verbs nothing)
    (by_verb-is IsStateLine further_words further_verbs nothing (mapping-is, (ending-is, tt)) (nothing-is IsStateLine further_words)) words s h

further-is : (line : List ℕ) (s : StateLine) → read_further line ≡ Some s → IsStateLine s × (line ≡ state_line s)
further-is line s h =
    let v = took_verb (codes "state") told_of (words_of line) s h in
    let r = told-is v.others s v.gives in
    let words : words_of line ≡ codes "state" ∷ further_words s = v.are ∙ ap (λ l. codes "state" ∷ l) r.1 in
    (r.0, sym (join_with_byte-slice_split 32 line) ∙ ap (join_with_byte 32) words ∙ sym (state_line-is s))

either-is : (line : List ℕ) (read : Option Part) (s : StateLine) → read_part line ≡ read → or_further line read ≡ Some s → IsStateLine s × (line ≡ state_line s)
either-is line (Some part) s e h =
    subst (λ x. IsStateLine x × (line ≡ state_line x)) (some-is (OfPart part) s h) (part-is_spelled line part e)
either-is line None s e h = further-is line s h

pub state-is_spelled : (line : List ℕ) (s : StateLine) → read_state line ≡ Some s → IsStateLine s × (line ≡ state_line s)
state-is_spelled line s h = either-is line (read_part line) s refl h

-- ---- what is spelled so is read

caller-prints : (caller : Option (List ℕ)) → IfSome caller IsTag → caller_after (caller_words caller) ≡ Some caller
caller-prints None is = refl
caller-prints (Some t) is = ap (λ o. option_map Some o) (tag.prints t is)

caller-unparted : (caller : Option (List ℕ)) → IfSome caller IsTag → NoBlanks (caller_words caller)
caller-unparted None is = tt
caller-unparted (Some t) is = (tag.unparted t is, tt)

-- no part begins so
further-read : (s : StateLine) (words : List (List ℕ)) → words_of (state_line s) ≡ codes "state" ∷ words → parts.told_of words ≡ None → told_of words ≡ Some s
    → read_state (state_line s) ≡ Some s
further-read s words e none back =
    let line = state_line s in
    let no_part : read_part line ≡ None = ap part_of e ∙ none in
    ap (or_further line) no_part ∙ ap (after_verb (codes "state") told_of) e ∙ back

mapping-is_read : (m : Mapping) → IsMapping m → read_state (state_line (OfMapping m)) ≡ Some (OfMapping m)
mapping-is_read m h =
    let words = mapped_words m in
    let unparted : NoBlanks words =
    (NoBlank-test (codes "mapped") refl, (number.unparted m.at h.0, (number.unparted m.page.seg h.1.0, (number.unparted m.page.index h.1.1, (kind.unparted m.kind tt, tt))))) in
    further-read (OfMapping m) words (words_of-join (codes "state") words (NoBlank-test (codes "state") refl) unparted) refl
    (rw (prints number m.at (decimal m.page.seg ∷ decimal m.page.index ∷ kind_word m.kind ∷ []) h.0, prints_page m.page (kind_word m.kind ∷ []) h.1, prints kind m.kind [] tt) refl)

few : (clock steps : ℕ) → steps ≤ clock → IsWide clock → IsWide steps
few clock steps h w = omega (arith, h, w)

ending-back : (e : Ending) → IsEnding e → told_of (ending_words e) ≡ Some (OfEnding e)
ending-back e h =
    rw (prints wide e.clock (decimal e.steps ∷ caller_words e.caller) h.0, prints wide e.steps (caller_words e.caller) (few e.clock e.steps h.1 h.0))
    (ap (λ o. option_and_then (λ caller. cond (nat_lt e.clock e.steps) None (Some (OfEnding (record { clock = e.clock; steps = e.steps; caller = caller })))) o)
    (caller-prints e.caller h.2)
    ∙ ap (λ b. cond b None (Some (OfEnding e))) (less-not e.clock e.steps h.1))

ending-is_read : (e : Ending) → IsEnding e → read_state (state_line (OfEnding e)) ≡ Some (OfEnding e)
ending-is_read e h =
    let words = ending_words e in
    let unparted : NoBlanks words =
    (NoBlank-test (codes "clock") refl, (wide.unparted e.clock h.0, (wide.unparted e.steps (few e.clock e.steps h.1 h.0), caller-unparted e.caller h.2))) in
    further-read (OfEnding e) words (words_of-join (codes "state") words (NoBlank-test (codes "state") refl) unparted) refl (ending-back e h)

pub state-is_read : (s : StateLine) → IsStateLine s → read_state (state_line s) ≡ Some s
state-is_read (OfPart part) h = ap (or_further (part_line part)) (part-is_read part h)
state-is_read (OfMapping m) h = mapping-is_read m h
state-is_read (OfEnding e) h = ending-is_read e h

-- ---- none is an entry

abbrev BeginsSo : List ℕ → Type 0
BeginsSo line = (others : List (List ℕ)) × (words_of line ≡ codes "state" ∷ others)

begins-so : (line : List ℕ) (read : Option Part) (s : StateLine) → read_part line ≡ read → or_further line read ≡ Some s → BeginsSo line
begins-so line (Some part) s e h = let v = took_verb (codes "state") parts.told_of (words_of line) part e in (v.others, v.are)
begins-so line None s e h = let v = took_verb (codes "state") told_of (words_of line) s h in (v.others, v.are)

abbrev entry_of_words : List (List ℕ) → Option Entry
entry_of_words words =
    after_verb (codes "step") written_after words >>= λ (written : Written). (read_cause written.text >>= λ cause. Some (record { clock = written.clock; cause = cause }))

pub state-no_entry : (line : List ℕ) (s : StateLine) → read_state line ≡ Some s → read_entry line ≡ None
state-no_entry line s h = let b = begins-so line (read_part line) s refl h in ap entry_of_words b.1
