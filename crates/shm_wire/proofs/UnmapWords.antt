-- Mappings that are given up, or whose bytes are brought: each that is read is spelled so, and each that is spelled so is read.
use Rattle.std.proofs.Common.{◌≡◌, ℕ, Bool, true, false, List, [], ◌∷◌, All, Option, Some, None, cond, length, map, refl, sym, ap, subst, ◌∙◌, ◌++◌, append_assoc}
use Rattle.std.specs.Prelude.{codes, is_some, option_map, ⊤}
use Rattle.std.specs.Fmt.{decimal}
use Rattle.std.specs.Str.{bytes_eq}
use Rattle.std.proofs.lemmas.List.{map-append}
use Rattle.std.proofs.lemmas.List.Elements.{All-nil, All-cons, All-head, All-tail}
use Rattle.shm_model.specs.declared.request_kind.Kind.{Kind}
use Rattle.shm_model.specs.declared.request_kind.Kind.TheVariants.{Read, Write}
use Rattle.shm_lines.proofs.NumberWords.{IsPrinter, number}
use Rattle.shm_lines.proofs.ReadLemmas.{onto}
use Rattle.shm_lines.proofs.StepLemmas.{step, some-is, NoBlank, NoBlank-test, NoBlanks}
use Rattle.shm_lines.specs.Spelling.{IsNumber}
use Rattle.shm_lines.specs.Words.{◌>>=◌}
use Rattle.shm_wire.proofs.BytesWords.{base64}
use Rattle.shm_wire.proofs.NameWords.{named-is}
use Rattle.shm_wire.proofs.Reading.{cond-of, prints, took, Reads, Spelled}
use Rattle.shm_wire.proofs.SpelledAsks.{behind}
use Rattle.shm_wire.specs.Asks.{is_block}
use Rattle.shm_wire.specs.Brought.{run_brings}
use Rattle.shm_wire.specs.BytesWord.{bytes_word}
use Rattle.shm_wire.specs.Line.{Line, Unmap}
use Rattle.shm_wire.specs.Tag.{IsTag}
use Rattle.shm_wire.specs.UnmapOf.{run_in}
use Rattle.shm_wire.specs.Unmaps.{and_runs, IsRun, IsUnmap, Run, UnmapAsk, keeps_of, lesser, mapping_words, next_run, run_words, runs_of, sync_of, unmap_of, unmap_words}
use Rattle.shm_wire.specs.declared.unmap_ask.Run.{Run as Code}

-- ---- runs that are read

record TookRun (words : List (List ℕ)) (next : Run × List (List ℕ)) : Type 0 where
  pub is : IsRun next.0
  pub are : words ≡ decimal next.0.offset ∷ bytes_word next.0.bytes ∷ next.1

next_run-is : (words : List (List ℕ)) (next : Run × List (List ℕ)) → next_run words ≡ Some next → TookRun words next
next_run-is words next h =
    let o = took number words _ next h in
    let b = took base64 o.others _ next o.gives in
    let run : Run = record { offset = o.value; bytes = b.value } in
    let c = cond-of (is_block o.value (length b.value)) (Some (run, b.others)) next b.gives in
    subst (TookRun words) (some-is (run, b.others) next c.1) (record { is = (o.is, c.0, b.is); are = onto o.are b.are })

-- it has a word of bytes
pub next_run-brings : (words : List (List ℕ)) (next : Run × List (List ℕ)) → next_run words ≡ Some next → is_some (run_brings words) ≡ true
next_run-brings words next h =
    let t = next_run-is words next h in
    ap (λ l. is_some (run_brings l)) t.are ∙ rw (prints number next.0.offset (bytes_word next.0.bytes ∷ next.1) t.is.0) refl

pub runs-are : (words : List (List ℕ)) (runs : List Run) → runs_of words ≡ Some runs → All IsRun runs × (words ≡ run_words runs)
runs-are [] runs h = subst (λ (rs : List Run). All IsRun rs × ([] ≡ run_words rs)) (some-is [] runs h) (All-nil IsRun, refl)
runs-are (offset ∷ []) runs h = absurd (cc)
runs-are (offset ∷ bytes ∷ words) runs h =
    let n = step (next_run (offset ∷ bytes ∷ words)) _ runs h in
    let r = step (runs_of words) _ runs n.gives in
    let t = next_run-is (offset ∷ bytes ∷ words) n.value n.gave in
    let more = runs-are words r.value r.gave in
    let all = offset ∷ bytes ∷ words in
    let spelled : all ≡ run_words (n.value.0 ∷ r.value) = onto_rest offset bytes words (run_words r.value) n.value t.are more.1 in
    subst (λ (rs : List Run). All IsRun rs × (all ≡ run_words rs)) (some-is (n.value.0 ∷ r.value) runs r.gives) (All-cons IsRun n.value.0 r.value t.is more.0, spelled)
  where
    onto_rest : (offset bytes : List ℕ) (words rest : List (List ℕ)) (next : Run × List (List ℕ)) → offset ∷ bytes ∷ words ≡ decimal next.0.offset ∷ bytes_word next.0.bytes ∷ next.1
        → words ≡ rest → offset ∷ bytes ∷ words ≡ decimal next.0.offset ∷ bytes_word next.0.bytes ∷ rest
    onto_rest offset bytes words rest next are more = cc

-- ---- runs that are read one after another

then : (run : Run) (o : Option (List Run)) → (o >>= λ runs. Some (run ∷ runs)) ≡ option_map (λ runs. run ∷ runs) o
then run None = refl
then run (Some runs) = refl

-- a run, and those behind it
pub runs_read : (words others : List (List ℕ)) (run : Run) → next_run words ≡ Some (run, others) → runs_of words ≡ option_map (λ runs. run ∷ runs) (runs_of others)
runs_read [] others run h = absurd (cc)
runs_read (offset ∷ []) others run h =
    let t = (next_run-is (offset ∷ []) (run, others) h).are in
    absurd (cc)
runs_read (offset ∷ bytes ∷ words) others run h =
    let t = (next_run-is (offset ∷ bytes ∷ words) (run, others) h).are in
    let same : words ≡ others = cc in
    ap (λ n. and_runs n (runs_of words)) h ∙ then run (runs_of words) ∙ ap (λ l. option_map (λ runs. run ∷ runs) (runs_of l)) same

grown : {A : Type 0} (runs : List (Code A)) (run : Code A) (o : Option (List Run))
    → option_map (λ rest. map run_in runs ++ rest) (option_map (λ rest. run_in run ∷ rest) o) ≡ option_map (λ rest. map run_in (runs ++ run ∷ []) ++ rest) o
grown runs run None = refl
grown runs run (Some rest) = ap Some (simp (map-append, append_assoc))

pub runs_on : {A : Type 0} (first words others : List (List ℕ)) (runs after : List (Code A)) (run : Code A)
    → runs_of first ≡ option_map (λ rest. map run_in runs ++ rest) (runs_of words) → next_run words ≡ Some (run_in run, others) → after ≡ runs ++ run ∷ []
    → runs_of first ≡ option_map (λ rest. map run_in after ++ rest) (runs_of others)
runs_on first words others runs after run so_far h more =
    so_far ∙ ap (option_map (λ rest. map run_in runs ++ rest)) (runs_read words others (run_in run) h) ∙ grown runs run (runs_of others)
    ∙ ap (λ all. option_map (λ rest. map run_in all ++ rest) (runs_of others)) (sym more)

-- ---- runs that are spelled

next_run-spelled : (run : Run) (words : List (List ℕ)) → IsRun run → next_run (decimal run.offset ∷ bytes_word run.bytes ∷ words) ≡ Some (run, words)
next_run-spelled run words h = rw (prints number run.offset (bytes_word run.bytes ∷ words) h.0, prints base64 run.bytes words h.2, h.1) refl

pub runs-unparted : (runs : List Run) → All IsRun runs → NoBlanks (run_words runs)
runs-unparted [] h = tt
runs-unparted (run ∷ runs) h =
    let is = All-head IsRun run runs h in
    (number.unparted run.offset is.0, (base64.unparted run.bytes is.2, runs-unparted runs (All-tail IsRun run runs h)))

pub runs-back : (runs : List Run) → All IsRun runs → runs_of (run_words runs) ≡ Some runs
runs-back [] h = refl
runs-back (run ∷ runs) h = rw (next_run-spelled run (run_words runs) (All-head IsRun run runs h), runs-back runs (All-tail IsRun run runs h)) refl

-- ---- what stays mapped of a page that is given up

abbrev pub IsLess : Option Kind → Type 0
IsLess None = ⊤
IsLess (Some Read) = ⊤
IsLess (Some Write) = ⊥

abbrev pub less_word : Option Kind → List ℕ
less_word None = codes "none"
less_word (Some kind) = codes "read"

less-is : (b c : Bool) (keeps : Option Kind) → cond b (Some None) (cond c (Some (Some Read)) None) ≡ Some keeps → IsLess keeps
less-is true c keeps h = subst IsLess (some-is None keeps h) tt
less-is false true keeps h = subst IsLess (some-is (Some Read) keeps h) tt
less-is false false keeps h = absurd (cc)

keeps_of-word : (keeps : Option Kind) → IsLess keeps → (keeps_of (less_word keeps) ≡ Some keeps) × NoBlank (less_word keeps)
keeps_of-word None h = (refl, NoBlank-test (codes "none") refl)
keeps_of-word (Some Read) h = (refl, NoBlank-test (codes "read") refl)
keeps_of-word (Some Write) h = absurd h

less : IsPrinter keeps_of IsLess less_word
less = record {
  reads = λ word x h. (named-is less_word lesser (refl, (refl, tt)) word x h, less-is (bytes_eq word (codes "none")) (bytes_eq word (codes "read")) x h);
  prints = λ x h. (keeps_of-word x h).0;
  unparted = λ x h. (keeps_of-word x h).1;
}

unmap_words-less : (at index : ℕ) (keeps : Option Kind) (words : List (List ℕ)) → IsLess keeps
    → codes "unmap" ∷ decimal at ∷ decimal index ∷ less_word keeps ∷ words ≡ mapping_words at index keeps words
unmap_words-less at index None words h = refl
unmap_words-less at index (Some Read) words h = refl
unmap_words-less at index (Some Write) words h = absurd h

-- ---- a mapping that is read

module _ (site : ℕ) (name : List ℕ) (is_site : IsNumber site) (is_name : IsTag name) where
  abbrev pub BehindAsk : List (List ℕ) → UnmapAsk → Type 0
  BehindAsk words unmap = Reads IsUnmap unmap_words (codes "ask" ∷ decimal site ∷ name ∷ words) unmap

  under : {words others : List (List ℕ)} → words ≡ others → codes "ask" ∷ decimal site ∷ name ∷ words ≡ codes "ask" ∷ decimal site ∷ name ∷ others
  under e = ap (λ l. codes "ask" ∷ decimal site ∷ name ∷ l) e

  pub unmap-is : (words : List (List ℕ)) (unmap : UnmapAsk) → unmap_of site name words ≡ Some unmap → BehindAsk (codes "unmap" ∷ words) unmap
  unmap-is words unmap h =
      let a = took number words _ unmap h in
      let i = took number a.others _ unmap a.gives in
      let k = took less i.others _ unmap i.gives in
      let r = step (runs_of k.others) _ unmap k.gives in
      let are = runs-are k.others r.value r.gave in
      let made : UnmapAsk = record { site = site; tag = name; at = a.value; index = i.value; keeps = k.value; runs = r.value } in
      let told : codes "unmap" ∷ words ≡ mapping_words a.value i.value k.value (run_words r.value) =
      ap (λ l. codes "unmap" ∷ l) (onto a.are (onto i.are (onto k.are are.1))) ∙ unmap_words-less a.value i.value k.value (run_words r.value) k.is in
      subst (BehindAsk (codes "unmap" ∷ words)) (some-is made unmap r.gives) ((is_site, is_name, a.is, i.is, are.0), under told)

  pub sync-is : (words : List (List ℕ)) (sync : UnmapAsk) → sync_of site name words ≡ Some sync → BehindAsk (codes "sync" ∷ words) sync
  sync-is words sync h =
      let a = took number words _ sync h in
      let i = took number a.others _ sync a.gives in
      let r = step (runs_of i.others) _ sync i.gives in
      let are = runs-are i.others r.value r.gave in
      let made : UnmapAsk = record { site = site; tag = name; at = a.value; index = i.value; keeps = Some Write; runs = r.value } in
      let told = ap (λ l. codes "sync" ∷ l) (onto a.are (onto i.are are.1)) in
      subst (BehindAsk (codes "sync" ∷ words)) (some-is made sync r.gives) ((is_site, is_name, a.is, i.is, are.0), under told)

-- ---- a mapping that is spelled

-- the line that gives it up, or brings its bytes
abbrev pub unmaps : ℕ → List ℕ → ℕ → ℕ → Option Kind → List Run → Line
unmaps site tag at index keeps runs = Unmap (record { site = site; tag = tag; at = at; index = index; keeps = keeps; runs = runs })

pub mapping-spelled : (site : ℕ) (tag : List ℕ) (at index : ℕ) (keeps : Option Kind) (runs : List Run) → IsNumber at → IsNumber index → All IsRun runs
    → Spelled (behind site tag) (mapping_words at index keeps (run_words runs)) (unmaps site tag at index keeps runs)
mapping-spelled site tag at index None runs a i r = record {
  unparted = (NoBlank-test (codes "unmap") refl, (number.unparted at a, (number.unparted index i, (NoBlank-test (codes "none") refl, runs-unparted runs r))));
  back = rw (prints number at (decimal index ∷ codes "none" ∷ run_words runs) a, prints number index (codes "none" ∷ run_words runs) i, runs-back runs r) refl;
}
mapping-spelled site tag at index (Some Read) runs a i r = record {
  unparted = (NoBlank-test (codes "unmap") refl, (number.unparted at a, (number.unparted index i, (NoBlank-test (codes "read") refl, runs-unparted runs r))));
  back = rw (prints number at (decimal index ∷ codes "read" ∷ run_words runs) a, prints number index (codes "read" ∷ run_words runs) i, runs-back runs r) refl;
}
mapping-spelled site tag at index (Some Write) runs a i r = record {
  unparted = (NoBlank-test (codes "sync") refl, (number.unparted at a, (number.unparted index i, runs-unparted runs r)));
  back = rw (prints number at (decimal index ∷ run_words runs) a, prints number index (run_words runs) i, runs-back runs r) refl;
}
