-- Asks: what is read is spelled so.
use Rattle.std.proofs.Common.{◌≡◌, ℕ, List, ◌∷◌, Some, ap, subst}
use Rattle.std.specs.Prelude.{codes}
use Rattle.shm_model.specs.declared.asked_access.Asked.TheVariants.{Load, Store}
use Rattle.shm_lines.proofs.CallLemmas.{request-is}
use Rattle.shm_lines.proofs.NumberWords.{number}
use Rattle.shm_lines.proofs.OneWord.{byte}
use Rattle.shm_lines.proofs.ReadLemmas.{onto, onto2}
use Rattle.shm_lines.proofs.StepLemmas.{step, some-is}
use Rattle.shm_lines.specs.Calls.{request_of}
use Rattle.shm_wire.proofs.MessageWords.{took_page}
use Rattle.shm_wire.proofs.NameWords.{kind}
use Rattle.shm_wire.proofs.Reading.{took, ended-is, cond-of, Reads, Sound, SoundReader, by_verb-is}
use Rattle.shm_wire.specs.Asks.{IsAsked, asked_by, asked_words, begun_of, is_block, load_of, map_of, own, read_of, show_of, store_of, try_load_of, try_store_of}
use Rattle.shm_wire.specs.Words.{ended}
use Rattle.shm_wire.specs.declared.caller_ask.Question.{Question}
use Rattle.shm_wire.specs.declared.caller_ask.Question.TheVariants.{Access, Try, Read, Begin, Tick, Show, Health, Map, Mappings}

-- ---- what is read is spelled so

abbrev ReadsAsked : List (List ℕ) → Question → Type 0
ReadsAsked words asked = Reads IsAsked asked_words words asked

module _ (words : List (List ℕ)) (asked : Question) where
  load-is : load_of words ≡ Some asked → ReadsAsked (codes "load" ∷ words) asked
  load-is h =
      let a = took number words _ asked h in
      let o = took number a.others _ asked a.gives in
      let e = ended-is (Access (Load a.value o.value)) asked o.others o.gives in
      subst (ReadsAsked (codes "load" ∷ words)) e.1 ((a.is, o.is), ap (λ l. codes "load" ∷ l) (onto a.are (onto o.are e.0)))

  store-is : store_of words ≡ Some asked → ReadsAsked (codes "store" ∷ words) asked
  store-is h =
      let a = took number words _ asked h in
      let o = took number a.others _ asked a.gives in
      let b = took byte o.others _ asked o.gives in
      let e = ended-is (Access (Store a.value o.value b.value)) asked b.others b.gives in
      subst (ReadsAsked (codes "store" ∷ words)) e.1 ((a.is, o.is, b.is), ap (λ l. codes "store" ∷ l) (onto a.are (onto o.are (onto b.are e.0))))

  try_load-is : try_load_of words ≡ Some asked → ReadsAsked (codes "try-load" ∷ words) asked
  try_load-is h =
      let a = took number words _ asked h in
      let o = took number a.others _ asked a.gives in
      let e = ended-is (Try (Load a.value o.value)) asked o.others o.gives in
      subst (ReadsAsked (codes "try-load" ∷ words)) e.1 ((a.is, o.is), ap (λ l. codes "try-load" ∷ l) (onto a.are (onto o.are e.0)))

  try_store-is : try_store_of words ≡ Some asked → ReadsAsked (codes "try-store" ∷ words) asked
  try_store-is h =
      let a = took number words _ asked h in
      let o = took number a.others _ asked a.gives in
      let b = took byte o.others _ asked o.gives in
      let e = ended-is (Try (Store a.value o.value b.value)) asked b.others b.gives in
      subst (ReadsAsked (codes "try-store" ∷ words)) e.1 ((a.is, o.is, b.is), ap (λ l. codes "try-store" ∷ l) (onto a.are (onto o.are (onto b.are e.0))))

  read-is : read_of words ≡ Some asked → ReadsAsked (codes "read" ∷ words) asked
  read-is h =
      let a = took number words _ asked h in
      let o = took number a.others _ asked a.gives in
      let l = took number o.others _ asked o.gives in
      let c = cond-of (is_block o.value l.value) (ended (Read a.value o.value l.value) l.others) asked l.gives in
      let e = ended-is (Read a.value o.value l.value) asked l.others c.1 in
      subst (ReadsAsked (codes "read" ∷ words)) e.1 ((a.is, o.is, l.is, c.0), ap (λ l. codes "read" ∷ l) (onto a.are (onto o.are (onto l.are e.0))))

  tick-is : ended Tick words ≡ Some asked → ReadsAsked (codes "tick" ∷ words) asked
  tick-is h =
      let e = ended-is Tick asked words h in
      subst (ReadsAsked (codes "tick" ∷ words)) e.1 (tt, ap (λ l. codes "tick" ∷ l) e.0)

  show-is : show_of words ≡ Some asked → ReadsAsked (codes "show" ∷ words) asked
  show-is h =
      let p = took_page words _ asked h in
      let e = ended-is (Show p.value) asked p.others p.gives in
      subst (ReadsAsked (codes "show" ∷ words)) e.1 (p.is, ap (λ l. codes "show" ∷ l) (onto2 p.are e.0))

  health-is : ended Health words ≡ Some asked → ReadsAsked (codes "health" ∷ words) asked
  health-is h =
      let e = ended-is Health asked words h in
      subst (ReadsAsked (codes "health" ∷ words)) e.1 (tt, ap (λ l. codes "health" ∷ l) e.0)

  map-is : map_of words ≡ Some asked → ReadsAsked (codes "map" ∷ words) asked
  map-is h =
      let a = took number words _ asked h in
      let i = took number a.others _ asked a.gives in
      let k = took kind i.others _ asked i.gives in
      let e = ended-is (Map a.value i.value k.value) asked k.others k.gives in
      subst (ReadsAsked (codes "map" ∷ words)) e.1 ((a.is, i.is), ap (λ l. codes "map" ∷ l) (onto a.are (onto i.are (onto k.are e.0))))

  mappings-is : ended Mappings words ≡ Some asked → ReadsAsked (codes "mappings" ∷ words) asked
  mappings-is h =
      let e = ended-is Mappings asked words h in
      subst (ReadsAsked (codes "mappings" ∷ words)) e.1 (tt, ap (λ l. codes "mappings" ∷ l) e.0)

begun-is : SoundReader IsAsked asked_words begun_of
begun-is word words asked h =
    let s = step (request_of word words) _ asked h in
    let r = request-is word words s.value s.gave in
    subst (ReadsAsked (word ∷ words)) (some-is (Begin s.value) asked s.gives) r

sound : Sound IsAsked asked_words own
sound = (load-is, (store-is, (try_load-is, (try_store-is, (read-is, (tick-is, (show-is, (health-is, (map-is, (mappings-is, tt))))))))))

-- what is asked under a verb
pub asked-is : SoundReader IsAsked asked_words asked_by
asked-is = by_verb-is IsAsked asked_words own begun_of sound begun-is
