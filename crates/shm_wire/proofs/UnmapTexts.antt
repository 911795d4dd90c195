-- The texts of runs: their words, joined by blanks.
use Rattle.std.proofs.Common.{◌≡◌, ℕ, ◌+◌, ◌<◌, List, [], ◌∷◌, ◌++◌, length, map, take, get_or, None, Some, sym, ap, ◌∙◌, append_assoc, append-nil}
use Rattle.std.specs.Prelude.{codes}
use Rattle.std.specs.Fmt.{decimal}
use Rattle.std.specs.List.{flat_map, join_with_byte}
use Rattle.std.proofs.lemmas.List.{flat_map_more, take_more}
use Rattle.std.proofs.lemmas.List.Folds.{flat_map-map}
use Rattle.shm_wire.specs.BytesWord.{bytes_word}
use Rattle.shm_model.specs.declared.request_kind.Kind.TheVariants.{Read, Write}
use Rattle.shm_wire.specs.TagOf.{tag_text}
use Rattle.shm_wire.specs.UnmapOf.{run_in, unmap_in}
use Rattle.shm_wire.specs.Unmaps as wire
use Rattle.shm_wire.specs.Unmaps.{run_text, run_words, unmap_line}
use Rattle.shm_wire.specs.declared.unmap_ask.Run.{Run}
use Rattle.shm_wire.specs.declared.unmap_ask.UnmapAsk.{UnmapAsk}

-- one run more
pub runs_more : {A : Type 0} (runs : List (Run A)) (i : ℕ) (run other : Run A) → i < length runs → run ≡ get_or runs i other
    → flat_map (λ run. run_text (run_in run)) (take i runs) ++ run_text (run_in run) ≡ flat_map (λ run. run_text (run_in run)) (take (i + 1) runs)
runs_more {A} runs i run other lt is =
    let f = λ (run : Run A). run_text (run_in run) in
    ap (λ r. flat_map f (take i runs) ++ f r) is ∙ flat_map_more f [] (take i runs) (get_or runs i other) ∙ sym (ap (flat_map f) (take_more runs i other lt))

-- a word, and runs behind it
pub runs_behind : (word : List ℕ) (runs : List wire.Run) → join_with_byte 32 (word ∷ run_words runs) ≡ word ++ flat_map run_text runs
runs_behind word [] = sym (append-nil word)
runs_behind word (run ∷ runs) = rw (runs_behind (bytes_word run.bytes) runs) (simp append_assoc)

pub runs_joined : {A : Type 0} (word : List ℕ) (runs : List (Run A))
    → word ++ flat_map (λ run. run_text (run_in run)) runs ≡ join_with_byte 32 (word ∷ run_words (map run_in runs))
runs_joined word runs = sym (runs_behind word (map run_in runs) ∙ ap (λ t. word ++ t) (flat_map-map run_text run_in runs))

-- ---- the whole line

abbrev pub runs_text : {A : Type 0} → List (Run A) → List ℕ
runs_text runs = flat_map (λ run. run_text (run_in run)) runs

abbrev pub behind_ask : {A : Type 0} → UnmapAsk A → List ℕ → List ℕ
behind_ask unmap text = codes "ask " ++ (decimal unmap.site ++ 32 ∷ (tag_text unmap.tag ++ 32 ∷ text))

abbrev pub behind_verb : {A : Type 0} → UnmapAsk A → List ℕ → List ℕ
behind_verb unmap text = 32 ∷ (decimal unmap.at ++ 32 ∷ text)

pub none_text : {A : Type 0} (unmap : UnmapAsk A) → unmap.keeps ≡ None
    → behind_ask unmap (codes "unmap" ++ behind_verb unmap (decimal unmap.index ++ (codes " none" ++ runs_text unmap.runs.items))) ≡ unmap_line (unmap_in unmap)
none_text unmap is =
    rw is (ap (λ text. behind_ask unmap (codes "unmap" ++ behind_verb unmap (decimal unmap.index ++ 32 ∷ text))) (runs_joined (codes "none") unmap.runs.items))

pub read_text : {A : Type 0} (unmap : UnmapAsk A) → unmap.keeps ≡ Some Read
    → behind_ask unmap (codes "unmap" ++ behind_verb unmap (decimal unmap.index ++ (codes " read" ++ runs_text unmap.runs.items))) ≡ unmap_line (unmap_in unmap)
read_text unmap is =
    rw is (ap (λ text. behind_ask unmap (codes "unmap" ++ behind_verb unmap (decimal unmap.index ++ 32 ∷ text))) (runs_joined (codes "read") unmap.runs.items))

pub sync_text : {A : Type 0} (unmap : UnmapAsk A) → unmap.keeps ≡ Some Write
    → behind_ask unmap (codes "sync" ++ behind_verb unmap (decimal unmap.index ++ runs_text unmap.runs.items)) ≡ unmap_line (unmap_in unmap)
sync_text unmap is = rw is (ap (λ text. behind_ask unmap (codes "sync" ++ behind_verb unmap text)) (runs_joined (decimal unmap.index) unmap.runs.items))
