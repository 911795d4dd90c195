-- What is read is spelled so: the lines of segment calls, and all lines by their verbs.
use Rattle.std.proofs.Common.{◌≡◌, ℕ, List, [], ◌∷◌, Some, sym, ap, subst, ◌∙◌}
use Rattle.std.specs.List.{join_with_byte}
use Rattle.std.proofs.lemmas.List.Splits.{join_with_byte-slice_split}
use Rattle.std.specs.Fmt.{decimal}
use Rattle.shm_model.specs.declared.event.Event.TheVariants.{Begin}
use Rattle.shm_lines.proofs.CallLemmas.{request-is}
use Rattle.shm_lines.proofs.NumberWords.{number}
use Rattle.shm_lines.proofs.Reading.{took, Sound, SoundReader, by_verb-is, verb-is}
use Rattle.shm_lines.proofs.ReadLemmas.{ReadsLine, sites-is, load-is, store-is, deliver-is, repeat-is, lose-is, tick-is, restart-is, show-is, back-is}
use Rattle.shm_lines.proofs.StepLemmas.{step, some-is}
use Rattle.shm_lines.specs.Calls.{request_of}
use Rattle.shm_lines.specs.Words.{words_of, by_verb}
use Rattle.shm_lines.specs.Line.{verbs, call_of, line_of}
use Rattle.shm_lines.specs.Spelling.{IsLine, spelled_words, spelling}
use Rattle.shm_lines.specs.declared.script_line.Line.{Line}
use Rattle.shm_lines.specs.declared.script_line.Line.TheVariants.{Event}

-- a word behind the first
behind_first : List ℕ → List (List ℕ) → List (List ℕ)
behind_first word [] = []
behind_first word (first ∷ others) = first ∷ word ∷ others

call-is : SoundReader IsLine spelled_words call_of
unfolding behind_first
call-is verb words line h =
    let s = took number words _ line h in
    let r = step (request_of verb s.others) _ line s.gives in
    let q = request-is verb s.others r.value r.gave in
    subst (ReadsLine (verb ∷ words)) (some-is (Event (Begin s.value r.value)) line r.gives) ((s.is, q.0), ap (λ l. verb ∷ l) s.are ∙ ap (behind_first (decimal s.value)) q.1)

sound : Sound IsLine spelled_words verbs
sound = (load-is, (store-is, (deliver-is, (repeat-is, (lose-is, (tick-is, (restart-is, (show-is, (back-is, (sites-is, tt))))))))))

pub read-is_spelled : (bytes : List ℕ) (line : Line) → line_of bytes ≡ Some line → IsLine line × (bytes ≡ spelling line)
read-is_spelled bytes line h =
    let r = verb-is IsLine spelled_words (by_verb verbs call_of) (by_verb-is IsLine spelled_words verbs call_of sound call-is) (words_of bytes) line h in
    (r.0, sym (join_with_byte-slice_split 32 bytes) ∙ ap (join_with_byte 32) r.1)
