-- The lines of what a step sent, one more at a time.
use Rattle.std.proofs.Common.{◌≡◌, ℕ, ◌+◌, ◌<◌, List, [], ◌∷◌, ◌++◌, length, map, drop, get_or, ap, sym, subst, ◌∙◌}
use Rattle.std.proofs.lemmas.List.{append_assoc, drop_more, get_or-map, length-map}
use Rattle.shm_model.specs.Message.{Envelope}
use Rattle.shm_seal.specs.Seal.{Seal, sealed}
use Rattle.shm_wire.specs.Sent.{envelope_line}
use Rattle.shm_process.specs.Lines.{envelope_lines}

-- what was to come after a text is to come after that text and the next line, less the line
pub one_more : {X : Type 0} (seal : Seal) (view : X → Envelope) (clock index place : ℕ) (items xs : List X) (x : X) (old new whole : List ℕ)
    → items ≡ xs → place < length items → x ≡ get_or items place x
    → new ≡ old ++ (sealed seal (envelope_line (record { source = record { at = clock; index = index; place = place }; envelope = view x })) ++ 10 ∷ [])
    → old ++ envelope_lines seal clock index place (drop place (map view xs)) ≡ whole
    → new ++ envelope_lines seal clock index (place + 1) (drop (place + 1) (map view xs)) ≡ whole
one_more seal view clock index place items xs x old new whole same within is pushed before =
    let line = sealed seal (envelope_line (record { source = record { at = clock; index = index; place = place }; envelope = view x })) in
    let later = drop (place + 1) (map view xs) in
    let rest = envelope_lines seal clock index (place + 1) later in
    let within_xs : place < length xs = subst (λ l. place < length l) same within in
    let within_map : place < length (map view xs) = subst (λ n. place < n) (sym (length-map xs view)) within_xs in
    let read : get_or (map view xs) place (view x) ≡ view x =
    get_or-map view xs place x (view x) within_xs ∙ ap view (sym (subst (λ l. x ≡ get_or l place x) same is)) in
    let split : drop place (map view xs) ≡ view x ∷ later = drop_more (map view xs) place (view x) within_map ∙ ap (λ e. e ∷ later) read in
    ap (λ t. t ++ rest) pushed
    ∙ append_assoc old (line ++ 10 ∷ []) rest
    ∙ ap (λ t. old ++ t) (append_assoc line (10 ∷ []) rest)
    ∙ sym (ap (λ es. old ++ envelope_lines seal clock index place es) split)
    ∙ before
