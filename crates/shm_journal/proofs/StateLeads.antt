-- Where the lines of a state lead.
use Rattle.std.proofs.Common.{◌≡◌, ℕ, suc, ◌+◌, Bool, true, false, cond, List, [], ◌∷◌, ◌++◌, Option, Some, None, length, refl, sym, ap, ◌∙◌, append-nil, append_assoc, arith}
use Rattle.std.specs.List.{All}
use Rattle.std.specs.Prelude.{map, option_and_then, option_map}
use Rattle.std.proofs.lemmas.List.{length-append}
use Rattle.std.proofs.lemmas.List.Elements.{All-cons, All-head, All-nil, All-tail}
use Rattle.shm_lines.proofs.StepLemmas.{some-is, step}
use Rattle.shm_process.specs.Node.{Node}
use Rattle.shm_state.specs.Part.{Part}
use Rattle.shm_state.specs.PartWords.{IsPart}
use Rattle.shm_state.specs.Stage.{is_whole}
use Rattle.shm_wire.specs.declared.mapping_text.Mapping.{Mapping}
use Rattle.shm_journal.proofs.Leading.{counts-line, one_line}
use Rattle.shm_journal.proofs.StateFits.{state_fits}
use Rattle.shm_journal.proofs.StateWords.{state-is_read, state-no_entry}
use Rattle.shm_journal.specs.Begun.{IsKeptSite, KeptSite, lines_text, state_lines, state_text, told_all}
use Rattle.shm_journal.specs.Found.{bytes_of_lines, found_behind, lines_of, next_found}
use Rattle.shm_journal.specs.Lines.{Header}
use Rattle.shm_journal.specs.Stages.{Stage, Opened, InState, Open, Telling, begun, first_taken, next_stage, opened, resumed, resumed_if, telling_nothing, tells, tells_if, told_by, with_mapping, with_told}
use Rattle.shm_journal.specs.StateLines.{Ending, StateLine, OfPart, OfMapping, OfEnding, IsMapping, IsStateLine, state_line}

-- ---- line by line

tells_at : Stage → StateLine → Option Stage
tells_at (Opened node telling) line = tells telling line
tells_at (InState telling) line = tells telling line
tells_at (Open node) line = None

tell_all : Stage → List StateLine → Option Stage
tell_all stage [] = Some stage
tell_all stage (line ∷ lines) = option_and_then (λ next. tell_all next lines) (tells_at stage line)

line-tells : (stage after : Stage) (line : StateLine) → IsStateLine line → tells_at stage line ≡ Some after → next_stage stage (state_line line) ≡ Some after
unfolding tells_at
line-tells (Opened node telling) after line is told =
    let read = state-is_read line is in
    ap (first_taken node telling (state_line line)) (state-no_entry (state_line line) line read) ∙ ap (tells_if telling) read ∙ told
line-tells (InState telling) after line is told = ap (tells_if telling) (state-is_read line is) ∙ told
line-tells (Open node) after line is told = absurd (cc)

shape : (line rest more : List ℕ) → (line ++ 10 ∷ rest) ++ more ≡ (line ++ 10 ∷ []) ++ (rest ++ more)
shape line rest more = append_assoc line (10 ∷ rest) more ∙ sym (append_assoc line (10 ∷ []) (rest ++ more))

none-behind : (n : ℕ) → n ≡ n + 0
none-behind n = omega arith

one-behind : (n m : ℕ) → n + 1 + m ≡ n + suc m
one-behind n m = omega arith

-- they lead from the first stage to the last, and on from there, at a further line's number
lines-lead : (lines : List StateLine) (number : ℕ) (stage final : Stage) (more : List ℕ) → All IsStateLine lines
    → tell_all stage lines ≡ Some final
    → found_behind next_stage number stage (lines_text lines ++ more) ≡ found_behind next_stage (number + length lines) final more
unfolding tell_all
lines-lead [] number stage final more are told =
    ap (λ s. found_behind next_stage number s more) (some-is stage final told) ∙ ap (λ n. found_behind next_stage n final more) (none-behind number)
lines-lead (first ∷ lines) number stage final more are told =
    let s = step (tells_at stage first) (λ next. tell_all next lines) final told in
    let line = state_line first in
    let rest = lines_text lines in
    let is = All-head IsStateLine first lines are in
    let fits = state_fits first is in
    ap (found_behind next_stage number stage) (shape line rest more)
    ∙ one_line next_stage number stage line (rest ++ more) fits.unended fits.short
    ∙ ap (λ o. next_found number o (λ after. found_behind next_stage (number + 1) after (rest ++ more)))
    (line-tells stage s.value first is s.gave)
    ∙ lines-lead lines (number + 1) s.value final more (All-tail IsStateLine first lines are) s.gives
    ∙ ap (λ n. found_behind next_stage n final more) (one-behind number (length lines))

-- ---- a whole state

tell-parts : (parts : List Part) (others : List StateLine) (t final : Telling) → told_all t parts ≡ Some final
    → tell_all (InState t) (map OfPart parts ++ others) ≡ tell_all (InState final) others
unfolding tell_all tells_at
tell-parts [] others t final told = ap (λ x. tell_all (InState x) others) (some-is t final told)
tell-parts (part ∷ parts) others t final told =
    let s = step (told_by t part) (λ x. told_all (with_told t x) parts) final told in
    ap (λ o. option_and_then (λ next. tell_all next (map OfPart parts ++ others)) (option_map (λ x. InState (with_told t x)) o)) s.gave
    ∙ tell-parts parts others (with_told t s.value) final s.gives

-- a mapped page changes nothing that parts tell
told-mapped : (parts : List Part) (t final : Telling) → told_all t parts ≡ Some final → final.mapped ≡ t.mapped
told-mapped [] t final told = sym (ap (λ (x : Telling). x.mapped) (some-is t final told))
told-mapped (part ∷ parts) t final told =
    let s = step (told_by t part) (λ x. told_all (with_told t x) parts) final told in told-mapped parts (with_told t s.value) final s.gives

abbrev with_mapped : Telling → List Mapping → Telling
with_mapped t mapped = record t { mapped = t.mapped ++ mapped }

tell-mapped : (mapped : List Mapping) (others : List StateLine) (t : Telling)
    → tell_all (InState t) (map OfMapping mapped ++ others) ≡ tell_all (InState (with_mapped t mapped)) others
unfolding tell_all tells_at
tell-mapped [] others t = ap (λ x. tell_all (InState (record t { mapped = x })) others) (sym (append-nil t.mapped))
tell-mapped (m ∷ mapped) others t =
    tell-mapped mapped others (with_mapping t m) ∙ ap (λ x. tell_all (InState (record t { mapped = x })) others) (append_assoc t.mapped (m ∷ []) mapped)

tell-ending : (t : Telling) (ending : Ending) (node : Node) → resumed_if t ending ≡ Some node → tell_all (InState t) (OfEnding ending ∷ []) ≡ Some (Open node)
unfolding tell_all tells_at
tell-ending t ending node made = ap (λ o. option_and_then (λ next. tell_all next []) (option_map Open o)) made

-- a state begins with its first line
opened-tells : (node : Node) (t : Telling) (lines : List StateLine) (last : StateLine)
    → tell_all (Opened node t) (lines ++ last ∷ []) ≡ tell_all (InState t) (lines ++ last ∷ [])
unfolding tell_all tells_at
opened-tells node t [] last = refl
opened-tells node t (line ∷ lines) last = refl

abbrev pub first_lines : KeptSite → List StateLine
first_lines site = map OfPart site.parts ++ map OfMapping site.mapped

pub lines_end : (site : KeptSite) → state_lines site ≡ first_lines site ++ OfEnding site.ending ∷ []
lines_end site = sym (append_assoc (map OfPart site.parts) (map OfMapping site.mapped) (OfEnding site.ending ∷ []))

abbrev with_all : Telling → KeptSite → Telling
with_all t site = record t { mapped = site.mapped }

-- what all parts told, and the node that they make
pub record Made (header : Header) (site : KeptSite) (node : Node) : Type 0 where
  pub all : Telling
  pub parts : told_all (telling_nothing header.sites header.me) site.parts ≡ Some all
  pub makes : resumed_if (with_all all site) site.ending ≡ Some node

pub made : (header : Header) (site : KeptSite) (node : Node) → IsKeptSite header site node → Made header site node
made header site node is =
    let s = step (told_all (telling_nothing header.sites header.me) site.parts) (λ (t : Telling). resumed_if (with_all t site) site.ending) node is.makes in
    record { all = s.value; parts = s.gave; makes = s.gives }

-- of a node that was made nothing waits, and its clock is the state's
resumed-is : (whole : Bool) (t : Telling) (ending : Ending) (node : Node) → cond whole (Some (resumed t ending)) None ≡ Some node → resumed t ending ≡ node
resumed-is true t ending node h = some-is (resumed t ending) node h
resumed-is false t ending node h = absurd (cc)

pub made_is : (t : Telling) (ending : Ending) (node : Node) → resumed_if t ending ≡ Some node → resumed t ending ≡ node
unfolding resumed_if
made_is t ending node h = resumed-is (is_whole t.told.last) t ending node h

state-told : (header : Header) (site : KeptSite) (node : Node) → IsKeptSite header site node → tell_all (begun header) (state_lines site) ≡ Some (Open node)
state-told header site node is =
    let m = made header site node is in
    let nothing = telling_nothing header.sites header.me in
    ap (tell_all (begun header)) (lines_end site)
    ∙ opened-tells (opened header) nothing (first_lines site) (OfEnding site.ending)
    ∙ ap (tell_all (InState nothing)) (sym (lines_end site))
    ∙ tell-parts site.parts (map OfMapping site.mapped ++ OfEnding site.ending ∷ []) nothing m.all m.parts
    ∙ tell-mapped site.mapped (OfEnding site.ending ∷ []) m.all
    ∙ ap (λ x. tell_all (InState (record m.all { mapped = x ++ site.mapped })) (OfEnding site.ending ∷ [])) (told-mapped site.parts nothing m.all m.parts)
    ∙ tell-ending (with_all m.all site) site.ending node m.makes

-- ---- each is a state's line

parts-are : (parts : List Part) (others : List StateLine) → All IsPart parts → All IsStateLine others → All IsStateLine (map OfPart parts ++ others)
parts-are [] others are rest = rest
parts-are (part ∷ parts) others are rest =
    All-cons IsStateLine (OfPart part) (map OfPart parts ++ others) (All-head IsPart part parts are) (parts-are parts others (All-tail IsPart part parts are) rest)

mapped-are : (mapped : List Mapping) (others : List StateLine) → All IsMapping mapped → All IsStateLine others → All IsStateLine (map OfMapping mapped ++ others)
mapped-are [] others are rest = rest
mapped-are (m ∷ mapped) others are rest =
    All-cons IsStateLine (OfMapping m) (map OfMapping mapped ++ others) (All-head IsMapping m mapped are) (mapped-are mapped others (All-tail IsMapping m mapped are) rest)

pub lines_are : (header : Header) (site : KeptSite) (node : Node) → IsKeptSite header site node → All IsStateLine (state_lines site)
lines_are header site node is =
    parts-are site.parts (map OfMapping site.mapped ++ OfEnding site.ending ∷ []) is.parts
    (mapped-are site.mapped (OfEnding site.ending ∷ []) is.mapped (All-cons IsStateLine (OfEnding site.ending) [] is.ending (All-nil IsStateLine)))

pub state-leads : (header : Header) (site : KeptSite) (node : Node) (number : ℕ) (more : List ℕ) → IsKeptSite header site node
    → found_behind next_stage number (begun header) (state_text site ++ more) ≡ found_behind next_stage (number + length (state_lines site)) (Open node) more
state-leads header site node number more is =
    lines-lead (state_lines site) number (begun header) (Open node) more (lines_are header site node is) (state-told header site node is)

-- ---- how many bytes are whole

abbrev counted : List ℕ → ℕ
counted bytes = bytes_of_lines (lines_of bytes).whole

none-before : (n : ℕ) → n ≡ 0 + n
none-before n = omega arith

with-line : (line rest : List ℕ) (n : ℕ) → length line + 1 + (length rest + n) ≡ length (line ++ 10 ∷ rest) + n
with-line line rest n = omega (arith, length-append line (10 ∷ rest))

lines-counted : (lines : List StateLine) (more : List ℕ) → All IsStateLine lines → counted (lines_text lines ++ more) ≡ length (lines_text lines) + counted more
lines-counted [] more are = none-before (counted more)
lines-counted (first ∷ lines) more are =
    let line = state_line first in
    let rest = lines_text lines in
    let fits = state_fits first (All-head IsStateLine first lines are) in
    ap counted (shape line rest more) ∙ counts-line line (rest ++ more) fits.unended
    ∙ ap (λ n. length line + 1 + n) (lines-counted lines more (All-tail IsStateLine first lines are)) ∙ with-line line rest (counted more)

pub state-counted : (header : Header) (site : KeptSite) (node : Node) (more : List ℕ) → IsKeptSite header site node
    → counted (state_text site ++ more) ≡ length (state_text site) + counted more
state-counted header site node more is = lines-counted (state_lines site) more (lines_are header site node is)
