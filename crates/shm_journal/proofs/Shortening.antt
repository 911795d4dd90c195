-- A shortened journal: where it leads, and what of a site makes one.
use Rattle.std.proofs.Common.{◌≡◌, Bool, false, true, ℕ, List, [], ◌∷◌, ◌++◌, Some, None, cond, inr, refl, sym, ap, ◌∙◌, append_assoc}
use Rattle.std.specs.List.{All}
use Rattle.std.specs.Prelude.{map, option_and_then}
use Rattle.shm_lines.proofs.StepLemmas.{some-is, step}
use Rattle.shm_model.specs.Site.{Site}
use Rattle.shm_model.specs.Step.{restart}
use Rattle.shm_process.specs.Desk.{restarted}
use Rattle.shm_process.specs.Node.{Node}
use Rattle.shm_process.specs.Recorded.{kept}
use Rattle.shm_process.specs.declared.process_counts.Start.{Start}
use Rattle.shm_seal.specs.Seal.{Seal}
use Rattle.shm_site.specs.State.{site_from}
use Rattle.shm_state.specs.Part.{Part}
use Rattle.shm_state.specs.PartWords.{IsPart}
use Rattle.shm_state.specs.Stage.{is_whole}
use Rattle.shm_state.specs.Told as state
use Rattle.shm_journal.proofs.Lives.{state_found}
use Rattle.shm_journal.specs.Begun.{IsBeginning, KeptSite, header_text, lines_text, restored, state_text, told_all}
use Rattle.shm_journal.specs.DeskFrom.{desk_from}
use Rattle.shm_journal.specs.Found.{Sound, found}
use Rattle.shm_journal.specs.Lines.{Header, IsHeader}
use Rattle.shm_journal.specs.Shortened.{AreTold, Shortens, ending_at, rested}
use Rattle.shm_journal.specs.StateLines.{Ending, StateLine, OfPart, OfMapping, OfEnding, IsEnding, IsMapping, state_line}
use Rattle.shm_journal.specs.Stages.{Telling, resumed, resumed_if, telling_nothing, told_by, unless_wrong, with_told}

-- ---- where it leads

pub found_sound : (header : Header) (node : Node) (text : List ℕ) → IsHeader header → Shortens header node text → found header text ≡ Sound (rested node)
found_sound header node text is s = ap (found header) s.1 ∙ state_found header s.0 (rested node) is s.2

pub begins : (header : Header) (node : Node) (text : List ℕ) → IsHeader header → Shortens header node text
    → IsBeginning (record { header = header; text = text; node = rested node })
begins header node text is s = (is, inr (s.0, s.2, ap (λ t. record { header = header; text = t; node = rested node }) s.1))

-- a restart of what a restart leaves takes nothing more
pub goes_on : (header : Header) (seal : Seal) (node : Node) (start : Start)
    → desk_from header seal false (rested node) start ≡ desk_from header seal false (kept node) start
unfolding restarted
goes_on header seal node start = refl

-- ---- what makes one

-- what such a state tells of the node, in these parts of its site
abbrev telling_of : List Part → Node → KeptSite
telling_of parts node = record { parts = parts; mapped = node.mapped; ending = ending_at node }

whole-resumed : (whole : Bool) (t : Telling) (ending : Ending) → whole ≡ true → cond whole (Some (resumed t ending)) None ≡ Some (resumed t ending)
whole-resumed whole t ending h = ap (λ b. cond b (Some (resumed t ending)) None) h

resumes : (t : Telling) (ending : Ending) → is_whole t.told.last ≡ true → resumed_if t ending ≡ Some (resumed t ending)
unfolding resumed_if
resumes t ending h = whole-resumed (is_whole t.told.last) t ending h

rests : (node : Node) (parts : List Part) → AreTold node.sites node.me parts → is_whole (state.told_all parts state.told_nothing).last ≡ true
    → site_from node.sites node.me (state.state_told parts) ≡ (restart node.site).site
    → restored node.sites node.me (telling_of parts node) ≡ Some (rested node)
rests node parts told whole same =
    let t = record (with_told (telling_nothing node.sites node.me) (state.told_all parts state.told_nothing)) { mapped = node.mapped } in
    ap (option_and_then (λ (t : Telling). resumed_if (record t { mapped = node.mapped }) (ending_at node))) told
    ∙ resumes t (ending_at node) whole
    ∙ ap (λ (s : Site). Some (record (kept node) { site = s })) same

-- the header's site is the node's
pub shortens : (header : Header) (node : Node) (parts : List Part) (text : List ℕ) → header.sites ≡ node.sites → header.me ≡ node.me
    → All IsPart parts → All IsMapping node.mapped → IsEnding (ending_at node)
    → AreTold node.sites node.me parts → is_whole (state.told_all parts state.told_nothing).last ≡ true
    → site_from node.sites node.me (state.state_told parts) ≡ (restart node.site).site
    → text ≡ header_text header ++ state_text (telling_of parts node)
    → Shortens header node text
shortens header node parts text sites me are mapped ending told whole same is =
    let site = telling_of parts node in
    let makes : restored header.sites header.me site ≡ Some (rested node) =
    ap (λ n. restored n header.me site) sites ∙ ap (λ n. restored node.sites n site) me ∙ rests node parts told whole same in
    (site, is, record { parts = are; mapped = mapped; ending = ending; makes = makes })

-- ---- its text

lines-append : (first rest : List StateLine) → lines_text (first ++ rest) ≡ lines_text first ++ lines_text rest
lines-append [] rest = refl
lines-append (line ∷ first) rest =
    ap (λ t. state_line line ++ 10 ∷ t) (lines-append first rest) ∙ sym (append_assoc (state_line line) (10 ∷ lines_text first) (lines_text rest))

-- with one line more
pub line_written : (old new all : List ℕ) (line : StateLine) (lines : List StateLine) → new ≡ old ++ state_line line ++ 10 ∷ []
    → old ++ lines_text (line ∷ lines) ≡ all → new ++ lines_text lines ≡ all
line_written old new all line lines more is =
    ap (λ t. t ++ lines_text lines) more ∙ append_assoc (old ++ state_line line) (10 ∷ []) (lines_text lines)
    ∙ append_assoc old (state_line line) (10 ∷ lines_text lines) ∙ is

-- the header, and then the lines of a state
pub all_written : (site : KeptSite) (header first second third all : List ℕ) → first ≡ header → second ≡ first ++ lines_text (map OfPart site.parts)
    → third ≡ second ++ lines_text (map OfMapping site.mapped) → all ≡ third ++ state_line (OfEnding site.ending) ++ 10 ∷ []
    → all ≡ header ++ state_text site
all_written site header first second third all a b c d =
    let parts = lines_text (map OfPart site.parts) in
    let mapped = lines_text (map OfMapping site.mapped) in
    let ending = state_line (OfEnding site.ending) ++ 10 ∷ [] in
    let last = OfEnding site.ending ∷ [] in
    let text : state_text site ≡ parts ++ (mapped ++ ending) =
    lines-append (map OfPart site.parts) (map OfMapping site.mapped ++ last) ∙ ap (λ t. parts ++ t) (lines-append (map OfMapping site.mapped) last) in
    d ∙ append_assoc third (state_line (OfEnding site.ending)) (10 ∷ []) ∙ ap (λ t. t ++ ending) c ∙ append_assoc second mapped ending
    ∙ ap (λ t. t ++ (mapped ++ ending)) b ∙ append_assoc first parts (mapped ++ ending) ∙ ap (λ t. t ++ (parts ++ (mapped ++ ending))) a
    ∙ sym (ap (λ t. header ++ t) text)

-- ---- parts that are told

told-more : (parts : List Part) (part : Part) (t after : Telling) (told : state.Told) → told_all t parts ≡ Some after → told_by after part ≡ Some told
    → told_all t (parts ++ part ∷ []) ≡ Some (with_told after told)
told-more [] part t after told first then =
    let same : told_by t part ≡ Some told = ap (λ x. told_by x part) (some-is t after first) ∙ then in
    ap (option_and_then (λ x. told_all (with_told t x) [])) same ∙ ap (λ x. Some (with_told x told)) (some-is t after first)
told-more (head ∷ parts) part t after told first then =
    let s = step (told_by t head) (λ x. told_all (with_told t x) parts) after first in
    ap (option_and_then (λ x. told_all (with_told t x) (parts ++ part ∷ []))) s.gave ∙ told-more parts part (with_told t s.value) after told s.gives then

pub all_more : (parts : List Part) (part : Part) (told : state.Told) → state.told_all (parts ++ part ∷ []) told ≡ state.told_with part (state.told_all parts told)
unfolding state.told_all
all_more [] part told = refl
all_more (head ∷ parts) part told = all_more parts part (state.told_with head told)

told-right : (t : Telling) (part : Part) → state.wrong t.sites t.me part t.told ≡ None → told_by t part ≡ Some (state.told_with part t.told)
unfolding told_by
told-right t part right = ap (λ fault. unless_wrong fault (state.told_with part t.told)) right

-- one part more, if nothing is wrong with it
pub told_one : (sites me : ℕ) (parts : List Part) (part : Part) → AreTold sites me parts
    → state.wrong sites me part (state.told_all parts state.told_nothing) ≡ None → AreTold sites me (parts ++ part ∷ [])
told_one sites me parts part told right =
    let nothing = telling_nothing sites me in
    let after = with_told nothing (state.told_all parts state.told_nothing) in
    told-more parts part nothing after (state.told_with part after.told) told (told-right after part right)
    ∙ ap (λ x. Some (with_told nothing x)) (sym (all_more parts part state.told_nothing))
