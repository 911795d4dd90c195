-- The whole page, from its parts in a row.
use Rattle.std.proofs.Common.{◌≡◌, ◌∙◌, ℕ, List, [], ◌++◌, Option, ap, append_assoc, refl}
use Rattle.shm_place.specs.declared.page_id.PageId.{PageId}
use Rattle.shm_model.specs.declared.event.Event.{Event}
use Rattle.shm_model.specs.World.{Opening, opened}
use Rattle.shm_draw.specs.Captions.{Beside}
use Rattle.shm_draw.specs.Picture.{pages_drawn}
use Rattle.shm_draw.specs.Svg.{svg_text}
use Rattle.shm_steps.specs.Steps.{first_section, page_text, sections_text}
use Rattle.shm_steps.specs.declared.html_head_and_tail.TheConstants.{HEAD, TAIL}

five_in_a_row : (a b c d e : List ℕ) → (((a ++ b) ++ c) ++ d) ++ e ≡ a ++ (b ++ (c ++ (d ++ e)))
five_in_a_row a b c d e = simp append_assoc refl

five_from_none : (none one two three four five a b c d e : List ℕ) → none ≡ [] → one ≡ none ++ a → two ≡ one ++ b → three ≡ two ++ c → four ≡ three ++ d → five ≡ four ++ e
    → five ≡ a ++ (b ++ (c ++ (d ++ e)))
five_from_none none one two three four five a b c d e e0 e1 e2 e3 e4 e5 =
    e5 ∙ ap (λ t. t ++ e) (e4 ∙ ap (λ t. t ++ d) (e3 ∙ ap (λ t. t ++ c) (e2 ∙ ap (λ t. t ++ b) (e1 ∙ ap (λ t. t ++ a) e0)))) ∙ five_in_a_row a b c d e

pub page_told : (asked : Option PageId) (o : Opening) (events : List Event) (besides : List Beside) (first_pages pages : List PageId) (picture none one two three four five : List ℕ)
    → first_pages ≡ pages_drawn asked (opened o) events → pages ≡ pages_drawn asked (opened o) events → picture ≡ svg_text asked (opened o) events besides
    → none ≡ [] → one ≡ none ++ HEAD.now → two ≡ one ++ picture → three ≡ two ++ first_section first_pages o
    → four ≡ three ++ sections_text pages (opened o) 1 events → five ≡ four ++ TAIL.now → five ≡ page_text asked o events besides
page_told asked o events besides first_pages pages picture none one two three four five f p s e0 e1 e2 e3 e4 e5 =
    five_from_none none one two three four five HEAD.now (svg_text asked (opened o) events besides) (first_section (pages_drawn asked (opened o) events) o)
    (sections_text (pages_drawn asked (opened o) events) (opened o) 1 events) TAIL.now
    e0 e1
    (e2 ∙ ap (λ t. one ++ t) s)
    (e3 ∙ ap (λ ps. two ++ first_section ps o) f)
    (e4 ∙ ap (λ ps. three ++ sections_text ps (opened o) 1 events) p)
    e5
