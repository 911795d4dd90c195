-- The page of a run: its picture, and below it a section for the opening and for each event, each with the world after it.
use Rattle.std.specs.Prelude.{ℕ, ◌+◌, List, [], ◌∷◌, ◌++◌, codes, length, Option}
use Rattle.std.specs.Fmt.{decimal}
use Rattle.shm_place.specs.declared.page_id.PageId.{PageId}
use Rattle.shm_model.specs.declared.event.Event.{Event}
use Rattle.shm_model.specs.World.{Opening, New, Preset, Framed, World, next, opened}
use Rattle.shm_lines.specs.declared.script_line.Line.TheVariants as line
use Rattle.shm_lines.specs.Spelling.{spelling}
use Rattle.shm_text.specs.Text.{line_text}
use Rattle.shm_debug.specs.Sent.{event_text}
use Rattle.shm_draw.specs.Captions.{Beside}
use Rattle.shm_draw.specs.Picture.{pages_drawn}
use Rattle.shm_draw.specs.Svg.{svg_text}
use Rattle.shm_steps.specs.Section.{world_text}
use Rattle.shm_steps.specs.declared.html_head_and_tail.TheConstants.{HEAD, TAIL}

-- ---- the opening

abbrev pub opening_text : Opening → List ℕ
opening_text (New sites) = codes "sites " ++ decimal sites
opening_text (Preset sites pages) = codes "sites " ++ (decimal sites ++ (codes " preset " ++ decimal pages))
opening_text (Framed sites pages frames) =
    codes "sites " ++ (decimal sites ++ (codes " preset " ++ (decimal pages ++ (codes " frames " ++ decimal frames))))

abbrev pub first_section : List PageId → Opening → List ℕ
first_section pages o =
    codes "</div>\n<section id='step-0'>\n<h2>" ++ (opening_text o ++ (codes "</h2>\n<pre>1 ready\n</pre>\n" ++ world_text pages (opened o)))

-- ---- events, numbered from 1; the event of a number is the line after it

-- the event's number, and the event as a script spells it
abbrev pub line_head : ℕ → Event → List ℕ
line_head number e = codes "<section id='step-" ++ (decimal number ++ (codes "'>\n<h2>" ++ (spelling (line.Event e) ++ codes "</h2>\n<pre>")))

-- the event, what a replay says to it behind its line's number, and the world after it
abbrev pub section_text : List PageId → World → ℕ → Event → List ℕ
section_text pages w number e =
    let after = (next w e).world in
    line_head number e ++ (line_text (number + 1) (event_text (next w e).done.answer after (length w.sent)) ++ (codes "</pre>\n" ++ world_text pages after))

abbrev pub sections_text : List PageId → World → ℕ → List Event → List ℕ
sections_text pages w number [] = []
sections_text pages w number (e ∷ es) = section_text pages w number e ++ sections_text pages (next w e).world (number + 1) es

-- the page of the run of these events: the picture, which has these captions, and the tables are of the page that was asked for, or of each
-- page that is touched
abbrev pub page_text : Option PageId → Opening → List Event → List Beside → List ℕ
page_text asked o events besides =
    let w = opened o in
    let pages = pages_drawn asked w events in
    HEAD.now ++ (svg_text asked w events besides ++ (first_section pages o ++ (sections_text pages w 1 events ++ TAIL.now)))
