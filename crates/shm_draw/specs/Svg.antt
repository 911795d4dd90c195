-- The text of a picture (W3C, Scalable Vector Graphics 1.1): shapes and texts at places that are counted in sites and in events.
use Rattle.std.specs.Prelude.{ℕ, ◌+◌, ◌-◌, ◌*◌, ◌/◌, ◌==◌, Bool, true, false, if◌then◌else◌, nat_lt, List, [], ◌∷◌, ◌++◌, codes, length, Option, Some, None}
use Rattle.std.specs.Char.{encode_utf8}
use Rattle.std.specs.Fmt.{decimal}
use Rattle.std.specs.List.{flat_map, list_any, range_with_len}
use Rattle.std.specs.Str.{chars}
use Rattle.shm_place.specs.declared.page_id.PageId.{PageId}
use Rattle.shm_model.specs.declared.answer.Answer.{Answer}
use Rattle.shm_model.specs.declared.answer.Answer.TheVariants.{Took}
use Rattle.shm_model.specs.declared.answer.Shown.{Shown}
use Rattle.shm_model.specs.declared.answer.State.{State}
use Rattle.shm_model.specs.declared.answer.State.TheVariants as state
use Rattle.shm_model.specs.declared.call.Op.TheVariants.{Stat}
use Rattle.shm_model.specs.declared.call.Request.{Request as CallRequest}
use Rattle.shm_model.specs.declared.call.Request.TheVariants.{Op as OpRequest}
use Rattle.shm_model.specs.declared.event.Event.{Event}
use Rattle.shm_model.specs.declared.event.Event.TheVariants.{Begin}
use Rattle.shm_model.specs.World.{World, next}
use Rattle.shm_lines.specs.declared.script_line.Line.TheVariants as line
use Rattle.shm_lines.specs.Spelling.{spelling}
use Rattle.shm_text.specs.Names.{state_name}
use Rattle.shm_text.specs.Text.{answer_text}
use Rattle.shm_world.specs.Showing.{shown}
use Rattle.shm_draw.specs.Captions.{Beside}
use Rattle.shm_draw.specs.declared.svg_style.TheConstants.{STYLE}
use Rattle.shm_draw.specs.declared.mark_kinds.End.{End}
use Rattle.shm_draw.specs.declared.mark_kinds.End.TheVariants.{HandedOver, Repeated, Lost, OnItsWay}
use Rattle.shm_draw.specs.declared.mark_kinds.Mark.{Mark}
use Rattle.shm_draw.specs.declared.mark_kinds.Mark.TheVariants.{At, Arrow, Elsewhere, Nowhere}
use Rattle.shm_draw.specs.declared.mark_kinds.Symbol.{Symbol}
use Rattle.shm_draw.specs.declared.mark_kinds.Symbol.TheVariants.{Request, Tick, Restart}
use Rattle.shm_draw.specs.declared.mark_kinds.Way.{Way}
use Rattle.shm_draw.specs.declared.message_label.Word.{Word}
use Rattle.shm_draw.specs.declared.message_label.Word.TheVariants as word
use Rattle.shm_draw.specs.Picture.{Scene, first_scene, scene_after, last_scene, mark, on_their_way, pages_drawn}

-- ---- places, in pixels; heights count from the top of the page's picture

-- the middle of a site's lifeline
abbrev pub x_of : ℕ → ℕ
x_of site = 270 + 110 * site

-- the height of an event, by its number; the world before the first event has the topmost, at number 0
abbrev pub y_of : ℕ → ℕ
y_of number = 78 + 22 * number

-- an arrow ends at its receiver's lifeline; where the envelope is lost, halfway
abbrev pub tip_of : ℕ → ℕ → End → ℕ
tip_of from to Lost = 270 + 55 * (from + to)
tip_of from to HandedOver = x_of to
tip_of from to Repeated = x_of to
tip_of from to OnItsWay = x_of to

-- how far a bow goes out from its lifeline: the longer the further, so that one within another stays within; but never past the room right
-- of the last lifeline, where its answer stands too
abbrev pub reach_of : ℕ → ℕ → ℕ
reach_of origin row = let rows = row - origin in 24 + (132 * rows) / (rows + 11)

-- ---- lifelines

-- which page the picture is of
abbrev pub heading_text : PageId → List ℕ
heading_text page =
    codes "<text class='h' x='8' y='70'>page " ++ (decimal page.index ++ (codes " of segment " ++ (decimal page.seg ++ codes "</text>\n")))

abbrev pub name_text : ℕ → List ℕ
name_text site = codes "<text class='s' x='" ++ (decimal (x_of site) ++ (codes "' y='70'>site " ++ (decimal site ++ codes "</text>\n")))

abbrev pub names_text : ℕ → List ℕ
names_text sites = flat_map name_text (range_with_len 0 sites)

-- a site that has nothing of a page, and met no number there, has nothing to do with it so far
abbrev pub nil_name : ℕ → List ℕ
nil_name seen = if seen == 0 then codes "Untouched" else codes "Nil"

abbrev pub fill_name : State → ℕ → List ℕ
fill_name state.Nil seen = nil_name seen
fill_name state.Copy seen = state_name state.Copy
fill_name state.OwnRead seen = state_name state.OwnRead
fill_name state.OwnWrite seen = state_name state.OwnWrite
fill_name state.Handed seen = state_name state.Handed
fill_name state.Purged seen = state_name state.Purged

-- what a site has of the page from this row on
abbrev pub cell_text : ℕ → ℕ → Option Shown → List ℕ
cell_text number site None = []
cell_text number site (Some x) =
    codes "<use href='#" ++ (fill_name x.state x.seen ++ (codes "' x='" ++ (decimal (x_of site)
    ++ (codes "' y='" ++ (decimal (y_of number) ++ codes "'/>\n")))))

abbrev pub cells_text : World → PageId → ℕ → List ℕ
cells_text w page number = flat_map (λ s. cell_text number s (shown w s page)) (range_with_len 0 w.count)

-- ---- arrows

abbrev pub word_text : Word → List ℕ
word_text word.Ask = codes "Ask"
word_text word.Clear = codes "Clear"
word_text word.Cleared = codes "Cleared"
word_text word.Hand = codes "Hand"
word_text word.Page = codes "Page"
word_text word.Confirm = codes "Confirm"
word_text word.Call = codes "Call"
word_text word.Reply = codes "Reply"
word_text word.Purge = codes "Purge"
word_text word.Purged = codes "Purged"

abbrev pub class_text : End → List ℕ
class_text HandedOver = codes "over"
class_text Repeated = codes "again"
class_text Lost = codes "lost"
class_text OnItsWay = codes "fly"

abbrev pub end_text : End → List ℕ
end_text HandedOver = []
end_text Repeated = codes " again"
end_text Lost = codes " lost"
end_text OnItsWay = []

-- what stands at an arrow's head stands where the line doesn't come from: a bow comes from the right
abbrev pub side_text : ℕ → ℕ → List ℕ
side_text from to = if nat_lt from to then codes "dx='12'" else codes "dx='-12' text-anchor='end'"

-- from the row of the event that sent the envelope to this row: a straight line, or to the same site a bow
abbrev pub straight_text : Way → End → ℕ → List ℕ
straight_text way end row =
    codes "<path class='" ++ (class_text end ++ (codes "' d='M" ++ (decimal (x_of way.from) ++ (codes " " ++ (decimal (y_of way.origin)
    ++ (codes "L" ++ (decimal (tip_of way.from way.to end) ++ (codes " " ++ (decimal (y_of row) ++ codes "'/>\n")))))))))

abbrev pub bow_text : Way → End → ℕ → List ℕ
bow_text way end row =
    let out = x_of way.from + reach_of way.origin row in
    codes "<path class='" ++ (class_text end ++ (codes "' d='M" ++ (decimal (x_of way.from) ++ (codes " " ++ (decimal (y_of way.origin)
    ++ (codes "C" ++ (decimal out ++ (codes " " ++ (decimal (y_of way.origin)
    ++ (codes " " ++ (decimal out ++ (codes " " ++ (decimal (y_of row)
    ++ (codes " " ++ (decimal (tip_of way.from way.to end) ++ (codes " " ++ (decimal (y_of row) ++ codes "'/>\n")))))))))))))))))

abbrev pub path_text : Way → End → ℕ → List ℕ
path_text way end row = if way.from == way.to then bow_text way end row else straight_text way end row

abbrev pub label_text : Way → End → ℕ → List ℕ
label_text way end row =
    codes "<text class='m' x='" ++ (decimal (tip_of way.from way.to end) ++ (codes "' y='" ++ (decimal (y_of row) ++ (codes "' dy='4' " ++ (side_text way.from way.to
    ++ (codes ">m" ++ (decimal way.number ++ (codes " " ++ (word_text way.word ++ end_text end)))))))))

-- what is told right of a lifeline whose label stands left of it, beyond a bow
abbrev pub gap_of : Way → ℕ → ℕ
gap_of way row = if way.from == way.to then reach_of way.origin row else 24

-- where the label is left of the lifeline, what is told next stands right of it
abbrev pub aside_text : Way → End → ℕ → List ℕ
aside_text way end row =
    if nat_lt way.from way.to then []
    else codes "</text><text class='t' x='" ++ (decimal (tip_of way.from way.to end + gap_of way row) ++ (codes "' y='" ++ (decimal (y_of row) ++ codes "' dy='4'>")))

abbrev pub is_took : Answer → Bool
is_took Took = true
is_took _ = false

-- what was answered, unless the input was only taken
abbrev pub told_text : Answer → List ℕ
told_text answer = if is_took answer then [] else codes " " ++ answer_text answer

-- what stands at an arrow's head
abbrev pub head_label : Way → End → ℕ → Answer → List ℕ
head_label way end row answer = label_text way end row ++ (aside_text way end row ++ (told_text answer ++ codes "</text>\n"))

-- ---- events

abbrev pub symbol_name : Symbol → List ℕ
symbol_name Request = codes "Request"
symbol_name Tick = codes "Tick"
symbol_name Restart = codes "Restart"

abbrev pub symbol_text : ℕ → ℕ → Symbol → List ℕ
symbol_text number site symbol =
    codes "<use href='#" ++ (symbol_name symbol ++ (codes "' x='" ++ (decimal (x_of site) ++ (codes "' y='" ++ (decimal (y_of number) ++ codes "'/>\n")))))

-- right of a site's lifeline
abbrev pub at_head : ℕ → ℕ → List ℕ
at_head number site =
    codes "<text class='t' x='" ++ (decimal (x_of site) ++ (codes "' y='" ++ (decimal (y_of number) ++ codes "' dy='4' dx='10'>")))

-- what was answered at a site
abbrev pub at_label : ℕ → ℕ → Answer → List ℕ
at_label number site answer = at_head number site ++ (told_text answer ++ codes "</text>\n")

abbrev pub nowhere_head : ℕ → List ℕ
nowhere_head number = codes "<text class='t' x='258' y='" ++ (decimal (y_of number) ++ codes "' dy='4' text-anchor='end'>")

-- where there is no such envelope or site, what was answered, left of the lifelines
abbrev pub nowhere_label : ℕ → Answer → List ℕ
nowhere_label number answer = nowhere_head number ++ (told_text answer ++ codes "</text>\n")

-- the page that an event of another page is about, as a script spells it, left of the lifelines
abbrev pub elsewhere_label : ℕ → PageId → List ℕ
elsewhere_label number page =
    codes "<text class='e' x='258' y='" ++ (decimal (y_of number) ++ (codes "' dy='4' text-anchor='end'>page "
    ++ (decimal page.seg ++ (codes " " ++ (decimal page.index ++ codes "</text>\n")))))

-- what is drawn below all texts
abbrev pub mark_shape : ℕ → Mark → List ℕ
mark_shape number (At site symbol) = symbol_text number site symbol
mark_shape number (Arrow way end) = path_text way end number
mark_shape number (Elsewhere page) = []
mark_shape number Nowhere = []

abbrev pub mark_label : ℕ → Mark → Answer → List ℕ
mark_label number (At site symbol) answer = at_label number site answer
mark_label number (Arrow way end) answer = head_label way end number answer
mark_label number (Elsewhere page) answer = elsewhere_label number page
mark_label number Nowhere answer = nowhere_label number answer

-- the line of an event of another page is grey
abbrev pub line_class : Mark → List ℕ
line_class (Elsewhere page) = codes "e"
line_class (At site symbol) = codes "l"
line_class (Arrow way end) = codes "l"
line_class Nowhere = codes "l"

-- the event's line in the script of what stands, whose first line is the opening, and the event as a script spells it
abbrev pub line_text : ℕ → Event → Mark → List ℕ
line_text number event m =
    codes "<text class='" ++ (line_class m ++ (codes "' x='8' y='" ++ (decimal (y_of number) ++ (codes "' dy='4'>" ++ (decimal (number + 1)
    ++ (codes " " ++ (spelling (line.Event event) ++ codes "</text>\n")))))))

abbrev pub mark_of : PageId → Scene → Event → Mark
mark_of page s e = mark page s.world s.origins e

-- a row's shapes: the lifelines after the event, and what the event draws
abbrev pub row_shapes : PageId → Scene → Event → List ℕ
row_shapes page s e = cells_text (next s.world e).world page s.number ++ mark_shape s.number (mark_of page s e)

-- a row's texts: the event, and what was answered
abbrev pub row_labels : PageId → Scene → Event → List ℕ
row_labels page s e = line_text s.number e (mark_of page s e) ++ mark_label s.number (mark_of page s e) (next s.world e).done.answer

-- a row for each event
abbrev pub rows_text : (Scene → Event → List ℕ) → Scene → List Event → List ℕ
rows_text row s [] = []
rows_text row s (e ∷ es) = row s e ++ rows_text row (scene_after s e) es

-- ---- the picture of a page

-- ways that haven't ended, each in a row of its own below that of the last event
abbrev pub flying_text : (Way → ℕ → List ℕ) → ℕ → ℕ → List Way → List ℕ
flying_text row last further [] = []
flying_text row last further (way ∷ ways) = row way (last + further) ++ flying_text row last (further + 1) ways

abbrev pub flying_shape : Way → ℕ → List ℕ
flying_shape way row = path_text way OnItsWay row

abbrev pub flying_label : Way → ℕ → List ℕ
flying_label way row = head_label way OnItsWay row Took

-- the ways that haven't ended after these events
abbrev pub ways_after : PageId → World → List Event → List Way
ways_after page w events = let s = last_scene (first_scene w) events in on_their_way page s.world s.origins

abbrev pub shapes_text : PageId → World → List Event → List ℕ
shapes_text page w events =
    cells_text w page 0 ++ (rows_text (row_shapes page) (first_scene w) events ++ flying_text flying_shape (length events) 1 (ways_after page w events))

abbrev pub labels_text : PageId → World → List Event → List ℕ
labels_text page w events =
    heading_text page ++ (names_text w.count
    ++ (rows_text (row_labels page) (first_scene w) events ++ flying_text flying_label (length events) 1 (ways_after page w events)))

-- ---- captions

-- as a text of SVG has the character
abbrev pub escape : ℕ → List ℕ
escape c =
    if c == 38 then codes "&amp;"
    else if c == 60 then codes "&lt;"
    else if c == 62 then codes "&gt;"
    else encode_utf8 c

abbrev pub escaped : List ℕ → List ℕ
escaped text = flat_map escape (chars text)

abbrev pub caption_head : ℕ → ℕ → List ℕ
caption_head x row = codes "<text style='font-style:italic;fill:#850' x='" ++ (decimal x ++ (codes "' y='" ++ (decimal (y_of row) ++ codes "' dy='4'>")))

abbrev pub beside_text : ℕ → ℕ → List ℕ → List ℕ
beside_text x row text = caption_head x row ++ (escaped text ++ codes "</text>\n")

-- from this place on, beside the row before which the picture shows the caption's number, if there is such a row; the opening's has number 1
abbrev pub caption_text : ℕ → ℕ → Beside → List ℕ
caption_text x last beside =
    if nat_lt last (beside.line - 1) then [] else beside_text x (beside.line - 1) beside.text

abbrev pub captions_text : ℕ → ℕ → List Beside → List ℕ
captions_text x last besides = flat_map (caption_text x last) besides

abbrev pub greater : ℕ → ℕ → ℕ
greater a b = if nat_lt a b then b else a

-- the greatest of this and of the texts' lengths
abbrev pub longest : ℕ → List Beside → ℕ
longest most [] = most
longest most (beside ∷ besides) = longest (greater most (length beside.text)) besides

-- how much wider captions make the picture: a margin, and so much for each byte of the longest
abbrev pub room_for : List Beside → ℕ
room_for [] = 0
room_for (beside ∷ besides) = 16 + 8 * longest 0 (beside ∷ besides)

-- ---- the picture of one page

-- so many rows, a margin, and what stands above the first row
abbrev pub depth_of : ℕ → ℕ → ℕ
depth_of last further = 110 + 22 * (last + further)

abbrev pub depth : PageId → World → List Event → ℕ
depth page w events = depth_of (length events) (length (ways_after page w events))

abbrev pub group_text : ℕ → List ℕ
group_text top = codes "<g transform='translate(0 " ++ (decimal top ++ codes ")'>\n")

-- the picture of one page with this text of captions, so far below the top; no shape covers a text
abbrev pub page_text : PageId → World → List Event → List ℕ → ℕ → List ℕ
page_text page w events captions top =
    group_text top ++ (shapes_text page w events ++ (labels_text page w events ++ (captions ++ codes "</g>\n")))

-- ---- the whole

-- the pictures of these pages, one below the other
abbrev pub pages_text : List PageId → World → List Event → List ℕ → ℕ → List ℕ
pages_text [] w events captions top = []
pages_text (page ∷ pages) w events captions top = page_text page w events captions top ++ pages_text pages w events captions (top + depth page w events)

-- how far they go down
abbrev pub bottom_of : List PageId → World → List Event → ℕ → ℕ
bottom_of [] w events top = top
bottom_of (page ∷ pages) w events top = bottom_of pages w events (top + depth page w events)

abbrev pub is_stat : CallRequest → Bool
is_stat (OpRequest (Stat _ _)) = true
is_stat _ = false

abbrev pub asks_stat : Event → Bool
asks_stat (Begin _ request) = is_stat request
asks_stat _ = false

abbrev pub is_call : Event → Bool
is_call (Begin _ _) = true
is_call _ = false

-- how far what is told right of the last lifeline goes; the reply to a call is longer than what an access gives, that to a stat is long
abbrev pub room_of : List Event → ℕ
room_of events = if list_any asks_stat events then 820 else if list_any is_call events then 360 else 240

-- as wide as the lifelines need, and the legend
abbrev pub width_of : ℕ → ℕ → ℕ
width_of sites room = if nat_lt (160 + 110 * sites + room) 680 then 680 else 160 + 110 * sites + room

abbrev pub head_text : ℕ → ℕ → List ℕ
head_text width bottom =
    codes "<svg xmlns='http://www.w3.org/2000/svg' width='" ++ (decimal width ++ (codes "' height='" ++ (decimal bottom ++ codes "'>\n")))

-- the pictures of the run of these events from this world, with these captions: of the page that was asked for, or of each page that is touched
abbrev pub svg_text : Option PageId → World → List Event → List Beside → List ℕ
svg_text asked w events besides =
    let pages = pages_drawn asked w events in
    let right = width_of w.count (room_of events) in
    head_text (right + room_for besides) (bottom_of pages w events 0)
    ++ (STYLE.now ++ (pages_text pages w events (captions_text right (length events) besides) 0 ++ codes "</svg>\n"))
