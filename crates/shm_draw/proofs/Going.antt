-- A run that is drawn event by event, and the picture of a page from its parts.
use Rattle.std.proofs.Common.{◌≡◌, ◌∙◌, ℕ, ◌+◌, ◌-◌, List, [], ◌∷◌, ◌++◌, length, drop, replicate, Option, Result, OnOk, refl, sym, ap, ap₂, subst, append_assoc, append-nil, codes}
use Rattle.shm_place.specs.declared.page_id.PageId.{PageId}
use Rattle.shm_model.specs.declared.answer.Answer.{Answer}
use Rattle.shm_model.specs.declared.event.Event.{Event}
use Rattle.shm_model.specs.World as model
use Rattle.shm_debug.proofs.Booked.{on_ok-then}
use Rattle.shm_world.specs.Steps.{Went}
use Rattle.shm_world.specs.World.{StandsFor}
use Rattle.shm_world.specs.declared.world.World.{World}
use Rattle.shm_draw.specs.Captions.{Beside}
use Rattle.shm_draw.specs.Drawing.{DrewEvent, DrewEvents, DrewPage, DrewPages, Sheet, sheet}
use Rattle.shm_draw.specs.Picture.{Scene, first_scene, scene, scene_after, last_scene, mark, pages_drawn}
use Rattle.shm_draw.specs.Svg
use Rattle.shm_draw.specs.Svg.{bottom_of, cells_text, depth, flying_label, flying_shape, flying_text, group_text, heading_text, line_text, mark_label, mark_shape, names_text, page_text, pages_text, row_labels, row_shapes, rows_text, ways_after}
use Rattle.shm_draw.specs.declared.svg_style.TheConstants.{STYLE}
use Rattle.shm_draw.specs.declared.mark_kinds.Way.{Way}
use Rattle.shm_draw.specs.declared.mark_kinds.Mark.{Mark}

-- so many of the events are drawn
pub record Going {A : Type 0} (page : PageId) (first : Scene) (events : List Event) (old new : Sheet) (world : World A) (index : ℕ) (origins : List ℕ) : Type 0 where
  pub here : Scene
  pub stands : StandsFor world here.world
  pub sent_by : origins ≡ here.origins
  pub counted : index + 1 ≡ here.number
  pub shapes : new.shapes ++ rows_text (row_shapes page) here (drop index events) ≡ old.shapes ++ rows_text (row_shapes page) first events
  pub labels : new.labels ++ rows_text (row_labels page) here (drop index events) ≡ old.labels ++ rows_text (row_labels page) first events
  pub last : last_scene here (drop index events) ≡ last_scene first events

pub going_none : {A : Type 0} (page : PageId) (first : Scene) (events : List Event) (old : Sheet) (world : World A) (origins : List ℕ)
    → StandsFor world first.world → origins ≡ first.origins → first.number ≡ 1 → Going page first events old old world 0 origins
going_none page first events old world origins stands same one =
    record { here = first; stands = stands; sent_by = same; counted = sym one; shapes = refl; labels = refl; last = refl }

-- a text that has one row more
one_more : (row : Scene → Event → List ℕ) (s : Scene) (e : Event) (rest all : List Event) (now new whole : List ℕ)
    → new ≡ now ++ row s e → all ≡ e ∷ rest → now ++ rows_text row s all ≡ whole → new ++ rows_text row (scene_after s e) rest ≡ whole
one_more row s e rest all now new whole more is had =
    ap (λ t. t ++ rows_text row (scene_after s e) rest) more
    ∙ append_assoc now (row s e) (rows_text row (scene_after s e) rest)
    ∙ ap (λ xs. now ++ rows_text row s xs) (sym is)
    ∙ had

pub going_more : {A : Type 0} (page : PageId) (first : Scene) (events : List Event) (old now new : Sheet) (world world' : World A) (index : ℕ) (origins origins' : List ℕ) (e : Event)
    → Going page first events old now world index origins → drop index events ≡ e ∷ drop (index + 1) events
    → ((w : model.World) → StandsFor world w → DrewEvent page (scene w (index + 1) origins) e now new world' origins')
    → Going page first events old new world' (index + 1) origins'
going_more page first events old now new world world' index origins origins' e had dropped drew =
    let s = had.here in
    let rest = drop (index + 1) events in
    let same : scene s.world (index + 1) origins ≡ s = ap₂ (λ n o. scene s.world n o) had.counted had.sent_by in
    let d : DrewEvent page s e now new world' origins' = subst (λ t. DrewEvent page t e now new world' origins') same (drew s.world had.stands) in
    record {
      here = scene_after s e;
      stands = d.stands;
      sent_by = d.sent_by;
      counted = ap (λ n. n + 1) had.counted;
      shapes = one_more (row_shapes page) s e rest (drop index events) now.shapes new.shapes (old.shapes ++ rows_text (row_shapes page) first events) d.shapes dropped had.shapes;
      labels = one_more (row_labels page) s e rest (drop index events) now.labels new.labels (old.labels ++ rows_text (row_labels page) first events) d.labels dropped had.labels;
      last = ap (last_scene s) (sym dropped) ∙ had.last;
    }

-- a text that has all rows
all_there : (row : Scene → Event → List ℕ) (s : Scene) (rest : List Event) (new whole : List ℕ) → rest ≡ [] → new ++ rows_text row s rest ≡ whole → new ≡ whole
all_there row s rest new whole none had = sym (append-nil new) ∙ ap (λ xs. new ++ rows_text row s xs) (sym none) ∙ had

pub going_all : {A : Type 0} (page : PageId) (first : Scene) (events : List Event) (old new : Sheet) (world : World A) (index : ℕ) (origins : List ℕ)
    → drop index events ≡ [] → Going page first events old new world index origins → DrewEvents page first events old new world origins
going_all page first events old new world index origins none had =
    let s = had.here in
    let same : s ≡ last_scene first events = ap (last_scene s) (sym none) ∙ had.last in
    record {
      shapes = all_there (row_shapes page) s (drop index events) new.shapes (old.shapes ++ rows_text (row_shapes page) first events) none had.shapes;
      labels = all_there (row_labels page) s (drop index events) new.labels (old.labels ++ rows_text (row_labels page) first events) none had.labels;
      stands = subst (λ (t : Scene). StandsFor world t.world) same had.stands;
      sent_by = had.sent_by ∙ ap (λ (t : Scene). t.origins) same;
    }

-- ---- texts that are told one after the other

three_in_a_row : (a b c : List ℕ) → (([] ++ a) ++ b) ++ c ≡ a ++ (b ++ c)
three_in_a_row a b c = simp append_assoc refl

four_in_a_row : (a b c d : List ℕ) → ((([] ++ a) ++ b) ++ c) ++ d ≡ a ++ (b ++ (c ++ d))
four_in_a_row a b c d = simp append_assoc refl

five_behind : (old a b c d e : List ℕ) → ((((old ++ a) ++ b) ++ c) ++ d) ++ e ≡ old ++ (a ++ (b ++ (c ++ (d ++ e))))
five_behind old a b c d e = simp append_assoc refl

pub three_told : (start first second third a b c : List ℕ) → start ≡ [] → first ≡ start ++ a → second ≡ first ++ b → third ≡ second ++ c → third ≡ a ++ (b ++ c)
three_told start first second third a b c z p q r =
    r ∙ ap (λ t. t ++ c) q ∙ ap (λ t. (t ++ b) ++ c) p ∙ ap (λ t. ((t ++ a) ++ b) ++ c) z ∙ three_in_a_row a b c

pub four_told : (start first second third fourth a b c d : List ℕ) → start ≡ [] → first ≡ start ++ a → second ≡ first ++ b → third ≡ second ++ c → fourth ≡ third ++ d
    → fourth ≡ a ++ (b ++ (c ++ d))
four_told start first second third fourth a b c d z p q r s =
    s ∙ ap (λ t. t ++ d) r ∙ ap (λ t. (t ++ c) ++ d) q ∙ ap (λ t. ((t ++ b) ++ c) ++ d) p ∙ ap (λ t. (((t ++ a) ++ b) ++ c) ++ d) z ∙ four_in_a_row a b c d

pub told_behind : (old first second third fourth fifth a b c d e : List ℕ)
    → first ≡ old ++ a → second ≡ first ++ b → third ≡ second ++ c → fourth ≡ third ++ d → fifth ≡ fourth ++ e
    → fifth ≡ old ++ (a ++ (b ++ (c ++ (d ++ e))))
told_behind old first second third fourth fifth a b c d e p q r s z =
    z ∙ ap (λ t. t ++ e) s ∙ ap (λ t. (t ++ d) ++ e) r ∙ ap (λ t. ((t ++ c) ++ d) ++ e) q ∙ ap (λ t. (((t ++ b) ++ c) ++ d) ++ e) p ∙ five_behind old a b c d e

-- ---- the picture of a page from the texts of its parts

same_ways : (row : Way → ℕ → List ℕ) (page : PageId) (w : model.World) (events : List Event) (last : ℕ) (ways : List Way) → last ≡ length events → ways ≡ ways_after page w events
    → flying_text row last 1 ways ≡ flying_text row (length events) 1 (ways_after page w events)
same_ways row page w events last ways all are = ap (λ n. flying_text row n 1 ways) all ∙ ap (flying_text row (length events) 1) are

pub shapes_told : (page : PageId) (w : model.World) (events : List Event) (last : ℕ) (ways : List Way) (s0 s1 s2 s3 : List ℕ) → last ≡ length events → ways ≡ ways_after page w events
    → s0 ≡ [] → s1 ≡ s0 ++ cells_text w page 0 → s2 ≡ s1 ++ rows_text (row_shapes page) (first_scene w) events → s3 ≡ s2 ++ flying_text flying_shape last 1 ways
    → s3 ≡ Svg.shapes_text page w events
shapes_told page w events last ways s0 s1 s2 s3 all are z a b c =
    let cells = cells_text w page 0 in
    let rows = rows_text (row_shapes page) (first_scene w) events in
    three_told s0 s1 s2 s3 cells rows (flying_text flying_shape last 1 ways) z a b c
    ∙ ap (λ t. cells ++ (rows ++ t)) (same_ways flying_shape page w events last ways all are)

pub labels_told : (page : PageId) (w : model.World) (events : List Event) (count last : ℕ) (ways : List Way) (l0 l1 l2 l3 l4 : List ℕ)
    → count ≡ w.count → last ≡ length events → ways ≡ ways_after page w events
    → l0 ≡ [] → l1 ≡ l0 ++ heading_text page → l2 ≡ l1 ++ names_text count → l3 ≡ l2 ++ rows_text (row_labels page) (first_scene w) events
    → l4 ≡ l3 ++ flying_text flying_label last 1 ways → l4 ≡ Svg.labels_text page w events
labels_told page w events count last ways l0 l1 l2 l3 l4 sites all are z a b c d =
    let rows = rows_text (row_labels page) (first_scene w) events in
    four_told l0 l1 l2 l3 l4 (heading_text page) (names_text count) rows (flying_text flying_label last 1 ways) z a b c d
    ∙ ap (λ n. heading_text page ++ (names_text n ++ (rows ++ flying_text flying_label last 1 ways))) sites
    ∙ ap (λ t. heading_text page ++ (names_text w.count ++ (rows ++ t))) (same_ways flying_label page w events last ways all are)

pub page_told : (page : PageId) (w : model.World) (events : List Event) (captions : List ℕ) (top last further answer : ℕ) (ways : List Way) (shapes labels o0 o1 o2 o3 o4 o5 : List ℕ)
    → last ≡ length events → further ≡ length ways → ways ≡ ways_after page w events → answer ≡ Svg.depth_of last further
    → shapes ≡ Svg.shapes_text page w events → labels ≡ Svg.labels_text page w events
    → o1 ≡ o0 ++ group_text top → o2 ≡ o1 ++ shapes → o3 ≡ o2 ++ labels → o4 ≡ o3 ++ captions → o5 ≡ o4 ++ codes "</g>\n"
    → DrewPage page w events captions top o0 o5 answer
page_told page w events captions top last further answer ways shapes labels o0 o1 o2 o3 o4 o5 all more are deep drew said a b c d e = record {
  text = told_behind o0 o1 o2 o3 o4 o5 (group_text top) shapes labels captions (codes "</g>\n") a b c d e
      ∙ ap (λ t. o0 ++ (group_text top ++ (t ++ (labels ++ (captions ++ codes "</g>\n"))))) drew
      ∙ ap (λ t. o0 ++ (group_text top ++ (Svg.shapes_text page w events ++ (t ++ (captions ++ codes "</g>\n"))))) said;
  deep = deep ∙ ap (λ n. Svg.depth_of n further) all ∙ ap (Svg.depth_of (length events)) (more ∙ ap length are);
}

-- ---- pages, one below the other

-- so many of the pages are drawn
pub record Paging (pages : List PageId) (w : model.World) (events : List Event) (captions : List ℕ) (old new : List ℕ) (index top : ℕ) : Type 0 where
  pub text : new ++ pages_text (drop index pages) w events captions top ≡ old ++ pages_text pages w events captions 0
  pub bottom : bottom_of (drop index pages) w events top ≡ bottom_of pages w events 0

pub paging_none : (pages : List PageId) (w : model.World) (events : List Event) (captions old : List ℕ) → Paging pages w events captions old old 0 0
paging_none pages w events captions old = record { text = refl; bottom = refl }

pub paging_more : (pages : List PageId) (w : model.World) (events : List Event) (captions old now new : List ℕ) (index top deep next : ℕ) (page : PageId)
    → Paging pages w events captions old now index top → drop index pages ≡ page ∷ drop (index + 1) pages → DrewPage page w events captions top now new deep → next ≡ top + deep
    → Paging pages w events captions old new (index + 1) next
paging_more pages w events captions old now new index top deep next page had dropped drew below =
    let rest = drop (index + 1) pages in
    let there : next ≡ top + depth page w events = below ∙ ap (λ n. top + n) drew.deep in
    record {
      text = ap (λ t. t ++ pages_text rest w events captions next) drew.text
          ∙ ap (λ n. (now ++ page_text page w events captions top) ++ pages_text rest w events captions n) there
          ∙ append_assoc now (page_text page w events captions top) (pages_text rest w events captions (top + depth page w events))
          ∙ ap (λ xs. now ++ pages_text xs w events captions top) (sym dropped)
          ∙ had.text;
      bottom = ap (bottom_of rest w events) there ∙ ap (λ xs. bottom_of xs w events top) (sym dropped) ∙ had.bottom;
    }

pub paging_all : (pages : List PageId) (w : model.World) (events : List Event) (captions old new : List ℕ) (index top : ℕ) → drop index pages ≡ []
    → Paging pages w events captions old new index top → DrewPages pages w events captions old new top
paging_all pages w events captions old new index top none had = record {
  text = sym (append-nil new) ∙ ap (λ xs. new ++ pages_text xs w events captions top) (sym none) ∙ had.text;
  deep = ap (λ xs. bottom_of xs w events top) (sym none) ∙ had.bottom;
}

-- the whole from the texts of its parts
pub picture_told : (asked : Option PageId) (w : model.World) (events : List Event) (besides : List Beside) (right room width bottom : ℕ) (pages : List PageId)
    (c0 c1 b0 b1 t0 t1 t2 t3 t4 : List ℕ)
    → right ≡ Svg.width_of w.count (Svg.room_of events) → room ≡ Svg.room_for besides → width ≡ right + room → pages ≡ pages_drawn asked w events
    → c0 ≡ [] → c1 ≡ c0 ++ Svg.captions_text right (length events) besides → b0 ≡ [] → DrewPages pages w events c1 b0 b1 bottom
    → t0 ≡ [] → t1 ≡ t0 ++ Svg.head_text width bottom → t2 ≡ t1 ++ STYLE.now → t3 ≡ t2 ++ b1 → t4 ≡ t3 ++ codes "</svg>\n" → t4 ≡ Svg.svg_text asked w events besides
picture_told asked w events besides right room width bottom pages c0 c1 b0 b1 t0 t1 t2 t3 t4 at wide whole are bare told none drew z p q r s =
    let foot = codes "</svg>\n" in
    let captions : c1 ≡ Svg.captions_text (Svg.width_of w.count (Svg.room_of events)) (length events) besides =
    told ∙ ap (λ c. c ++ Svg.captions_text right (length events) besides) bare ∙ ap (λ x. Svg.captions_text x (length events) besides) at in
    let body : b1 ≡ pages_text (pages_drawn asked w events) w events (Svg.captions_text (Svg.width_of w.count (Svg.room_of events)) (length events) besides) 0 =
    drew.text ∙ ap (λ b. b ++ pages_text pages w events c1 0) none ∙ ap (λ ps. pages_text ps w events c1 0) are
    ∙ ap (λ c. pages_text (pages_drawn asked w events) w events c 0) captions in
    let deep : bottom ≡ bottom_of (pages_drawn asked w events) w events 0 = drew.deep ∙ ap (λ ps. bottom_of ps w events 0) are in
    let broad : width ≡ Svg.width_of w.count (Svg.room_of events) + Svg.room_for besides = whole ∙ ap (λ x. x + room) at ∙ ap (λ n. Svg.width_of w.count (Svg.room_of events) + n) wide in
    four_told t0 t1 t2 t3 t4 (Svg.head_text width bottom) STYLE.now b1 foot z p q r s
    ∙ ap (λ n. Svg.head_text n bottom ++ (STYLE.now ++ (b1 ++ foot))) broad
    ∙ ap (λ n. Svg.head_text (Svg.width_of w.count (Svg.room_of events) + Svg.room_for besides) n ++ (STYLE.now ++ (b1 ++ foot))) deep
    ∙ ap (λ t. Svg.head_text (Svg.width_of w.count (Svg.room_of events) + Svg.room_for besides) (bottom_of (pages_drawn asked w events) w events 0) ++ (STYLE.now ++ (t ++ foot))) body

-- ---- one event

pub event_told : {A X Y : Type 0} (r : Result X Y) (page : PageId) (w : model.World) (number : ℕ) (origins : List ℕ) (e : Event) (shapes first second labels line new : List ℕ)
    (world : World A) (noted : List ℕ) (m : Mark) (answer : Answer) (sent : ℕ)
    → m ≡ mark page w origins e → Went world (model.next w e) answer → sent ≡ length (model.next w e).world.sent
    → noted ≡ origins ++ replicate (sent - length origins) number
    → first ≡ shapes ++ cells_text (model.next w e).world page number → second ≡ first ++ mark_shape number m
    → line ≡ labels ++ line_text number e m → OnOk r (new ≡ line ++ mark_label number m answer)
    → OnOk r (DrewEvent page (scene w number origins) e (sheet shapes labels) (sheet second new) world noted)
event_told r page w number origins e shapes first second labels line new world noted m answer sent is went count note a b c told =
    let cells = cells_text (model.next w e).world page number in
    let here = mark page w origins e in
    let said = (model.next w e).done.answer in
    on_ok-then r (λ d. record {
      shapes = b ∙ ap (λ t. t ++ mark_shape number m) a ∙ ap (λ x. (shapes ++ cells) ++ mark_shape number x) is
          ∙ append_assoc shapes cells (mark_shape number (mark page w origins e));
      labels = d ∙ ap (λ t. t ++ mark_label number m answer) c ∙ ap (λ x. (labels ++ line_text number e x) ++ mark_label number x answer) is
          ∙ ap (λ x. (labels ++ line_text number e (mark page w origins e)) ++ mark_label number (mark page w origins e) x) went.answered
          ∙ append_assoc labels (line_text number e (mark page w origins e)) (mark_label number (mark page w origins e) (model.next w e).done.answer);
      stands = went.stands;
      sent_by = note ∙ ap (λ n. origins ++ replicate (n - length origins) number) count;
    }) told
