-- The pictures of a run, one for each page, as data: what each event draws, and which envelopes are still on their way after the last.
use Rattle.std.specs.Prelude.{ℕ, ◌+◌, ◌-◌, Bool, true, false, nat_lt, if◌then◌else◌, List, [], ◌∷◌, ◌++◌, length, replicate, Option, Some, None, slice_get, slice_index}
use Rattle.std.specs.List.{flat_map, list_any, range_with_len}
use Rattle.std.specs.Option.{option_to_list}
use Rattle.shm_place.specs.declared.page_id.PageId.{PageId}
use Rattle.shm_place.specs.Page.{same_page}
use Rattle.shm_model.specs.declared.event.Event.{Event}
use Rattle.shm_model.specs.declared.event.Event.TheVariants.{Load, Store, Begin, Tick, Restart, Deliver, Repeat, Lose}
use Rattle.shm_model.specs.Access.{right}
use Rattle.shm_model.specs.Entry.{Note, Ask, Clear, Cleared, Hand, Page, Confirm}
use Rattle.shm_model.specs.Message.{Message, Of, Call, Replies, Purge, Purged, Envelope}
use Rattle.shm_model.specs.Site.{Site}
use Rattle.shm_model.specs.World.{World, live, next}
use Rattle.shm_parts.specs.Reached.{page_reached}
use Rattle.shm_draw.specs.declared.mark_kinds.End.{End}
use Rattle.shm_draw.specs.declared.mark_kinds.End.TheVariants.{HandedOver, Repeated, Lost}
use Rattle.shm_draw.specs.declared.mark_kinds.Mark.{Mark}
use Rattle.shm_draw.specs.declared.mark_kinds.Mark.TheVariants.{At, Arrow, Elsewhere, Nowhere}
use Rattle.shm_draw.specs.declared.mark_kinds.Symbol.{Symbol}
use Rattle.shm_draw.specs.declared.mark_kinds.Symbol.TheVariants as symbol
use Rattle.shm_draw.specs.declared.mark_kinds.Way.{Way}
use Rattle.shm_draw.specs.declared.message_label.Word.{Word}
use Rattle.shm_draw.specs.declared.message_label.Word.TheVariants as word

-- ---- what is drawn of a message

abbrev pub word_of_note : Note → Word
word_of_note (Ask _ _) = word.Ask
word_of_note (Clear _) = word.Clear
word_of_note (Cleared _) = word.Cleared
word_of_note (Hand _ _ _) = word.Hand
word_of_note (Page _ _ _) = word.Page
word_of_note (Confirm _) = word.Confirm

abbrev pub word_of : Message → Word
word_of (Of _ note) = word_of_note note
word_of (Call _ _) = word.Call
word_of (Replies _ _) = word.Reply
word_of (Purge _) = word.Purge
word_of (Purged _) = word.Purged

abbrev pub page_of : Message → Option PageId
page_of (Of page _) = Some page
page_of (Call _ _) = None
page_of (Replies _ _) = None
page_of (Purge _) = None
page_of (Purged _) = None

-- ---- what belongs to a page

-- what is about no page is of each
abbrev pub is_of : PageId → Option PageId → Bool
is_of page None = true
is_of page (Some about) = same_page page about

abbrev pub about_access : Option Site → ℕ → ℕ → Option PageId
about_access None attachment offset = None
about_access (Some site) attachment offset = page_reached (right site.attachments attachment offset false)

abbrev pub about_envelope : Option Envelope → Option PageId
about_envelope None = None
about_envelope (Some e) = page_of e.message

-- The page that an event is about, as the world stands before it: where an access goes, or what the envelope is about. Segment calls, ticks
-- and restarts are about none.
abbrev pub about : World → Event → Option PageId
about w (Load site attachment offset) = about_access (slice_get w.sites site) attachment offset
about w (Store site attachment offset byte) = about_access (slice_get w.sites site) attachment offset
about w (Begin site request) = None
about w (Tick site) = None
about w (Restart site) = None
about w (Deliver number) = about_envelope (live w number)
about w (Repeat number) = about_envelope (live w number)
about w (Lose number) = about_envelope (live w number)

-- ---- which pages are drawn

abbrev pub with_page : Option PageId → List PageId → List PageId
with_page None pages = pages
with_page (Some page) pages = if list_any (same_page page) pages then pages else pages ++ page ∷ []

-- these pages, and then those that the events are about, in the order in which they are first touched
abbrev pub touched : World → List Event → List PageId → List PageId
touched w [] pages = pages
touched w (e ∷ es) pages = touched (next w e).world es (with_page (about w e) pages)

-- where no page is touched, the first page of segment 0
abbrev pub or_first : List PageId → List PageId
or_first [] = record { seg = 0; index = 0 } ∷ []
or_first (page ∷ pages) = page ∷ pages

-- the page that was asked for, or all that are touched
abbrev pub pages_drawn : Option PageId → World → List Event → List PageId
pages_drawn (Some page) w events = page ∷ []
pages_drawn None w events = or_first (touched w events [])

-- ---- ways

-- the way of the envelope of this number; `origins` has the event that sent each envelope
abbrev pub way : List ℕ → ℕ → Envelope → Way
way origins number e = record { number = number; origin = slice_index origins number; from = e.from; to = e.to; word = word_of e.message }

abbrev pub passed : List ℕ → ℕ → Option Envelope → End → Mark
passed origins number None end = Nowhere
passed origins number (Some e) end = Arrow (way origins number e) end

-- a site that isn't there has no lifeline
abbrev pub at_site : World → ℕ → Symbol → Mark
at_site w site symbol = if nat_lt site w.count then At site symbol else Nowhere

-- what an event draws on the picture of its page, as the world stands before it
abbrev pub own_mark : World → List ℕ → Event → Mark
own_mark w origins (Load site _ _) = at_site w site symbol.Request
own_mark w origins (Store site _ _ _) = at_site w site symbol.Request
own_mark w origins (Begin site _) = at_site w site symbol.Request
own_mark w origins (Tick site) = at_site w site symbol.Tick
own_mark w origins (Restart site) = at_site w site symbol.Restart
own_mark w origins (Deliver number) = passed origins number (live w number) HandedOver
own_mark w origins (Repeat number) = passed origins number (live w number) Repeated
own_mark w origins (Lose number) = passed origins number (live w number) Lost

-- on the picture of another page only that page is named
abbrev pub mark_on : PageId → Option PageId → Mark → Mark
mark_on page None m = m
mark_on page (Some about) m = if same_page page about then m else Elsewhere about

-- what an event draws on the picture of a page
abbrev pub mark : PageId → World → List ℕ → Event → Mark
mark page w origins e = mark_on page (about w e) (own_mark w origins e)

abbrev pub live_way : PageId → List ℕ → ℕ → Option Envelope → Option Way
live_way page origins number None = None
live_way page origins number (Some e) = if is_of page (page_of e.message) then Some (way origins number e) else None

-- the ways of those that were sent, aren't gone and are of the page
abbrev pub on_their_way : PageId → World → List ℕ → List Way
on_their_way page w origins = flat_map (λ k. option_to_list (live_way page origins k (live w k))) (range_with_len 0 (length w.sent))

-- ---- from event to event

-- the world before the event of this number, and which event sent each envelope so far
pub record Scene : Type 0 where
  pub world : World
  pub number : ℕ
  pub origins : List ℕ

abbrev pub scene : World → ℕ → List ℕ → Scene
scene w number origins = record { world = w; number = number; origins = origins }

-- events are numbered from 1
abbrev pub first_scene : World → Scene
first_scene w = scene w 1 []

-- what is sent has this event as its origin
abbrev pub origins_after : World → ℕ → List ℕ → List ℕ
origins_after w number origins = origins ++ replicate (length w.sent - length origins) number

abbrev pub scene_after : Scene → Event → Scene
scene_after s e = let w = (next s.world e).world in scene w (s.number + 1) (origins_after w s.number s.origins)

abbrev pub last_scene : Scene → List Event → Scene
last_scene s [] = s
last_scene s (e ∷ es) = last_scene (scene_after s e) es
