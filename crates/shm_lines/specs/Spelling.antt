-- How each line is spelled: one way for each.
use Rattle.std.specs.Prelude.{ℕ, ◌<◌, ⊤, List, [], ◌∷◌, codes, Option, None, Some}
use Rattle.std.specs.List.{join_with_byte}
use Rattle.std.specs.Fmt.{decimal}
use Rattle.std.specs.Int.{IsInRange}
use Rattle.shm_place.specs.Limits.{max_frames, pages}
use Rattle.shm_model.specs.declared.event.Event.{Event}
use Rattle.shm_model.specs.declared.event.Event.TheVariants.{Load, Store, Begin, Tick, Restart, Deliver, Repeat, Lose}
use Rattle.shm_model.specs.declared.world_opening.Opening.{Opening}
use Rattle.shm_model.specs.Book.{max_sites}
use Rattle.shm_lines.specs.Calls.{IsRequest, request_verb, words_of_request}
pub use Rattle.shm_lines.specs.Words.{IsNumber, IsMode, access_word}
use Rattle.shm_lines.specs.declared.script_line.Line.{Line}
use Rattle.shm_lines.specs.declared.script_line.Line.TheVariants.{Sites, Event as EventLine, Show, Back}

-- ---- the lines that there are, of all that the numbers could make

abbrev pub IsEvent : Event → Type 0
IsEvent (Load site at offset) = IsNumber site × IsNumber at × IsNumber offset
IsEvent (Store site at offset byte) = IsNumber site × IsNumber at × IsNumber offset × (byte < 256)
IsEvent (Begin site request) = IsNumber site × IsRequest request
IsEvent (Tick site) = IsNumber site
IsEvent (Restart site) = IsNumber site
IsEvent (Deliver k) = IsNumber k
IsEvent (Repeat k) = IsNumber k
IsEvent (Lose k) = IsNumber k

-- frames stand only beside a preset
abbrev pub IsOpened : Option ℕ → Option ℕ → Type 0
IsOpened None None = ⊤
IsOpened None (Some frames) = ⊥
IsOpened (Some size) None = IsInRange 1 pages size
IsOpened (Some size) (Some frames) = IsInRange 1 pages size × IsInRange 1 max_frames frames

abbrev pub IsLine : Line → Type 0
IsLine (Sites opening) = IsInRange 1 max_sites opening.sites × IsOpened opening.preset opening.frames
IsLine (EventLine event) = IsEvent event
IsLine (Show page) = IsNumber page.seg × IsNumber page.index
IsLine (Back n) = IsNumber n

-- ---- their words

abbrev pub event_words : Event → List (List ℕ)
event_words (Load site at offset) = codes "load" ∷ decimal site ∷ decimal at ∷ decimal offset ∷ []
event_words (Store site at offset byte) = codes "store" ∷ decimal site ∷ decimal at ∷ decimal offset ∷ decimal byte ∷ []
event_words (Begin site request) = request_verb request ∷ decimal site ∷ words_of_request request
event_words (Tick site) = codes "tick" ∷ decimal site ∷ []
event_words (Restart site) = codes "restart" ∷ decimal site ∷ []
event_words (Deliver k) = codes "deliver" ∷ decimal k ∷ []
event_words (Repeat k) = codes "repeat" ∷ decimal k ∷ []
event_words (Lose k) = codes "lose" ∷ decimal k ∷ []

abbrev pub first_words : ℕ → Option ℕ → Option ℕ → List (List ℕ)
first_words count None None = codes "sites" ∷ decimal count ∷ []
first_words count None (Some frames) = codes "sites" ∷ decimal count ∷ codes "frames" ∷ decimal frames ∷ []
first_words count (Some size) None = codes "sites" ∷ decimal count ∷ codes "preset" ∷ decimal size ∷ []
first_words count (Some size) (Some frames) = codes "sites" ∷ decimal count ∷ codes "preset" ∷ decimal size ∷ codes "frames" ∷ decimal frames ∷ []

abbrev pub opening_words : Opening → List (List ℕ)
opening_words opening = first_words opening.sites opening.preset opening.frames

abbrev pub spelled_words : Line → List (List ℕ)
spelled_words (Sites opening) = opening_words opening
spelled_words (EventLine event) = event_words event
spelled_words (Show page) = codes "show" ∷ decimal page.seg ∷ decimal page.index ∷ []
spelled_words (Back n) = codes "back" ∷ decimal n ∷ []

abbrev pub spelling : Line → List ℕ
spelling line = join_with_byte 32 (spelled_words line)
