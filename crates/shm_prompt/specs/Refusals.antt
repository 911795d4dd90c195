-- What the prompt says behind the number of a refusal, and behind that of a line that isn't refused: as a replay.
use Rattle.std.specs.Prelude.{◌==◌, ℕ, List, ◌++◌, codes, if◌then◌else◌, length, nat_le, Option, None, Some}
use Rattle.std.specs.Fmt.{decimal}
use Rattle.shm_place.specs.declared.page_id.PageId.{PageId}
use Rattle.shm_place.specs.Page.{in_limits}
use Rattle.shm_model.specs.World as model
use Rattle.shm_model.specs.Refusal.{busy, foreign_message, no_attachment, no_such_message, no_such_site, numbers_used_up, out_of_segment, read_only, too_many_attachments}
use Rattle.shm_model.specs.declared.answer.Answer.{Answer}
use Rattle.shm_model.specs.declared.answer.Answer.TheVariants.{Refused}
use Rattle.shm_model.specs.declared.event.Event.{Event}
use Rattle.shm_model.specs.declared.event.Event.TheVariants as event
use Rattle.shm_lines.specs.declared.script_line.Line.{Line}
use Rattle.shm_lines.specs.declared.script_line.Line.TheVariants as line
use Rattle.shm_debug.specs.Page.{page_text}
use Rattle.shm_debug.specs.Said.{said, said_to_event}
use Rattle.shm_debug.specs.Standing.{Standing, world_of}

-- the number of the site or the envelope that an event names
abbrev pub named_by : Event → ℕ
named_by (event.Load site at offset) = site
named_by (event.Store site at offset byte) = site
named_by (event.Begin site request) = site
named_by (event.Tick site) = site
named_by (event.Restart site) = site
named_by (event.Deliver k) = k
named_by (event.Repeat k) = k
named_by (event.Lose k) = k

-- what a refusal of this number says before that, and behind it
abbrev pub words_before : ℕ → List ℕ
words_before number =
    if number == no_such_site then codes "there is no site "
    else if number == no_such_message then codes "no message is on its way under number "
    else if number == foreign_message then codes "its site can't have message "
    else if number == numbers_used_up then codes "the numbers are used up for "
    else codes "site "

abbrev pub words_behind : ℕ → List ℕ
words_behind number =
    if number == busy then codes " waits for the reply to a segment call"
    else if number == no_attachment then codes " has no such attachment"
    else if number == read_only then codes " may only read through this attachment"
    else if number == out_of_segment then codes " has no such offset at this attachment"
    else if number == too_many_attachments then codes " has 64 attachments, which is the most"
    else codes ""

-- a refusal of this number, about this site or envelope
abbrev pub refused_text : ℕ → ℕ → List ℕ
refused_text number about =
    codes "refused " ++ (decimal number ++ (codes ": " ++ (words_before number ++ (decimal about ++ words_behind number))))

abbrev pub refusal_of : Answer → Option ℕ
refusal_of (Refused number) = Some number
refusal_of _ = None

-- an answer that was refused, or what a replay says
abbrev pub with_words : Option ℕ → ℕ → List ℕ → List ℕ
with_words None about text = text
with_words (Some number) about text = refused_text number about

abbrev pub said_of_event : Standing → Event → List ℕ
said_of_event s e = with_words (refusal_of (model.next (world_of s) e).done.answer) (named_by e) (said_to_event s e)

abbrev pub said_of_page : Standing → PageId → List ℕ
said_of_page s page =
    if in_limits (world_of s).count page then page_text (world_of s) page
    else page_text (world_of s) page ++ codes ": no segment can have that page"

abbrev pub said_of_back : Standing → ℕ → List ℕ
said_of_back s n =
    if nat_le n (length s.events) then said (Some s) (line.Back n)
    else said (Some s) (line.Back n) ++ (codes ": events that stand: " ++ decimal (length s.events))

-- what is said to a line at the prompt: what a replay says, and behind a refusal its words
abbrev pub said_here : Option Standing → Line → List ℕ
said_here s (line.Sites opening) = said s (line.Sites opening)
said_here None (line.Event e) = said None (line.Event e)
said_here None (line.Show page) = said None (line.Show page)
said_here None (line.Back n) = said None (line.Back n)
said_here (Some s) (line.Event e) = said_of_event s e
said_here (Some s) (line.Show page) = said_of_page s page
said_here (Some s) (line.Back n) = said_of_back s n
