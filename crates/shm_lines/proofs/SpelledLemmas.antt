-- What is spelled so is read.
use Rattle.std.proofs.Common.{◌≡◌, ℕ, true, List, [], ◌∷◌, Option, None, Some, refl, ap, ◌∙◌, arith}
use Rattle.std.specs.Prelude.{codes}
use Rattle.std.specs.List.{join_with_byte}
use Rattle.std.specs.Fmt.{decimal}
use Rattle.std.specs.Int.{IsInRange}
use Rattle.std.proofs.lemmas.Bool.Decides.{nat_tests}
use Rattle.shm_place.specs.Limits.{max_frames, pages}
use Rattle.shm_model.specs.Book.{max_sites}
use Rattle.shm_model.specs.declared.call.Op.TheVariants.{Get, Attach, Detach, Remove, Set, Stat}
use Rattle.shm_model.specs.declared.call.Request.{Request}
use Rattle.shm_model.specs.declared.call.Request.TheVariants.{Op as OpRequest, DetachAt}
use Rattle.shm_model.specs.declared.event.Event.{Event}
use Rattle.shm_model.specs.declared.event.Event.TheVariants.{Load, Store, Begin, Tick, Restart, Deliver, Repeat, Lose}
use Rattle.shm_lines.proofs.CallLemmas.{request-spelled}
use Rattle.shm_lines.proofs.NumberWords.{number}
use Rattle.shm_lines.proofs.OneWord.{byte}
use Rattle.shm_lines.proofs.Reading.{prints}
use Rattle.shm_lines.proofs.StepLemmas.{NoBlanks, NoBlank-test, has_none, words_of-join}
use Rattle.shm_lines.specs.Calls.{IsRequest, request_verb, words_of_request}
use Rattle.shm_lines.specs.Words.{IsNumber, is_from_1_to}
use Rattle.shm_lines.specs.Line.{line_of, line_of_words, call_of, sites_line}
use Rattle.shm_lines.specs.Spelling.{IsEvent, IsOpened, IsLine, event_words, first_words, spelling}
use Rattle.shm_lines.specs.declared.script_line.Line.{Line}
use Rattle.shm_lines.specs.declared.script_line.Line.TheVariants.{Sites, Event as EventLine, Show, Back}

-- words without blanks are read as they stand
stands : (verb : List ℕ) (others : List (List ℕ)) (line : Line) → has_none verb ≡ true → NoBlanks others → line_of_words (verb ∷ others) ≡ Some line
    → line_of (join_with_byte 32 (verb ∷ others)) ≡ Some line
stands verb others line v o h = ap line_of_words (words_of-join verb others (NoBlank-test verb v) o) ∙ h

-- ---- the first line

in_range : (most n : ℕ) → IsInRange 1 most n → is_from_1_to most n ≡ true
in_range most n h = grind (arith, nat_tests)

first-read : (count : ℕ) (preset frames : Option ℕ) → IsInRange 1 max_sites count → IsOpened preset frames
    → line_of (join_with_byte 32 (first_words count preset frames)) ≡ Some (sites_line count preset frames)
first-read count None None n h =
    let c : IsNumber count = omega arith in
    stands (codes "sites") (decimal count ∷ []) (sites_line count None None) refl (number.unparted count c, tt)
    (rw (prints number count [] c, in_range max_sites count n) refl)
first-read count None (Some frames) n h = absurd h
first-read count (Some size) None n h =
    let c : IsNumber count = omega arith in
    let s : IsNumber size = omega arith in
    stands (codes "sites") (decimal count ∷ codes "preset" ∷ decimal size ∷ []) (sites_line count (Some size) None) refl
    (number.unparted count c, (NoBlank-test (codes "preset") refl, (number.unparted size s, tt)))
    (rw (prints number count (codes "preset" ∷ decimal size ∷ []) c, in_range max_sites count n, prints number size [] s, in_range pages size h) refl)
first-read count (Some size) (Some frames) n h =
    let c : IsNumber count = omega arith in
    let s : IsNumber size = omega (arith, h.0) in
    let f : IsNumber frames = omega (arith, h.1) in
    stands (codes "sites") (decimal count ∷ codes "preset" ∷ decimal size ∷ codes "frames" ∷ decimal frames ∷ []) (sites_line count (Some size) (Some frames)) refl
    (number.unparted count c, (NoBlank-test (codes "preset") refl, (number.unparted size s, (NoBlank-test (codes "frames") refl, (number.unparted frames f, tt)))))
    (rw (
      prints number count (codes "preset" ∷ decimal size ∷ codes "frames" ∷ decimal frames ∷ []) c,
      in_range max_sites count n,
      prints number size (codes "frames" ∷ decimal frames ∷ []) s,
      in_range pages size h.0,
      prints number frames [] f,
      in_range max_frames frames h.1,
    ) refl)

-- ---- segment calls

-- the verb of a call is none of the others
to_call : (request : Request) (words : List (List ℕ)) → line_of_words (request_verb request ∷ words) ≡ call_of (request_verb request) words
to_call (OpRequest (Get _ _ _ _ _)) words = refl
to_call (OpRequest (Attach _ _ _)) words = refl
to_call (OpRequest (Detach _)) words = refl
to_call (OpRequest (Remove _ _)) words = refl
to_call (OpRequest (Set _ _ _ _ _)) words = refl
to_call (OpRequest (Stat _ _)) words = refl
to_call (DetachAt _) words = refl

request-read : (site : ℕ) (request : Request) → IsNumber site → IsRequest request → line_of (join_with_byte 32 (event_words (Begin site request))) ≡ Some (EventLine (Begin site request))
request-read site request s h =
    let r = request-spelled request h in
    let words = words_of_request request in
    ap line_of_words (words_of-join (request_verb request) (decimal site ∷ words) r.unparted.0 (number.unparted site s, r.unparted.1))
    ∙ to_call request (decimal site ∷ words)
    ∙ rw (prints number site words s, r.back) refl

-- ---- events

event-read : (event : Event) → IsEvent event → line_of (join_with_byte 32 (event_words event)) ≡ Some (EventLine event)
event-read (Load site at offset) h =
    stands (codes "load") (decimal site ∷ decimal at ∷ decimal offset ∷ []) (EventLine (Load site at offset)) refl
    (number.unparted site h.0, (number.unparted at h.1, (number.unparted offset h.2, tt)))
    (rw (prints number site (decimal at ∷ decimal offset ∷ []) h.0, prints number at (decimal offset ∷ []) h.1, prints number offset [] h.2) refl)
event-read (Store site at offset b) h =
    stands (codes "store") (decimal site ∷ decimal at ∷ decimal offset ∷ decimal b ∷ []) (EventLine (Store site at offset b)) refl
    (number.unparted site h.0, (number.unparted at h.1, (number.unparted offset h.2, (byte.unparted b h.3, tt))))
    (rw (
      prints number site (decimal at ∷ decimal offset ∷ decimal b ∷ []) h.0,
      prints number at (decimal offset ∷ decimal b ∷ []) h.1,
      prints number offset (decimal b ∷ []) h.2,
      prints byte b [] h.3,
    ) refl)
event-read (Begin site request) h = request-read site request h.0 h.1
event-read (Tick site) h = stands (codes "tick") (decimal site ∷ []) (EventLine (Tick site)) refl (number.unparted site h, tt) (rw (prints number site [] h) refl)
event-read (Restart site) h = stands (codes "restart") (decimal site ∷ []) (EventLine (Restart site)) refl (number.unparted site h, tt) (rw (prints number site [] h) refl)
event-read (Deliver k) h = stands (codes "deliver") (decimal k ∷ []) (EventLine (Deliver k)) refl (number.unparted k h, tt) (rw (prints number k [] h) refl)
event-read (Repeat k) h = stands (codes "repeat") (decimal k ∷ []) (EventLine (Repeat k)) refl (number.unparted k h, tt) (rw (prints number k [] h) refl)
event-read (Lose k) h = stands (codes "lose") (decimal k ∷ []) (EventLine (Lose k)) refl (number.unparted k h, tt) (rw (prints number k [] h) refl)

pub spelled-is_read : (line : Line) → IsLine line → line_of (spelling line) ≡ Some line
spelled-is_read (Sites opening) h = first-read opening.sites opening.preset opening.frames h.0 h.1
spelled-is_read (EventLine event) h = event-read event h
spelled-is_read (Show page) h =
    stands (codes "show") (decimal page.seg ∷ decimal page.index ∷ []) (Show page) refl
    (number.unparted page.seg h.0, (number.unparted page.index h.1, tt))
    (rw (prints number page.seg (decimal page.index ∷ []) h.0, prints number page.index [] h.1) refl)
spelled-is_read (Back n) h = stands (codes "back") (decimal n ∷ []) (Back n) refl (number.unparted n h, tt) (rw (prints number n [] h) refl)
