-- The first site that is noted as begun otherwise stays the one that is noted, and so does the first later step of the own site.
use Rattle.std.proofs.Common.{◌≡◌, ℕ, zero, suc, ◌+◌, ◌==◌, Bool, true, false, List, [], ◌∷◌, ◌++◌, Option, None, Some, cond, length, nat_lt, refl, ap, ap₂, ◌∙◌}
use Rattle.std.specs.Option.{option_map_or, option_or}
use Rattle.std.specs.Prelude.{Result, Ok, Err, is_some, option_and_then, option_map}
use Rattle.shm_place.specs.declared.page_id.PageId.{PageId}
use Rattle.shm_model.specs.declared.answer.Answer.TheVariants.{Waiting}
use Rattle.shm_model.specs.declared.asked_access.Asked.{Asked}
use Rattle.shm_seal.specs.Seal.{opened}
use Rattle.shm_seal.specs.declared.open_line_error.Unsealed.{Unsealed}
use Rattle.shm_wire.specs.Line.{Line, read_line}
use Rattle.shm_wire.specs.Line as stream
use Rattle.shm_wire.specs.Unmaps.{Run, UnmapAsk}
use Rattle.shm_wire.specs.declared.mapping_text.RevokeText.{RevokeText}
use Rattle.shm_process.specs.Access.{is_open}
use Rattle.shm_process.specs.Desk.{Desk, KeptLine, after_line, after_opened, after_read_line, all_made, all_met, answered, brought, by_meeting, closed, closed_by, disagreement_in, finished, given_up, given_up_by, grown, grown_by, in_row, keep, later_met, later_step, left_sealed, made_again, made_and_told, made_in_row, map_reply, max_line_bytes, may_keep, met, met_read, noted, on_byte, on_bytes, passed, quietly, reminded, reminded_if, revoked, settled, stored_run, tag_in, taken, tell_caller, ticks, told_quietly, tried, tried_by, try_of, unmap_entry, unmap_reply, unrecorded, untagged, with_again, with_other, with_record, with_step, with_told}
use Rattle.shm_process.specs.Causes.{bare, store_line}
use Rattle.shm_process.specs.Hello.{compared, first_other, read_hello}
use Rattle.shm_process.specs.Meetings.{meeting}
use Rattle.shm_process.specs.Node.{Said}
use Rattle.shm_process.specs.Recorded.{entries_text}
use Rattle.shm_process.specs.Rows.{Row, joined, row_in}
use Rattle.shm_process.specs.Waiting.{after, after_again, most_steps, passed_over, said, said_again}
use Rattle.shm_process.specs.declared.hello_line.Hello.{Hello}
use Rattle.shm_process.specs.declared.line_meeting.Meeting.{Meeting}
use Rattle.shm_process.specs.declared.line_meeting.Meeting.TheVariants.{Answered, Free, Kept, Maps, Tries, Unmaps}
use Rattle.shm_process.specs.declared.site_opening.Disagreement.{Disagreement}
use Rattle.shm_process.specs.declared.site_opening.Opening.{Opening}

-- how the own site was begun is the same, who was noted is noted, and which later step
record Stays (old new : Desk) : Type 0 where
  pub opening : new.opening ≡ old.opening
  pub other : is_some old.other ≡ true → new.other ≡ old.other
  pub later : is_some old.later ≡ true → new.later ≡ old.later

same : (old new : Desk) → new.opening ≡ old.opening → new.other ≡ old.other → new.later ≡ old.later → Stays old new
same old new o e l = record { opening = o; other = λ h. e; later = λ h. l }

both : (a b c : Desk) → Stays a b → Stays b c → Stays a c
both a b c p q = record {
  opening = q.opening ∙ p.opening;
  other = λ h. q.other (ap is_some (p.other h) ∙ h) ∙ p.other h;
  later = λ h. q.later (ap is_some (p.later h) ∙ h) ∙ p.later h;
}

stays-cond : (b : Bool) (d x y : Desk) → Stays d x → Stays d y → Stays d (cond b x y)
stays-cond true d x y p q = p
stays-cond false d x y p q = q

-- ---- rows

stays-closed : (d : Desk) (row : Option Row) → Stays d (closed_by d row)
stays-closed d None = same d d refl refl refl
stays-closed d (Some row) = same d (closed_by d (Some row)) refl refl refl

stays-grown : (d : Desk) (next : Row) (o : Option Row) → Stays d (grown_by d next o)
stays-grown d next None = both d (closed d) (grown_by d next None) (stays-closed d d.row) (same (closed d) (grown_by d next None) refl refl refl)
stays-grown d next (Some row) = same d (grown_by d next (Some row)) refl refl refl

stays-in_row : (d : Desk) (said : Said) (row : Option Row) → Stays d (made_in_row d said row)
stays-in_row d said None = same d (with_step d (Some said)) refl refl refl
stays-in_row d said (Some next) =
    let told = with_told d said in
    both d told (in_row told next) (same d told refl refl refl) (stays-grown told next (option_and_then (λ row. joined row next) told.row))

stays-again : (d : Desk) (said : Option Said) → Stays d (with_again d said)
stays-again d None = same d d refl refl refl
stays-again d (Some said) = stays-in_row d said (row_in said.clock said.cause)

stays-made_again : (d : Desk) → Stays d (made_again d)
stays-made_again d =
    let next = record d { node = after_again d.node } in both d next (made_again d) (same d next refl refl refl) (stays-again next (said_again d.node))

stays-all_made : (n : ℕ) (d : Desk) → Stays d (all_made n d)
unfolding all_made
stays-all_made zero d = same d d refl refl refl
stays-all_made (suc n) d =
    stays-cond (is_some (said_again d.node)) d (all_made n (made_again d)) d
    (both d (made_again d) (all_made n (made_again d)) (stays-made_again d) (stays-all_made n (made_again d)))
    (same d d refl refl refl)

stays-settled : (n : ℕ) (d : Desk) → Stays d (settled n d)
unfolding settled
stays-settled n d = both d (all_made n d) (closed (all_made n d)) (stays-all_made n d) (stays-closed (all_made n d) (all_made n d).row)

stays-taken : (d : Desk) (read : Option Line) → Stays d (taken d read)
unfolding taken
stays-taken d read = same d (taken d read) refl refl refl

-- ---- a line while pages are mapped

stays-quietly : (d : Desk) (line : Line) → Stays d (quietly d line)
unfolding quietly
stays-quietly d line = same d (quietly d line) refl refl refl

stays-revoked : (d : Desk) (fresh : Bool) (wants : Option RevokeText) → Stays d (revoked fresh wants d)
stays-revoked d false wants = same d d refl refl refl
stays-revoked d true wants = same d (revoked true wants d) refl refl refl

stays-keep : (d : Desk) (page : Option PageId) (line : List ℕ) (tag : Option (List ℕ)) → Stays d (keep d page line tag)
stays-keep d page line tag =
    let longer = record d { kept = d.kept ++ record { line = line; page = page } ∷ [] } in
    stays-cond (may_keep d.kept page) d longer (answered d tag Waiting) (same d longer refl refl refl) (same d (answered d tag Waiting) refl refl refl)

stays-made : (d : Desk) (line : Line) (text : List ℕ) → Stays d (made_and_told d line text)
unfolding quietly
stays-made d line text = same d (made_and_told d line text) refl refl refl

stays-tried_by : (d : Desk) (line : List ℕ) (tag : Option (List ℕ)) (says : Option Said) → Stays d (tried_by d line tag says)
stays-tried_by d line tag None = same d d refl refl refl
stays-tried_by d line tag (Some says) =
    let quiet = with_step d (Some (untagged says)) in
    stays-cond (is_open says.answer) d (keep quiet None line tag) (with_step d (Some says))
    (both d quiet (keep quiet None line tag) (same d quiet refl refl refl) (stays-keep quiet None line tag)) (same d (with_step d (Some says)) refl refl refl)

stays-tried : (d : Desk) (line : List ℕ) (read : Line) (asked : Asked) → Stays d (tried d line read asked)
unfolding tried
stays-tried d line read asked =
    let step = try_of read asked in
    let now = record d { node = after d.node step } in
    both d now (tried_by now line (tag_in step) (said d.node step)) (same d now refl refl refl) (stays-tried_by now line (tag_in step) (said d.node step))

stays-told : (d : Desk) (said : Option Said) → Stays d (told_quietly d said)
stays-told d None = same d d refl refl refl
stays-told d (Some said) = same d (told_quietly d (Some said)) refl refl refl

stays-unrecorded : (d : Desk) (line : Line) → Stays d (unrecorded d line)
unfolding unrecorded
stays-unrecorded d line =
    let next = record d { node = after d.node line } in
    both d next (told_quietly next (said d.node line)) (same d next refl refl refl) (stays-told next (said d.node line))

stays-run : (bytes : List ℕ) (d : Desk) (ask : UnmapAsk) (offset : ℕ) → Stays d (stored_run d ask offset bytes)
unfolding stored_run
stays-run [] d ask offset = same d d refl refl refl
stays-run (byte ∷ bytes) d ask offset =
    let next = unrecorded d (store_line ask offset byte) in
    both d next (stored_run next ask (offset + 1) bytes) (stays-unrecorded d (store_line ask offset byte)) (stays-run bytes next ask (offset + 1))

stays-brought : (runs : List Run) (d : Desk) (ask : UnmapAsk) → Stays d (brought d ask runs)
unfolding brought
stays-brought [] d ask = same d d refl refl refl
stays-brought (run ∷ runs) d ask =
    let next = stored_run d ask run.offset run.bytes in
    both d next (brought next ask runs) (stays-run run.bytes d ask run.offset) (stays-brought runs next ask)

stays-given_up : (d : Desk) (read : Line) → Stays d (given_up_by d read)
unfolding given_up
stays-given_up d (stream.Envelope sent) = same d d refl refl refl
stays-given_up d (stream.Ask ask) = same d d refl refl refl
stays-given_up d (stream.Write write) = same d d refl refl refl
stays-given_up d (stream.Unmap ask) =
    let begun = with_record (entries_text (unmap_entry d.node ask ∷ [])) d in
    let next = brought begun ask ask.runs in
    let last = unrecorded next (stream.Unmap (bare ask)) in
    let reply = tell_caller last (Some ask.tag) (unmap_reply ask.keeps) in
    both d begun reply (same d begun refl refl refl)
    (both begun next reply (stays-brought ask.runs begun ask)
    (both next last reply (stays-unrecorded next (stream.Unmap (bare ask))) (same last reply refl refl refl)))

stays-meeting : (d : Desk) (fresh : Bool) (line : List ℕ) (read : Line) (m : Meeting) → Stays d (by_meeting fresh d line read m)
unfolding by_meeting
stays-meeting d fresh line read Free = stays-taken d (Some read)
stays-meeting d fresh line read (Kept page wants) =
    let now = revoked fresh wants d in
    both d now (keep now page line (tag_in read)) (stays-revoked d fresh wants) (stays-keep now page line (tag_in read))
stays-meeting d fresh line read (Answered answer) = same d (answered d (tag_in read) answer) refl refl refl
stays-meeting d fresh line read (Maps at index) = stays-made d read (map_reply d.node at index)
stays-meeting d fresh line read (Tries asked) = stays-tried d line read asked
stays-meeting d fresh line read Unmaps = stays-given_up d read

stays-met_read : (d : Desk) (fresh : Bool) (line : List ℕ) (read : Option Line) → Stays d (met_read fresh d line read)
stays-met_read d fresh line None = same d (passed d) refl refl refl
stays-met_read d fresh line (Some read) = stays-meeting d fresh line read (meeting d.node read)

stays-all_met : (kept : List KeptLine) (d : Desk) (fresh : Bool) → Stays d (all_met fresh d kept)
unfolding all_met
stays-all_met [] d fresh = same d d refl refl refl
stays-all_met (k ∷ kept) d fresh =
    let next = met fresh d k.line in
    both d next (all_met fresh next kept) (stays-met_read d fresh k.line (read_line k.line)) (stays-all_met kept next fresh)

stays-reminded : (d : Desk) (tick : Bool) → Stays d (reminded_if tick d)
unfolding reminded
stays-reminded d false = same d d refl refl refl
stays-reminded d true = same d (reminded d) refl refl refl

stays-finished : (d : Desk) (tick : Bool) → Stays d (finished tick d)
stays-finished d tick =
    let now = reminded_if tick d in
    let free = record now { kept = [] } in
    let last = all_met tick free now.kept in
    both d now (settled most_steps last) (stays-reminded d tick)
    (both now free (settled most_steps last) (same now free refl refl refl) (both free last (settled most_steps last) (stays-all_met now.kept free tick) (stays-settled most_steps last)))

stays-read_line : (d : Desk) (line : List ℕ) (read : Option Line) → Stays d (after_read_line d line read)
stays-read_line d line None = both d (passed d) (settled most_steps (passed d)) (same d (passed d) refl refl refl) (stays-settled most_steps (passed d))
stays-read_line d line (Some read) =
    let next = by_meeting true d line read (meeting d.node read) in
    both d next (finished (ticks d.node read) next) (stays-meeting d true line read (meeting d.node read)) (stays-finished next (ticks d.node read))

-- ---- who was noted

opening-kept : (d : Desk) (o : Option Disagreement) → (option_map_or (with_other d) o d).opening ≡ d.opening
opening-kept d None = refl
opening-kept d (Some x) = refl

later-kept : (d : Desk) (o : Option Disagreement) → (option_map_or (with_other d) o d).later ≡ d.later
later-kept d None = refl
later-kept d (Some x) = refl

stays-noted : (d : Desk) (read : Option Hello) → Stays d (noted d read)
stays-noted d read = record {
  opening = opening-kept d (first_other d.opening d.other read);
  other = λ h. ap (λ b. (option_map_or (with_other d) (cond b None (option_and_then (λ o. option_and_then (compared o) read) d.opening)) d).other) h;
  later = λ h. later-kept d (first_other d.opening d.other read);
}

first-later : (old new : Option ℕ) → is_some old ≡ true → option_or old new ≡ old
first-later None new h = absurd (cc)
first-later (Some clock) new h = refl

stays-later_met : (d : Desk) (read : Option Line) → Stays d (later_met d read)
stays-later_met d read = record { opening = refl; other = λ h. refl; later = λ h. first-later d.later (later_step d.node read) h }

stays-opened : (d : Desk) (inner : Result (List ℕ) Unsealed) → Stays d (after_opened d inner)
stays-opened d (Ok line) =
    let heard = noted d (read_hello line) in
    let now = later_met heard (read_line line) in
    both d heard (after_read_line now line (read_line line)) (stays-noted d (read_hello line))
    (both heard now (after_read_line now line (read_line line)) (stays-later_met heard (read_line line)) (stays-read_line now line (read_line line)))
stays-opened d (Err why) =
    both d (left_sealed d why) (settled most_steps (left_sealed d why)) (same d (left_sealed d why) refl refl refl) (stays-settled most_steps (left_sealed d why))

stays-line : (d : Desk) (line : List ℕ) → Stays d (after_line d line)
unfolding after_line
stays-line d line =
    stays-cond (nat_lt max_line_bytes (length line)) d (record d { node = passed_over d.node }) (after_opened d (opened d.seal line))
    (same d (record d { node = passed_over d.node }) refl refl refl) (stays-opened d (opened d.seal line))

stays-byte : (d : Desk) (byte : ℕ) → Stays d (on_byte d byte)
unfolding on_byte
stays-byte d byte =
    let ended = after_line d d.line in
    stays-cond (byte == 10) d (record ended { line = [] }) (record d { line = grown d.line byte })
    (both d ended (record ended { line = [] }) (stays-line d d.line) (same ended (record ended { line = [] }) refl refl refl))
    (same d (record d { line = grown d.line byte }) refl refl refl)

stays-bytes : (bytes : List ℕ) (d : Desk) → Stays d (on_bytes d bytes)
unfolding on_bytes
stays-bytes [] d = same d d refl refl refl
stays-bytes (byte ∷ bytes) d = both d (on_byte d byte) (on_bytes (on_byte d byte) bytes) (stays-byte d byte) (stays-bytes bytes (on_byte d byte))

abbrev found : Option Opening → Option Opening → Option Disagreement
found own other = option_and_then (λ o. option_map (λ x. record { own = o; other = x }) other) own

found-still : (own other own' other' : Option Opening) (x : Disagreement) → own' ≡ own → (is_some other ≡ true → other' ≡ other)
    → found own other ≡ Some x → found own' other' ≡ Some x
found-still None other own' other' x e kept h = absurd (cc)
found-still (Some own) None own' other' x e kept h = absurd (cc)
found-still (Some own) (Some other) own' other' x e kept h = ap₂ found e (kept refl) ∙ h

pub stays_noted : (d : Desk) (bytes : List ℕ) (x : Disagreement) → disagreement_in d ≡ Some x → disagreement_in (on_bytes d bytes) ≡ Some x
stays_noted d bytes x h =
    let s = stays-bytes bytes d in
    found-still d.opening d.other (on_bytes d bytes).opening (on_bytes d bytes).other x s.opening s.other h

-- a later step that was noted stays the one that is noted
pub stays_later : (d : Desk) (bytes : List ℕ) (clock : ℕ) → d.later ≡ Some clock → (on_bytes d bytes).later ≡ Some clock
stays_later d bytes clock h = (stays-bytes bytes d).later (ap is_some h) ∙ h
