-- What a process says of its steps, and what the log of a box tells that takes them.
use Rattle.std.proofs.Common.{◌≡◌, ℕ, ◌==◌, ◌||◌, Bool, true, false, List, [], ◌∷◌, ◌++◌, Some, None, cond, refl, ap, sym, subst, ◌∙◌, append-nil, append_assoc, arith, map}
use Rattle.std.specs.List.{position_from}
use Rattle.std.specs.Prelude.{Option, IfSome, option_and_then, option_map, unwrap_or}
use Rattle.std.specs.Option.{option_map_or}
use Rattle.std.proofs.lemmas.Bool.Decides.{nat_tests}
use Rattle.shm_model.specs.Log.{Logged, Stamp}
use Rattle.shm_model.specs.declared.asked_access.Asked.TheVariants as asked
use Rattle.shm_model.specs.Message.{Input, Deliver, Restart}
use Rattle.shm_model.specs.Step.{foreign}
use Rattle.shm_process.specs.Cause.{Cause, OfLine, OfRestart}
use Rattle.shm_process.specs.Mapped.{byte_place, page_at}
use Rattle.shm_process.specs.Node.{Node, Heard, Said, asked_under, heard, input_asked, is_beyond, is_late, new_node, next_clock, remapped_by, says, stepped, unmap_input, waits_for}
use Rattle.shm_process.specs.Remaps.{first_load, is_empty, unmapped_to}
use Rattle.shm_process.specs.Recorded.{Entry, Event, Line, TooLong, Again, Restarted, after_event, after_events, all_steps, entries_of, recorded, said_at, steps_of}
use Rattle.shm_process.specs.Waiting.{after_heard, after_read, after_unheard, again_at, can_be_made, joining, joins, next_heard, next_line, ready, restarting, said_read, said_restart, after_restart, says_at}
use Rattle.shm_process.specs.WaitingAsks.{WaitingAsk, ask_in}
use Rattle.shm_process.proofs.Replays.{hear-next}
use Rattle.shm_process.proofs.Tests.{unless-some}
use Rattle.shm_site.specs.Step.{is_foreign}
use Rattle.shm_logs.specs.Boxes.Box.{Box, after, new_box, taken}
use Rattle.shm_logs.specs.declared.site_boxes.box_error.BoxFault.TheVariants as fault
use Rattle.shm_wire.specs.Line as stream
use Rattle.shm_wire.specs.Line.{read_line}
use Rattle.shm_wire.specs.Sent.{Sent}
use Rattle.shm_wire.specs.declared.caller_ask.Question.{Question}
use Rattle.shm_wire.specs.declared.caller_ask.Question.TheVariants as question
use Rattle.shm_wire.specs.declared.mapping_text.Mapping.{Mapping}
use Rattle.shm_audit.specs.Entered.{Handed, at_clock, box_after, box_after_all, box_after_entries, box_after_entry, box_handed, delivered, handed, unless_refused, unsent}
use Rattle.shm_audit.specs.Told.{ToldStep, told_at, told_by_log, told_by_said, told_by_step, all_said, said_first}

-- the box of a node's site, which has this log
abbrev pub box_at : Node → ℕ → List Logged → Box
box_at node pages log = record { sites = node.sites; me = node.me; pages = pages; site = node.site; log = log; clock = node.clock }

-- the box takes what a node heard, and tells of its step what the node says
record Takes (node : Node) (pages : ℕ) (log : List Logged) (cause : Cause) (h : Heard) (given : Option Handed) : Type 0 where
  logged : Logged
  goes : box_handed (next_clock node h.source) (box_at node pages log) given ≡ Some (box_at (stepped node h) pages (log ++ logged ∷ []))
  tells : told_by_step logged ≡ told_by_said (says node cause h false)

-- ---- one step

same : {A : Type 0} → (a b : A) → Some a ≡ Some b → a ≡ b
same a b e = ap (λ o. unwrap_or o a) e

same-is : (n : ℕ) → (n == n) ≡ true
same-is n = grind (arith, nat_tests)

takes : (node : Node) (pages : ℕ) (log : List Logged) (cause : Cause) (input : Input) (stamp : Stamp) (tag : Option (List ℕ)) (waits : Option WaitingAsk)
    (mapped : Option (List Mapping)) → is_foreign node.sites node.me input ≡ false → is_late node stamp.at ≡ false
    → Takes node pages log cause (record { input = input; source = stamp.at; tag = tag; waits = waits; mapped = mapped }) (Some (record { input = input; source = stamp }))
takes node pages log cause input stamp tag waits mapped own early =
    record {
      logged = taken (box_at node pages log) input stamp;
      goes =
          ap (λ b. option_and_then (at_clock (next_clock node stamp.at)) (unless_refused (cond b (Some fault.Foreign) (cond (is_late node stamp.at) (Some fault.ClockEnd) None)) (after (box_at node pages log) input stamp))) own
          ∙ ap (λ b. option_and_then (at_clock (next_clock node stamp.at)) (unless_refused (cond b (Some fault.ClockEnd) None) (after (box_at node pages log) input stamp))) early
          ∙ ap (λ b. cond b (Some (after (box_at node pages log) input stamp)) None) (same-is (next_clock node stamp.at));
      tells = refl;
    }

or_cases : (a b : Bool) → (a || b) ≡ false → (a ≡ false) × (b ≡ false)
or_cases true b h = absurd (cc)
or_cases false b h = (refl, h)

sent_by : (node : Node) (pages : ℕ) (log : List Logged) (cause : Cause) (sent : Sent) (h : Heard) (other : Bool)
    → (foreign node.sites node.me sent.envelope || (is_late node sent.source.at || is_beyond node sent)) ≡ other
    → cond other None (Some (record { input = Deliver sent.envelope; source = sent.source.at; tag = None; waits = None; mapped = None })) ≡ Some h
    → Takes node pages log cause h (Some (delivered sent))
sent_by node pages log cause sent h true o e = absurd (cc)
sent_by node pages log cause sent h false o e =
    let own = or_cases (foreign node.sites node.me sent.envelope) (is_late node sent.source.at || is_beyond node sent) o in
    let early = or_cases (is_late node sent.source.at) (is_beyond node sent) own.1 in
    let made : Heard = record { input = Deliver sent.envelope; source = sent.source.at; tag = None; waits = None; mapped = None } in
    subst (λ x. Takes node pages log cause x (Some (delivered sent))) (same made h e)
    (takes node pages log cause (Deliver sent.envelope) sent.source None None None own.0 early.0)

-- a caller asks for no delivery
asked_own : (sites me : ℕ) (q : Question) → IfSome (input_asked q) (λ input. is_foreign sites me input ≡ false)
asked_own sites me (question.Access (asked.Load at offset)) = refl
asked_own sites me (question.Access (asked.Store at offset byte)) = refl
asked_own sites me (question.Try (asked.Load at offset)) = refl
asked_own sites me (question.Try (asked.Store at offset byte)) = refl
asked_own sites me (question.Read at offset count) = tt
asked_own sites me (question.Begin request) = refl
asked_own sites me question.Tick = refl
asked_own sites me (question.Show page) = tt
asked_own sites me question.Health = tt
asked_own sites me (question.Map at index kind) = refl
asked_own sites me question.Mappings = tt

-- nor does one who gives a page up
unmap_own : (sites me at index : ℕ) (empty : Bool) → IfSome (cond empty (Some (first_load at index)) None) (λ input. is_foreign sites me input ≡ false)
unmap_own sites me at index true = refl
unmap_own sites me at index false = tt

abbrev no_stamp : Stamp
no_stamp = record { at = 0; index = 0; place = 0 }

asked_by : (node : Node) (pages : ℕ) (log : List Logged) (cause : Cause) (tag : List ℕ) (waits : Option WaitingAsk) (mapped : Option (List Mapping)) (h : Heard)
    (o : Option Input) (here late : Bool) → IfSome o (λ input. is_foreign node.sites node.me input ≡ false) → is_late node 0 ≡ late
    → cond here (cond late None (option_map (asked_under tag waits mapped) o)) None ≡ Some h
    → Takes node pages log cause h (cond here (option_map unsent o) None)
asked_by node pages log cause tag waits mapped h o false late own l e = absurd (cc)
asked_by node pages log cause tag waits mapped h o true true own l e = absurd (cc)
asked_by node pages log cause tag waits mapped h None true false own l e = absurd (cc)
asked_by node pages log cause tag waits mapped h (Some input) true false own l e =
    subst (λ x. Takes node pages log cause x (Some (unsent input))) (same (asked_under tag waits mapped input) h e)
    (takes node pages log cause input no_stamp (Some tag) waits mapped own l)

line_taken : (node : Node) (pages : ℕ) (log : List Logged) (line : stream.Line) (h : Heard) → heard node line ≡ Some h
    → Takes node pages log (OfLine line) h (handed node.me (OfLine line))
line_taken node pages log (stream.Envelope sent) h e =
    sent_by node pages log (OfLine (stream.Envelope sent)) sent h (foreign node.sites node.me sent.envelope || (is_late node sent.source.at || is_beyond node sent)) refl e
line_taken node pages log (stream.Write write) h e = absurd (cc)
line_taken node pages log (stream.Ask ask) h e =
    asked_by node pages log (OfLine (stream.Ask ask)) ask.tag (waits_for ask.tag ask.asked) (remapped_by node ask.asked) h (input_asked ask.asked)
    (ask.site == node.me) (is_late node 0) (asked_own node.sites node.me ask.asked) refl e
line_taken node pages log (stream.Unmap unmap) h e =
    asked_by node pages log (OfLine (stream.Unmap unmap)) unmap.tag None
    (unmapped_to node.mapped unmap.keeps (page_at node.site unmap.at (byte_place unmap.index 0))) h (unmap_input unmap) (unmap.site == node.me) (is_late node 0)
    (unmap_own node.sites node.me unmap.at unmap.index (is_empty unmap.runs)) refl e

-- ---- one step after another

-- these steps lead the box to that of this node, and what is logged of them tells this
pub record Follows (box : Box) (entries : List Entry) (final : Node) (pages : ℕ) (log : List Logged) (told : List ToldStep) : Type 0 where
  pub logged : List Logged
  pub goes : box_after_all box entries ≡ Some (box_at final pages (log ++ logged))
  pub tells : map told_by_step logged ≡ told

abbrev told_first : Option Said → List ToldStep → List ToldStep
told_first None told = told
told_first (Some said) told = told_by_said said ∷ told

told_more : (said : Option Said) (all : List Said) → map told_by_said (said_first said all) ≡ told_first said (map told_by_said all)
told_more None all = refl
told_more (Some said) all = refl

one_step : (node final : Node) (pages : ℕ) (log : List Logged) (cause : Cause) (h : Heard) (entries : List Entry) (told : List ToldStep)
    → (t : Takes node pages log cause h (handed node.me cause))
    → Follows (box_at (stepped node h) pages (log ++ t.logged ∷ [])) entries final pages (log ++ t.logged ∷ []) told
    → Follows (box_at node pages log) (record { clock = next_clock node h.source; cause = cause } ∷ entries) final pages log
    (told_by_said (says node cause h false) ∷ told)
one_step node final pages log cause h entries told t rest = record {
  logged = t.logged ∷ rest.logged;
  goes =
      ap (option_and_then (λ next. box_after_all next entries)) t.goes ∙ rest.goes
      ∙ ap (λ l. Some (box_at final pages l)) (append_assoc log (t.logged ∷ []) rest.logged);
  tells = ap (λ x. x ∷ map told_by_step rest.logged) t.tells ∙ ap (λ ts. told_by_said (says node cause h false) ∷ ts) rest.tells;
}

-- a block that joins those that wait, and a line that is passed over, leave the box as it is
unheard_box : (node : Node) (pages : ℕ) (log : List Logged) (block : Option WaitingAsk) → box_at (after_unheard node block) pages log ≡ box_at node pages log
unheard_box node pages log None = refl
unheard_box node pages log (Some block) = refl

line_law : (node final : Node) (pages : ℕ) (log : List Logged) (line : stream.Line) (entries : List Entry) (told : List ToldStep) (o : Option Heard)
    → heard node line ≡ o
    → ((log : List Logged) → Follows (box_at (after_heard node (joining node line) o) pages log) entries final pages log told)
    → Follows (box_at node pages log) (recorded (option_map (λ h. says node (OfLine line) h (joins node h)) o) entries) final pages log
    (told_first (option_map (λ h. says node (OfLine line) h (joins node h)) o) told)
line_law node final pages log line entries told None e rest =
    subst (λ box. Follows box entries final pages log told) (unheard_box node pages log (joining node line)) (rest log)
line_law node final pages log line entries told (Some h) e rest =
    let t = line_taken node pages log line h e in one_step node final pages log (OfLine line) h entries told t (rest (log ++ t.logged ∷ []))

read_law : (node final : Node) (pages : ℕ) (log : List Logged) (read : Option stream.Line) (entries : List Entry) (told : List ToldStep)
    → ((log : List Logged) → Follows (box_at (after_read node read) pages log) entries final pages log told)
    → Follows (box_at node pages log) (recorded (said_read node read) entries) final pages log (told_first (said_read node read) told)
read_law node final pages log None entries told rest = rest log
read_law node final pages log (Some line) entries told rest = line_law node final pages log line entries told (heard node line) refl rest

again_law : (node final : Node) (pages : ℕ) (log : List Logged) (entries : List Entry) (told : List ToldStep) (p : Option ℕ) → ready node ≡ p
    → ((log : List Logged) → Follows (box_at (option_map_or (again_at node) p node) pages log) entries final pages log told)
    → Follows (box_at node pages log) (recorded (option_map (says_at node) p) entries) final pages log (told_first (option_map (says_at node) p) told)
again_law node final pages log entries told None e rest = rest log
again_law node final pages log entries told (Some at) e rest =
    let ask = ask_in node.waiting at in
    let early = (unless-some (is_late node 0) (position_from (can_be_made node) 0 node.waiting) at e).0 in
    let t = line_taken node pages log (next_line node.me ask) (next_heard ask) (hear-next node ask early) in
    one_step node final pages log (OfLine (next_line node.me ask)) (next_heard ask) entries told t (rest (log ++ t.logged ∷ []))

restart_law : (node final : Node) (pages : ℕ) (log : List Logged) (entries : List Entry) (told : List ToldStep) (late : Bool) → is_late node 0 ≡ late
    → ((log : List Logged) → Follows (box_at (cond late node (after_restart node)) pages log) entries final pages log told)
    → Follows (box_at node pages log) (recorded (cond late None (Some (said_restart node))) entries) final pages log
    (told_first (cond late None (Some (said_restart node))) told)
restart_law node final pages log entries told true e rest = rest log
restart_law node final pages log entries told false e rest =
    let t : Takes node pages log OfRestart restarting (handed node.me OfRestart) = takes node pages log OfRestart Restart no_stamp None None None refl e in
    one_step node final pages log OfRestart restarting entries told t (rest (log ++ t.logged ∷ []))

-- what the process said, one after another
as-said : (node : Node) (pages : ℕ) (log : List Logged) (event : Event) (events : List Event)
    → Follows (box_at node pages log) (entries_of node (event ∷ events)) (after_events node (event ∷ events)) pages log
    (told_first (said_at node event) (told_at (after_event node event) events))
    → Follows (box_at node pages log) (entries_of node (event ∷ events)) (after_events node (event ∷ events)) pages log (told_at node (event ∷ events))
as-said node pages log event events f =
    subst (Follows (box_at node pages log) (entries_of node (event ∷ events)) (after_events node (event ∷ events)) pages log)
    (sym (told_more (said_at node event) (all_said (after_event node event) events))) f

pub follows : (node : Node) (pages : ℕ) (log : List Logged) (events : List Event)
    → Follows (box_at node pages log) (entries_of node events) (after_events node events) pages log (told_at node events)
follows node pages log [] = record { logged = []; goes = ap (λ l. Some (box_at node pages l)) (sym (append-nil log)); tells = refl }
follows node pages log (Line line ∷ events) =
    let next = after_event node (Line line) in
    as-said node pages log (Line line) events
    (read_law node (after_events next events) pages log (read_line line) (entries_of next events) (told_at next events)
    (λ log. follows next pages log events))
follows node pages log (TooLong ∷ events) = follows (after_event node TooLong) pages log events
follows node pages log (Again ∷ events) =
    let next = after_event node Again in
    as-said node pages log Again events
    (again_law node (after_events next events) pages log (entries_of next events) (told_at next events) (ready node) refl (λ log. follows next pages log events))
follows node pages log (Restarted ∷ events) =
    let next = after_event node Restarted in
    as-said node pages log Restarted events
    (restart_law node (after_events next events) pages log (entries_of next events) (told_at next events) (is_late node 0) refl
    (λ log. follows next pages log events))

pub logs_tell : (sites me pages : ℕ) (events : List Event)
    → option_map told_by_log (box_after_all (new_box sites me pages) (entries_of (new_node sites me pages) events)) ≡ Some (told_at (new_node sites me pages) events)
logs_tell sites me pages events =
    let f = follows (new_node sites me pages) pages [] events in ap (option_map told_by_log) f.goes ∙ ap Some f.tells

-- ---- entries of many steps

-- some steps, and then others
then-both : (xs ys : List Entry) (o : Option Box)
    → ((box : Box) → box_after_all box (xs ++ ys) ≡ option_and_then (λ next. box_after_all next ys) (box_after_all box xs))
    → option_and_then (λ next. box_after_all next (xs ++ ys)) o
    ≡ option_and_then (λ next. box_after_all next ys) (option_and_then (λ next. box_after_all next xs) o)
then-both xs ys None both = refl
then-both xs ys (Some next) both = both next

pub after-both : (xs ys : List Entry) (box : Box) → box_after_all box (xs ++ ys) ≡ option_and_then (λ next. box_after_all next ys) (box_after_all box xs)
after-both [] ys box = refl
after-both (x ∷ xs) ys box = then-both xs ys (box_after box x) (λ next. after-both xs ys next)

then-entries : (entries : List Entry) (o : Option Box) → ((box : Box) → box_after_entries box entries ≡ box_after_all box (all_steps entries))
    → option_and_then (λ next. box_after_entries next entries) o ≡ option_and_then (λ next. box_after_all next (all_steps entries)) o
then-entries entries None are = refl
then-entries entries (Some next) are = are next

-- entries lead where all their steps do
pub entries-are : (entries : List Entry) (box : Box) → box_after_entries box entries ≡ box_after_all box (all_steps entries)
entries-are [] box = refl
entries-are (entry ∷ entries) box =
    then-entries entries (box_after_entry box entry) (λ next. entries-are entries next) ∙ sym (after-both (steps_of entry) (all_steps entries) box)

pub entries_tell : (sites me pages : ℕ) (events : List Event) (entries : List Entry) → all_steps entries ≡ entries_of (new_node sites me pages) events
    → option_map told_by_log (box_after_entries (new_box sites me pages) entries) ≡ Some (told_at (new_node sites me pages) events)
entries_tell sites me pages events entries steps =
    ap (option_map told_by_log) (entries-are entries (new_box sites me pages) ∙ ap (box_after_all (new_box sites me pages)) steps)
    ∙ logs_tell sites me pages events
