-- A site's log as text: a line for each step, with its stamp, what it was handed, what it answered, and the envelopes that it sent.
use Rattle.std.specs.Prelude.{ℕ, ◌+◌, List, [], ◌∷◌, ◌++◌, codes}
use Rattle.std.specs.Fmt.{decimal}
use Rattle.shm_lines.specs.Spelling.{spelling}
use Rattle.shm_lines.specs.declared.script_line.Line.TheVariants.{Event}
use Rattle.shm_model.specs.Log.{Logged, Stamp}
use Rattle.shm_model.specs.Message.{Envelope, Input, Load, Store, Begin, Deliver, Tick, Restart}
use Rattle.shm_model.specs.declared.event.Event.TheVariants as event
use Rattle.shm_text.specs.Text.{answer_text}
use Rattle.shm_wire.specs.Sent.{envelope_line}

-- an input, as a script's line has it for the site; or the envelope, with where it was sent
abbrev pub handed_text : ℕ → Stamp → Input → List ℕ
handed_text site source (Load at offset) = spelling (Event (event.Load site at offset))
handed_text site source (Store at offset byte) = spelling (Event (event.Store site at offset byte))
handed_text site source (Begin request) = spelling (Event (event.Begin site request))
handed_text site source (Deliver e) = envelope_line (record { source = source; envelope = e })
handed_text site source Tick = spelling (Event (event.Tick site))
handed_text site source Restart = spelling (Event (event.Restart site))

-- an envelope that the step of this stamp and index sent at this place
abbrev pub one_sent : ℕ → ℕ → ℕ → Envelope → List ℕ
one_sent at index place e = codes " | " ++ envelope_line (record { source = record { at = at; index = index; place = place }; envelope = e })

-- those that it sent from this place on
abbrev pub sent_text : ℕ → ℕ → ℕ → List Envelope → List ℕ
sent_text at index place [] = []
sent_text at index place (e ∷ es) = one_sent at index place e ++ sent_text at index (place + 1) es

abbrev pub step_text : ℕ → ℕ → Logged → List ℕ
step_text site index l =
    decimal l.stamp ++ (codes " " ++ (handed_text site l.source l.input
    ++ (codes " > " ++ (answer_text l.answer ++ (sent_text l.stamp index 0 l.sent ++ codes "\n")))))

-- the site's steps, from this index on
abbrev pub log_text : ℕ → ℕ → List Logged → List ℕ
log_text site index [] = []
log_text site index (l ∷ ls) = step_text site index l ++ log_text site (index + 1) ls
