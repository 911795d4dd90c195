-- A step is recorded and told.
use Rattle.std.proofs.Common.{◌≡◌, ℕ, ◌≤◌, Bool, false, List, [], ◌∷◌, ◌++◌, length, cond, nat_lt, refl, ap, ap₂, sym, ◌∙◌, append-nil, arith}
use Rattle.std.proofs.lemmas.Bool.Decides.{nat_tests}
use Rattle.std.specs.Prelude.{codes, Option, Some, None, Result, Ok, option_and_then, option_map}
use Rattle.std.specs.Fmt.{decimal}
use Rattle.std.specs.Option.{option_or}
use Rattle.shm_model.specs.declared.asked_access.Asked.{Asked}
use Rattle.shm_seal.specs.Seal.{opened}
use Rattle.shm_seal.specs.declared.open_line_error.Unsealed.{Unsealed}
use Rattle.shm_wire.specs.Line.{Line, read_line}
use Rattle.shm_process.specs.Cause.{Cause, cause_text}
use Rattle.shm_process.specs.Counts.{Counts, counted_on, was_received}
use Rattle.shm_process.specs.Desk.{Desk, after_line, after_opened, after_read_line, counts_after, later_met, line_text, max_line_bytes, noted, passed, quietly, restarted, settled, step_entry, step_text, tag_in, taken, tell, told_quietly, tried, tried_by, tried_so, try_of, unrecorded, untagged, with_step, with_told}
use Rattle.shm_process.specs.Hello.{read_hello}
use Rattle.shm_process.specs.Node.{Node, Said}
use Rattle.shm_process.specs.Telling.{shown_line}
use Rattle.shm_process.specs.Waiting.{after, after_read, after_restart, counted, most_steps, passed_over, said_read, said_restart}
use Rattle.shm_process.specs.Waiting.{said as said_of_line}

-- it is counted
pub step_counted : (old now last : Counts) (said : Said) (line : List ℕ) (received : Bool) (sent bytes : ℕ) → cause_text said.cause ≡ line
    → was_received said.cause ≡ received → sent ≡ length said.sent → bytes ≡ length ((codes "step " ++ (decimal said.clock ++ 32 ∷ line)) ++ 10 ∷ [])
    → now ≡ record old { received = cond received (counted old.received) old.received; sent = counted_on old.sent sent }
    → last ≡ record now { journal = counted_on now.journal bytes } → last ≡ counts_after (Some said) old
unfolding step_entry
step_counted old now last said line received sent bytes text from es eb en el =
    el ∙ ap (λ (c : Counts). record c { journal = counted_on c.journal bytes }) en
    ∙ ap₂ (λ r n. record old { received = cond r (counted old.received) old.received; sent = counted_on old.sent n; journal = counted_on old.journal bytes })
    (sym from) es
    ∙ ap (λ n. record old {
      received = cond (was_received said.cause) (counted old.received) old.received;
      sent = counted_on old.sent (length said.sent);
      journal = counted_on old.journal n;
    }) (eb ∙ ap (λ l. length ((codes "step " ++ (decimal said.clock ++ 32 ∷ l)) ++ 10 ∷ [])) (sym text))

pub pushed : (d : Desk) (said : Said) (other : Cause) (line recorded told : List ℕ) (counts : Counts) → cause_text said.cause ≡ line
    → counts ≡ counts_after (Some said) d.counts → recorded ≡ d.recorded ++ ((codes "step " ++ (decimal said.clock ++ 32 ∷ line)) ++ 10 ∷ [])
    → told ≡ d.told ++ step_text d.seal (Some (record said { cause = other }))
    → record d { recorded = recorded; told = told; counts = counts } ≡ with_step d (Some said)
unfolding step_entry step_text
pushed d said other line recorded told counts text c r t =
    ap (λ n. record d { recorded = recorded; told = told; counts = n }) c
    ∙ ap₂ (λ r t. record d { recorded = r; told = t; counts = counts_after (Some said) d.counts })
    (r ∙ ap (λ l. d.recorded ++ ((codes "step " ++ (decimal said.clock ++ 32 ∷ l)) ++ 10 ∷ [])) (sym text)) t

-- a step is told of, and counted; its entry is another's
pub told_so : (d : Desk) (says : Said) (other : Cause) (told : List ℕ) (counts : Counts) (sent : ℕ) → was_received says.cause ≡ false → sent ≡ length says.sent
    → counts ≡ record d.counts { sent = counted_on d.counts.sent sent } → told ≡ d.told ++ step_text d.seal (Some (record says { cause = other }))
    → record d { told = told; counts = counts } ≡ with_told d says
unfolding step_text
told_so d says other told counts sent from es c t =
    ap₂ (λ t n. record d { told = t; counts = n }) t (c ∙ ap (λ n. record d.counts { sent = counted_on d.counts.sent n }) es)
    ∙ sym
    (
    ap
    (λ r. record d {
      told = d.told ++ step_text d.seal (Some says);
      counts = record d.counts { received = cond r (counted d.counts.received) d.counts.received; sent = counted_on d.counts.sent (length says.sent) };
    })
    from
    )

pub nothing_pushed : (d : Desk) → d ≡ with_step d None
unfolding step_entry step_text
nothing_pushed d = ap₂ (λ r t. record d { recorded = r; told = t }) (sym (append-nil d.recorded)) (sym (append-nil d.told))

-- what was read of a line is taken
pub taken_so : (d next shown : Desk) (read : Option Line) (node : Node) (said : Option Said) → shown ≡ tell d (line_text d.seal (option_and_then (shown_line d.counts d.node) read))
    → node ≡ after_read d.node read → said ≡ said_read d.node read → next ≡ with_step (record shown { node = node }) said → next ≡ taken d read
unfolding taken
taken_so d next shown read node said es en ed e =
    e ∙ ap (λ x. with_step (record x { node = node }) said) es
    ∙ ap (λ n. with_step (record (tell d (line_text d.seal (option_and_then (shown_line d.counts d.node) read))) { node = n }) said) en
    ∙ ap (with_step (record (tell d (line_text d.seal (option_and_then (shown_line d.counts d.node) read))) { node = after_read d.node read })) ed

pub restarted_so : (d next : Desk) (node : Node) (said : Said) → node ≡ after_restart d.node → said ≡ said_restart d.node
    → next ≡ with_step (record d { node = node; kept = [] }) (Some said) → next ≡ restarted d
unfolding restarted
restarted_so d next node said en es e =
    e ∙ ap (λ n. with_step (record d { node = n; kept = [] }) (Some said)) en
    ∙ ap (λ s. with_step (record d { node = after_restart d.node; kept = [] }) (Some s)) es

within-most : (n : ℕ) → n ≤ 8192 → nat_lt max_line_bytes n ≡ false
within-most n h = grind (arith, nat_tests)

-- what was read of a line is met
pub line_met : (d met next : Desk) (line : List ℕ) (read : Line) → Some read ≡ read_line line → d ≡ noted d (read_hello line)
    → met ≡ later_met d (Some read) → next ≡ after_read_line met line (Some read) → next ≡ after_opened d (Ok line)
line_met d met next line read is noted later e =
    e ∙ ap (λ x. after_read_line x line (Some read)) later ∙ ap (λ r. after_read_line (later_met d r) line r) is ∙ ap (λ x. after_read_line (later_met x (read_line line)) line (read_line line)) noted

nothing-later : (later : Option ℕ) → later ≡ option_or later None
nothing-later None = refl
nothing-later (Some clock) = refl

-- and what is no line of the stream is passed over
pub line_passed : (d heard next : Desk) (line : List ℕ) → None ≡ read_line line → heard ≡ noted d (read_hello line)
    → next ≡ settled most_steps (passed heard) → next ≡ after_opened d (Ok line)
line_passed d heard next line is noted e =
    e ∙ ap (λ l. settled most_steps (passed (record heard { later = l }))) (nothing-later heard.later)
    ∙ ap (λ r. after_read_line (later_met heard r) line r) is ∙ ap (λ x. after_read_line (later_met x (read_line line)) line (read_line line)) noted

-- ---- steps whose answer isn't told

-- a step of a line
pub quietly_so : (d next : Desk) (line : Line) (node : Node) (said now : Option Said) → node ≡ after d.node line → said ≡ said_of_line d.node line
    → now ≡ option_map untagged said → next ≡ with_step (record d { node = node }) now → next ≡ quietly d line
unfolding quietly
quietly_so d next line node said now en es eu e =
    e ∙ ap (λ n. with_step (record d { node = n }) now) en
    ∙ ap (with_step (record d { node = after d.node line })) (eu ∙ ap (option_map untagged) es)

-- a step of an unmap, which its entry records
pub unrecorded_so : (d next : Desk) (line : Line) (node : Node) (says now : Said) → node ≡ after d.node line → Some says ≡ said_of_line d.node line
    → now ≡ untagged says → next ≡ with_told (record d { node = node }) now → next ≡ unrecorded d line
unfolding unrecorded
unrecorded_so d next line node says now en es eu e =
    e ∙ ap (λ n. with_told (record d { node = n }) now) en
    ∙ ap (with_told (record d { node = after d.node line })) eu
    ∙ ap (told_quietly (record d { node = after d.node line })) es

pub unrecorded_none : (d : Desk) (line : Line) (node : Node) → node ≡ after d.node line → None ≡ said_of_line d.node line
    → record d { node = node } ≡ unrecorded d line
unfolding unrecorded
unrecorded_none d line node en es = ap (λ n. record d { node = n }) en ∙ ap (told_quietly (record d { node = after d.node line })) es

-- a line that isn't too long is opened
pub line_opened : (d next : Desk) (line : List ℕ) (inner : Result (List ℕ) Unsealed) → length line ≤ 8192 → opened d.seal line ≡ inner → next ≡ after_opened d inner
    → next ≡ after_line d line
unfolding after_line
line_opened d next line inner short is e =
    e ∙ ap (after_opened d) (sym is)
    ∙ sym (ap (λ b. cond b (record d { node = passed_over d.node }) (after_opened d (opened d.seal line))) (within-most (length line) short))

-- ---- a step that asked for a right

pub tried_made : (d next : Desk) (line : List ℕ) (read : Line) (asked : Asked) (step : Line) (node : Node) (says : Said) (tag : Option (List ℕ)) → step ≡ try_of read asked
    → node ≡ after d.node step → Some says ≡ said_of_line d.node step → tag ≡ tag_in step → next ≡ tried_so (record d { node = node }) line tag says
    → next ≡ tried d line read asked
unfolding tried
tried_made d next line read asked step node says tag is en es et e =
    e ∙ ap (λ n. tried_so (record d { node = n }) line tag says) en
    ∙ ap (λ t. tried_so (record d { node = after d.node step }) line t says) et
    ∙ ap (tried_by (record d { node = after d.node step }) line (tag_in step)) es
    ∙ ap (λ (x : Line). tried_by (record d { node = after d.node x }) line (tag_in x) (said_of_line d.node x)) is

pub tried_none : (d : Desk) (line : List ℕ) (read : Line) (asked : Asked) (step : Line) (node : Node) → step ≡ try_of read asked
    → node ≡ after d.node step → None ≡ said_of_line d.node step → record d { node = node } ≡ tried d line read asked
unfolding tried
tried_none d line read asked step node is en es =
    ap (λ n. record d { node = n }) en
    ∙ ap (tried_by (record d { node = after d.node step }) line (tag_in step)) es
    ∙ ap (λ (x : Line). tried_by (record d { node = after d.node x }) line (tag_in x) (said_of_line d.node x)) is
