-- What the words ask for is what their task is.
use Rattle.std.proofs.Common.{◌≡◌, ◌<◌, ◌∙◌, ℕ, Bool, List, ap, ap₂, arith, codes, inl, inr, nat_lt, refl, sym, true, ◌||◌, ◌⊎◌, []}
use Rattle.std.specs.Prelude.{IsSomeAnd, None, Option, Some}
use Rattle.std.proofs.lemmas.Bool.Decides.{nat_tests}
use Rattle.std.specs.Option.{option_map_or}
use Rattle.std.specs.Str.{bytes_eq}
use Rattle.clap.specs.Kinds.{or_else}
use Rattle.clap.specs.Words.{Row, Text, fault_of, subcommand_of}
use Rattle.shm_command.specs.Commands.{app}
use Rattle.shm_command.specs.Done.{has_audit, is_simulation}
use Rattle.shm_command.specs.Words.{among_fault, asked_for, fault_in, file_fault, has_file, has_plain_numbers, is_among, name_of, names_file, names_one, task_fault, AskFor, IsAsked, IsOneOfSites}
use Rattle.shm_command.specs.declared.args.task.Task.{Task}
use Rattle.shm_command.specs.declared.args.task.Task.TheVariants.{Audit, Draw, Journal, Prompt, Replay, Run, Shorten, Simulate, Site}
use Rattle.shm_command.specs.Status.{Asks, AsksForAudit, Takes}
use Rattle.shm_command.proofs.Wrong.{plainly_spelled}

of_named : (met : Option (Text × List Row)) (task : Task) → IsSomeAnd met (λ named. IsAsked named.0 named.1 task)
    → (named : Text × List Row) × (met ≡ Some named) × IsAsked named.0 named.1 task
of_named None task asked = absurd asked
of_named (Some named) task asked = (named, refl, asked)

pub name_asked : (words : List Text) (task : Task) → AskFor words task → asked_for words ≡ Some (name_of task)
name_asked words task asked =
    let of = of_named (subcommand_of app words) task asked in
    rw of.1 (ap Some of.2.called)

same_name : (words : List Text) (task : Task) (name : Text) → AskFor words task → Asks name words → name ≡ name_of task
same_name words task name asked asks =
    let is : Some name ≡ Some (name_of task) = sym asks.1 ∙ name_asked words task asked in
    cc

-- ---- a site that is there

pub is_below : (sites me : ℕ) → nat_lt me sites ≡ true → me < sites
is_below sites me among = grind (arith, nat_tests)

one_of_sites : (name : Text) (rows : List Row) (task : Task) → is_among task ≡ true → IsAsked name rows task → IsOneOfSites task
one_of_sites name rows (Replay file) among asked = tt
one_of_sites name rows (Run sites seed summary log) among asked = tt
one_of_sites name rows (Simulate simulation) among asked = tt
one_of_sites name rows Prompt among asked = tt
one_of_sites name rows (Draw page steps notes file) among asked = tt
one_of_sites name rows (Site sites me pages journal begins seal shortening) among asked = (is_below sites me among, asked.options.3)
one_of_sites name rows (Audit sites journals) among asked = tt
one_of_sites name rows (Journal file) among asked = tt
one_of_sites name rows (Shorten file) among asked = tt

pub one_of_asked : (words : List Text) (task : Task) → is_among task ≡ true → AskFor words task → IsOneOfSites task
one_of_asked words task among asked =
    let of = of_named (subcommand_of app words) task asked in
    one_of_sites of.0.0 of.0.1 task among of.2

one_named : (name : Text) (rows : List Row) (task : Task) → IsAsked name rows task → names_one (name, rows) ≡ is_among task
one_named name rows (Replay file) asked = rw asked.called refl
one_named name rows (Run sites seed summary log) asked = rw asked.called refl
one_named name rows (Simulate simulation) asked = rw asked.called refl
one_named name rows Prompt asked = rw asked.called refl
one_named name rows (Draw page steps notes file) asked = rw asked.called refl
one_named name rows (Site sites me pages journal begins seal shortening) asked = rw (asked.called, asked.options.0, asked.options.1) refl
one_named name rows (Audit sites journals) asked = rw asked.called refl
one_named name rows (Journal file) asked = rw asked.called refl
one_named name rows (Shorten file) asked = rw asked.called refl

-- the words name a site that is there where their task does
pub among_asked : (words : List Text) (name : Text) (rows : List Row) (task : Task) → subcommand_of app words ≡ Some (name, rows) → IsAsked name rows task
    → option_map_or names_one (subcommand_of app words) true ≡ is_among task
among_asked words name rows task named asked = rw named (one_named name rows task asked)

file_named : (name : Text) (rows : List Row) (task : Task) → IsAsked name rows task → names_file (name, rows) ≡ has_file rows task
file_named name rows (Replay file) asked = rw asked.called refl
file_named name rows (Run sites seed summary log) asked = rw asked.called refl
file_named name rows (Simulate simulation) asked = rw asked.called refl
file_named name rows Prompt asked = rw asked.called refl
file_named name rows (Draw page steps notes file) asked = rw asked.called refl
file_named name rows (Site sites me pages None begins seal shortening) asked =
    rw (asked.called, asked.options.4, asked.options.5, asked.options.8.forgets) refl
file_named name rows (Site sites me pages (Some file) begins seal shortening) asked =
    rw (asked.called, asked.options.4, asked.options.5, asked.options.8.forgets) refl
file_named name rows (Audit sites journals) asked = rw asked.called refl
file_named name rows (Journal file) asked = rw asked.called refl
file_named name rows (Shorten file) asked = rw asked.called refl

-- the words name a file for the journal of which they say something where their task does
pub file_asked : (words : List Text) (name : Text) (rows : List Row) (task : Task) → subcommand_of app words ≡ Some (name, rows) → IsAsked name rows task
    → option_map_or names_file (subcommand_of app words) true ≡ has_file rows task
file_asked words name rows task named asked = rw named (file_named name rows task asked)

-- what is wrong with words that clap takes and whose numbers are spelled plainly is what is wrong with their task
pub fault_asked : (words : List Text) (name : Text) (rows : List Row) (task : Task) → fault_of app words ≡ [] → has_plain_numbers words ≡ true
    → subcommand_of app words ≡ Some (name, rows) → IsAsked name rows task → fault_in words ≡ task_fault rows task
fault_asked words name rows task none plain named asked =
    plainly_spelled words none plain
    ∙ ap₂ (λ (among file : Bool). or_else (among_fault among) (file_fault file)) (among_asked words name rows task named asked) (file_asked words name rows task named asked)

-- ---- an audit

-- by its name
abbrev names_audit : Text → Bool
names_audit name = bytes_eq name (codes "run") || bytes_eq name (codes "audit")

by_name : (task : Task) → has_audit task ≡ names_audit (name_of task)
by_name (Replay file) = refl
by_name (Run sites seed summary log) = refl
by_name (Simulate simulation) = refl
by_name Prompt = refl
by_name (Draw page steps notes file) = refl
by_name (Site sites me pages journal begins seal shortening) = refl
by_name (Audit sites journals) = refl
by_name (Journal file) = refl
by_name (Shorten file) = refl

of_audit : (task : Task) → has_audit task ≡ true → (name_of task ≡ codes "run") ⊎ (name_of task ≡ codes "audit")
of_audit (Replay file) is = absurd (cc)
of_audit (Run sites seed summary log) is = inl refl
of_audit (Simulate simulation) is = absurd (cc)
of_audit Prompt is = absurd (cc)
of_audit (Draw page steps notes file) is = absurd (cc)
of_audit (Site sites me pages journal begins seal shortening) is = absurd (cc)
of_audit (Audit sites journals) is = inr refl
of_audit (Journal file) is = absurd (cc)
of_audit (Shorten file) is = absurd (cc)

-- words ask for an audit where their task has one
pub audit_asked : (words : List Text) (task : Task) → Takes words → AskFor words task → has_audit task ≡ true → AsksForAudit words
audit_asked words task takes asked is =
    let name = name_asked words task asked in
    elim (of_audit task is) [
      | inl run ↦ inl (takes, name ∙ ap Some run)
      | inr audit ↦ inr (takes, name ∙ ap Some audit)
    ]

pub asked_audit : (words : List Text) (task : Task) → AskFor words task → AsksForAudit words → has_audit task ≡ true
asked_audit words task asked asks =
    elim asks [
      | inl run ↦ by_name task ∙ ap names_audit (sym (same_name words task (codes "run") asked run))
      | inr audit ↦ by_name task ∙ ap names_audit (sym (same_name words task (codes "audit") asked audit))
    ]

-- ---- a simulation

-- by its name
abbrev names_simulation : Text → Bool
names_simulation name = bytes_eq name (codes "simulate")

simulation_named : (task : Task) → is_simulation task ≡ names_simulation (name_of task)
simulation_named (Replay file) = refl
simulation_named (Run sites seed summary log) = refl
simulation_named (Simulate simulation) = refl
simulation_named Prompt = refl
simulation_named (Draw page steps notes file) = refl
simulation_named (Site sites me pages journal begins seal shortening) = refl
simulation_named (Audit sites journals) = refl
simulation_named (Journal file) = refl
simulation_named (Shorten file) = refl

pub asked_simulation : (words : List Text) (task : Task) → AskFor words task → Asks (codes "simulate") words → is_simulation task ≡ true
asked_simulation words task asked asks =
    simulation_named task ∙ ap names_simulation (sym (same_name words task (codes "simulate") asked asks))
