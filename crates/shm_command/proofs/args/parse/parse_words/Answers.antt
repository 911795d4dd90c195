use Rattle.std.proofs.Common.{[], rules, ap, option_map, Bool, false, refl, subst, sym, true, List, map, ◌≡◌, ◌∙◌}
use Rattle.std.specs.Prelude.{IsSomeAnd, Option, Some}
use Rattle.clap.specs.Kinds.{HasKind, Kinds}
use Rattle.clap.specs.declared.parser.matches.ArgMatches.TheViews.{out-ArgMatches}
use Rattle.clap.specs.Words.{App, Row, Text, fault_of, found_of, is_simple, is_simple_and_free, rows_of, subcommand_of, subcommand_rows_of}
use Rattle.clap.proofs.OnLiterals.{clap_on_literals}
use Rattle.shm_command.proofs.Asked.{fault_asked}
use Rattle.shm_command.proofs.Wrong.{badly_spelled, named_so, refused_by_clap}
use Rattle.shm_command.specs.Commands.{app}
use Rattle.shm_command.specs.Words.{fault_in, has_plain_numbers, has_plain_rows, task_fault, AskFor, IsAsked}
use Rattle.shm_command.specs.declared.args.task.Task.{Task}
use Rattle.shm_command.proofs.args.parse.parse_words.Goals as goal

is_free : is_simple_and_free app ≡ true
unfolding clap_on_literals
is_free = refl

is_plain : is_simple app ≡ true
unfolding clap_on_literals
is_plain = refl

-- a test of the rows that were met, as a test of the rows that the words give
rows_given : (test : Option (List Row) → Bool) {met given : Option (Text × List Row)} {b : Bool} → met ≡ given
    → test (option_map (λ (named : Text × List Row). named.1) met) ≡ b → test (option_map (λ (named : Text × List Row). named.1) given) ≡ b
rows_given test {b = b} same is = subst (λ (named : Option (Text × List Row)). test (option_map (λ (n : Text × List Row). n.1) named) ≡ b) same is

pub returns-in-Err-clause-fault : goal.returns-in-Err-clause-fault
returns-in-Err-clause-fault g c =
    let words = map g.S.AsStr.text c.args.words.now in
    let app_is = c.in_ok-command.ensures.app in
    let said = c.in-Err.ensures.kinds (ap is_simple_and_free app_is ∙ is_free) in
    refused_by_clap words c.short_error.result
    (c.short_error.ensures.short (fault_of app words) (subst (λ (a : App). HasKind (fault_of a words) c.in-Err.error) app_is said))

pub returns-then-not-has_plain_numbers-clause-fault : goal.returns-then-not-has_plain_numbers-clause-fault
returns-then-not-has_plain_numbers-clause-fault g c =
    let words = map g.S.AsStr.text c.args.words.now in
    let parsed = c.in-Ok.matches in
    let app_is = c.in_ok-command.ensures.app in
    let none : fault_of app words ≡ [] =
    sym (ap (λ (a : App). fault_of a words) app_is) ∙ c.in-Ok.ensures.kinds (ap is_simple_and_free app_is ∙ is_free) in
    let met : subcommand_rows_of parsed ≡ subcommand_of app words =
    (c.in-Ok.ensures.matches (ap is_simple app_is ∙ is_plain)).1 ∙ ap (λ (a : App). subcommand_of a words) app_is in
    let unplain : has_plain_rows (option_map (λ (named : Text × List Row). named.1) (subcommand_rows_of parsed)) ≡ false = search rules in
    let wrong : has_plain_numbers words ≡ false = rows_given has_plain_rows met unplain in
    badly_spelled words c.in_ok-spelling_error.field-0 none wrong (search rules)

-- what clap has made of the words is what they give
given_so : (parsed given : Option (Text × List Row)) (name : Text) (rows : List Row) → parsed ≡ given → parsed ≡ Some (name, rows) → given ≡ Some (name, rows)
given_so parsed given name rows met there = sym met ∙ there

-- what clap has made of the words asks for the task
asks_for : (words : List Text) (parsed given : Option (Text × List Row)) (name : Text) (rows : List Row) (task : Task) → parsed ≡ given → parsed ≡ Some (name, rows)
    → IsAsked name rows task → IsSomeAnd given (λ named. IsAsked named.0 named.1 task)
asks_for words parsed given name rows task met there asked =
    subst (λ (named : Option (Text × List Row)). IsSomeAnd named (λ n. IsAsked n.0 n.1 task)) (sym (sym met ∙ there)) asked

pub returns-in-Ok-look_for_site-clause-fault : goal.returns-in-Ok-look_for_site-clause-fault
returns-in-Ok-look_for_site-clause-fault g c =
    let words = map g.S.AsStr.text c.args.words.now in
    let parsed = c.in-Ok.matches in
    let app_is = c.in_ok-command.ensures.app in
    let none : fault_of app words ≡ [] =
    sym (ap (λ (a : App). fault_of a words) app_is) ∙ c.in-Ok.ensures.kinds (ap is_simple_and_free app_is ∙ is_free) in
    let met : subcommand_rows_of parsed ≡ subcommand_of app words =
    (c.in-Ok.ensures.matches (ap is_simple app_is ∙ is_plain)).1 ∙ ap (λ (a : App). subcommand_of a words) app_is in
    let rows : has_plain_rows (option_map (λ (named : Text × List Row). named.1) (subcommand_rows_of parsed)) ≡ true = search rules in
    let there : subcommand_rows_of parsed ≡ Some (c.in-Some.name.now, rows_of (found_of c.in-Some.found.now)) =
    named_so (out-ArgMatches parsed).subcommand c.in-Some.name.now (rows_of (found_of c.in-Some.found.now))
    (sym (ap (option_map (λ p. p.0.now)) c.in-Some.is) ∙ c.subcommand.ensures.name)
    (sym (ap (option_map (λ p. rows_of (found_of p.1.now))) c.in-Some.is) ∙ c.subcommand.ensures.rows) in
    let named : subcommand_of app words ≡ Some (c.in-Some.name.now, rows_of (found_of c.in-Some.found.now)) =
    given_so (subcommand_rows_of parsed) (subcommand_of app words) c.in-Some.name.now (rows_of (found_of c.in-Some.found.now)) met there in
    let same : fault_in words ≡ task_fault (rows_of (found_of c.in-Some.found.now)) c.in-Some-task_of.task =
    fault_asked words c.in-Some.name.now (rows_of (found_of c.in-Some.found.now)) c.in-Some-task_of.task none (rows_given has_plain_rows met rows) named
    c.in-Some-task_of.ensures in
    same ∙ c.in-Ok-look_for_site.ensures.fault

pub returns-in-Some-task_of-clause-fault : goal.returns-in-Some-task_of-clause-fault
returns-in-Some-task_of-clause-fault g c =
    let words = map g.S.AsStr.text c.args.words.now in
    let parsed = c.in-Ok.matches in
    let app_is = c.in_ok-command.ensures.app in
    let none : fault_of app words ≡ [] =
    sym (ap (λ (a : App). fault_of a words) app_is) ∙ c.in-Ok.ensures.kinds (ap is_simple_and_free app_is ∙ is_free) in
    let met : subcommand_rows_of parsed ≡ subcommand_of app words =
    (c.in-Ok.ensures.matches (ap is_simple app_is ∙ is_plain)).1 ∙ ap (λ (a : App). subcommand_of a words) app_is in
    let rows : has_plain_rows (option_map (λ (named : Text × List Row). named.1) (subcommand_rows_of parsed)) ≡ true = search rules in
    let there : subcommand_rows_of parsed ≡ Some (c.in-Some.name.now, rows_of (found_of c.in-Some.found.now)) =
    named_so (out-ArgMatches parsed).subcommand c.in-Some.name.now (rows_of (found_of c.in-Some.found.now))
    (sym (ap (option_map (λ p. p.0.now)) c.in-Some.is) ∙ c.subcommand.ensures.name)
    (sym (ap (option_map (λ p. rows_of (found_of p.1.now))) c.in-Some.is) ∙ c.subcommand.ensures.rows) in
    let named : subcommand_of app words ≡ Some (c.in-Some.name.now, rows_of (found_of c.in-Some.found.now)) =
    given_so (subcommand_rows_of parsed) (subcommand_of app words) c.in-Some.name.now (rows_of (found_of c.in-Some.found.now)) met there in
    let same : fault_in words ≡ task_fault (rows_of (found_of c.in-Some.found.now)) c.in-Some-task_of.task =
    fault_asked words c.in-Some.name.now (rows_of (found_of c.in-Some.found.now)) c.in-Some-task_of.task none (rows_given has_plain_rows met rows) named
    c.in-Some-task_of.ensures in
    subst (λ (kinds : Kinds). HasKind kinds c.in-Err-look_for_site.error) (sym same) c.in-Err-look_for_site.ensures.fault

pub returns-in-Ok-look_for_site-clause-task : goal.returns-in-Ok-look_for_site-clause-task
returns-in-Ok-look_for_site-clause-task g c =
    let words = map g.S.AsStr.text c.args.words.now in
    let parsed = c.in-Ok.matches in
    let app_is = c.in_ok-command.ensures.app in
    let met : subcommand_rows_of parsed ≡ subcommand_of app words =
    (c.in-Ok.ensures.matches (ap is_simple app_is ∙ is_plain)).1 ∙ ap (λ (a : App). subcommand_of a words) app_is in
    let there : subcommand_rows_of parsed ≡ Some (c.in-Some.name.now, rows_of (found_of c.in-Some.found.now)) =
    named_so (out-ArgMatches parsed).subcommand c.in-Some.name.now (rows_of (found_of c.in-Some.found.now))
    (sym (ap (option_map (λ p. p.0.now)) c.in-Some.is) ∙ c.subcommand.ensures.name)
    (sym (ap (option_map (λ p. rows_of (found_of p.1.now))) c.in-Some.is) ∙ c.subcommand.ensures.rows) in
    let asked : AskFor words c.in-Some-task_of.task =
    asks_for words (subcommand_rows_of parsed) (subcommand_of app words) c.in-Some.name.now (rows_of (found_of c.in-Some.found.now)) c.in-Some-task_of.task met there
    c.in-Some-task_of.ensures in
    asked
