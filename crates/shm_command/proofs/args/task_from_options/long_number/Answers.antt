use Rattle.std.proofs.Common.{rules, ◌≡◌, IfSome, option_map, subst, true}
use Rattle.std.specs.Prelude.{Option, Some}
use Rattle.std.specs.Str.Parse.{ExplainsUnsignedError, HasUnsignedDigitsIfOk, ParsesUnsigned}
use Rattle.clap.specs.Words.{Text, found_of, one_text, rows_of}
use Rattle.clap.proofs.WalkLemmas.{one_text-rows}
use Rattle.shm_command.specs.Words.{is_plain_at, number_of}
use Rattle.shm_command.proofs.Numbers.{number_read, plain_read}
use Rattle.shm_command.proofs.args.task_from_options.long_number.Goals as goal

pub returns-then-is_plain_at : goal.returns-then-is_plain_at
returns-then-is_plain_at c =
    let found = found_of c.args.found.now in
    let option = c.args.option.now in
    let plain : is_plain_at option (rows_of found) ≡ true = search rules in
    plain_read option (rows_of found) c.get_one.result plain
    (subst (λ (text : Option Text). IfSome c.get_one.result (λ n. option_map number_of text ≡ Some n)) (one_text-rows found option)
    (number_read _ (λ bs r. ParsesUnsigned 64 10 bs r × ExplainsUnsignedError 10 bs r × HasUnsignedDigitsIfOk bs r) (λ t n g. g.0.1)
    (one_text found option) c.get_one.result c.get_one.ensures.none c.get_one.ensures.value))
