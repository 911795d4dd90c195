-- The commands that there are, with their options, as clap reads them.
use Rattle.std.specs.Prelude.{true, [], Some, codes, pos}
use Rattle.clap.specs.Words.{App, Rule, Text, new_app, new_rule, with_rule, with_subcommand}
use Rattle.clap.specs.declared.builder.action.ArgAction.TheVariants.{Set, SetTrue}
use Rattle.clap.specs.declared.builder.value_parser.ValueParser.{ValueParser}
use Rattle.clap.specs.declared.builder.value_parser.ValueParser.TheVariants.{Signed}

-- a required option with one number
abbrev pub number_rule : Text → ValueParser → Rule
number_rule name parser = record (new_rule name) { long = Some name; required = true; action = Some Set; value_names = 1; parser = Some parser }

abbrev pub sites_rule : Rule
sites_rule = number_rule (codes "sites") (Signed (pos 1) (pos 16))

abbrev pub seed_rule : Rule
seed_rule = number_rule (codes "seed") (Signed (pos 0) (pos 4294967295))

-- without a value: it is there or not
abbrev pub flag_rule : Text → Rule
flag_rule name = record (new_rule name) { long = Some name; action = Some SetTrue }

abbrev pub summary_rule : Rule
summary_rule = flag_rule (codes "summary")

-- with any text
abbrev pub text_rule : Text → Rule
text_rule name = record (new_rule name) { long = Some name; action = Some Set; value_names = 1 }

abbrev pub log_rule : Rule
log_rule = text_rule (codes "log")

-- a text that stands by no option's name, or none
abbrev pub file_rule : Rule
file_rule = record (new_rule (codes "file")) { action = Some Set; value_names = 1 }

abbrev pub replay_app : App
replay_app = with_rule (new_app (codes "replay")) file_rule

abbrev pub run_app : App
run_app = with_rule (with_rule (with_rule (with_rule (new_app (codes "run")) sites_rule) seed_rule) summary_rule) log_rule

abbrev pub runs_rule : Rule
runs_rule = number_rule (codes "runs") (Signed (pos 1) (pos 4294967295))

-- an option with a number of hundredths
abbrev pub percent_rule : Text → Rule
percent_rule name = record (new_rule name) { long = Some name; action = Some Set; value_names = 1; parser = Some (Signed (pos 0) (pos 100)) }

abbrev pub lose_rule : Rule
lose_rule = percent_rule (codes "lose")

abbrev pub repeat_rule : Rule
repeat_rule = percent_rule (codes "repeat")

abbrev pub restart_rule : Rule
restart_rule = percent_rule (codes "restart")

abbrev pub keep_rule : Rule
keep_rule = text_rule (codes "keep")

abbrev pub simulate_app : App
simulate_app =
    with_rule (with_rule (with_rule (with_rule (with_rule (with_rule (with_rule (new_app (codes "simulate")) sites_rule) seed_rule) runs_rule) lose_rule)
    repeat_rule) restart_rule) keep_rule

abbrev pub prompt_app : App
prompt_app = new_app (codes "prompt")

abbrev pub page_rule : Rule
page_rule = record (new_rule (codes "page")) { long = Some (codes "page"); action = Some Set; value_names = 2; parser = Some (Signed (pos 0) (pos 4294967295)) }

abbrev pub steps_rule : Rule
steps_rule = flag_rule (codes "steps")

abbrev pub notes_rule : Rule
notes_rule = text_rule (codes "notes")

abbrev pub draw_app : App
draw_app = with_rule (with_rule (with_rule (with_rule (new_app (codes "draw")) page_rule) steps_rule) notes_rule) file_rule

abbrev pub me_rule : Rule
me_rule = number_rule (codes "me") (Signed (pos 0) (pos 15))

abbrev pub preset_rule : Rule
preset_rule = number_rule (codes "preset") (Signed (pos 1) (pos 256))

abbrev pub journal_rule : Rule
journal_rule = text_rule (codes "journal")

abbrev pub new_journal_rule : Rule
new_journal_rule = flag_rule (codes "new")

-- an option with a number of bytes
abbrev pub shorten_at_rule : Rule
shorten_at_rule = record (new_rule (codes "shorten-at")) {
  long = Some (codes "shorten-at");
  action = Some Set;
  value_names = 1;
  parser = Some (Signed (pos 0) (pos 9223372036854775807));
}

abbrev pub forget_rule : Rule
forget_rule = flag_rule (codes "forget")

abbrev pub cluster_rule : Rule
cluster_rule = text_rule (codes "cluster")

abbrev pub key_rule : Rule
key_rule = text_rule (codes "key")

abbrev pub bare_site_app : App
bare_site_app = new_app (codes "site")

abbrev pub site_app : App
site_app =
    with_rule (with_rule (with_rule (with_rule (with_rule (with_rule (with_rule (with_rule (with_rule bare_site_app sites_rule) me_rule) preset_rule)
    journal_rule) new_journal_rule) shorten_at_rule) forget_rule) cluster_rule) key_rule

-- 1 to 16 texts that stand by no option's name
abbrev pub journals_rule : Rule
journals_rule = record (new_rule (codes "journals")) {
  required = true;
  action = Some Set;
  range = Some (record { start_inclusive = 1; end_inclusive = 16 });
  value_names = 1;
}

abbrev pub audit_app : App
audit_app = with_rule (with_rule (new_app (codes "audit")) sites_rule) journals_rule

-- one text that stands by no option's name
abbrev pub journal_file_rule : Rule
journal_file_rule = record (new_rule (codes "file")) { required = true; action = Some Set; value_names = 1 }

abbrev pub journal_app : App
journal_app = with_rule (new_app (codes "journal")) journal_file_rule

abbrev pub shorten_app : App
shorten_app = with_rule (new_app (codes "shorten")) journal_file_rule

-- a subcommand is required, and `--version` tells the version
abbrev pub bare_app : App
bare_app = record { top = record (new_app (codes "shmdbg")).top { subcommand_required = true; has_version = true }; subs = [] }

-- the program with all its subcommands
abbrev pub app : App
app =
    with_subcommand (with_subcommand (with_subcommand (with_subcommand (with_subcommand (with_subcommand (with_subcommand (with_subcommand (with_subcommand bare_app
    replay_app.top) run_app.top) simulate_app.top) prompt_app.top) draw_app.top) site_app.top)
    audit_app.top)
    journal_app.top)
    shorten_app.top
