use Rattle.std.proofs.Common.{rules, ap₂, codes, ◌≡◌, ◌∙◌, ◌||◌, Bool, false}
use Rattle.std.proofs.lemmas.Result.{IfOk-weaker}
use Rattle.clap.specs.Words.{app_of, new_app, with_rule}
use Rattle.clap.specs.declared.builder.command.Command.TheViews.{out-Command}
use Rattle.shm_command.proofs.args.command_definitions.shorten_command.Goals as goal

pub returns : goal.returns
returns c =
    let bare : app_of c.after_help.result ≡ new_app (codes "shorten") = search rules in
    let none : (out-Command c.after_help.result).has_globals ≡ false = search rules in
    record {
      app = IfOk-weaker c.arg.result _ _ (λ r h. h.shape c.journal_file_arg.ensures.local ∙ ap₂ with_rule bare c.journal_file_arg.ensures.rule) c.arg.ensures;
      local = IfOk-weaker c.arg.result _ _ (λ r h. h.globals ∙ ap₂ (λ (x y : Bool). x || y) none c.journal_file_arg.ensures.local) c.arg.ensures;
    }
