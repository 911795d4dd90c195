use Rattle.std.proofs.Common.{rules, ap₂, codes, ◌≡◌, ◌∙◌, ◌||◌, Bool, false}
use Rattle.std.proofs.lemmas.Result.{IfOk-weaker}
use Rattle.clap.specs.Words.{app_of, new_app, with_rule}
use Rattle.clap.specs.declared.builder.command.Command.TheViews.{out-Command}
use Rattle.shm_command.specs.Commands.{sites_rule, seed_rule, summary_rule}
use Rattle.shm_command.proofs.args.command_definitions.run_command.Goals as goal

pub returns : goal.returns
returns c =
    let bare : app_of c.after_help.result ≡ new_app (codes "run") = search rules in
    let with_sites : app_of c.in_ok-arg.field-0 ≡ with_rule (new_app (codes "run")) sites_rule =
    c.in_ok-arg.ensures.shape c.sites_arg.ensures.local ∙ ap₂ with_rule bare c.sites_arg.ensures.rule in
    let none : (out-Command c.after_help.result).has_globals ≡ false = search rules in
    let no_sites : (out-Command c.in_ok-arg.field-0).has_globals ≡ false = c.in_ok-arg.ensures.globals ∙ ap₂ (λ (x y : Bool). x || y) none c.sites_arg.ensures.local in
    let with_seed : app_of c.in_ok-arg-2.field-0 ≡ with_rule (with_rule (new_app (codes "run")) sites_rule) seed_rule =
    c.in_ok-arg-2.ensures.shape c.seed_arg.ensures.local ∙ ap₂ with_rule with_sites c.seed_arg.ensures.rule in
    let no_seed : (out-Command c.in_ok-arg-2.field-0).has_globals ≡ false = c.in_ok-arg-2.ensures.globals ∙ ap₂ (λ (x y : Bool). x || y) no_sites c.seed_arg.ensures.local in
    let with_summary : app_of c.in_ok-arg-3.field-0 ≡ with_rule (with_rule (with_rule (new_app (codes "run")) sites_rule) seed_rule) summary_rule =
    c.in_ok-arg-3.ensures.shape c.summary_arg.ensures.local ∙ ap₂ with_rule with_seed c.summary_arg.ensures.rule in
    let no_summary : (out-Command c.in_ok-arg-3.field-0).has_globals ≡ false = c.in_ok-arg-3.ensures.globals ∙ ap₂ (λ (x y : Bool). x || y) no_seed c.summary_arg.ensures.local in
    record {
      app = IfOk-weaker c.arg-4.result _ _ (λ r h. h.shape c.log_arg.ensures.local ∙ ap₂ with_rule with_summary c.log_arg.ensures.rule) c.arg-4.ensures;
      local = IfOk-weaker c.arg-4.result _ _ (λ r h. h.globals ∙ ap₂ (λ (x y : Bool). x || y) no_summary c.log_arg.ensures.local) c.arg-4.ensures;
    }
