use Rattle.std.proofs.Common.{rules, ap₂, codes, ◌≡◌, ◌∙◌, ◌||◌, Bool, false}
use Rattle.std.proofs.lemmas.Result.{IfOk-weaker}
use Rattle.clap.specs.Words.{app_of, new_app, with_rule}
use Rattle.clap.specs.declared.builder.command.Command.TheViews.{out-Command}
use Rattle.shm_command.specs.Commands.{lose_rule, repeat_rule, restart_rule, runs_rule, seed_rule, sites_rule}
use Rattle.shm_command.proofs.args.command_definitions.simulate_command.Goals as goal

pub returns : goal.returns
returns c =
    let bare : app_of c.after_help.result ≡ new_app (codes "simulate") = search rules in
    let none : (out-Command c.after_help.result).has_globals ≡ false = search rules in
    let with_sites : app_of c.in_ok-arg.field-0 ≡ with_rule (new_app (codes "simulate")) sites_rule =
    c.in_ok-arg.ensures.shape c.sites_arg.ensures.local ∙ ap₂ with_rule bare c.sites_arg.ensures.rule in
    let no_sites : (out-Command c.in_ok-arg.field-0).has_globals ≡ false = c.in_ok-arg.ensures.globals ∙ ap₂ (λ (x y : Bool). x || y) none c.sites_arg.ensures.local in
    let with_seed : app_of c.in_ok-arg-2.field-0 ≡ with_rule (with_rule (new_app (codes "simulate")) sites_rule) seed_rule =
    c.in_ok-arg-2.ensures.shape c.first_seed_arg.ensures.local ∙ ap₂ with_rule with_sites c.first_seed_arg.ensures.rule in
    let no_seed : (out-Command c.in_ok-arg-2.field-0).has_globals ≡ false = c.in_ok-arg-2.ensures.globals ∙ ap₂ (λ (x y : Bool). x || y) no_sites c.first_seed_arg.ensures.local in
    let with_runs : app_of c.in_ok-arg-3.field-0 ≡ with_rule (with_rule (with_rule (new_app (codes "simulate")) sites_rule) seed_rule) runs_rule =
    c.in_ok-arg-3.ensures.shape c.runs_arg.ensures.local ∙ ap₂ with_rule with_seed c.runs_arg.ensures.rule in
    let no_runs : (out-Command c.in_ok-arg-3.field-0).has_globals ≡ false = c.in_ok-arg-3.ensures.globals ∙ ap₂ (λ (x y : Bool). x || y) no_seed c.runs_arg.ensures.local in
    let begun = with_rule (with_rule (with_rule (new_app (codes "simulate")) sites_rule) seed_rule) runs_rule in
    let with_lose : app_of c.in_ok-arg-4.field-0 ≡ with_rule begun lose_rule =
    c.in_ok-arg-4.ensures.shape c.lose_arg.ensures.local ∙ ap₂ with_rule with_runs c.lose_arg.ensures.rule in
    let no_lose : (out-Command c.in_ok-arg-4.field-0).has_globals ≡ false = c.in_ok-arg-4.ensures.globals ∙ ap₂ (λ (x y : Bool). x || y) no_runs c.lose_arg.ensures.local in
    let with_repeat : app_of c.in_ok-arg-5.field-0 ≡ with_rule (with_rule begun lose_rule) repeat_rule =
    c.in_ok-arg-5.ensures.shape c.repeat_arg.ensures.local ∙ ap₂ with_rule with_lose c.repeat_arg.ensures.rule in
    let no_repeat : (out-Command c.in_ok-arg-5.field-0).has_globals ≡ false = c.in_ok-arg-5.ensures.globals ∙ ap₂ (λ (x y : Bool). x || y) no_lose c.repeat_arg.ensures.local in
    let with_restart : app_of c.in_ok-arg-6.field-0 ≡ with_rule (with_rule (with_rule begun lose_rule) repeat_rule) restart_rule =
    c.in_ok-arg-6.ensures.shape c.restart_arg.ensures.local ∙ ap₂ with_rule with_repeat c.restart_arg.ensures.rule in
    let no_restart : (out-Command c.in_ok-arg-6.field-0).has_globals ≡ false = c.in_ok-arg-6.ensures.globals ∙ ap₂ (λ (x y : Bool). x || y) no_repeat c.restart_arg.ensures.local in
    record {
      app = IfOk-weaker c.arg-7.result _ _ (λ r h. h.shape c.keep_arg.ensures.local ∙ ap₂ with_rule with_restart c.keep_arg.ensures.rule) c.arg-7.ensures;
      local = IfOk-weaker c.arg-7.result _ _ (λ r h. h.globals ∙ ap₂ (λ (x y : Bool). x || y) no_restart c.keep_arg.ensures.local) c.arg-7.ensures;
    }
