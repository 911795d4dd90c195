use Rattle.std.proofs.Common.{ap₂, ◌≡◌, ◌∙◌, ◌||◌, Bool, false}
use Rattle.std.proofs.lemmas.Result.{IfOk-weaker}
use Rattle.clap.specs.Words.{app_of, with_rule}
use Rattle.clap.specs.declared.builder.command.Command.TheViews.{out-Command}
use Rattle.shm_command.specs.Commands.{bare_site_app, cluster_rule, forget_rule, journal_rule, me_rule, new_journal_rule, preset_rule, shorten_at_rule, sites_rule}
use Rattle.shm_command.proofs.args.command_definitions.site_command.Goals as goal

pub returns : goal.returns
returns c =
    let with_sites : app_of c.in_ok-arg.field-0 ≡ with_rule bare_site_app sites_rule =
    c.in_ok-arg.ensures.shape c.sites_arg.ensures.local ∙ ap₂ with_rule c.bare_site_command.ensures.app c.sites_arg.ensures.rule in
    let no_sites : (out-Command c.in_ok-arg.field-0).has_globals ≡ false =
    c.in_ok-arg.ensures.globals ∙ ap₂ (λ (x y : Bool). x || y) c.bare_site_command.ensures.local c.sites_arg.ensures.local in
    let with_me : app_of c.in_ok-arg-2.field-0 ≡ with_rule (with_rule bare_site_app sites_rule) me_rule =
    c.in_ok-arg-2.ensures.shape c.me_arg.ensures.local ∙ ap₂ with_rule with_sites c.me_arg.ensures.rule in
    let no_me : (out-Command c.in_ok-arg-2.field-0).has_globals ≡ false = c.in_ok-arg-2.ensures.globals ∙ ap₂ (λ (x y : Bool). x || y) no_sites c.me_arg.ensures.local in
    let with_preset : app_of c.in_ok-arg-3.field-0 ≡ with_rule (with_rule (with_rule bare_site_app sites_rule) me_rule) preset_rule =
    c.in_ok-arg-3.ensures.shape c.preset_arg.ensures.local ∙ ap₂ with_rule with_me c.preset_arg.ensures.rule in
    let no_preset : (out-Command c.in_ok-arg-3.field-0).has_globals ≡ false = c.in_ok-arg-3.ensures.globals ∙ ap₂ (λ (x y : Bool). x || y) no_me c.preset_arg.ensures.local in
    let with_journal : app_of c.in_ok-arg-4.field-0 ≡ with_rule (with_rule (with_rule (with_rule bare_site_app sites_rule) me_rule) preset_rule) journal_rule =
    c.in_ok-arg-4.ensures.shape c.journal_arg.ensures.local ∙ ap₂ with_rule with_preset c.journal_arg.ensures.rule in
    let no_journal : (out-Command c.in_ok-arg-4.field-0).has_globals ≡ false = c.in_ok-arg-4.ensures.globals ∙ ap₂ (λ (x y : Bool). x || y) no_preset c.journal_arg.ensures.local in
    let journaled = with_rule (with_rule (with_rule (with_rule bare_site_app sites_rule) me_rule) preset_rule) journal_rule in
    let with_new : app_of c.in_ok-arg-5.field-0 ≡ with_rule journaled new_journal_rule =
    c.in_ok-arg-5.ensures.shape c.new_arg.ensures.local ∙ ap₂ with_rule with_journal c.new_arg.ensures.rule in
    let no_new : (out-Command c.in_ok-arg-5.field-0).has_globals ≡ false = c.in_ok-arg-5.ensures.globals ∙ ap₂ (λ (x y : Bool). x || y) no_journal c.new_arg.ensures.local in
    let with_shorten_at : app_of c.in_ok-arg-6.field-0 ≡ with_rule (with_rule journaled new_journal_rule) shorten_at_rule =
    c.in_ok-arg-6.ensures.shape c.shorten_at_arg.ensures.local ∙ ap₂ with_rule with_new c.shorten_at_arg.ensures.rule in
    let no_shorten_at : (out-Command c.in_ok-arg-6.field-0).has_globals ≡ false = c.in_ok-arg-6.ensures.globals ∙ ap₂ (λ (x y : Bool). x || y) no_new c.shorten_at_arg.ensures.local in
    let with_forget : app_of c.in_ok-arg-7.field-0 ≡ with_rule (with_rule (with_rule journaled new_journal_rule) shorten_at_rule) forget_rule =
    c.in_ok-arg-7.ensures.shape c.forget_arg.ensures.local ∙ ap₂ with_rule with_shorten_at c.forget_arg.ensures.rule in
    let no_forget : (out-Command c.in_ok-arg-7.field-0).has_globals ≡ false = c.in_ok-arg-7.ensures.globals ∙ ap₂ (λ (x y : Bool). x || y) no_shorten_at c.forget_arg.ensures.local in
    let with_cluster : app_of c.in_ok-arg-8.field-0 ≡ with_rule (with_rule (with_rule (with_rule journaled new_journal_rule) shorten_at_rule) forget_rule) cluster_rule =
    c.in_ok-arg-8.ensures.shape c.cluster_arg.ensures.local ∙ ap₂ with_rule with_forget c.cluster_arg.ensures.rule in
    let no_cluster : (out-Command c.in_ok-arg-8.field-0).has_globals ≡ false = c.in_ok-arg-8.ensures.globals ∙ ap₂ (λ (x y : Bool). x || y) no_forget c.cluster_arg.ensures.local in
    record {
      app = IfOk-weaker c.arg-9.result _ _ (λ r h. h.shape c.key_arg.ensures.local ∙ ap₂ with_rule with_cluster c.key_arg.ensures.rule) c.arg-9.ensures;
      local = IfOk-weaker c.arg-9.result _ _ (λ r h. h.globals ∙ ap₂ (λ (x y : Bool). x || y) no_cluster c.key_arg.ensures.local) c.arg-9.ensures;
    }
