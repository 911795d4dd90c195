use Rattle.std.proofs.Common.{rules, ap₂, codes, ◌≡◌, ◌∙◌, ◌||◌, Bool, false}
use Rattle.std.proofs.lemmas.Result.{IfOk-weaker}
use Rattle.clap.specs.Words.{app_of, new_app, with_rule}
use Rattle.clap.specs.declared.builder.command.Command.TheViews.{out-Command}
use Rattle.shm_command.specs.Commands.{notes_rule, page_rule, steps_rule}
use Rattle.shm_command.proofs.args.command_definitions.draw_command.Goals as goal

pub returns : goal.returns
returns c =
    let bare : app_of c.after_help.result ≡ new_app (codes "draw") = search rules in
    let with_page : app_of c.in_ok-arg.field-0 ≡ with_rule (new_app (codes "draw")) page_rule =
    c.in_ok-arg.ensures.shape c.page_arg.ensures.local ∙ ap₂ with_rule bare c.page_arg.ensures.rule in
    let none : (out-Command c.after_help.result).has_globals ≡ false = search rules in
    let no_page : (out-Command c.in_ok-arg.field-0).has_globals ≡ false = c.in_ok-arg.ensures.globals ∙ ap₂ (λ (x y : Bool). x || y) none c.page_arg.ensures.local in
    let with_steps : app_of c.in_ok-arg-2.field-0 ≡ with_rule (with_rule (new_app (codes "draw")) page_rule) steps_rule =
    c.in_ok-arg-2.ensures.shape c.steps_arg.ensures.local ∙ ap₂ with_rule with_page c.steps_arg.ensures.rule in
    let no_steps : (out-Command c.in_ok-arg-2.field-0).has_globals ≡ false = c.in_ok-arg-2.ensures.globals ∙ ap₂ (λ (x y : Bool). x || y) no_page c.steps_arg.ensures.local in
    let with_notes : app_of c.in_ok-arg-3.field-0 ≡ with_rule (with_rule (with_rule (new_app (codes "draw")) page_rule) steps_rule) notes_rule =
    c.in_ok-arg-3.ensures.shape c.notes_arg.ensures.local ∙ ap₂ with_rule with_steps c.notes_arg.ensures.rule in
    let no_notes : (out-Command c.in_ok-arg-3.field-0).has_globals ≡ false = c.in_ok-arg-3.ensures.globals ∙ ap₂ (λ (x y : Bool). x || y) no_steps c.notes_arg.ensures.local in
    record {
      app = IfOk-weaker c.arg-4.result _ _ (λ r h. h.shape c.file_arg.ensures.local ∙ ap₂ with_rule with_notes c.file_arg.ensures.rule) c.arg-4.ensures;
      local = IfOk-weaker c.arg-4.result _ _ (λ r h. h.globals ∙ ap₂ (λ (x y : Bool). x || y) no_notes c.file_arg.ensures.local) c.arg-4.ensures;
    }
