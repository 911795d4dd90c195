use Rattle.std.proofs.Common.{ap, ap₂, ◌≡◌, ◌∙◌}
use Rattle.std.proofs.lemmas.Result.{IfOk-weaker}
use Rattle.clap.specs.Words.{App, app_of, with_subcommand}
use Rattle.shm_command.specs.Commands.{audit_app, bare_app, draw_app, journal_app, prompt_app, replay_app, run_app, simulate_app, site_app}
use Rattle.shm_command.proofs.args.command_definitions.command.Goals as goal

pub returns : goal.returns
returns c =
    let with_replay : app_of c.in_ok-subcommand.field-0 ≡ with_subcommand bare_app replay_app.top =
    c.in_ok-subcommand.ensures.shape c.in_ok-replay_command.ensures.local ∙ ap₂ with_subcommand c.bare_command.ensures.app (ap (λ (a : App). a.top) c.in_ok-replay_command.ensures.app) in
    let with_run : app_of c.in_ok-subcommand-2.field-0 ≡ with_subcommand (with_subcommand bare_app replay_app.top) run_app.top =
    c.in_ok-subcommand-2.ensures.shape c.in_ok-run_command.ensures.local ∙ ap₂ with_subcommand with_replay (ap (λ (a : App). a.top) c.in_ok-run_command.ensures.app) in
    let with_simulate : app_of c.in_ok-subcommand-3.field-0 ≡ with_subcommand (with_subcommand (with_subcommand bare_app replay_app.top) run_app.top) simulate_app.top =
    c.in_ok-subcommand-3.ensures.shape c.in_ok-simulate_command.ensures.local ∙ ap₂ with_subcommand with_run (ap (λ (a : App). a.top) c.in_ok-simulate_command.ensures.app) in
    let with_prompt :
    app_of c.in_ok-subcommand-4.field-0
    ≡ with_subcommand (with_subcommand (with_subcommand (with_subcommand bare_app replay_app.top) run_app.top) simulate_app.top) prompt_app.top =
    c.in_ok-subcommand-4.ensures.shape c.prompt_command.ensures.local ∙ ap₂ with_subcommand with_simulate (ap (λ (a : App). a.top) c.prompt_command.ensures.app) in
    let with_draw :
    app_of c.in_ok-subcommand-5.field-0
    ≡ with_subcommand (with_subcommand (with_subcommand (with_subcommand (with_subcommand bare_app replay_app.top) run_app.top) simulate_app.top) prompt_app.top) draw_app.top =
    c.in_ok-subcommand-5.ensures.shape c.in_ok-draw_command.ensures.local ∙ ap₂ with_subcommand with_prompt (ap (λ (a : App). a.top) c.in_ok-draw_command.ensures.app) in
    let with_site :
    app_of c.in_ok-subcommand-6.field-0
    ≡ with_subcommand (with_subcommand (with_subcommand (with_subcommand (with_subcommand (with_subcommand bare_app replay_app.top) run_app.top) simulate_app.top) prompt_app.top) draw_app.top) site_app.top =
    c.in_ok-subcommand-6.ensures.shape c.in_ok-site_command.ensures.local ∙ ap₂ with_subcommand with_draw (ap (λ (a : App). a.top) c.in_ok-site_command.ensures.app) in
    let with_audit :
    app_of c.in_ok-subcommand-7.field-0
    ≡ with_subcommand (with_subcommand (with_subcommand (with_subcommand (with_subcommand (with_subcommand (with_subcommand bare_app replay_app.top) run_app.top) simulate_app.top) prompt_app.top) draw_app.top) site_app.top) audit_app.top =
    c.in_ok-subcommand-7.ensures.shape c.in_ok-audit_command.ensures.local ∙ ap₂ with_subcommand with_site (ap (λ (a : App). a.top) c.in_ok-audit_command.ensures.app) in
    let with_journal :
    app_of c.in_ok-subcommand-8.field-0
    ≡ with_subcommand (with_subcommand (with_subcommand (with_subcommand (with_subcommand (with_subcommand (with_subcommand (with_subcommand bare_app replay_app.top) run_app.top) simulate_app.top) prompt_app.top) draw_app.top) site_app.top) audit_app.top) journal_app.top =
    c.in_ok-subcommand-8.ensures.shape c.in_ok-journal_command.ensures.local ∙ ap₂ with_subcommand with_audit (ap (λ (a : App). a.top) c.in_ok-journal_command.ensures.app) in
    record {
      app = IfOk-weaker c.subcommand-9.result _ _ (λ r h. h.shape c.in_ok-shorten_command.ensures.local ∙ ap₂ with_subcommand with_journal (ap (λ (a : App). a.top) c.in_ok-shorten_command.ensures.app)) c.subcommand-9.ensures;
    }
