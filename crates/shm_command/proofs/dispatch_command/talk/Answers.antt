use Rattle.std.proofs.Common.{Ok, Err, refl}
use Rattle.shm_command.proofs.Forgotten.{prompts}
use Rattle.shm_command.proofs.dispatch_command.talk.Goals as goal

pub returns-in-Ok-clause-prompted : goal.returns-in-Ok-clause-prompted
returns-in-Ok-clause-prompted g c =
    let h = c.in-Ok.ensures in
    prompts 0 c.is_terminal-is_terminal.result _ (Ok c.in-Ok.field-0) _ _ _ _ _ _ h.0 c.is_terminal-is_terminal.ensures refl h.1 h.2

pub returns-in-Err-clause-prompted : goal.returns-in-Err-clause-prompted
returns-in-Err-clause-prompted g c =
    let h = c.in-Err.ensures in
    prompts c.prompt_fault.result c.is_terminal-is_terminal.result _ (Err c.in-Err.fault) _ _ _ _ _ _ h.0 c.is_terminal-is_terminal.ensures c.prompt_fault.ensures h.1 h.2
