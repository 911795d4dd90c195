use Rattle.std.proofs.Common.{string_bytes}
use Rattle.shm_seal.specs.SealOf.{seal_of}
use Rattle.shm_process.specs.AskOf.{ask_of}
use Rattle.shm_process.specs.Desk.{reminder}
use Rattle.shm_process.specs.NodeOf.{node_of}
use Rattle.shm_process.specs.WaitingAsks.{WaitingAsk, next_access}
use Rattle.shm_process.proofs.Finds.{seen_left, seen_none}
use Rattle.shm_process.proofs.desk_meets_line.push_reminders.Goals as goal

pub asks-preserved : goal.asks-preserved
asks-preserved g c =
    seen_left ask_of c.args.asks.now (λ (ask : WaitingAsk). reminder (seal_of c.args.seal.now) (node_of c.args.node.now) (next_access ask)) c.asks.ask-index c.ask-item.result
    (string_bytes c.asks.told) (string_bytes c.push_reminder.new.told) _ c.asks-test.true c.ask-item.is c.in_ok-push_reminder.ensures c.asks.invariant

pub returns : goal.returns
returns g c =
    seen_none ask_of c.args.asks.now (λ (ask : WaitingAsk). reminder (seal_of c.args.seal.now) (node_of c.args.node.now) (next_access ask)) c.asks.ask-index
    (string_bytes c.asks.told) _ c.asks-test.false c.asks.invariant
