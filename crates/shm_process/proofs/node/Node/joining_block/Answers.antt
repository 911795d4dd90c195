use Rattle.shm_wire.specs.Asks.{ask_of}
use Rattle.shm_process.proofs.AskedBlock.{asked_block}
use Rattle.shm_process.proofs.node.Node.joining_block.Goals as goal

pub new-requires : goal.new-requires
new-requires g c = asked_block (ask_of c.args.ask.now) c.in-Read.at c.in-Read.offset c.in-Read.length c.requires c.in-Read.is
