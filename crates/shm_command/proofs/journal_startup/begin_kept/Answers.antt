use Rattle.std.proofs.Common.{inl}
use Rattle.shm_process.specs.DeskOf.{desk_of}
use Rattle.shm_process.specs.NodeOf.{node_of}
use Rattle.shm_seal.specs.Seal.{cluster_of}
use Rattle.shm_seal.specs.SealOf.{seal_of}
use Rattle.shm_command.proofs.Refusing.{begins_with, behind, read_behind}
use Rattle.shm_command.specs.Begun.{header_at}
use Rattle.shm_command.proofs.journal_startup.begin_kept.Goals as goal

pub returns-in-Ok-open_durable-clause-begun : goal.returns-in-Ok-open_durable-clause-begun
returns-in-Ok-open_durable-clause-begun g c =
    let seal = seal_of c.args.seal in
    let header = header_at c.args.sites c.args.me c.args.pages (cluster_of seal) in
    begins_with c.args.kept.begins seal _ header c.args.since (g.J.Read.remaining c.args.lines.now) c.in-Ok.found (desk_of c.in-Ok-open_durable.desk) c.in-Ok.ensures.found
    c.in-Ok.ensures.asked c.header_of_site-header.ensures c.in-Ok-open_durable.ensures.desk

pub returns-in-Ok-open_durable-clause-again : goal.returns-in-Ok-open_durable-clause-again
returns-in-Ok-open_durable-clause-again g c =
    let found = c.in-Ok.ensures.found in
    record { journal = found.0; known = found.1; node = node_of c.in-Ok.found.node; sound = found.2.0; steps = c.steps.ensures; clock = c.clock.ensures }

pub returns-in-Err-clause-refused : goal.returns-in-Err-clause-refused
returns-in-Err-clause-refused g c = inl c.in-Err.ensures.refused

pub returns-in-Err-open_durable-clause-left : goal.returns-in-Err-open_durable-clause-left
returns-in-Err-open_durable-clause-left g c =
    let header = header_at c.args.sites c.args.me c.args.pages (cluster_of (seal_of c.args.seal)) in
    read_behind header (g.J.Read.remaining c.args.lines.now) (g.J.Read.remaining c.recovered_as_asked.new.lines) c.in-Ok.found.is_new (node_of c.in-Ok.found.node)
    c.in-Err-open_durable.fault c.in-Err-open_durable.ensures.refused c.in-Ok.ensures.all

pub returns-in-Err-open_durable-clause-refused : goal.returns-in-Err-open_durable-clause-refused
returns-in-Err-open_durable-clause-refused g c =
    let header = header_at c.args.sites c.args.me c.args.pages (cluster_of (seal_of c.args.seal)) in
    behind c.args.kept.begins header (g.J.Read.remaining c.args.lines.now) c.in-Ok.found c.in-Err-open_durable.fault c.in-Ok.ensures.found c.in-Ok.ensures.asked
    c.in-Err-open_durable.ensures.refused
