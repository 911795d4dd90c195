use Rattle.std.proofs.Common.{subst}
use Rattle.shm_journal.specs.Stretches.{Rests}
use Rattle.shm_process.specs.DeskOf.{desk_of}
use Rattle.shm_command.proofs.Stretched.{between, one_further, stopped_behind}
use Rattle.shm_command.specs.Around.{streams}
use Rattle.shm_command.proofs.serve_stretches.serve_stretches.Goals as goal

pub returns-in-Err-go_on : goal.returns-in-Err-go_on
returns-in-Err-go_on g c =
    let remaining = g.I.Read.remaining in
    let contents = g.O.Write.contents in
    let first = desk_of c.args.desk.now in
    let last = desk_of c.serve.new.desk in
    let old = streams (remaining c.args.reader.now) (contents c.args.out.now) in
    let new = streams (remaining c.serve.new.reader) (contents c.serve.new.writer) in
    between c.in-Err-go_on.fault first old new c.in-Err-go_on.ensures.between
    (
    stopped_behind first (desk_of c.stretches.desk) last old (streams (remaining c.stretches.reader) (contents c.stretches.out)) new
    c.stretches.invariant c.in-Ok.ensures.stands (subst (λ stop. Rests stop last) c.in-Due.is c.in-Ok.ensures.rests)
    )

pub stretches-preserved : goal.stretches-preserved
stretches-preserved g c =
    let remaining = g.I.Read.remaining in
    let contents = g.O.Write.contents in
    let last = desk_of c.serve.new.desk in
    one_further (desk_of c.args.desk.now) (desk_of c.stretches.desk) last (desk_of c.go_on.new.desk)
    (streams (remaining c.args.reader.now) (contents c.args.out.now)) (streams (remaining c.stretches.reader) (contents c.stretches.out))
    (streams (remaining c.serve.new.reader) (contents c.serve.new.writer)) _ _ _
    c.stretches.invariant c.in-Ok.ensures.stands (subst (λ stop. Rests stop last) c.in-Due.is c.in-Ok.ensures.rests) c.in-Ok-go_on.ensures.goes_on
