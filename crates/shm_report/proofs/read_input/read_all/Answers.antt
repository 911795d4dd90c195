-- What was read is the reader's front, up to the limit.
use Rattle.std.proofs.Common.{◌≡◌, [], length, subst, take, arith}
use Rattle.std.specs.Io.KnownBytes.{Consumes, IsAtEnd}
use Rattle.shm_lines.specs.Limits.{max_bytes}
use Rattle.shm_report.proofs.WholeInput.{nothing_more, read_to_end, read_to_limit}
use Rattle.shm_report.proofs.read_input.read_all.Goals as goal

pub returns-then-count-eq0-clause-front : goal.returns-then-count-eq0-clause-front
returns-then-count-eq0-clause-front g c =
    let remaining = g.I.Read.remaining in
    let bytes = c.chunks.bytes.items in
    let none : Consumes (remaining c.chunks.reader) (remaining c.read_up_to.new.reader) [] =
    subst (λ n. Consumes (remaining c.chunks.reader) (remaining c.read_up_to.new.reader) (take n c.read_up_to.new.chunk)) c.if-count-eq0.true c.in-Ok.ensures.bytes in
    let end : IsAtEnd (remaining c.read_up_to.new.reader) = c.in-Ok.ensures.end (omega arith) (omega (arith, c.chunks.invariant.2)) c.if-count-eq0.true in
    read_to_end (remaining c.args.reader.now) (remaining c.read_up_to.new.reader) bytes max_bytes c.chunks.invariant.1
    (nothing_more (remaining c.args.reader.now) (remaining c.chunks.reader) (remaining c.read_up_to.new.reader) bytes c.chunks.invariant.0 none) end

pub returns-clause-front : goal.returns-clause-front
returns-clause-front g c =
    let remaining = g.I.Read.remaining in
    let bytes = c.chunks.bytes.items in
    let full : length bytes ≡ max_bytes = omega (arith, c.chunks-test.false, c.chunks.invariant.1) in
    read_to_limit (remaining c.args.reader.now) (remaining c.chunks.reader) bytes max_bytes full c.chunks.invariant.0
