-- What was read is the file's front, up to the limit.
use Rattle.std.proofs.Common.{◌≡◌, [], length, subst, take, arith}
use Rattle.std.specs.Io.KnownBytes.{Consumes, IsAtEnd}
use Rattle.shm_debug.specs.Limits.{max_bytes}
use Rattle.shm_report.proofs.WholeInput.{nothing_more, read_to_end, read_to_limit}
use Rattle.shm_command.proofs.script_file.read_whole.Goals as goal

pub returns-then-count-eq0 : goal.returns-then-count-eq0
returns-then-count-eq0 g c =
    let remaining = g.F.Read.remaining in
    let bytes = c.chunks.bytes.items in
    let none : Consumes (remaining c.chunks.file) (remaining c.read_up_to.new.reader) [] =
    subst (λ n. Consumes (remaining c.chunks.file) (remaining c.read_up_to.new.reader) (take n c.read_up_to.new.chunk)) c.if-count-eq0.true c.in-Ok.ensures.bytes in
    let end : IsAtEnd (remaining c.read_up_to.new.reader) = c.in-Ok.ensures.end (omega arith) (omega (arith, c.chunks.invariant.2)) c.if-count-eq0.true in
    read_to_end (remaining c.args.file.now) (remaining c.read_up_to.new.reader) bytes max_bytes c.chunks.invariant.1
    (nothing_more (remaining c.args.file.now) (remaining c.chunks.file) (remaining c.read_up_to.new.reader) bytes c.chunks.invariant.0 none) end

pub returns : goal.returns
returns g c =
    let remaining = g.F.Read.remaining in
    let bytes = c.chunks.bytes.items in
    let full : length bytes ≡ max_bytes = omega (arith, c.chunks-test.false, c.chunks.invariant.1) in
    read_to_limit (remaining c.args.file.now) (remaining c.chunks.file) bytes max_bytes full c.chunks.invariant.0
