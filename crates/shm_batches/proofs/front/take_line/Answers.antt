use Rattle.std.proofs.Common.{subst}
use Rattle.shm_batches.proofs.FrontLemmas.{marks-of, measured-end, measured-line, measured-part, not-ended}
use Rattle.shm_batches.specs.Section.{ReadsEnd, ReadsLine, ReadsMark, ReadsOn, ReadsPart}
use Rattle.shm_batches.proofs.front.take_line.Goals as goal

pub read-requires : goal.read-requires
read-requires g c = not-ended _ c.requires

pub returns-in-Ok-Part : goal.returns-in-Ok-Part
returns-in-Ok-Part g c before m =
    let old = c.args.front.now in
    let r = g.B.Read.remaining c.args.reader.now in
    let s = g.B.Read.remaining c.read.new.reader in
    let l : ReadsPart old.section c.read.new.self r s = subst (λ read. ReadsOn read old.section c.read.new.self r s) c.in-Ok-Part.field-0-is c.in-Ok-Part.ensures in
    (measured-part old c.read.new.self before r s m l.bytes l.taken l.lines l.more, l.unended)

pub returns-in-Ok-Line : goal.returns-in-Ok-Line
returns-in-Ok-Line g c before m =
    let old = c.args.front.now in
    let r = g.B.Read.remaining c.args.reader.now in
    let s = g.B.Read.remaining c.read.new.reader in
    let l : ReadsLine old.section c.read.new.self r s = subst (λ read. ReadsOn read old.section c.read.new.self r s) c.in-Ok-Line.field-0-is c.in-Ok-Line.ensures in
    measured-line old c.read.new.self before r s m l

pub returns-in-Ok-End : goal.returns-in-Ok-End
returns-in-Ok-End g c before m =
    let old = c.args.front.now in
    let r = g.B.Read.remaining c.args.reader.now in
    let l : ReadsEnd old.section c.read.new.self r =
    subst (λ read. ReadsOn read old.section c.read.new.self r (g.B.Read.remaining c.read.new.reader)) c.in-Ok-End.field-0-is c.in-Ok-End.ensures in
    measured-end old before r m l.end c.requires

pub returns-in-Ok-Mark : goal.returns-in-Ok-Mark
returns-in-Ok-Mark g c before m =
    let old = c.args.front.now in
    let r = g.B.Read.remaining c.args.reader.now in
    let s = g.B.Read.remaining c.read.new.reader in
    let l : ReadsMark old.section c.read.new.self r s = subst (λ read. ReadsOn read old.section c.read.new.self r s) c.in-Ok-Mark.field-0-is c.in-Ok-Mark.ensures in
    c.take_mark.ensures before s (marks-of old c.read.new.self before r s m l)
