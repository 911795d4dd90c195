use Rattle.std.proofs.Common.{◌∙◌, ap₂, subst, sym}
use Rattle.shm_batches.proofs.FrontLemmas.{line-is, not-ended, seeks-end, seeks-found, seeks-line, seeks-on, seeks-part}
use Rattle.shm_batches.specs.Chain.{is_marked}
use Rattle.shm_batches.specs.Section.{ReadsEnd, ReadsMark, ReadsOn, open_in}
use Rattle.shm_batches.proofs.front.seek.Goals as goal

pub read-requires : goal.read-requires
read-requires g c = not-ended _ c.requires

pub returns-in-Ok-Part : goal.returns-in-Ok-Part
returns-in-Ok-Part g c before k =
    let old = c.args.section.now in
    let r = g.B.Read.remaining c.args.reader.now in
    let s = g.B.Read.remaining c.read.new.reader in
    seeks-part old c.read.new.self before r s k (subst (λ read. ReadsOn read old c.read.new.self r s) c.in-Ok-Part.field-0-is c.in-Ok-Part.ensures)

pub returns-in-Ok-Line : goal.returns-in-Ok-Line
returns-in-Ok-Line g c before k =
    let old = c.args.section.now in
    let r = g.B.Read.remaining c.args.reader.now in
    let s = g.B.Read.remaining c.read.new.reader in
    seeks-line old c.read.new.self before r s k (subst (λ read. ReadsOn read old c.read.new.self r s) c.in-Ok-Line.field-0-is c.in-Ok-Line.ensures)

pub returns-in-Ok-End : goal.returns-in-Ok-End
returns-in-Ok-End g c before k =
    let old = c.args.section.now in
    let r = g.B.Read.remaining c.args.reader.now in
    let l : ReadsEnd old c.read.new.self r = subst (λ read. ReadsOn read old c.read.new.self r (g.B.Read.remaining c.read.new.reader)) c.in-Ok-End.field-0-is c.in-Ok-End.ensures in
    seeks-end old before r k l.end

pub returns-then-marks : goal.returns-then-marks
returns-then-marks g c before k =
    let old = c.args.section.now in
    let new = c.read.new.self in
    let r = g.B.Read.remaining c.args.reader.now in
    let s = g.B.Read.remaining c.read.new.reader in
    let l : ReadsMark old new r s = subst (λ read. ReadsOn read old new r s) c.in-Ok-Mark.field-0-is c.in-Ok-Mark.ensures in
    let line = c.line.ensures ∙ line-is (open_in new) l.line l.here in
    seeks-found old new before r s k l
    (ap₂ is_marked (sym (c.lines.ensures ∙ l.lines)) (sym line) ∙ sym c.marks.ensures ∙ c.if-marks.true)

pub returns : goal.returns
returns g c before k =
    let old = c.args.section.now in
    let new = c.read.new.self in
    let r = g.B.Read.remaining c.args.reader.now in
    let s = g.B.Read.remaining c.read.new.reader in
    let l : ReadsMark old new r s = subst (λ read. ReadsOn read old new r s) c.in-Ok-Mark.field-0-is c.in-Ok-Mark.ensures in
    let line = c.line.ensures ∙ line-is (open_in new) l.line l.here in
    seeks-on old new c.clear.new.self before r s k l
    (ap₂ is_marked (sym (c.lines.ensures ∙ l.lines)) (sym line) ∙ sym c.marks.ensures ∙ c.if-marks.false)
    c.clear.ensures.lines c.clear.ensures.open
