use Rattle.std.proofs.Common.{◌≡◌, refl, sym, subst}
use Rattle.shm_journal.specs.Found.{reached, rest_found}
use Rattle.shm_journal.specs.HeaderOf.{header_of}
use Rattle.shm_journal.specs.LinesOf.{left_of}
use Rattle.shm_journal.specs.ReadUpTo.{ReadsWhole}
use Rattle.shm_journal.specs.Recovers.{ReadsUpTo}
use Rattle.shm_journal.specs.Stages.{begun}
use Rattle.shm_journal.proofs.ReadingLemmas.{begun_site}
use Rattle.shm_journal.proofs.RecoveryLemmas.{left_on, not_new, read_on}
use Rattle.shm_journal.proofs.recover_site.read_journal.Goals as goal

pub returns-in-Ok-true-clause-whole : goal.returns-in-Ok-true-clause-whole
returns-in-Ok-true-clause-whole g c =
    let remaining = g.R.Read.remaining in
    let header = header_of c.args.header in
    let old = remaining c.args.reader.now in
    let lines = c.read_header.new.lines in
    read_on header old (left_of c.new-lines.result old) (left_of lines (remaining c.read_header.new.reader)) (remaining c.read_entries.new.reader)
    lines.whole c.read_entries.result (c.new-lines.ensures.left old) (c.in-Ok-true.ensures.whole c.in-Ok-true.field-0-test) (c.read_entries.ensures.whole (begun header) c.requires)

pub returns-in-Ok-true-clause-new : goal.returns-in-Ok-true-clause-new
returns-in-Ok-true-clause-new g c =
    let remaining = g.R.Read.remaining in
    let header = header_of c.args.header in
    let lines = c.read_header.new.lines in
    not_new (rest_found (begun header)) (left_of lines (remaining c.read_header.new.reader)) (remaining c.read_entries.new.reader) lines.whole c.read_entries.result
    (c.in-Ok-true.ensures.some c.in-Ok-true.field-0-test) c.read_entries.ensures.old (c.read_entries.ensures.whole (begun header) c.requires)

pub returns-in-Ok-true-clause-left : goal.returns-in-Ok-true-clause-left
returns-in-Ok-true-clause-left g c =
    let remaining = g.R.Read.remaining in
    let header = header_of c.args.header in
    let old = remaining c.args.reader.now in
    let lines = c.read_header.new.lines in
    left_on header old (left_of c.new-lines.result old) (left_of lines (remaining c.read_header.new.reader)) (remaining c.read_entries.new.reader)
    lines.whole c.read_entries.result (c.new-lines.ensures.left old) (c.in-Ok-true.ensures.whole c.in-Ok-true.field-0-test) (c.read_entries.ensures.left (begun header) c.requires)

pub returns-in-Ok-false-clause-whole : goal.returns-in-Ok-false-clause-whole
returns-in-Ok-false-clause-whole g c =
    let remaining = g.R.Read.remaining in
    let header = header_of c.args.header in
    let old = remaining c.args.reader.now in
    let now = remaining c.read_header.new.reader in (
      begun header,
      subst (λ a. ReadsWhole (reached header) a now (begun header) 0) (c.new-lines.ensures.left old) (c.in-Ok-false.ensures.none c.in-Ok-false.field-0-test),
      begun_site c.args.site header c.requires,
    )

pub returns-in-Err-clause-left : goal.returns-in-Err-clause-left
returns-in-Err-clause-left g c =
    let remaining = g.R.Read.remaining in
    let old = remaining c.args.reader.now in
    subst (λ a. ReadsUpTo (header_of c.args.header) a (remaining c.read_header.new.reader) c.in-Err.fault) (c.new-lines.ensures.left old) c.in-Err.ensures.left
