use Rattle.std.proofs.Common.{subst}
use Rattle.shm_journal.specs.HeaderOf.{header_of}
use Rattle.shm_journal.specs.LinesOf.{left_of}
use Rattle.shm_journal.specs.Summed.{SummaryReadsUpTo}
use Rattle.shm_journal.proofs.SummaryLemmas.{fault_known, fault_led, summary_all, summary_end, summary_known, summary_led}
use Rattle.shm_journal.proofs.summary_reader.read_summary.Goals as goal

pub returns-in-Ok-clause-end : goal.returns-in-Ok-clause-end
returns-in-Ok-clause-end g c =
    let remaining = g.R.Read.remaining in
    let old = remaining c.args.reader.now in
    let new = remaining c.sum_rest.new.reader in
    let lines = c.read_named.new.lines in
    let n = c.in-Ok.named in
    summary_end old new c.sum_rest.result
    (summary_led old (left_of c.new-lines.result old) (left_of lines (remaining c.read_named.new.reader)) new (header_of n.header) lines.whole c.sum_rest.result
    (c.new-lines.ensures.left old) c.in-Ok.ensures.ok c.sum_rest.ensures.ok)

pub returns-in-Ok-clause-all : goal.returns-in-Ok-clause-all
returns-in-Ok-clause-all g c =
    let remaining = g.R.Read.remaining in
    let old = remaining c.args.reader.now in
    let new = remaining c.sum_rest.new.reader in
    let lines = c.read_named.new.lines in
    let n = c.in-Ok.named in
    summary_all old new c.sum_rest.result
    (summary_led old (left_of c.new-lines.result old) (left_of lines (remaining c.read_named.new.reader)) new (header_of n.header) lines.whole c.sum_rest.result
    (c.new-lines.ensures.left old) c.in-Ok.ensures.ok c.sum_rest.ensures.ok)

pub returns-in-Ok-clause-left : goal.returns-in-Ok-clause-left
returns-in-Ok-clause-left g c =
    let remaining = g.R.Read.remaining in
    let old = remaining c.args.reader.now in
    let lines = c.read_named.new.lines in
    let n = c.in-Ok.named in
    fault_led old (left_of c.new-lines.result old) (left_of lines (remaining c.read_named.new.reader)) (remaining c.sum_rest.new.reader) (header_of n.header) lines.whole
    c.sum_rest.result (c.new-lines.ensures.left old) c.in-Ok.ensures.ok c.sum_rest.ensures.left

pub returns-in-Ok-clause-summed : goal.returns-in-Ok-clause-summed
returns-in-Ok-clause-summed g c =
    let remaining = g.R.Read.remaining in
    let old = remaining c.args.reader.now in
    let new = remaining c.sum_rest.new.reader in
    let lines = c.read_named.new.lines in
    let left = left_of lines (remaining c.read_named.new.reader) in
    let n = c.in-Ok.named in
    summary_known old new c.sum_rest.result
    (summary_led old (left_of c.new-lines.result old) left new (header_of n.header) lines.whole c.sum_rest.result (c.new-lines.ensures.left old) c.in-Ok.ensures.ok
    c.sum_rest.ensures.ok)
    (fault_led old (left_of c.new-lines.result old) left new (header_of n.header) lines.whole c.sum_rest.result (c.new-lines.ensures.left old) c.in-Ok.ensures.ok
    c.sum_rest.ensures.left)

pub returns-in-Err-clause-left : goal.returns-in-Err-clause-left
returns-in-Err-clause-left g c =
    let remaining = g.R.Read.remaining in
    let old = remaining c.args.reader.now in
    subst (λ a. SummaryReadsUpTo a (remaining c.read_named.new.reader) c.in-Err.fault) (c.new-lines.ensures.left old) c.in-Err.ensures.left

pub returns-in-Err-clause-summed : goal.returns-in-Err-clause-summed
returns-in-Err-clause-summed g c =
    let remaining = g.R.Read.remaining in
    let old = remaining c.args.reader.now in
    let new = remaining c.read_named.new.reader in
    fault_known old new c.in-Err.fault (subst (λ a. SummaryReadsUpTo a new c.in-Err.fault) (c.new-lines.ensures.left old) c.in-Err.ensures.left)
