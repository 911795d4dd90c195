use Rattle.std.proofs.Common.{subst}
use Rattle.shm_logs.specs.Boxes.SiteBox.{box_of}
use Rattle.shm_journal.specs.LinesOf.{left_of}
use Rattle.shm_audit.specs.Found.{ReadsUpTo}
use Rattle.shm_audit.proofs.Answering.{fault_known, fault_led, log_all, log_end, log_found, log_led}
use Rattle.shm_audit.proofs.log_from_journal.read_log.Goals as goal

pub returns-in-Ok-clause-end : goal.returns-in-Ok-clause-end
returns-in-Ok-clause-end g c =
    let remaining = g.R.Read.remaining in
    let old = remaining c.args.reader.now in
    let new = remaining c.read_entries.new.reader in
    let lines = c.read_first.new.lines in
    let box = box_of c.in-Ok.site.site_box in
    log_end old new c.read_entries.result
    (log_led old (left_of c.new-lines.result old) (left_of lines (remaining c.read_first.new.reader)) new box lines.whole c.read_entries.result (c.new-lines.ensures.left old) c.in-Ok.ensures.ok
    c.read_entries.ensures.ok)

pub returns-in-Ok-clause-all : goal.returns-in-Ok-clause-all
returns-in-Ok-clause-all g c =
    let remaining = g.R.Read.remaining in
    let old = remaining c.args.reader.now in
    let new = remaining c.read_entries.new.reader in
    let lines = c.read_first.new.lines in
    let box = box_of c.in-Ok.site.site_box in
    log_all old new c.read_entries.result
    (log_led old (left_of c.new-lines.result old) (left_of lines (remaining c.read_first.new.reader)) new box lines.whole c.read_entries.result (c.new-lines.ensures.left old) c.in-Ok.ensures.ok
    c.read_entries.ensures.ok)

pub returns-in-Ok-clause-left : goal.returns-in-Ok-clause-left
returns-in-Ok-clause-left g c =
    let remaining = g.R.Read.remaining in
    let old = remaining c.args.reader.now in
    let new = remaining c.read_entries.new.reader in
    let lines = c.read_first.new.lines in
    let box = box_of c.in-Ok.site.site_box in
    fault_led old (left_of c.new-lines.result old) (left_of lines (remaining c.read_first.new.reader)) new box lines.whole c.read_entries.result (c.new-lines.ensures.left old) c.in-Ok.ensures.ok
    c.read_entries.ensures.left

pub returns-in-Ok-clause-found : goal.returns-in-Ok-clause-found
returns-in-Ok-clause-found g c =
    let remaining = g.R.Read.remaining in
    let old = remaining c.args.reader.now in
    let new = remaining c.read_entries.new.reader in
    let lines = c.read_first.new.lines in
    let left = left_of lines (remaining c.read_first.new.reader) in
    let box = box_of c.in-Ok.site.site_box in
    log_found old new c.read_entries.result
    (log_led old (left_of c.new-lines.result old) left new box lines.whole c.read_entries.result (c.new-lines.ensures.left old) c.in-Ok.ensures.ok c.read_entries.ensures.ok)
    (fault_led old (left_of c.new-lines.result old) left new box lines.whole c.read_entries.result (c.new-lines.ensures.left old) c.in-Ok.ensures.ok c.read_entries.ensures.left)

pub returns-in-Err-clause-left : goal.returns-in-Err-clause-left
returns-in-Err-clause-left g c =
    let remaining = g.R.Read.remaining in
    let old = remaining c.args.reader.now in
    subst (λ a. ReadsUpTo a (remaining c.read_first.new.reader) c.in-Err.fault) (c.new-lines.ensures.left old) c.in-Err.ensures.left

pub returns-in-Err-clause-found : goal.returns-in-Err-clause-found
returns-in-Err-clause-found g c =
    let remaining = g.R.Read.remaining in
    let old = remaining c.args.reader.now in
    let new = remaining c.read_first.new.reader in
    fault_known old new c.in-Err.fault (subst (λ a. ReadsUpTo a new c.in-Err.fault) (c.new-lines.ensures.left old) c.in-Err.ensures.left)
