use Rattle.std.proofs.Common.{◌≡◌, ◌+◌, ◌-◌, ap₂, arith, drop, length, refl, sym, take}
use Rattle.shm_batches.proofs.EntryLemmas.{entered-last, entered-next, entered-none, entered-whole, rest-of}
use Rattle.shm_batches.proofs.chain.entries_at_end.Goals as goal

pub lines-init : goal.lines-init
lines-init c = entered-none c.args.text.now

pub lines-preserved : goal.lines-preserved
lines-preserved c =
    let text = c.args.text.now in
    let at = c.lines.at in
    let len = c.in-Some.len in
    let count : at + len - at ≡ len = omega arith in
    entered-next text (take (length text - at) (drop at text)) (take (at + len - at) (drop at text)) c.lines.from at c.lines.counter len c.begin-from.result c.lines.invariant refl
    c.in-Some.ensures.within c.in-Some.ensures.cut c.in-Some.ensures.unended c.begins_as_entry-is_entry.result (ap₂ take count (sym (rest-of text at)))
    c.begins_as_entry-is_entry.ensures c.begin-from.ensures

pub returns-in_default : goal.returns-in_default
returns-in_default c = entered-last c.args.text.now c.lines.from c.lines.at c.lines.counter c.lines.invariant c.in_default.ensures.none

pub returns : goal.returns
returns c = entered-whole c.args.text.now c.lines.from c.lines.at c.lines.counter c.lines.invariant c.lines-test.false
