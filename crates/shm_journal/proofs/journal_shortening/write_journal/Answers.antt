use Rattle.std.proofs.Common.{◌++◌, ◌∙◌, ap, string_bytes}
use Rattle.std.specs.Prelude.{map}
use Rattle.shm_state.specs.PartOf.{part_in}
use Rattle.shm_journal.specs.Begun.{KeptSite, header_text}
use Rattle.shm_journal.specs.HeaderOf.{header_of}
use Rattle.shm_journal.specs.StateOf.{ending_in}
use Rattle.shm_journal.proofs.Shortening.{all_written}
use Rattle.shm_journal.proofs.journal_shortening.write_journal.Goals as goal

pub returns : goal.returns
returns g c =
    let header = header_text (header_of c.args.header) in
    let site : KeptSite = record { parts = map part_in c.args.parts.now; mapped = c.args.mapped.now; ending = ending_in c.args.ending } in
    all_written site header (string_bytes c.write_header.new.out) (string_bytes c.write_parts.new.out) (string_bytes c.write_mappings.new.out)
    (string_bytes c.write_line.new.out) (c.in_ok-write_header.ensures ∙ ap (λ t. t ++ header) c.new-out.ensures.bytes) c.in_ok-write_parts.ensures
    c.in_ok-write_mappings.ensures c.in_ok-write_line.ensures
