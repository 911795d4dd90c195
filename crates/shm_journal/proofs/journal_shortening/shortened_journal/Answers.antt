use Rattle.std.proofs.Common.{rules, ◌≡◌, ◌++◌, ◌∙◌, List, ap, ap₂, string_bytes, subst, sym, true}
use Rattle.std.specs.List.{All}
use Rattle.std.specs.Prelude.{map}
use Rattle.shm_model.specs.Site.{Site}
use Rattle.shm_model.specs.Step.{restart}
use Rattle.shm_process.specs.NodeOf.{node_of}
use Rattle.shm_site.specs.State.{site_from}
use Rattle.shm_state.specs.PartOf.{part_in}
use Rattle.shm_state.specs.PartWords.{IsPart}
use Rattle.shm_state.specs.Told.{state_told}
use Rattle.shm_journal.specs.Begun.{header_text, state_text}
use Rattle.shm_journal.specs.HeaderOf.{header_of}
use Rattle.shm_journal.specs.Shortened.{AreTold}
use Rattle.shm_journal.specs.StateLines.{Ending, IsEnding, IsMapping}
use Rattle.shm_journal.specs.StateOf.{ending_in}
use Rattle.shm_wire.specs.declared.mapping_text.Mapping.{Mapping}
use Rattle.shm_journal.proofs.Shortening.{shortens}
use Rattle.shm_journal.proofs.journal_shortening.shortened_journal.Goals as goal

pub returns-in-Ok-take_parts-clause-text : goal.returns-in-Ok-take_parts-clause-text
returns-in-Ok-take_parts-clause-text g c =
    let node = node_of c.args.node.now in
    let header = header_of c.args.header in
    let items = c.in-Ok.parts.items in
    let parts = map part_in items in
    let text = string_bytes c.in-Ok-write_journal.text in
    let slice = c.as_slice.ensures.value in
    let lined : c.have_lines.result ≡ true = search rules in
    let sites : c.sites-sites.result ≡ node.sites = sym c.count.ensures.value ∙ (search rules) ∙ c.requires.sites in
    let me : c.me-me.result ≡ node.me = (search rules) ∙ c.requires.me in
    let is : text ≡ header_text header ++ state_text (record { parts = map part_in c.as_slice-2.result.now; mapped = c.mapped-mapped.result.now; ending = ending_in c.ending_of.result })
    = c.in-Ok-write_journal.ensures in
    let same : site_from c.sites-sites.result c.me-me.result (state_told parts) ≡ (restart node.site).site =
    ap₂ (λ sites me. site_from sites me (state_told parts)) c.sites-sites.ensures c.me-me.ensures
    ∙ c.in-Ok.ensures.told ∙ ap (λ (s : Site). (restart s).site) c.site-site.ensures in
    shortens header node parts text c.requires.sites c.requires.me
    (subst (λ ps. All IsPart (map part_in ps)) slice (c.have_lines.ensures lined))
    (subst (All IsMapping) c.mapped-mapped.ensures c.mappings_fit.ensures)
    (subst IsEnding c.ending_of.ensures.at c.ending_of.ensures.is)
    (subst (λ s. AreTold s node.me parts) sites (subst (λ m. AreTold c.sites-sites.result m parts) me c.in-Ok-take_parts.ensures))
    c.in-Ok.ensures.order.whole
    (ap₂ (λ sites me. site_from sites me (state_told parts)) (sym sites) (sym me) ∙ same)
    (is ∙ ap (λ ps. header_text header ++ state_text (record { parts = map part_in ps; mapped = c.mapped-mapped.result.now; ending = ending_in c.ending_of.result })) c.as_slice-2.ensures.value
    ∙ ap₂ (λ (ms : List Mapping) (e : Ending). header_text header ++ state_text (record { parts = parts; mapped = ms; ending = e })) c.mapped-mapped.ensures c.ending_of.ensures.at)
