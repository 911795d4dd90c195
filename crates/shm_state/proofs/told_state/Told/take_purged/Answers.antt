use Rattle.std.proofs.Common.{◌≡◌, ◌∙◌, true, false, not, ap, sym, refl}
use Rattle.shm_model.specs.Site.{Site, is_attached}
use Rattle.shm_attach.specs.Attachments.{attachments_of, with_attachments}
use Rattle.shm_parts.specs.Holdings.{with_holdings}
use Rattle.shm_parts.specs.Listed.{purged_in}
use Rattle.shm_site.specs.State.{site_from}
use Rattle.shm_state.proofs.Taken.{chosen_first, fit-once, no_memory, taken, twice, unfit}
use Rattle.shm_state.proofs.ToldSteps.{attached-alike, holdings-same, purged-alike, purged-told, says, seen, tells}
use Rattle.shm_state.specs.Part.{Purged}
use Rattle.shm_state.specs.Told.{once}
use Rattle.shm_state.specs.ToldOf.{told_site}
use Rattle.shm_state.proofs.told_state.Told.take_purged.Goals as goal

pub returns-then-is_attached-clause-told : goal.returns-then-is_attached-clause-told
returns-then-is_attached-clause-told g c = λ said h.
    let old = c.args.self.now in
    let id = c.args.id in
    let fits = not (is_attached (site_from old.sites old.me said.state) id) in
    let no : fits ≡ false = ap not (attached-alike old said h id c.is_attached.result c.is_attached.ensures ∙ c.if-is_attached.true) in
    unfit (Purged id) said old fits (purged_in said.state.purged id) no h

pub returns-then-is_purged-clause-told : goal.returns-then-is_purged-clause-told
returns-then-is_purged-clause-told g c = λ said h.
    let old = c.args.self.now in
    let id = c.args.id in
    let fits = not (is_attached (site_from old.sites old.me said.state) id) in
    let fit : fits ≡ true = ap not (attached-alike old said h id c.is_attached.result c.is_attached.ensures ∙ c.if-is_attached.false) in
    let again : purged_in said.state.purged id ≡ true = purged-alike old said h id ∙ sym c.is_purged.ensures ∙ c.if-is_purged.true in
    twice (Purged id) said old fits (purged_in said.state.purged id) fit again h

pub returns-in_default-clause-told : goal.returns-in_default-clause-told
returns-in_default-clause-told g c = λ said h.
    let old = c.args.self.now in
    no_memory (Purged c.args.id) said _ _ refl
    (tells _ _ (holdings-same (seen old) said (says old said h) c.restore_purged.new.self (c.in_default.ensures.refused old.sites old.me)))

pub returns-clause-told : goal.returns-clause-told
returns-clause-told g c = λ said h.
    let old = c.args.self.now in
    let id = c.args.id in
    let named : (site : Site) → c.is_attached.result ≡ is_attached (with_attachments (attachments_of old.holdings.attachments) site) id = c.is_attached.ensures in
    let fits = not (is_attached (site_from old.sites old.me said.state) id) in
    let fit : fits ≡ true = ap not (attached-alike old said h id c.is_attached.result named ∙ c.if-is_attached.false) in
    let new : purged_in said.state.purged id ≡ false = purged-alike old said h id ∙ sym c.is_purged.ensures ∙ c.if-is_purged.false in
    let yes : c.in-Ok._done ≡ true = c.in-Ok.ensures.unnamed (told_site old) ∙ ap not (sym (named (told_site old)) ∙ c.if-is_attached.false) in
    taken (Purged id) said _ (once fits (purged_in said.state.purged id)) _ (fit-once fits (purged_in said.state.purged id) fit new)
    (tells _ _ (purged-told (seen old) said (says old said h) id c.restore_purged.new.self (λ site.
    chosen_first c.in-Ok._done _ _ (with_holdings old.sites old.me c.restore_purged.new.self site) (c.in-Ok.ensures.after old.sites old.me site) yes)))
