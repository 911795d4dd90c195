use Rattle.std.proofs.Common.{◌≡◌, ap, ap₂, subst, sym, ◌∙◌}
use Rattle.std.specs.Prelude.{IfErr, IfOk, option_map}
use Rattle.shm_process.specs.NodeOf.{node_of}
use Rattle.shm_journal.specs.Found.{reached}
use Rattle.shm_journal.specs.ReadUpTo.{ReadsSite}
use Rattle.shm_journal.specs.StageOf.{Stands}
use Rattle.shm_journal.specs.Stages.{Opened, begun, telling_nothing}
use Rattle.shm_journal.specs.Recovers.{ReadsUpTo}
use Rattle.shm_journal.proofs.Fronts.{any_file}
use Rattle.shm_journal.proofs.RecoveryLemmas.{nothing_read, of_numbers, whole_all, whole_end, whole_found}
use Rattle.shm_seal.specs.NameOf.{name_of}
use Rattle.shm_journal.proofs.recover_site.recover.Goals as goal

pub read_journal-requires : goal.read_journal-requires
read_journal-requires g c =
    let same = ap₂ (λ sites me. of_numbers sites me c.args.pages (option_map name_of c.args.cluster)) c.count.ensures.value c.me.view_is in
    subst (Stands c.new-site.result) (ap (λ n. Opened n (telling_nothing c.args.sites c.args.me)) c.in-Ok.ensures ∙ sym (ap begun same)) c.new-site.ensures

pub returns-clause-end : goal.returns-clause-end
returns-clause-end g c =
    let remaining = g.R.Read.remaining in
    let old = remaining c.args.reader.now in
    let new = remaining c.read_journal.new.reader in
    let header = of_numbers c.args.sites c.args.me c.args.pages (option_map name_of c.args.cluster) in
    let same = ap₂ (λ sites me. of_numbers sites me c.args.pages (option_map name_of c.args.cluster)) c.count.ensures.value c.me.view_is in
    whole_end header old new c.read_journal.result
    (subst (λ h. IfOk c.read_journal.result (λ r. ReadsSite (reached h) old new (node_of r.node) r.whole)) same c.read_journal.ensures.whole)

pub returns-clause-all : goal.returns-clause-all
returns-clause-all g c =
    let remaining = g.R.Read.remaining in
    let old = remaining c.args.reader.now in
    let new = remaining c.read_journal.new.reader in
    let header = of_numbers c.args.sites c.args.me c.args.pages (option_map name_of c.args.cluster) in
    let same = ap₂ (λ sites me. of_numbers sites me c.args.pages (option_map name_of c.args.cluster)) c.count.ensures.value c.me.view_is in
    whole_all header old new c.read_journal.result
    (subst (λ h. IfOk c.read_journal.result (λ r. ReadsSite (reached h) old new (node_of r.node) r.whole)) same c.read_journal.ensures.whole)

pub returns-clause-left : goal.returns-clause-left
returns-clause-left g c =
    let remaining = g.R.Read.remaining in
    let old = remaining c.args.reader.now in
    let new = remaining c.read_journal.new.reader in
    let same = ap₂ (λ sites me. of_numbers sites me c.args.pages (option_map name_of c.args.cluster)) c.count.ensures.value c.me.view_is in
    subst (λ h. IfErr c.read_journal.result (ReadsUpTo h old new)) same c.read_journal.ensures.left

pub returns-clause-found : goal.returns-clause-found
returns-clause-found g c =
    let remaining = g.R.Read.remaining in
    let old = remaining c.args.reader.now in
    let new = remaining c.read_journal.new.reader in
    let header = of_numbers c.args.sites c.args.me c.args.pages (option_map name_of c.args.cluster) in
    let same = ap₂ (λ sites me. of_numbers sites me c.args.pages (option_map name_of c.args.cluster)) c.count.ensures.value c.me.view_is in
    whole_found g.row.A.Denot header old new c.read_journal.result
    (subst (λ h. IfOk c.read_journal.result (λ r. ReadsSite (reached h) old new (node_of r.node) r.whole)) same c.read_journal.ensures.whole)
    c.read_journal.ensures.new
    (subst (λ h. IfErr c.read_journal.result (ReadsUpTo h old new)) same c.read_journal.ensures.left)

pub returns-in_default-clause-left : goal.returns-in_default-clause-left
returns-in_default-clause-left g c = nothing_read (of_numbers c.args.sites c.args.me c.args.pages (option_map name_of c.args.cluster)) (g.R.Read.remaining c.args.reader.now)

pub returns-in_default-clause-found : goal.returns-in_default-clause-found
returns-in_default-clause-found g c = let any = any_file (g.R.Read.remaining c.args.reader.now) in (any.0, any.1, tt)
