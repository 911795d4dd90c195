use Rattle.std.proofs.Common.{◌∙◌, sym, Ok}
use Rattle.shm_journal.specs.Lines.{Header}
use Rattle.shm_journal.specs.Recovers.{ReadsUpTo, Recovers}
use Rattle.shm_seal.specs.Seal.{cluster_of}
use Rattle.shm_seal.specs.SealOf.{seal_of}
use Rattle.shm_command.proofs.Refusing.{blank, by_name, existing, same}
use Rattle.shm_command.specs.Begun.{IsNotAsked, header_at}
use Rattle.shm_command.specs.declared.site_error.SiteFault.TheVariants as fault
use Rattle.shm_command.proofs.journal_startup.recovered_as_asked.Goals as goal

pub returns-then-is_as_asked-clause-asked : goal.returns-then-is_as_asked-clause-asked
returns-then-is_as_asked-clause-asked g c = same c.args.begins c.in-Ok.found.is_new (sym c.is_as_asked.ensures ∙ c.if-is_as_asked.true)

pub returns-then-is_as_asked-clause-found : goal.returns-then-is_as_asked-clause-found
returns-then-is_as_asked-clause-found g c =
    let P : Header → Type 0 = λ header. Recovers header (g.J.Read.remaining c.args.lines.now) (Ok c.in-Ok.found) in
    by_name P c.args.sites c.args.me c.args.pages _ _ c.name-cluster.ensures c.in-Ok.ensures.found

pub returns-in-Err-clause-left : goal.returns-in-Err-clause-left
returns-in-Err-clause-left g c =
    let P : Header → Type 0 = λ header. ReadsUpTo header (g.J.Read.remaining c.args.lines.now) (g.J.Read.remaining c.recover.new.reader) c.in-Err.fault in
    by_name P c.args.sites c.args.me c.args.pages _ _ c.name-cluster.ensures c.in-Err.ensures.left

pub returns-in-Err-clause-refused : goal.returns-in-Err-clause-refused
returns-in-Err-clause-refused g c =
    let P : Header → Type 0 = λ header. IsNotAsked c.args.begins header (g.J.Read.remaining c.args.lines.now) (fault.Unrecovered c.in-Err.fault) in
    by_name P c.args.sites c.args.me c.args.pages _ _ c.name-cluster.ensures c.in-Err.ensures.found

pub returns-then-begins-clause-refused : goal.returns-then-begins-clause-refused
returns-then-begins-clause-refused g c =
    let P : Header → Type 0 = λ header. Recovers header (g.J.Read.remaining c.args.lines.now) (Ok c.in-Ok.found) in
    let found = by_name P c.args.sites c.args.me c.args.pages _ _ c.name-cluster.ensures c.in-Ok.ensures.found in
    let header = header_at c.args.sites c.args.me c.args.pages (cluster_of (seal_of c.args.seal.now)) in
    existing c.args.begins header (g.J.Read.remaining c.args.lines.now) c.in-Ok.found found (sym c.is_as_asked.ensures ∙ c.if-is_as_asked.false) c.if-begins.true

pub returns-clause-refused : goal.returns-clause-refused
returns-clause-refused g c =
    let P : Header → Type 0 = λ header. Recovers header (g.J.Read.remaining c.args.lines.now) (Ok c.in-Ok.found) in
    let found = by_name P c.args.sites c.args.me c.args.pages _ _ c.name-cluster.ensures c.in-Ok.ensures.found in
    let header = header_at c.args.sites c.args.me c.args.pages (cluster_of (seal_of c.args.seal.now)) in
    blank c.args.begins header (g.J.Read.remaining c.args.lines.now) c.in-Ok.found found (sym c.is_as_asked.ensures ∙ c.if-is_as_asked.false) c.if-begins.false
