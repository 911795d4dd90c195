use Rattle.std.proofs.Common.{◌≡◌, Some, IfSome, sym, subst}
use Rattle.shm_place.specs.Home.{home_of_id}
use Rattle.shm_model.specs.declared.answer.Answer.TheVariants.{Took}
use Rattle.shm_model.specs.Calls.{Fresh, freshness}
use Rattle.shm_model.specs.Kernel.{named_by}
use Rattle.shm_model.specs.SegmentCalls.{on_call}
use Rattle.shm_attach.specs.Home.{Home, kept_of, sent_for, with_home}
use Rattle.shm_attach.proofs.Runs.{kept_keep, named_home, served}
use Rattle.shm_attach.proofs.segment_home.Home.serve_fresh.Goals as goal

pub returns-in-Ok-clause-step : goal.returns-in-Ok-clause-step
returns-in-Ok-clause-step g c = λ site.
    let old : Home = record { table = c.self.inside.table; kept = c.self.inside.kept } in
    let new : Home = record { table = c.execute.new.table; kept = c.keep.new.self } in
    let fresh = subst (λ (home : Home). Fresh ≡ freshness (kept_of home.kept c.args.from) c.args.number) (sym c.self.view_is) c.requires.fresh in
    let kept = kept_keep old.kept new.kept c.args.from c.args.number c.in-Ok.done.reply c.keep.ensures in
    subst (λ (home : Home). on_call home.table.sites home.table.home c.args.from c.args.number c.args.op (with_home home site) ≡ record { site = with_home new site; answer = Took; sent = sent_for home.table.sites home.table.home c.args.from c.args.number (Some c.in-Ok.done) }) c.self.view_is
    (served site old new c.args.from c.args.number c.args.op c.in-Ok.done fresh c.in-Ok.ensures.run kept)

pub execute-requires : goal.execute-requires
execute-requires g c =
    subst (λ (home : Home). IfSome (named_by c.args.op) (λ id. home_of_id home.table.sites id ≡ home.table.home)) (sym c.self.view_is)
    (named_home c.args.self.now.table.sites c.args.from c.args.self.now.table.home c.args.op c.requires.home)
