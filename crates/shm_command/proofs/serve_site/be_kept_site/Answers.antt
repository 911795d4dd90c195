use Rattle.std.specs.Prelude.{Some}
use Rattle.shm_seal.specs.Seal.{cluster_of}
use Rattle.shm_seal.specs.SealOf.{seal_of}
use Rattle.shm_command.proofs.Unbegun.{unbegun}
use Rattle.shm_command.specs.Begun.{header_at}
use Rattle.shm_command.proofs.serve_site.be_kept_site.Goals as goal

pub returns-in-Err : goal.returns-in-Err
returns-in-Err g c =
    unbegun (Some c.args.kept.begins) (seal_of c.args.seal) (header_at c.args.sites c.args.me c.args.pages (cluster_of (seal_of c.args.seal))) c.in-Err.fault (g.I.Read.remaining c.args.reader.now) (g.O.Write.contents c.args.out.now) c.in-Err.ensures

pub returns-in-Err-begin_kept : goal.returns-in-Err-begin_kept
returns-in-Err-begin_kept g c =
    unbegun (Some c.args.kept.begins) (seal_of c.args.seal) (header_at c.args.sites c.args.me c.args.pages (cluster_of (seal_of c.args.seal))) c.in-Err-begin_kept.fault (g.I.Read.remaining c.args.reader.now) (g.O.Write.contents c.args.out.now)
    c.in-Err-begin_kept.ensures.unbegun

pub returns-in-Err-open_whole : goal.returns-in-Err-open_whole
returns-in-Err-open_whole g c =
    unbegun (Some c.args.kept.begins) (seal_of c.args.seal) (header_at c.args.sites c.args.me c.args.pages (cluster_of (seal_of c.args.seal))) c.of_site.result (g.I.Read.remaining c.args.reader.now) (g.O.Write.contents c.args.out.now)
    c.of_site.ensures

pub returns-in-Err-check_front : goal.returns-in-Err-check_front
returns-in-Err-check_front g c =
    unbegun (Some c.args.kept.begins) (seal_of c.args.seal) (header_at c.args.sites c.args.me c.args.pages (cluster_of (seal_of c.args.seal))) c.in-Err-check_front.fault (g.I.Read.remaining c.args.reader.now) (g.O.Write.contents c.args.out.now)
    c.in-Err-check_front.ensures
