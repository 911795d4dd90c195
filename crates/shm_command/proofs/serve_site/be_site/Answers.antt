use Rattle.std.proofs.Common.{None, inl}
use Rattle.shm_process.specs.DeskOf.{desk_of}
use Rattle.shm_seal.specs.Seal.{cluster_of}
use Rattle.shm_seal.specs.SealOf.{seal_of}
use Rattle.shm_command.proofs.Streaming.{did_nothing}
use Rattle.shm_command.proofs.Stretched.{served_from}
use Rattle.shm_command.specs.Around.{streams}
use Rattle.shm_command.specs.Begun.{header_at}
use Rattle.shm_command.proofs.serve_site.be_site.Goals as goal

pub returns-in_default : goal.returns-in_default
returns-in_default g c = inl (did_nothing (g.I.Read.remaining c.args.reader.now) (g.O.Write.contents c.args.out.now))

pub returns : goal.returns
returns g c =
    served_from None (seal_of c.args.seal) (header_at c.args.sites c.args.me c.args.pages (cluster_of (seal_of c.args.seal))) (desk_of c.in-Ok.desk)
    c.serve_unkept-ended.result (streams (g.I.Read.remaining c.args.reader.now) (g.O.Write.contents c.args.out.now))
    (streams (g.I.Read.remaining c.serve_unkept-ended.new.reader) (g.O.Write.contents c.serve_unkept-ended.new.out))
    (c.seconds_since_1970-since.result, c.in-Ok.ensures) c.serve_unkept-ended.ensures
