use Rattle.std.proofs.Common.{None, Some, ◌<◌, length, arith}
use Rattle.shm_number.proofs.Tables.{written}
use Rattle.shm_number.proofs.kept_reply.KeptReply.keep.Goals as goal

pub returns : goal.returns
returns g c =
    let inside : c.site.inside.0 < length c.self.inside.kept = omega arith in
    written c.self.inside.kept c.args.self.now c.site.inside.0 c.args.site (Some (c.args.number, c.args.reply)) None c.self.view_is c.site.view_is inside
