use Rattle.std.proofs.Common.{◌≡◌, length, refl, arith}
use Rattle.shm_journal.proofs.Gathering.{overran}
use Rattle.shm_journal.proofs.line_reader.Lines.overrun.Goals as goal

pub returns : goal.returns
returns g c =
    let len : c.len.result ≡ length c.args.self.now.front.items = omega (arith, c.args.self.now.front.ok.0, c.len.ensures) in
    overran c.args.self.now _ c.args.len c.len.result c.requires.within c.requires.unended c.requires.long len refl refl refl c.requires.begun refl
