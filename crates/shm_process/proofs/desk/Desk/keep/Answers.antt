use Rattle.std.proofs.Common.{◌≡◌, ◌-◌, ◌∙◌, ap, length, arith}
use Rattle.shm_process.specs.DeskOf.{desk_of}
use Rattle.shm_process.proofs.DeskBytes.{kept}
use Rattle.shm_process.proofs.desk.Desk.keep.Goals as goal

pub returns : goal.returns
returns g c =
    let desk = desk_of c.args.self.now in
    let len : c.len.result ≡ length c.args.self.now.line.items = omega (arith, c.args.self.now.line.ok.0, c.len.ensures) in
    kept desk _ c.args.bytes.now c.saturating_sub-room.result c.min-count.result c.requires (c.saturating_sub-room.ensures ∙ ap (λ n. 8193 - n) len)
    c.min-count.ensures (ap (λ line. record desk { line = line }) c.in_ok-extend_from_slice.ensures.items)
