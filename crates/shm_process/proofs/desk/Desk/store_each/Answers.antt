use Rattle.std.proofs.Common.{◌<◌, ◌≤◌, arith, get_or, length, refl, rules}
use Rattle.shm_wire.specs.UnmapOf.{unmap_in}
use Rattle.shm_process.specs.DeskOf.{desk_of}
use Rattle.shm_process.proofs.MetLines.{first_byte, no_byte, one_byte}
use Rattle.shm_process.proofs.desk.Desk.store_each.Goals as goal

pub bytes-init : goal.bytes-init
bytes-init g c = first_byte (unmap_in c.args.ask.now) c.args.offset c.args.bytes.now (desk_of c.args.self.now)

pub bytes-preserved : goal.bytes-preserved
bytes-preserved g c =
    let bytes = c.args.bytes.now in
    let within : c.bytes.place < length bytes = first_of (omega arith, search rules) in
    one_byte (unmap_in c.args.ask.now) c.args.offset c.bytes.place bytes (get_or bytes c.bytes.place 0) (desk_of c.bytes.self) (desk_of c.store_byte.new.self) _ within refl
    c.in_ok-store_byte.ensures c.bytes.invariant

pub returns : goal.returns
returns g c =
    let over : length c.args.bytes.now ≤ c.bytes.place = first_of (omega arith, search rules) in
    no_byte (unmap_in c.args.ask.now) c.args.offset c.bytes.place c.args.bytes.now (desk_of c.bytes.self) _ over c.bytes.invariant
