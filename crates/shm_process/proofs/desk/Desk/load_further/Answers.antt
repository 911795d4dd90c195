use Rattle.std.proofs.Common.{◌≡◌, ◌∙◌, ◌+◌, ◌<◌, ◌≤◌, Some, ap, arith, length, sym, subst}
use Rattle.std.specs.Prelude.{option_map}
use Rattle.std.proofs.Math.Nat.{min-le_right}
use Rattle.shm_wire.specs.TagOf.{tag_text}
use Rattle.shm_process.specs.Desk.{all_made}
use Rattle.shm_process.specs.DeskOf.{desk_of}
use Rattle.shm_process.specs.Further.{after_loads}
use Rattle.shm_process.specs.RowOf.{row_of}
use Rattle.shm_process.specs.Rows.{Loads, with_accesses}
use Rattle.shm_process.proofs.FurtherDesk.{made_loads, nonempty, some-one}
use Rattle.shm_process.proofs.desk.Desk.load_further.Goals as goal

pub returns-clause-made : goal.returns-clause-made
returns-clause-made g c =
    let self = c.args.self.now in
    let d = desk_of self in
    let row = c.in-Some.row in
    let items = c.in_ok-more.more.items in
    let room = c.loads_room-room.result in
    let count : c.len-count.result ≡ length items = omega (arith, c.len-count.ensures, c.in_ok-more.more.ok.0) in
    let some = nonempty items c.len-count.result (sym count) c.if-count-eq0.false in
    let few : c.min.result ≤ room = subst (λ n. n ≤ room) (sym c.min.ensures) (min-le_right c.args.most room) in
    let fewer : length items ≤ room = omega (arith, few, c.in_ok-more.ensures.few, c.in_ok-more.more.ok.0) in
    let has : d.row ≡ Some (row_of row) = ap (option_map row_of) c.in-Some.is in
    let one = some-one items c.len-count.result (sym count) c.if-count-eq0.false in
    let positive : 0 < room = omega (arith, one, fewer) in
    let goes = c.loads_room-room.ensures positive in
    λ k.
    ap (λ n. all_made (n + k) d) count
    ∙ made_loads d c.args.at (tag_text c.next_of-asked.result.0) c.next_clock-clock.result room k (row_of row) (row_of c.add_loads.new.self) c.requires.first has
    c.next_of-asked.ensures.tag c.next_clock-clock.ensures c.requires.sent c.next_of-asked.result.1 items c.next_of-asked.ensures.asked some
    (c.in_ok-more.ensures.may some) fewer goes (λ loads is. c.add_loads.ensures loads is ∙ ap (λ n. with_accesses (row_of row) (Loads (loads + n))) count)
    ∙ ap (λ n. all_made k (record d { node = n; row = Some (row_of c.add_loads.new.self) })) (sym (c.take_loads.ensures ∙ ap (after_loads d.node c.args.at) c.as_slice.ensures.value))
