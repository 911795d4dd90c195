use Rattle.std.proofs.Common.{◌≡◌, ◌∙◌, ◌+◌, ◌<◌, ◌≤◌, [], false, ap, arith, drop, length, sym, take}
use Rattle.std.specs.Prelude.{is_none}
use Rattle.std.proofs.lemmas.Result.{IfOk-weaker}
use Rattle.shm_place.specs.Limits.{page_bytes}
use Rattle.shm_place.specs.Offset.{within_of}
use Rattle.shm_model.specs.declared.asked_access.Asked.TheVariants.{Load}
use Rattle.shm_model.specs.Basics.{greatest}
use Rattle.shm_process.specs.AskOf.{ask_of, block_of}
use Rattle.shm_process.specs.NodeOf.{node_of}
use Rattle.shm_process.specs.WaitingAsks.{Access, Reads, ask_in}
use Rattle.shm_process.proofs.Asks.{map_read}
use Rattle.shm_process.proofs.FurtherFits.{given_byte, loads_may, part_of}
use Rattle.shm_process.proofs.node.Node.loads_ahead.Goals as goal

pub returns-clause-may : goal.returns-clause-may
returns-clause-may g c =
    let self = c.args.self.now in
    let node = node_of self in
    let items = self.waiting.items in
    let block = block_of c.in-Reads.block in
    let within : c.args.at < length items = omega (arith, c.requires, self.waiting.ok.0) in
    let is : ask_in node.waiting c.args.at ≡ Reads block =
    map_read ask_of items c.args.at c.index.result.now (Access [] (Load 0 0)) within c.index.ensures ∙ ap ask_of c.in-Reads.is in
    let offset = c.next_offset-offset.result in
    let there = c.in_ok-bytes.bytes.items in
    let gives = given_byte c.byte_at.result c.is_none.result _ c.byte_at.ensures c.is_none.ensures c.if-is_none.false in
    let reached = sym c.reached.ensures ∙ c.in-Some.is in
    let few = c.part.ensures.few in
    let left : length block.bytes + length c.part.result.now < block.count = omega (arith, few, c.least-count.ensures.b, c.left.ensures) in
    let inside : within_of offset + length c.part.result.now ≤ page_bytes = omega (arith, few, c.least-count.ensures.c, c.bytes_to_end.ensures) in
    let clocks : node.clock + length c.part.result.now ≤ greatest = omega (arith, few, c.least-count.ensures.d, c.clocks_left.ensures) in
    let given = c.part.ensures.part ∙ ap (λ w. take (length c.part.result.now) (drop w c.as_slice.result.now)) c.place_in_page.ensures
    ∙ ap (λ b. take (length c.part.result.now) (drop (within_of offset) b)) c.as_slice.ensures.value in
    let may = loads_may node c.args.at self.site.sites self.site.me offset block c.in-Some.page c.part.result.now there is c.next_offset-offset.ensures gives reached
    c.in_ok-bytes.ensures given left inside clocks in
    IfOk-weaker c.from_slice.result _ _ (λ more same some. part_of node c.args.at c.part.result.now more.items same may) c.from_slice.ensures.items
