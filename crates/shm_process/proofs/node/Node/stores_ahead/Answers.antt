use Rattle.std.proofs.Common.{◌≡◌, ◌∙◌, ◌+◌, ◌<◌, ◌≤◌, [], ap, arith, drop, length, sym, take}
use Rattle.std.proofs.lemmas.Result.{IfOk-weaker}
use Rattle.shm_place.specs.Limits.{page_bytes}
use Rattle.shm_place.specs.Offset.{within_of}
use Rattle.shm_model.specs.declared.asked_access.Asked.TheVariants.{Load}
use Rattle.shm_model.specs.Basics.{greatest}
use Rattle.shm_process.specs.AskOf.{ask_of, write_of}
use Rattle.shm_process.specs.NodeOf.{node_of}
use Rattle.shm_process.specs.WaitingAsks.{Access, Writes, ask_in}
use Rattle.shm_process.proofs.Asks.{map_read}
use Rattle.shm_process.proofs.FurtherFits.{part_stored, stores_may}
use Rattle.shm_process.proofs.node.Node.stores_ahead.Goals as goal

pub returns-clause-may : goal.returns-clause-may
returns-clause-may g c =
    let self = c.args.self.now in
    let node = node_of self in
    let items = self.waiting.items in
    let write = write_of c.in-Writes.write in
    let within : c.args.at < length items = omega (arith, c.requires, self.waiting.ok.0) in
    let is : ask_in node.waiting c.args.at ≡ Writes write =
    map_read ask_of items c.args.at c.index.result.now (Access [] (Load 0 0)) within c.index.ensures ∙ ap ask_of c.in-Writes.is in
    let offset = c.next_offset-offset.result in
    let takes = sym (c.takes_store.ensures 0) ∙ c.if-not-takes_store.false in
    let few = c.part.ensures.few in
    let left : write.stored + length c.part.result.now < length write.bytes = omega (arith, few, c.least-count.ensures.b, c.left.ensures) in
    let inside : within_of offset + length c.part.result.now ≤ page_bytes = omega (arith, few, c.least-count.ensures.c, c.bytes_to_end.ensures) in
    let clocks : node.clock + length c.part.result.now ≤ greatest = omega (arith, few, c.least-count.ensures.d, c.clocks_left.ensures) in
    let given = c.part.ensures.part ∙ ap (λ b. take (length c.part.result.now) (drop write.stored b)) c.as_slice.ensures.value in
    let may = stores_may node c.args.at self.site.sites self.site.me offset write c.part.result.now is c.next_offset-offset.ensures takes given left inside clocks in
    IfOk-weaker c.from_slice.result _ _ (λ more same some. part_stored node c.args.at c.part.result.now more.items same may) c.from_slice.ensures.items
