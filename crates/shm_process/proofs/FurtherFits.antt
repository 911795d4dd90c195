-- What may be loaded or stored at once leaves some of its block.
use Rattle.std.proofs.Common.{◌≡◌, ℕ, ◌+◌, ◌<◌, ◌≤◌, Bool, true, false, not, List, Option, Some, length, take, drop, ap, sym, subst, ◌∙◌, arith}
use Rattle.std.specs.Prelude.{is_some}
use Rattle.shm_place.specs.declared.page_id.PageId.{PageId}
use Rattle.shm_place.specs.Limits.{page_bytes}
use Rattle.shm_place.specs.Offset.{within_of}
use Rattle.shm_model.specs.Access.{load, right, store}
use Rattle.shm_model.specs.Basics.{greatest}
use Rattle.shm_model.specs.Entry.{bytes}
use Rattle.shm_parts.specs.Reached.{page_reached}
use Rattle.shm_site.specs.AtOnce.{byte_given, is_stored}
use Rattle.shm_process.specs.Blocks.{Block}
use Rattle.shm_process.specs.Further.{MayBring, MayLoad, MayStore, leaves_loads}
use Rattle.shm_process.specs.Node.{Node}
use Rattle.shm_process.specs.WaitingAsks.{Reads, Writes, ask_in}
use Rattle.shm_process.specs.Writes.{Write}
use Rattle.shm_process.proofs.FurtherPlaces.{load_reads, store_writes, within_is}
use Rattle.shm_process.proofs.Tests.{less_is}

pub loads_leave : (node : Node) (at : ℕ) (more : List ℕ) → MayLoad node at more → leaves_loads (ask_in node.waiting at) (length more) ≡ true
loads_leave node at more may =
    let block = may.0 in
    ap (λ ask. leaves_loads ask (length more)) may.2.is ∙ less_is (length block.bytes + length more) block.count may.2.left

some-page : (a b : PageId) → Some a ≡ Some b → a ≡ b
some-page a b e = cc

-- which loads may be made at once
pub loads_may : (node : Node) (at sites me offset : ℕ) (block : Block) (page : PageId) (more there : List ℕ) → ask_in node.waiting at ≡ Reads block
    → offset ≡ block.offset + length block.bytes → is_some (byte_given (load sites me block.at offset node.site).answer) ≡ true
    → page_reached (right node.site.attachments block.at offset false) ≡ Some page → there ≡ bytes (node.site.entries page)
    → more ≡ take (length more) (drop (within_of offset) there) → length block.bytes + length more < block.count
    → within_of offset + length more ≤ page_bytes → node.clock + length more ≤ greatest → MayLoad node at more
loads_may node at sites me offset block page more there is from gives reached has given left inside clocks =
    let r = load_reads sites me (right node.site.attachments block.at offset false) node.site gives in
    let place = r.0 in
    let within : place.within ≡ within_of offset = within_is (node.site.attachments block.at) offset false place r.1 in
    let same : page ≡ place.page = some-page page place.page (sym reached ∙ ap page_reached r.1) in (
      block,
      place,
      record {
        is = is;
        left = left;
        clocks = clocks;
        leads = ap (λ o. right node.site.attachments block.at o false) (sym from) ∙ r.1;
        reads = r.2;
        inside = omega (arith, inside, within);
        given = given ∙ ap (λ b. take (length more) (drop (within_of offset) b)) (has ∙ ap (λ p. bytes (node.site.entries p)) same)
            ∙ ap (λ w. take (length more) (drop w (bytes (node.site.entries place.page)))) (sym within);
      },
    )

-- and which stores
pub stores_may : (node : Node) (at sites me offset : ℕ) (write : Write) (more : List ℕ) → ask_in node.waiting at ≡ Writes write
    → offset ≡ write.offset + write.stored → is_stored (store sites me write.at offset 0 node.site).answer ≡ true
    → more ≡ take (length more) (drop write.stored write.bytes) → write.stored + length more < length write.bytes
    → within_of offset + length more ≤ page_bytes → node.clock + length more ≤ greatest → MayStore node at more
stores_may node at sites me offset write more is from takes given left inside clocks =
    let r = store_writes sites me 0 (right node.site.attachments write.at offset true) node.site takes in
    let place = r.0 in
    let within : place.within ≡ within_of offset = within_is (node.site.attachments write.at) offset true place r.1 in (
      write,
      place,
      record {
        is = is;
        left = left;
        clocks = clocks;
        stores = record {
          leads = ap (λ o. right node.site.attachments write.at o true) (sym from) ∙ r.1;
          writes = r.2;
          inside = omega (arith, inside, within);
        };
        given = given;
      },
    )

pub brings_may : (node : Node) (sites me site at offset count : ℕ) → site ≡ node.me → node.clock + count ≤ greatest → within_of offset + count ≤ page_bytes
    → is_stored (store sites me at offset 0 node.site).answer ≡ true → MayBring node site at offset count
brings_may node sites me site at offset count here clocks inside takes =
    let r = store_writes sites me 0 (right node.site.attachments at offset true) node.site takes in
    let place = r.0 in
    let within : place.within ≡ within_of offset = within_is (node.site.attachments at) offset true place r.1 in
    (place, record { here = here; clocks = clocks; stores = record { leads = r.1; writes = r.2; inside = omega (arith, inside, within) } })

-- an equal list of bytes
pub part_of : (node : Node) (at : ℕ) (part more : List ℕ) → more ≡ part → MayLoad node at part → MayLoad node at more
part_of node at part more same may = subst (MayLoad node at) (sym same) may

pub part_stored : (node : Node) (at : ℕ) (part more : List ℕ) → more ≡ part → MayStore node at part → MayStore node at more
part_stored node at part more same may = subst (MayStore node at) (sym same) may

-- a byte that there is
pub given_byte : (found : Option ℕ) (none : Bool) (whole : Option ℕ) → found ≡ whole → is_some found ≡ not none → none ≡ false → is_some whole ≡ true
given_byte found none whole same is some = ap is_some (sym same) ∙ is ∙ ap not some
