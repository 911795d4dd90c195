use Rattle.std.proofs.Common.{◌≡◌, ◌+◌, ◌<◌, ◌≤◌, ◌∙◌, ap, ap₂, arith, get_or, length, rules, sym}
use Rattle.shm_model.specs.Access.{store}
use Rattle.shm_model.specs.Site.{Step}
use Rattle.shm_site.specs.Site.{site_of}
use Rattle.shm_process.proofs.FurtherBytes.{all_bytes, one_byte}
use Rattle.shm_process.proofs.node_goes_further.store_bytes.Goals as goal

pub bytes-preserved : goal.bytes-preserved
bytes-preserved g c =
    let first = c.args.site.now in
    let bytes = c.args.bytes.now in
    let place = c.bytes.place in
    let seat = c.bytes.invariant.seat in
    let within : place < length bytes = first_of (omega arith, search rules) in
    let step = c.in_ok-store.ensures.step in
    let is : (store first.sites first.me c.args.at (c.args.offset + place) (get_or bytes place 0) (site_of c.bytes.site)).site ≡ site_of c.store.new.self =
    ap₂ (λ s m. (store s m c.args.at (c.args.offset + place) (get_or bytes place 0) (site_of c.bytes.site)).site) (sym seat.0) (sym seat.1)
    ∙ ap (λ (s : Step). s.site) step.makes.made in
    record {
      stored = one_byte first.sites first.me c.args.at c.args.offset place bytes (site_of c.bytes.site) _ (site_of c.store.new.self) within is c.bytes.invariant.stored;
      seat = (step.seat.0 ∙ seat.0, step.seat.1 ∙ seat.1);
    }

pub returns-clause-stored : goal.returns-clause-stored
returns-clause-stored g c =
    let first = c.args.site.now in
    let over : length c.args.bytes.now ≤ c.bytes.place = first_of (omega arith, search rules) in
    all_bytes first.sites first.me c.args.at c.args.offset c.bytes.place c.args.bytes.now (site_of c.bytes.site) _ over c.bytes.invariant.stored
