use Rattle.std.proofs.Common.{◌≡◌, ◌∙◌, Ok, Err, ap}
use Rattle.shm_model.specs.Access.{load}
use Rattle.shm_parts.specs.Holdings.{loaded_step}
use Rattle.shm_parts.specs.declared.access_outcome.LoadOutcome.TheVariants.{Byte, Absent}
use Rattle.shm_site.specs.Site.{site_of}
use Rattle.shm_site.proofs.AtOnce.{load_waits}
use Rattle.shm_site.proofs.Seats.{load_here}
use Rattle.shm_site.proofs.site.Site.load_waits.Goals as goal

pub returns-in-Ok-Absent : goal.returns-in-Ok-Absent
returns-in-Ok-Absent g c =
    let old = c.args.self.now in
    let loads = load_here old.sites old.me old.holdings.sites old.holdings.me old.held_sites old.held_me old.holdings old.holdings (site_of old) c.args.at c.args.offset c.load.result (c.load.ensures (site_of old)) in
    c.serves.ensures
    ∙ load_waits old.sites old.me c.args.at c.args.offset (site_of old) c.load.result loads (Ok (Absent c.in-Ok-Absent.page)) (c.in-Ok-Absent.is ∙ ap Ok c.in-Ok-Absent.field-0-is)

pub returns-in-Ok-Byte : goal.returns-in-Ok-Byte
returns-in-Ok-Byte g c =
    let old = c.args.self.now in
    let loads = load_here old.sites old.me old.holdings.sites old.holdings.me old.held_sites old.held_me old.holdings old.holdings (site_of old) c.args.at c.args.offset c.load.result (c.load.ensures (site_of old)) in
    load_waits old.sites old.me c.args.at c.args.offset (site_of old) c.load.result loads _ (c.in-Ok-Byte.is ∙ ap Ok c.in-Ok-Byte.field-0-is)

pub returns-in-Err : goal.returns-in-Err
returns-in-Err g c =
    let old = c.args.self.now in
    let loads = load_here old.sites old.me old.holdings.sites old.holdings.me old.held_sites old.held_me old.holdings old.holdings (site_of old) c.args.at c.args.offset c.load.result (c.load.ensures (site_of old)) in
    load_waits old.sites old.me c.args.at c.args.offset (site_of old) c.load.result loads _ c.in-Err.is
