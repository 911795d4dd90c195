use Rattle.std.proofs.Common.{◌||◌, refl, arith, string_bytes}
use Rattle.shm_place.specs.SiteSet.{has}
use Rattle.shm_debug.proofs.Listing.{listed_none, listed_more, listed_all, dashed_all}
use Rattle.shm_debug.proofs.printed_text.copies.tell_copies.Goals as goal

pub sites-init : goal.sites-init
sites-init g c = listed_none (has c.args.copies) (string_bytes c.args.out.now)

pub sites-preserved : goal.sites-preserved
sites-preserved g c =
    listed_more (has c.args.copies) c.sites.site (string_bytes c.args.out.now) (string_bytes c.sites.out) (string_bytes c.tell_copy.new.out)
    c.sites.some (c.sites.some || c.contains-is_copy.result) c.contains-is_copy.result c.sites.invariant c.contains-is_copy.ensures c.in_ok-tell_copy.ensures refl

pub returns-then-some : goal.returns-then-some
returns-then-some g c =
    listed_all (has c.args.copies) c.sites.site (string_bytes c.args.out.now) (string_bytes c.sites.out) c.sites.some
    (omega (arith, c.sites-test.false, c.sites.auto.site-end)) c.sites.invariant c.if-some.true

pub returns : goal.returns
returns g c =
    dashed_all (has c.args.copies) c.sites.site (string_bytes c.args.out.now) (string_bytes c.sites.out) (string_bytes c.push_str.new.self) c.sites.some c.push_str.result
    (omega (arith, c.sites-test.false, c.sites.auto.site-end)) c.sites.invariant c.if-some.false c.push_str.ensures.bytes
