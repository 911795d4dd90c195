use Rattle.std.proofs.Common.{string_bytes}
use Rattle.shm_place.specs.SiteSet.{has}
use Rattle.shm_debug.proofs.Listing.{ListedBelow}
use Rattle.shm_debug.proofs.printed_text.copies.tell_copies.Given as goal

abbrev pub invariant-sites : goal.invariant-sites
invariant-sites g l = ListedBelow (has l.copies) l.site (string_bytes l.initial.out) (string_bytes l.out) l.some
