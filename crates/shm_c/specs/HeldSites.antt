-- What a site's handle owns.
use Rattle.std.specs.Prelude.{Option}
use base.Fml.{Fml}
use denote.RattleType.{RattleType}
use denote.RawPtr.{Ptr}
use Rattle.std.specs.Coded.{Coded, coded_option}
use Rattle.shm_c.specs.Held.{held}
use Rattle.shm_c.specs.declared.held_site.HeldSite.{HeldSite}
use Rattle.shm_c.specs.contracts.held_site.HeldSite as site

abbrev pub site_row : RattleType
site_row = site.the_row

abbrev pub site_code : Coded (Option HeldSite)
site_code = coded_option site_row.coded

abbrev pub owned_site : Ptr → Option HeldSite → Fml
owned_site p held_site = held site_row p held_site
