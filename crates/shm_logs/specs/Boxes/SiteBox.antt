-- A box, as the definitions speak of it.
use Rattle.shm_site.specs.Site.{site_of}
use Rattle.shm_logs.specs.Boxes.Box.{Box}
use Rattle.shm_logs.specs.Boxes.SiteLog.{steps_of}
use Rattle.shm_logs.specs.declared.site_boxes.site_box.SiteBox.{SiteBox}

abbrev pub box_of : {A : Type 0} → SiteBox A → Box
box_of box = record {
  sites = box.log.sites;
  me = box.log.me;
  pages = box.log.pages;
  site = site_of box.site;
  log = steps_of box.log;
  clock = box.clock;
}
