-- The envelope at a place was sent by the step of the log.
use Rattle.std.proofs.Common.{◌≡◌, ◌∙◌, Some, ap, refl, slice_get, subst, sym}
use Rattle.std.proofs.lemmas.Option.{slice_get-get_or, slice_get-map}
use Rattle.std.specs.Prelude.{option_map, map}
use Rattle.shm_parts.specs.Message.{envelope_of}
use Rattle.shm_logs.specs.Boxes.Logged.{logged_of}
use Rattle.shm_logs.specs.Boxes.SiteLog.{steps_of}
use Rattle.shm_sites.proofs.cluster.copy_sent_envelopes.copies.Goals as goal

pub add-requires : goal.add-requires
add-requires g c =
    let log = c.args.log.now in
    let sent = c.deref-envelope-items.result.now in
    let place = c.places.place in
    let envelope = c.envelope-item.result in
    let read : slice_get sent place ≡ Some envelope = slice_get-get_or sent place envelope c.places-test.true ∙ ap Some (sym c.envelope-item.is) in
    let there : slice_get (map envelope_of sent) place ≡ Some (envelope_of envelope) =
    slice_get-map envelope_of sent place ∙ ap (option_map envelope_of) read in
    ∣ record {
      sites = log.sites;
      me = log.me;
      pages = log.pages;
      log = steps_of log;
      fits = log.fits;
      step = logged_of c.args.step.now;
      made = c.requires;
      at = refl;
      there = subst (λ all. slice_get (map envelope_of all) place ≡ Some (envelope_of envelope)) c.deref-envelope-items.ensures.value there;
    } ∣₁
