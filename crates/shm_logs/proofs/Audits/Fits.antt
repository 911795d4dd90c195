-- Logs of one set of sites fit, since each log by its type is that of the site that it names.
use Rattle.std.proofs.Common.{◌≡◌, ◌∙◌, ℕ, ◌<◌, List, [], ◌∷◌, subst, sym, arith, get_or}
use Rattle.std.proofs.lemmas.List.{get_or-map, length-map}
use Rattle.shm_model.specs.Log.{Fits, Logged, LogsFit, log_of}
use Rattle.shm_model.specs.World.{Preset, opened_site}
use Rattle.shm_logs.specs.Boxes.SiteLog.{steps_of}
use Rattle.shm_logs.specs.declared.site_boxes.site_log.SiteLog.{SiteLog}
use Rattle.shm_logs.specs.Auditing.Logs.{AreLogsOf, IsLogOf, logs_of}

fits-there : (sites me pages sites' me' pages' : ℕ) (log : List Logged) → sites ≡ sites' → me ≡ me' → pages ≡ pages'
    → Fits sites me (opened_site (Preset sites pages) me) log → Fits sites' me' (opened_site (Preset sites' pages') me') log
fits-there sites me pages sites' me' pages' log n m p fits =
    subst (λ k. Fits sites' me' (opened_site (Preset sites' k) me') log) p
    (subst (λ k. Fits sites' k (opened_site (Preset sites' pages) k) log) m
    (subst (λ k. Fits k me (opened_site (Preset k pages) me) log) n fits))

log-fits : {A : Type 0} (sites pages s : ℕ) (log : SiteLog A) → IsLogOf sites pages s log → Fits sites s (opened_site (Preset sites pages) s) (steps_of log)
log-fits sites pages s log is = fits-there log.sites log.me log.pages sites s pages (steps_of log) is.among is.own is.opened log.fits

place-fits : {A : Type 0} (sites pages : ℕ) (logs : List (SiteLog A)) (s : ℕ) → AreLogsOf sites pages logs → s < sites
    → Fits sites s (opened_site (Preset sites pages) s) (log_of (logs_of logs) s)
place-fits sites pages [] s are below = absurd (omega (arith, are.count))
place-fits sites pages (log ∷ logs) s are below =
    subst (Fits sites s (opened_site (Preset sites pages) s)) (sym (get_or-map steps_of (log ∷ logs) s log [] (omega (arith, are.count))))
    (log-fits sites pages s (get_or (log ∷ logs) s log) (are.places s log below))

pub logs-fit : {A : Type 0} (sites pages : ℕ) (logs : List (SiteLog A)) → AreLogsOf sites pages logs → LogsFit (Preset sites pages) (logs_of logs)
logs-fit sites pages logs are = record {
  count = length-map logs steps_of ∙ are.count;
  fit = λ s below. place-fits sites pages logs s are below;
  numbers = are.numbers;
}
