-- Steps, looked up by site and index.
use Rattle.std.proofs.Common.{◌≡◌, ℕ, suc, zero, ◌<◌, false, List, [], ◌∷◌, Option, Some, None, Bor, length, map, refl, sym, ap, ◌∙◌, arith, option_map, slice_get, slice_index_or}
use Rattle.std.specs.Option.{is_some, IfNone, MatchOption}
use Rattle.std.specs.Slice.{IsItemAt}
use Rattle.std.proofs.lemmas.Option.{get_or_from_slice_get, none-some, slice_get-map, slice_get_past, slice_get_read}
use Rattle.shm_logs.specs.Boxes.SiteLog.{steps_of}
use Rattle.shm_logs.specs.declared.site_boxes.site_log.SiteLog.{SiteLog}
use Rattle.shm_model.specs.Log.{log_of}
use Rattle.shm_logs.specs.Auditing.Logs.{logs_of}

-- what a lookup gave
pub seen-at : {X Y : Type 0} (f : X → Y) (xs : List X) (i : ℕ) (r : Option (Bor X)) → IsItemAt xs i r → option_map (λ x. f x.now) r ≡ slice_get (map f xs) i
seen-at f xs i None h = sym (slice_get-map f xs i ∙ ap (option_map f) (slice_get_past xs i h.3))
seen-at f xs i (Some x) h = sym (slice_get-map f xs i ∙ ap (option_map f) (slice_get_read xs (length xs) i x.now refl h.3.0 h.1))

-- the log that was read is the site's
pub log-here : {A : Type 0} (logs : List (SiteLog A)) (s : ℕ) (log : SiteLog A) → s < length logs → log ≡ slice_index_or logs s log → log_of (logs_of logs) s ≡ steps_of log
log-here logs s log below read =
    get_or_from_slice_get (logs_of logs) s (steps_of log) []
    (slice_get-map steps_of logs s ∙ ap (option_map steps_of) (slice_get_read logs (length logs) s log refl below read))

-- a log that has a step is a site's, and a list that has a receipt a caller's
pub site-below : {X : Type 0} (logs : List (List X)) (s i : ℕ) (l : X) → slice_get (slice_index_or logs s []) i ≡ Some l → s < length logs
site-below [] s i l h = absurd (none-some l h)
site-below (log ∷ logs) zero i l h = omega arith
site-below (log ∷ logs) (suc s) i l h = let b = site-below logs s i l h in omega arith

pub none-of : {X : Type 0} (r : Option X) (P : Type 0) (Q : X → Type 0) → is_some r ≡ false → MatchOption r P Q → P
none-of None P Q h m = m
none-of (Some x) P Q h m = cc

pub if-none : {X : Type 0} (r : Option X) (P : Type 0) → is_some r ≡ false → IfNone r P → P
if-none None P h p = p
if-none (Some x) P h p = cc
