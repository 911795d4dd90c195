-- Logs with one more step.
use Rattle.std.proofs.Common.{◌≡◌, ◌∙◌, ℕ, List, [], ◌∷◌, ◌++◌, ap, refl, sym}
use Rattle.std.specs.Prelude.{IsTrue, map}
use Rattle.std.proofs.lemmas.List.{map-append}
use Rattle.std.proofs.lemmas.List.Elements.{All-push}
use Rattle.shm_model.specs.Site.{Step, Site}
use Rattle.shm_model.specs.Log.{Fits, Logged, StepOutcome, inputs_of, is_logged, moved_by, outcome_of, outcomes}
use Rattle.shm_model.specs.Message.{Input}
use Rattle.shm_model.specs.Step.{step}
use Rattle.shm_model.specs.World.{Preset, opened_site}
use Rattle.shm_logs.specs.Boxes.Box.{last_stamp_or}
use Rattle.shm_logs.specs.Boxes.SiteLog.{left_by}

pub map-push : {X Y : Type 0} (f : X → Y) (xs ys : List X) (x : X) → ys ≡ xs ++ x ∷ [] → map f ys ≡ map f xs ++ f x ∷ []
map-push f xs ys x pushed = ap (map f) pushed ∙ map-append f xs (x ∷ [])

abbrev told_of : Step → StepOutcome
told_of done = record { answer = done.answer; sent = done.sent }

pub moved-push : (n s : ℕ) (site : Site) (xs : List Logged) (l : Logged)
    → moved_by n s site (inputs_of (xs ++ l ∷ [])) ≡ (step n s (moved_by n s site (inputs_of xs)) l.input).site
moved-push n s site [] l = refl
moved-push n s site (x ∷ xs) l = moved-push n s (step n s site x.input).site xs l

tells-push : (n s : ℕ) (site : Site) (xs : List Logged) (l : Logged)
    → outcomes n s site (inputs_of (xs ++ l ∷ [])) ≡ outcomes n s site (inputs_of xs) ++ told_of (step n s (moved_by n s site (inputs_of xs)) l.input) ∷ []
tells-push n s site [] l = refl
tells-push n s site (x ∷ xs) l = ap (λ ts. told_of (step n s site x.input) ∷ ts) (tells-push n s (step n s site x.input).site xs l)

pub fits-push : (n s : ℕ) (site : Site) (xs : List Logged) (l : Logged) → Fits n s site xs
    → outcome_of l ≡ told_of (step n s (moved_by n s site (inputs_of xs)) l.input) → IsTrue (is_logged n s l.input) → Fits n s site (xs ++ l ∷ [])
fits-push n s site xs l fits next logged =
    let before : map outcome_of (xs ++ l ∷ []) ≡ map outcome_of xs ++ outcome_of l ∷ [] = map-append outcome_of xs (l ∷ []) in
    let after : outcomes n s site (inputs_of (xs ++ l ∷ [])) ≡ outcomes n s site (inputs_of xs) ++ told_of (step n s (moved_by n s site (inputs_of xs)) l.input) ∷ [] = tells-push n s site xs l in
    let same : map outcome_of xs ≡ outcomes n s site (inputs_of xs) = fits.tell in
    record { tell = cc; inputs = All-push (λ k. IsTrue (is_logged n s k.input)) xs l fits.inputs logged }

pub last-push : (clock : ℕ) (xs : List Logged) (l : Logged) → last_stamp_or clock (xs ++ l ∷ []) ≡ l.stamp
last-push clock [] l = refl
last-push clock (x ∷ xs) l = last-push x.stamp xs l

-- a site that stood where its log left it stands, after its next step, where the log with that step leaves it
pub stands-push : (n s pages n0 s0 n1 s1 pages1 : ℕ) (before after : Site) (copy : Input) (xs ys : List Logged) (l : Logged)
    → n0 ≡ n → s0 ≡ s → before ≡ left_by n s pages xs → copy ≡ l.input → (step n0 s0 before copy).site ≡ after
    → n1 ≡ n → s1 ≡ s → pages1 ≡ pages → ys ≡ xs ++ l ∷ [] → after ≡ left_by n1 s1 pages1 ys
stands-push n s pages n0 s0 n1 s1 pages1 before after copy xs ys l en es stood same made en1 es1 ep1 pushed =
    sym made
    ∙ ap (λ k. (step k s0 before copy).site) en
    ∙ ap (λ k. (step n k before copy).site) es
    ∙ ap (λ site. (step n s site copy).site) stood
    ∙ ap (λ i. (step n s (left_by n s pages xs) i).site) same
    ∙ sym (moved-push n s (opened_site (Preset n pages) s) xs l)
    ∙ ap (λ zs. left_by n s pages zs) (sym pushed)
    ∙ ap (λ p. left_by n s p ys) (sym ep1)
    ∙ ap (λ k. left_by n k pages1 ys) (sym es1)
    ∙ ap (λ k. left_by k s1 pages1 ys) (sym en1)
