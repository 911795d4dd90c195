-- What the lives of a site record, life after life, and what the log of its box tells of them.
use Rattle.std.proofs.Common.{◌≡◌, ℕ, List, [], ◌∷◌, ◌++◌, Some, refl, ap, sym, ◌∙◌, append_assoc, map}
use Rattle.std.specs.Prelude.{option_and_then}
use Rattle.std.proofs.lemmas.List.{map-append}
use Rattle.shm_model.specs.Log.{Logged}
use Rattle.shm_process.proofs.Events.{steps_both, text-both}
use Rattle.shm_process.specs.Node.{Node}
use Rattle.shm_process.specs.Recorded.{Entry, Event, after_events, all_steps, entries_of, entries_text, kept}
use Rattle.shm_journal.proofs.EntriesFit.{AreFit, entries_fit}
use Rattle.shm_journal.specs.Lives.{IsLives, after_lives}
use Rattle.shm_logs.specs.Boxes.Box.{Box}
use Rattle.shm_audit.proofs.Tellings.{Follows, after-both, box_at, follows}
use Rattle.shm_audit.specs.Entered.{box_after_all}
use Rattle.shm_audit.specs.Lived.{steps_in_lives, told_in_lives}
use Rattle.shm_audit.specs.Told.{ToldStep, told_at, told_by_step}

-- ---- what is recorded

-- entries, each with a line that a journal may have, whose steps are exactly those of the lives
pub record Recorded (node : Node) (lives : List (List Event)) (text : List ℕ) : Type 0 where
  pub entries : List Entry
  pub fit : AreFit entries
  pub is : text ≡ entries_text entries
  pub steps : all_steps entries ≡ steps_in_lives node lives

fit-both : (xs ys : List Entry) → AreFit xs → AreFit ys → AreFit (xs ++ ys)
fit-both [] ys first rest = rest
fit-both (x ∷ xs) ys first rest = (first.0, fit-both xs ys first.1 rest)

pub lives_recorded : (lives : List (List Event)) (node : Node) (text : List ℕ) → IsLives node lives text → Recorded node lives text
lives_recorded [] node text is = record { entries = []; fit = tt; is = is; steps = refl }
lives_recorded (life ∷ lives) node text is =
    let one = is.3 in
    let others = lives_recorded lives (kept (after_events node life)) is.1 is.4 in record {
      entries = one.entries ++ others.entries;
      fit = fit-both one.entries others.entries (entries_fit one.entries one.are one.taken) others.fit;
      is =
          is.2 ∙ ap (λ t. t ++ is.1) one.is ∙ ap (λ t. entries_text one.entries ++ t) others.is
          ∙ sym (text-both one.entries others.entries);
      steps =
          steps_both one.entries others.entries ∙ ap (λ s. s ++ all_steps others.entries) one.steps
          ∙ ap (λ s. entries_of node life ++ s) others.steps;
    }

-- ---- what a box logs of it

-- some steps, and then others
both-follow : (box : Box) (xs ys : List Entry) (middle final : Node) (pages : ℕ) (log : List Logged) (first rest : List ToldStep)
    → (f : Follows box xs middle pages log first) → Follows (box_at middle pages (log ++ f.logged)) ys final pages (log ++ f.logged) rest
    → Follows box (xs ++ ys) final pages log (first ++ rest)
both-follow box xs ys middle final pages log first rest f g = record {
  logged = f.logged ++ g.logged;
  goes =
      after-both xs ys box ∙ ap (option_and_then (λ next. box_after_all next ys)) f.goes ∙ g.goes
      ∙ ap (λ l. Some (box_at final pages l)) (append_assoc log f.logged g.logged);
  tells =
      map-append told_by_step f.logged g.logged ∙ ap (λ ts. ts ++ map told_by_step g.logged) f.tells ∙ ap (λ ts. first ++ ts) g.tells;
}

pub lives_follow : (lives : List (List Event)) (node : Node) (pages : ℕ) (log : List Logged)
    → Follows (box_at node pages log) (steps_in_lives node lives) (after_lives node lives) pages log (told_in_lives node lives)
lives_follow [] node pages log = follows node pages log []
lives_follow (life ∷ lives) node pages log =
    let next = kept (after_events node life) in
    let first = follows node pages log life in
    both-follow (box_at node pages log) (entries_of node life) (steps_in_lives next lives) (after_events node life) (after_lives next lives) pages log
    (told_at node life) (told_in_lives next lives) first (lives_follow lives next pages (log ++ first.logged))
