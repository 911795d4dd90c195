-- A run that is told event by event.
use Rattle.std.proofs.Common.{◌≡◌, ◌∙◌, ℕ, ◌+◌, List, [], ◌∷◌, ◌++◌, codes, drop, length, Result, OnOk, refl, sym, ap, append_assoc, append-nil}
use Rattle.shm_place.specs.declared.page_id.PageId.{PageId}
use Rattle.shm_model.specs.declared.answer.Answer.{Answer}
use Rattle.shm_model.specs.declared.event.Event.{Event}
use Rattle.shm_model.specs.World as model
use Rattle.shm_world.specs.World.{StandsFor}
use Rattle.shm_world.specs.declared.world.World.{World}
use Rattle.shm_text.specs.Text.{line_text}
use Rattle.shm_debug.specs.Sent.{event_text}
use Rattle.shm_debug.proofs.Booked.{on_ok-then}
use Rattle.shm_steps.specs.Section.{world_text}
use Rattle.shm_steps.specs.Stepping.{ToldStep}
use Rattle.shm_steps.specs.Steps.{line_head, section_text, sections_text}
use Rattle.shm_steps.proofs.InARow.{four_told}

-- a step, from its texts in a row
pub step_told : {A X Y : Type 0} (r : Result X Y) (pages : List PageId) (w : model.World) (number : ℕ) (e : Event) (old one two three new : List ℕ) (world : World A)
    (answer : Answer) (sent : ℕ) → StandsFor world (model.next w e).world → answer ≡ (model.next w e).done.answer → sent ≡ length w.sent
    → one ≡ old ++ line_head number e → two ≡ one ++ line_text (number + 1) (event_text answer (model.next w e).world sent) → three ≡ two ++ codes "</pre>\n"
    → OnOk r (new ≡ three ++ world_text pages (model.next w e).world) → OnOk r (ToldStep pages w number e old new world)
step_told r pages w number e old one two three new world answer sent stands same count e1 e2 e3 e4 =
    let after = (model.next w e).world in
    let said = (model.next w e).done.answer in
    on_ok-then r (λ told. record { text = told; stands = stands })
    (four_told r old one two three new (line_head number e) (line_text (number + 1) (event_text said after (length w.sent))) (codes "</pre>\n") (world_text pages after)
    e1
    (e2 ∙ ap (λ a. one ++ line_text (number + 1) (event_text a after sent)) same ∙ ap (λ n. one ++ line_text (number + 1) (event_text said after n)) count)
    e3 e4)

-- so many of the events are told
pub record Stepping {A : Type 0} (pages : List PageId) (w : model.World) (events : List Event) (old new : List ℕ) (world : World A) (index : ℕ) : Type 0 where
  pub here : model.World
  pub stands : StandsFor world here
  pub text : new ++ sections_text pages here (index + 1) (drop index events) ≡ old ++ sections_text pages w 1 events

pub stepping_none : {A : Type 0} (pages : List PageId) (w : model.World) (events : List Event) (old : List ℕ) (world : World A) → StandsFor world w
    → Stepping pages w events old old world 0
stepping_none pages w events old world stands = record { here = w; stands = stands; text = refl }

pub stepping_more : {A : Type 0} (pages : List PageId) (w : model.World) (events : List Event) (old now new : List ℕ) (world world' : World A) (index : ℕ) (e : Event)
    → Stepping pages w events old now world index → drop index events ≡ e ∷ drop (index + 1) events
    → ((here : model.World) → StandsFor world here → ToldStep pages here (index + 1) e now new world')
    → Stepping pages w events old new world' (index + 1)
stepping_more pages w events old now new world world' index e had dropped told =
    let here = had.here in
    let step = told had.here had.stands in
    let rest = drop (index + 1) events in
    record {
      here = (model.next had.here e).world;
      stands = step.stands;
      text = ap (λ t. t ++ sections_text pages (model.next here e).world (index + 1 + 1) rest) step.text
          ∙ append_assoc now (section_text pages here (index + 1) e) (sections_text pages (model.next here e).world (index + 1 + 1) rest)
          ∙ ap (λ es. now ++ sections_text pages here (index + 1) es) (sym dropped)
          ∙ had.text;
    }

pub stepping_all : {A : Type 0} (pages : List PageId) (w : model.World) (events : List Event) (old new : List ℕ) (world : World A) (index : ℕ) → drop index events ≡ []
    → Stepping pages w events old new world index → new ≡ old ++ sections_text pages w 1 events
stepping_all pages w events old new world index none had =
    sym (append-nil new) ∙ ap (λ es. new ++ sections_text pages had.here (index + 1) es) (sym none) ∙ had.text
