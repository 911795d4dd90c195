-- Which pages a run touches, event by event.
use Rattle.std.proofs.Common.{◌≡◌, ◌∙◌, ℕ, ◌+◌, List, [], ◌∷◌, drop, refl, sym, ap, subst}
use Rattle.shm_place.specs.declared.page_id.PageId.{PageId}
use Rattle.shm_model.specs.declared.event.Event.{Event}
use Rattle.shm_model.specs.World as model
use Rattle.shm_world.specs.World.{StandsFor}
use Rattle.shm_world.specs.declared.world.World.{World}
use Rattle.shm_draw.specs.Picture.{about, touched, with_page}

-- the pages of so many of the events are noted
pub record Touching {A : Type 0} (w : model.World) (events : List Event) (old new : List PageId) (world : World A) (index : ℕ) : Type 0 where
  pub here : model.World
  pub stands : StandsFor world here
  pub same : touched here (drop index events) new ≡ touched w events old

pub touching_none : {A : Type 0} (w : model.World) (events : List Event) (old : List PageId) (world : World A) → StandsFor world w → Touching w events old old world 0
touching_none w events old world stands = record { here = w; stands = stands; same = refl }

pub touching_more : {A : Type 0} (w : model.World) (events : List Event) (old now new : List PageId) (world world' : World A) (index : ℕ) (e : Event)
    → (had : Touching w events old now world index) → drop index events ≡ e ∷ drop (index + 1) events → new ≡ with_page (about had.here e) now
    → StandsFor world' (model.next had.here e).world → Touching w events old new world' (index + 1)
touching_more w events old now new world world' index e had dropped more stands = record {
  here = (model.next had.here e).world;
  stands = stands;
  same = ap (touched (model.next had.here e).world (drop (index + 1) events)) more ∙ ap (λ es. touched had.here es now) (sym dropped) ∙ had.same;
}

pub touching_all : {A : Type 0} (w : model.World) (events : List Event) (old new : List PageId) (world : World A) (index : ℕ) → drop index events ≡ []
    → Touching w events old new world index → new ≡ touched w events old
touching_all w events old new world index none had = ap (λ es. touched had.here es new) (sym none) ∙ had.same
