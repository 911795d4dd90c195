-- What is drawn on a page's picture is of an event about that page, or about none.
use Rattle.std.proofs.Common.{◌≡◌, ℕ, Bool, true, false, List, Option, Some, None, refl, subst, if◌then◌else◌, nat_lt}
use Rattle.shm_place.specs.declared.page_id.PageId.{PageId}
use Rattle.shm_place.specs.Page.{same_page}
use Rattle.shm_model.specs.declared.event.Event.{Event}
use Rattle.shm_model.specs.declared.event.Event.TheVariants.{Load, Store, Begin, Tick, Restart, Deliver, Repeat, Lose}
use Rattle.shm_model.specs.Message.{Envelope}
use Rattle.shm_model.specs.World.{World, live}
use Rattle.shm_draw.specs.Arrows.{BelongsTo}
use Rattle.shm_draw.specs.Picture.{about, is_of, mark, mark_on, own_mark, passed}
use Rattle.shm_draw.specs.declared.mark_kinds.End.{End}
use Rattle.shm_draw.specs.declared.mark_kinds.End.TheVariants.{HandedOver, Repeated, Lost}
use Rattle.shm_draw.specs.declared.mark_kinds.Mark.{Mark}
use Rattle.shm_draw.specs.declared.mark_kinds.Mark.TheVariants.{At, Arrow, Elsewhere, Nowhere}
use Rattle.shm_draw.specs.declared.mark_kinds.Symbol.{Symbol}
use Rattle.shm_draw.specs.declared.mark_kinds.Symbol.TheVariants.{Request, Tick as TickSymbol, Restart as RestartSymbol}

-- no other page is named
abbrev IsOwn : Mark → Type 0
IsOwn (At site y) = Unit {0}
IsOwn (Arrow way end) = Unit {0}
IsOwn (Elsewhere page) = ⊥
IsOwn Nowhere = Unit {0}

own_there : (page : PageId) (of : Option PageId) (m : Mark) → is_of page of ≡ true → IsOwn m → BelongsTo page of m
own_there page of (At site y) h own = h
own_there page of (Arrow way end) h own = h
own_there page of (Elsewhere other) h own = absurd own
own_there page of Nowhere h own = h

belongs : (page : PageId) (of : Option PageId) (m : Mark) → IsOwn m → BelongsTo page of (mark_on page of m)
belongs page None m own = own_there page None m refl own
belongs page (Some other) m own = picked (same_page page other) refl
  where
    picked : (b : Bool) → same_page page other ≡ b → BelongsTo page (Some other) (if b then m else Elsewhere other)
    picked true h = own_there page (Some other) m h own
    picked false h = (refl, h)

own_at : (b : Bool) (site : ℕ) (y : Symbol) → IsOwn (if b then At site y else Nowhere)
own_at true site y = tt
own_at false site y = tt

own_passed : (origins : List ℕ) (k : ℕ) (found : Option Envelope) (end : End) → IsOwn (passed origins k found end)
own_passed origins k None end = tt
own_passed origins k (Some e) end = tt

is_own : (w : World) (origins : List ℕ) (event : Event) → IsOwn (own_mark w origins event)
is_own w origins (Load site at offset) = own_at (nat_lt site w.count) site Request
is_own w origins (Store site at offset byte) = own_at (nat_lt site w.count) site Request
is_own w origins (Begin site request) = own_at (nat_lt site w.count) site Request
is_own w origins (Tick site) = own_at (nat_lt site w.count) site TickSymbol
is_own w origins (Restart site) = own_at (nat_lt site w.count) site RestartSymbol
is_own w origins (Deliver k) = own_passed origins k (live w k) HandedOver
is_own w origins (Repeat k) = own_passed origins k (live w k) Repeated
is_own w origins (Lose k) = own_passed origins k (live w k) Lost

pub belongs_there : (page : PageId) (w v : World) (origins : List ℕ) (event : Event) → w ≡ v → BelongsTo page (about v event) (mark page w origins event)
belongs_there page w v origins event same =
    subst (λ (x : World). BelongsTo page (about x event) (mark page w origins event)) same
    (belongs page (about w event) (own_mark w origins event) (is_own w origins event))
