-- The world: all sites, every envelope ever sent, and which are gone. The network loses, repeats and reorders what it likes; it changes
-- and invents nothing.
use Rattle.std.specs.Prelude.{ℕ, ◌≤◌, Bool, true, false, List, [], ◌∷◌, ◌++◌, Option, Some, None, ◌*◌, ◌==◌, nat_lt, if◌then◌else◌, length, map, slice_get, slice_set}
use Rattle.std.specs.List.{range_with_len}
use Rattle.shm_place.specs.Limits.{max_frames, page_bytes, pages as max_pages}
use Rattle.shm_model.specs.declared.answer.Answer.{Answer}
use Rattle.shm_model.specs.declared.answer.Answer.TheVariants.{Took, Refused}
use Rattle.shm_model.specs.declared.event.Event.{Event}
use Rattle.shm_model.specs.declared.event.Event.TheVariants.{Load as LoadEvent, Store as StoreEvent, Begin as BeginEvent, Tick as TickEvent, Restart as RestartEvent, Deliver as DeliverEvent, Repeat, Lose}
use Rattle.shm_model.specs.Basics.{at, max_sent}
use Rattle.shm_model.specs.Book.{max_sites}
use Rattle.shm_model.specs.Permission.{Segment}
use Rattle.shm_model.specs.Refusal.{no_such_site, no_such_message, numbers_used_up}
use Rattle.shm_model.specs.Message.{Envelope, Input, Load, Store, Begin, Deliver, Tick, Restart}
use Rattle.shm_model.specs.Calls.{Attachment}
use Rattle.shm_model.specs.Site.{Site, new_site, Step}
use Rattle.shm_model.specs.Step.{step}

-- How a world begins: with no segment; with segment 0 of so many pages, attached everywhere; or that, with so many frames at each site.
pub data Opening : Type 0 where
  New : ℕ → Opening
  Preset : ℕ → ℕ → Opening
  Framed : ℕ → ℕ → ℕ → Opening

abbrev pub sites_of : Opening → ℕ
sites_of (New n) = n
sites_of (Preset n _) = n
sites_of (Framed n _ _) = n

-- the numbers that an opening may have
abbrev pub IsOpening : Opening → Type 0
IsOpening (New n) = (1 ≤ n) × (n ≤ max_sites)
IsOpening (Preset n pages) = (1 ≤ n) × (n ≤ max_sites) × (1 ≤ pages) × (pages ≤ max_pages)
IsOpening (Framed n pages frames) = (1 ≤ n) × (n ≤ max_sites) × (1 ≤ pages) × (pages ≤ max_pages) × (1 ≤ frames) × (frames ≤ max_frames)

-- segment 0 belongs to user and group 0 and everyone may read and write it (octal 666)
abbrev pub preset_segment : ℕ → ℕ → Segment
preset_segment sites pages = record {
  id = 0;
  key = 0;
  uid = 0;
  gid = 0;
  cuid = 0;
  cgid = 0;
  mode = 438;
  size = page_bytes * pages;
  nattch = sites;
  marked = false;
}

abbrev pub preset_table : ℕ → ℕ → ℕ → List Segment
preset_table sites pages me = if me == 0 then preset_segment sites pages ∷ [] else []

abbrev pub preset_attachment : ℕ → Attachment
preset_attachment pages = record { id = 0; size = page_bytes * pages; ro = false }

abbrev pub preset_site : ℕ → ℕ → ℕ → Site
preset_site sites pages me = record (new_site sites me) {
  attachments = at (λ _. None) 0 (Some (preset_attachment pages));
  table = preset_table sites pages me;
}

abbrev pub opened_site : Opening → ℕ → Site
opened_site (New n) me = new_site n me
opened_site (Preset n pages) me = preset_site n pages me
opened_site (Framed n pages frames) me = record (preset_site n pages me) { frames = Some (record { limit = frames; copies = [] }) }

-- `sent` has every envelope ever sent, numbered from 0; `gone` those that were delivered or lost
pub record World : Type 0 where
  pub count : ℕ
  pub sites : List Site
  pub sent : List Envelope
  pub gone : ℕ → Bool

abbrev pub opened : Opening → World
opened o = record { count = sites_of o; sites = map (opened_site o) (range_with_len 0 (sites_of o)); sent = []; gone = λ _. false }

-- What became of an event: where, the input that the site was stepped with, if any, and the answer. A delivery's input has the envelope.
pub record Done : Type 0 where
  pub site : ℕ
  pub input : Option Input
  pub answer : Answer

pub record Next : Type 0 where
  pub world : World
  pub done : Done

abbrev pub unstepped : World → ℕ → Answer → Next
unstepped w s answer = record { world = w; done = record { site = s; input = None; answer = answer } }

-- past that nothing is stepped any more
abbrev pub is_full : World → Bool
is_full w = nat_lt max_sent (length w.sent)

abbrev pub stepped : World → ℕ → Input → Step → Next
stepped w s input done = record {
  world = record w { sites = slice_set w.sites s done.site; sent = w.sent ++ done.sent };
  done = record { site = s; input = Some input; answer = done.answer };
}

abbrev pub step_site : Option Site → World → ℕ → Input → Next
step_site None w s input = unstepped w s (Refused no_such_site)
step_site (Some site) w s input =
    if is_full w then unstepped w s (Refused numbers_used_up)
    else stepped w s input (step w.count s site input)

abbrev pub step_at : World → ℕ → Input → Next
step_at w s input = step_site (slice_get w.sites s) w s input

abbrev pub without : World → ℕ → World
without w k = record w { gone = at w.gone k true }

abbrev pub live : World → ℕ → Option Envelope
live w k = if w.gone k then None else slice_get w.sent k

abbrev pub hand_over : Option Envelope → World → Next
hand_over None w = unstepped w 0 (Refused no_such_message)
hand_over (Some e) w = step_at w e.to (Deliver e)

abbrev pub deliver : Option Envelope → World → ℕ → Next
deliver None w k = unstepped w 0 (Refused no_such_message)
deliver (Some e) w k = step_at (without w k) e.to (Deliver e)

abbrev pub lose : Option Envelope → World → ℕ → Next
lose None w k = unstepped w 0 (Refused no_such_message)
lose (Some e) w k = unstepped (without w k) 0 Took

abbrev pub next : World → Event → Next
next w (LoadEvent s a offset) = step_at w s (Load a offset)
next w (StoreEvent s a offset byte) = step_at w s (Store a offset byte)
next w (BeginEvent s request) = step_at w s (Begin request)
next w (TickEvent s) = step_at w s Tick
next w (RestartEvent s) = step_at w s Restart
next w (DeliverEvent k) = deliver (live w k) w k
next w (Repeat k) = hand_over (live w k) w
next w (Lose k) = lose (live w k) w k

-- a run: the world after the events, and the account of them, the newest first
pub record Run : Type 0 where
  pub world : World
  pub account : List Done

abbrev pub extended : Run → Next → Run
extended r n = record { world = n.world; account = n.done ∷ r.account }

abbrev pub run_on : Run → List Event → Run
run_on r [] = r
run_on r (e ∷ es) = run_on (extended r (next r.world e)) es

abbrev pub begun : Opening → Run
begun o = record { world = opened o; account = [] }

abbrev pub run : Opening → List Event → Run
run o events = run_on (begun o) events
