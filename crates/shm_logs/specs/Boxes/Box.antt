-- A site in its box, which logs every step that it makes; and what taking an input makes of it.
use Rattle.std.specs.Prelude.{ℕ, ◌+◌, Bool, true, false, ◌||◌, List, [], ◌∷◌, ◌++◌, Option, Some, None, ◌==◌, if◌then◌else◌, length, max}
use Rattle.shm_model.specs.Log.{Logged, Stamp}
use Rattle.shm_model.specs.Message.{Deliver, Input}
use Rattle.shm_model.specs.Receipt as model
use Rattle.shm_model.specs.Refusal.{clock_end, foreign_message, out_of_memory}
use Rattle.shm_model.specs.Site.{Site}
use Rattle.shm_model.specs.Step.{step}
use Rattle.shm_model.specs.World.{Preset, opened_site}
use Rattle.shm_site.specs.Step.{is_foreign, may_grow}
use Rattle.shm_logs.specs.declared.site_boxes.box_error.BoxFault.{BoxFault}
use Rattle.shm_logs.specs.declared.site_boxes.box_error.BoxFault.TheVariants as fault

-- how many sites there are, which one this is, and how many pages segment 0 began with; the site as it stands, its log, and its clock
pub record Box : Type 0 where
  pub sites : ℕ
  pub me : ℕ
  pub pages : ℕ
  pub site : Site
  pub log : List Logged
  pub clock : ℕ

-- a box in which nothing has happened
abbrev pub new_box : ℕ → ℕ → ℕ → Box
new_box sites me pages = record {
  sites = sites;
  me = me;
  pages = pages;
  site = opened_site (Preset sites pages) me;
  log = [];
  clock = 0;
}

-- the stamp of the last step, or this where there is none
abbrev pub last_stamp_or : ℕ → List Logged → ℕ
last_stamp_or clock [] = clock
last_stamp_or clock (l ∷ ls) = last_stamp_or l.stamp ls

-- a clock doesn't go past this
abbrev pub greatest_stamp : ℕ
greatest_stamp = 18446744073709551615

-- the clock's next stamp: above the box's steps, and above the step which sent what is handed over
abbrev pub next_stamp : ℕ → Stamp → ℕ
next_stamp clock source = max clock source.at + 1

-- why an input isn't taken, where that isn't for want of memory
abbrev pub refusal : Box → Input → Stamp → Option BoxFault
refusal box input source =
    if is_foreign box.sites box.me input then Some fault.Foreign
    else (if max box.clock source.at == greatest_stamp then Some fault.ClockEnd else None)

-- an envelope is handed over
abbrev pub is_delivery : Input → Bool
is_delivery (Deliver _) = true
is_delivery _ = false

-- whether memory may be missing beside that for the log: an envelope is copied into it, and the site's step may need some
abbrev pub needs_memory : Box → Input → Bool
needs_memory box input = is_delivery input || may_grow box.sites box.me box.site input

-- the step that the box logs
abbrev pub taken : Box → Input → Stamp → Logged
taken box input source =
    let done = step box.sites box.me box.site input in
    record { input = input; stamp = next_stamp box.clock source; source = source; answer = done.answer; sent = done.sent }

abbrev pub after : Box → Input → Stamp → Box
after box input source = record box {
  site = (step box.sites box.me box.site input).site;
  log = box.log ++ taken box input source ∷ [];
  clock = next_stamp box.clock source;
}

-- what is told of that step
abbrev pub receipt : Box → Input → model.Receipt
receipt box input = record {
  site = box.me;
  index = length box.log;
  asked = model.access input;
  answer = (step box.sites box.me box.site input).answer;
}

abbrev pub box_fault_number : BoxFault → ℕ
box_fault_number fault.Foreign = foreign_message
box_fault_number fault.ClockEnd = clock_end
box_fault_number fault.OutOfMemory = out_of_memory
